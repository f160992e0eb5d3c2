-- What one action adds to the cost of a list.
use Rattle.std.proofs.Common.{◌≡◌, ◌==◌, ℕ, zero, suc, ◌+◌, ◌-◌, ◌*◌, ◌<◌, false, cond, List, [], ◌∷◌, map, get_or, refl, sym, ap, ◌∙◌, arith}
use Rattle.std.specs.List.{sum_by, enumerate_from}
use Rattle.std.proofs.lemmas.List.Sums.{sum_by-cons}
use Rattle.std.proofs.lemmas.Bool.{ne_eqb, eq-eqb}
use Rattle.plan_types.specs.declared.action.Keep.TheVariants.{Nothing, Store, Tape}
use Rattle.plan_types.specs.declared.action.Dest.TheVariants.{Work}
use Rattle.plan_types.specs.declared.action.Action.{Action}
use Rattle.plan_types.specs.declared.action.Action.TheVariants.{Forward, Reverse, Copy, Move, EndForward, EndReverse}
use Rattle.level_book.specs.declared.book.Level.{Level}
use Rattle.level_book.specs.BookCosts.{BookCosts}
use Rattle.level_book.specs.CostFold.{steps_of, is_reversed, is_write, is_read, writes, reads, cost}
use Rattle.level_book.specs.UnderTable.{write_cost, read_cost}

-- what the levels cost in a list, and in one action
abbrev level_costs : List Action → ℕ → List Level → ℕ
level_costs list first levels = sum_by (λ level. writes level.0 list * level.1.write + reads level.0 list * level.1.read) (enumerate_from first levels)

abbrev own_costs : Action → ℕ → List Level → ℕ
own_costs a first [] = 0
own_costs a first (l ∷ levels) = cond (is_write first a) 1 0 * l.write + cond (is_read first a) 1 0 * l.read + own_costs a (first + 1) levels

regroup : (w' r' x w r y cw cr own lw lr : ℕ) → w' ≡ cw + w → r' ≡ cr + r → x ≡ own + y →
    w' * lw + r' * lr + x ≡ (cw * lw + cr * lr + own) + (w * lw + r * lr + y)
regroup w' r' x w r y cw cr own lw lr e f g = (λ i. e i * lw + f i * lr + g i) ∙ omega arith

level_costs_more : (a : Action) (rest : List Action) (first : ℕ) (levels : List Level) → level_costs (a ∷ rest) first levels ≡ own_costs a first levels + level_costs rest first levels
level_costs_more a rest first [] = refl
level_costs_more a rest first (l ∷ levels) =
    sum_by-cons (λ level. writes level.0 (a ∷ rest) * level.1.write + reads level.0 (a ∷ rest) * level.1.read) (first, l) (enumerate_from (first + 1) levels)
    ∙ regroup (writes first (a ∷ rest)) (reads first (a ∷ rest)) (level_costs (a ∷ rest) (first + 1) levels) (writes first rest) (reads first rest) (level_costs rest (first + 1) levels)
    (cond (is_write first a) 1 0) (cond (is_read first a) 1 0) (own_costs a (first + 1) levels) l.write l.read
    (sum_by-cons (λ b. cond (is_write first b) 1 0) a rest) (sum_by-cons (λ b. cond (is_read first b) 1 0) a rest) (level_costs_more a rest (first + 1) levels)
    ∙ ap (λ n. own_costs a first (l ∷ levels) + n) (sym (sum_by-cons (λ level. writes level.0 rest * level.1.write + reads level.0 rest * level.1.read) (first, l) (enumerate_from (first + 1) levels)))

-- one action more
cost_more : (a : Action) (rest : List Action) (book : BookCosts) →
    cost (a ∷ rest) book ≡ steps_of a * book.forward + cond (is_reversed a) 1 0 * book.reverse + own_costs a 0 book.levels + cost rest book
cost_more a rest book =
    let f = sum_by-cons steps_of a rest in
    let r = sum_by-cons (λ b. cond (is_reversed b) 1 0) a rest in
    let l = level_costs_more a rest 0 book.levels in
    (λ i. f i * book.forward + r i * book.reverse + l i) ∙ omega arith

-- a level's own share, in a list of levels that begins with level `first`
abbrev share : (Level → ℕ) → ℕ → ℕ → List Level → ℕ
share c k first [] = 0
share c k first (l ∷ levels) = cond (k == first) 1 0 * c l + share c k (first + 1) levels

share_before : (c : Level → ℕ) (k first : ℕ) (levels : List Level) → k < first → share c k first levels ≡ 0
share_before c k first [] h = refl
share_before c k first (l ∷ levels) h =
    let rest = share_before c k (first + 1) levels (omega arith) in
    ap (λ b. cond b 1 0 * c l + share c k (first + 1) levels) (ne_eqb k first (λ e. absurd (omega arith))) ∙ omega arith

-- the share is the level's is_number
share_is : (c : Level → ℕ) (k first : ℕ) (levels : List Level) → share c (k + first) first levels ≡ get_or (map c levels) k 0
share_is c k first [] = refl
share_is c zero first (l ∷ levels) =
    let rest = share_before c (0 + first) (first + 1) levels (omega arith) in
    ap (λ b. cond b 1 0 * c l + share c (0 + first) (first + 1) levels) (eq-eqb (0 + first) first (omega arith)) ∙ omega arith
share_is c (suc k) first (l ∷ levels) =
    let e : suc k + first ≡ k + (first + 1) = omega arith in
    ap (λ b. cond b 1 0 * c l + share c (suc k + first) (first + 1) levels) (ne_eqb (suc k + first) first (λ e. absurd (omega arith)))
    ∙ omega arith
    ∙ ap (λ n. share c n (first + 1) levels) e
    ∙ share_is c k (first + 1) levels

share_whole : (c : Level → ℕ) (k : ℕ) (levels : List Level) → share c k 0 levels ≡ get_or (map c levels) k 0
share_whole c k levels = ap (λ n. share c n 0 levels) (omega arith) ∙ share_is c k 0 levels

own_none : (a : Action) (first : ℕ) (levels : List Level) → ((k : ℕ) → is_write k a ≡ false) → ((k : ℕ) → is_read k a ≡ false) → own_costs a first levels ≡ 0
own_none a first [] w r = refl
own_none a first (l ∷ levels) w r =
    let rest = own_none a (first + 1) levels w r in
    (λ i. cond (w first i) 1 0 * l.write + cond (r first i) 1 0 * l.read + own_costs a (first + 1) levels) ∙ omega arith

own_write : (a : Action) (k first : ℕ) (levels : List Level) → ((j : ℕ) → is_write j a ≡ (k == j)) → ((j : ℕ) → is_read j a ≡ false) → own_costs a first levels ≡ share (λ l. l.write) k first levels
own_write a k first [] w r = refl
own_write a k first (l ∷ levels) w r =
    let rest = own_write a k (first + 1) levels w r in
    (λ i. cond (w first i) 1 0 * l.write + cond (r first i) 1 0 * l.read + rest i) ∙ omega arith

own_read : (a : Action) (k first : ℕ) (levels : List Level) → ((j : ℕ) → is_write j a ≡ false) → ((j : ℕ) → is_read j a ≡ (k == j)) → own_costs a first levels ≡ share (λ l. l.read) k first levels
own_read a k first [] w r = refl
own_read a k first (l ∷ levels) w r =
    let rest = own_read a k (first + 1) levels w r in
    (λ i. cond (w first i) 1 0 * l.write + cond (r first i) 1 0 * l.read + rest i) ∙ omega arith

-- the actions of a nested list
pub cost_forward : (from to : ℕ) (rest : List Action) (book : BookCosts) → cost (Forward from to Nothing ∷ rest) book ≡ (to - from) * book.forward + cost rest book
cost_forward from to rest book = cost_more (Forward from to Nothing) rest book ∙ omega (arith, own_none (Forward from to Nothing) 0 book.levels (λ _. refl) (λ _. refl))

pub cost_tape : (from to : ℕ) (rest : List Action) (book : BookCosts) → cost (Forward from to Tape ∷ rest) book ≡ (to - from) * book.forward + cost rest book
cost_tape from to rest book = cost_more (Forward from to Tape) rest book ∙ omega (arith, own_none (Forward from to Tape) 0 book.levels (λ _. refl) (λ _. refl))

pub cost_store : (from to k : ℕ) (rest : List Action) (book : BookCosts) → cost (Forward from to (Store k) ∷ rest) book ≡ write_cost book k + (to - from) * book.forward + cost rest book
cost_store from to k rest book =
    cost_more (Forward from to (Store k)) rest book
    ∙ omega (arith, own_write (Forward from to (Store k)) k 0 book.levels (λ _. refl) (λ _. refl) ∙ share_whole (λ l. l.write) k book.levels)

pub cost_reverse : (from to : ℕ) (rest : List Action) (book : BookCosts) → cost (Reverse from to ∷ rest) book ≡ book.reverse + cost rest book
cost_reverse from to rest book = cost_more (Reverse from to) rest book ∙ omega (arith, own_none (Reverse from to) 0 book.levels (λ _. refl) (λ _. refl))

pub cost_copy : (n k : ℕ) (rest : List Action) (book : BookCosts) → cost (Copy n k Work ∷ rest) book ≡ read_cost book k + cost rest book
cost_copy n k rest book = cost_more (Copy n k Work) rest book ∙ omega (arith, own_read (Copy n k Work) k 0 book.levels (λ _. refl) (λ _. refl) ∙ share_whole (λ l. l.read) k book.levels)

pub cost_move : (n k : ℕ) (rest : List Action) (book : BookCosts) → cost (Move n k Work ∷ rest) book ≡ read_cost book k + cost rest book
cost_move n k rest book = cost_more (Move n k Work) rest book ∙ omega (arith, own_read (Move n k Work) k 0 book.levels (λ _. refl) (λ _. refl) ∙ share_whole (λ l. l.read) k book.levels)

pub cost_end_forward : (rest : List Action) (book : BookCosts) → cost (EndForward ∷ rest) book ≡ cost rest book
cost_end_forward rest book = cost_more EndForward rest book ∙ omega (arith, own_none EndForward 0 book.levels (λ _. refl) (λ _. refl))

pub cost_end_reverse : (rest : List Action) (book : BookCosts) → cost (EndReverse ∷ rest) book ≡ cost rest book
cost_end_reverse rest book = cost_more EndReverse rest book ∙ omega (arith, own_none EndReverse 0 book.levels (λ _. refl) (λ _. refl))

level_none : (first : ℕ) (levels : List Level) → level_costs [] first levels ≡ 0
level_none first [] = refl
level_none first (l ∷ levels) =
    sum_by-cons (λ level. writes level.0 [] * level.1.write + reads level.0 [] * level.1.read) (first, l) (enumerate_from (first + 1) levels) ∙ omega (arith, level_none (first + 1) levels)

pub cost_nothing : (book : BookCosts) → cost [] book ≡ 0
cost_nothing book = omega (arith, level_none 0 book.levels)
