-- What a list with a level for each place costs.
use Rattle.std.proofs.Common.{◌≡◌, ◌==◌, ℕ, zero, suc, ◌+◌, ◌-◌, ◌*◌, ◌<◌, ◌≤◌, cond, List, [], ◌∷◌, refl, sym, ap, ◌∙◌, inl, inr, arith}
use Rattle.std.specs.List.{sum_by, count_by, enumerate_from}
use Rattle.std.proofs.lemmas.Bool.{cases_eq, ne_eqb, eq-eqb}
use Rattle.std.proofs.lemmas.List.Sums.{sum_by-cons, sum_by-append}
use Rattle.plan_types.specs.declared.action.Keep.TheVariants.{Nothing, Store, Tape}
use Rattle.plan_types.specs.declared.action.Action.{Action}
use Rattle.plan_types.specs.declared.action.Action.TheVariants.{Forward, Reverse, Copy, Move, EndForward, EndReverse}
use Rattle.level_book.specs.declared.book.Level.{Level}
use Rattle.level_book.specs.BookCosts.{BookCosts, total_room}
use Rattle.level_book.specs.CostFold.{is_write, is_read, forward, reversed, writes, reads, cost}
use Rattle.revolve_gen.specs.Stack.{stack_step, held_after, place, place_written, place_read, written, read, times, enough, places_used, on_level, placed}
use Rattle.revolve_gen.specs.Multistage.{place_cost, sum_below, either, CostIsByPlaces}
use Rattle.revolve_gen.proofs.StackPlaces.{levels_free, first_of_both, second_of_both}

-- sums over the numbers below a bound
pub below_same : (n : ℕ) (f g : ℕ → ℕ) → ((p : ℕ) → p < n → f p ≡ g p) → sum_below n f ≡ sum_below n g
below_same zero f g e = refl
below_same (suc n) f g e =
    let others = below_same n f g (λ p h. e p (omega arith)) in
    let last = e n (omega arith) in
    omega arith

below_none : (n : ℕ) → sum_below n (λ _. 0) ≡ 0
below_none zero = refl
below_none (suc n) = let e = below_none n in omega arith

pub below_add : (n : ℕ) (f g : ℕ → ℕ) → sum_below n (λ p. f p + g p) ≡ sum_below n f + sum_below n g
below_add zero f g = refl
below_add (suc n) f g = let e = below_add n f g in omega arith

-- one number alone
other_zero : (q p : ℕ) (f : ℕ → ℕ) → (q ≡ p → ⊥) → cond (q == p) 1 0 * f p ≡ 0
other_zero q p f ne = ap (λ c. cond c 1 0 * f p) (ne_eqb q p ne) ∙ omega arith

same_one : (q p : ℕ) (f : ℕ → ℕ) → q ≡ p → cond (q == p) 1 0 * f p ≡ f q
same_one q p f e = ap (λ c. cond c 1 0 * f p) (eq-eqb q p e) ∙ (let h = ap f e in omega arith)

below_one : (n q : ℕ) (f : ℕ → ℕ) → q < n → sum_below n (λ p. cond (q == p) 1 0 * f p) ≡ f q
below_one zero q f h = absurd (omega arith)
below_one (suc n) q f h = elim (cases_eq q n) [
  | inl e ↦
      let others = below_same n (λ p. cond (q == p) 1 0 * f p) (λ _. 0) (λ p less. other_zero q p f (λ i. absurd (omega arith))) in
      let none = below_none n in
      let this = same_one q n f e in
      omega arith
  | inr ne ↦
      let others = below_one n q f (omega arith) in
      let this = other_zero q n f ne in
      omega arith
]

-- A sum over a list of numbers is a sum over the numbers, each as often as it stands in the list.
pub by_number : (n : ℕ) (f : ℕ → ℕ) (qs : List ℕ) → enough qs ≤ n → sum_by f qs ≡ sum_below n (λ p. times p qs * f p)
by_number n f [] h = sym (below_same n (λ p. times p [] * f p) (λ _. 0) (λ p _. omega arith) ∙ below_none n)
by_number n f (q ∷ qs) h =
    let one = below_one n q f (omega arith) in
    let rest = by_number n f qs (omega arith) in
    let each = below_same n (λ p. times p (q ∷ qs) * f p) (λ p. cond (q == p) 1 0 * f p + times p qs * f p) (λ p _.
    ap (λ m. m * f p) (sum_by-cons (λ r. cond (r == p) 1 0) q qs) ∙ omega arith) in
    sum_by-cons f q qs ∙ (omega (arith, below_add n (λ p. cond (q == p) 1 0 * f p) (λ p. times p qs * f p)))

-- the writes and reads on a level are those of its places
write_here : (k : ℕ) (level : ℕ → ℕ) (h : ℕ) (a : Action) →
    cond (is_write k (on_level (level (place h (stack_step a))) a)) 1 0 ≡ count_by (λ p. level p == k) (place_written h (stack_step a))
write_here k level h (Forward from to Nothing) = refl
write_here k level h (Forward from to (Store j)) = sym (sum_by-cons (λ p. cond (level p == k) 1 0) h [] ∙ omega arith)
write_here k level h (Forward from to Tape) = refl
write_here k level h (Reverse from to) = refl
write_here k level h (Copy n from to) = refl
write_here k level h (Move n from to) = refl
write_here k level h EndForward = refl
write_here k level h EndReverse = refl

read_here : (k : ℕ) (level : ℕ → ℕ) (h : ℕ) (a : Action) →
    cond (is_read k (on_level (level (place h (stack_step a))) a)) 1 0 ≡ count_by (λ p. level p == k) (place_read h (stack_step a))
read_here k level h (Forward from to Nothing) = refl
read_here k level h (Forward from to (Store j)) = refl
read_here k level h (Forward from to Tape) = refl
read_here k level h (Reverse from to) = refl
read_here k level h (Copy n from to) = sym (sum_by-cons (λ p. cond (level p == k) 1 0) (h - 1) [] ∙ omega arith)
read_here k level h (Move n from to) = sym (sum_by-cons (λ p. cond (level p == k) 1 0) (h - 1) [] ∙ omega arith)
read_here k level h EndForward = refl
read_here k level h EndReverse = refl

writes_are : (k : ℕ) (level : ℕ → ℕ) (h : ℕ) (list : List Action) →
    writes k (placed level h list) ≡ count_by (λ p. level p == k) (written h list)
writes_are k level h [] = refl
writes_are k level h (a ∷ rest) =
    let next = held_after h (stack_step a) in
    sum_by-cons (λ b. cond (is_write k b) 1 0) (on_level (level (place h (stack_step a))) a) (placed level next rest)
    ∙ (λ i. write_here k level h a i + writes_are k level next rest i)
    ∙ sym (sum_by-append (λ p. cond (level p == k) 1 0) (place_written h (stack_step a)) (written next rest))

reads_are : (k : ℕ) (level : ℕ → ℕ) (h : ℕ) (list : List Action) →
    reads k (placed level h list) ≡ count_by (λ p. level p == k) (read h list)
reads_are k level h [] = refl
reads_are k level h (a ∷ rest) =
    let next = held_after h (stack_step a) in
    sum_by-cons (λ b. cond (is_read k b) 1 0) (on_level (level (place h (stack_step a))) a) (placed level next rest)
    ∙ (λ i. read_here k level h a i + reads_are k level next rest i)
    ∙ sym (sum_by-append (λ p. cond (level p == k) 1 0) (place_read h (stack_step a)) (read next rest))

-- over two levels
one_of_two : (fast slow : Level) (of : Level → ℕ) (l : ℕ) → l < 2 → cond (l == 0) 1 0 * of fast + cond (l == 1) 1 0 * of slow ≡ of (either fast slow l)
one_of_two fast slow of zero h = omega arith
one_of_two fast slow of (suc zero) h = omega arith
one_of_two fast slow of (suc (suc l)) h = absurd (omega arith)

by_level : (fast slow : Level) (of : Level → ℕ) (level : ℕ → ℕ) (n : ℕ) (qs : List ℕ) → enough qs ≤ n → ((p : ℕ) → p < n → level p < 2) →
    count_by (λ p. level p == 0) qs * of fast + count_by (λ p. level p == 1) qs * of slow ≡ sum_by (λ p. of (either fast slow (level p))) qs
by_level fast slow of level n [] h known = omega arith
by_level fast slow of level n (q ∷ qs) h known =
    let rest = by_level fast slow of level n qs (omega arith) known in
    let this = one_of_two fast slow of (level q) (known q (omega arith)) in
    let c = sum_by-cons (λ p. cond (level p == 0) 1 0) q qs in
    let d = sum_by-cons (λ p. cond (level p == 1) 1 0) q qs in
    (λ i. c i * of fast + d i * of slow) ∙ omega arith ∙ sym (sum_by-cons (λ p. of (either fast slow (level p))) q qs)

regroup : (w0 w1 r0 r1 fw sw fr sr x y c : ℕ) → w0 * fw + w1 * sw ≡ x → r0 * fr + r1 * sr ≡ y →
    c + (0 + (w0 * fw + r0 * fr) + (w1 * sw + r1 * sr)) ≡ c + (x + y)
regroup w0 w1 r0 r1 fw sw fr sr x y c e f = omega arith

-- of a list that has these levels
placed_cost : (fast slow : Level) (level : ℕ → ℕ) (list : List Action) (book : BookCosts) → book.levels ≡ fast ∷ slow ∷ [] → placed level 0 list ≡ list →
    ((p : ℕ) → p < places_used list → level p < 2) →
    cost list book ≡ forward list * book.forward + reversed list * book.reverse
    + sum_below (places_used list) (λ p. place_cost list (either fast slow (level p)) p)
placed_cost fast slow level list book two same known =
    let n = places_used list in
    let wr = written 0 list in
    let rd = read 0 list in
    let few_w : enough wr ≤ n = first_of_both wr rd n (omega arith) in
    let few_r : enough rd ≤ n = second_of_both wr rd n (omega arith) in
    let write_of : Level → ℕ = λ l. l.write in
    let read_of : Level → ℕ = λ l. l.read in
    let w = by_level fast slow write_of level n wr few_w known ∙ by_number n (λ p. write_of (either fast slow (level p))) wr few_w in
    let r = by_level fast slow read_of level n rd few_r known ∙ by_number n (λ p. read_of (either fast slow (level p))) rd few_r in
    let c = forward list * book.forward + reversed list * book.reverse in
    let w0 = sym (ap (writes 0) same) ∙ writes_are 0 level 0 list in
    let w1 = sym (ap (writes 1) same) ∙ writes_are 1 level 0 list in
    let r0 = sym (ap (reads 0) same) ∙ reads_are 0 level 0 list in
    let r1 = sym (ap (reads 1) same) ∙ reads_are 1 level 0 list in
    ap (λ ls. c + sum_by (λ level. writes level.0 list * level.1.write + reads level.0 list * level.1.read) (enumerate_from 0 ls)) two
    ∙ (λ i. c + (0 + (w0 i * fast.write + r0 i * fast.read) + (w1 i * slow.write + r1 i * slow.read)))
    ∙ regroup _ _ _ _ fast.write slow.write fast.read slow.read _ _ c w r
    ∙ ap (λ m. c + m) (sym (below_add n (λ p. times p wr * write_of (either fast slow (level p))) (λ p. times p rd * read_of (either fast slow (level p)))))

pub by_places : (steps : ℕ) (book : BookCosts) → CostIsByPlaces steps book
by_places steps book fast slow level list two has =
    let c = total_room book steps in
    let same : placed level 0 list ≡ list = ap (placed level 0) has.is ∙ levels_free steps c level level ∙ sym has.is in
    placed_cost fast slow level list book two same has.known
