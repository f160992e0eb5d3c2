-- The laws over moves, rules and valid lists.
use Rattle.std.proofs.Common.{◌≡◌, ◌↔◌, ℕ, zero, suc, ◌-◌, ◌<◌, ◌≤◌, true, false, List, [], ◌∷◌, length, take, refl, sym, ◌∙◌, ap, subst, inl, inr, arith, Option, Some, None, true≢false}
use Rattle.std.specs.List.{slice_get}
use Rattle.std.proofs.lemmas.Bool.{cases_order}
use Rattle.plan_types.specs.declared.action.Keep.TheVariants.{Nothing, Store, Tape}
use Rattle.plan_types.specs.declared.action.Dest.TheVariants.{Work, Level}
use Rattle.plan_types.specs.declared.action.Action.{Action}
use Rattle.plan_types.specs.declared.action.Action.TheVariants.{Forward, Reverse, Copy, Move, EndForward, EndReverse}
use Rattle.level_book.specs.declared.book.Slots.{Slots}
use Rattle.level_book.specs.Configuration.{Configuration, start}
use Rattle.level_book.specs.Moves.{Goes}
use Rattle.level_book.specs.Rules.{rule, level_refused}
use Rattle.level_book.specs.Valid.{Leads, Valid, BreaksRule, BrokenAt}
use Rattle.schedule_rules.specs.Transitions.{after}
use Rattle.schedule_rules.specs.Reachability.{IsReached}
use Rattle.schedule_rules.specs.Laws.{RulesAreMoves, EndReverseIsLast, FirstBrokenIsUnique, ValidIsUnbroken}
use Rattle.schedule_rules.proofs.MovesByRules.{goes, goes_after, unbroken}
use Rattle.schedule_rules.proofs.Reachability.{leads_unique, sound_on, sound_start}
use Rattle.schedule_rules.proofs.VerdictReasons.{kept_on_the_way}

pub rules_moves_within : (steps : ℕ) (slots : List Slots) (c : Configuration) (a : Action) → RulesAreMoves steps slots c a
rules_moves_within steps slots c a within = (λ e. (after c a, goes steps slots c a e), λ g. unbroken steps slots c a g.0 within g.1)

-- so it is at each configuration that is reached
pub rules_moves : (steps : ℕ) (slots : List Slots) (c : Configuration) (a : Action) → IsReached steps slots c →
    (rule steps slots c a ≡ 0) ↔ ((d : Configuration) × Goes steps slots c a d)
rules_moves steps slots c a reached =
    rules_moves_within steps slots c a (sound_on steps slots (start steps slots) reached.0 c (sound_start steps slots) reached.1).within

-- nothing is done after the end
not_ended : (steps : ℕ) (slots : List Slots) (c : Configuration) (a : Action) (d : Configuration) → Goes steps slots c a d → c.ended ≡ false
not_ended steps slots c (Forward from to Nothing) d g = g.0
not_ended steps slots c (Forward from to (Store k)) d g = g.0
not_ended steps slots c (Forward from to Tape) d g = g.0
not_ended steps slots c (Reverse from to) d g = g.0
not_ended steps slots c (Copy n k Work) d g = g.0
not_ended steps slots c (Copy n k (Level j)) d g = g.0
not_ended steps slots c (Move n k Work) d g = g.0
not_ended steps slots c (Move n k (Level j)) d g = g.0
not_ended steps slots c EndForward d g = g.0
not_ended steps slots c EndReverse d g = g.0

-- only EndReverse ends
ended_so : (c : Configuration) (a : Action) → c.ended ≡ false → (after c a).ended ≡ true → a ≡ EndReverse
ended_so c (Forward from to Nothing) n e = absurd (true≢false (sym e ∙ n))
ended_so c (Forward from to (Store k)) n e = absurd (true≢false (sym e ∙ n))
ended_so c (Forward from to Tape) n e = absurd (true≢false (sym e ∙ n))
ended_so c (Reverse from to) n e = absurd (true≢false (sym e ∙ n))
ended_so c (Copy n' k Work) n e = absurd (true≢false (sym e ∙ n))
ended_so c (Copy n' k (Level j)) n e = absurd (true≢false (sym e ∙ n))
ended_so c (Move n' k Work) n e = absurd (true≢false (sym e ∙ n))
ended_so c (Move n' k (Level j)) n e = absurd (true≢false (sym e ∙ n))
ended_so c EndForward n e = absurd (true≢false (sym e ∙ n))
ended_so c EndReverse n e = refl

some_is : {X : Type 0} (x y : X) → Some x ≡ Some y → x ≡ y
some_is x y e = cc

-- EndReverse is the last action of a list that leads to an ended configuration, and no other is
last_ends : (steps : ℕ) (slots : List Slots) (c : Configuration) (list : List Action) (d : Configuration) → Leads steps slots c list d → c.ended ≡ false → d.ended ≡ true → EndReverseIsLast list
last_ends steps slots c [] d h open_ end k within = absurd (omega arith)
last_ends steps slots c (a ∷ []) d h open_ end zero within =
    let is : a ≡ EndReverse = ended_so c a open_ (ap (λ (m : Configuration). m.ended) (sym (goes_after steps slots c a h.0 h.1) ∙ sym h.2) ∙ end) in
    (λ _. omega arith, λ _. ap Some is)
last_ends steps slots c (a ∷ []) d h open_ end (suc k) within = absurd (omega arith)
last_ends steps slots c (a ∷ b ∷ rest) d h open_ end zero within =
    let still = not_ended steps slots h.0 b h.2.0 h.2.1 in
    let P : Action → Type 0 = λ x. (after c x).ended ≡ false in (
      λ e. absurd (true≢false (subst P (some_is a EndReverse e) (ap (λ (m : Configuration). m.ended) (sym (goes_after steps slots c a h.0 h.1)) ∙ still))),
      λ e. absurd (omega arith),
    )
last_ends steps slots c (a ∷ b ∷ rest) d h open_ end (suc k) within =
    let later = last_ends steps slots h.0 (b ∷ rest) d h.2 (not_ended steps slots h.0 b h.2.0 h.2.1) end k (omega arith) in
    (λ e. omega (arith, later.0 e), λ e. later.1 (omega arith))

pub end_is_last : (steps : ℕ) (slots : List Slots) (list : List Action) → Valid steps slots list → EndReverseIsLast list
end_is_last steps slots list valid = last_ends steps slots (start steps slots) list valid.0 valid.1 refl valid.2

take_of_take : {X : Type 0} (xs : List X) (i j : ℕ) → i ≤ j → take i (take j xs) ≡ take i xs
take_of_take xs zero j h = refl
take_of_take xs (suc i) zero h = absurd (omega arith)
take_of_take [] (suc i) (suc j) h = refl
take_of_take (x ∷ xs) (suc i) (suc j) h = ap (λ ys. x ∷ ys) (take_of_take xs i j (omega arith))

get_of_take : {X : Type 0} (xs : List X) (i j : ℕ) → i < j → slice_get (take j xs) i ≡ slice_get xs i
get_of_take xs i zero h = absurd (omega arith)
get_of_take [] i (suc j) h = refl
get_of_take (x ∷ xs) zero (suc j) h = refl
get_of_take (x ∷ xs) (suc i) (suc j) h = get_of_take xs i j (omega arith)

there : {X : Type 0} (xs : List X) (i : ℕ) → i < length xs → (x : X) × (slice_get xs i ≡ Some x)
there [] i h = absurd (omega arith)
there (x ∷ xs) zero h = (x, refl)
there (x ∷ xs) (suc i) h = there xs i (omega arith)

-- what is broken first is not passed by a list that goes on
not_passed : (steps : ℕ) (slots : List Slots) (list : List Action) (place later number number' level level' : ℕ) → BrokenAt steps slots list place number level → BrokenAt steps slots list later number' level' → place < later → ⊥
not_passed steps slots list place later number number' level level' b b' before =
    let i = place - 1 in
    let j = later - 1 in
    let from_one = b.from_one in
    let within = b'.within in
    let a = there list i (omega arith) in
    let Q : Option Action → Type 0 = λ o. BreaksRule steps slots b.before o number level in
    let breaks = subst Q a.1 b.breaks in
    let P : List Action → Type 0 = λ xs. Leads steps slots (start steps slots) xs b.before in
    let kept = kept_on_the_way steps slots (take j list) i b.before a.0 b'.before (get_of_take list i j (omega arith) ∙ a.1)
    (subst P (sym (take_of_take list i j (omega arith))) b.leads) b'.leads in
    omega (arith, breaks.0, breaks.1, kept)

same_break : (steps : ℕ) (slots : List Slots) (c : Configuration) (o : Option Action) (number number' level level' : ℕ) → BreaksRule steps slots c o number level → BreaksRule steps slots c o number' level' → (number ≡ number') × (level ≡ level')
same_break steps slots c None number number' level level' h g = (h.1 ∙ sym g.1, h.2 ∙ sym g.2)
same_break steps slots c (Some a) number number' level level' h g =
    let same : number ≡ number' = sym h.0 ∙ g.0 in
    (same, h.2 ∙ ap (λ n. level_refused n a) same ∙ sym g.2)

same_place : (steps : ℕ) (slots : List Slots) (list : List Action) (place number number' level level' : ℕ) → BrokenAt steps slots list place number level → BrokenAt steps slots list place number' level' → (number ≡ number') × (level ≡ level')
same_place steps slots list place number number' level level' b b' =
    let P : Configuration → Type 0 = λ c. BreaksRule steps slots c (slice_get list (place - 1)) number level in
    same_break steps slots b'.before (slice_get list (place - 1)) number number' level level'
    (subst P (leads_unique steps slots (start steps slots) (take (place - 1) list) b.before b'.before b.leads b'.leads) b.breaks) b'.breaks

pub one_break : (steps : ℕ) (slots : List Slots) (list : List Action) → FirstBrokenIsUnique steps slots list
one_break steps slots list place place' number number' level level' b b' = elim (cases_order place place') [
  | inl e ↦
      let P : ℕ → Type 0 = λ p. BrokenAt steps slots list p number level in
      let same = same_place steps slots list place' number number' level level' (subst P e b) b' in
      (e, same.0, same.1)
  | inr other ↦ elim other [
    | inl before ↦ absurd (not_passed steps slots list place place' number number' level level' b b' before)
    | inr behind ↦ absurd (not_passed steps slots list place' place number' number level' level b' b behind)
  ]
]

-- a list that leads to an ended configuration has an action
pub valid_has_action : (steps : ℕ) (slots : List Slots) (list : List Action) → Valid steps slots list → 0 < length list
valid_has_action steps slots [] valid = absurd (true≢false (sym valid.2 ∙ ap (λ (c : Configuration). c.ended) valid.1))
valid_has_action steps slots (a ∷ rest) valid = omega arith

-- a list that leads to an ended configuration isn't broken by one of its actions, nor by its end
unbroken_by : (steps : ℕ) (slots : List Slots) (list : List Action) (i : ℕ) (before last : Configuration) (o : Option Action) (number level : ℕ) → slice_get list i ≡ o →
    (o ≡ None → take i list ≡ list) → Leads steps slots (start steps slots) (take i list) before → Leads steps slots (start steps slots) list last → last.ended ≡ true →
    BreaksRule steps slots before o number level → ⊥
unbroken_by steps slots list i before last (Some a) number level at whole leads all end breaks =
    omega (arith, breaks.0, breaks.1, kept_on_the_way steps slots list i before a last at leads all)
unbroken_by steps slots list i before last None number level at whole leads all end breaks =
    let P : List Action → Type 0 = λ xs. Leads steps slots (start steps slots) xs before in
    let same = leads_unique steps slots (start steps slots) list before last (subst P (whole refl) leads) all in
    true≢false (sym end ∙ ap (λ (c : Configuration). c.ended) (sym same) ∙ breaks.0)

-- past its end nothing is cut off from a list
nothing_there : {X : Type 0} (xs : List X) (i : ℕ) → slice_get xs i ≡ None → take i xs ≡ xs
nothing_there [] zero e = refl
nothing_there [] (suc i) e = refl
nothing_there (x ∷ xs) zero e = absurd (cc)
nothing_there (x ∷ xs) (suc i) e = ap (λ ys. x ∷ ys) (nothing_there xs i e)

pub valid_unbroken : (steps : ℕ) (slots : List Slots) (list : List Action) → ValidIsUnbroken steps slots list
valid_unbroken steps slots list valid place number level b =
    unbroken_by steps slots list (place - 1) b.before valid.0 (slice_get list (place - 1)) number level refl
    (nothing_there list (place - 1)) b.leads valid.1 valid.2 b.breaks
