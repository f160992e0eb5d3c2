-- What the two rules write.
use Rattle.std.proofs.Common.{◌≡◌, ◌⊎◌, ℕ, zero, suc, ◌+◌, ◌-◌, ◌*◌, ◌≤◌, Bool, true, false, cond, nat_le, List, [], ◌∷◌, ◌++◌, length, refl, sym, ◌∙◌, ap, subst, inl, inr, arith, length-append}
use Rattle.std.proofs.lemmas.Bool.{cases_lt}
use Rattle.std.proofs.lemmas.Bool.Decides.{nat_tests}
use Rattle.std.proofs.lemmas.List.Sums.{sum_by-cons, sum_by-append}
use Rattle.plan_types.specs.declared.action.Keep.TheVariants.{Nothing, Store}
use Rattle.plan_types.specs.declared.action.Dest.TheVariants.{Work}
use Rattle.plan_types.specs.declared.action.Action.{Action}
use Rattle.plan_types.specs.declared.action.Action.TheVariants.{Forward, Copy, Move, EndReverse}
use Rattle.level_book.specs.CostFold.{forward, steps_of}
use Rattle.binomials.specs.Advances.{split, least_advances}
use Rattle.binomials.specs.Laws.{IsStretch, IsSplit}
use Rattle.binomials.proofs.LeastAdvances.{split_least, least_advances_one}
use Rattle.revolve_gen.specs.RevolveList.{one_step, fresh, held}
use Rattle.revolve_gen.specs.Plans.{HasPlan}
use Rattle.revolve_gen.specs.Laws.{RevolveIsCounted, WrittenByRules}

yes : (t : Bool) (x y : List Action) → t ≡ true → cond t x y ≡ x
yes t x y e = ap (λ t. cond t x y) e

no : (t : Bool) (x y : List Action) → t ≡ false → cond t x y ≡ y
no t x y e = ap (λ t. cond t x y) e

-- the rules, where the bound on the recursion is no less than the steps
pub fresh_one : (more : ℕ) (level : ℕ → ℕ) (first : Bool) (b l c p : ℕ) → l ≡ 1 → fresh more level first b l c p ≡ one_step first b
unfolding fresh
fresh_one zero level first b l c p e = refl
fresh_one (suc more) level first b l c p e = yes (nat_le l 1) _ _ (grind (arith, nat_tests))

pub held_one : (more : ℕ) (level : ℕ → ℕ) (b l c p : ℕ) → l ≡ 1 → held more level b l c p ≡ Move b (level p) Work ∷ one_step false b
unfolding held
held_one zero level b l c p e = refl
held_one (suc more) level b l c p e = yes (nat_le l 1) _ _ (grind (arith, nat_tests))

-- what stands behind the first Forward of a stretch that is split
abbrev pub parts : ℕ → (ℕ → ℕ) → Bool → ℕ → ℕ → ℕ → ℕ → List Action
parts more level first b l c p = fresh more level first (b + split l c) (l - split l c) (c - 1) (p + 1) ++ held more level b (split l c) c p

pub fresh_more : (more : ℕ) (level : ℕ → ℕ) (first : Bool) (b l c p : ℕ) → 2 ≤ l → fresh (suc more) level first b l c p ≡ Forward b (b + split l c) (Store (level p)) ∷ parts more level first b l c p
unfolding fresh
fresh_more more level first b l c p h = no (nat_le l 1) _ _ (grind (arith, nat_tests))

pub held_more : (more : ℕ) (level : ℕ → ℕ) (b l c p : ℕ) → 2 ≤ l → held (suc more) level b l c p ≡ Copy b (level p) Work ∷ Forward b (b + split l c) Nothing ∷ parts more level false b l c p
unfolding held
held_more more level b l c p h = no (nat_le l 1) _ _ (grind (arith, nat_tests))

pub split_of : (l c : ℕ) → IsStretch l c → 2 ≤ l → IsSplit l c (split l c)
split_of l c s h = (split_least l c s h).0

-- a stretch of two steps or more has a slot
pub has_slot : (l c : ℕ) → IsStretch l c → 2 ≤ l → 1 ≤ c
has_slot l zero s h = absurd (omega (arith, s.slots refl))
has_slot l (suc c) s h = omega arith

pub one_or_more : (l : ℕ) → 1 ≤ l → (l ≡ 1) ⊎ (2 ≤ l)
one_or_more l h = elim (cases_lt 1 l) [ inl lt ↦ inr lt | inr ge ↦ inl (omega arith) ]

-- the bound on the recursion doesn't matter
record AnyBound (more other : ℕ) (level : ℕ → ℕ) (l : ℕ) : Type 0 where
  for_fresh : (first : Bool) (b c p : ℕ) → IsStretch l c → fresh more level first b l c p ≡ fresh other level first b l c p
  for_held : (b c p : ℕ) → IsStretch l c → held more level b l c p ≡ held other level b l c p

any_bound : (more other : ℕ) (level : ℕ → ℕ) (l : ℕ) → 1 ≤ l → l ≤ more → l ≤ other → AnyBound more other level l
any_bound zero other level l some h g = absurd (omega arith)
any_bound (suc more) zero level l some h g = absurd (omega arith)
any_bound (suc more) (suc other) level l some h g = elim (one_or_more l some) [
  | inl one ↦ record {
    for_fresh = λ first b c p s. fresh_one (suc more) level first b l c p one ∙ sym (fresh_one (suc other) level first b l c p one);
    for_held = λ b c p s. held_one (suc more) level b l c p one ∙ sym (held_one (suc other) level b l c p one);
  }
  | inr two ↦
      let same = λ (first : Bool) (b c p : ℕ) (s : IsStretch l c).
      let j = split l c in
      let is = split_of l c s two in
      let rest = any_bound more other level (l - j) is.after.some (omega (arith, is.before.some)) (omega (arith, is.before.some)) in
      let start = any_bound more other level j is.before.some (omega (arith, is.shorter)) (omega (arith, is.shorter)) in
      let e : parts more level first b l c p ≡ parts other level first b l c p =
      ap (λ t. t ++ held more level b j c p) (rest.for_fresh first (b + j) (c - 1) (p + 1) is.after)
      ∙ ap (λ t. fresh other level first (b + j) (l - j) (c - 1) (p + 1) ++ t) (start.for_held b c p is.before) in
      e in
      record {
        for_fresh = λ first b c p s.
            fresh_more more level first b l c p two
            ∙ ap (λ t. Forward b (b + split l c) (Store (level p)) ∷ t) (same first b c p s)
            ∙ sym (fresh_more other level first b l c p two);
        for_held = λ b c p s.
            held_more more level b l c p two
            ∙ ap (λ t. Copy b (level p) Work ∷ Forward b (b + split l c) Nothing ∷ t) (same false b c p s)
            ∙ sym (held_more other level b l c p two);
      }
]

pub fresh_bound : (more other : ℕ) (level : ℕ → ℕ) (first : Bool) (b l c p : ℕ) → IsStretch l c → l ≤ more → l ≤ other → fresh more level first b l c p ≡ fresh other level first b l c p
fresh_bound more other level first b l c p s h g = (any_bound more other level l s.some h g).for_fresh first b c p s

pub held_bound : (more other : ℕ) (level : ℕ → ℕ) (b l c p : ℕ) → IsStretch l c → l ≤ more → l ≤ other → held more level b l c p ≡ held other level b l c p
held_bound more other level b l c p s h g = (any_bound more other level l s.some h g).for_held b c p s

-- the counts of one step
length_one : (first : Bool) (b : ℕ) → length (one_step first b) ≡ 2 + cond first 1 0
length_one true b = refl
length_one false b = refl

forward_one : (first : Bool) (b : ℕ) → forward (one_step first b) ≡ 1
forward_one true b = omega arith
forward_one false b = omega arith

none_advanced : (l c : ℕ) → l ≡ 1 → IsStretch l c → least_advances l c ≡ 0
none_advanced l c one s = ap (λ l. least_advances l c) one ∙ least_advances_one c (subst (λ l. IsStretch l c) one s)

-- the counts of a stretch
record Counted (more : ℕ) (level : ℕ → ℕ) (l : ℕ) : Type 0 where
  fresh_length : (first : Bool) (b c p : ℕ) → IsStretch l c → length (fresh more level first b l c p) + 2 ≡ 4 * l + cond first 1 0
  held_length : (b c p : ℕ) → IsStretch l c → length (held more level b l c p) + 1 ≡ 4 * l
  fresh_forward : (first : Bool) (b c p : ℕ) → IsStretch l c → forward (fresh more level first b l c p) ≡ l + least_advances l c
  held_forward : (b c p : ℕ) → IsStretch l c → forward (held more level b l c p) ≡ l + least_advances l c

counted : (more : ℕ) (level : ℕ → ℕ) (l : ℕ) → 1 ≤ l → l ≤ more → Counted more level l
counted zero level l some h = absurd (omega arith)
counted (suc more) level l some h = elim (one_or_more l some) [
  | inl one ↦ record {
    fresh_length = λ first b c p s. omega (arith, ap length (fresh_one (suc more) level first b l c p one), length_one first b);
    held_length = λ b c p s. omega (arith, ap length (held_one (suc more) level b l c p one), length_one false b);
    fresh_forward = λ first b c p s.
        omega (arith, ap forward (fresh_one (suc more) level first b l c p one), forward_one first b, none_advanced l c one s);
    held_forward = λ b c p s.
        omega (arith, ap forward (held_one (suc more) level b l c p one), sum_by-cons steps_of (Move b (level p) Work) (one_step false b), forward_one false b, none_advanced l c one s);
  }
  | inr two ↦
      let rest = λ (c : ℕ) (s : IsStretch l c). let is = split_of l c s two in counted more level (l - split l c) is.after.some (omega (arith, is.before.some)) in
      let start = λ (c : ℕ) (s : IsStretch l c). let is = split_of l c s two in counted more level (split l c) is.before.some (omega (arith, is.shorter)) in
      let long = λ (first : Bool) (b c p : ℕ) (s : IsStretch l c).
      let j = split l c in
      let is = split_of l c s two in
      let e : length (parts more level first b l c p) + 3 ≡ 4 * l + cond first 1 0 =
      omega (
        arith,
        is.shorter,
        length-append (fresh more level first (b + j) (l - j) (c - 1) (p + 1)) (held more level b j c p),
        (rest c s).fresh_length first (b + j) (c - 1) (p + 1) is.after,
        (start c s).held_length b c p is.before,
      ) in
      e in
      let far = λ (first : Bool) (b c p : ℕ) (s : IsStretch l c).
      let j = split l c in
      let is = split_of l c s two in
      let e : forward (parts more level first b l c p) + j ≡ l + least_advances l c =
      omega (
        arith,
        is.shorter,
        is.sum,
        sum_by-append steps_of (fresh more level first (b + j) (l - j) (c - 1) (p + 1)) (held more level b j c p),
        (rest c s).fresh_forward first (b + j) (c - 1) (p + 1) is.after,
        (start c s).held_forward b c p is.before,
      ) in
      e in
      record {
        fresh_length = λ first b c p s. omega (arith, ap length (fresh_more more level first b l c p two), long first b c p s);
        held_length = λ b c p s. omega (arith, ap length (held_more more level b l c p two), long false b c p s);
        fresh_forward = λ first b c p s.
            omega (
              arith,
              ap forward (fresh_more more level first b l c p two),
              sum_by-cons steps_of (Forward b (b + split l c) (Store (level p))) (parts more level first b l c p),
              far first b c p s,
            );
        held_forward = λ b c p s.
            omega (
              arith,
              ap forward (held_more more level b l c p two),
              sum_by-cons steps_of (Copy b (level p) Work) (Forward b (b + split l c) Nothing ∷ parts more level false b l c p),
              sum_by-cons steps_of (Forward b (b + split l c) Nothing) (parts more level false b l c p),
              far false b c p s,
            );
      }
]

-- with a plan, some steps are a stretch that can be reversed
pub planned : (steps c : ℕ) → HasPlan steps c → 1 ≤ steps → IsStretch steps c
planned zero c plan some = absurd (omega arith)
planned (suc zero) c plan some = record { some = omega arith; slots = λ e. omega arith }
planned (suc (suc n)) c plan some = record { some = omega arith; slots = λ e. absurd (omega (arith, plan (omega arith))) }

pub revolve_counted : (level : ℕ → ℕ) (steps c : ℕ) → RevolveIsCounted level steps c
revolve_counted level zero c plan = record { actions = λ some. absurd (omega arith); forward_steps = λ some. absurd (omega arith); at_most_one = λ _. omega arith }
revolve_counted level (suc n) c plan =
    let s = planned (suc n) c plan (omega arith) in
    let all = counted (suc n) level (suc n) s.some (omega arith) in
    let list = fresh (suc n) level true 0 (suc n) c 0 in
    let steps : forward (list ++ EndReverse ∷ []) ≡ suc n + least_advances (suc n) c = omega (arith, sum_by-append steps_of list (EndReverse ∷ []), all.fresh_forward true 0 c 0 s) in
    record {
      actions = λ some. omega (arith, length-append list (EndReverse ∷ []), all.fresh_length true 0 c 0 s);
      forward_steps = λ some. steps;
      at_most_one = λ one. omega (arith, steps, none_advanced (suc n) c (omega arith) s);
    }

-- the rules for a stretch that is split, with bounds that are the steps
pub fresh_next : (level : ℕ → ℕ) (first : Bool) (b l c p : ℕ) → IsStretch l c → 2 ≤ l →
    fresh l level first b l c p ≡ Forward b (b + split l c) (Store (level p)) ∷ (fresh (l - split l c) level first (b + split l c) (l - split l c) (c - 1) (p + 1) ++ held (split l c) level b (split l c) c p)
fresh_next level first b zero c p s two = absurd (omega arith)
fresh_next level first b (suc m) c p s two =
    let l = suc m in
    let j = split l c in
    let is = split_of l c s two in
    fresh_more m level first b l c p two
    ∙ ap (λ t. Forward b (b + j) (Store (level p)) ∷ (t ++ held m level b j c p)) (fresh_bound m (l - j) level first (b + j) (l - j) (c - 1) (p + 1) is.after (omega (arith, is.before.some)) (omega arith))
    ∙ ap (λ t. Forward b (b + j) (Store (level p)) ∷ (fresh (l - j) level first (b + j) (l - j) (c - 1) (p + 1) ++ t)) (held_bound m j level b j c p is.before (omega (arith, is.shorter)) (omega arith))

pub held_next : (level : ℕ → ℕ) (b l c p : ℕ) → IsStretch l c → 2 ≤ l →
    held l level b l c p ≡ Copy b (level p) Work ∷ Forward b (b + split l c) Nothing ∷ (fresh (l - split l c) level false (b + split l c) (l - split l c) (c - 1) (p + 1) ++ held (split l c) level b (split l c) c p)
held_next level b zero c p s two = absurd (omega arith)
held_next level b (suc m) c p s two =
    let l = suc m in
    let j = split l c in
    let is = split_of l c s two in
    held_more m level b l c p two
    ∙ ap (λ t. Copy b (level p) Work ∷ Forward b (b + j) Nothing ∷ (t ++ held m level b j c p)) (fresh_bound m (l - j) level false (b + j) (l - j) (c - 1) (p + 1) is.after (omega (arith, is.before.some)) (omega arith))
    ∙ ap (λ t. Copy b (level p) Work ∷ Forward b (b + j) Nothing ∷ (fresh (l - j) level false (b + j) (l - j) (c - 1) (p + 1) ++ t)) (held_bound m j level b j c p is.before (omega (arith, is.shorter)) (omega arith))

pub written_by_rules : (l c : ℕ) → WrittenByRules l c
written_by_rules l c s level first b p = record {
  fresh_one = fresh_one l level first b l c p;
  held_one = held_one l level b l c p;
  fresh_more = fresh_next level first b l c p s;
  held_more = held_next level b l c p s;
}
