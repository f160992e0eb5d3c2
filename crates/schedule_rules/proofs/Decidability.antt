-- A list is valid, or there is a place at which it is first broken.
use Rattle.std.proofs.Common.{◌≡◌, ◌⊎◌, inl, inr, ℕ, suc, ◌+◌, ◌-◌, ◌≤◌, Bool, true, false, List, [], ◌∷◌, length, take, refl, subst, arith}
use Rattle.std.specs.List.{slice_get}
use Rattle.std.proofs.lemmas.Bool.{cases_lt}
use Rattle.plan_types.specs.declared.action.Action.{Action}
use Rattle.level_book.specs.declared.book.Slots.{Slots}
use Rattle.level_book.specs.Configuration.{Configuration, start}
use Rattle.level_book.specs.Rules.{rule, level_refused}
use Rattle.level_book.specs.Valid.{Leads, BreaksRule, BrokenAt}
use Rattle.schedule_rules.specs.Transitions.{after}
use Rattle.schedule_rules.specs.Laws.{IsValidOrBroken}
use Rattle.schedule_rules.proofs.MovesByRules.{goes}

-- from c the list leads to a configuration that is ended
abbrev LeadsToEnd : ℕ → List Slots → Configuration → List Action → Type 0
LeadsToEnd steps slots c list = (last : Configuration) × Leads steps slots c list last × (last.ended ≡ true)

-- from c it breaks a rule behind its first i actions
record BreaksBehind (steps : ℕ) (slots : List Slots) (c : Configuration) (list : List Action) (i number level : ℕ) : Type 0 where
  within : i ≤ length list
  before : Configuration
  leads : Leads steps slots c (take i list) before
  breaks : BreaksRule steps slots before (slice_get list i) number level

abbrev Breaks : ℕ → List Slots → Configuration → List Action → Type 0
Breaks steps slots c list = (i : ℕ) × (number : ℕ) × (level : ℕ) × BreaksBehind steps slots c list i number level

-- the end of a list that has ended, or is unfinished
at_end : (steps : ℕ) (slots : List Slots) (c : Configuration) (b : Bool) → c.ended ≡ b → LeadsToEnd steps slots c [] ⊎ Breaks steps slots c []
at_end steps slots c true e = inl (c, refl, e)
at_end steps slots c false e = inr (0, 16, 0, record { within = omega arith; before = c; leads = refl; breaks = (e, refl, refl) })

-- an action that breaks no rule leads on
led_or_broken : (steps : ℕ) (slots : List Slots) (c : Configuration) (list : List Action) → LeadsToEnd steps slots c list ⊎ Breaks steps slots c list
led_or_broken steps slots c [] = at_end steps slots c c.ended refl
led_or_broken steps slots c (a ∷ rest) = elim (cases_lt 0 (rule steps slots c a)) [
  | inl broken ↦ inr (0, rule steps slots c a, level_refused (rule steps slots c a) a, record { within = omega arith; before = c; leads = refl; breaks = (refl, broken, refl) })
  | inr none ↦
      let g = goes steps slots c a (omega (arith, none)) in
      elim (led_or_broken steps slots (after c a) rest) [
        | inl led ↦ inl (led.0, (after c a, g, led.1), led.2)
        | inr b ↦
            let at = b.3 in
            inr (suc b.0, b.1, b.2, record { within = omega (arith, at.within); before = at.before; leads = (after c a, g, at.leads); breaks = at.breaks })
      ]
]

-- places are counted from 1
broken_at : (steps : ℕ) (slots : List Slots) (list : List Action) (i number level : ℕ) → BreaksBehind steps slots (start steps slots) list i number level → BrokenAt steps slots list (i + 1) number level
broken_at steps slots list i number level b =
    let e : i ≡ i + 1 - 1 = omega arith in
    let L : ℕ → Type 0 = λ n. Leads steps slots (start steps slots) (take n list) b.before in
    let B : ℕ → Type 0 = λ n. BreaksRule steps slots b.before (slice_get list n) number level in
    record { from_one = omega arith; within = omega (arith, b.within); before = b.before; leads = subst L e b.leads; breaks = subst B e b.breaks }

pub valid_or_broken : (steps : ℕ) (slots : List Slots) (list : List Action) → IsValidOrBroken steps slots list
valid_or_broken steps slots list = elim (led_or_broken steps slots (start steps slots) list) [
  | inl led ↦ inl led
  | inr b ↦ inr (b.0 + 1, b.1, b.2, broken_at steps slots list b.0 b.1 b.2 b.3)
]
