-- What is known of a configuration that is kept: some list leads to it, so it is sound.
use Rattle.std.proofs.Common.{◌≡◌, ℕ, ◌+◌, List, [], ◌∷◌, ◌++◌, length, sym, ◌∙◌, ap, subst, arith, Option, Some, None}
use Rattle.std.proofs.Math.Logic.{∥∥₁_elim, ∥∥₁_prop}
use Rattle.std.specs.Prelude.{MatchOption}
use Rattle.std.specs.List.{AllByRecursion}
use Rattle.std.specs.Coded.{le_prop, Unit-prop}
use Rattle.std.specs.Ordering.{nat_cmp}
use Rattle.std.specs.FinSet as set
use native.Mathlib.Nat.{ℕ_set}
use Rattle.plan_types.specs.declared.action.Action.{Action}
use Rattle.level_book.specs.declared.book.Slots.{Slots}
use Rattle.level_book.specs.declared.book.Slots.TheVariants.{Count, Unlimited}
use Rattle.level_book.specs.Configuration.{Configuration, start}
use Rattle.level_book.specs.Rules.{rule}
use Rattle.schedule_rules.specs.declared.config.Config.TheInside.{Inside}
use Rattle.schedule_rules.specs.BitRoom.{HasBits}
use Rattle.schedule_rules.specs.Levels.{slots_kept, images_kept}
use Rattle.schedule_rules.specs.Situation.{Situation}
use Rattle.schedule_rules.specs.ConfigModel.{situation_of, IsKept}
use Rattle.schedule_rules.specs.Transitions.{after}
use Rattle.schedule_rules.specs.Reachability.{IsReached, IsWithin, IsSound}
use Rattle.schedule_rules.proofs.MovesByRules.{goes}
use Rattle.schedule_rules.proofs.Reachability.{leads_more, sound_on, sound_start}

-- the start is reached by the empty list
pub start_reached : (steps : ℕ) (slots : List Slots) (c : Configuration) → c ≡ start steps slots → ∥ IsReached steps slots c ∥₁
start_reached steps slots c e = ∣ ([], e) ∣₁

-- what an action that breaks no rule leads to is reached
pub after_reached : (steps : ℕ) (slots : List Slots) (c : Configuration) (a : Action) → rule steps slots c a ≡ 0 → ∥ IsReached steps slots c ∥₁ → ∥ IsReached steps slots (after c a) ∥₁
after_reached steps slots c a e reached =
    ∥∥₁_elim reached ∥∥₁_prop (λ r. ∣ (r.0 ++ a ∷ [], leads_more steps slots (start steps slots) r.0 c a (after c a) r.1 (goes steps slots c a e)) ∣₁)

within_prop : (slots : Slots) (images : set.FinSet nat_cmp) → IsProp (IsWithin slots images)
within_prop (Count m) images = le_prop
within_prop Unlimited images = Unit-prop

next_prop : (tape : Option ℕ) (reverse : ℕ) → IsProp (MatchOption tape (Unit {0}) (λ t. t + 1 ≡ reverse))
next_prop None reverse = Unit-prop
next_prop (Some t) reverse = ℕ_set (t + 1) reverse

sound_prop : (steps : ℕ) (slots : List Slots) (c : Configuration) → IsProp (IsSound steps slots c)
sound_prop steps slots c x y i = record {
  within = le_prop x.within y.within i;
  level_count = ℕ_set (length c.held) (length slots) x.level_count y.level_count i;
  room = λ k h. within_prop _ _ (x.room k h) (y.room k h) i;
  tape_is_next = next_prop c.tape c.reverse x.tape_is_next y.tape_is_next i;
}

-- what is reached is sound
pub reached_sound : (steps : ℕ) (slots : List Slots) (c : Configuration) → ∥ IsReached steps slots c ∥₁ → IsSound steps slots c
reached_sound steps slots c reached =
    ∥∥₁_elim reached (sound_prop steps slots c) (λ r. sound_on steps slots (start steps slots) r.0 c (sound_start steps slots) r.1)

-- where the fields stand for what an action leads to that breaks no rule, they are kept as well
pub kept_after : (c d : Inside) (s : Situation) (a b : Action) → situation_of c ≡ s → IsKept c → rule s.steps s.slots s.at a ≡ 0 → a ≡ b →
    situation_of d ≡ record (situation_of c) { at = after (situation_of c).at b } → AllByRecursion (HasBits d.steps) d.levels.items → IsKept d
kept_after c d s a b view kept e is same bits =
    let now = situation_of c in
    let allowed : rule now.steps now.slots now.at b ≡ 0 =
    ap (rule now.steps now.slots now.at) (sym is) ∙ ap (λ (t : Situation). rule t.steps t.slots t.at a) view ∙ e in
    let P : Situation → Type 0 = λ t. ∥ IsReached t.steps t.slots t.at ∥₁ in
    let reached = subst P (sym same) (after_reached now.steps now.slots now.at b allowed kept.reached) in
    record {
      most = omega (arith, kept.most, ap (λ (t : Situation). t.steps) same);
      within = (reached_sound d.steps (situation_of d).slots (situation_of d).at reached).within;
      bits = bits;
      reached = reached;
    }

-- the levels change as an action wants it
pub levels_so : (d : Inside) (slots : List Slots) (held : List (set.FinSet nat_cmp)) → slots_kept d.levels.items ≡ slots → images_kept d.levels.items ≡ held →
    situation_of d ≡ record { steps = d.steps; slots = slots; at = record (situation_of d).at { held = held } }
levels_so d slots held slots_same held_same = λ i. record {
  steps = d.steps;
  slots = slots_same i;
  at = record (situation_of d).at { held = held_same i };
}
