use Rattle.std.proofs.Common.{◌≡◌, ◌⊎◌, ℕ, zero, suc, ◌<◌, ◌≤◌, true, [], length, refl, subst, sym, ◌∙◌, inl, inr, arith, true≢false}
use Rattle.level_book.specs.BookCosts.{slots_of, total_room}
use Rattle.revolve_gen.specs.Plans.{HasPlan}
use Rattle.class_rules.specs.LevelInference.{Fit}
use Rattle.class_rules.proofs.ClassByLevels.{not_in_class, in_class, fits_in_class, at_some, at_none}
use Rattle.class_rules.proofs.multistage.place_levels.Goals as goal

-- what the first test leaves is that there is a plan
planned : (steps slots room : ℕ) → slots ≡ room → ((2 ≤ steps) × (slots ≡ 0 → ⊥)) ⊎ (steps < 2) → HasPlan steps room
planned steps slots room e (inl x) two = some_slot room (λ z. x.1 (e ∙ z))
  where
    some_slot : (n : ℕ) → (n ≡ 0 → ⊥) → 1 ≤ n
    some_slot zero ne = absurd (ne refl)
    some_slot (suc n) ne = omega arith
planned steps slots room e (inr x) two = absurd (omega arith)

pub returns-in_default : goal.returns-in_default
returns-in_default c is =
    not_in_class c.args.steps c.args.book.now c.args.list.now c.over.result [] c.over.ensures (at_none c.in_ok-levels.field-0 _ _ c.in_default.is c.in_ok-levels.ensures) is

pub returns-then-not-fit : goal.returns-then-not-fit
returns-then-not-fit c is =
    let are = at_some c.in_ok-levels.field-0 c.in-Some.levels _ _ c.in-Some.is c.in_ok-levels.ensures in
    let fit = fits_in_class c.args.steps c.args.book.now c.args.list.now c.over.result c.in-Some.levels.items c.over.ensures are is in
    true≢false (sym (c.fit.ensures.1 (subst (Fit (slots_of c.args.book.now)) (sym c.deref.ensures.value) fit)) ∙ c.if-not-fit.true)

pub returns : goal.returns
returns c =
    let steps = c.args.steps in
    let book = c.args.book.now in
    let levels = c.in-Some.levels.items in
    let two : length book.levels ≡ 2 = omega (arith, c.levels.ensures.value, c.if-levels-ne2.false) in
    let plan = planned steps c.total_room-slots.result (total_room book steps) c.total_room-slots.ensures c.if-slots-eq0.either in
    let are = at_some c.in_ok-levels.field-0 c.in-Some.levels _ _ c.in-Some.is c.in_ok-levels.ensures in
    in_class steps book c.args.list.now c.over.result levels c.over.ensures two plan are (subst (Fit (slots_of book)) c.deref.ensures.value (c.fit.ensures.0 c.if-not-fit.false))
