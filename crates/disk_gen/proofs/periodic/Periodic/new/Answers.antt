use Rattle.std.proofs.Common.{◌≡◌, ℕ, ◌-◌, ◌*◌, List, [], ◌∷◌, ◌++◌, arith, sym, ap, ◌∙◌, subst}
use Rattle.plan_types.specs.declared.action.Action.{Action}
use Rattle.level_book.specs.declared.book.Slots.TheVariants.{Unlimited}
use Rattle.level_book.specs.BookCosts.{room}
use Rattle.revolve_gen.specs.Plans.{HasPlan}
use Rattle.disk_gen.specs.declared.phase.Phase.TheVariants.{Ahead, Back}
use Rattle.disk_gen.specs.PeriodicList.{images, last_steps, periodic}
use Rattle.disk_gen.specs.Remainder.{owed_behind, IsOwing}
use Rattle.disk_gen.proofs.RemainderSteps.{whole_ahead, whole_back, start_ahead, start_back, one_planned}
use Rattle.disk_gen.proofs.periodic.Periodic.new.Goals as goal

pub invariant_of-result : goal.invariant_of-result
invariant_of-result c =
    let steps = c.args.steps in let period = c.args.period in let n = c.in_ok-images.images in let stretch = c.on_fastest-stretch.result in
    let fast : stretch.levels ≡ Unlimited ∷ [] = λ t. (c.on_fastest-stretch.ensures t).levels in
    let slots : stretch.slots ≡ c.room-slots.result = λ t. (c.on_fastest-stretch.ensures t).slots in
    let last : steps - n * period ≡ last_steps steps period = ap (λ n. steps - n * period) c.in_ok-images.ensures.value in
    let P : ℕ → Type 0 = λ free. IsOwing period (steps - n * period) stretch.levels free (Ahead 0 n) in
    subst P (sym (slots ∙ c.room-slots.ensures))
    (start_ahead steps period n (steps - n * period) c.args.book.now stretch.levels fast c.requires.some c.requires.short c.in_ok-images.ensures.plan c.in_ok-images.ensures.value last (omega (arith, c.if-images-gt0.true)))

pub returns-then-images-gt0-clause-list : goal.returns-then-images-gt0-clause-list
returns-then-images-gt0-clause-list c =
    let steps = c.args.steps in let period = c.args.period in let n = c.in_ok-images.images in let stretch = c.on_fastest-stretch.result in
    let none : stretch.actions ≡ [] = λ t. (c.on_fastest-stretch.ensures t).actions in
    let slots : stretch.slots ≡ c.room-slots.result = λ t. (c.on_fastest-stretch.ensures t).slots in
    let last : steps - n * period ≡ last_steps steps period = ap (λ n. steps - n * period) c.in_ok-images.ensures.value in
    ap (λ (actions : List Action). actions ++ owed_behind period (steps - n * period) stretch.slots (Ahead 0 n)) none
    ∙ ap (λ free. owed_behind period (steps - n * period) free (Ahead 0 n)) (slots ∙ c.room-slots.ensures)
    ∙ whole_ahead steps period (room c.args.book.now 0 steps) n (steps - n * period) c.requires.some c.in_ok-images.ensures.value last

pub begin-requires-clause-plan : goal.begin-requires-clause-plan
begin-requires-clause-plan c =
    let steps = c.args.steps in let period = c.args.period in let stretch = c.on_fastest-stretch.result in
    let slots : stretch.slots ≡ c.room-slots.result = λ t. (c.on_fastest-stretch.ensures t).slots in
    let none : images steps period ≡ 0 = omega (arith, c.in_ok-images.ensures.value, c.if-images-gt0.false) in
    let P : ℕ → Type 0 = λ free. HasPlan steps free in
    subst P (sym (slots ∙ c.room-slots.ensures)) (one_planned steps period c.args.book.now c.requires.some c.in_ok-images.ensures.plan none)

pub invariant_of-result-2 : goal.invariant_of-result-2
invariant_of-result-2 c =
    let begun = c.begin.new.self in
    let same : begun.levels ≡ c.on_fastest-stretch.result.levels = λ t. (c.begin.ensures t).levels in
    let fast : c.on_fastest-stretch.result.levels ≡ Unlimited ∷ [] = λ t. (c.on_fastest-stretch.ensures t).levels in
    start_back c.args.period (c.args.steps - c.in_ok-images.images * c.args.period) begun.slots begun.levels (same ∙ fast) c.requires.some

pub returns-clause-list : goal.returns-clause-list
returns-clause-list c =
    let steps = c.args.steps in let period = c.args.period in let last = steps - c.in_ok-images.images * period in
    let stretch = c.on_fastest-stretch.result in let begun = c.begin.new.self in
    let fast : stretch.levels ≡ Unlimited ∷ [] = λ t. (c.on_fastest-stretch.ensures t).levels in
    let slots : stretch.slots ≡ c.room-slots.result = λ t. (c.on_fastest-stretch.ensures t).slots in
    let none : images steps period ≡ 0 = omega (arith, c.in_ok-images.ensures.value, c.if-images-gt0.false) in
    let one = whole_back steps period stretch.slots last stretch.levels fast c.requires.some none in
    (λ t. (c.begin.ensures t).actions ++ owed_behind period last (c.begin.ensures t).slots (Back 0))
    ∙ one
    ∙ ap (λ free. periodic steps period free) (slots ∙ c.room-slots.ensures)
