use Rattle.std.proofs.Common.{◌≡◌, ◌+◌, ◌-◌, ◌<◌, ◌≤◌, ℕ, List, length, take, drop, get_or, refl, sym, ap, subst, arith}
use Rattle.std.specs.List.{AllByRecursion}
use Rattle.multistage_gen.specs.declared.numbers.Stretches.{Stretches}
use Rattle.multistage_gen.specs.Numbers.{AreAscending}
use Rattle.multistage_gen.proofs.StretchOrder.{ascending_insert, ascending_put}
use Rattle.multistage_gen.proofs.numbers.add.Goals.{else-behind-gt0-via-then-behind-gt0+else-index-steps, else-behind-gt0-via-else-behind-gt0}
use Rattle.multistage_gen.proofs.numbers.add.Goals as goal

pub returns-then-index-steps-clause-ascending : goal.returns-then-index-steps-clause-ascending
returns-then-index-steps-clause-ascending c =
    let items = c.args.stretches.now.items in
    let x = c.index_mut.result.now in
    let whole = ap length c.deref.ensures.value in
    ascending_put items (c.first_above-behind.result - 1) x (record { steps = x.steps; count = x.count + c.args.count })
    (omega (arith, c.first_above-behind.ensures.within, whole, c.if-behind-gt0.true)) c.index_mut.ensures.value refl c.requires.ascending

pub returns-clause-ascending : goal.returns-clause-ascending
returns-clause-ascending c =
    let items = c.args.stretches.now.items in
    let behind = c.first_above-behind.result in
    let element : Stretches = record { steps = c.args.steps; count = c.args.count } in
    let whole = ap length c.deref.ensures.value in
    let within : behind ≤ length items = omega (arith, c.first_above-behind.ensures.within, whole) in
    let few = subst (λ (xs : List Stretches). AllByRecursion (λ (s : Stretches). s.steps ≤ c.args.steps) (take behind xs)) c.deref.ensures.value c.first_above-behind.ensures.before in
    let more = subst (λ (xs : List Stretches). AllByRecursion (λ (s : Stretches). c.args.steps < s.steps) (drop behind xs)) c.deref.ensures.value c.first_above-behind.ensures.behind in
    subst AreAscending (sym c.in_ok-insert.ensures.items)
    (elim c.else-behind-gt0.branch [
      | else-behind-gt0-via-then-behind-gt0+else-index-steps w ↦
          ascending_insert c.args.steps items behind w.index.result.now element within refl c.requires.ascending few more
          (λ j e same.
          let at : behind - 1 ≡ j = omega (arith, e) in
          let steps = ap (λ (s : Stretches). s.steps) w.index.ensures in
          let here = ap (λ (k : ℕ). (get_or items k w.index.result.now).steps) at in
          absurd (omega (arith, steps, here, same, w.if-index-steps.false)))
      | else-behind-gt0-via-else-behind-gt0 w ↦
          ascending_insert c.args.steps items behind element element within refl c.requires.ascending few more (λ j e same. absurd (omega (arith, e, w.if-behind-gt0.false)))
    ])
