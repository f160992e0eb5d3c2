use Rattle.std.proofs.Common.{List, sym, ap, subst, arith}
use Rattle.revolve_gen.specs.declared.stretch.Stretch.{Stretch}
use Rattle.revolve_gen.specs.Part.{Coming}
use Rattle.revolve_gen.specs.Remainder.{IsOwing}
use Rattle.revolve_gen.proofs.part.StretchStream.begin.Goals as goal

pub invariant_of-self : goal.invariant_of-self
invariant_of-self c =
    let room = c.self.inside.room in
    let phase = c.first_phase-self-inside.result in
    let P : List Stretch → Type 0 = λ items. IsOwing room phase items in
    let slots = ap (λ (s : Coming). s.slots) c.self.view_is in (
      subst P (sym c.clear.ensures.items) (c.first_phase-self-inside.ensures.owing room c.self.invariant.0.small (λ two. omega (arith, c.requires.plan two))),
      omega (arith, c.self.invariant.1, c.clear.ensures.capacity),
    )
