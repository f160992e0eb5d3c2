use Rattle.std.proofs.Common.{◌≡◌, ◌∙◌, ℕ, List, sym, ap, subst}
use Rattle.rv_pages.specs.Memory.{page_numbers}
use Rattle.rv_machine.specs.MachineState.{MachineState}
use Rattle.run_timeline.specs.KeptPages.{KeepsFrom}
use Rattle.run_timeline.proofs.mark.Mark.give.Goals as goal

pub give_pages-requires : goal.give_pages-requires
give_pages-requires c =
    let s : MachineState = c.requires.0 in
    let is = c.requires.1 in
    let numbers : page_numbers s.memory ≡ page_numbers c.state.inside.pages = is.2 ∙ ap (λ (t : MachineState). page_numbers t.memory) (sym c.state.view_is) in (
      s.memory,
      subst (λ (ns : List ℕ). KeepsFrom ns s.memory 0 c.deref.result.now c.deref-2.result.now) numbers
          (subst (λ (xs : List ℕ). KeepsFrom (page_numbers s.memory) s.memory 0 xs c.deref-2.result.now) (sym c.deref.ensures.value)
          (subst (λ (xs : List ℕ). KeepsFrom (page_numbers s.memory) s.memory 0 c.args.self.now.indices.items xs) (sym c.deref-2.ensures.value) is.0.pages)),
    )
