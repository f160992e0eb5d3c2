use Rattle.std.proofs.Common.{ℕ, List, ◌∙◌, subst}
use Rattle.elf_load.specs.Raw.{IsRawProgram}
use Rattle.reversal.proofs.demo.start_of.Goals as goal

pub returns-in-Ok-clause-found : goal.returns-in-Ok-clause-found
returns-in-Ok-clause-found c =
    let P : List ℕ → Type 0 = λ b. IsRawProgram b 16 c.in-Ok.start in
    subst P (c.deref.ensures.value ∙ c.in_ok-bytes.ensures) c.in-Ok.ensures.found
