use Rattle.std.proofs.Common.{◌≢◌, Bool, sym, subst}
use Rattle.std.specs.Prelude.{IfErr}
use Rattle.elf_load.specs.declared.fault.ElfFault.TheVariants as program
use Rattle.elf_load.specs.Start.{HasProgramFault}
use Rattle.elf_load.proofs.loading.load_start.Goals as goal

pub returns-else-is_raw-clause-refused : goal.returns-else-is_raw-clause-refused
returns-else-is_raw-clause-refused c =
    let P : Bool → Type 0 = λ b. IfErr c.load.result (λ fault. fault ≢ program.Memory → HasProgramFault b c.args.stack c.args.bytes.now fault) in
    subst P (sym c.if-is_raw.false) c.load.ensures.refused
