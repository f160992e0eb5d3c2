-- A state's code for comparisons: the tuple of its fields.
use Rattle.std.specs.Prelude.{ℕ, List, refl}
use Rattle.std.specs.Coded.{Coded, code_by, coded×, coded_ℕ, coded_list}
use Rattle.std.specs.FinMap as finmap
use Rattle.rv_pages.specs.Memory.{Memory}
use Rattle.rv_machine.specs.declared.status.Status.{Status}
use Rattle.rv_machine.specs.contracts.status.Status as status
use Rattle.rv_machine.specs.MachineState.{MachineState}

abbrev pub state_code : Coded MachineState
state_code =
    code_by (ℕ × (List ℕ × (Status × (ℕ × (ℕ × (ℕ × Memory))))))
    (coded× coded_ℕ (coded× (coded_list coded_ℕ)
    (coded× status.the_row.coded (coded× coded_ℕ (coded× coded_ℕ (coded× coded_ℕ (finmap.code coded_ℕ coded_ℕ)))))))
    (λ s. (s.pc, (s.registers, (s.status, (s.item, (s.offset, (s.written, s.memory)))))))
    (λ p. record { pc = p.0; registers = p.1.0; status = p.1.1.0; item = p.1.1.1.0; offset = p.1.1.1.1.0; written = p.1.1.1.1.1.0; memory = p.1.1.1.1.1.1 })
    (λ _. refl)
