use Rattle.reverse_runner.proofs.Common.{◌≡◌, subst, Some, None, Ok, Err, ◌↔◌, page_numbers, MachineState}
use Rattle.state_image.specs.ImageForm.{first_wrong, first_unmapped}
use Rattle.state_image.specs.declared.fault.ImageFault.{ImageFault}
use Rattle.reverse_runner.proofs.known_state.KnownState.decode.Goals as goal

pub returns-in-Ok-clause-other_pages : goal.returns-in-Ok-clause-other_pages
returns-in-Ok-clause-other_pages c page =
    subst (λ (s : MachineState). (Ok tt ≡ Err (ImageFault.OtherPages page)) ↔ ((first_wrong c.args.bytes.now ≡ None) × (first_unmapped c.args.bytes.now (page_numbers s.memory) ≡ Some page))) c.self.view_is (c.in-Ok.ensures.other_pages page)

pub returns-in-Err-clause-other_pages : goal.returns-in-Err-clause-other_pages
returns-in-Err-clause-other_pages c page =
    subst (λ (s : MachineState). (Err c.in-Err.fault ≡ Err (ImageFault.OtherPages page)) ↔ ((first_wrong c.args.bytes.now ≡ None) × (first_unmapped c.args.bytes.now (page_numbers s.memory) ≡ Some page))) c.self.view_is (c.in-Err.ensures.other_pages page)
