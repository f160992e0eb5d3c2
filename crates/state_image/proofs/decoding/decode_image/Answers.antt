use Rattle.std.proofs.Common.{◌≡◌, ℕ, List, Some, None, refl, sym, subst, ◌∙◌, arith}
use Rattle.rv_pages.specs.Memory.{page_numbers}
use Rattle.rv_machine.specs.MachineState.{MachineState, IsMachineState}
use Rattle.state_image.specs.Image.{image}
use Rattle.state_image.specs.ImageForm.{first_unmapped}
use Rattle.state_image.specs.Decoder.{AreMapped, MarksNamed, IsRight}
use Rattle.state_image.proofs.HashedPages.{no_marks}
use Rattle.state_image.proofs.RightFields.{is_right, none_wrong}
use Rattle.state_image.proofs.ImageInjectivity.{image_tells}
use Rattle.state_image.proofs.Images.{image_right, all_mapped}
use Rattle.state_image.proofs.ImageRoundTrip.{image_again}
use Rattle.state_image.proofs.decoding.decode_image.Goals as goal

no_some : (x : ℕ) → None ≡ Some x → ⊥
no_some x e = cc

pub first_unmapped-requires-clause-image : goal.first_unmapped-requires-clause-image
first_unmapped-requires-clause-image c = is_right c.args.bytes.now (sym c.in_default.ensures)

pub first_unmapped-requires-clause-unmarked : goal.first_unmapped-requires-clause-unmarked
first_unmapped-requires-clause-unmarked c = λ k. no_marks 4096 k

pub take_state-requires-clause-image : goal.take_state-requires-clause-image
take_state-requires-clause-image c = is_right c.args.bytes.now (sym c.in_default.ensures)

pub take_state-requires-clause-mapped : goal.take_state-requires-clause-mapped
take_state-requires-clause-mapped c = subst (λ (s : MachineState). AreMapped c.args.bytes.now (page_numbers s.memory)) c.state.view_is c.in_default-first_unmapped.ensures.mapped

pub take_state-requires-clause-marked : goal.take_state-requires-clause-marked
take_state-requires-clause-marked c = subst (λ (s : MachineState). MarksNamed c.args.bytes.now (page_numbers s.memory) c.first_unmapped.new.named) c.state.view_is c.first_unmapped.ensures.marked

pub returns-clause-decoded : goal.returns-clause-decoded
returns-clause-decoded c =
    let right = is_right c.args.bytes.now (sym c.in_default.ensures) in
    let mapped : AreMapped c.args.bytes.now (page_numbers c.args.state.now.memory) = subst (λ (s : MachineState). AreMapped c.args.bytes.now (page_numbers s.memory)) c.state.view_is c.in_default-first_unmapped.ensures.mapped in
    let mapped' : AreMapped c.args.bytes.now (page_numbers c.take_state.new.state.memory) = subst (λ (ns : List ℕ). AreMapped c.args.bytes.now ns) (sym c.take_state.ensures.pages) mapped in
    image_again c.args.bytes.now (λ i. omega (arith, c.type_inv.bytes i)) right c.take_state.new.state c.take_state.ensures.state c.is_machine_state.ensures.memory mapped'

pub returns-clause-other_pages : goal.returns-clause-other_pages
returns-clause-other_pages c = λ page.
    let none : None ≡ first_unmapped c.args.bytes.now (page_numbers c.args.state.now.memory) =
    subst (λ (s : MachineState). None ≡ first_unmapped c.args.bytes.now (page_numbers s.memory)) c.state.view_is c.in_default-first_unmapped.ensures.value in
    (λ e. absurd (cc (e)), λ h. absurd (no_some page (none ∙ h.1)))

-- bytes that are the image of a state
right_bytes : (bytes : List ℕ) (s : MachineState) → IsMachineState s → image s ≡ bytes → IsRight bytes
right_bytes bytes s is same = subst IsRight same (image_right s is)

pub returns-clause-again : goal.returns-clause-again
returns-clause-again c = λ s is pages same.
    let right = is_right c.args.bytes.now (sym c.in_default.ensures) in
    let mapped : AreMapped c.args.bytes.now (page_numbers c.args.state.now.memory) = subst (λ (s : MachineState). AreMapped c.args.bytes.now (page_numbers s.memory)) c.state.view_is c.in_default-first_unmapped.ensures.mapped in
    let mapped' : AreMapped c.args.bytes.now (page_numbers c.take_state.new.state.memory) = subst (λ (ns : List ℕ). AreMapped c.args.bytes.now ns) (sym c.take_state.ensures.pages) mapped in
    let again = image_again c.args.bytes.now (λ i. omega (arith, c.type_inv.bytes i)) right c.take_state.new.state c.take_state.ensures.state c.is_machine_state.ensures.memory mapped' in
    (refl, image_tells c.take_state.new.state s c.is_machine_state.ensures is (c.take_state.ensures.pages ∙ sym pages) (again ∙ sym same))

pub returns-in-Some-clause-again : goal.returns-in-Some-clause-again
returns-in-Some-clause-again c = λ s is pages same.
    absurd (no_some c.in-Some.at (sym (none_wrong c.args.bytes.now (right_bytes c.args.bytes.now s is same)) ∙ sym c.in-Some.ensures))

pub returns-in-Some-first_unmapped-clause-again : goal.returns-in-Some-first_unmapped-clause-again
returns-in-Some-first_unmapped-clause-again c = λ s is pages same.
    let all : first_unmapped (image s) (page_numbers s.memory) ≡ None = all_mapped s is in
    let found : Some c.in-Some-first_unmapped.page ≡ first_unmapped c.args.bytes.now (page_numbers c.args.state.now.memory) =
    subst (λ (s : MachineState). Some c.in-Some-first_unmapped.page ≡ first_unmapped c.args.bytes.now (page_numbers s.memory)) c.state.view_is c.in-Some-first_unmapped.ensures.value in
    absurd (no_some c.in-Some-first_unmapped.page (sym all ∙ (λ i. first_unmapped (same i) (pages i)) ∙ sym found))
