use Rattle.std.proofs.Common.{◌≡◌, ◌++◌, ℕ, List, Result, Ok, Err, OnOk, sym, ap, ◌∙◌, append_assoc}
use Rattle.std.specs.Prelude.{codes, if◌then◌else◌}
use Rattle.std.specs.Result.{is_ok}
use Rattle.hex.specs.Hex.{encode_lower}
use Rattle.rv_machine.specs.MachineState.{MachineState}
use Rattle.state_image.specs.Line.{line, line_front, digest_word}
use Rattle.gdb_replies.proofs.state_words.push_state_line.Goals as goal

-- the front of a line, and its digest
line_is : (n : ℕ) (s : MachineState) (front digest : List ℕ) → front ≡ line_front n s → digest ≡ digest_word s →
    front ++ codes " " ++ digest ≡ line n s
line_is n s front digest e h = ap (λ l. l ++ codes " " ++ digest) e ∙ ap (λ d. line_front n s ++ codes " " ++ d) h

-- what a call added, where it had the memory
added : {T E : Type 0} (r : Result T E) (new old more all : List ℕ) → new ≡ (if is_ok r then old ++ more else old) → old ++ more ≡ all → OnOk r (new ≡ all)
added (Ok x) new old more all e h = e ∙ h
added (Err x) new old more all e h = tt

pub returns : goal.returns
returns c =
    let old = c.args.out.now.items in
    let whole = line c.args.n c.args.state.now in
    let front = line_is c.args.n c.args.state.now c.line_front.new.text (encode_lower c.image_digest.result) c.line_front.ensures.text (ap encode_lower c.image_digest.ensures) in
    let text : c.bytes.result.now ≡ whole ++ codes "\n" = c.bytes.ensures.value ∙ (c.push.ensures ∙ ap (λ l. l ++ codes "\n") (c.push_digest.ensures.text ∙ front)) in
    added c.extend_from_slice.result c.extend_from_slice.new.self.items old c.bytes.result.now (old ++ whole ++ codes "\n") c.extend_from_slice.ensures.items
    (ap (λ l. old ++ l) text ∙ sym (append_assoc old whole (codes "\n")))
