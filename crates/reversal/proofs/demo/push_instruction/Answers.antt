use Rattle.std.proofs.Common.{◌≡◌, ℕ, ◌++◌, List, Result, Ok, Err, OnOk, sym, ◌∙◌, ap, subst}
use Rattle.std.specs.Bool.{if◌then◌else◌}
use Rattle.std.specs.Result.{is_ok}
use Rattle.std.specs.Int.{w32, to_le_bytes}
use Rattle.rv_decode.specs.Words.{word_of}
use Rattle.rv_decode.proofs.EncodingUniqueness.{only}
use Rattle.reversal.proofs.demo.push_instruction.Goals as goal

-- what became of a list where the call was done
where_done : {E : Type 0} (r : Result (Unit {0}) E) (new done old : List ℕ) → new ≡ if is_ok r then done else old → OnOk r (new ≡ done)
where_done (Ok x) new done old e = e
where_done (Err x) new done old e = tt

pub returns : goal.returns
returns c =
    let word : c.encode.result ≡ word_of c.args.inst.now = sym (only c.encode.result c.args.inst.now c.encode.type_inv c.encode.ensures.read_again) in
    let P : List ℕ → Type 0 = λ l. OnOk c.extend_from_slice.result (c.extend_from_slice.new.self.items ≡ c.args.bytes.now.items ++ l) in
    subst P (c.to_le_bytes.ensures ∙ ap (to_le_bytes w32) word) (where_done c.extend_from_slice.result _ _ _ c.extend_from_slice.ensures.items)
