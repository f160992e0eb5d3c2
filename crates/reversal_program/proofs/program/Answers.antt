use Rattle.std.proofs.Common.{◌≡◌, ℕ, List, Option, ap, subst, inl, inr}
use Rattle.keepers.specs.Claims.{Files}
use Rattle.keepers.specs.declared.stdout_sink.StdoutSink.{StdoutSink}
use Rattle.requests.specs.Request.{words_of}
use Rattle.reversal_program.specs.Run.{IsRun}
use Rattle.reversal_program.proofs.program.Goals as goal

-- by what the inputs and the sink are when they are made
made : {W : Type 0} (P : Option Files → List (List ℕ) → ℕ → StdoutSink W → Type 0) (told told' : Option Files) (asked asked' : List (List ℕ)) (faults faults' : ℕ) (out out' : StdoutSink W) →
    told ≡ told' → asked ≡ asked' → faults ≡ faults' → out ≡ out' → P told asked faults out → P told' asked' faults' out'
made P told told' asked asked' faults faults' out out' t a f o p =
    subst (λ x. P told' asked' faults' x) o (subst (λ x. P told' asked' x out) f (subst (λ x. P told' x faults out) a (subst (λ x. P x asked faults out) t p)))

pub returns-clause-done : goal.returns-clause-done
returns-clause-done g c =
    let call = c.reversal-ended in
    let top = call.ensures in
    let words = words_of c.args.words.now in
    let inputs = c.new-inputs.result in
    let ks = c.in_ok-keepers.keepers in
    let out = c.new-out.result in
    let Run : Option Files → List (List ℕ) → ℕ → StdoutSink _ → Type 0 = λ told asked faults sink.
    IsRun g.D.Disk.told g.W.Write.contents words told asked call.new.inputs.asked faults call.new.inputs.faults ks.items call.new.keepers.items sink call.new.out
    c.args.steps.now call.new.steps call.result in
    let first : Run (g.D.Disk.told inputs.disk) inputs.asked inputs.faults out = record {
      says = top.says;
      unread = λ e refuses. (let h = top.unread e refuses in (h.0, ap (λ i. i.asked) h.1, ap (λ i. i.faults) h.1));
      asks = top.asks;
      input = top.input;
      input_cause = top.input_cause;
      input_quiet = top.input_quiet;
      decided = λ r asks read found. (let h = top.decided r asks read found in (h.0, h.1, h.2, h.3, h.4));
      memory = λ ended. (let h = top.memory ended in (
        h.0,
        elim h.1 [
          | inl still ↦ inl (still.0, ap (λ v. v.items) still.1, still.2)
          | inr j ↦ inr (j.0, j.1, j.2, j.3, j.4, j.5, j.6, λ roomy. (let still = j.7 roomy in (still.0, ap (λ v. v.items) still.1, still.2)))
        ],
      ));
      stay = top.stay;
      untouched = λ other. (let still = top.untouched other in (still.0, ap (λ v. v.items) still.1, still.2));
    } in
    (ks.items, c.in_ok-keepers.ensures, made Run _ _ _ _ _ _ _ _ c.new-inputs.ensures.told c.new-inputs.ensures.asked c.new-inputs.ensures.faults c.new-out.ensures first)
