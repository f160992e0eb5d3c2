use Rattle.std.proofs.Common.{List, [], ◌∷◌, ℕ, refl, sym, subst, append-nil}
use Rattle.keepers.specs.Claims.{Tells, AddsPrefix}
use Rattle.reversal.specs.Output.{Adds}
use Rattle.reversal.proofs.DeedSequences.{tells_nothing, raised_none}
use Rattle.reversal.proofs.Pieces.{texts_done, texts_stopped}
use Rattle.reversal.proofs.job.write_bytes.Goals as goal

pub returns-in-Ok : goal.returns-in-Ok
returns-in-Ok g c other steps =
    let text : List ℕ = c.args.bytes.now in
    let P : List ℕ → Type 0 = λ l. Tells (g.O.Sink.told c.args.out.now) (g.O.Sink.told c.write.new.self) (Adds l) in
    texts_done (text ∷ []) _ _ _ (record { steps = refl; calls = refl }) (record { sink = c.in-Ok.ensures.quiet; keepers = λ k. refl }) refl
    (subst P (sym (append-nil text)) c.in-Ok.ensures.ok) c.in-Ok.ensures.calls

pub returns-in-Err : goal.returns-in-Err
returns-in-Err g c other steps =
    let text : List ℕ = c.args.bytes.now in
    let P : List ℕ → Type 0 = λ l. Tells (g.O.Sink.told c.args.out.now) (g.O.Sink.told c.write.new.self) (AddsPrefix l) in
    texts_stopped [] text [] (text ∷ []) _ (g.O.Sink.told c.args.out.now) (g.O.Sink.call_count c.args.out.now) _ _ (record { steps = refl; calls = refl }) (record { sink = c.in-Err.ensures.cause; keepers = λ k. refl }) refl
    refl (tells_nothing _ _ refl) (raised_none _) c.in-Err.ensures.refused c.in-Err.ensures.calls
