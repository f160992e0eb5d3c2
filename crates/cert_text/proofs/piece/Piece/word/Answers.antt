use Rattle.std.proofs.Common.{◌≡◌, ◌∙◌, ap, sym, arith, ℕ, List, [], ◌∷◌, ◌++◌}
use Rattle.keepers.specs.LineWrites.{seen}
use Rattle.keepers.proofs.LineSequences.{one_added, one_stopped, err_always}
use Rattle.cert_text.specs.LineWrites.{StopsAt}
use Rattle.cert_text.proofs.WordWrites.{put_next, stop_next}
use Rattle.cert_text.proofs.piece.Piece.word.Goals as goal

pub returns-in_err-write-clause-stopped : goal.returns-in_err-write-clause-stopped
returns-in_err-write-clause-stopped g c =
    let look = seen g.O.Sink in
    let self = c.args.self.now in
    let a = look c.args.out.now in let b = look c.write.new.self in
    let none : self.room ≡ 0 = omega (arith, c.if-self-gt0.false) in
    err_always c.from_residual.result (StopsAt (c.args.word.now ∷ []) self.room self.text a b)
    (stop_next c.args.word.now self.text self.room a b none
    (rw (sym c.bytes.ensures.value) (one_stopped c.bytes.result.now a b c.in_err-write.ensures.refused c.in_err-write.ensures.calls c.in_err-write.ensures.cause)))

pub returns-clause-ok : goal.returns-clause-ok
returns-clause-ok g c =
    let look = seen g.O.Sink in
    let self = c.args.self.now in
    let a = look c.args.out.now in let b = look c.write.new.self in
    let none : self.room ≡ 0 = omega (arith, c.if-self-gt0.false) in
    let less : c.add-2.new.self.room ≡ 15 = omega (arith, c.add-2.ensures.room) in
    let is = c.add-2.ensures.text ∙ ap (λ (t : List ℕ). t ++ 32 ∷ c.args.word.now) c.clear.ensures in
    put_next c.args.word.now self.text c.add-2.new.self.text self.room c.add-2.new.self.room a b none less is
    (rw (sym c.bytes.ensures.value) (one_added c.bytes.result.now a b c.in_ok-write.ensures.ok c.in_ok-write.ensures.calls c.in_ok-write.ensures.quiet))
