use Rattle.std.proofs.Common.{◌∙◌, [], ◌∷◌, ◌++◌}
use Rattle.keepers.specs.LineWrites.{seen}
use Rattle.keepers.proofs.LineSequences.{write_stopped}
use Rattle.cert_text.proofs.piece.Piece.end.Goals as goal

pub returns-clause-stopped : goal.returns-clause-stopped
returns-clause-stopped g c =
    let look = seen g.O.Sink in
    write_stopped c.write.result (c.args.self.text ++ 10 ∷ []) c.bytes.result.now (look c.args.out.now) (look c.write.new.self) (c.bytes.ensures.value ∙ c.push.ensures) c.write.ensures.refused c.write.ensures.calls c.write.ensures.cause
