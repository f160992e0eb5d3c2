use Rattle.std.proofs.Common.{List, ℕ, map, subst}
use Rattle.std.proofs.lemmas.Result.{on_ok_weaker}
use Rattle.gdb_session.specs.Moves.{console_text, ArePieces}
use Rattle.gdb_session.proofs.PendingOutput.{shows_texts}
use Rattle.gdb_session.proofs.server.Server.push_output.Goals as goal

pub returns-clause-shows : goal.returns-clause-shows
returns-clause-shows g c =
    let d = c.args.self.now.session in
    on_ok_weaker c.push_pieces.result
    (λ pieces. (map console_text pieces.0, shows_texts d.quiet d.run c.args.from d.place c.in_ok-bytes.bytes.items pieces.0 c.in_ok-bytes.ensures.bytes (subst (λ (l : List ℕ). ArePieces l pieces.0) c.as_slice.ensures.value pieces.1), pieces.2, pieces.3))
    c.push_pieces.ensures.pieces
