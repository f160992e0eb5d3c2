use Rattle.std.proofs.Common.{[], ◌∷◌}
use Rattle.keepers.specs.LineWrites.{seen, StopsIn}
use Rattle.keepers.proofs.LineSequences.{err_always}
use Rattle.cert_text.specs.LineWrites.{writes}
use Rattle.cert_text.proofs.WordWrites.{one_line_ended, one_line_stopped}
use Rattle.cert_text.proofs.RowWrites.{head_stopped}
use Rattle.cert_text.proofs.printing_rows.print_word.Goals as goal

pub returns-in_err-word-clause-stopped : goal.returns-in_err-word-clause-stopped
returns-in_err-word-clause-stopped g c =
    let look = seen g.O.Sink in
    let p = c.new-piece.result in let word = c.args.word.now in
    let a = look c.args.out.now in let b = look c.word.new.out in
    err_always c.from_residual.result (StopsIn (writes ((word ∷ []) ∷ [])) a b)
    (head_stopped (word ∷ []) [] p.room p.text a b c.new-piece.ensures.room c.new-piece.ensures.text c.in_err-word.ensures.stopped)

pub returns-clause-ok : goal.returns-clause-ok
returns-clause-ok g c =
    let look = seen g.O.Sink in
    let p = c.new-piece.result in let q = c.word.new.self in
    one_line_ended c.end.result (c.args.word.now ∷ []) p.room q.room p.text q.text (look c.args.out.now) (look c.word.new.out) (look c.end.new.out) c.new-piece.ensures.room c.new-piece.ensures.text
    c.in_ok-word.ensures.ok c.end.ensures.ok

pub returns-clause-stopped : goal.returns-clause-stopped
returns-clause-stopped g c =
    let look = seen g.O.Sink in
    let p = c.new-piece.result in let q = c.word.new.self in
    one_line_stopped c.end.result (c.args.word.now ∷ []) p.room q.room p.text q.text (look c.args.out.now) (look c.word.new.out) (look c.end.new.out) c.new-piece.ensures.room c.new-piece.ensures.text
    c.in_ok-word.ensures.ok c.end.ensures.stopped
