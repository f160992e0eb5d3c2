use Rattle.std.proofs.Common.{[], ◌∷◌}
use Rattle.std.specs.Prelude.{codes, decimal}
use Rattle.keepers.specs.LineWrites.{seen, StopsIn}
use Rattle.keepers.proofs.LineSequences.{err_always, stopped_before}
use Rattle.cert_text.specs.declared.certificate.Certificate.TheVariants.{Places}
use Rattle.cert_text.specs.Canonical.{pieces, pieces_from}
use Rattle.cert_text.proofs.WordWrites.{put_then, stop_then, line_stopped, one_line_ended, one_line_stopped}
use Rattle.cert_text.proofs.printing.print_places.Goals as goal

pub returns-in_err-word-clause-stopped : goal.returns-in_err-word-clause-stopped
returns-in_err-word-clause-stopped g c =
    let look = seen g.O.Sink in
    let p = c.new-piece.result in let n = c.args.threshold in
    let a = look c.args.out.now in let b = look c.word.new.out in
    err_always c.from_residual.result (StopsIn (pieces (Places n)) a b)
    (stopped_before (pieces_from 16 (codes "#!") (codes "places" ∷ decimal n ∷ [])) [] a b
    (line_stopped (codes "places" ∷ []) (decimal n ∷ []) p.room p.text a b c.new-piece.ensures.room c.new-piece.ensures.text c.in_err-word.ensures.stopped))

pub returns-in_err-number-clause-stopped : goal.returns-in_err-number-clause-stopped
returns-in_err-number-clause-stopped g c =
    let look = seen g.O.Sink in
    let p = c.new-piece.result in let q = c.word.new.self in let n = c.args.threshold in
    let a = look c.args.out.now in let b = look c.word.new.out in let d = look c.number.new.out in
    err_always c.from_residual-in_err-number.result (StopsIn (pieces (Places n)) a d)
    (stopped_before (pieces_from 16 (codes "#!") (codes "places" ∷ decimal n ∷ [])) [] a d
    (line_stopped (codes "places" ∷ decimal n ∷ []) [] p.room p.text a d c.new-piece.ensures.room c.new-piece.ensures.text
    (stop_then (codes "places" ∷ []) (decimal n ∷ []) p.room q.room p.text q.text a b d c.in_ok-word.ensures.ok c.in_err-number.ensures.stopped)))

pub returns-clause-ok : goal.returns-clause-ok
returns-clause-ok g c =
    let look = seen g.O.Sink in
    let p = c.new-piece.result in let q = c.word.new.self in let r = c.number.new.self in let n = c.args.threshold in
    let a = look c.args.out.now in let b = look c.word.new.out in let d = look c.number.new.out in
    one_line_ended c.end.result (codes "places" ∷ decimal n ∷ []) p.room r.room p.text r.text a d (look c.end.new.out) c.new-piece.ensures.room c.new-piece.ensures.text
    (put_then (codes "places" ∷ []) (decimal n ∷ []) p.room q.room r.room p.text q.text r.text a b d c.in_ok-word.ensures.ok c.in_ok-number.ensures.ok) c.end.ensures.ok

pub returns-clause-stopped : goal.returns-clause-stopped
returns-clause-stopped g c =
    let look = seen g.O.Sink in
    let p = c.new-piece.result in let q = c.word.new.self in let r = c.number.new.self in let n = c.args.threshold in
    let a = look c.args.out.now in let b = look c.word.new.out in let d = look c.number.new.out in
    one_line_stopped c.end.result (codes "places" ∷ decimal n ∷ []) p.room r.room p.text r.text a d (look c.end.new.out) c.new-piece.ensures.room c.new-piece.ensures.text
    (put_then (codes "places" ∷ []) (decimal n ∷ []) p.room q.room r.room p.text q.text r.text a b d c.in_ok-word.ensures.ok c.in_ok-number.ensures.ok) c.end.ensures.stopped
