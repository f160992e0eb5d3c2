use Rattle.std.proofs.Common.{[], ◌∷◌}
use Rattle.std.specs.Prelude.{decimal}
use Rattle.keepers.specs.LineWrites.{seen}
use Rattle.keepers.proofs.LineSequences.{err_always}
use Rattle.cert_text.specs.LineWrites.{StopsAt}
use Rattle.cert_text.proofs.WordWrites.{put_then, stop_then}
use Rattle.cert_text.proofs.RowWrites.{put_last, stop_last, stop_before}
use Rattle.cert_text.proofs.printing_rows.put_head.Goals as goal

pub returns-in_err-word-clause-stopped : goal.returns-in_err-word-clause-stopped
returns-in_err-word-clause-stopped g c =
    let look = seen g.O.Sink in
    let letter = c.args.letter.now in let k = decimal c.args.k in let m = decimal c.args.m in
    let p = c.args.piece.now in
    let a = look c.args.out.now in let b = look c.word.new.out in
    err_always c.from_residual.result (StopsAt (letter ∷ k ∷ m ∷ []) p.room p.text a b)
    (stop_before (letter ∷ []) (k ∷ m ∷ []) p.room p.text a b c.in_err-word.ensures.stopped)

pub returns-in_err-number-clause-stopped : goal.returns-in_err-number-clause-stopped
returns-in_err-number-clause-stopped g c =
    let look = seen g.O.Sink in
    let letter = c.args.letter.now in let k = decimal c.args.k in let m = decimal c.args.m in
    let p = c.args.piece.now in let q = c.word.new.self in
    let a = look c.args.out.now in let b = look c.word.new.out in let d = look c.number.new.out in
    err_always c.from_residual-in_err-number.result (StopsAt (letter ∷ k ∷ m ∷ []) p.room p.text a d)
    (stop_before (letter ∷ k ∷ []) (m ∷ []) p.room p.text a d
    (stop_then (letter ∷ []) (k ∷ []) p.room q.room p.text q.text a b d c.in_ok-word.ensures.ok c.in_err-number.ensures.stopped))

pub returns-clause-ok : goal.returns-clause-ok
returns-clause-ok g c =
    let look = seen g.O.Sink in
    let letter = c.args.letter.now in let k = decimal c.args.k in let m = decimal c.args.m in
    let p = c.args.piece.now in let q = c.word.new.self in let r = c.number.new.self in let s = c.number-2.new.self in
    let a = look c.args.out.now in let b = look c.word.new.out in let d = look c.number.new.out in
    put_last c.number-2.result (letter ∷ k ∷ []) (m ∷ []) p.room r.room s.room p.text r.text s.text a d (look c.number-2.new.out)
    (put_then (letter ∷ []) (k ∷ []) p.room q.room r.room p.text q.text r.text a b d c.in_ok-word.ensures.ok c.in_ok-number.ensures.ok) c.number-2.ensures.ok

pub returns-clause-stopped : goal.returns-clause-stopped
returns-clause-stopped g c =
    let look = seen g.O.Sink in
    let letter = c.args.letter.now in let k = decimal c.args.k in let m = decimal c.args.m in
    let p = c.args.piece.now in let q = c.word.new.self in let r = c.number.new.self in
    let a = look c.args.out.now in let b = look c.word.new.out in let d = look c.number.new.out in
    stop_last c.number-2.result (letter ∷ k ∷ []) (m ∷ []) p.room r.room p.text r.text a d (look c.number-2.new.out)
    (put_then (letter ∷ []) (k ∷ []) p.room q.room r.room p.text q.text r.text a b d c.in_ok-word.ensures.ok c.in_ok-number.ensures.ok) c.number-2.ensures.stopped
