use Rattle.std.proofs.Common.{List, ℕ, [], ◌∷◌, ◌++◌, refl, length}
use Rattle.std.specs.Prelude.{codes}
use Rattle.std.specs.List.{range_with_len, flat_map}
use Rattle.keepers.specs.LineWrites.{seen, StopsIn}
use Rattle.keepers.proofs.LineSequences.{err_always, none_added}
use Rattle.cert_text.specs.declared.certificate.Certificate.TheVariants.{Nested}
use Rattle.cert_text.specs.WordLines.{level_lines}
use Rattle.cert_text.specs.Canonical.{pieces}
use Rattle.cert_text.proofs.RowWrites.{written_then, writes_stopped, last_written, last_stopped}
use Rattle.cert_text.proofs.printing_rows.print_nested.Goals as goal

pub returns-in_err-print_word-clause-stopped : goal.returns-in_err-print_word-clause-stopped
returns-in_err-print_word-clause-stopped g c =
    let look = seen g.O.Sink in
    let t = c.args.tables.now in
    let first : List (List (List ℕ)) = (codes "nested" ∷ []) ∷ [] in
    let last : List (List (List ℕ)) = (codes "end" ∷ []) ∷ [] in
    let levels = flat_map (level_lines t) (range_with_len 0 (length t.rooms)) in
    let a = look c.args.out.now in let b = look c.print_word.new.out in
    err_always c.from_residual.result (StopsIn (pieces (Nested t)) a b)
    (writes_stopped [] first (levels ++ last) (first ++ (levels ++ last)) a a b refl (none_added a) c.in_err-print_word.ensures.stopped)

pub returns-in_err-print_levels-clause-stopped : goal.returns-in_err-print_levels-clause-stopped
returns-in_err-print_levels-clause-stopped g c =
    let look = seen g.O.Sink in
    let t = c.args.tables.now in
    let first : List (List (List ℕ)) = (codes "nested" ∷ []) ∷ [] in
    let last : List (List (List ℕ)) = (codes "end" ∷ []) ∷ [] in
    let levels = flat_map (level_lines t) (range_with_len 0 (length t.rooms)) in
    let a = look c.args.out.now in let b = look c.print_word.new.out in let d = look c.print_levels.new.out in
    err_always c.from_residual-in_err-print_levels.result (StopsIn (pieces (Nested t)) a d)
    (writes_stopped first levels last (first ++ (levels ++ last)) a b d refl c.in_ok-print_word.ensures.ok c.in_err-print_levels.ensures.stopped)

pub returns-clause-ok : goal.returns-clause-ok
returns-clause-ok g c =
    let look = seen g.O.Sink in
    let t = c.args.tables.now in
    let first : List (List (List ℕ)) = (codes "nested" ∷ []) ∷ [] in
    let last : List (List (List ℕ)) = (codes "end" ∷ []) ∷ [] in
    let levels = flat_map (level_lines t) (range_with_len 0 (length t.rooms)) in
    let a = look c.args.out.now in let b = look c.print_word.new.out in let d = look c.print_levels.new.out in
    last_written c.print_word-2.result (first ++ levels) last (first ++ (levels ++ last)) a d (look c.print_word-2.new.out) refl
    (written_then first levels a b d c.in_ok-print_word.ensures.ok c.in_ok-print_levels.ensures.ok) c.print_word-2.ensures.ok

pub returns-clause-stopped : goal.returns-clause-stopped
returns-clause-stopped g c =
    let look = seen g.O.Sink in
    let t = c.args.tables.now in
    let first : List (List (List ℕ)) = (codes "nested" ∷ []) ∷ [] in
    let last : List (List (List ℕ)) = (codes "end" ∷ []) ∷ [] in
    let levels = flat_map (level_lines t) (range_with_len 0 (length t.rooms)) in
    let a = look c.args.out.now in let b = look c.print_word.new.out in let d = look c.print_levels.new.out in
    last_stopped c.print_word-2.result (first ++ levels) last (first ++ (levels ++ last)) a d (look c.print_word-2.new.out) refl
    (written_then first levels a b d c.in_ok-print_word.ensures.ok c.in_ok-print_levels.ensures.ok) c.print_word-2.ensures.stopped
