use Rattle.std.proofs.Common.{inr, length, [], ◌∷◌}
use Rattle.std.specs.Prelude.{codes}
use Rattle.std.specs.List.{range_with_len, flat_map}
use Rattle.std.proofs.lemmas.Result.{err_from_is_err_and}
use Rattle.cert_text.specs.WordLines.{level_lines}
use Rattle.cert_text.specs.Grammar.{this_word}
use Rattle.cert_text.proofs.ReadTables.{fault_in_levels, fault_at_end}
use Rattle.cert_text.proofs.nested.read_nested.Goals as goal

pub returns-in_err-read_levels : goal.returns-in_err-read_levels
returns-in_err-read_levels c =
    let p = err_from_is_err_and c.from_residual-in_err-read_levels.result c.from_residual-in_err-read_levels.ensures.1 in
    rw (p.1, p.2) (inr (fault_in_levels c.args.setting.now.steps c.args.setting.now.book.now c.in_ok-tables.tables ((this_word (codes "end") ∷ []) ∷ []) c.args.reader.now c.in_err-read_levels.field-0.0 c.in_ok-tables.ensures.sizes c.in_err-read_levels.ensures))

pub returns-in_err-read_end : goal.returns-in_err-read_end
returns-in_err-read_end c =
    let p = err_from_is_err_and c.from_residual-in_err-read_end.result c.from_residual-in_err-read_end.ensures.1 in
    rw (p.1, p.2) (inr (fault_at_end c.args.setting.now.steps c.args.setting.now.book.now c.in_ok-tables.tables ((this_word (codes "end") ∷ []) ∷ []) (flat_map (level_lines c.read_levels.new.tables) (range_with_len 0 (length c.in_ok-tables.tables.rooms))) c.args.reader.now c.read_levels.new.reader
    c.in_err-read_end.field-0.0 c.in_ok-tables.ensures.sizes c.in_ok-read_levels.ensures.0 c.in_err-read_end.ensures))
