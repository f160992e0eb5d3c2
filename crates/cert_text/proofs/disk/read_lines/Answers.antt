use Rattle.std.proofs.Common.{length, arith}
use Rattle.std.specs.List.{range_with_len, flat_map}
use Rattle.std.proofs.lemmas.Result.{err_from_is_err_and, MatchResult-weaker}
use Rattle.cert_text.specs.WordLines.{level_lines}
use Rattle.cert_text.specs.Grammar.{column_wants}
use Rattle.cert_text.proofs.ReadDisk.{fresh_fault, held_fault, last_fault, all_said}
use Rattle.cert_text.proofs.disk.read_lines.Goals as goal

pub returns-in_err-read_levels : goal.returns-in_err-read_levels
returns-in_err-read_levels c =
    let p = err_from_is_err_and c.from_residual.result c.from_residual.ensures.1 in
    rw (p.1, p.2) (c.in_err-read_levels.ensures (column_wants c.args.fast.now.steps))

pub returns-in_err-read_column : goal.returns-in_err-read_column
returns-in_err-read_column c =
    let p = err_from_is_err_and c.from_residual-in_err-read_column.result c.from_residual-in_err-read_column.ensures.1 in
    rw (p.1, p.2) (fresh_fault _ c.args.fast.now (flat_map (level_lines c.read_levels.new.tables) (range_with_len 0 (length c.args.fast.now.rooms))) c.args.reader.now c.read_levels.new.reader
    c.in_err-read_column.field-0.0 (omega arith) c.in_ok-read_levels.ensures.0 c.in_err-read_column.ensures)

pub returns-in_err-read_column-2 : goal.returns-in_err-read_column-2
returns-in_err-read_column-2 c =
    let p = err_from_is_err_and c.from_residual-in_err-read_column-2.result c.from_residual-in_err-read_column-2.ensures.1 in
    rw (p.1, p.2) (held_fault _ _ c.args.fast.now (flat_map (level_lines c.read_levels.new.tables) (range_with_len 0 (length c.args.fast.now.rooms))) _ c.args.reader.now c.read_levels.new.reader
    c.read_column.new.reader c.in_err-read_column-2.field-0.0 (omega arith) (omega arith) c.in_ok-read_levels.ensures.0 c.in_ok-read_column.ensures.0 c.in_err-read_column-2.ensures)

pub returns : goal.returns
returns c =
    MatchResult-weaker c.read_end.result c.read_end.ensures
    (λ _ last. record {
      says = all_said _ c.read_column.new.row c.read_column-2.new.row c.args.reader.now c.read_levels.new.reader c.read_column.new.reader c.read_column-2.new.reader
          c.in_ok-read_levels.ensures.0.says c.in_ok-read_column.ensures.0.says c.in_ok-read_column-2.ensures.0.says last;
      levels = c.in_ok-read_levels.ensures.1;
      fresh_words = λ i low. c.in_ok-read_column.ensures.1 i (omega arith);
      held_words = λ i low. c.in_ok-read_column-2.ensures.1 i (omega arith);
      steps = c.in_ok-read_levels.ensures.2;
      rooms = c.in_ok-read_levels.ensures.3;
    })
    (λ fault wrong. last_fault _ _ c.args.fast.now _ _ _ c.args.reader.now c.read_levels.new.reader c.read_column.new.reader c.read_column-2.new.reader fault (omega arith) (omega arith)
    c.in_ok-read_levels.ensures.0 c.in_ok-read_column.ensures.0 c.in_ok-read_column-2.ensures.0 wrong)
