use Rattle.std.proofs.Common.{◌≡◌, ◌+◌, ℕ, List, [], true, eqb, length, refl, sym, ap, ◌∙◌, arith}
use Rattle.plan_types.specs.declared.action.Action.{Action}
use Rattle.level_book.specs.BookCosts.{names_of}
use Rattle.action_text.specs.CursorState.{Rest}
use Rattle.line_texts.specs.Lines.{lines}
use Rattle.action_text.specs.Parser.{has_line, next_line, here_of}
use Rattle.action_text.proofs.ManyLines.{here_err, here_ok, lines_end, lines_next, one_line_less, first_line_here}
use Rattle.line_texts.proofs.NextToken.{lines_few}
use Rattle.action_text.proofs.NextToken.{lines_are}
use Rattle.action_text.proofs.reading.read_lines.Goals as goal

pub lines-init : goal.lines-init
lines-init c =
    let names = names_of c.args.book.now in
    let some : has_line (lines c.args.bytes.now) ≡ true = ap has_line (lines_are c.args.bytes.now) in
    record {
      read = ap (λ (list : List Action). here_of names list 1 c.new-cursor.result) c.in_ok-list.ensures.items
          ∙ ap (here_of names [] 1) c.new-cursor.ensures ∙ first_line_here names c.args.bytes.now;
      lines = ap (λ (r : Rest). 1 + length r.later) c.new-cursor.ensures ∙ omega (arith, one_line_less (lines c.args.bytes.now) some);
    }

pub returns-in-Err : goal.returns-in-Err
returns-in-Err c =
    let names = names_of c.args.book.now in
    let len : c.len-full.result ≡ length c.lines.list.items = omega (arith, c.len-full.ensures, c.lines.list.ok.0) in
    rw c.at.ensures (
    sym c.lines.invariant.read
    ∙ here_err names c.lines.list.items c.lines.number c.lines.cursor (eqb c.len-full.result 16777216) c.in-Err.fault (ap (λ (k : ℕ). eqb k 16777216) len) c.in-Err.ensures.value)

pub returns-then-not-next_line : goal.returns-then-not-next_line
returns-then-not-next_line c =
    let names = names_of c.args.book.now in
    let len : c.len-full.result ≡ length c.lines.list.items = omega (arith, c.len-full.ensures, c.lines.list.ok.0) in
    sym c.lines.invariant.read
    ∙ here_ok names c.lines.list.items c.push_found.new.list.items c.lines.number c.lines.cursor (eqb c.len-full.result 16777216) c.in-Ok.found
    (ap (λ (k : ℕ). eqb k 16777216) len) c.in-Ok.ensures.value c.in_ok-push_found.ensures.added
    ∙ lines_end names c.push_found.new.list.items (c.lines.number + 1) c.lines.cursor.later (ap has_line (sym c.in-Ok.ensures.later) ∙ sym c.next_line.ensures.more ∙ c.if-not-next_line.true)

-- there is a line more
more_lines : (c : goal.Else-not-next_line) → has_line c.lines.cursor.later ≡ true
more_lines c = ap has_line (sym c.in-Ok.ensures.later) ∙ sym c.next_line.ensures.more ∙ c.if-not-next_line.false

pub overflow_add-number : goal.overflow_add-number
overflow_add-number c =
    let one_less = one_line_less c.lines.cursor.later (more_lines c) in
    omega (arith, one_less, c.lines.invariant.lines, lines_few c.args.bytes.now, c.requires)

pub lines-preserved : goal.lines-preserved
lines-preserved c =
    let names = names_of c.args.book.now in
    let len : c.len-full.result ≡ length c.lines.list.items = omega (arith, c.len-full.ensures, c.lines.list.ok.0) in
    let next : c.next_line.new.self ≡ next_line c.lines.cursor.later = c.if-not-next_line.ensures.goes refl ∙ ap next_line c.in-Ok.ensures.later in
    let one_less = one_line_less c.lines.cursor.later (more_lines c) in
    record {
      read = ap (here_of names c.push_found.new.list.items (c.lines.number + 1)) next
          ∙ lines_next names c.push_found.new.list.items (c.lines.number + 1) c.lines.cursor.later (more_lines c)
          ∙ sym (here_ok names c.lines.list.items c.push_found.new.list.items c.lines.number c.lines.cursor (eqb c.len-full.result 16777216) c.in-Ok.found
          (ap (λ (k : ℕ). eqb k 16777216) len) c.in-Ok.ensures.value c.in_ok-push_found.ensures.added)
          ∙ c.lines.invariant.read;
      lines = omega (arith, one_less, c.lines.invariant.lines, ap (λ (r : Rest). length r.later) next);
    }
