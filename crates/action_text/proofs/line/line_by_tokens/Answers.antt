use Rattle.std.proofs.Common.{◌≡◌, false, sym, ap, ◌∙◌, refl}
use Rattle.std.proofs.lemmas.Result.{err_from_is_err_and}
use Rattle.level_book.specs.BookCosts.{names_of}
use Rattle.action_text.specs.Parser.{says_nothing, profiled}
use Rattle.line_texts.specs.Parsers.{◌>>=◌}
use Rattle.action_text.proofs.LineCases.{line_kindless, line_of_kind, action_some}
use Rattle.action_text.proofs.line.line_by_tokens.Goals as goal

pub returns-in_default-clause-value : goal.returns-in_default-clause-value
returns-in_default-clause-value c =
    let some : says_nothing c.args.cursor.now.tokens ≡ false = sym c.says_nothing.ensures.value ∙ c.if-says_nothing.false in
    line_kindless (names_of c.args.book.now) c.args.full c.args.cursor.now c.says_nothing.new.self c.column-column.result some c.says_nothing.ensures.stays c.column-column.ensures c.in_default.ensures.0

pub returns-then-full-clause-value : goal.returns-then-full-clause-value
returns-then-full-clause-value c =
    let some : says_nothing c.args.cursor.now.tokens ≡ false = sym c.says_nothing.ensures.value ∙ c.if-says_nothing.false in
    line_of_kind (names_of c.args.book.now) c.args.full c.args.cursor.now c.says_nothing.new.self c.take_kind.new.cursor c.in-Some.kind c.column-column.result some c.says_nothing.ensures.stays c.column-column.ensures c.in-Some.ensures
    ∙ rw c.if-full.true refl

pub returns-in_err-action-clause-value : goal.returns-in_err-action-clause-value
returns-in_err-action-clause-value c =
    let p = err_from_is_err_and c.from_residual.result c.from_residual.ensures.1 in
    let some : says_nothing c.args.cursor.now.tokens ≡ false = sym c.says_nothing.ensures.value ∙ c.if-says_nothing.false in
    rw (p.1, p.2) (
    line_of_kind (names_of c.args.book.now) c.args.full c.args.cursor.now c.says_nothing.new.self c.take_kind.new.cursor c.in-Some.kind c.column-column.result some c.says_nothing.ensures.stays c.column-column.ensures c.in-Some.ensures
    ∙ action_some (names_of c.args.book.now) c.column-column.result c.take_kind.new.cursor c.in-Some.kind c.args.full c.if-full.false
    ∙ ap (λ r. r >>= profiled c.column-column.result) c.in_err-action.ensures.value)

pub returns-in_default-2-clause-value : goal.returns-in_default-2-clause-value
returns-in_default-2-clause-value c =
    let some : says_nothing c.args.cursor.now.tokens ≡ false = sym c.says_nothing.ensures.value ∙ c.if-says_nothing.false in
    line_of_kind (names_of c.args.book.now) c.args.full c.args.cursor.now c.says_nothing.new.self c.take_kind.new.cursor c.in-Some.kind c.column-column.result some c.says_nothing.ensures.stays c.column-column.ensures c.in-Some.ensures
    ∙ action_some (names_of c.args.book.now) c.column-column.result c.take_kind.new.cursor c.in-Some.kind c.args.full c.if-full.false
    ∙ ap (λ r. r >>= profiled c.column-column.result) c.in_ok-action.ensures.value ∙ ap (profiled c.column-column.result) c.in_default-2.is

pub returns-clause-value : goal.returns-clause-value
returns-clause-value c =
    let some : says_nothing c.args.cursor.now.tokens ≡ false = sym c.says_nothing.ensures.value ∙ c.if-says_nothing.false in
    line_of_kind (names_of c.args.book.now) c.args.full c.args.cursor.now c.says_nothing.new.self c.take_kind.new.cursor c.in-Some.kind c.column-column.result some c.says_nothing.ensures.stays c.column-column.ensures c.in-Some.ensures
    ∙ action_some (names_of c.args.book.now) c.column-column.result c.take_kind.new.cursor c.in-Some.kind c.args.full c.if-full.false
    ∙ ap (λ r. r >>= profiled c.column-column.result) c.in_ok-action.ensures.value ∙ ap (profiled c.column-column.result) c.in-Some-2.is
