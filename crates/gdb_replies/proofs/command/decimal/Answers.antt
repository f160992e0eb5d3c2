use Rattle.std.proofs.Common.{◌≡◌, ℕ, List, None, Result, Ok, Err, MatchResult, sym, ◌∙◌}
use Rattle.std.specs.Result.{result_ok}
use Rattle.std.specs.Str.{IsUtf8}
use Rattle.std.proofs.lemmas.Fmt.{IsAscii-from_digits}
use Rattle.std.proofs.lemmas.Str.{IsUtf8-from_ascii}
use Rattle.gdb_replies.specs.Commands.{IsDecimal}
use Rattle.gdb_replies.proofs.command.decimal.Goals as goal

-- bytes that are no text are no digits
no_digits : (digits : List ℕ) → ¬ (IsUtf8 digits) → (n : ℕ) → ¬ (IsDecimal digits n)
no_digits digits no_text n is = no_text (IsUtf8-from_ascii digits (IsAscii-from_digits digits is.numeral.1))

-- a call that failed said why
at_err : {T E : Type 0} (r : Result T E) (P : T → Type 0) (A : Type 0) (Q : E → Type 0) → result_ok r ≡ None → MatchResult r P (λ e. A × Q e) → A
at_err (Ok x) P A Q none says = cc
at_err (Err e) P A Q none says = says.0

pub returns-in_err-ok : goal.returns-in_err-ok
returns-in_err-ok c =
    let digits = c.args.digits.now in
    let none = sym c.ok.ensures.value ∙ c.in_err-ok.was in
    let no_text = at_err c.from_utf8.result _ _ _ none c.from_utf8.ensures.cases in
    rw c.from_residual.ensures (no_digits digits no_text)
