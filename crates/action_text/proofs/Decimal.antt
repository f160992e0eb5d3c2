-- The numbers of a schedule: one that is read is spelled so, and one that is spelled so is read.
use Rattle.std.proofs.Common.{◌≡◌, ℕ, ◌+◌, ◌%◌, ◌^◌, ◌<◌, ◌≤◌, true, List, [], ◌∷◌, ◌++◌, Some, arith}
use Rattle.std.specs.Prelude.{decimal}
use Rattle.std.specs.List.{AllByRecursion}
use Rattle.std.proofs.lemmas.Bool.Decides.{nat_tests}
use Rattle.std.proofs.lemmas.Fmt.{decimal_by_steps}
use Rattle.line_texts.proofs.Decimal.{number_is as number_up_to, decimal_is, digits_are}
use Rattle.action_text.specs.Parser.{number_of}
use Rattle.action_text.specs.Tokens.{is_run_byte, starts_run}

-- a text that is a number is its decimal digits
pub number_is : (text : List ℕ) (n : ℕ) → number_of text ≡ Some n → (n ≤ 1000000) × (text ≡ decimal n)
number_is text n e = number_up_to 1000000 text n (omega arith) e

pub decimal_is_number : (n : ℕ) → n ≤ 1000000 → number_of (decimal n) ≡ Some n
decimal_is_number n small = decimal_is 1000000 n (omega arith) small

-- and its bytes are those of a run
pub record IsRun (text : List ℕ) : Type 0 where
  pub some : starts_run text ≡ true
  pub each : AllByRecursion (λ b. is_run_byte b ≡ true) text

digit_is_run : (b : ℕ) → 48 ≤ b → b < 58 → is_run_byte b ≡ true
digit_is_run b low high = grind (arith, nat_tests)

starts_more : (ds : List ℕ) (b : ℕ) → starts_run ds ≡ true → starts_run (ds ++ b ∷ []) ≡ true
starts_more [] b some = absurd cc
starts_more (d ∷ ds) b some = some

decimal_starts : (n : ℕ) → n < 2 ^ 64 → starts_run (decimal n) ≡ true
decimal_starts n small =
    decimal_by_steps (λ n ds. starts_run ds ≡ true)
    (λ n low. digit_is_run (48 + n) (omega arith) (omega arith))
    (λ n ds high front. starts_more ds (48 + n % 10) front)
    n small

pub decimal_is_run : (n : ℕ) → n ≤ 1000000 → IsRun (decimal n)
decimal_is_run n small = record { some = decimal_starts n (omega arith); each = digits_are is_run_byte digit_is_run n (omega arith) }
