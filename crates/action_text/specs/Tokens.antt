-- The tokens of a line of a schedule. A run is of ASCII letters, digits and `_`.
use Rattle.std.specs.Prelude.{ℕ, ◌==◌, Bool, ◌||◌, List}
use Rattle.std.specs.Char.{is_ascii_alphanumeric}
use Rattle.line_texts.specs.Tokens as texts

abbrev pub is_run_byte : ℕ → Bool
is_run_byte b = is_ascii_alphanumeric b || b == 95

-- the first byte is one of a run
abbrev pub starts_run : List ℕ → Bool
starts_run bytes = texts.starts_run is_run_byte bytes

-- the tokens of bytes that begin in this column
abbrev pub tokens : ℕ → List ℕ → List texts.Token
tokens column bytes = texts.tokens is_run_byte column bytes
