-- The tokens of a line of a source. A run is of ASCII letters, digits, `_`, `.` and `-`. A `#` begins a comment up to the
-- end of its line.
use Rattle.std.specs.Prelude.{ℕ, ◌==◌, Bool, ◌||◌, List, take}
use Rattle.std.specs.Char.{is_ascii_alphanumeric}
use Rattle.line_texts.specs.Parsers.{length_before}
use Rattle.line_texts.specs.Tokens as texts

abbrev pub is_run_byte : ℕ → Bool
is_run_byte b = is_ascii_alphanumeric b || b == 95 || b == 46 || b == 45

-- the first byte is one of a run
abbrev pub starts_run : List ℕ → Bool
starts_run bytes = texts.starts_run is_run_byte bytes

-- the bytes before the first `#`
abbrev pub before_comment : List ℕ → List ℕ
before_comment bytes = take (length_before 35 bytes) bytes

-- the tokens of bytes that begin in this column
unfoldable pub tokens : ℕ → List ℕ → List texts.Token
tokens column bytes = texts.tokens is_run_byte column (before_comment bytes)
