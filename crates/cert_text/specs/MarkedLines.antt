-- Which lines of a text are lines of a certificate: those that begin with `#!`. All others are ignored.
use Rattle.std.specs.Prelude.{ℕ, ◌+◌, ◌==◌, ◌&&◌, Bool, false, List, [], ◌∷◌, drop, if◌then◌else◌}
use Rattle.line_texts.specs.Lines.{lines}

-- A certificate line: its number among all lines of the text, from 1, and its bytes after `#!`.
pub record CertificateLine : Type 0 where
  pub number : ℕ
  pub text : List ℕ

-- it begins with `#!`
abbrev pub is_marked : List ℕ → Bool
is_marked [] = false
is_marked (a ∷ []) = false
is_marked (a ∷ b ∷ rest) = a == 35 && b == 33

-- the certificate lines among these lines, which count from n
unfoldable pub marked : ℕ → List (List ℕ) → List CertificateLine
marked n [] = []
marked n (line ∷ rest) =
    if is_marked line then record { number = n; text = drop 2 line } ∷ marked (n + 1) rest else marked (n + 1) rest

-- The certificate lines of a text. After a last byte 10 `lines` has one more line, but that is empty and so isn't among
-- them.
abbrev pub certificate_lines : List ℕ → List CertificateLine
certificate_lines bytes = marked 1 (lines bytes)

-- how many lines there are, without an empty one after a last byte 10
abbrev pub line_count : List (List ℕ) → ℕ
line_count [] = 0
line_count ([] ∷ []) = 0
line_count ((b ∷ bs) ∷ []) = 1
line_count (line ∷ next ∷ rest) = 1 + line_count (next ∷ rest)
