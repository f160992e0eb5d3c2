-- The canonical text of a certificate, and the writes that produce it.
use Rattle.std.specs.Prelude.{ℕ, zero, suc, List, [], ◌∷◌, ◌++◌, codes}
use Rattle.std.specs.List.{flat_map}
use Rattle.cert_text.specs.declared.certificate.Certificate.{Certificate}
use Rattle.cert_text.specs.WordLines.{word_lines}

-- a line with these words: `#!`, a space and a word for each word, and a byte 10
abbrev pub line_of : List (List ℕ) → List ℕ
line_of words = codes "#!" ++ flat_map (λ word. 32 ∷ word) words ++ 10 ∷ []

-- the text of a certificate: its lines, one after the other
abbrev pub canonical : Certificate → List ℕ
canonical certificate = flat_map line_of (word_lines certificate)

-- ---- the writes, which join to that text

-- The writes of a line, each of at most sixteen words. `text` is what the next write has so far, and so many words
-- still fit into it.
abbrev pub pieces_from : ℕ → List ℕ → List (List ℕ) → List (List ℕ)
pieces_from room text [] = (text ++ 10 ∷ []) ∷ []
pieces_from zero text (word ∷ words) = text ∷ pieces_from 15 (32 ∷ word) words
pieces_from (suc room) text (word ∷ words) = pieces_from room (text ++ 32 ∷ word) words

-- the writes of a certificate, line by line
abbrev pub pieces : Certificate → List (List ℕ)
pieces certificate = flat_map (pieces_from 16 (codes "#!")) (word_lines certificate)
