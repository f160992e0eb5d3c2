-- The words of a certificate line. A word's column is counted from 1 over all bytes of the line.
use Rattle.std.specs.Prelude.{ℕ, ◌+◌, List, map, length}
use Rattle.line_texts.specs.Tokens.{Token, words}
use Rattle.cert_text.specs.MarkedLines.{CertificateLine}

-- the words of a line, whose `#!` takes two columns, and their texts
abbrev pub words_of : CertificateLine → List Token
words_of line = words 3 line.text

abbrev pub texts_of : CertificateLine → List (List ℕ)
texts_of line = map (λ w. w.text) (words_of line)

-- the column one past the line's bytes
abbrev pub end_of : CertificateLine → ℕ
end_of line = 3 + length line.text
