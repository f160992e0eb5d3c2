-- No public clause cites this file. The canonical line of each word, as it is computed.
use Rattle.std.specs.Prelude.{ℕ, ◌<◌, ◌^◌, ◌++◌, List, [], ◌∷◌, length, map, find, codes, Option, None, Some}
use Rattle.rv_asm.specs.Table.{wants}
use Rattle.rv_asm.specs.PackedWords.{takes}
use Rattle.rv_asm.specs.Encoder.{entries}
use Rattle.rv_asm.specs.Canonical.{unpacked, operands_text}
use Rattle.line_texts.specs.Numbers.{hex_word}
use Rattle.reversal.specs.Plans.{in_pieces}

-- a function of an option's value, or a default
abbrev pub made_or : {A B : Type 0} → Option A → (A → B) → B → B
made_or (Some x) make other = make x
made_or None make other = other

-- the line of a word by its row, or by the word itself if it has none
unfoldable pub word_line : ℕ → List ℕ
word_line word =
    made_or (find (λ row. takes row.1.format row.1.base word) entries)
    (λ row. row.0 ++ operands_text (unpacked row.1.format word) (wants row.1.format)) (codes ".word 0x" ++ hex_word word)

-- the line of a word, with a line end
abbrev pub ended_line : ℕ → List ℕ
ended_line word = word_line word ++ 10 ∷ []

-- the lines of words, in pieces of sixty-four
abbrev pub word_pieces : List ℕ → List (List ℕ)
word_pieces words = in_pieces (length words) (map ended_line words)

-- a number of 32 bits
abbrev pub IsWord : ℕ → Type 0
IsWord n = n < 2 ^ 32
