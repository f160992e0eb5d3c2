-- The first fault of a text that is no certificate. The rules are 1 Missing, 2 Kind, 3 Number, 4 Shape, 5 TooLarge.
use Rattle.std.specs.Prelude.{◌≡◌, ◌⊎◌, ℕ, ◌+◌, List, [], ◌∷◌}
use Rattle.level_book.specs.BookCosts.{BookCosts}
use Rattle.line_texts.specs.Tokens.{Token}
use Rattle.line_texts.specs.Lines.{lines}
use Rattle.cert_text.specs.declared.kind.Kind.{Kind}
use Rattle.line_texts.specs.declared.fault.Fault.{Fault}
use Rattle.line_texts.specs.declared.fault.Fault.TheVariants.{At, Memory}
use Rattle.cert_text.specs.MarkedLines.{CertificateLine, certificate_lines, line_count}
use Rattle.cert_text.specs.Words.{words_of, end_of}
use Rattle.cert_text.specs.Grammar.{Want, this_word, number_to, an_entry, TakesWord, kind_word, IsTooLarge, wants_of}

-- ---- in one line

-- the rule of a word that doesn't fit its place
abbrev pub wrong_rule : Want → ℕ
wrong_rule (this_word word) = 4
wrong_rule (number_to most) = 3
wrong_rule an_entry = 3

-- each word fits its place
abbrev pub FitAll : List Want → List Token → Type 0
FitAll [] [] = Unit {0}
FitAll [] (w ∷ ws) = ⊥
FitAll (want ∷ wants) [] = ⊥
FitAll (want ∷ wants) (w ∷ ws) = TakesWord want w.text × FitAll wants ws

-- The first fault of words at these places: one that doesn't fit, a missing one, or one too many. `end` is the column
-- past the line's bytes.
abbrev pub IsWordFault : List Want → List Token → ℕ → ℕ → ℕ → Type 0
IsWordFault [] [] end rule column = ⊥
IsWordFault [] (w ∷ ws) end rule column = (rule ≡ 4) × (column ≡ w.column)
IsWordFault (want ∷ wants) [] end rule column = (rule ≡ 4) × (column ≡ end)
IsWordFault (want ∷ wants) (w ∷ ws) end rule column =
    ((TakesWord want w.text → ⊥) × (rule ≡ wrong_rule want) × (column ≡ w.column)) ⊎ (TakesWord want w.text × IsWordFault wants ws end rule column)

-- where the first of these words begins; past the bytes if there is none
abbrev pub first_column : List Token → ℕ → ℕ
first_column [] end = end
first_column (w ∷ ws) end = w.column

-- ---- in lines

-- The first fault of certificate lines where these are wanted: in a line, an extra or a missing line. A missing line is
-- past all lines of the text, which are so many.
abbrev pub IsLineFault : List (List Want) → List CertificateLine → ℕ → ℕ → ℕ → ℕ → Type 0
IsLineFault [] [] count rule line column = ⊥
IsLineFault [] (next ∷ others) count rule line column = (rule ≡ 4) × (line ≡ next.number) × (column ≡ first_column (words_of next) (end_of next))
IsLineFault (wants ∷ more) [] count rule line column = (rule ≡ 4) × (line ≡ count + 1) × (column ≡ 1)
IsLineFault (wants ∷ more) (next ∷ others) count rule line column =
    (IsWordFault wants (words_of next) (end_of next) rule column × (line ≡ next.number))
    ⊎ (FitAll wants (words_of next) × IsLineFault more others count rule line column)

-- ---- in a text

-- the first of these words names a kind
abbrev pub Names : Kind → List Token → Type 0
Names kind [] = ⊥
Names kind (w ∷ ws) = w.text ≡ kind_word kind

-- The first fault after the word of a kind, which is the first word of the first line. The certificate is too large, or
-- a line doesn't fit the kind.
abbrev pub IsKindFault : Kind → ℕ → BookCosts → CertificateLine → List CertificateLine → ℕ → ℕ → ℕ → ℕ → Type 0
IsKindFault kind steps book first others count rule line column =
    (IsTooLarge kind steps book × (rule ≡ 5) × (line ≡ first.number) × (column ≡ first_column (words_of first) (end_of first)))
    ⊎ ((IsTooLarge kind steps book → ⊥) × IsLineFault (wants_of kind steps book) (first ∷ others) count rule line column)

-- The first fault of certificate lines. There is no line, or the first names no kind, or the fault comes after the
-- kind's word.
abbrev pub IsFault : ℕ → BookCosts → List CertificateLine → ℕ → ℕ → ℕ → ℕ → Type 0
IsFault steps book [] count rule line column = (rule ≡ 1) × (line ≡ 0) × (column ≡ 0)
IsFault steps book (first ∷ others) count rule line column =
    (((kind : Kind) → Names kind (words_of first) → ⊥) × (rule ≡ 2) × (line ≡ first.number) × (column ≡ first_column (words_of first) (end_of first)))
    ⊎ ((kind : Kind) × Names kind (words_of first) × IsKindFault kind steps book first others count rule line column)

-- the first fault of a text; a lack of memory is none
abbrev pub HasFirstFault : ℕ → BookCosts → List ℕ → Fault → Type 0
HasFirstFault steps book bytes (At rule line column) = IsFault steps book (certificate_lines bytes) (line_count (lines bytes)) rule line column
HasFirstFault steps book bytes Memory = ⊥
