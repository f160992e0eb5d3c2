-- No public clause cites this file. What is left of a line's words and of a text's lines, and how the earlier ones were
-- read.
use Rattle.std.specs.Prelude.{◌≡◌, ◌⊎◌, ℕ, ◌+◌, List, ◌∷◌, ◌++◌, length, map}
use Rattle.level_book.specs.BookCosts.{BookCosts}
use Rattle.line_texts.specs.Tokens.{Token, words}
use Rattle.line_texts.specs.Lines.{lines}
use Rattle.cert_text.specs.declared.certificate.Certificate.{Certificate}
use Rattle.line_texts.specs.declared.fault.Fault.{Fault}
use Rattle.line_texts.specs.declared.fault.Fault.TheVariants.{At, Memory}
use Rattle.cert_text.specs.declared.fault.Rule.{Rule}
use Rattle.cert_text.specs.declared.fault.Rule.TheVariants as rule
use Rattle.cert_text.specs.declared.kind.Kind.{Kind}
use Rattle.cert_text.specs.MarkedLines.{CertificateLine, marked, line_count}
use Rattle.cert_text.specs.Words.{texts_of}
use Rattle.cert_text.specs.WordLines.{word_lines}
use Rattle.cert_text.specs.Meaning.{HasText}
use Rattle.cert_text.specs.Grammar.{Want, kind_word, first_wants, IsTooLarge, later_wants}
use Rattle.cert_text.specs.Faults.{FitAll, IsWordFault, IsLineFault}

-- the words that are left, and the column one past the line's bytes
pub record Left : Type 0 where
  pub words : List Token
  pub end : ℕ

abbrev pub left_with : List Token → ℕ → Left
left_with ws end = record { words = ws; end = end }

-- what is left where the bytes that are left begin in this column
unfoldable pub left : ℕ → List ℕ → Left
left column bytes = record { words = words column bytes; end = column + length bytes }

-- the next word, which has this text, is read
pub record Takes (text : List ℕ) (old new : Left) : Type 0 where
  pub column : ℕ
  pub parts : old.words ≡ record { column = column; text = text } ∷ new.words
  pub end : new.end ≡ old.end

abbrev pub number_of_rule : Rule → ℕ
number_of_rule rule.Number = 3
number_of_rule rule.Shape = 4

-- the texts of words
abbrev pub texts : List Token → List (List ℕ)
texts ws = map (λ w. w.text) ws

-- the certificate lines that are left, and how many lines the text has
pub record Unread : Type 0 where
  pub lines : List CertificateLine
  pub count : ℕ

-- what is left of these bytes after so many lines
unfoldable pub unread : ℕ → List ℕ → Unread
unread before bytes = record { lines = marked (before + 1) (lines bytes); count = before + line_count (lines bytes) }

-- the fault has a place, and this holds of it
abbrev pub IsAt : (ℕ → ℕ → ℕ → Type 0) → Fault → Type 0
IsAt P (At rule line column) = P rule line column
IsAt P Memory = ⊥

-- the first fault of the lines that are left, which come after the first line, or there was no memory
abbrev pub IsLaterFault : Kind → ℕ → BookCosts → Unread → Fault → Type 0
IsLaterFault kind steps book later fault = (fault ≡ Memory) ⊎ IsAt (IsLineFault (later_wants kind steps book) later.lines later.count) fault

-- The first fault of the words after the kind's, and of the lines after theirs. These words are in the line with this
-- number.
abbrev pub IsRestFault : Kind → ℕ → BookCosts → ℕ → Left → Unread → ℕ → ℕ → ℕ → Type 0
IsRestFault kind steps book number behind later rule line column =
    (IsWordFault (first_wants kind) behind.words behind.end rule column × (line ≡ number))
    ⊎ (FitAll (first_wants kind) behind.words × IsLineFault (later_wants kind steps book) later.lines later.count rule line column)

-- Words that fit these wants were read. A fault of the rest is one after these wants, and so is a fit.
pub record Goes (wants : List Want) (old new : Left) : Type 0 where
  pub fault : (more : List Want) (rule column : ℕ) → IsWordFault more new.words new.end rule column → IsWordFault (wants ++ more) old.words old.end rule column
  pub fits : (more : List Want) → FitAll more new.words → FitAll (wants ++ more) old.words

-- lines that fit these wants were read; a fault of the rest is a fault after these wants
pub record Passes (wants : List (List Want)) (old new : Unread) : Type 0 where
  pub count : new.count ≡ old.count
  pub fault : (more : List (List Want)) (rule line column : ℕ) → IsLineFault more new.lines new.count rule line column →
      IsLineFault (wants ++ more) old.lines old.count rule line column

-- a fault in lines where these are wanted, whatever more is wanted after them
abbrev pub IsAmong : List (List Want) → Unread → Fault → Type 0
IsAmong wants old fault = (more : List (List Want)) → IsAt (IsLineFault (wants ++ more) old.lines old.count) fault

-- the first fault of the rest, or that of too large tables, in this column, at the kind's word
abbrev pub IsSizedFault : Kind → ℕ → BookCosts → ℕ → ℕ → Left → Unread → ℕ → ℕ → ℕ → Type 0
IsSizedFault kind steps book number named behind later rule line column =
    (IsTooLarge kind steps book × (rule ≡ 5) × (line ≡ number) × (column ≡ named))
    ⊎ ((IsTooLarge kind steps book → ⊥) × IsRestFault kind steps book number behind later rule line column)

-- with the kind's word before them, they mean this certificate
pub record SaysRest (kind : Kind) (steps : ℕ) (book : BookCosts) (behind : Left) (later : Unread) (certificate : Certificate) : Type 0 where
  pub has_text : HasText steps book certificate
  pub says : (kind_word kind ∷ texts behind.words) ∷ map texts_of later.lines ≡ word_lines certificate
