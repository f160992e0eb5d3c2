-- Words and lines fit what is wanted, or have one first fault.
use Rattle.std.proofs.Common.{◌≡◌, ◌⊎◌, ℕ, ◌+◌, ◌-◌, ◌^◌, ◌<◌, true, List, [], ◌∷◌, Option, Some, None, refl, sym, ◌∙◌, inl, inr, arith}
use Rattle.std.specs.Prelude.{codes}
use Rattle.std.specs.List.{AllByRecursion}
use Rattle.std.specs.Str.{bytes_eq}
use Rattle.std.proofs.lemmas.Slice.Eq.{bytes_eq-Decides}
use Rattle.line_texts.specs.Tokens.{Token}
use Rattle.line_texts.specs.Parsers.{number_of}
use Rattle.cert_text.specs.MarkedLines.{CertificateLine}
use Rattle.cert_text.specs.Words.{words_of, end_of}
use Rattle.cert_text.specs.Grammar.{Want, this_word, number_to, an_entry, TakesWord}
use Rattle.cert_text.specs.Faults.{wrong_rule, FitAll, IsWordFault, first_column, IsLineFault}
use Rattle.line_texts.proofs.Steps.{which}
use Rattle.line_texts.proofs.Decimal.{number_is, no_number}

-- what is wanted is no number of more than 64 bits
abbrev pub IsNarrow : Want → Type 0
IsNarrow (this_word word) = Unit {0}
IsNarrow (number_to most) = most < 2 ^ 64
IsNarrow an_entry = Unit {0}

abbrev pub AreNarrow : List (List Want) → Type 0
AreNarrow more = AllByRecursion (λ wants. AllByRecursion IsNarrow wants) more

-- a word fits, or it doesn't
pub same_or_other : (text word : List ℕ) → (text ≡ word) ⊎ (text ≡ word → ⊥)
same_or_other text word = elim (which (bytes_eq text word)) [
  | inl same ↦ inl ((bytes_eq-Decides text word).0 same)
  | inr other ↦ inr (λ e. let same : bytes_eq text word ≡ true = (bytes_eq-Decides text word).1 e in absurd cc)
]

decided : (want : Want) (text : List ℕ) → IsNarrow want → TakesWord want text ⊎ (TakesWord want text → ⊥)
decided (this_word word) text narrow = same_or_other text word
decided (number_to most) text narrow = found (number_of most text) refl
  where
    found : (answer : Option ℕ) → number_of most text ≡ answer → TakesWord (number_to most) text ⊎ (TakesWord (number_to most) text → ⊥)
    found (Some n) e = let is = number_is most text n narrow e in inl (n, is.0, is.1)
    found None e = inr (λ f. no_number most text narrow e f.0 f.1 f.2)
decided an_entry text narrow = elim (same_or_other text (codes "-")) [
  | inl none ↦ inl (inl none)
  | inr other ↦ found other (number_of (2 ^ 64 - 1) text) refl
]
  where
    neither : (text ≡ codes "-" → ⊥) → number_of (2 ^ 64 - 1) text ≡ None → TakesWord an_entry text → ⊥
    neither other e (inl none) = other none
    neither other e (inr some) = no_number (2 ^ 64 - 1) text (omega arith) e some.0 (omega (arith, some.1)) some.2

    found : (text ≡ codes "-" → ⊥) → (answer : Option ℕ) → number_of (2 ^ 64 - 1) text ≡ answer → TakesWord an_entry text ⊎ (TakesWord an_entry text → ⊥)
    found other (Some n) e = let is = number_is (2 ^ 64 - 1) text n (omega arith) e in inl (inr (n, omega (arith, is.0), is.1))
    found other None e = inr (λ f. neither other e f)

-- ---- in a line

-- words that fit have no fault
pub no_word_fault : (wants : List Want) (ws : List Token) (end rule column : ℕ) → FitAll wants ws → IsWordFault wants ws end rule column → ⊥
no_word_fault [] [] end r c f x = x
no_word_fault [] (w ∷ ws) end r c f x = f
no_word_fault (want ∷ wants) [] end r c f x = f
no_word_fault (want ∷ wants) (w ∷ ws) end r c f (inl x) = x.0 f.0
no_word_fault (want ∷ wants) (w ∷ ws) end r c f (inr x) = no_word_fault wants ws end r c f.1 x.1

-- they have one fault at most
pub one_word_fault : (wants : List Want) (ws : List Token) (end r c r' c' : ℕ) → IsWordFault wants ws end r c → IsWordFault wants ws end r' c' → (r ≡ r') × (c ≡ c')
one_word_fault [] [] end r c r' c' x y = absurd x
one_word_fault [] (w ∷ ws) end r c r' c' x y = (x.0 ∙ sym y.0, x.1 ∙ sym y.1)
one_word_fault (want ∷ wants) [] end r c r' c' x y = (x.0 ∙ sym y.0, x.1 ∙ sym y.1)
one_word_fault (want ∷ wants) (w ∷ ws) end r c r' c' (inl x) (inl y) = (x.1 ∙ sym y.1, x.2 ∙ sym y.2)
one_word_fault (want ∷ wants) (w ∷ ws) end r c r' c' (inl x) (inr y) = absurd (x.0 y.0)
one_word_fault (want ∷ wants) (w ∷ ws) end r c r' c' (inr x) (inl y) = absurd (y.0 x.0)
one_word_fault (want ∷ wants) (w ∷ ws) end r c r' c' (inr x) (inr y) = one_word_fault wants ws end r c r' c' x.1 y.1

abbrev pub Outcome : List Want → List Token → ℕ → Type 0
Outcome wants ws end = FitAll wants ws ⊎ ((rule : ℕ) × (column : ℕ) × IsWordFault wants ws end rule column)

pub outcome : (wants : List Want) (ws : List Token) (end : ℕ) → AllByRecursion IsNarrow wants → Outcome wants ws end
outcome [] [] end narrow = inl tt
outcome [] (w ∷ ws) end narrow = inr (4, w.column, (refl, refl))
outcome (want ∷ wants) [] end narrow = inr (4, end, (refl, refl))
outcome (want ∷ wants) (w ∷ ws) end narrow = elim (decided want w.text narrow.0) [
  | inr other ↦ inr (wrong_rule want, w.column, inl (other, refl, refl))
  | inl fits ↦ elim (outcome wants ws end narrow.1) [
    | inl all ↦ inl (fits, all)
    | inr fault ↦ inr (fault.0, fault.1, inr (fits, fault.2))
  ]
]

-- ---- in lines

-- each line is what is wanted
abbrev pub FitLines : List (List Want) → List CertificateLine → Type 0
FitLines [] [] = Unit {0}
FitLines [] (next ∷ others) = ⊥
FitLines (wants ∷ more) [] = ⊥
FitLines (wants ∷ more) (next ∷ others) = FitAll wants (words_of next) × FitLines more others

-- lines that fit have no fault
pub no_line_fault : (more : List (List Want)) (ls : List CertificateLine) (count r l c : ℕ) → FitLines more ls → IsLineFault more ls count r l c → ⊥
no_line_fault [] [] count r l c f x = x
no_line_fault [] (next ∷ others) count r l c f x = f
no_line_fault (wants ∷ more) [] count r l c f x = f
no_line_fault (wants ∷ more) (next ∷ others) count r l c f (inl x) = no_word_fault wants (words_of next) (end_of next) r c f.0 x.0
no_line_fault (wants ∷ more) (next ∷ others) count r l c f (inr x) = no_line_fault more others count r l c f.1 x.1

-- they have one fault at most
pub one_line_fault : (more : List (List Want)) (ls : List CertificateLine) (count r l c r' l' c' : ℕ) → IsLineFault more ls count r l c → IsLineFault more ls count r' l' c' →
    (r ≡ r') × (l ≡ l') × (c ≡ c')
one_line_fault [] [] count r l c r' l' c' x y = absurd x
one_line_fault [] (next ∷ others) count r l c r' l' c' x y = (x.0 ∙ sym y.0, x.1 ∙ sym y.1, x.2 ∙ sym y.2)
one_line_fault (wants ∷ more) [] count r l c r' l' c' x y = (x.0 ∙ sym y.0, x.1 ∙ sym y.1, x.2 ∙ sym y.2)
one_line_fault (wants ∷ more) (next ∷ others) count r l c r' l' c' (inl x) (inl y) =
    let same = one_word_fault wants (words_of next) (end_of next) r c r' c' x.0 y.0 in
    (same.0, x.1 ∙ sym y.1, same.1)
one_line_fault (wants ∷ more) (next ∷ others) count r l c r' l' c' (inl x) (inr y) = absurd (no_word_fault wants (words_of next) (end_of next) r c y.0 x.0)
one_line_fault (wants ∷ more) (next ∷ others) count r l c r' l' c' (inr x) (inl y) = absurd (no_word_fault wants (words_of next) (end_of next) r' c' x.0 y.0)
one_line_fault (wants ∷ more) (next ∷ others) count r l c r' l' c' (inr x) (inr y) = one_line_fault more others count r l c r' l' c' x.1 y.1

abbrev pub LineOutcome : List (List Want) → List CertificateLine → ℕ → Type 0
LineOutcome more ls count = FitLines more ls ⊎ ((rule : ℕ) × (line : ℕ) × (column : ℕ) × IsLineFault more ls count rule line column)

pub line_outcome : (more : List (List Want)) (ls : List CertificateLine) (count : ℕ) → AreNarrow more → LineOutcome more ls count
line_outcome [] [] count narrow = inl tt
line_outcome [] (next ∷ others) count narrow = inr (4, next.number, first_column (words_of next) (end_of next), (refl, refl, refl))
line_outcome (wants ∷ more) [] count narrow = inr (4, count + 1, 1, (refl, refl, refl))
line_outcome (wants ∷ more) (next ∷ others) count narrow = elim (outcome wants (words_of next) (end_of next) narrow.0) [
  | inr fault ↦ inr (fault.0, next.number, fault.1, inl (fault.2, refl))
  | inl fits ↦ elim (line_outcome more others count narrow.1) [
    | inl all ↦ inl (fits, all)
    | inr fault ↦ inr (fault.0, fault.1, fault.2, inr (fits, fault.3))
  ]
]
