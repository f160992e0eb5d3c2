-- Bytes say one certificate, or have one first fault.
use Rattle.std.proofs.Common.{◌≡◌, ◌⊎◌, ℕ, Result, Ok, Err, List, [], ◌∷◌, refl, sym, ap, subst, ◌∙◌, inl, inr}
use Rattle.std.specs.Prelude.{map, MatchResult}
use Rattle.level_book.specs.BookCosts.{BookCosts}
use Rattle.line_texts.specs.Tokens.{Token}
use Rattle.line_texts.specs.Lines.{lines}
use Rattle.cert_text.specs.declared.certificate.Certificate.{Certificate}
use Rattle.line_texts.specs.declared.fault.Fault.{Fault}
use Rattle.line_texts.specs.declared.fault.Fault.TheVariants.{At, Memory}
use Rattle.cert_text.specs.declared.kind.Kind.{Kind}
use Rattle.cert_text.specs.declared.kind.Kind.TheVariants as kind
use Rattle.cert_text.specs.MarkedLines.{CertificateLine, certificate_lines, line_count}
use Rattle.cert_text.specs.Words.{words_of, texts_of, end_of}
use Rattle.cert_text.specs.WordLines.{word_lines}
use Rattle.cert_text.specs.Meaning.{HasText, IsCertificateText}
use Rattle.cert_text.specs.Grammar.{kind_word, IsTooLarge, wants_of}
use Rattle.cert_text.specs.Faults.{first_column, Names, IsKindFault, IsFault, HasFirstFault}
use Rattle.cert_text.specs.Laws.{OneCertificate, OneFault, CertificatesHaveNoFault, CertificateOrFault}
use Rattle.cert_text.proofs.LineOutcomes.{same_or_other, no_line_fault, one_line_fault, line_outcome}
use Rattle.cert_text.proofs.NestedTables.{fits_or_not}
use Rattle.cert_text.proofs.DiskText.{disk_fits_or_not}
use Rattle.cert_text.proofs.CertificateKinds.{kind_of, one_name, narrow, fits_say, says_fit, says_small, says_kind, says_some, one_said}

pub one_certificate : OneCertificate
one_certificate steps book bytes a b x y = one_said steps book a b x.has_text y.has_text (sym x.says ∙ y.says)

no_fault_in : (steps : ℕ) (book : BookCosts) (ls : List CertificateLine) (count : ℕ) (certificate : Certificate) (r l c : ℕ) → HasText steps book certificate →
    map texts_of ls ≡ word_lines certificate → IsFault steps book ls count r l c → ⊥
no_fault_in steps book [] count certificate r l c has says fault = says_some certificate says
no_fault_in steps book (first ∷ others) count certificate r l c has says (inl fault) = fault.0 (kind_of certificate) (says_kind certificate first others says)
no_fault_in steps book (first ∷ others) count certificate r l c has says (inr fault) =
    let same : fault.0 ≡ kind_of certificate = one_name (words_of first) fault.0 (kind_of certificate) fault.1 (says_kind certificate first others says) in
    no_kind_fault (subst (λ (kind : Kind). IsKindFault kind steps book first others count r l c) same fault.2)
  where
    no_kind_fault : IsKindFault (kind_of certificate) steps book first others count r l c → ⊥
    no_kind_fault (inl large) = says_small steps book certificate has large.0
    no_kind_fault (inr fault) = no_line_fault (wants_of (kind_of certificate) steps book) (first ∷ others) count r l c (says_fit steps book certificate (first ∷ others) has says) fault.1

pub no_fault : CertificatesHaveNoFault
no_fault steps book bytes certificate (At r l c) is fault = no_fault_in steps book (certificate_lines bytes) (line_count (lines bytes)) certificate r l c is.has_text is.says fault
no_fault steps book bytes certificate Memory is fault = fault

one_fault_in : (steps : ℕ) (book : BookCosts) (ls : List CertificateLine) (count r l c r' l' c' : ℕ) → IsFault steps book ls count r l c → IsFault steps book ls count r' l' c' →
    (r ≡ r') × (l ≡ l') × (c ≡ c')
one_fault_in steps book [] count r l c r' l' c' x y = (x.0 ∙ sym y.0, x.1 ∙ sym y.1, x.2 ∙ sym y.2)
one_fault_in steps book (first ∷ others) count r l c r' l' c' (inl x) (inl y) = (x.1 ∙ sym y.1, x.2 ∙ sym y.2, x.3 ∙ sym y.3)
one_fault_in steps book (first ∷ others) count r l c r' l' c' (inl x) (inr y) = absurd (x.0 y.0 y.1)
one_fault_in steps book (first ∷ others) count r l c r' l' c' (inr x) (inl y) = absurd (y.0 x.0 x.1)
one_fault_in steps book (first ∷ others) count r l c r' l' c' (inr x) (inr y) =
    let same : y.0 ≡ x.0 = one_name (words_of first) y.0 x.0 y.1 x.1 in
    one_kind_fault x.0 x.2 (subst (λ (kind : Kind). IsKindFault kind steps book first others count r' l' c') same y.2)
  where
    one_kind_fault : (kind : Kind) → IsKindFault kind steps book first others count r l c → IsKindFault kind steps book first others count r' l' c' → (r ≡ r') × (l ≡ l') × (c ≡ c')
    one_kind_fault kind (inl x) (inl y) = (x.1 ∙ sym y.1, x.2 ∙ sym y.2, x.3 ∙ sym y.3)
    one_kind_fault kind (inl x) (inr y) = absurd (y.0 x.0)
    one_kind_fault kind (inr x) (inl y) = absurd (x.0 y.0)
    one_kind_fault kind (inr x) (inr y) = one_line_fault (wants_of kind steps book) (first ∷ others) count r l c r' l' c' x.1 y.1

-- a text has one first fault at most
pub one_fault : OneFault
one_fault steps book bytes (At r l c) (At r' l' c') x y =
    let same = one_fault_in steps book (certificate_lines bytes) (line_count (lines bytes)) r l c r' l' c' x y in
    λ i. At (same.0 i) (same.1 i) (same.2 i)
one_fault steps book bytes Memory other x y = absurd x
one_fault steps book bytes (At r l c) Memory x y = absurd y

-- ---- an answer that fits what the bytes say is the only one

abbrev pub Answers : ℕ → BookCosts → List ℕ → Result Certificate Fault → Type 0
Answers steps book bytes answer = MatchResult answer (λ c. IsCertificateText steps book bytes c) (λ f. (f ≡ Memory) ⊎ HasFirstFault steps book bytes f)

pub only_said : (steps : ℕ) (book : BookCosts) (bytes : List ℕ) (answer : Result Certificate Fault) → Answers steps book bytes answer →
    (certificate : Certificate) → IsCertificateText steps book bytes certificate → (answer ≡ Ok certificate) ⊎ (answer ≡ Err Memory)
only_said steps book bytes (Ok other) is certificate says = inl (ap Ok (one_certificate steps book bytes other certificate is says))
only_said steps book bytes (Err fault) (inl none) certificate says = inr (ap Err none)
only_said steps book bytes (Err fault) (inr has) certificate says = absurd (no_fault steps book bytes certificate fault says has)

pub only_fault : (steps : ℕ) (book : BookCosts) (bytes : List ℕ) (answer : Result Certificate Fault) → Answers steps book bytes answer →
    (fault : Fault) → HasFirstFault steps book bytes fault → (answer ≡ Err fault) ⊎ (answer ≡ Err Memory)
only_fault steps book bytes (Ok certificate) is fault has = absurd (no_fault steps book bytes certificate fault is has)
only_fault steps book bytes (Err other) (inl none) fault has = inr (ap Err none)
only_fault steps book bytes (Err other) (inr is) fault has = inl (ap Err (one_fault steps book bytes other fault is has))

-- ---- all bytes

kind_or_none : (ws : List Token) → ((kind : Kind) × Names kind ws) ⊎ ((kind : Kind) → Names kind ws → ⊥)
kind_or_none [] = inr (λ kind f. f)
kind_or_none (w ∷ ws) = elim (same_or_other w.text (kind_word kind.Revolve)) [
  | inl revolve ↦ inl (kind.Revolve, revolve)
  | inr other ↦ elim (same_or_other w.text (kind_word kind.Places)) [
    | inl places ↦ inl (kind.Places, places)
    | inr another ↦ elim (same_or_other w.text (kind_word kind.Nested)) [
      | inl nested ↦ inl (kind.Nested, nested)
      | inr third ↦ elim (same_or_other w.text (kind_word kind.Disk)) [
        | inl disk ↦ inl (kind.Disk, disk)
        | inr fourth ↦ inr (no_kind w.text other another third fourth)
      ]
    ]
  ]
]
  where
    no_kind : (text : List ℕ) → (text ≡ kind_word kind.Revolve → ⊥) → (text ≡ kind_word kind.Places → ⊥) → (text ≡ kind_word kind.Nested → ⊥) → (text ≡ kind_word kind.Disk → ⊥) → (kind : Kind) → text ≡ kind_word kind → ⊥
    no_kind text revolve places nested disk kind.Revolve e = revolve e
    no_kind text revolve places nested disk kind.Places e = places e
    no_kind text revolve places nested disk kind.Nested e = nested e
    no_kind text revolve places nested disk kind.Disk e = disk e

large_or_not : (kind : Kind) (steps : ℕ) (book : BookCosts) → IsTooLarge kind steps book ⊎ (IsTooLarge kind steps book → ⊥)
large_or_not kind.Revolve steps book = inr (λ large. large tt)
large_or_not kind.Places steps book = inr (λ large. large tt)
large_or_not kind.Nested steps book = elim (fits_or_not steps book) [ inl fit ↦ inr (λ large. large fit) | inr not ↦ inl not ]
large_or_not kind.Disk steps book = elim (disk_fits_or_not steps book) [ inl fit ↦ inr (λ large. large fit) | inr not ↦ inl not ]

abbrev Either : ℕ → BookCosts → List CertificateLine → ℕ → Type 0
Either steps book ls count =
    ((certificate : Certificate) × HasText steps book certificate × (map texts_of ls ≡ word_lines certificate)) ⊎ ((rule : ℕ) × (line : ℕ) × (column : ℕ) × IsFault steps book ls count rule line column)

either_of : (steps : ℕ) (book : BookCosts) (ls : List CertificateLine) (count : ℕ) → Either steps book ls count
either_of steps book [] count = inr (1, 0, 0, (refl, refl, refl))
either_of steps book (first ∷ others) count = elim (kind_or_none (words_of first)) [
  | inr none ↦ inr (2, first.number, first_column (words_of first) (end_of first), inl (none, refl, refl, refl))
  | inl some ↦ elim (large_or_not some.0 steps book) [
    | inl large ↦ inr (5, first.number, first_column (words_of first) (end_of first), inr (some.0, some.1, inl (large, refl, refl, refl)))
    | inr small ↦ elim (line_outcome (wants_of some.0 steps book) (first ∷ others) count (narrow some.0 steps book)) [
      | inl fits ↦ inl (fits_say some.0 steps book (first ∷ others) small fits)
      | inr fault ↦ inr (fault.0, fault.1, fault.2, inr (some.0, some.1, inr (small, fault.3)))
    ]
  ]
]

pub certificate_or_fault : CertificateOrFault
certificate_or_fault steps book bytes = elim (either_of steps book (certificate_lines bytes) (line_count (lines bytes))) [
  | inl certificate ↦ inl (certificate.0, record { has_text = certificate.1; says = certificate.2 })
  | inr fault ↦ inr (At fault.0 fault.1 fault.2, fault.3)
]
