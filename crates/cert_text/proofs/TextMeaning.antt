-- What the words and lines of a text say, one after the other.
use Rattle.std.proofs.Common.{◌≡◌, ◌⊎◌, ℕ, ◌+◌, Result, Ok, Err, List, [], ◌∷◌, refl, sym, ap, subst, ◌∙◌, inl, inr, arith}
use Rattle.std.specs.Prelude.{length, map, MatchResult}
use Rattle.level_book.specs.BookCosts.{BookCosts}
use Rattle.line_texts.specs.Tokens.{Token, words}
use Rattle.line_texts.specs.Lines.{lines}
use Rattle.cert_text.specs.declared.certificate.Certificate.{Certificate}
use Rattle.line_texts.specs.declared.fault.Fault.{Fault}
use Rattle.line_texts.specs.declared.fault.Fault.TheVariants.{At, Memory}
use Rattle.cert_text.specs.declared.kind.Kind.{Kind}
use Rattle.cert_text.specs.MarkedLines.{CertificateLine, certificate_lines, line_count}
use Rattle.cert_text.specs.Words.{texts_of, words_of, end_of}
use Rattle.cert_text.specs.Grammar.{Want, this_word, TakesWord, kind_word, first_wants, later_wants, wants_of, IsTooLarge}
use Rattle.cert_text.specs.Faults.{FitAll, IsWordFault, first_column, IsLineFault, Names, IsFault, IsKindFault}
use Rattle.cert_text.specs.ReaderState.{Left, left, Takes, texts, Unread, unread, IsAt, IsRestFault, SaysRest, IsSizedFault}
use Rattle.cert_text.proofs.TextLaws.{Answers}

-- ---- behind a word that fits

pub wrong_later : (want : Want) (wants : List Want) (text : List ℕ) (old new : Left) (rule column : ℕ) → Takes text old new → TakesWord want text →
    IsWordFault wants new.words new.end rule column → IsWordFault (want ∷ wants) old.words old.end rule column
wrong_later want wants text old new rule column taken fits fault =
    let there : IsWordFault wants new.words old.end rule column = subst (λ (end : ℕ). IsWordFault wants new.words end rule column) taken.end fault in
    subst (λ (ws : List Token). IsWordFault (want ∷ wants) ws old.end rule column) (sym taken.parts) (inr (fits, there))

pub fit_later : (want : Want) (wants : List Want) (text : List ℕ) (old new : Left) → Takes text old new → TakesWord want text → FitAll wants new.words → FitAll (want ∷ wants) old.words
fit_later want wants text old new taken fits all = subst (λ (ws : List Token). FitAll (want ∷ wants) ws) (sym taken.parts) (fits, all)

pub taken_text : (text : List ℕ) (old new : Left) → Takes text old new → texts old.words ≡ text ∷ texts new.words
taken_text text old new taken = ap texts taken.parts

-- ---- the first line of a text

-- the lines that are unread where none is read are those of the text
all_lines : (bytes : List ℕ) (start : Unread) → start ≡ unread 0 bytes → certificate_lines bytes ≡ start.lines
unfolding unread
all_lines bytes start is = sym (ap (λ (u : Unread). u.lines) is)

all_count : (bytes : List ℕ) (start : Unread) → start ≡ unread 0 bytes → line_count (lines bytes) ≡ start.count
unfolding unread
all_count bytes start is = omega (arith, ap (λ (u : Unread). u.count) is)

fault_of : (steps : ℕ) (book : BookCosts) (bytes : List ℕ) (start : Unread) (r l c : ℕ) → start ≡ unread 0 bytes → IsFault steps book start.lines start.count r l c →
    IsFault steps book (certificate_lines bytes) (line_count (lines bytes)) r l c
fault_of steps book bytes start r l c is fault =
    let P : List CertificateLine → Type 0 = λ ls. IsFault steps book ls (line_count (lines bytes)) r l c in
    let Q : ℕ → Type 0 = λ n. IsFault steps book start.lines n r l c in
    subst P (sym (all_lines bytes start is)) (subst Q (sym (all_count bytes start is)) fault)

pub no_certificate : (steps : ℕ) (book : BookCosts) (bytes : List ℕ) (start : Unread) → start ≡ unread 0 bytes → start.lines ≡ [] → IsFault steps book (certificate_lines bytes) (line_count (lines bytes)) 1 0 0
no_certificate steps book bytes start is none =
    let P : List CertificateLine → Type 0 = λ ls. IsFault steps book ls start.count 1 0 0 in
    fault_of steps book bytes start 1 0 0 is (subst P (sym none) (refl, refl, refl))

abbrev line_at : ℕ → List ℕ → CertificateLine
line_at number text = record { number = number; text = text }

words_are : (text : List ℕ) (all : Left) → all ≡ left 3 text → words 3 text ≡ all.words
unfolding left
words_are text all is = sym (ap (λ (a : Left). a.words) is)

end_is : (text : List ℕ) (all : Left) → all ≡ left 3 text → 3 + length text ≡ all.end
unfolding left
end_is text all is = sym (ap (λ (a : Left). a.end) is)

in_line : (text : List ℕ) (all : Left) (W : List Token → ℕ → Type 0) → all ≡ left 3 text → W all.words all.end → W (words 3 text) (3 + length text)
unfolding left
in_line text all W is wrong = subst (λ (a : Left). W a.words a.end) is wrong

pub no_kind : (steps : ℕ) (book : BookCosts) (bytes text : List ℕ) (start : Unread) (others : List CertificateLine) (all : Left) (number column : ℕ) → start ≡ unread 0 bytes →
    start.lines ≡ record { number = number; text = text } ∷ others → all ≡ left 3 text → ((kind : Kind) → Names kind all.words → ⊥) → column ≡ first_column all.words all.end →
    IsFault steps book (certificate_lines bytes) (line_count (lines bytes)) 2 number column
no_kind steps book bytes text start others all number column is first words_is none column_is =
    let N : List Token → Type 0 = λ ws. (kind : Kind) → Names kind ws → ⊥ in
    let here : IsFault steps book (line_at number text ∷ others) start.count 2 number column =
    inl (subst N (sym (words_are text all words_is)) none, refl, refl, column_is ∙ sym (λ i. first_column (words_are text all words_is i) (end_is text all words_is i))) in
    let P : List CertificateLine → Type 0 = λ ls. IsFault steps book ls start.count 2 number column in
    fault_of steps book bytes start 2 number column is (subst P (sym first) here)

-- ---- behind the word of the kind

named_kind : (kind : Kind) (all behind : Left) → Takes (kind_word kind) all behind → Names kind all.words
named_kind kind all behind taken = subst (λ (ws : List Token). Names kind ws) (sym taken.parts) refl

rest_fault : (kind : Kind) (steps : ℕ) (book : BookCosts) (number count r l c : ℕ) (text : List ℕ) (later : Unread) (all behind : Left) → all ≡ left 3 text → Takes (kind_word kind) all behind → later.count ≡ count →
    IsRestFault kind steps book number behind later r l c → IsLineFault (wants_of kind steps book) (line_at number text ∷ later.lines) count r l c
rest_fault kind steps book number count r l c text later all behind is taken counted (inl fault) =
    let wrong = wrong_later (this_word (kind_word kind)) (first_wants kind) (kind_word kind) all behind r c taken refl fault.0 in
    inl (in_line text all (λ ws end. IsWordFault (this_word (kind_word kind) ∷ first_wants kind) ws end r c) is wrong, fault.1)
rest_fault kind steps book number count r l c text later all behind is taken counted (inr fault) =
    let fits = fit_later (this_word (kind_word kind)) (first_wants kind) (kind_word kind) all behind taken refl fault.0 in
    let F : List Token → Type 0 = λ ws. FitAll (this_word (kind_word kind) ∷ first_wants kind) ws in
    let N : ℕ → Type 0 = λ n. IsLineFault (later_wants kind steps book) later.lines n r l c in
    inr (subst F (sym (words_are text all is)) fits, subst N counted fault.1)

kind_fault : (kind : Kind) (steps : ℕ) (book : BookCosts) (number count r l c : ℕ) (text : List ℕ) (later : Unread) (all behind : Left) → all ≡ left 3 text → Takes (kind_word kind) all behind → later.count ≡ count →
    IsSizedFault kind steps book number (first_column (words_of (line_at number text)) (end_of (line_at number text))) behind later r l c → IsKindFault kind steps book (line_at number text) later.lines count r l c
kind_fault kind steps book number count r l c text later all behind is taken counted (inl fault) = inl fault
kind_fault kind steps book number count r l c text later all behind is taken counted (inr fault) =
    inr (fault.0, rest_fault kind steps book number count r l c text later all behind is taken counted fault.1)

-- what is answered behind the word of the kind is what the whole text says
pub answered : (steps : ℕ) (book : BookCosts) (bytes text : List ℕ) (kind : Kind) (number : ℕ) (start later : Unread) (all behind : Left) (answer : Result Certificate Fault) →
    start ≡ unread 0 bytes → start.lines ≡ record { number = number; text = text } ∷ later.lines → later.count ≡ start.count → all ≡ left 3 text → Takes (kind_word kind) all behind →
    MatchResult answer (λ certificate. SaysRest kind steps book behind later certificate)
    (λ fault. (fault ≡ Memory) ⊎ IsAt (IsSizedFault kind steps book number (first_column (words_of (line_at number text)) (end_of (line_at number text))) behind later) fault) →
    Answers steps book bytes answer
answered steps book bytes text kind number start later all behind (Ok certificate) is first counted words_is taken rest = record {
  has_text = rest.has_text;
  says =
      ap (map texts_of) (all_lines bytes start is ∙ first)
      ∙ ap (λ (ts : List (List ℕ)). ts ∷ map texts_of later.lines) (ap texts (words_are text all words_is) ∙ taken_text (kind_word kind) all behind taken)
      ∙ rest.says;
}
answered steps book bytes text kind number start later all behind (Err fault) is first counted words_is taken (inl none) = inl none
answered steps book bytes text kind number start later all behind (Err Memory) is first counted words_is taken (inr rest) = absurd rest
answered steps book bytes text kind number start later all behind (Err (At r l c)) is first counted words_is taken (inr rest) =
    let N : List Token → Type 0 = λ ws. Names kind ws in
    let here : IsFault steps book (line_at number text ∷ later.lines) start.count r l c =
    inr (kind, subst N (sym (words_are text all words_is)) (named_kind kind all behind taken), kind_fault kind steps book number start.count r l c text later all behind words_is taken counted rest) in
    let P : List CertificateLine → Type 0 = λ ls. IsFault steps book ls start.count r l c in
    inr (fault_of steps book bytes start r l c is (subst P (sym first) here))

-- of a kind that isn't too large
pub sized : (kind : Kind) (steps : ℕ) (book : BookCosts) (number named : ℕ) (behind : Left) (later : Unread) (answer : Result Certificate Fault) → (IsTooLarge kind steps book → ⊥) →
    MatchResult answer (λ certificate. SaysRest kind steps book behind later certificate) (λ fault. (fault ≡ Memory) ⊎ IsAt (IsRestFault kind steps book number behind later) fault) →
    MatchResult answer (λ certificate. SaysRest kind steps book behind later certificate) (λ fault. (fault ≡ Memory) ⊎ IsAt (IsSizedFault kind steps book number named behind later) fault)
sized kind steps book number named behind later (Ok certificate) small rest = rest
sized kind steps book number named behind later (Err fault) small (inl none) = inl none
sized kind steps book number named behind later (Err Memory) small (inr rest) = absurd rest
sized kind steps book number named behind later (Err (At r l c)) small (inr rest) = inr (inr (small, rest))

-- a line too many
pub line_too_many : (ls others : List CertificateLine) (count number column : ℕ) (text : List ℕ) (all : Left) → ls ≡ record { number = number; text = text } ∷ others → all ≡ left 3 text → column ≡ first_column all.words all.end →
    IsLineFault [] ls count 4 number column
line_too_many ls others count number column text all is words_is column_is =
    let here : IsLineFault [] (line_at number text ∷ others) count 4 number column =
    (refl, refl, column_is ∙ sym (λ i. first_column (words_are text all words_is i) (end_is text all words_is i))) in
    let P : List CertificateLine → Type 0 = λ ls. IsLineFault [] ls count 4 number column in
    subst P (sym is) here
