-- A text says one book at most, and one that says a book is refused for want of memory alone.
use Rattle.std.proofs.Common.{◌≡◌, ◌≢◌, ◌⊎◌, inl, inr, sym, Option, ℕ, List, [], ◌∷◌, Some, None, refl, ◌∙◌, ap, subst}
use Rattle.std.specs.Prelude.{unwrap_or}
use Rattle.std.specs.List.{AllByRecursion}
use Rattle.std.proofs.lemmas.Option.{same_Some}
use Rattle.serde_json.specs.Data.{Data}
use Rattle.level_book.specs.declared.book.Level.{Level}
use Rattle.level_book.specs.declared.fault.BookFault.{BookFault}
use Rattle.level_book.specs.declared.fault.BookFault.TheVariants.{NotJson, Shape, Levels, Name, CostRange, SlotRange, CostOrder, Memory}
use Rattle.level_book.specs.BookCosts.{BookCosts, names_of}
use Rattle.level_book.specs.Names.{AreNames}
use Rattle.level_book.specs.BookText.{IsTextOf, SaysLevel, SayLevels, SaysBook}
use Rattle.level_book.specs.BookFaults.{fault_in, faults_in, first_of, each, name_fault, IsBookText, IsRefused}
use Rattle.level_book.proofs.FaultlessEntries.{none_of_both}
use Rattle.level_book.proofs.LevelNames.{levels_named}

-- an entry says one level
one_level : (d : Data) (level other : Level) → SaysLevel d level → SaysLevel d other → level ≡ other
one_level d level other says also =
    let name : level.name ≡ other.name = cc (says.name, also.name) in
    let slots : level.slots ≡ other.slots = cc (says.slots, also.slots) in
    let write : level.write ≡ other.write = cc (says.write, also.write) in
    let read : level.read ≡ other.read = cc (says.read, also.read) in
    ap (λ x. record level { name = x }) name
    ∙ ap (λ x. record level { name = other.name; slots = x }) slots
    ∙ ap (λ x. record level { name = other.name; slots = other.slots; write = x }) write
    ∙ ap (λ x. record other { read = x }) read

-- and a list of entries one list of levels
one_list : (ds : List Data) (levels others : List Level) → SayLevels ds levels → SayLevels ds others → levels ≡ others
one_list [] [] [] say also = refl
one_list [] [] (l ∷ ls) say also = absurd also
one_list [] (l ∷ ls) others say also = absurd say
one_list (d ∷ ds) [] others say also = absurd say
one_list (d ∷ ds) (l ∷ ls) [] say also = absurd also
one_list (d ∷ ds) (l ∷ ls) (k ∷ ks) say also =
    let first : l ≡ k = one_level d l k say.0 also.0 in
    let rest : ls ≡ ks = one_list ds ls ks say.1 also.1 in
    cc

one_book : (d : Data) (book other : BookCosts) → SaysBook d book → SaysBook d other → book ≡ other
one_book d book other says also =
    let forward : book.forward ≡ other.forward = cc (says.forward, also.forward) in
    let reverse : book.reverse ≡ other.reverse = cc (says.reverse, also.reverse) in
    let entries : also.entries ≡ says.entries = cc (says.list, also.list) in
    let P : List Data → Type 0 = λ ds. SayLevels ds other.levels in
    let levels : book.levels ≡ other.levels = one_list says.entries book.levels other.levels says.levels (subst P entries also.levels) in
    ap (λ x. record book { forward = x }) forward
    ∙ ap (λ x. record book { forward = other.forward; reverse = x }) reverse
    ∙ ap (λ x. record other { levels = x }) levels

-- bytes are the text of one value
one_value : (bytes : List ℕ) (d e : Data) → IsTextOf bytes d → IsTextOf bytes e → d ≡ e
one_value bytes d e text also = cc (text.read, also.read)

pub one_text : (bytes : List ℕ) (book other : BookCosts) → IsBookText bytes book → IsBookText bytes other → book ≡ other
one_text bytes book other text also =
    let same : also.value ≡ text.value = one_value bytes also.value text.value also.text text.text in
    let P : Data → Type 0 = λ d. SaysBook d other in
    one_book text.value book other text.says (subst P same also.says)

-- a value that is without a fault has none
contrary : (bytes : List ℕ) (book : BookCosts) (fault : BookFault) (d : Data) → IsBookText bytes book → IsTextOf bytes d → fault_in d ≡ Some fault → ⊥
contrary bytes book fault d text also is =
    let same : d ≡ text.value = one_value bytes d text.value also text.text in
    let none : fault_in d ≡ None = ap fault_in same ∙ text.faultless in
    cc (none, is)

pub not_refused : (bytes : List ℕ) (book : BookCosts) (fault : BookFault) → IsBookText bytes book → IsRefused bytes fault → fault ≡ Memory
not_refused bytes book NotJson text refused = absurd (refused text.value text.text)
not_refused bytes book Memory text refused = refl
not_refused bytes book (Shape n) text refused = absurd (contrary bytes book (Shape n) refused.0 text refused.1 refused.2)
not_refused bytes book (Levels n) text refused = absurd (contrary bytes book (Levels n) refused.0 text refused.1 refused.2)
not_refused bytes book (Name n) text refused = absurd (contrary bytes book (Name n) refused.0 text refused.1 refused.2)
not_refused bytes book (CostRange n) text refused = absurd (contrary bytes book (CostRange n) refused.0 text refused.1 refused.2)
not_refused bytes book (SlotRange n) text refused = absurd (contrary bytes book (SlotRange n) refused.0 text refused.1 refused.2)
not_refused bytes book (CostOrder n) text refused = absurd (contrary bytes book (CostOrder n) refused.0 text refused.1 refused.2)

-- ---- a text has one fault at most

-- of any fault but want of memory: the bytes are no JSON text, or the text of a value that has it
fault_of : (bytes : List ℕ) (fault : BookFault) → IsRefused bytes fault → fault ≢ Memory → (fault ≡ NotJson) ⊎ ((d : Data) × IsTextOf bytes d × (fault_in d ≡ Some fault))
fault_of bytes NotJson refused other = inl refl
fault_of bytes Memory refused other = absurd (other refl)
fault_of bytes (Shape n) refused other = inr refused
fault_of bytes (Levels n) refused other = inr refused
fault_of bytes (Name n) refused other = inr refused
fault_of bytes (CostRange n) refused other = inr refused
fault_of bytes (SlotRange n) refused other = inr refused
fault_of bytes (CostOrder n) refused other = inr refused

no_value : (bytes : List ℕ) (fault : BookFault) (d : Data) → IsRefused bytes fault → fault ≡ NotJson → IsTextOf bytes d → ⊥
no_value bytes fault d refused is text = let P : BookFault → Type 0 = λ x. IsRefused bytes x in subst P is refused d text

pub one_fault : (bytes : List ℕ) (a b : BookFault) → IsRefused bytes a → IsRefused bytes b → a ≢ Memory → b ≢ Memory → a ≡ b
one_fault bytes a b refused also other more = elim (fault_of bytes a refused other) [
  | inl x ↦ elim (fault_of bytes b also more) [ inl y ↦ x ∙ sym y | inr y ↦ absurd (no_value bytes a y.0 refused x y.1) ]
  | inr x ↦ elim (fault_of bytes b also more) [
    | inl y ↦ absurd (no_value bytes b x.0 also y x.1)
    | inr y ↦ let same : x.0 ≡ y.0 = one_value bytes x.0 y.0 x.1 y.1 in same_Some a b (sym x.2 ∙ ap fault_in same ∙ y.2)
  ]
]

-- ---- the names of a book that a text says

pub none_of_all : (faults : List (Option BookFault)) → first_of faults ≡ None → AllByRecursion (λ fault. fault ≡ None) faults
none_of_all [] h = tt
none_of_all (fault ∷ faults) h = let parts = none_of_both fault (first_of faults) h in (parts.0, none_of_all faults parts.1)

pub text_names : (bytes : List ℕ) (book : BookCosts) → IsBookText bytes book → AreNames (names_of book)
text_names bytes book text =
    let none = (none_of_all (faults_in text.value) text.faultless).1.1.1.1.1.1.0 in
    let P : List Data → Type 0 = λ ds. first_of (each (name_fault ds) ds) ≡ None in
    levels_named text.says.entries book.levels text.says.levels (subst P (ap (λ o. unwrap_or o []) text.says.list) none)
