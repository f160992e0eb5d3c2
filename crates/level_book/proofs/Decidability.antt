-- Each text is a book, or is refused for a fault of its own.
use Rattle.std.proofs.Common.{◌≡◌, ◌≢◌, ◌⊎◌, inl, inr, ℕ, ◌+◌, ◌*◌, Bool, true, false, List, [], ◌∷◌, Option, Some, None, refl}
use Rattle.std.specs.Prelude.{codes, unwrap_or}
use Rattle.std.specs.Str.{is_utf8}
use Rattle.std.proofs.lemmas.Str.{IsUtf8-from_is_utf8, is_utf8-from_IsUtf8}
use Rattle.serde_json.specs.Data.{Data}
use Rattle.serde_json.specs.Read.{read}
use Rattle.level_book.specs.declared.book.Level.{Level}
use Rattle.level_book.specs.declared.book.Slots.TheVariants.{Unlimited}
use Rattle.level_book.specs.declared.fault.BookFault.{BookFault}
use Rattle.level_book.specs.declared.fault.BookFault.TheVariants.{NotJson, Shape, Memory}
use Rattle.level_book.specs.BookCosts.{BookCosts}
use Rattle.level_book.specs.BookText.{IsTextOf, SaysLevel, SayLevels, SaysBook, number_in, slots_in, list_in}
use Rattle.level_book.specs.BookFaults.{first_of, shape_fault, missing_in, faults_in, fault_in, IsBookText, IsRefused}
use Rattle.level_book.proofs.FaultlessEntries.{holds_unless, none_of_both, unmapped, from}
use Rattle.level_book.proofs.ReadLevels.{some_is, has_fields}
use Rattle.level_book.proofs.OneBook.{none_of_all}
use Rattle.level_book.proofs.TextRefusals.{refuses, not_memory}

-- entries that lack no field say levels
levels_said : (n : ℕ) (ds : List Data) → first_of (from n shape_fault ds) ≡ None → (levels : List Level) × SayLevels ds levels
levels_said n [] none = ([], tt)
levels_said n (d ∷ ds) none =
    let parts = none_of_both (shape_fault n d) (first_of (from (n + 1) shape_fault ds)) none in
    let fields = has_fields d (unmapped (λ field. Shape (4 + 4 * n + field)) (missing_in d) parts.0) in
    let rest = levels_said (n + 1) ds parts.1 in
    let says : SaysLevel d (record {
      name = _;
      slots = unwrap_or (slots_in (codes "slots") d) Unlimited;
      write = _;
      read = _;
    }) = record {
      name = fields.name;
      slots = some_is (slots_in (codes "slots") d) Unlimited fields.slots;
      write = fields.write;
      read = fields.read;
    } in
    (_ ∷ rest.0, (says, rest.1))

-- a value without a fault says a book
book_said : (d : Data) → fault_in d ≡ None → (book : BookCosts) × SaysBook d book
book_said d none =
    let all = none_of_all (faults_in d) none in
    let forward = some_is (number_in (codes "forward") d) 0 (holds_unless _ (Shape 1) all.1.0) in
    let reverse = some_is (number_in (codes "reverse") d) 0 (holds_unless _ (Shape 2) all.1.1.0) in
    let list = some_is (list_in (codes "levels") d) [] (holds_unless _ (Shape 3) all.1.1.1.0) in
    let entries = unwrap_or (list_in (codes "levels") d) [] in
    let levels = levels_said 0 entries all.1.1.1.1.1.0 in (
      record { forward = unwrap_or (number_in (codes "forward") d) 0; reverse = unwrap_or (number_in (codes "reverse") d) 0; levels = levels.0 },
      record { forward = forward; reverse = reverse; entries = entries; list = list; levels = levels.1 },
    )

-- a book, or a fault of its own
abbrev Decided : List ℕ → Type 0
Decided bytes = ((book : BookCosts) × IsBookText bytes book) ⊎ ((fault : BookFault) × (fault ≢ Memory) × IsRefused bytes fault)

no_text : (bytes : List ℕ) → ((d : Data) → IsTextOf bytes d → ⊥) → Decided bytes
no_text bytes none = let other : NotJson ≢ Memory = λ e. cc e in inr (NotJson, other, none)

decide_value : (bytes : List ℕ) (d : Data) → IsTextOf bytes d → (found : Option BookFault) → fault_in d ≡ found → Decided bytes
decide_value bytes d text None is =
    let book = book_said d is in
    inl (book.0, record { value = d; text = text; says = book.1; faultless = is })
decide_value bytes d text (Some fault) is = inr (fault, not_memory d fault is, refuses bytes d fault text is)

decide_text : (bytes : List ℕ) (utf8 : Bool) (value : Option Data) → is_utf8 bytes ≡ utf8 → read bytes ≡ value → Decided bytes
decide_text bytes false value isnt is = no_text bytes (λ d text. let is_text = is_utf8-from_IsUtf8 bytes text.utf8 in cc (isnt, is_text))
decide_text bytes true None utf8 is = no_text bytes (λ d text. let value = text.read in cc (is, value))
decide_text bytes true (Some d) utf8 is = decide_value bytes d (record { utf8 = IsUtf8-from_is_utf8 bytes utf8; read = is }) (fault_in d) refl

pub decided : (bytes : List ℕ) → Decided bytes
decided bytes = decide_text bytes (is_utf8 bytes) (read bytes) refl refl
