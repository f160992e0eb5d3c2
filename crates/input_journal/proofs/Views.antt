-- What the parts that are kept are seen as, and the items one by one.
use Rattle.std.proofs.Common.{◌≡◌, ℕ, ◌+◌, ◌≤◌, ◌<◌, List, [], ◌∷◌, ◌++◌, length, take, get_or, slice_get, Some, sym, ◌∙◌, ap, subst, arith, suc, append_assoc, append-nil}
use Rattle.std.specs.List.{All, AllByRecursion, sum_by, flat_map}
use Rattle.std.proofs.lemmas.List.{take_more}
use Rattle.std.proofs.lemmas.List.Concat.{flat_map-append}
use Rattle.std.proofs.lemmas.List.Sums.{sum_by_more}
use Rattle.std.proofs.lemmas.List.Elements.{All-more}
use Rattle.std.proofs.lemmas.Option.{slice_get-get_or}
use Rattle.input_journal.specs.declared.journal.Part.{Part}
use Rattle.input_journal.specs.Form.{number, item_bytes, letters, beginning, IsShort, IsJournal}
use Rattle.input_journal.specs.Parts.{IsPart, AreParts}

pub parts_more : (count : ℕ) (parts : List Part) (part : Part) → AreParts count parts → IsPart count part → AreParts count (parts ++ part ∷ [])
parts_more count [] part all here = (here, tt)
parts_more count (x ∷ parts) part all here = (all.0, parts_more count parts part all.1 here)

some_is : {X : Type 0} (x y : X) → Some x ≡ Some y → x ≡ y
some_is x y e = cc

-- the item at an index
got : (items : List (List ℕ)) (i : ℕ) (item : List ℕ) → i < length items → slice_get items i ≡ Some item → get_or items i [] ≡ item
got items i item inside is = some_is (get_or items i []) item (sym (slice_get-get_or items i [] inside) ∙ is)

pub sum_more : (items : List (List ℕ)) (i : ℕ) (item : List ℕ) → i < length items → slice_get items i ≡ Some item → sum_by length (take (i + 1) items) ≡ sum_by length (take i items) + length item
sum_more items i item inside is = sum_by_more length items i [] inside ∙ ap (λ x. sum_by length (take i items) + length x) (got items i item inside is)

pub all_so_far : (P : List ℕ → Type 0) (items : List (List ℕ)) (i : ℕ) (item : List ℕ) → i < length items → slice_get items i ≡ Some item → All P (take i items) → P item → All P (take (i + 1) items)
all_so_far P items i item inside is all here = All-more P items i [] inside all (subst P (sym (got items i item inside is)) here)

all_by_one : (P : List ℕ → Type 0) (items : List (List ℕ)) → All P items → AllByRecursion P items
all_by_one P [] all = tt
all_by_one P (item ∷ items) all = (all 0 item (omega arith), all_by_one P items (λ k d inside. all (suc k) d (omega (arith, inside))))

-- what is written of all items are the bytes of the journal
pub is_written : (items : List (List ℕ)) (bytes : List ℕ) → length items ≤ 65536 → All IsShort items → bytes ≡ beginning (length items) items → IsJournal bytes items
is_written items bytes few short e = record { few = few; short = all_by_one IsShort items short; spelled = e }

-- bytes behind a beginning
behind : (n : ℕ) (items : List (List ℕ)) (rest : List ℕ) → beginning n items ++ rest ≡ letters ++ (number 1 ++ (number n ++ (flat_map item_bytes items ++ rest)))
behind n items rest =
    append_assoc letters (number 1 ++ (number n ++ flat_map item_bytes items)) rest
    ∙ ap (λ (l : List ℕ). letters ++ l) (append_assoc (number 1) (number n ++ flat_map item_bytes items) rest ∙ ap (λ (l : List ℕ). number 1 ++ l) (append_assoc (number n) (flat_map item_bytes items) rest))

one_more : (items : List (List ℕ)) (i : ℕ) (item : List ℕ) → i < length items → slice_get items i ≡ Some item → flat_map item_bytes (take (i + 1) items) ≡ flat_map item_bytes (take i items) ++ item_bytes item
one_more items i item inside is =
    ap (λ (l : List (List ℕ)). flat_map item_bytes l) (take_more items i [] inside ∙ ap (λ x. take i items ++ x ∷ []) (got items i item inside is))
    ∙ flat_map-append item_bytes (take i items) (item ∷ [])
    ∙ ap (λ (l : List ℕ). flat_map item_bytes (take i items) ++ l) (append-nil (item_bytes item))

pub written_more : (n : ℕ) (items : List (List ℕ)) (i : ℕ) (item bytes mid after : List ℕ) → i < length items → slice_get items i ≡ Some item → bytes ≡ beginning n (take i items) →
    mid ≡ bytes ++ number (length item) → after ≡ mid ++ item → after ≡ beginning n (take (i + 1) items)
written_more n items i item bytes mid after inside is written one two =
    two ∙ ap (λ (l : List ℕ). l ++ item) one ∙ append_assoc bytes (number (length item)) item
    ∙ ap (λ (l : List ℕ). l ++ item_bytes item) written
    ∙ behind n (take i items) (item_bytes item)
    ∙ ap (λ (l : List ℕ). letters ++ (number 1 ++ (number n ++ l))) (sym (one_more items i item inside is))
