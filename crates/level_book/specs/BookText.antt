-- What a text means as a book: a JSON value, as serde_json reads it, with named fields. Other fields are ignored.
use Rattle.std.specs.Prelude.{◌≡◌, ℕ, List, [], ◌∷◌, codes, Option, Some, None, option_map, option_and_then}
use Rattle.std.specs.Str.{IsUtf8}
use Rattle.serde_json.specs.Data.{Data, null, boolean, number, string, array, object, Items, no_items, item}
use Rattle.serde_json.specs.Find.{get, as_array, as_number, as_str, as_u64}
use Rattle.serde_json.specs.Read.{read}
use Rattle.level_book.specs.declared.book.Level.{Level}
use Rattle.level_book.specs.declared.book.Slots.{Slots}
use Rattle.level_book.specs.declared.book.Slots.TheVariants.{Count, Unlimited}
use Rattle.level_book.specs.BookCosts.{BookCosts}

-- the bytes are the JSON text of this value
pub record IsTextOf (bytes : List ℕ) (d : Data) : Type 0 where
  pub utf8 : IsUtf8 bytes
  pub read : read bytes ≡ Some d

-- The kinds of field: a number from 0 to 2^64 - 1, a text, a slot count, a list. A null count means unlimited slots.
-- None: the field is missing or of another kind.
abbrev pub number_in : List ℕ → Data → Option ℕ
number_in field d = option_and_then as_u64 (option_and_then as_number (get field d))

abbrev pub text_in : List ℕ → Data → Option (List ℕ)
text_in field d = option_and_then as_str (get field d)

abbrev pub slots_of_value : Data → Option Slots
slots_of_value null = Some Unlimited
slots_of_value (number n) = option_map Count (as_u64 n)
slots_of_value (boolean b) = None
slots_of_value (string s) = None
slots_of_value (array ds) = None
slots_of_value (object ms) = None

abbrev pub slots_in : List ℕ → Data → Option Slots
slots_in field d = option_and_then slots_of_value (get field d)

abbrev pub list_of : Items → List Data
list_of no_items = []
list_of (item d ds) = d ∷ list_of ds

abbrev pub list_in : List ℕ → Data → Option (List Data)
list_in field d = option_map list_of (option_and_then as_array (get field d))

-- an entry of the list of levels says this level
pub record SaysLevel (d : Data) (level : Level) : Type 0 where
  pub name : text_in (codes "name") d ≡ Some level.name
  pub slots : slots_in (codes "slots") d ≡ Some level.slots
  pub write : number_in (codes "write") d ≡ Some level.write
  pub read : number_in (codes "read") d ≡ Some level.read

-- each entry means its level, in their order
abbrev pub SayLevels : List Data → List Level → Type 0
SayLevels [] [] = Unit {0}
SayLevels (d ∷ ds) (level ∷ levels) = SaysLevel d level × SayLevels ds levels
SayLevels [] (level ∷ levels) = ⊥
SayLevels (d ∷ ds) [] = ⊥

-- the value means this book
pub record SaysBook (d : Data) (book : BookCosts) : Type 0 where
  pub forward : number_in (codes "forward") d ≡ Some book.forward
  pub reverse : number_in (codes "reverse") d ≡ Some book.reverse
  pub entries : List Data
  pub list : list_in (codes "levels") d ≡ Some entries
  pub levels : SayLevels entries book.levels
