-- The bytes of a journal: four letters, a version, the number of items, and the items. The form is our own. The length
-- of an item comes before it. Numbers have four bytes, the lowest first.
use Rattle.std.specs.Prelude.{◌≡◌, ◌≤◌, ◌<◌, ℕ, List, [], ◌∷◌, ◌++◌, length}
use Rattle.std.specs.Int.{w32, to_le_bytes}
use Rattle.std.specs.List.{All, flat_map, AllByRecursion}

-- the letters RVJL
abbrev pub letters : List ℕ
letters = 82 ∷ 86 ∷ 74 ∷ 76 ∷ []

-- a number
abbrev pub number : ℕ → List ℕ
number n = to_le_bytes w32 n

-- an item after its length
abbrev pub item_bytes : List ℕ → List ℕ
item_bytes item = number (length item) ++ item

-- the letters, the version 1, a number of items, and these items
abbrev pub beginning : ℕ → List (List ℕ) → List ℕ
beginning count items = letters ++ (number 1 ++ (number count ++ flat_map item_bytes items))

-- the only spelling of a list of items
abbrev pub journal_bytes : List (List ℕ) → List ℕ
journal_bytes items = beginning (length items) items

-- an item is of at most 1,048,576 bytes
abbrev pub IsShort : List ℕ → Type 0
IsShort item = length item ≤ 1048576

-- the bytes are those of a journal with these items, at most 65,536
pub record IsJournal (bytes : List ℕ) (items : List (List ℕ)) : Type 0 where
  pub few : length items ≤ 65536
  pub short : AllByRecursion IsShort items
  pub spelled : bytes ≡ journal_bytes items

-- recorded input: at most 65,536 items, each of at most 1,048,576 bytes
pub record IsRecorded (items : List (List ℕ)) : Type 0 where
  pub few : length items ≤ 65536
  pub short : All IsShort items
  pub bytes : All (λ item. All (λ b. b < 256) item) items
