-- The first fault of bytes that are no journal, from left to right, with its place.
use Rattle.std.specs.Prelude.{◌≡◌, ◌≢◌, ◌≤◌, ◌<◌, ◌^◌, ℕ, List, ◌++◌, length, take}
use Rattle.std.specs.List.{AllByRecursion}
use Rattle.input_journal.specs.declared.fault.JournalFault.{JournalFault}
use Rattle.input_journal.specs.declared.fault.JournalFault.TheVariants.{Magic, Version, Truncated, TooLong, Trailing, Memory}
use Rattle.input_journal.specs.Form.{letters, number, beginning, IsShort, IsJournal}

-- of so many items these were read, and one more is to come
pub record HasMore (count : ℕ) (items : List (List ℕ)) : Type 0 where
  pub few : count ≤ 65536
  pub short : AllByRecursion IsShort items
  pub more : length items < count

-- A field of so many bytes is expected after these. It is the version, the number of items, an item's length, or its
-- bytes.
pub data IsDue (before : List ℕ) (size : ℕ) : Type 0 where
  version : before ≡ letters → size ≡ 4 → IsDue before size
  count : before ≡ letters ++ number 1 → size ≡ 4 → IsDue before size
  item_length : (n : ℕ) (items : List (List ℕ)) → HasMore n items → before ≡ beginning n items → size ≡ 4 → IsDue before size
  item : (n : ℕ) (items : List (List ℕ)) → HasMore n items → before ≡ beginning n items ++ number size → size ≤ 1048576 → IsDue before size

-- after these bytes comes a number that is too large: of items, or of an item's bytes
pub data IsTooLarge (before : List ℕ) (n : ℕ) : Type 0 where
  count : before ≡ letters ++ number 1 → 65536 < n → IsTooLarge before n
  item_length : (count : ℕ) (items : List (List ℕ)) → HasMore count items → before ≡ beginning count items → 1048576 < n → IsTooLarge before n

-- the first fault of the bytes
abbrev pub FirstFault : List ℕ → JournalFault → Type 0
-- fewer than four bytes, or other ones
FirstFault bytes Magic = take 4 bytes ≢ letters
-- the version is there and isn't 1
FirstFault bytes Version = (n : ℕ) × (rest : List ℕ) × (bytes ≡ letters ++ (number n ++ rest)) × (n < 2 ^ 32) × (n ≢ 1)
-- an expected field isn't all there; the place is where it starts
FirstFault bytes (Truncated at) =
    (before : List ℕ) × (part : List ℕ) × (size : ℕ) × IsDue before size × (bytes ≡ before ++ part) × (length part < size) × (at ≡ length before)
-- a number is too large; the place is where it starts
FirstFault bytes (TooLong at) =
    (before : List ℕ) × (rest : List ℕ) × (n : ℕ) × IsTooLarge before n × (bytes ≡ before ++ (number n ++ rest)) × (n < 2 ^ 32) × (at ≡ length before)
-- bytes follow the last item; the place is the first of them
FirstFault bytes (Trailing at) =
    (items : List (List ℕ)) × (before : List ℕ) × (rest : List ℕ) × IsJournal before items × (bytes ≡ before ++ rest) × (0 < length rest) × (at ≡ length before)
-- a lack of memory is no fault of the bytes
FirstFault bytes Memory = ⊥
