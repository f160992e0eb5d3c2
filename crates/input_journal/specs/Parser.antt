-- How bytes are read from left to right: the items, or the first fault. The laws tie it to `Form` and `Faults`, which
-- define both on whole lists of bytes.
use Rattle.std.specs.Prelude.{◌≡◌, ◌+◌, ◌==◌, ℕ, zero, suc, List, [], ◌∷◌, length, take, drop, Result, Ok, Err, nat_lt, nat_eq, if◌then◌else◌}
use Rattle.std.specs.Int.{w32, from_le_bytes}
use Rattle.std.specs.List.{starts_with}
use Rattle.input_journal.specs.declared.fault.JournalFault.{JournalFault}
use Rattle.input_journal.specs.declared.fault.JournalFault.TheVariants.{Magic, Version, Truncated, TooLong, Trailing, Memory}
use Rattle.input_journal.specs.Form.{letters}

infixl 10 ◌>>=◌
abbrev pub ◌>>=◌ : {A B : Type 0} → Result A JournalFault → (A → Result B JournalFault) → Result B JournalFault
(Ok x) >>= f = f x
(Err e) >>= f = Err e

-- a refusal is the first fault, unless memory ran out
abbrev pub Fails : {Y : Type 0} → JournalFault → Result Y JournalFault → Type 0
Fails Memory read = Unit {0}
Fails fault read = read ≡ Err fault

-- a function's result, seen through `view`, is what is read, unless memory ran out
abbrev pub Gives : {X Y : Type 0} → (X → Y) → Result X JournalFault → Result Y JournalFault → Type 0
Gives view (Ok x) read = read ≡ Ok (view x)
Gives view (Err e) read = Fails e read

-- the number at the front of the rest, which starts at this place
abbrev pub number_at : ℕ → List ℕ → Result ℕ JournalFault
number_at at rest = if nat_lt (length rest) 4 then Err (Truncated at) else Ok (from_le_bytes w32 (take 4 rest))

-- the item at the front of the rest
unfoldable pub item_at : ℕ → List ℕ → Result (List ℕ) JournalFault
item_at at rest = do
  n ← number_at at rest
  if nat_lt 1048576 n then Err (TooLong at) else
      (if nat_lt (length (drop 4 rest)) n then Err (Truncated (at + 4)) else Ok (take n (drop 4 rest)))

-- so many items, and nothing after them
unfoldable pub items_at : ℕ → ℕ → List ℕ → Result (List (List ℕ)) JournalFault
items_at zero at rest = if length rest == 0 then Ok [] else Err (Trailing at)
items_at (suc count) at rest = do
  item ← item_at at rest
  others ← items_at count (at + (4 + length item)) (drop (4 + length item) rest)
  Ok (item ∷ others)

-- the number of items, after the letters and the version
unfoldable pub count_of : List ℕ → Result ℕ JournalFault
count_of bytes =
    if starts_with nat_eq bytes letters then
    (number_at 4 (drop 4 bytes) >>= λ version.
    if version == 1 then (number_at 8 (drop 8 bytes) >>= λ count. if nat_lt 65536 count then Err (TooLong 8) else Ok count) else Err Version)
    else Err Magic

-- the items of a journal
unfoldable pub reading : List ℕ → Result (List (List ℕ)) JournalFault
reading bytes = do
  count ← count_of bytes
  items_at count 12 (drop 12 bytes)
