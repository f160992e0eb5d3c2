-- Memory as a finite map from mapped addresses to bytes. Addresses are below 2 ^ 32 and are mapped by whole pages of
-- 4,096 bytes. This says nothing of how the pages are kept.
use Rattle.std.specs.Prelude.{◌≡◌, ◌≢◌, ℕ, zero, suc, ◌+◌, ◌*◌, ◌/◌, ◌%◌, ◌^◌, ◌==◌, ◌<◌, ◌≤◌, cond, List, [], ◌∷◌, map, filter, length, slice_index, Option, None, Some, IsSome, MatchOption}
use Rattle.std.specs.Option.{option_map}
use Rattle.std.specs.List.{All, enumerate_from, filter_map, flat_map}
use Rattle.std.specs.List.Sorted.{IsStrictlyIncreasing}
use Rattle.std.specs.Ordering.{nat_cmp}
use Rattle.std.specs.FinMap as finmap

abbrev pub Memory : Type 0
Memory = finmap.FinMap nat_cmp ℕ

-- an address modulo 2 ^ 32: the address space is circular (RISC-V unprivileged manual, "Memory")
abbrev pub wrapped : ℕ → ℕ
wrapped n = n % 2 ^ 32

-- the byte at an address, if it is mapped
abbrev pub byte_at : Memory → ℕ → Option ℕ
byte_at m at = finmap.get m (wrapped at)

-- a byte before others, if all of them are there
abbrev pub followed_by : Option ℕ → Option (List ℕ) → Option (List ℕ)
followed_by (Some b) (Some bs) = Some (b ∷ bs)
followed_by _ _ = None

-- so many bytes from an address on, if all are mapped; addresses are modulo 2 ^ 32
abbrev pub bytes_at : Memory → ℕ → ℕ → Option (List ℕ)
bytes_at m at zero = Some []
bytes_at m at (suc n) = followed_by (byte_at m at) (bytes_at m (at + 1) n)

-- bytes as a number, the lowest first (RISC-V unprivileged manual, "Load and Store Instructions": little-endian)
abbrev pub little_endian : List ℕ → ℕ
little_endian [] = 0
little_endian (b ∷ bs) = b + little_endian bs * 2 ^ 8

-- the lowest bytes of a number, so many, in little-endian order
abbrev pub low_bytes : ℕ → ℕ → List ℕ
low_bytes zero value = []
low_bytes (suc n) value = value % 2 ^ 8 ∷ low_bytes n (value / 2 ^ 8)

-- the little-endian number of so many bytes at an address, which needs no alignment
abbrev pub number_at : Memory → ℕ → ℕ → Option ℕ
number_at m at n = option_map little_endian (bytes_at m at n)

-- the word at an address: four bytes
abbrev pub word_at : Memory → ℕ → Option ℕ
word_at m at = number_at m at 4

-- all of so many bytes from an address on are mapped
abbrev pub IsMapped : Memory → ℕ → ℕ → Type 0
IsMapped m at n = (k : ℕ) → k < n → IsSome (byte_at m (at + k))

-- the memory with these bytes from an address on, modulo 2 ^ 32, and all else as before
abbrev pub with_bytes : Memory → ℕ → List ℕ → Memory
with_bytes m at [] = m
with_bytes m at (b ∷ bs) = with_bytes (finmap.insert m (wrapped at) b) (at + 1) bs

-- the memory with the lowest bytes of a number, so many, from an address on
abbrev pub with_number : Memory → ℕ → ℕ → ℕ → Memory
with_number m at n value = with_bytes m at (low_bytes n value)

-- the numbers of the mapped pages, in ascending order: a page is mapped where its first address is
abbrev pub page_numbers : Memory → List ℕ
page_numbers m = filter_map (λ at. cond (at % 4096 == 0) (Some (at / 4096)) None) (finmap.keys m)

-- the bytes at the addresses of a page, in the order of the addresses
abbrev pub page_bytes : Memory → ℕ → List ℕ
page_bytes m page = map (λ e. e.1) (filter (λ e. e.0 / 4096 == page) (finmap.entries m))

-- the place of a number in a list, if it is there
abbrev pub IsPlaceOf : List ℕ → ℕ → Option ℕ → Type 0
IsPlaceOf numbers number place =
    MatchOption place
    ((k : ℕ) → k < length numbers → slice_index numbers k ≡ number → ⊥)
    (λ k. (k < length numbers) × (slice_index numbers k ≡ number))

-- all mapped pages but the one at this index keep their bytes
abbrev pub KeepsPagesBut : ℕ → Memory → Memory → Type 0
KeepsPagesBut index old new = (k : ℕ) → k < length (page_numbers old) → k ≢ index →
    page_bytes new (slice_index (page_numbers old) k) ≡ page_bytes old (slice_index (page_numbers old) k)

-- a page that has no byte other than 0
abbrev pub IsZeroPage : Memory → ℕ → Type 0
IsZeroPage m page = All (λ b. b ≡ 0) (page_bytes m page)

-- so many addresses from this one on, each with the byte 0
abbrev pub zeros_from : ℕ → ℕ → List (ℕ × ℕ)
zeros_from at zero = []
zeros_from at (suc n) = (at, 0) ∷ zeros_from (at + 1) n

-- the memory that maps these pages, and holds the byte 0 everywhere
unfoldable pub zeroed : List ℕ → Memory
zeroed pages = finmap.from_entries (flat_map (λ page. zeros_from (page * 4096) 4096) pages)

-- the memory that maps these pages, each with the bytes that belong to its number
unfoldable pub of_pages : (ℕ → List ℕ) → List ℕ → Memory
of_pages bytes pages = finmap.from_entries (flat_map (λ page. enumerate_from (page * 4096) (bytes page)) pages)

-- a page that a machine's memory can have
pub record IsPage (m : Memory) (page : ℕ) : Type 0 where
  pub below : page < 2 ^ 20
  pub full : length (page_bytes m page) ≡ 4096
  pub bytes : All (λ b. b < 256) (page_bytes m page)

-- Memory as a machine has it. It consists of whole pages, at most 4,096 of them, and of nothing else.
pub record IsMemory (m : Memory) : Type 0 where
  pub made : m ≡ of_pages (page_bytes m) (page_numbers m)
  pub ascending : IsStrictlyIncreasing (page_numbers m)
  pub few : length (page_numbers m) ≤ 4096
  pub pages : All (IsPage m) (page_numbers m)
