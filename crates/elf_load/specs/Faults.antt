-- Why bytes are no program: the first line of the table that isn't met, with its numbers.
use Rattle.std.specs.Prelude.{◌≡◌, ◌⊎◌, ◌<◌, ◌≤◌, ℕ, List, length}
use Rattle.elf_load.specs.declared.fault.ElfFault.{ElfFault}
use Rattle.elf_load.specs.declared.fault.ElfFault.TheVariants.{NotElf, Class, Kind, Machine, Headers, Segment, Overlap, TooLarge, Entry, Memory, RawLength}
use Rattle.elf_load.specs.Program.{AreMapped}
use Rattle.elf_load.specs.Raw.{AreWords, raw_pieces}
use Rattle.elf_load.specs.Elf.{HasMagic, HasClass, IsExecutable, IsForRiscV, HasHeaders, IsSoundIfLoaded, Share, AllFit, NoneShare, HasEntry, e_entry, e_phnum, pieces}

-- the lines of the table by their numbers
abbrev pub number_of : ElfFault → ℕ
number_of NotElf = 1
number_of Class = 2
number_of Kind = 3
number_of Machine = 4
number_of Headers = 5
number_of (Segment i) = 6
number_of (Overlap i j) = 7
number_of (TooLarge n) = 8
number_of (Entry e) = 9
number_of Memory = 10
number_of (RawLength n) = 11

-- the line of a fault is met, whatever numbers the fault has
abbrev pub IsMet : List ℕ → ℕ → ElfFault → Type 0
IsMet file stack NotElf = HasMagic file
IsMet file stack Class = HasClass file
IsMet file stack Kind = IsExecutable file
IsMet file stack Machine = IsForRiscV file
IsMet file stack Headers = HasHeaders file
IsMet file stack (Segment i) = AllFit file stack
IsMet file stack (Overlap i j) = NoneShare file
IsMet file stack (TooLarge n) = (pages : List ℕ) → AreMapped (pieces file) stack pages → length pages ≤ 4096
IsMet file stack (Entry e) = HasEntry file stack
IsMet file stack Memory = Unit {0}
IsMet file stack (RawLength n) = Unit {0}

-- the pages are too many, and there are so many of them
abbrev pub AreTooMany : List ℕ → ℕ → Type 0
AreTooMany pages n = (n ≡ length pages) × (4096 < n)

-- The line of a fault isn't met, and the fault has numbers that say where. They are the misfitting header, the two that
-- share an address, the number of pages, or the entry. A lack of memory is no fault of the bytes.
abbrev pub IsMissed : List ℕ → ℕ → ElfFault → Type 0
IsMissed file stack NotElf = HasMagic file → ⊥
IsMissed file stack Class = HasClass file → ⊥
IsMissed file stack Kind = IsExecutable file → ⊥
IsMissed file stack Machine = IsForRiscV file → ⊥
IsMissed file stack Headers = HasHeaders file → ⊥
IsMissed file stack (Segment i) = (i < e_phnum file) × (IsSoundIfLoaded file stack i → ⊥) × ((k : ℕ) → k < i → IsSoundIfLoaded file stack k)
IsMissed file stack (Overlap i j) =
    (i < j) × (j < e_phnum file) × Share file i j ×
    ((k l : ℕ) → k < l → l < e_phnum file → Share file k l → (i < k) ⊎ ((i ≡ k) × (j ≤ l)))
IsMissed file stack (TooLarge n) = (pages : List ℕ) × AreMapped (pieces file) stack pages × AreTooMany pages n
IsMissed file stack (Entry e) = (e ≡ e_entry file) × (HasEntry file stack → ⊥)
IsMissed file stack Memory = ⊥
IsMissed file stack (RawLength n) = ⊥

-- the first fault of a file: its line isn't met, and each line before it is
pub record FirstFault (file : List ℕ) (stack : ℕ) (fault : ElfFault) : Type 0 where
  pub before : (earlier : ElfFault) → number_of earlier < number_of fault → IsMet file stack earlier
  pub missed : IsMissed file stack fault

-- the first fault of raw words: they are no whole words, or too many pages are mapped
abbrev pub FirstRawFault : List ℕ → ℕ → ElfFault → Type 0
FirstRawFault bytes stack (RawLength n) = (n ≡ length bytes) × (AreWords bytes → ⊥)
FirstRawFault bytes stack (TooLarge n) = AreWords bytes × ((pages : List ℕ) × AreMapped (raw_pieces bytes) stack pages × AreTooMany pages n)
FirstRawFault bytes stack _ = ⊥
