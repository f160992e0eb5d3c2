-- What the lines of a certificate must be: the word at each place, by the kind that the first word names.
use Rattle.std.specs.Prelude.{◌≡◌, ◌⊎◌, ℕ, ◌+◌, ◌-◌, ◌^◌, ◌<◌, ◌≤◌, List, [], ◌∷◌, ◌++◌, length, map, replicate, codes, decimal}
use Rattle.std.specs.List.{range_with_len, flat_map}
use Rattle.cert_text.specs.declared.reading.TheConstants.{MOST_REPEATS}
use Rattle.level_book.specs.BookCosts.{BookCosts, room}
use Rattle.cost_tables.specs.TableRows as tables
use Rattle.cert_text.specs.declared.kind.Kind.{Kind}
use Rattle.cert_text.specs.declared.kind.Kind.TheVariants.{Revolve, Places, Nested, Disk}

-- What is allowed at one place: one word, a number up to a limit, or an entry of a table.
pub data Want : Type 0 where
  this_word : List ℕ → Want
  number_to : ℕ → Want
  an_entry : Want

-- the text is allowed there
abbrev pub TakesWord : Want → List ℕ → Type 0
TakesWord (this_word word) text = text ≡ word
TakesWord (number_to most) text = (n : ℕ) × (n ≤ most) × (text ≡ decimal n)
TakesWord an_entry text = (text ≡ codes "-") ⊎ ((n : ℕ) × (n < 2 ^ 64) × (text ≡ decimal n))

-- the greatest number of 64 bits
abbrev pub greatest : ℕ
greatest = 2 ^ 64 - 1

-- the word that names a kind
abbrev pub kind_word : Kind → List ℕ
kind_word Revolve = codes "revolve"
kind_word Places = codes "places"
kind_word Nested = codes "nested"
kind_word Disk = codes "disk"

-- What comes after the first word in its line: k, at most 1,000,000, and the value; or the threshold.
abbrev pub first_wants : Kind → List Want
first_wants Revolve = number_to MOST_REPEATS ∷ number_to greatest ∷ []
first_wants Places = number_to greatest ∷ []
first_wants Nested = []
first_wants Disk = []

-- a line of entries: its head, and one for each number of steps
abbrev pub row_wants : List (List ℕ) → ℕ → List Want
row_wants head steps = map this_word head ++ replicate steps an_entry

-- so many of them, of level k
unfoldable pub rows_wants : List ℕ → ℕ → ℕ → ℕ → List (List Want)
rows_wants letter k steps count = map (λ m. row_wants (letter ∷ decimal k ∷ decimal m ∷ []) steps) (range_with_len 0 count)

-- the lines of level k
unfoldable pub level_wants : ℕ → BookCosts → ℕ → List (List Want)
level_wants steps book k = rows_wants (codes "F") k steps (room book k steps + 1) ++ rows_wants (codes "H") k steps (room book k steps)

-- the last lines of disk tables: the entries over both levels, and the end
abbrev pub column_wants : ℕ → List (List Want)
column_wants steps = row_wants (codes "Fd" ∷ []) steps ∷ row_wants (codes "Hd" ∷ []) steps ∷ (this_word (codes "end") ∷ []) ∷ []

-- the lines after the first
abbrev pub later_wants : Kind → ℕ → BookCosts → List (List Want)
later_wants Revolve steps book = []
later_wants Places steps book = []
later_wants Nested steps book = flat_map (level_wants steps book) (range_with_len 0 (length book.levels)) ++ (this_word (codes "end") ∷ []) ∷ []
later_wants Disk steps book = flat_map (level_wants steps (tables.fastest book)) (range_with_len 0 (length (tables.fastest book).levels)) ++ column_wants steps

-- the tables of this kind, if it has any, can be built for so many steps and the book
abbrev pub Fits : Kind → ℕ → BookCosts → Type 0
Fits Revolve steps book = Unit {0}
Fits Places steps book = Unit {0}
Fits Nested steps book = tables.TablesFit steps book
Fits Disk steps book = tables.FastestTablesFit steps book

-- they can't be built
abbrev pub IsTooLarge : Kind → ℕ → BookCosts → Type 0
IsTooLarge kind steps book = Fits kind steps book → ⊥

-- all lines
abbrev pub wants_of : Kind → ℕ → BookCosts → List (List Want)
wants_of kind steps book = (this_word (kind_word kind) ∷ first_wants kind) ∷ later_wants kind steps book
