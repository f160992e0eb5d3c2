-- What the reader of options computes, as functions on lists, and the option that one in memory is.
use Rattle.std.specs.Prelude.{ℕ, ◌==◌, Bool, true, not, ◌&&◌, if◌then◌else◌, List, [], ◌∷◌, length, codes, find, Option, None, Some, unwrap_or}
use Rattle.std.specs.List.{list_any}
use Rattle.std.specs.Str.{bytes_eq}
use Rattle.requests.specs.declared.options.Choice as in_memory
use Rattle.requests.specs.declared.options.Choice.TheVariants.{Raw, Stack, Workers, Unit, Files}
use Rattle.requests.specs.ParserSteps.{◌>>=◌, with_or, after_of}
use Rattle.line_texts.specs.Parsers.{number_at}
use Rattle.line_texts.specs.Parsers as texts
use Rattle.requests.specs.Request.{Choice, raw, stack, workers, units, files, is_raw, is_stack, is_workers, is_units, is_files}

-- the number that a whole word is
abbrev pub number_of : List ℕ → Option ℕ
number_of word = texts.number_of 18446744073709551615 word

-- the option of the stack, after its prefix
abbrev pub stack_of : List ℕ → Option Choice
stack_of text = number_of text >>= λ pages. Some (stack pages)

-- the option of the workers, after its prefix
abbrev pub workers_of : List ℕ → Option Choice
workers_of text = number_of text >>= λ count. Some (workers count)

-- the option of units, after its prefix
abbrev pub unit_of : List ℕ → Option Choice
unit_of text = number_of text >>= λ count. Some (units count)

-- the option of a level's files, after its prefix
abbrev pub files_of : List ℕ → Option Choice
files_of text =
    number_at 18446744073709551615 text >>= λ level. after_of (codes ":") level.1 >>= λ folder. if length folder == 0 then None else Some (files level.0 folder)

-- the option that a word is
unfoldable pub choice_of : List ℕ → Option Choice
choice_of word =
    if bytes_eq word (codes "--raw") then Some raw
    else with_or (after_of (codes "--stack=") word) stack_of
    (with_or (after_of (codes "--workers=") word) workers_of
    (with_or (after_of (codes "--unit=") word) unit_of
    (after_of (codes "--files=") word >>= files_of)))

-- the option that the first word is, and the words after it
abbrev pub first_choice : List (List ℕ) → Option (Choice × List (List ℕ))
first_choice [] = None
first_choice (word ∷ words) = choice_of word >>= λ choice. Some (choice, words)

-- the options at the front of the words
unfoldable pub options_at : List (List ℕ) → List Choice
options_at [] = []
options_at (word ∷ words) = with_or (choice_of word) (λ choice. choice ∷ options_at words) []

-- the words after them
unfoldable pub behind_options : List (List ℕ) → List (List ℕ)
behind_options [] = []
behind_options (word ∷ words) = with_or (choice_of word) (λ choice. behind_options words) (word ∷ words)

-- whether an option is of this one's kind, which occurs at most once
abbrev pub is_like : Choice → Choice → Bool
is_like raw = is_raw
is_like (stack pages) = is_stack
is_like (workers count) = is_workers
is_like (units count) = is_units
is_like (files level folder) = is_files level

abbrev pub are_single : List Choice → Bool
are_single [] = true
are_single (choice ∷ options) = not (list_any (is_like choice) options) && are_single options

-- the number of an option: for files, that of the level
abbrev pub choice_number : Choice → ℕ
choice_number raw = 0
choice_number (stack pages) = pages
choice_number (workers count) = count
choice_number (units count) = count
choice_number (files level folder) = level

-- the number of the first option of this one's kind, or of this one if there is none
abbrev pub number_like : Choice → List Choice → ℕ
number_like default options = choice_number (unwrap_or (find (is_like default) options) default)

-- the option that one in memory is
abbrev pub as_choice : in_memory.Choice → Choice
as_choice Raw = raw
as_choice (Stack pages) = stack pages
as_choice (Workers count) = workers count
as_choice (Unit count) = units count
as_choice (Files level folder) = files level folder.now
