-- No public clause cites this file. Where the parts of a line are in its bytes.
use Rattle.std.specs.Prelude.{ℕ, ◌==◌, ◌||◌, Bool, true, List, [], ◌∷◌, Option, Some, None, if◌then◌else◌, ◌≡◌, take, drop}
use Rattle.std.specs.List.{list_all, prefix_len}
use Rattle.std.specs.Str.{bytes_eq}
use Rattle.action_text.specs.Tokens.{is_run_byte, starts_run}

-- the bytes after the first line end
unfoldable pub behind_line : List ℕ → Option (List ℕ)
behind_line [] = None
behind_line (b ∷ bs) = if b == 10 then Some bs else behind_line bs

-- whether no bytes are left of a line; whether none are, or a comment begins
abbrev pub ends_line : List ℕ → Bool
ends_line [] = true
ends_line (b ∷ bs) = b == 10

abbrev pub begins_nothing : List ℕ → Bool
begins_nothing [] = true
begins_nothing (b ∷ bs) = b == 10 || b == 35

-- how many bytes at the front are of one run
unfoldable pub run_length : List ℕ → ℕ
run_length bytes = prefix_len is_run_byte bytes

-- the run at the front of the bytes, and what comes after it
abbrev pub run_of : List ℕ → List ℕ
run_of bs = take (run_length bs) bs

abbrev pub behind_run : List ℕ → List ℕ
behind_run bs = drop (run_length bs) bs

-- bytes that are one run
pub record IsWord (word : List ℕ) : Type 0 where
  pub some : starts_run word ≡ true
  pub each : list_all is_run_byte word ≡ true

-- the bytes after a word, where the run at the front is that word
abbrev pub behind_word : List ℕ → List ℕ → Option (List ℕ)
behind_word bs word = if bytes_eq (run_of bs) word then Some (behind_run bs) else None

-- the bytes after others, where they begin with those
unfoldable pub behind_front : List ℕ → List ℕ → Option (List ℕ)
behind_front bs [] = Some bs
behind_front [] (w ∷ ws) = None
behind_front (b ∷ bs) (w ∷ ws) = if b == w then behind_front bs ws else None
