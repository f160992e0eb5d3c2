-- The set of positions that words of 64 bits represent: n is in it if bit n is set.
use Rattle.std.specs.Prelude.{ℕ, ◌*◌, ◌/◌, ◌%◌, ◌==◌, Bool, List, length, filter, slice_index}
use Rattle.std.specs.Int.{bit_at}
use Rattle.std.specs.List.{range_with_len}
use Rattle.std.specs.Ordering.{nat_cmp}
use Rattle.std.specs.FinSet as set

-- whether the bit of a position is set
abbrev pub is_set : List ℕ → ℕ → Bool
is_set words n = bit_at (slice_index words (n / 64)) (n % 64) == 1

-- the positions whose bits are set
unfoldable pub set_of : List ℕ → set.FinSet nat_cmp
set_of words = set.from_list (filter (is_set words) (range_with_len 0 (64 * length words)))
