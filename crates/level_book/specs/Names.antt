-- How the names of levels are spelled.
use Rattle.std.specs.Prelude.{ℕ, ◌==◌, nat_le, Bool, not, ◌&&◌, ◌||◌, List, length, codes, slice_index, IsTrue}
use Rattle.std.specs.Char.{is_ascii_uppercase, is_ascii_digit}
use Rattle.std.specs.List.{list_all, AllByRecursion, IsDistinct}
use Rattle.std.specs.Str.{bytes_eq}

-- 1 to 16 upper-case letters of ASCII, digits and underscores, the first a letter
abbrev pub is_name_byte : ℕ → Bool
is_name_byte b = is_ascii_uppercase b || is_ascii_digit b || b == 95

abbrev pub is_spelled : List ℕ → Bool
is_spelled name = is_ascii_uppercase (slice_index name 0) && nat_le (length name) 16 && list_all is_name_byte name

-- the names of levels are spelled so, except WORK and NONE, which are places that are no level
abbrev pub is_name : List ℕ → Bool
is_name name = is_spelled name && not (bytes_eq name (codes "WORK")) && not (bytes_eq name (codes "NONE"))

-- all are names, and no two are equal
pub record AreNames (names : List (List ℕ)) : Type 0 where
  pub each : AllByRecursion (λ name. IsTrue (is_name name)) names
  pub distinct : IsDistinct bytes_eq names
