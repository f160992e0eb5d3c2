-- What the value of an option says: that a flag is set, or a number.
use Rattle.std.specs.Prelude.{◌≡◌, ◌≤◌, ℕ, Bool, true, false, codes, Option, None, Some}
use Rattle.std.specs.Str.Parse.{IsNumeral, digits_value, without_leading_plus}
use Rattle.clap.specs.Words.{Text}

-- a decimal numeral of a number; a plus sign may come first
abbrev pub IsNumeralOf : Text → ℕ → Type 0
IsNumeralOf text n = IsNumeral 10 (without_leading_plus text) × (digits_value 10 (without_leading_plus text) ≡ n)

-- the number of an option: its default if the option is left out
abbrev pub Gives : (default : ℕ) → Option Text → ℕ → Type 0
Gives default None n = n ≡ default
Gives default (Some text) n = IsNumeralOf text n

-- the number of an option, within its bounds
pub record IsNumberOf (text : Option Text) (default low high n : ℕ) : Type 0 where
  pub gives : Gives default text n
  pub least : low ≤ n
  pub greatest : n ≤ high

-- A flag is set if its value is true, and not if it is false or there is none. clap gives it the value false where the
-- words don't have it.
pub record IsFlagOf (value : Option Text) (is_set : Bool) : Type 0 where
  pub set : value ≡ Some (codes "true") → is_set ≡ true
  pub unset : value ≡ Some (codes "false") → is_set ≡ false
  pub absent : value ≡ None → is_set ≡ false
