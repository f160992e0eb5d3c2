-- The levels that entries say.
use Rattle.std.proofs.Common.{◌≡◌, ℕ, zero, suc, ◌<◌, Bool, true, false, not, List, [], ◌∷◌, length, take, set, Option, Some, None, is_some, slice_get, refl, ap, subst, arith}
use Rattle.std.specs.Prelude.{codes, unwrap_or, position, option_map, option_and_then}
use Rattle.std.specs.List.{AllByRecursion}
use Rattle.serde_json.specs.Data.{unsigned, negative, float, Data, null, boolean, number, string, array, object}
use Rattle.serde_json.specs.Find.{get, as_number, as_u64}
use Rattle.level_book.specs.declared.book.Level.{Level}
use Rattle.level_book.specs.declared.book.Slots.TheVariants.{Count, Unlimited}
use Rattle.level_book.specs.BookCosts.{IsLevelWithinLimits}
use Rattle.level_book.specs.BookText.{SaysLevel, SayLevels, text_in, number_in, slots_in, slots_of_value}
use Rattle.level_book.specs.BookFaults.{missing_in}
use Rattle.level_book.specs.EntryTests.{IsFaultless}

-- where no test of four fails, all hold
record All4 (a b c d : Bool) : Type 0 where
  pub first : a ≡ true
  pub second : b ≡ true
  pub third : c ≡ true
  pub fourth : d ≡ true

all_hold : (a b c d : Bool) → position not (a ∷ b ∷ c ∷ d ∷ []) ≡ None → All4 a b c d
all_hold true true true true none = record { first = refl; second = refl; third = refl; fourth = refl }
all_hold false b c d none = cc
all_hold true false c d none = cc
all_hold true true false d none = cc
all_hold true true true false none = cc

-- what is there is what is said, whatever stands for what isn't
pub some_is : {A : Type 0} (o : Option A) (otherwise : A) → is_some o ≡ true → o ≡ Some (unwrap_or o otherwise)
some_is (Some x) otherwise there = refl
some_is None otherwise there = cc

-- the fields of an entry that lacks none
pub record HasFields (d : Data) : Type 0 where
  pub name : text_in (codes "name") d ≡ Some (unwrap_or (text_in (codes "name") d) [])
  pub slots : is_some (slots_in (codes "slots") d) ≡ true
  pub write : number_in (codes "write") d ≡ Some (unwrap_or (number_in (codes "write") d) 0)
  pub read : number_in (codes "read") d ≡ Some (unwrap_or (number_in (codes "read") d) 0)

pub has_fields : (d : Data) → missing_in d ≡ None → HasFields d
has_fields d none =
    let there = all_hold (is_some (text_in (codes "name") d)) (is_some (slots_in (codes "slots") d)) (is_some (number_in (codes "write") d)) (is_some (number_in (codes "read") d)) none in
    record {
      name = some_is (text_in (codes "name") d) [] there.first;
      slots = there.second;
      write = some_is (number_in (codes "write") d) 0 there.third;
      read = some_is (number_in (codes "read") d) 0 there.fourth;
    }

-- slots that are a number are counted
counted : (found : Option Data) (n : ℕ) → option_and_then as_u64 (option_and_then as_number found) ≡ Some n → option_and_then slots_of_value found ≡ Some (Count n)
counted None n is = cc
counted (Some null) n is = cc
counted (Some (boolean b)) n is = cc
counted (Some (number x)) n is = ap (option_map Count) is
counted (Some (string s)) n is = cc
counted (Some (array ds)) n is = cc
counted (Some (object ms)) n is = cc

pub slots_counted : (d : Data) (n : ℕ) → number_in (codes "slots") d ≡ Some n → slots_in (codes "slots") d ≡ Some (Count n)
slots_counted d n is = counted (get (codes "slots") d) n is

-- and others are without a limit
uncounted : (found : Option Data) → option_and_then as_u64 (option_and_then as_number found) ≡ None → is_some (option_and_then slots_of_value found) ≡ true →
    option_and_then slots_of_value found ≡ Some Unlimited
uncounted None is there = cc
uncounted (Some null) is there = refl
uncounted (Some (boolean b)) is there = cc
uncounted (Some (number (unsigned n))) is there = cc
uncounted (Some (number (negative z))) is there = cc
uncounted (Some (number (float x))) is there = cc
uncounted (Some (string s)) is there = cc
uncounted (Some (array ds)) is there = cc
uncounted (Some (object ms)) is there = cc

pub slots_uncounted : (d : Data) → number_in (codes "slots") d ≡ None → is_some (slots_in (codes "slots") d) ≡ true → slots_in (codes "slots") d ≡ Some Unlimited
slots_uncounted d is there = uncounted (get (codes "slots") d) is there

-- one entry more says one level more
pub say_more : (ds : List Data) (levels : List Level) (k : ℕ) (d : Data) (level : Level) → slice_get ds k ≡ Some d → k < length levels → SaysLevel d level →
    SayLevels (take k ds) (take k levels) → SayLevels (take (suc k) ds) (take (suc k) (set levels k level))
say_more [] levels k d level here within says before = cc
say_more (x ∷ ds) [] k d level here within says before = absurd (omega arith)
say_more (x ∷ ds) (l ∷ levels) zero d level here within says before =
    let same : d ≡ x = cc in
    let P : Data → Type 0 = λ y. SaysLevel y level in
    (subst P same says, tt)
say_more (x ∷ ds) (l ∷ levels) (suc k) d level here within says before = (before.0, say_more ds levels k d level here (omega arith) says before.1)

-- levels within limits stay so where one is set to another
pub within_set : (levels : List Level) (k : ℕ) (level : Level) → AllByRecursion IsLevelWithinLimits levels → IsLevelWithinLimits level → AllByRecursion IsLevelWithinLimits (set levels k level)
within_set [] k level within is = tt
within_set (l ∷ levels) zero level within is = (is, within.1)
within_set (l ∷ levels) (suc k) level within is = (within.0, within_set levels k level within.1 is)

-- an entry of a list without faults has none
pub faultless_at : (ds : List Data) (k : ℕ) (d : Data) → AllByRecursion IsFaultless ds → slice_get ds k ≡ Some d → IsFaultless d
faultless_at [] k d all here = cc
faultless_at (first ∷ rest) zero d all here = let same : first ≡ d = cc in let P : Data → Type 0 = IsFaultless in subst P same all.0
faultless_at (first ∷ rest) (suc k) d all here = faultless_at rest k d all.1 here
