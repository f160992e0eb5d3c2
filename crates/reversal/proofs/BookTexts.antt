-- What holds of a book that a text says: it has a level, its costs are within limits, and of two levels the second costs no
-- less than the first.
use Rattle.std.proofs.Common.{◌≡◌, ℕ, zero, suc, ◌<◌, ◌≤◌, ◌&&◌, List, [], ◌∷◌, length, Option, Some, None, slice_get, min, nat_le, refl, sym, ap, subst, arith}
use Rattle.std.specs.Prelude.{codes, nat_lt, unwrap_or, option_and_then}
use Rattle.std.specs.List.{AllByRecursion}
use Rattle.std.proofs.lemmas.Bool.{leb-true, ltb-true}
use Rattle.serde_json.specs.Data.{Data, null, boolean, number, string, array, object, unsigned, negative, float}
use Rattle.serde_json.specs.Find.{get, as_number, as_u64}
use Rattle.level_book.specs.declared.book.Level.{Level}
use Rattle.level_book.specs.declared.fault.BookFault.{BookFault}
use Rattle.level_book.specs.declared.book.Slots.{Slots}
use Rattle.level_book.specs.declared.book.Slots.TheVariants.{Count, Unlimited}
use Rattle.level_book.specs.declared.fault.BookFault.TheVariants.{Levels, CostOrder, CostRange}
use Rattle.level_book.specs.BookCosts.{BookCosts, slot_count, IsLevelWithinLimits, IsWithinLimits}
use Rattle.level_book.specs.BookText.{SayLevels, slots_of_value, list_in, number_in}
use Rattle.level_book.specs.BookFaults.{unless, first_of, each, number_of, shape_fault, name_fault, cost_fault, slot_fault, order_fault, faults_in, fault_in, IsBookText}
use Rattle.level_book.specs.EntryTests.{IsFaultless}
use Rattle.level_book.proofs.FaultlessEntries.{holds_unless, both_hold, none_of_both, faultless}

-- where a list of tests has no first fault, none of them has one
none_at : (faults : List (Option BookFault)) (k : ℕ) (fault : Option BookFault) → first_of faults ≡ None → slice_get faults k ≡ Some fault → fault ≡ None
none_at [] k fault none here = absurd cc
none_at (Some other ∷ rest) k fault none here = absurd cc
none_at (None ∷ rest) zero fault none here = cc
none_at (None ∷ rest) (suc k) fault none here = none_at rest k fault none here

-- the entries of a value
abbrev entries_in : Data → List Data
entries_in d = unwrap_or (list_in (codes "levels") d) []

some_tested : (d : Data) → fault_in d ≡ None → 0 < length (entries_in d)
some_tested d none =
    let some = nat_lt 0 (length (entries_in d)) in
    let few = nat_le (length (entries_in d)) 4 in
    let fault = Levels (min (length (entries_in d)) 4294967295) in
    let both = both_hold some few (holds_unless (some && few) fault (none_at (faults_in d) 4 (unless (some && few) fault) none refl)) in
    ltb-true 0 (length (entries_in d)) both.0

order_tested : (d : Data) → fault_in d ≡ None → first_of (each (order_fault (entries_in d)) (entries_in d)) ≡ None
order_tested d none = none_at (faults_in d) 11 (first_of (each (order_fault (entries_in d)) (entries_in d))) none refl

-- they are those that say the levels
entries_are : (d : Data) (entries : List Data) → list_in (codes "levels") d ≡ Some entries → entries_in d ≡ entries
entries_are d entries e = ap (λ o. unwrap_or o []) e

as_many : (ds : List Data) (levels : List Level) → SayLevels ds levels → 0 < length ds → 0 < length levels
as_many [] levels say some = absurd (omega (arith, some))
as_many (d ∷ ds) [] say some = absurd say
as_many (d ∷ ds) (l ∷ ls) say some = omega arith

says_number : (field : List ℕ) (d : Data) (n : ℕ) → number_in field d ≡ Some n → number_of field d ≡ n
says_number field d n e = ap (λ o. unwrap_or o 0) e

two_ordered : (ds : List Data) (fast slow : Level) → SayLevels ds (fast ∷ slow ∷ []) → first_of (each (order_fault ds) ds) ≡ None → (fast.write ≤ slow.write) × (fast.read ≤ slow.read)
two_ordered [] fast slow say none = absurd say
two_ordered (d ∷ []) fast slow say none = absurd say.1
two_ordered (d ∷ e ∷ f ∷ ds) fast slow say none = absurd say.1.1
two_ordered (d ∷ e ∷ []) fast slow say none =
    let write = nat_le (number_of (codes "write") d) (number_of (codes "write") e) in
    let read = nat_le (number_of (codes "read") d) (number_of (codes "read") e) in
    let second = none_of_both (order_fault (d ∷ e ∷ []) 1 e) None none in
    let holds = both_hold write read (holds_unless (write && read) (CostOrder 1) second.0) in
    let dw = says_number (codes "write") d fast.write say.0.write in
    let ew = says_number (codes "write") e slow.write say.1.0.write in
    let dr = says_number (codes "read") d fast.read say.0.read in
    let er = says_number (codes "read") e slow.read say.1.0.read in
    let w = leb-true (number_of (codes "write") d) (number_of (codes "write") e) holds.0 in
    let r = leb-true (number_of (codes "read") d) (number_of (codes "read") e) holds.1 in
    (omega (arith, w, dw, ew), omega (arith, r, dr, er))

pub some_level : (bytes : List ℕ) (b : BookCosts) → IsBookText bytes b → 0 < length b.levels
some_level bytes b is =
    let P : List Data → Type 0 = λ l. 0 < length l in
    as_many is.says.entries b.levels is.says.levels (subst P (entries_are is.value is.says.entries is.says.list) (some_tested is.value is.faultless))

pub costs_rise : (bytes : List ℕ) (b : BookCosts) (fast slow : Level) → IsBookText bytes b → b.levels ≡ fast ∷ slow ∷ [] → (fast.write ≤ slow.write) × (fast.read ≤ slow.read)
costs_rise bytes b fast slow is two =
    let S : List Level → Type 0 = λ l. SayLevels is.says.entries l in
    let O : List Data → Type 0 = λ l. first_of (each (order_fault l) l) ≡ None in
    two_ordered is.says.entries fast slow (subst S two is.says.levels) (subst O (entries_are is.value is.says.entries is.says.list) (order_tested is.value is.faultless))

-- ---- its costs are within limits

-- a count of slots is the number of its field
slot_says : (o : Option Data) (s : Slots) → option_and_then slots_of_value o ≡ Some s → slot_count s ≡ unwrap_or (option_and_then as_u64 (option_and_then as_number o)) 0
slot_says None s e = absurd cc
slot_says (Some null) s e = let same : Unlimited ≡ s = cc in ap slot_count (sym same)
slot_says (Some (number (unsigned n))) s e = let same : Count n ≡ s = cc in ap slot_count (sym same)
slot_says (Some (number (negative z))) s e = absurd cc
slot_says (Some (number (float x))) s e = absurd cc
slot_says (Some (boolean b)) s e = absurd cc
slot_says (Some (string t)) s e = absurd cc
slot_says (Some (array ds)) s e = absurd cc
slot_says (Some (object ms)) s e = absurd cc

levels_within : (ds : List Data) (levels : List Level) → SayLevels ds levels → AllByRecursion IsFaultless ds → AllByRecursion IsLevelWithinLimits levels
levels_within [] [] say faultless = tt
levels_within [] (l ∷ ls) say faultless = absurd say
levels_within (d ∷ ds) [] say faultless = absurd say
levels_within (d ∷ ds) (l ∷ ls) say faultless =
    let write = says_number (codes "write") d l.write say.0.write in
    let read = says_number (codes "read") d l.read say.0.read in
    let slots = slot_says (get (codes "slots") d) l.slots say.0.slots in
    let write_few = faultless.0.write in
    let read_few = faultless.0.read in
    let slots_few = faultless.0.slots in
    (record { slots = omega (arith, slots, slots_few); write = omega (arith, write, write_few); read = omega (arith, read, read_few) }, levels_within ds ls say.1 faultless.1)

-- the tests of the entries, and of the two costs of a step
tested : (d : Data) (k : ℕ) (fault : Option BookFault) → fault_in d ≡ None → slice_get (faults_in d) k ≡ Some fault → fault ≡ None
tested d k fault none here = none_at (faults_in d) k fault none here

few_at : (d : Data) (k : ℕ) (field : List ℕ) (fault : BookFault) → fault_in d ≡ None → slice_get (faults_in d) k ≡ Some (unless (nat_le (number_of field d) 1000000) fault) → number_of field d ≤ 1000000
few_at d k field fault none here = leb-true (number_of field d) 1000000 (holds_unless (nat_le (number_of field d) 1000000) fault (tested d k _ none here))

pub within_limits : (bytes : List ℕ) (b : BookCosts) → IsBookText bytes b → IsWithinLimits b
within_limits bytes b is =
    let d = is.value in
    let none = is.faultless in
    let entries = entries_in d in
    let faultless_entries = faultless entries (tested d 5 (first_of (each shape_fault entries)) none refl) (tested d 6 (first_of (each (name_fault entries) entries)) none refl) (tested d 7 (first_of (each cost_fault entries)) none refl) (tested d 10 (first_of (each slot_fault entries)) none refl) in
    let F : List Data → Type 0 = λ l. AllByRecursion IsFaultless l in
    let forward = says_number (codes "forward") d b.forward is.says.forward in
    let reverse = says_number (codes "reverse") d b.reverse is.says.reverse in
    let forward_few = few_at d 8 (codes "forward") (CostRange 254) none refl in
    let reverse_few = few_at d 9 (codes "reverse") (CostRange 255) none refl in
    record {
      forward = omega (arith, forward, forward_few);
      reverse = omega (arith, reverse, reverse_few);
      levels = levels_within is.says.entries b.levels is.says.levels (subst F (entries_are d is.says.entries is.says.list) faultless_entries);
    }
