-- What holds of entries in which the tests find no fault.
use Rattle.std.proofs.Common.{◌≡◌, ℕ, ◌+◌, ◌*◌, Bool, true, false, not, ◌&&◌, List, [], ◌∷◌, map, take, Option, Some, None, refl}
use Rattle.std.specs.Prelude.{codes, nat_le}
use Rattle.std.specs.List.{enumerate_from, list_any, AllByRecursion}
use Rattle.std.specs.Option.{option_or, option_map}
use Rattle.std.specs.Str.{bytes_eq}
use Rattle.std.proofs.lemmas.Bool.{leb-true}
use Rattle.serde_json.specs.Data.{Data}
use Rattle.level_book.specs.declared.fault.BookFault.{BookFault}
use Rattle.level_book.specs.declared.fault.BookFault.TheVariants.{Shape, Name, CostRange, SlotRange}
use Rattle.level_book.specs.Names.{is_name}
use Rattle.level_book.specs.BookFaults.{unless, first_of, each, number_of, name_of, missing_in, shape_fault, name_fault, cost_fault, slot_fault}
use Rattle.level_book.specs.EntryTests.{IsFaultless}

-- the test holds where there is no fault
pub holds_unless : (holds : Bool) (fault : BookFault) → unless holds fault ≡ None → holds ≡ true
holds_unless true fault none = refl
holds_unless false fault none = cc

pub both_hold : (a b : Bool) → (a && b) ≡ true → (a ≡ true) × (b ≡ true)
both_hold true true h = (refl, refl)
both_hold true false h = cc
both_hold false b h = cc

pub none_of_both : (a b : Option BookFault) → option_or a b ≡ None → (a ≡ None) × (b ≡ None)
none_of_both None b h = (refl, h)
none_of_both (Some x) b h = cc

pub unmapped : {A : Type 0} (f : A → BookFault) (o : Option A) → option_map f o ≡ None → o ≡ None
unmapped f None h = refl
unmapped f (Some x) h = cc

-- what f finds at each entry, counted from n
abbrev pub from : ℕ → (ℕ → Data → Option BookFault) → List Data → List (Option BookFault)
from n f ds = map (λ entry. f entry.0 entry.1) (enumerate_from n ds)

faultless_from : (names : ℕ → Data → Option BookFault) (n : ℕ) (ds : List Data) → ((k : ℕ) (d : Data) → names k d ≡ None → is_name (name_of d) ≡ true) →
    first_of (from n shape_fault ds) ≡ None → first_of (from n names ds) ≡ None → first_of (from n cost_fault ds) ≡ None → first_of (from n slot_fault ds) ≡ None →
    AllByRecursion IsFaultless ds
faultless_from names n [] named shapes name_s costs slots = tt
faultless_from names n (d ∷ ds) named shapes name_s costs slots =
    let shape = none_of_both (shape_fault n d) (first_of (from (n + 1) shape_fault ds)) shapes in
    let name = none_of_both (names n d) (first_of (from (n + 1) names ds)) name_s in
    let cost = none_of_both (cost_fault n d) (first_of (from (n + 1) cost_fault ds)) costs in
    let slot = none_of_both (slot_fault n d) (first_of (from (n + 1) slot_fault ds)) slots in
    let write_holds = nat_le (number_of (codes "write") d) 1000000 in
    let read_holds = nat_le (number_of (codes "read") d) 1000000 in
    let paid = both_hold write_holds read_holds (holds_unless (write_holds && read_holds) (CostRange n) cost.0) in
    let held = holds_unless (nat_le (number_of (codes "slots") d) 1000000) (SlotRange n) slot.0 in
    let this : IsFaultless d = record {
      shape = unmapped (λ field. Shape (4 + 4 * n + field)) (missing_in d) shape.0;
      name = named n d name.0;
      write = leb-true (number_of (codes "write") d) 1000000 paid.0;
      read = leb-true (number_of (codes "read") d) 1000000 paid.1;
      slots = leb-true (number_of (codes "slots") d) 1000000 held;
    } in
    (this, faultless_from names (n + 1) ds named shape.1 name.1 cost.1 slot.1)

-- where the four tests find nothing, each entry is without a fault
pub faultless : (ds : List Data) → first_of (each shape_fault ds) ≡ None → first_of (each (name_fault ds) ds) ≡ None →
    first_of (each cost_fault ds) ≡ None → first_of (each slot_fault ds) ≡ None → AllByRecursion IsFaultless ds
faultless ds shapes names costs slots =
    faultless_from (name_fault ds) 0 ds
    (λ k d none. (both_hold (is_name (name_of d)) (not (list_any (λ earlier. bytes_eq (name_of earlier) (name_of d)) (take k ds))) (holds_unless _ (Name k) none)).0)
    shapes names costs slots
