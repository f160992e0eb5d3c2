-- The levels that a text without faults says cost no less as they get slower.
use Rattle.std.proofs.Common.{◌≡◌, ℕ, zero, suc, ◌-◌, ◌==◌, Bool, true, false, ◌&&◌, ◌||◌, List, [], ◌∷◌, Option, Some, None, slice_get, get_or, refl, sym, ◌∙◌, ap, subst, arith}
use Rattle.std.specs.Prelude.{codes, nat_le, unwrap_or}
use Rattle.std.proofs.Math.Dec.{eqb-suc-zero}
use Rattle.std.proofs.lemmas.Bool.{leb-true}
use Rattle.std.proofs.lemmas.Option.{get_or_from_slice_get}
use Rattle.serde_json.specs.Data.{Data, null}
use Rattle.level_book.specs.declared.book.Level.{Level}
use Rattle.level_book.specs.declared.fault.BookFault.{BookFault}
use Rattle.level_book.specs.declared.fault.BookFault.TheVariants.{CostOrder}
use Rattle.level_book.specs.BookCosts.{CostsNoLess, CostsRise}
use Rattle.level_book.specs.BookText.{SaysLevel, SayLevels}
use Rattle.level_book.specs.BookFaults.{first_of, each, unless, number_of, order_fault}
use Rattle.level_book.proofs.FaultlessEntries.{holds_unless, both_hold, none_of_both}
use Rattle.level_book.proofs.FirstFault.{each_from}

-- one level alone
pub one_rises : (forward reverse : ℕ) (level : Level) → CostsRise (record { forward = forward; reverse = reverse; levels = level ∷ [] })
one_rises forward reverse level zero before later here next = cc
one_rises forward reverse level (suc k) before later here next = cc

-- where there is no first fault, there is none at a place
none_at : (faults : List (Option BookFault)) (k : ℕ) (fault : Option BookFault) → first_of faults ≡ None → slice_get faults k ≡ Some fault → fault ≡ None
none_at [] k fault none here = cc
none_at (first ∷ rest) zero fault none here = let parts = none_of_both first (first_of rest) none in cc (parts.0, here)
none_at (first ∷ rest) (suc k) fault none here = none_at rest k fault (none_of_both first (first_of rest) none).1 here

-- the entry that says a level
said_at : (ds : List Data) (levels : List Level) (k : ℕ) (level : Level) → SayLevels ds levels → slice_get levels k ≡ Some level →
    (d : Data) × (slice_get ds k ≡ Some d) × SaysLevel d level
said_at [] [] k level say here = cc
said_at [] (l ∷ levels) k level say here = absurd say
said_at (d ∷ ds) [] k level say here = absurd say
said_at (d ∷ ds) (l ∷ levels) zero level say here =
    let same : l ≡ level = cc in
    let P : Level → Type 0 = SaysLevel d in
    (d, refl, subst P same say.0)
said_at (d ∷ ds) (l ∷ levels) (suc k) level say here = said_at ds levels k level say.1 here

-- the test of order, where the entry before is that with number j
abbrev order_fault_at : List Data → ℕ → ℕ → Data → Option BookFault
order_fault_at ds j k d =
    unless (k == 0 || (nat_le (number_of (codes "write") (get_or ds j null)) (number_of (codes "write") d)
    && nat_le (number_of (codes "read") (get_or ds j null)) (number_of (codes "read") d))) (CostOrder k)

-- the test of order at entry k + 1 compares it with entry k
order_passes : (ds : List Data) (k j : ℕ) (d : Data) → j ≡ k → (suc k == 0) ≡ false → order_fault_at ds j (suc k) d ≡ None →
    (nat_le (number_of (codes "write") (get_or ds k null)) (number_of (codes "write") d) && nat_le (number_of (codes "read") (get_or ds k null)) (number_of (codes "read") d)) ≡ true
order_passes ds k j d at later none =
    let n : ℕ → Bool = λ i. nat_le (number_of (codes "write") (get_or ds i null)) (number_of (codes "write") d) && nat_le (number_of (codes "read") (get_or ds i null)) (number_of (codes "read") d) in
    let holds : ((suc k == 0) || n j) ≡ true = holds_unless _ (CostOrder (suc k)) none in
    ap n (sym at) ∙ ap (λ first. first || n j) (sym later) ∙ holds

-- an entry that passes the test of order costs no less than the one before it
no_less : (ds : List Data) (k : ℕ) (d e : Data) (before level : Level) → slice_get ds k ≡ Some d → order_fault ds (suc k) e ≡ None → SaysLevel d before → SaysLevel e level →
    CostsNoLess before level
no_less ds k d e before level here none says also =
    let at : get_or ds k null ≡ d = get_or_from_slice_get ds k d null here in
    let w : ℕ = number_of (codes "write") (get_or ds k null) in
    let r : ℕ = number_of (codes "read") (get_or ds k null) in
    let later : (suc k == 0) ≡ false = eqb-suc-zero k in
    let holds = order_passes ds k (suc k - 1) e (omega arith) later none in
    let both = both_hold (nat_le w (number_of (codes "write") e)) (nat_le r (number_of (codes "read") e)) holds in
    let write = leb-true w (number_of (codes "write") e) both.0 in
    let read = leb-true r (number_of (codes "read") e) both.1 in
    record {
      write = omega (arith, write, ap (number_of (codes "write")) at, write_of d before says, write_of e level also);
      read = omega (arith, read, ap (number_of (codes "read")) at, read_of d before says, read_of e level also);
    }
  where
    write_of : (x : Data) (l : Level) → SaysLevel x l → number_of (codes "write") x ≡ l.write
    write_of x l is = ap (λ o. unwrap_or o 0) is.write

    read_of : (x : Data) (l : Level) → SaysLevel x l → number_of (codes "read") x ≡ l.read
    read_of x l is = ap (λ o. unwrap_or o 0) is.read

pub levels_rise : (forward reverse : ℕ) (ds : List Data) (levels : List Level) → SayLevels ds levels → first_of (each (order_fault ds) ds) ≡ None →
    CostsRise (record { forward = forward; reverse = reverse; levels = levels })
levels_rise forward reverse ds levels say none k before level here next =
    let d = said_at ds levels k before say here in
    let e = said_at ds levels (suc k) level say next in
    let found = none_at (each (order_fault ds) ds) (suc k) (order_fault ds (suc k) e.0) none (each_from (order_fault ds) 0 ds (suc k) e.0 (suc k) e.1 (omega arith)) in
    no_less ds k d.0 e.0 before level d.1 found d.2 e.2
