-- Every list of the disk class costs at least the top entry of each disk under-table, and so a list that costs it is the least.
use Rattle.std.proofs.Common.{◌≡◌, ℕ, zero, suc, ◌-◌, true, false, List, [], ◌∷◌, length, refl, sym, ◌∙◌, arith}
use Rattle.std.proofs.lemmas.List.{length-map}
use Rattle.plan_types.specs.declared.action.Keep.TheVariants.{Nothing, Store, Tape}
use Rattle.plan_types.specs.declared.action.Action.{Action}
use Rattle.plan_types.specs.declared.action.Action.TheVariants.{Forward, Reverse, Copy, Move, EndForward, EndReverse}
use Rattle.level_book.specs.BookCosts.{BookCosts, room}
use Rattle.level_book.specs.CostFold.{cost}
use Rattle.level_book.specs.DiskClass.{NeverStores, ForwardsFirst}
use Rattle.level_book.specs.DiskUnderTable.{DiskTables, disk_top_entry}
use Rattle.class_bounds.specs.Laws.{DiskCostsAtLeast, LeastOfTheDisk}
use Rattle.class_bounds.proofs.Bounds.{Within, least_from_bound, same_row}
use Rattle.class_bounds.proofs.DiskRates.{disk_rates, disk_bound}
use Rattle.class_bounds.proofs.LowerBounds.{IsAllowed, list_pays}

module _ (steps : ℕ) (book : BookCosts) (t : DiskTables) where
  -- behind EndForward nothing is stored on level 1
  allowed_after : (list : List Action) → NeverStores 1 list → IsAllowed (disk_rates steps book t) true list
  allowed_after [] never = tt
  allowed_after (Forward from to Nothing ∷ rest) never = allowed_after rest never
  allowed_after (Forward from to (Store zero) ∷ rest) never = (refl, allowed_after rest never.1)
  allowed_after (Forward from to (Store (suc zero)) ∷ rest) never = absurd (never.0 refl)
  allowed_after (Forward from to (Store (suc (suc k))) ∷ rest) never = (refl, allowed_after rest never.1)
  allowed_after (Forward from to Tape ∷ rest) never = allowed_after rest never
  allowed_after (Reverse from to ∷ rest) never = allowed_after rest never
  allowed_after (Copy n k to ∷ rest) never = (refl, allowed_after rest never)
  allowed_after (Move n k to ∷ rest) never = (refl, allowed_after rest never)
  allowed_after (EndForward ∷ rest) never = allowed_after rest never
  allowed_after (EndReverse ∷ rest) never = allowed_after rest never

  -- before it there are Forwards alone
  allowed_before : (list : List Action) → ForwardsFirst list → IsAllowed (disk_rates steps book t) false list
  allowed_before [] first = tt
  allowed_before (Forward from to Nothing ∷ rest) first = allowed_before rest first
  allowed_before (Forward from to (Store zero) ∷ rest) first = (refl, allowed_before rest first)
  allowed_before (Forward from to (Store (suc zero)) ∷ rest) first = (refl, allowed_before rest first)
  allowed_before (Forward from to (Store (suc (suc k))) ∷ rest) first = (refl, allowed_before rest first)
  allowed_before (Forward from to Tape ∷ rest) first = allowed_before rest first
  allowed_before (EndForward ∷ rest) first = allowed_after rest first
  allowed_before (Reverse from to ∷ rest) first = absurd first
  allowed_before (Copy n k to ∷ rest) first = absurd first
  allowed_before (Move n k to ∷ rest) first = absurd first
  allowed_before (EndReverse ∷ rest) first = absurd first

  -- the slowest of two levels
  top_of_two : (n l m x : ℕ) → n ≡ 2 → Within ((disk_rates steps book t).fresh false (n - 1) l m) x → Within (t.disk_fresh l) x
  top_of_two n l m x e w = same_row (λ k. (disk_rates steps book t).fresh false (k - 1) l m) n 2 x w e

pub disk_costs : (steps : ℕ) (book : BookCosts) (t : DiskTables) (list : List Action) → DiskCostsAtLeast steps book t list
disk_costs zero book t list under disk = omega arith
disk_costs (suc n) book t list under disk =
    let two : length book.levels ≡ 2 = sym (length-map book.levels (λ level. level.slots)) ∙ disk.two in
    let top = length book.levels - 1 in
    top_of_two (suc n) book t (length book.levels) (suc n) (room book top (suc n)) (cost list book) two
    (list_pays (suc n) book (disk_rates (suc n) book t) (disk_bound (suc n) book t under two) (omega arith) list (omega arith) disk.nested.0 disk.nested.1 (allowed_before (suc n) book t list disk.forwards))

pub disk_least : (steps : ℕ) (book : BookCosts) (t : DiskTables) (list other : List Action) → LeastOfTheDisk steps book t list other
disk_least steps book t list other under top disk =
    least_from_bound (disk_top_entry steps t) (cost list book) (cost other book) top (disk_costs steps book t other under disk)
