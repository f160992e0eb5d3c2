-- The whole list is in the disk class.
use Rattle.std.proofs.Common.{◌≡◌, ℕ, zero, suc, ◌+◌, ◌<◌, List, [], ◌∷◌, ◌++◌, length, true, get_or, slice_get, Some, refl, sym, ap, ◌∙◌, subst, arith}
use Rattle.std.proofs.lemmas.Bool.{lt-ltb}
use Rattle.std.proofs.lemmas.List.{length-map}
use Rattle.plan_types.specs.declared.action.Action.{Action}
use Rattle.plan_types.specs.declared.action.Action.TheVariants.{EndReverse}
use Rattle.level_book.specs.declared.book.Slots.{Slots}
use Rattle.level_book.specs.declared.book.Slots.TheVariants.{Count, Unlimited}
use Rattle.level_book.specs.BookCosts.{BookCosts, slots_of, room, least}
use Rattle.level_book.specs.Configuration.{start}
use Rattle.level_book.specs.Valid.{Valid}
use Rattle.level_book.specs.NestedClass.{IsNestedFrom}
use Rattle.level_book.specs.DiskClass.{Disk, ForwardsFirst}
use Rattle.level_book.specs.DiskUnderTable.{DiskTables}
use Rattle.hrevolve_gen.proofs.HeldImages.{leads_on, At}
use Rattle.hrevolve_gen.proofs.NestedLists.{at_start, written_nested}
use Rattle.disk_gen.specs.DiskPlans.{HasDiskPlan}
use Rattle.disk_gen.specs.DiskRevolveList.{DiskPart, disk_actions, fast_tables, ReadsDisk, IsDiskWritten}
use Rattle.disk_gen.proofs.DiskForwards.{disk_first}
use Rattle.disk_gen.proofs.DiskNested.{disk_nested, disk_leads}

read_at : (xs : List Slots) (k : ℕ) (s d : Slots) → slice_get xs k ≡ Some s → get_or xs k d ≡ s
read_at [] k s d e = cc
read_at (x ∷ xs) zero s d e = cc
read_at (x ∷ xs) (suc k) s d e = read_at xs k s d e

module _ (steps : ℕ) (book : BookCosts) (t : DiskTables) (plan : HasDiskPlan book) where
  abbrev list : DiskPart → List Action
  list p = disk_actions steps 0 p ++ EndReverse ∷ []

  all_steps : room book 1 steps ≡ steps
  all_steps = ap (λ slots. least slots steps) (read_at (slots_of book) 1 Unlimited (Count 0) plan.unlimited)

  two_slots : length (slots_of book) ≡ 2
  two_slots = length-map book.levels (λ level. level.slots) ∙ plan.two

  list_valid : (p : DiskPart) → 0 < steps → ReadsDisk steps book t steps p → Valid steps (slots_of book) (list p)
  list_valid p some reads =
      let same : steps ≡ 0 + steps = omega arith in
      let P : ℕ → Type 0 = λ n. At steps book (start steps (slots_of book)) [] n in
      let to = disk_leads steps book t p 0 steps [] (start steps (slots_of book)) reads tt (omega arith) all_steps (omega (arith, two_slots)) (subst P same (at_start steps book)) (omega arith) refl in
      let d = to.0 in let e = record d { ended = true } in (
        e,
        leads_on steps (slots_of book) (disk_actions steps 0 p) (EndReverse ∷ []) (start steps (slots_of book)) d e to.1
            (e, (to.2.ended, to.2.forward_ended ∙ lt-ltb 0 steps some, to.2.left, refl), refl),
        refl,
      )

  pub list_in_class : (p : DiskPart) → 0 < steps → ReadsDisk steps book t steps p → Disk steps (slots_of book) (list p)
  list_in_class p some reads =
      let same : 0 + steps ≡ steps = omega arith in
      let P : ℕ → Type 0 = λ n. IsNestedFrom n [] (list p) in
      record {
        two = two_slots;
        unlimited = plan.unlimited;
        nested = (list_valid p some reads, subst P same (disk_nested steps book t p 0 steps [] (EndReverse ∷ []) reads tt tt));
        forwards = disk_first steps book t p 0 steps (EndReverse ∷ []) reads same tt;
      }

-- the list is in the disk class
pub written_in_class : (steps : ℕ) (book : BookCosts) (t : DiskTables) (list : List Action) → HasDiskPlan book → IsDiskWritten steps book t list → Disk steps (slots_of book) list
written_in_class zero book t list plan is =
    let two = plan.two in
    let P : List Action → Type 0 = λ list. ForwardsFirst list in
    record {
      two = two_slots 0 book t plan;
      unlimited = plan.unlimited;
      nested = written_nested 0 book (fast_tables t) list (omega arith) is;
      forwards = subst P (sym is) tt;
    }
written_in_class (suc n) book t list plan is =
    let P : List Action → Type 0 = λ list. Disk (suc n) (slots_of book) list in
    subst P (sym is.2) (list_in_class (suc n) book t plan is.0 (omega arith) is.1)
