-- There are greatest disk tables, in whole rows, and from such tables a list can be read.
use Rattle.std.proofs.Common.{◌≡◌, ◌≢◌, ℕ, zero, suc, ◌+◌, ◌-◌, ◌*◌, ◌<◌, ◌≤◌, false, List, [], ◌∷◌, ◌++◌, get_or, refl, sym, ap, ◌∙◌, subst, arith, inl, inr}
use Rattle.plan_types.specs.declared.action.Action.TheVariants.{EndForward, EndReverse}
use Rattle.level_book.specs.declared.book.Level.{Level}
use Rattle.level_book.specs.BookCosts.{BookCosts, room}
use Rattle.level_book.specs.UnderTable.{Entry, number, never, IsAtMost, sum_of, write_cost, read_cost}
use Rattle.level_book.specs.DiskUnderTable.{DiskTables, IsDiskUnderTable, IsGreatestDisk}
use Rattle.cost_tables.specs.Entries.{entry}
use Rattle.cost_tables.specs.ExactTables.{IsExact}
use Rattle.cost_tables.specs.TableRows.{fastest, tables_in}
use Rattle.cost_tables.proofs.TableExistence.{made, made_at, made_long, greatest_exist}
use Rattle.cost_tables.proofs.FastestLevel.{first_exact}
use Rattle.cost_tables.proofs.Recurrences.{in_memory}
use Rattle.hrevolve_gen.specs.HRevolveList.{Part, Reads}
use Rattle.hrevolve_gen.proofs.ListExistence.{same_or_other, never_first, never_second, first_same, on_levels}
use Rattle.disk_gen.specs.DiskPlans.{HasDiskPlan}
use Rattle.disk_gen.specs.ReadableDiskTables.{IsDiskExact}
use Rattle.disk_gen.specs.DiskRows.{DiskRows}
use Rattle.disk_gen.specs.DiskRevolveList.{fast_tables, HeldPart, finally, again, DiskPart, alone, parted, held_split, disk_split, disk_actions, ReadsHeld, ReadsDisk}
use Rattle.disk_gen.specs.Laws.{GreatestDiskExist, DiskListExists}
use Rattle.disk_gen.proofs.DiskColumns.{AreSmall}
use Rattle.disk_gen.proofs.DiskExactness.{worked_out}
use Rattle.disk_gen.proofs.DiskRowExtension.{entry_below}
use Rattle.disk_gen.proofs.DiskGreatestTable.{columns_greatest}

-- ---- what holds of disk tables holds of others with the same entries

along : (a a' b b' : Entry) → a' ≡ a → b' ≡ b → IsAtMost a b → IsAtMost a' b'
along a a' b b' p q h = subst (λ x. IsAtMost x b') (sym p) (subst (λ y. IsAtMost a y) (sym q) h)

module _ (steps : ℕ) (book : BookCosts) (f h : ℕ → ℕ → Entry) (fresh held fresh' held' : ℕ → Entry) where
  abbrev s : DiskTables
  s = record { fresh = f; held = h; disk_fresh = fresh; disk_held = held }

  abbrev t : DiskTables
  t = record { fresh = f; held = h; disk_fresh = fresh'; disk_held = held' }

  abbrev top : ℕ
  top = room book 0 steps

  module _ (same_fresh : (l : ℕ) → 1 ≤ l → l ≤ steps → fresh' l ≡ fresh l) (same_held : (l : ℕ) → 1 ≤ l → l ≤ steps → held' l ≡ held l) (is : IsGreatestDisk steps book s) where
    under_too : IsDiskUnderTable steps book t
    under_too = record {
      one_fresh = is.under.one_fresh;
      split_fresh = is.under.split_fresh;
      stored_fresh = is.under.stored_fresh;
      one_held = is.under.one_held;
      split_held = is.under.split_held;
      fast_disk = λ l one le. along (fresh l) (fresh' l) (f l top) (f l top) (same_fresh l one le) refl (is.under.fast_disk l one le);
      split_disk = λ j l hj hl le.
          let n = write_cost book 1 + j * book.forward in
          along (fresh (j + l)) (fresh' (j + l)) (sum_of n (fresh l) (held j)) (sum_of n (fresh' l) (held' j)) (same_fresh (j + l) (omega arith) le)
          (λ i. sum_of n (same_fresh l hl (omega arith) i) (same_held j hj (omega arith) i)) (is.under.split_disk j l hj hl le);
      stored_disk = λ l one le.
          let n = write_cost book 1 in
          along (fresh l) (fresh' l) (sum_of n (number 0) (held l)) (sum_of n (number 0) (held' l)) (same_fresh l one le) (ap (sum_of n (number 0)) (same_held l one le)) (is.under.stored_disk l one le);
      moved_disk = λ l one le.
          let n = sum_of (read_cost book 1) (number 0) (f l top) in
          along (held l) (held' l) n n (same_held l one le) refl (is.under.moved_disk l one le);
      copied_disk = λ j l hj hl le.
          let n = read_cost book 1 + j * book.forward in
          along (held (j + l)) (held' (j + l)) (sum_of n (f l top) (held j)) (sum_of n (f l top) (held' j)) (same_held (j + l) (omega arith) le)
          (ap (sum_of n (f l top)) (same_held j hj (omega arith))) (is.under.copied_disk j l hj hl le);
    }

    greatest_too : IsGreatestDisk steps book t
    greatest_too = record {
      under = under_too;
      fresh = is.fresh;
      held = is.held;
      disk_fresh = λ u under l one le. subst (λ e. IsAtMost (u.disk_fresh l) e) (sym (same_fresh l one le)) (is.disk_fresh u under l one le);
      disk_held = λ u under l one le. subst (λ e. IsAtMost (u.disk_held l) e) (sym (same_held l one le)) (is.disk_held u under l one le);
    }

-- ---- there are greatest ones

module _ (steps f r : ℕ) (x y : Level) (rest : List Level) where
  abbrev book : BookCosts
  book = record { forward = f; reverse = r; levels = x ∷ y ∷ rest }

  exist_two : GreatestDiskExist steps book
  exist_two plan few limits =
      let first = greatest_exist steps (fastest book) few (record { forward = limits.forward; reverse = limits.reverse; levels = (limits.levels.0, tt) }) in
      let tables = first.0 in
      let greatest = first.3 in
      let top = room book 0 steps in
      let forward_limit = limits.forward in let reverse_limit = limits.reverse in
      let wide = limits.levels.1.0.write in let deep = limits.levels.1.0.read in
      let memory = in_memory steps (fastest book) (tables_in tables) few (record { forward = limits.forward; reverse = limits.reverse; levels = (limits.levels.0, tt) }) greatest in
      let fast : ℕ → ℕ = λ q. memory.0 0 q top in
      let whole : top ≤ top = omega arith in
      let seen = λ (q : ℕ) (lt : q < steps). let same : q ≡ suc q - 1 = omega arith in ap (λ n. entry (memory.0 0 n top)) same ∙ sym (memory.1 0 (suc q) top (omega arith) (omega arith) (omega arith) whole) in
      let small : AreSmall steps f (write_cost book 1) (read_cost book 1) fast = record {
        few = few;
        cheap_steps = omega arith;
        cheap_write = omega arith;
        cheap_read = omega arith;
        low = λ some.
            let E : Entry → Type 0 = λ e. IsAtMost e (number (f + r)) in
            let le = entry_below (fast 0) (f + r) (subst E (sym (seen 0 some)) (greatest.under.one_fresh 0 top some (omega arith) whole)) in
            omega arith;
      } in
      let columns = worked_out f (write_cost book 1) (read_cost book 1) fast steps in
      let own = columns_greatest steps f r x (y ∷ rest) (tables_in tables) greatest fast columns.0 columns.1 seen small columns.2 in
      let fresh = made steps (λ q. entry (columns.0 q)) in
      let held = made steps (λ q. entry (columns.1 q)) in
      let t : DiskRows = record { fast = tables; disk_fresh = fresh; disk_held = held } in (
        t,
        first.1,
        record { fast = first.2; fresh_long = made_long steps (λ q. entry (columns.0 q)) ∙ sym first.1.steps_are; held_long = made_long steps (λ q. entry (columns.1 q)) ∙ sym first.1.steps_are },
        greatest_too steps book ((tables_in tables).fresh 0) ((tables_in tables).held 0) (λ l. entry (columns.0 (l - 1))) (λ l. entry (columns.1 (l - 1)))
            (λ l. get_or fresh (l - 1) (number 0)) (λ l. get_or held (l - 1) (number 0))
            (λ l one le. made_at steps (l - 1) (λ q. entry (columns.0 q)) (number 0) (omega (arith, one, le)))
            (λ l one le. made_at steps (l - 1) (λ q. entry (columns.1 q)) (number 0) (omega (arith, one, le)))
            own,
      )

exist_of : (steps f r : ℕ) (levels : List Level) → GreatestDiskExist steps (record { forward = f; reverse = r; levels = levels })
exist_of steps f r [] plan few limits = let two = plan.two in absurd (omega arith)
exist_of steps f r (x ∷ []) plan few limits = let two = plan.two in absurd (omega arith)
exist_of steps f r (x ∷ y ∷ rest) plan few limits = exist_two steps f r x y rest plan few limits

pub greatest_disk_exist : (steps : ℕ) (book : BookCosts) → GreatestDiskExist steps book
greatest_disk_exist steps book = exist_of steps book.forward book.reverse book.levels

-- ---- a list can be read

module _ (steps : ℕ) (book : BookCosts) (t : DiskTables) (plan : HasDiskPlan book) (exact : IsExact steps (fastest book) (fast_tables t)) (disk : IsDiskExact steps book t) where
  abbrev slots : ℕ
  slots = room book 0 steps

  -- level 0 alone
  alone_read : (l : ℕ) → 1 ≤ l → l ≤ steps → t.fresh l slots ≢ never → (p : Part) × Reads steps book (fast_tables t) false 0 l slots p
  alone_read l one le is =
      let two = plan.two in
      on_levels 1 steps book (fast_tables t) (first_exact steps book (fast_tables t) (omega arith) exact) 0 (omega arith) l slots one le le (omega arith) is

  -- a stretch whose first state is held on level 1
  held_read : (n l : ℕ) → 1 ≤ l → l ≤ n → l ≤ steps → (p : HeldPart) × ReadsHeld steps book t l p
  held_read zero l one few le = absurd (omega (arith, one, few))
  held_read (suc n) l one few le =
      let is = disk.held_number l one le in
      elim (same_or_other (t.disk_held l) (sum_of (read_cost book 1) (number 0) (t.fresh l slots))) [
        | inl same ↦
            let p = alone_read l one le (λ none. is (same ∙ never_second (read_cost book 1) (number 0) (t.fresh l slots) none)) in
            (finally p.0, (same, p.1))
        | inr other ↦
            let by = disk.held_by l one le other in
            elim (first_same (t.disk_held l) (held_split book slots t l) l) [
              | inl found ↦
                  let i = found.0 in
                  let at = found.1 in
                  let from_one = at.from_one in
                  let low = at.low in
                  let first = alone_read (l - i) (omega (arith, low)) (omega (arith, le)) (λ none. is (at.same ∙ never_first (read_cost book 1 + i * book.forward) (t.fresh (l - i) slots) (t.disk_held i) none)) in
                  let second = held_read n i from_one (omega (arith, low, few)) (omega (arith, low, le)) in
                  (again i first.0 second.0, (from_one, low, at.same, first.1, second.1, other, at.least))
              | inr none ↦ absurd (none by.0 by.1 by.2 by.3)
            ]
      ]

  -- one whose first state is in work
  disk_read : (n l : ℕ) → 1 ≤ l → l ≤ n → l ≤ steps → (p : DiskPart) × ReadsDisk steps book t l p
  disk_read zero l one few le = absurd (omega (arith, one, few))
  disk_read (suc n) l one few le =
      let is = disk.fresh_number l one le in
      elim (same_or_other (t.disk_fresh l) (t.fresh l slots)) [
        | inl same ↦
            let p = alone_read l one le (λ none. is (same ∙ none)) in
            (alone p.0, (same, p.1))
        | inr other ↦
            let by = disk.fresh_by l one le other in
            elim (first_same (t.disk_fresh l) (disk_split book t l) l) [
              | inl found ↦
                  let j = found.0 in
                  let at = found.1 in
                  let from_one = at.from_one in
                  let low = at.low in
                  let first = disk_read n (l - j) (omega (arith, low)) (omega (arith, from_one, few)) (omega (arith, le)) in
                  let second = held_read l j from_one (omega (arith, low)) (omega (arith, low, le)) in
                  (parted j first.0 second.0, (from_one, low, at.same, first.1, second.1, other, at.least))
              | inr none ↦ absurd (none by.0 by.1 by.2 by.3)
            ]
      ]

pub disk_list_exists : (steps : ℕ) (book : BookCosts) (t : DiskTables) → DiskListExists steps book t
disk_list_exists zero book t plan exact disk = (EndForward ∷ EndReverse ∷ [], refl)
disk_list_exists (suc n) book t plan exact disk =
    let p = disk_read (suc n) book t plan exact disk (suc n) (suc n) (omega arith) (omega arith) (omega arith) in
    (disk_actions (suc n) 0 p.0 ++ EndReverse ∷ [], (p.0, p.1, refl))
