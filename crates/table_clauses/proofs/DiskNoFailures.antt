-- Disk tables are a disk under-table exactly where no clause fails at any place.
use Rattle.std.proofs.Common.{ℕ, suc, ◌+◌, ◌*◌, ◌<◌, ◌≤◌, slice_index_or, arith, inl, inr, refl, subst}
use Rattle.level_book.specs.BookCosts.{BookCosts, slots_of, room}
use Rattle.level_book.specs.declared.book.Slots.TheVariants.{Count}
use Rattle.level_book.specs.UnderTable.{number, IsAtMost, sum_of, write_cost, read_cost}
use Rattle.level_book.specs.DiskUnderTable.{DiskTables, IsDiskUnderTable}
use Rattle.cost_tables.proofs.AllLevels.{room_le}
use Rattle.table_clauses.specs.declared.entry.Entry.{Entry as Place}
use Rattle.table_clauses.specs.ClauseFailures.{DiskBreaks, FreshFails, HeldFails, DiskFreshFails, DiskHeldFails, fast_of}
use Rattle.table_clauses.specs.Laws.{DiskUnderWhereNoneFails}
use Rattle.table_clauses.proofs.NoFailures.{at_most}

module _ (steps : ℕ) (book : BookCosts) (t : DiskTables) where
  abbrev place : ℕ → ℕ → ℕ → ℕ → ℕ → Place
  place table k m l clause = record { table = table; level = k; free = m; steps = l; clause = clause }

  disk_under_none : IsDiskUnderTable steps book t → (p : Place) → DiskBreaks steps book t p → ⊥
  disk_under_none is p broken = elim broken.2 [
    | inl f ↦ fresh p.free p.steps p.clause broken.0 broken.1 f.2 f.3
    | inr v ↦ elim v [
      | inl h ↦ held p.free p.steps p.clause broken.0 broken.1 h.2 h.3
      | inr w ↦ elim w [
        | inl d ↦ disk_fresh p.steps p.clause broken.0 broken.1 d.3
        | inr d ↦ disk_held p.steps p.clause broken.0 broken.1 d.3
      ]
    ]
  ]
    where
      fresh : (m l c : ℕ) → 1 ≤ l → l ≤ steps → m ≤ room book 0 steps → FreshFails steps book (fast_of t) 0 m l c → ⊥
      fresh m l c one le free (inl w) = w.2 (is.one_fresh m (omega arith) free)
      fresh m l c one le free (inr (inl w)) = omega (arith, w.1.1)
      fresh m l c one le free (inr (inr (inl w))) =
          let n = w.1.0 in let e = w.1.1 in let v = w.1.2 in let j = v.0 in let i = v.1 in
          let P : ℕ → Type 0 = λ m. m ≤ room book 0 steps → (IsAtMost (t.fresh l m) (sum_of (write_cost book 0 + j * book.forward) (t.fresh i n) (t.held j n)) → ⊥) → ⊥ in
          let Q : ℕ → Type 0 = λ l. (IsAtMost (t.fresh l (suc n)) (sum_of (write_cost book 0 + j * book.forward) (t.fresh i n) (t.held j n)) → ⊥) → ⊥ in
          let here : P (suc n) = λ free. subst Q v.4 (λ above. above (is.split_fresh j i n v.2 v.3 (omega (arith, v.4)) free)) in
          subst P e here free v.5
      fresh m l c one le free (inr (inr (inr w))) =
          let n = w.1.0 in let e = w.1.1 in
          let P : ℕ → Type 0 = λ m. m ≤ room book 0 steps → (IsAtMost (t.fresh l m) (sum_of (write_cost book 0) (number 0) (t.held l n)) → ⊥) → ⊥ in
          let here : P (suc n) = λ free above. above (is.stored_fresh l n one le free) in
          subst P e here free w.1.2

      held : (m l c : ℕ) → 1 ≤ l → l ≤ steps → m < room book 0 steps → HeldFails steps book (fast_of t) 0 m l c → ⊥
      held m l c one le free (inl w) = w.2 (is.one_held m free)
      held m l c one le free (inr (inl w)) = omega (arith, w.1.1)
      held m l c one le free (inr (inr w)) =
          let v = w.1 in let j = v.0 in let i = v.1 in
          let Q : ℕ → Type 0 = λ l. (IsAtMost (t.held l m) (sum_of (read_cost book 0 + j * book.forward) (t.fresh i m) (t.held j m)) → ⊥) → ⊥ in
          let here : Q (j + i) = λ above. above (is.split_held j i m v.2 v.3 (omega (arith, v.4)) free) in
          subst Q v.4 here v.5

      disk_fresh : (l c : ℕ) → 1 ≤ l → l ≤ steps → DiskFreshFails steps book t l c → ⊥
      disk_fresh l c one le (inl w) = w.1 (is.fast_disk l one le)
      disk_fresh l c one le (inr (inl w)) =
          let v = w.1 in let j = v.0 in let i = v.1 in
          let Q : ℕ → Type 0 = λ l. (IsAtMost (t.disk_fresh l) (sum_of (write_cost book 1 + j * book.forward) (t.disk_fresh i) (t.disk_held j)) → ⊥) → ⊥ in
          let here : Q (j + i) = λ above. above (is.split_disk j i v.2 v.3 (omega (arith, v.4))) in
          subst Q v.4 here v.5
      disk_fresh l c one le (inr (inr w)) = w.1 (is.stored_disk l one le)

      disk_held : (l c : ℕ) → 1 ≤ l → l ≤ steps → DiskHeldFails steps book t l c → ⊥
      disk_held l c one le (inl w) = w.1 (is.moved_disk l one le)
      disk_held l c one le (inr w) =
          let v = w.1 in let j = v.0 in let i = v.1 in
          let Q : ℕ → Type 0 = λ l. (IsAtMost (t.disk_held l) (sum_of (read_cost book 1 + j * book.forward) (t.fresh i (room book 0 steps)) (t.disk_held j)) → ⊥) → ⊥ in
          let here : Q (j + i) = λ above. above (is.copied_disk j i v.2 v.3 (omega (arith, v.4))) in
          subst Q v.4 here v.5

  pub disk_none_under : ((p : Place) → DiskBreaks steps book t p → ⊥) → IsDiskUnderTable steps book t
  disk_none_under none = record {
    one_fresh = λ m some free. at_most (t.fresh 1 m) (number (book.forward + book.reverse)) (λ above. none (place 0 0 m 1 1) (omega arith, some, inl (refl, refl, free, inl (refl, refl, above))));
    split_fresh = λ j l m pos one le free. at_most _ _
        (λ above. none (place 0 0 (suc m) (j + l) 3) (omega arith, le, inl (refl, refl, free, inr (inr (inl (refl, (m, refl, (j, l, pos, one, refl, above))))))));
    stored_fresh = λ l m one le free. at_most _ _ (λ above. none (place 0 0 (suc m) l 4) (one, le, inl (refl, refl, free, inr (inr (inr (refl, (m, refl, above)))))));
    one_held = λ m free. at_most (t.held 1 m) (number (read_cost book 0 + book.forward + book.reverse))
        (λ above. none (place 1 0 m 1 5) (omega arith, some_step m free, inr (inl (refl, refl, free, inl (refl, refl, above)))));
    split_held = λ j l m pos one le free. at_most _ _
        (λ above. none (place 1 0 m (j + l) 7) (omega arith, le, inr (inl (refl, refl, free, inr (inr (refl, (j, l, pos, one, refl, above)))))));
    fast_disk = λ l one le. at_most _ _ (λ above. none (place 2 1 0 l 11) (one, le, inr (inr (inl (refl, refl, refl, inl (refl, above))))));
    split_disk = λ j l pos one le. at_most _ _ (λ above. none (place 2 1 0 (j + l) 12) (omega arith, le, inr (inr (inl (refl, refl, refl, inr (inl (refl, (j, l, pos, one, refl, above))))))));
    stored_disk = λ l one le. at_most _ _ (λ above. none (place 2 1 0 l 13) (one, le, inr (inr (inl (refl, refl, refl, inr (inr (refl, above)))))));
    moved_disk = λ l one le. at_most _ _ (λ above. none (place 3 1 0 l 14) (one, le, inr (inr (inr (refl, refl, refl, inl (refl, above))))));
    copied_disk = λ j l pos one le. at_most _ _ (λ above. none (place 3 1 0 (j + l) 15) (omega arith, le, inr (inr (inr (refl, refl, refl, inr (refl, (j, l, pos, one, refl, above)))))));
  }
    where
      some_step : (m : ℕ) → m < room book 0 steps → 1 ≤ steps
      some_step m free = let within = room_le steps (slice_index_or (slots_of book) 0 (Count 0)) in omega arith

pub disk_under_where_none : (steps : ℕ) (book : BookCosts) (t : DiskTables) → DiskUnderWhereNoneFails steps book t
disk_under_where_none steps book t = (disk_under_none steps book t, disk_none_under steps book t)
