-- What clauses over columns mean for disk tables, and which place of these comes first.
use Rattle.std.proofs.Common.{◌≡◌, ℕ, ◌+◌, ◌*◌, ◌<◌, ◌≤◌, Option, Some, None, MatchOption, length, slice_index, arith, inl, inr, ap, sym, ◌∙◌, subst}
use Rattle.level_book.specs.BookCosts.{BookCosts, room}
use Rattle.level_book.specs.UnderTable.{number, Tables, sum_of}
use Rattle.level_book.specs.DiskUnderTable.{DiskTables, IsDiskUnderTable}
use Rattle.cost_tables.specs.TableRows.{tables_in}
use Rattle.disk_gen.specs.DiskRows.{DiskRows, disk_tables_in}
use Rattle.table_clauses.specs.declared.entry.Entry.{Entry as Place}
use Rattle.cost_tables.specs.declared.costs.Costs.{Costs}
use Rattle.table_clauses.specs.declared.disk.DiskColumns.{DiskColumns}
use Rattle.table_clauses.specs.ClauseFailures.{Breaks, DiskBreaks, FreshFails, HeldFails, DiskFreshFails, DiskHeldFails, IsFirst, fast_of}
use Rattle.table_clauses.specs.Splits.{at_step}
use Rattle.cost_tables.specs.LevelCosts.{AreCosts}
use Rattle.table_clauses.specs.Columns.{Finds, InLevel}
use Rattle.table_clauses.specs.DiskColumns.{AreDiskColumns, DiskFreshColumnFails, DiskHeldColumnFails, InDiskFreshColumn, InDiskHeldColumn, InDiskColumns}
use Rattle.table_clauses.proofs.Meanings.{above_same}
use Rattle.table_clauses.proofs.Places.{widen, before_table}
use Rattle.table_clauses.proofs.DiskNoFailures.{disk_none_under}

-- ---- the first place of tables Fd and Hd

pub first_of_fresh : (costs : Costs) (columns : DiskColumns) (steps : ℕ) (e : Place) → IsFirst (InDiskFreshColumn costs columns steps) e → IsFirst (InDiskColumns costs columns steps) e
first_of_fresh costs columns steps e is =
    widen (InDiskFreshColumn costs columns steps) (InDiskColumns costs columns steps) e is (inl is.broken)
    (λ q before broken. elim broken [
      | inl d ↦ d
      | inr d ↦ let le = before_table q e before in absurd (omega (arith, d.table_is, is.broken.table_is))
    ])

pub first_of_both : (costs : Costs) (columns : DiskColumns) (steps : ℕ) (o : Option Place) → ((q : Place) → InDiskFreshColumn costs columns steps q → ⊥) → Finds (InDiskHeldColumn costs columns steps) o →
    Finds (InDiskColumns costs columns steps) o
first_of_both costs columns steps None none held = λ q broken. elim broken [ inl d ↦ none q d | inr d ↦ held q d ]
first_of_both costs columns steps (Some e) none held =
    widen (InDiskHeldColumn costs columns steps) (InDiskColumns costs columns steps) e held (inr held.broken) (λ q before broken. elim broken [ inl d ↦ absurd (none q d) | inr d ↦ d ])

module _ (rows : DiskRows) (book : BookCosts) where
  abbrev steps : ℕ
  steps = rows.fast.steps

  abbrev t : DiskTables
  t = disk_tables_in rows

  abbrev fast : Tables
  fast = tables_in rows.fast

  abbrev Broken : Place → Type 0
  Broken = DiskBreaks steps book t

  abbrev FastBroken : Place → Type 0
  FastBroken = Breaks steps book fast

  -- ---- tables F and H

  fresh_to : (m l c : ℕ) → FreshFails steps book fast 0 m l c → FreshFails steps book (fast_of t) 0 m l c
  fresh_to m l c (inl w) = inl w
  fresh_to m l c (inr (inl w)) = absurd (omega (arith, w.1.1))
  fresh_to m l c (inr (inr w)) = inr (inr w)

  fresh_from : (m l c : ℕ) → FreshFails steps book (fast_of t) 0 m l c → FreshFails steps book fast 0 m l c
  fresh_from m l c (inl w) = inl w
  fresh_from m l c (inr (inl w)) = absurd (omega (arith, w.1.1))
  fresh_from m l c (inr (inr w)) = inr (inr w)

  held_to : (m l c : ℕ) → HeldFails steps book fast 0 m l c → HeldFails steps book (fast_of t) 0 m l c
  held_to m l c (inl w) = inl w
  held_to m l c (inr (inl w)) = absurd (omega (arith, w.1.1))
  held_to m l c (inr (inr w)) = inr (inr w)

  held_from : (m l c : ℕ) → HeldFails steps book (fast_of t) 0 m l c → HeldFails steps book fast 0 m l c
  held_from m l c (inl w) = inl w
  held_from m l c (inr (inl w)) = absurd (omega (arith, w.1.1))
  held_from m l c (inr (inr w)) = inr (inr w)

  fresh_out : (p : Place) → InLevel 0 0 FastBroken p → Broken p
  fresh_out p is = elim is.2.3 [
    | inl f ↦
        let P : ℕ → Type 0 = λ k. FreshFails steps book fast k p.free p.steps p.clause in
        let R : ℕ → Type 0 = λ k. p.free ≤ room book k steps in
        (is.2.1, is.2.2, inl (is.0, is.1, subst R is.1 f.1, fresh_to p.free p.steps p.clause (subst P is.1 f.2)))
    | inr h ↦ absurd (omega (arith, h.0, is.0))
  ]

  held_out : (p : Place) → InLevel 1 0 FastBroken p → Broken p
  held_out p is = elim is.2.3 [
    | inl f ↦ absurd (omega (arith, f.0, is.0))
    | inr h ↦
        let P : ℕ → Type 0 = λ k. HeldFails steps book fast k p.free p.steps p.clause in
        let R : ℕ → Type 0 = λ k. p.free < room book k steps in
        (is.2.1, is.2.2, inr (inl (is.0, is.1, subst R is.1 h.1, held_to p.free p.steps p.clause (subst P is.1 h.2))))
  ]

  module _ (some : 0 < length book.levels) where
    fresh_into : (p : Place) → p.table ≤ 0 → Broken p → InLevel 0 0 FastBroken p
    fresh_into p table broken = elim broken.2 [
      | inl f ↦
          let P : ℕ → Type 0 = λ k. FreshFails steps book fast k p.free p.steps p.clause in
          let R : ℕ → Type 0 = λ k. p.free ≤ room book k steps in
          let level = sym f.1 in
          (f.0, f.1, (omega (arith, f.1), broken.0, broken.1, inl (f.0, subst R level f.2, subst P level (fresh_from p.free p.steps p.clause f.3))))
      | inr v ↦ elim v [
        | inl h ↦ absurd (omega (arith, h.0))
        | inr w ↦ elim w [ inl d ↦ absurd (omega (arith, d.0)) | inr d ↦ absurd (omega (arith, d.0)) ]
      ]
    ]

    held_into : (p : Place) → p.table ≤ 1 → ((q : Place) → InLevel 0 0 FastBroken q → ⊥) → Broken p → InLevel 1 0 FastBroken p
    held_into p table none broken = elim broken.2 [
      | inl f ↦ absurd (none p (fresh_into p (omega (arith, f.0)) broken))
      | inr v ↦ elim v [
        | inl h ↦
            let P : ℕ → Type 0 = λ k. HeldFails steps book fast k p.free p.steps p.clause in
            let R : ℕ → Type 0 = λ k. p.free < room book k steps in
            let level = sym h.1 in
            (h.0, h.1, (omega (arith, h.1), broken.0, broken.1, inr (h.0, subst R level h.2, subst P level (held_from p.free p.steps p.clause h.3))))
        | inr w ↦ elim w [ inl d ↦ absurd (omega (arith, d.0)) | inr d ↦ absurd (omega (arith, d.0)) ]
      ]
    ]

    pub fast_fresh_found : (e : Place) → IsFirst (InLevel 0 0 FastBroken) e → IsFirst Broken e
    fast_fresh_found e is =
        widen (InLevel 0 0 FastBroken) Broken e is (fresh_out e is.broken) (λ q before broken. let le = before_table q e before in fresh_into q (omega (arith, is.broken.0)) broken)

    pub fast_held_found : (e : Place) → ((q : Place) → InLevel 0 0 FastBroken q → ⊥) → IsFirst (InLevel 1 0 FastBroken) e → IsFirst Broken e
    fast_held_found e none is =
        widen (InLevel 1 0 FastBroken) Broken e is (held_out e is.broken) (λ q before broken. let le = before_table q e before in held_into q (omega (arith, is.broken.0)) none broken)

    -- ---- tables Fd and Hd

    module _ (rooms : slice_index rows.fast.rooms 0 ≡ room book 0 steps) (costs : Costs) (are : AreCosts book 1 costs) (columns : DiskColumns) (is : AreDiskColumns rows columns) where
      disk_fresh_to : (l c : ℕ) → 1 ≤ l → l ≤ steps → DiskFreshColumnFails costs columns l c → DiskFreshFails steps book t l c
      disk_fresh_to l c one le (inl w) =
          inl (w.0, above_same (at_step columns.fresh.items l) (t.disk_fresh l) (at_step columns.fast.items l) (t.fresh l (room book 0 steps)) (is.fresh.value l one le) (is.fast.value l one le ∙ ap (λ m. t.fresh l m) rooms) w.1)
      disk_fresh_to l c one le (inr (inl w)) =
          let v = w.1 in let j = v.0 in let i = v.1 in
          let fresh = is.fresh.value i v.3 (omega (arith, v.4)) in let held = is.held.value j v.2 (omega (arith, v.4)) in
          inr (inl (w.0, (j, i, v.2, v.3, v.4, above_same (at_step columns.fresh.items l) (t.disk_fresh l) _ _ (is.fresh.value l one le) (λ x. sum_of (are.write x + j * are.forward x) (fresh x) (held x)) v.5)))
      disk_fresh_to l c one le (inr (inr w)) =
          let held = is.held.value l one le in
          inr (inr (w.0, above_same (at_step columns.fresh.items l) (t.disk_fresh l) _ _ (is.fresh.value l one le) (λ x. sum_of (are.write x) (number 0) (held x)) w.1))

      disk_fresh_from : (l c : ℕ) → 1 ≤ l → l ≤ steps → DiskFreshFails steps book t l c → DiskFreshColumnFails costs columns l c
      disk_fresh_from l c one le (inl w) =
          inl (w.0, above_same (t.disk_fresh l) (at_step columns.fresh.items l) (t.fresh l (room book 0 steps)) (at_step columns.fast.items l) (sym (is.fresh.value l one le)) (sym (is.fast.value l one le ∙ ap (λ m. t.fresh l m) rooms)) w.1)
      disk_fresh_from l c one le (inr (inl w)) =
          let v = w.1 in let j = v.0 in let i = v.1 in
          let fresh = is.fresh.value i v.3 (omega (arith, v.4)) in let held = is.held.value j v.2 (omega (arith, v.4)) in
          inr (inl (w.0, (j, i, v.2, v.3, v.4, above_same (t.disk_fresh l) (at_step columns.fresh.items l) _ _ (sym (is.fresh.value l one le)) (sym (λ x. sum_of (are.write x + j * are.forward x) (fresh x) (held x))) v.5)))
      disk_fresh_from l c one le (inr (inr w)) =
          let held = is.held.value l one le in
          inr (inr (w.0, above_same (t.disk_fresh l) (at_step columns.fresh.items l) _ _ (sym (is.fresh.value l one le)) (sym (λ x. sum_of (are.write x) (number 0) (held x))) w.1))

      disk_held_to : (l c : ℕ) → 1 ≤ l → l ≤ steps → DiskHeldColumnFails costs columns l c → DiskHeldFails steps book t l c
      disk_held_to l c one le (inl w) =
          let fresh = is.fast.value l one le ∙ ap (λ m. t.fresh l m) rooms in
          inl (w.0, above_same (at_step columns.held.items l) (t.disk_held l) _ _ (is.held.value l one le) (λ x. sum_of (are.read x) (number 0) (fresh x)) w.1)
      disk_held_to l c one le (inr w) =
          let v = w.1 in let j = v.0 in let i = v.1 in
          let fresh = is.fast.value i v.3 (omega (arith, v.4)) ∙ ap (λ m. t.fresh i m) rooms in let held = is.held.value j v.2 (omega (arith, v.4)) in
          inr (w.0, (j, i, v.2, v.3, v.4, above_same (at_step columns.held.items l) (t.disk_held l) _ _ (is.held.value l one le) (λ x. sum_of (are.read x + j * are.forward x) (fresh x) (held x)) v.5))

      disk_held_from : (l c : ℕ) → 1 ≤ l → l ≤ steps → DiskHeldFails steps book t l c → DiskHeldColumnFails costs columns l c
      disk_held_from l c one le (inl w) =
          let fresh = is.fast.value l one le ∙ ap (λ m. t.fresh l m) rooms in
          inl (w.0, above_same (t.disk_held l) (at_step columns.held.items l) _ _ (sym (is.held.value l one le)) (sym (λ x. sum_of (are.read x) (number 0) (fresh x))) w.1)
      disk_held_from l c one le (inr w) =
          let v = w.1 in let j = v.0 in let i = v.1 in
          let fresh = is.fast.value i v.3 (omega (arith, v.4)) ∙ ap (λ m. t.fresh i m) rooms in let held = is.held.value j v.2 (omega (arith, v.4)) in
          inr (w.0, (j, i, v.2, v.3, v.4, above_same (t.disk_held l) (at_step columns.held.items l) _ _ (sym (is.held.value l one le)) (sym (λ x. sum_of (are.read x + j * are.forward x) (fresh x) (held x))) v.5))

      both_out : (p : Place) → InDiskColumns costs columns steps p → Broken p
      both_out p (inl d) = (d.some, d.within, inr (inr (inl (d.table_is, d.level_is, d.free_is, disk_fresh_to p.steps p.clause d.some d.within d.fails))))
      both_out p (inr d) = (d.some, d.within, inr (inr (inr (d.table_is, d.level_is, d.free_is, disk_held_to p.steps p.clause d.some d.within d.fails))))

      module _ (no_fresh : (q : Place) → InLevel 0 0 FastBroken q → ⊥) (no_held : (q : Place) → InLevel 1 0 FastBroken q → ⊥) where
        both_into : (p : Place) → Broken p → InDiskColumns costs columns steps p
        both_into p broken = elim broken.2 [
          | inl f ↦ absurd (no_fresh p (fresh_into p (omega (arith, f.0)) broken))
          | inr v ↦ elim v [
            | inl h ↦ absurd (no_held p (held_into p (omega (arith, h.0)) no_fresh broken))
            | inr w ↦ elim w [
              | inl d ↦
                  inl (record {
                    table_is = d.0;
                    level_is = d.1;
                    free_is = d.2;
                    some = broken.0;
                    within = broken.1;
                    fails = disk_fresh_from p.steps p.clause broken.0 broken.1 d.3;
                  })
              | inr d ↦
                  inr (record {
                    table_is = d.0;
                    level_is = d.1;
                    free_is = d.2;
                    some = broken.0;
                    within = broken.1;
                    fails = disk_held_from p.steps p.clause broken.0 broken.1 d.3;
                  })
            ]
          ]
        ]

        -- what the search of tables Fd and Hd answers, after that of tables F and H found nothing
        pub all_found : (o : Option Place) → Finds (InDiskColumns costs columns steps) o → MatchOption o (IsDiskUnderTable steps book t) (IsFirst Broken)
        all_found None none = disk_none_under steps book t (λ p broken. none p (both_into p broken))
        all_found (Some e) found = widen (InDiskColumns costs columns steps) Broken e found (both_out e found.broken) (λ q before broken. both_into q broken)
