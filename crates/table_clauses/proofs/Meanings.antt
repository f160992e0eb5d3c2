-- What clauses over columns mean for the tables that the columns are taken from.
use Rattle.std.proofs.Common.{rules, ◌≡◌, ℕ, suc, ◌+◌, ◌-◌, ◌*◌, ◌<◌, ◌≤◌, Option, Some, None, Vec, MatchOption, IfSome, length, slice_index, arith, inl, inr, ap, refl, sym, ◌∙◌, subst}
use Rattle.std.specs.declared.alloc.Global.{Global}
use Rattle.level_book.specs.BookCosts.{BookCosts, room}
use Rattle.level_book.specs.UnderTable.{Entry, number, Tables, sum_of, write_cost}
use Rattle.cost_tables.specs.declared.cost.Cost.{Cost}
use Rattle.cost_tables.specs.TableRows.{TableRows, tables_in}
use Rattle.table_clauses.specs.declared.entry.Entry.{Entry as Place}
use Rattle.cost_tables.specs.declared.costs.Costs.{Costs}
use Rattle.table_clauses.specs.declared.search.Pair.{Pair}
use Rattle.table_clauses.specs.declared.search.FreshColumns.{FreshColumns}
use Rattle.table_clauses.specs.declared.search.HeldColumns.{HeldColumns}
use Rattle.table_clauses.specs.ClauseFailures.{IsAbove, Breaks, FreshFails, HeldFails, IsFirst}
use Rattle.table_clauses.specs.Splits.{at_step, IsColumn}
use Rattle.cost_tables.specs.LevelCosts.{AreCosts}
use Rattle.table_clauses.specs.Columns.{AreFreshColumns, AreHeldColumns, AreLong, AreLongHeld, IsPair, IsPairBefore, IsFaster, BeforeSplitFails, StoredFails, FreshColumnFails, HeldColumnFails, InFreshColumn, InHeldColumn, InLevel}
use Rattle.table_clauses.proofs.Places.{column_next, column_more}

pub above_same : (a b x y : Entry) → a ≡ b → x ≡ y → IsAbove a x → IsAbove b y
above_same a b x y e d above =
    let P : Entry → Type 0 = λ a. IsAbove a y in let Q : Entry → Type 0 = λ x. IsAbove a x in
    subst P e (subst Q d above)

-- ---- how long columns are

pub long_faster : (t : TableRows) (k : ℕ) (o : Option (Vec Cost Global)) → IsFaster t k o → IfSome o (λ column. t.steps ≤ length column.items)
long_faster t k None is = search rules
long_faster t k (Some column) is = omega (arith, is.1.count)

pub long_before : (t : TableRows) (k m : ℕ) (o : Option Pair) → IsPairBefore t k m o → IfSome o (λ pair. (t.steps ≤ length pair.fresh.items) × (t.steps ≤ length pair.held.items))
long_before t k m None is = search rules
long_before t k m (Some pair) is = (omega (arith, is.1.fresh.count), omega (arith, is.1.held.count))

pub are_long : (t : TableRows) (k m : ℕ) (columns : FreshColumns) → AreFreshColumns t k m columns → AreLong t.steps columns
are_long t k m columns are = record {
  own = omega (arith, are.own.count);
  faster = long_faster t k columns.faster are.faster;
  before = long_before t k m columns.before are.before;
}

pub are_long_held : (t : TableRows) (k m : ℕ) (columns : HeldColumns) → AreHeldColumns t k m columns → AreLongHeld t.steps columns
are_long_held t k m columns are = record {
  faster = long_faster t k columns.faster are.faster;
  fresh = omega (arith, are.here.fresh.count);
  held = omega (arith, are.here.held.count);
}

-- ---- the parts of a clause

module _ (rows : TableRows) (book : BookCosts) (k : ℕ) (costs : Costs) (are : AreCosts book k costs) (rooms : (j : ℕ) → suc j ≡ k → slice_index rows.rooms j ≡ room book j rows.steps) where
  abbrev t : Tables
  t = tables_in rows

  faster_to : (P : Entry → Type 0) (o : Option (Vec Cost Global)) → IsFaster rows k o → (l : ℕ) → 1 ≤ l → l ≤ rows.steps → MatchOption o ⊥ (λ column. P (at_step column.items l)) →
      (j : ℕ) × (suc j ≡ k) × P (t.fresh j l (room book j rows.steps))
  faster_to P None is l one le fails = absurd fails
  faster_to P (Some column) is l one le fails =
      let e : suc (k - 1) ≡ k = omega (arith, is.0) in
      (k - 1, e, subst P (is.1.value l one le ∙ ap (λ r. t.fresh (k - 1) l r) (rooms (k - 1) e)) fails)

  faster_from : (P : Entry → Type 0) (o : Option (Vec Cost Global)) → IsFaster rows k o → (l : ℕ) → 1 ≤ l → l ≤ rows.steps → (j : ℕ) → suc j ≡ k → P (t.fresh j l (room book j rows.steps)) →
      MatchOption o ⊥ (λ column. P (at_step column.items l))
  faster_from P None is l one le j e fails = absurd (omega (arith, is))
  faster_from P (Some column) is l one le j e fails =
      let same : k - 1 ≡ j = omega arith in
      let C : ℕ → Type 0 = λ j. IsColumn rows.steps (λ l. t.fresh j l (slice_index rows.rooms j)) column.items in
      let col = subst C same is.1 in
      subst P (sym (col.value l one le ∙ ap (λ r. t.fresh j l r) (rooms j e))) fails

  before_to : (m l : ℕ) (own : Entry) (o : Option Pair) → IsPairBefore rows k m o → own ≡ t.fresh k l m → l ≤ rows.steps → BeforeSplitFails own costs o l →
      (n : ℕ) × (suc n ≡ m) × ((j : ℕ) × (i : ℕ) × (1 ≤ j) × (1 ≤ i) × (j + i ≡ l) × IsAbove (t.fresh k l m) (sum_of (write_cost book k + j * book.forward) (t.fresh k i n) (t.held k j n)))
  before_to m l own None is e le fails = absurd fails
  before_to m l own (Some pair) is e le fails =
      let j = fails.0 in let i = fails.1 in
      let fresh = is.1.fresh.value i fails.3 (omega (arith, fails.4)) in let held = is.1.held.value j fails.2 (omega (arith, fails.4)) in
      (m - 1, omega (arith, is.0), (j, i, fails.2, fails.3, fails.4, above_same own (t.fresh k l m) _ _ e (λ x. sum_of (are.write x + j * are.forward x) (fresh x) (held x)) fails.5))

  before_from : (m l : ℕ) (own : Entry) (o : Option Pair) → IsPairBefore rows k m o → own ≡ t.fresh k l m → l ≤ rows.steps → (n : ℕ) → suc n ≡ m →
      ((j : ℕ) × (i : ℕ) × (1 ≤ j) × (1 ≤ i) × (j + i ≡ l) × IsAbove (t.fresh k l m) (sum_of (write_cost book k + j * book.forward) (t.fresh k i n) (t.held k j n))) →
      BeforeSplitFails own costs o l
  before_from m l own None is e le n en fails = absurd (omega (arith, is))
  before_from m l own (Some pair) is e le n en fails =
      let j = fails.0 in let i = fails.1 in
      let same : m - 1 ≡ n = omega arith in
      let C : ℕ → Type 0 = λ n. IsPair rows k n pair in
      let here = subst C same is.1 in
      let fresh = here.fresh.value i fails.3 (omega (arith, fails.4)) in let held = here.held.value j fails.2 (omega (arith, fails.4)) in
      (j, i, fails.2, fails.3, fails.4, above_same (t.fresh k l m) own _ _ (sym e) (sym (λ x. sum_of (are.write x + j * are.forward x) (fresh x) (held x))) fails.5)

  stored_to : (m l : ℕ) (own : Entry) (o : Option Pair) → IsPairBefore rows k m o → own ≡ t.fresh k l m → 1 ≤ l → l ≤ rows.steps → StoredFails own costs.write o l →
      (n : ℕ) × (suc n ≡ m) × IsAbove (t.fresh k l m) (sum_of (write_cost book k) (number 0) (t.held k l n))
  stored_to m l own None is e one le fails = absurd fails
  stored_to m l own (Some pair) is e one le fails =
      let held = is.1.held.value l one le in
      (m - 1, omega (arith, is.0), above_same own (t.fresh k l m) _ _ e (λ x. sum_of (are.write x) (number 0) (held x)) fails)

  stored_from : (m l : ℕ) (own : Entry) (o : Option Pair) → IsPairBefore rows k m o → own ≡ t.fresh k l m → 1 ≤ l → l ≤ rows.steps → (n : ℕ) → suc n ≡ m →
      IsAbove (t.fresh k l m) (sum_of (write_cost book k) (number 0) (t.held k l n)) → StoredFails own costs.write o l
  stored_from m l own None is e one le n en fails = absurd (omega (arith, is))
  stored_from m l own (Some pair) is e one le n en fails =
      let same : m - 1 ≡ n = omega arith in
      let C : ℕ → Type 0 = λ n. IsPair rows k n pair in
      let here = subst C same is.1 in
      let held = here.held.value l one le in
      above_same (t.fresh k l m) own _ _ (sym e) (sym (λ x. sum_of (are.write x) (number 0) (held x))) fails

  -- ---- table F

  module _ (m : ℕ) (columns : FreshColumns) (is : AreFreshColumns rows k m columns) where
    fresh_to : (l c : ℕ) → 1 ≤ l → l ≤ rows.steps → FreshColumnFails costs columns l c → FreshFails rows.steps book t k m l c
    fresh_to l c one le (inl w) =
        let l_is = w.1.0 in
        inl (w.0, l_is, above_same (at_step columns.own.items l) (t.fresh k 1 m) _ _ (is.own.value l one le ∙ ap (λ l. t.fresh k l m) l_is) (λ x. number (are.forward x + are.reverse x)) w.1.1)
    fresh_to l c one le (inr (inl w)) =
        let own = is.own.value l one le in
        let P : Entry → Type 0 = λ x. IsAbove (at_step columns.own.items l) x in
        let by = faster_to P columns.faster is.faster l one le w.1 in
        inr (inl (w.0, (by.0, by.1, above_same _ _ _ _ own refl by.2)))
    fresh_to l c one le (inr (inr (inl w))) = inr (inr (inl (w.0, before_to m l (at_step columns.own.items l) columns.before is.before (is.own.value l one le) le w.1)))
    fresh_to l c one le (inr (inr (inr w))) = inr (inr (inr (w.0, stored_to m l (at_step columns.own.items l) columns.before is.before (is.own.value l one le) one le w.1)))

    fresh_from : (l c : ℕ) → 1 ≤ l → l ≤ rows.steps → FreshFails rows.steps book t k m l c → FreshColumnFails costs columns l c
    fresh_from l c one le (inl w) =
        inl (w.0, (w.1, above_same (t.fresh k 1 m) (at_step columns.own.items l) _ _ (sym (is.own.value l one le ∙ ap (λ l. t.fresh k l m) w.1)) (sym (λ x. number (are.forward x + are.reverse x))) w.2))
    fresh_from l c one le (inr (inl w)) =
        let own = is.own.value l one le in
        let P : Entry → Type 0 = λ x. IsAbove (at_step columns.own.items l) x in
        let v = w.1 in
        inr (inl (w.0, faster_from P columns.faster is.faster l one le v.0 v.1 (above_same (t.fresh k l m) (at_step columns.own.items l) _ _ (sym own) refl v.2)))
    fresh_from l c one le (inr (inr (inl w))) =
        let v = w.1 in inr (inr (inl (w.0, before_from m l (at_step columns.own.items l) columns.before is.before (is.own.value l one le) le v.0 v.1 v.2)))
    fresh_from l c one le (inr (inr (inr w))) =
        let v = w.1 in inr (inr (inr (w.0, stored_from m l (at_step columns.own.items l) columns.before is.before (is.own.value l one le) one le v.0 v.1 v.2)))

    pub fresh_out : k < length book.levels → m ≤ room book k rows.steps → (q : Place) → InFreshColumn costs columns k m rows.steps q → Breaks rows.steps book t q
    fresh_out known free q broken =
        let P : ℕ → Type 0 = λ k. FreshFails rows.steps book t k m q.steps q.clause in
        let Q : ℕ → Type 0 = λ m. FreshFails rows.steps book t q.level m q.steps q.clause in
        let R : ℕ → Type 0 = λ k. m ≤ room book k rows.steps in
        let S : ℕ → Type 0 = λ m. m ≤ room book q.level rows.steps in
        let T : ℕ → Type 0 = λ k. k < length book.levels in
        let level = sym broken.level_is in let free_is = sym broken.free_is in (
          subst T level known,
          broken.some,
          broken.within,
          inl (broken.table_is, subst S free_is (subst R level free), subst Q free_is (subst P level (fresh_to q.steps q.clause broken.some broken.within broken.fails))),
        )

    pub fresh_into : (q : Place) → q.table ≡ 0 → q.level ≡ k → q.free ≡ m → Breaks rows.steps book t q → InFreshColumn costs columns k m rows.steps q
    fresh_into q table level free broken = elim broken.3 [
      | inl f ↦
          let P : ℕ → Type 0 = λ k. FreshFails rows.steps book t k q.free q.steps q.clause in
          let Q : ℕ → Type 0 = λ m. FreshFails rows.steps book t k m q.steps q.clause in
          record {
            table_is = table;
            level_is = level;
            free_is = free;
            some = broken.1;
            within = broken.2;
            fails = fresh_from q.steps q.clause broken.1 broken.2 (subst Q free (subst P level f.2));
          }
      | inr h ↦ absurd (omega (arith, h.0))
    ]

    pub fresh_found : k < length book.levels → m ≤ room book k rows.steps → (e : Place) → ((q : Place) → q.table ≡ 0 → q.level ≡ k → q.free < m → Breaks rows.steps book t q → ⊥) →
        IsFirst (InFreshColumn costs columns k m rows.steps) e → IsFirst (InLevel 0 k (Breaks rows.steps book t)) e
    fresh_found known free e none first =
        column_next (Breaks rows.steps book t) 0 k m rows.steps (FreshColumnFails costs columns) e none (fresh_out known free) fresh_into first

    pub fresh_more : ((q : Place) → q.table ≡ 0 → q.level ≡ k → q.free < m → Breaks rows.steps book t q → ⊥) → ((q : Place) → InFreshColumn costs columns k m rows.steps q → ⊥) →
        (q : Place) → q.table ≡ 0 → q.level ≡ k → q.free < m + 1 → Breaks rows.steps book t q → ⊥
    fresh_more none here = column_more (Breaks rows.steps book t) 0 k m rows.steps (FreshColumnFails costs columns) none fresh_into here

  -- ---- table H

  module _ (m : ℕ) (columns : HeldColumns) (is : AreHeldColumns rows k m columns) where
    held_to : (l c : ℕ) → 1 ≤ l → l ≤ rows.steps → HeldColumnFails costs columns l c → HeldFails rows.steps book t k m l c
    held_to l c one le (inl w) =
        let l_is = w.1.0 in
        inl (w.0, l_is, above_same (at_step columns.here.held.items l) (t.held k 1 m) _ _ (is.here.held.value l one le ∙ ap (λ l. t.held k l m) l_is) (λ x. number (are.read x + are.forward x + are.reverse x)) w.1.1)
    held_to l c one le (inr (inl w)) =
        let own = is.here.held.value l one le in
        let P : Entry → Type 0 = λ x. IsAbove (at_step columns.here.held.items l) (sum_of costs.read (number 0) x) in
        let by = faster_to P columns.faster is.faster l one le w.1 in
        let x = t.fresh by.0 l (room book by.0 rows.steps) in
        inr (inl (w.0, (by.0, by.1, above_same _ _ _ _ own (λ i. sum_of (are.read i) (number 0) x) by.2)))
    held_to l c one le (inr (inr w)) =
        let v = w.1 in let j = v.0 in let i = v.1 in
        let fresh = is.here.fresh.value i v.3 (omega (arith, v.4)) in let held = is.here.held.value j v.2 (omega (arith, v.4)) in
        inr (inr (
          w.0,
          (
            j,
            i,
            v.2,
            v.3,
            v.4,
            above_same (at_step columns.here.held.items l) (t.held k l m) _ _ (is.here.held.value l one le) (λ x. sum_of (are.read x + j * are.forward x) (fresh x) (held x)) v.5,
          ),
        ))

    held_from : (l c : ℕ) → 1 ≤ l → l ≤ rows.steps → HeldFails rows.steps book t k m l c → HeldColumnFails costs columns l c
    held_from l c one le (inl w) =
        inl (
          w.0,
          (
            w.1,
            above_same (t.held k 1 m) (at_step columns.here.held.items l) _ _ (sym (is.here.held.value l one le ∙ ap (λ l. t.held k l m) w.1)) (sym (λ x. number (are.read x + are.forward x + are.reverse x))) w.2,
          ),
        )
    held_from l c one le (inr (inl w)) =
        let own = is.here.held.value l one le in
        let P : Entry → Type 0 = λ x. IsAbove (at_step columns.here.held.items l) (sum_of costs.read (number 0) x) in
        let v = w.1 in
        let x = t.fresh v.0 l (room book v.0 rows.steps) in
        inr (inl (
          w.0,
          faster_from P columns.faster is.faster l one le v.0 v.1
              (above_same (t.held k l m) (at_step columns.here.held.items l) _ _ (sym own) (sym (λ i. sum_of (are.read i) (number 0) x)) v.2),
        ))
    held_from l c one le (inr (inr w)) =
        let v = w.1 in let j = v.0 in let i = v.1 in
        let fresh = is.here.fresh.value i v.3 (omega (arith, v.4)) in let held = is.here.held.value j v.2 (omega (arith, v.4)) in
        inr (inr (
          w.0,
          (
            j,
            i,
            v.2,
            v.3,
            v.4,
            above_same (t.held k l m) (at_step columns.here.held.items l) _ _ (sym (is.here.held.value l one le)) (sym (λ x. sum_of (are.read x + j * are.forward x) (fresh x) (held x))) v.5,
          ),
        ))

    pub held_out : k < length book.levels → m < room book k rows.steps → (q : Place) → InHeldColumn costs columns k m rows.steps q → Breaks rows.steps book t q
    held_out known free q broken =
        let P : ℕ → Type 0 = λ k. HeldFails rows.steps book t k m q.steps q.clause in
        let Q : ℕ → Type 0 = λ m. HeldFails rows.steps book t q.level m q.steps q.clause in
        let R : ℕ → Type 0 = λ k. m < room book k rows.steps in
        let S : ℕ → Type 0 = λ m. m < room book q.level rows.steps in
        let T : ℕ → Type 0 = λ k. k < length book.levels in
        let level = sym broken.level_is in let free_is = sym broken.free_is in (
          subst T level known,
          broken.some,
          broken.within,
          inr (broken.table_is, subst S free_is (subst R level free), subst Q free_is (subst P level (held_to q.steps q.clause broken.some broken.within broken.fails))),
        )

    pub held_into : (q : Place) → q.table ≡ 1 → q.level ≡ k → q.free ≡ m → Breaks rows.steps book t q → InHeldColumn costs columns k m rows.steps q
    held_into q table level free broken = elim broken.3 [
      | inl f ↦ absurd (omega (arith, f.0))
      | inr h ↦
          let P : ℕ → Type 0 = λ k. HeldFails rows.steps book t k q.free q.steps q.clause in
          let Q : ℕ → Type 0 = λ m. HeldFails rows.steps book t k m q.steps q.clause in
          record {
            table_is = table;
            level_is = level;
            free_is = free;
            some = broken.1;
            within = broken.2;
            fails = held_from q.steps q.clause broken.1 broken.2 (subst Q free (subst P level h.2));
          }
    ]

    pub held_found : k < length book.levels → m < room book k rows.steps → (e : Place) → ((q : Place) → q.table ≡ 1 → q.level ≡ k → q.free < m → Breaks rows.steps book t q → ⊥) →
        IsFirst (InHeldColumn costs columns k m rows.steps) e → IsFirst (InLevel 1 k (Breaks rows.steps book t)) e
    held_found known free e none first =
        column_next (Breaks rows.steps book t) 1 k m rows.steps (HeldColumnFails costs columns) e none (held_out known free) held_into first

    pub held_more : ((q : Place) → q.table ≡ 1 → q.level ≡ k → q.free < m → Breaks rows.steps book t q → ⊥) → ((q : Place) → InHeldColumn costs columns k m rows.steps q → ⊥) →
        (q : Place) → q.table ≡ 1 → q.level ≡ k → q.free < m + 1 → Breaks rows.steps book t q → ⊥
    held_more none here = column_more (Breaks rows.steps book t) 1 k m rows.steps (HeldColumnFails costs columns) none held_into here

-- ---- how many slots are free where something is broken

pub fresh_within : (steps : ℕ) (book : BookCosts) (t : Tables) (k : ℕ) (p : Place) → InLevel 0 k (Breaks steps book t) p → p.free ≤ room book k steps
fresh_within steps book t k p broken = elim broken.2.3 [
  | inl f ↦ let P : ℕ → Type 0 = λ k. p.free ≤ room book k steps in subst P broken.1 f.1
  | inr h ↦ absurd (omega (arith, h.0, broken.0))
]

pub held_within : (steps : ℕ) (book : BookCosts) (t : Tables) (k : ℕ) (p : Place) → InLevel 1 k (Breaks steps book t) p → p.free < room book k steps
held_within steps book t k p broken = elim broken.2.3 [
  | inl f ↦ absurd (omega (arith, f.0, broken.0))
  | inr h ↦ let P : ℕ → Type 0 = λ k. p.free < room book k steps in subst P broken.1 h.1
]
