-- Tables are an under-table exactly where no clause fails at any place.
use Rattle.std.proofs.Common.{ℕ, suc, ◌+◌, ◌*◌, ◌<◌, ◌≤◌, length, slice_index_or, Option, Some, None, Result, Ok, Err, IfOk, MatchOption, arith, inl, inr, refl, subst}
use Rattle.std.proofs.lemmas.Bool.{cases_lt}
use Rattle.std.specs.declared.alloc.AllocError.{AllocError}
use Rattle.level_book.specs.BookCosts.{BookCosts, slots_of, room}
use Rattle.level_book.specs.declared.book.Slots.TheVariants.{Count}
use Rattle.cost_tables.proofs.AllLevels.{room_le}
use Rattle.level_book.specs.UnderTable.{Entry, number, never, Tables, IsAtMost, IsUnderTable, sum_of, write_cost, read_cost}
use Rattle.table_clauses.specs.declared.entry.Entry.{Entry as Place}
use Rattle.table_clauses.specs.ClauseFailures.{Breaks, FreshFails, HeldFails, IsFirst}
use Rattle.table_clauses.specs.Columns.{InTable, Finds}
use Rattle.table_clauses.proofs.Places.{table_next}
use Rattle.table_clauses.specs.Laws.{UnderWhereNoneFails}

-- an entry that isn't above another is at most that
pub at_most : (a b : Entry) → ((IsAtMost a b → ⊥) → ⊥) → IsAtMost a b
at_most a never h = tt
at_most never (number b) h = h (λ x. x)
at_most (number a) (number b) h = elim (cases_lt b a) [ inl lt ↦ absurd (h (λ le. omega arith)) | inr le ↦ le ]

module _ (steps : ℕ) (book : BookCosts) (t : Tables) where
  abbrev place : ℕ → ℕ → ℕ → ℕ → ℕ → Place
  place table k m l clause = record { table = table; level = k; free = m; steps = l; clause = clause }

  under_none : IsUnderTable steps book t → (p : Place) → Breaks steps book t p → ⊥
  under_none is p broken = elim broken.3 [
    | inl f ↦ fresh p.level p.free p.steps p.clause broken.0 broken.1 broken.2 f.1 f.2
    | inr h ↦ held p.level p.free p.steps p.clause broken.0 broken.1 broken.2 h.1 h.2
  ]
    where
      fresh : (k m l c : ℕ) → k < length book.levels → 1 ≤ l → l ≤ steps → m ≤ room book k steps → FreshFails steps book t k m l c → ⊥
      fresh k m l c known one le free (inl w) = w.2 (is.one_fresh k m (omega arith) known free)
      fresh k m l c known one le free (inr (inl w)) =
          let j = w.1.0 in let e = w.1.1 in
          let P : ℕ → Type 0 = λ k. k < length book.levels → m ≤ room book k steps → (IsAtMost (t.fresh k l m) (t.fresh j l (room book j steps)) → ⊥) → ⊥ in
          let here : P (suc j) = λ known free above. above (is.faster_fresh j l m known one le free) in
          subst P e here known free w.1.2
      fresh k m l c known one le free (inr (inr (inl w))) =
          let n = w.1.0 in let e = w.1.1 in let v = w.1.2 in let j = v.0 in let i = v.1 in
          let P : ℕ → Type 0 = λ m. m ≤ room book k steps → (IsAtMost (t.fresh k l m) (sum_of (write_cost book k + j * book.forward) (t.fresh k i n) (t.held k j n)) → ⊥) → ⊥ in
          let Q : ℕ → Type 0 = λ l. (IsAtMost (t.fresh k l (suc n)) (sum_of (write_cost book k + j * book.forward) (t.fresh k i n) (t.held k j n)) → ⊥) → ⊥ in
          let here : P (suc n) = λ free. subst Q v.4 (λ above. above (is.split_fresh k j i n known v.2 v.3 (omega (arith, v.4)) free)) in
          subst P e here free v.5
      fresh k m l c known one le free (inr (inr (inr w))) =
          let n = w.1.0 in let e = w.1.1 in
          let P : ℕ → Type 0 = λ m. m ≤ room book k steps → (IsAtMost (t.fresh k l m) (sum_of (write_cost book k) (number 0) (t.held k l n)) → ⊥) → ⊥ in
          let here : P (suc n) = λ free above. above (is.stored_fresh k l n known one le free) in
          subst P e here free w.1.2

      held : (k m l c : ℕ) → k < length book.levels → 1 ≤ l → l ≤ steps → m < room book k steps → HeldFails steps book t k m l c → ⊥
      held k m l c known one le free (inl w) = w.2 (is.one_held k m known free)
      held k m l c known one le free (inr (inl w)) =
          let j = w.1.0 in let e = w.1.1 in
          let P : ℕ → Type 0 = λ k. k < length book.levels → m < room book k steps → (IsAtMost (t.held k l m) (sum_of (read_cost book k) (number 0) (t.fresh j l (room book j steps))) → ⊥) → ⊥ in
          let here : P (suc j) = λ known free above. above (is.faster_held j l m known one le free) in
          subst P e here known free w.1.2
      held k m l c known one le free (inr (inr w)) =
          let v = w.1 in let j = v.0 in let i = v.1 in
          let Q : ℕ → Type 0 = λ l. (IsAtMost (t.held k l m) (sum_of (read_cost book k + j * book.forward) (t.fresh k i m) (t.held k j m)) → ⊥) → ⊥ in
          let here : Q (j + i) = λ above. above (is.split_held k j i m known v.2 v.3 (omega (arith, v.4)) free) in
          subst Q v.4 here v.5

  none_under : ((p : Place) → Breaks steps book t p → ⊥) → IsUnderTable steps book t
  none_under none = record {
    one_fresh = λ k m some known free. at_most (t.fresh k 1 m) (number (book.forward + book.reverse)) (λ above. none (place 0 k m 1 1) (known, omega arith, some, inl (refl, free, inl (refl, refl, above))));
    faster_fresh = λ k l m known one le free. at_most _ _ (λ above. none (place 0 (suc k) m l 2) (known, one, le, inl (refl, free, inr (inl (refl, (k, refl, above))))));
    split_fresh = λ k j l m known pos one le free. at_most _ _
        (λ above. none (place 0 k (suc m) (j + l) 3) (known, omega arith, le, inl (refl, free, inr (inr (inl (refl, (m, refl, (j, l, pos, one, refl, above))))))));
    stored_fresh = λ k l m known one le free. at_most _ _ (λ above. none (place 0 k (suc m) l 4) (known, one, le, inl (refl, free, inr (inr (inr (refl, (m, refl, above)))))));
    one_held = λ k m known free. at_most (t.held k 1 m) (number (read_cost book k + book.forward + book.reverse)) (λ above. none (place 1 k m 1 5) (known, omega arith, some_step k m free, inr (refl, free, inl (refl, refl, above))));
    faster_held = λ k l m known one le free. at_most _ _ (λ above. none (place 1 (suc k) m l 6) (known, one, le, inr (refl, free, inr (inl (refl, (k, refl, above))))));
    split_held = λ k j l m known pos one le free. at_most _ _
        (λ above. none (place 1 k m (j + l) 7) (known, omega arith, le, inr (refl, free, inr (inr (refl, (j, l, pos, one, refl, above))))));
  }
    where
      some_step : (k m : ℕ) → m < room book k steps → 1 ≤ steps
      some_step k m free = let within = room_le steps (slice_index_or (slots_of book) k (Count 0)) in omega arith

pub under_where_none : (steps : ℕ) (book : BookCosts) (t : Tables) → UnderWhereNoneFails steps book t
under_where_none steps book t = (under_none steps book t, none_under steps book t)

-- ---- from tables F and H to both

pub found_fresh : (steps : ℕ) (book : BookCosts) (t : Tables) (e : Place) → IsFirst (InTable 0 (Breaks steps book t)) e → IsFirst (Breaks steps book t) e
found_fresh steps book t e is = table_next (Breaks steps book t) 0 e (λ q lt broken. omega arith) is

pub found_held : (steps : ℕ) (book : BookCosts) (t : Tables) (e : Place) → ((p : Place) → InTable 0 (Breaks steps book t) p → ⊥) → IsFirst (InTable 1 (Breaks steps book t)) e → IsFirst (Breaks steps book t) e
found_held steps book t e none is = table_next (Breaks steps book t) 1 e (λ q lt broken. none q (omega arith, broken)) is

pub none_found : (steps : ℕ) (book : BookCosts) (t : Tables) → ((p : Place) → InTable 0 (Breaks steps book t) p → ⊥) → ((p : Place) → InTable 1 (Breaks steps book t) p → ⊥) → IsUnderTable steps book t
none_found steps book t fresh held = none_under steps book t (λ p broken. elim broken.3 [ inl f ↦ fresh p (f.0, broken) | inr h ↦ held p (h.0, broken) ])

-- what the search of table H answers, after that of table F found nothing
pub both_found : (steps : ℕ) (book : BookCosts) (t : Tables) (result : Result (Option Place) AllocError) → ((p : Place) → InTable 0 (Breaks steps book t) p → ⊥) → IfOk result (Finds (InTable 1 (Breaks steps book t))) →
    IfOk result (λ o. MatchOption o (IsUnderTable steps book t) (IsFirst (Breaks steps book t)))
both_found steps book t (Ok None) none held = none_found steps book t none held
both_found steps book t (Ok (Some e)) none held = found_held steps book t e none held
both_found steps book t (Err e) none held = tt
