-- One row more of a column, and the built tables as they are seen.
use Rattle.std.proofs.Common.{◌≡◌, ℕ, zero, suc, ◌+◌, ◌-◌, ◌<◌, ◌≤◌, ◌^◌, min, List, [], ◌∷◌, ◌++◌, length, map, get_or, refl, sym, ap, ◌∙◌, subst, add-one, arith, inl, inr}
use Rattle.std.proofs.lemmas.Bool.{cases_lt}
use Rattle.std.proofs.lemmas.List.{length-take}
use Rattle.level_book.specs.declared.book.Level.{Level}
use Rattle.level_book.specs.BookCosts.{BookCosts, room}
use Rattle.level_book.specs.UnderTable.{Entry, number, Tables, IsAtMost, IsGreatest, write_cost, read_cost}
use Rattle.level_book.specs.DiskUnderTable.{DiskTables, IsGreatestDisk}
use Rattle.cost_tables.specs.Entries.{never_in_memory, entry, least_split}
use Rattle.cost_tables.specs.TableRows.{AreFor, fastest, tables_in, value_of}
use Rattle.cost_tables.proofs.Splits.{entry_number, entry_never}
use Rattle.cost_tables.proofs.RowExtension.{pushed, All-pushed, split_same}
use Rattle.cost_tables.proofs.FastestLevel.{same_room}
use Rattle.disk_gen.specs.declared.disk_tables.DiskTables.TheInside.{Inside}
use Rattle.disk_gen.specs.DiskRows.{disk_tables_in}
use Rattle.disk_gen.specs.DiskInvariant.{IsHeldColumn, IsFreshColumn, view_of}
use Rattle.disk_gen.proofs.DiskColumns.{AreColumns, AreSmall}
use Rattle.disk_gen.proofs.DiskGreatestTable.{over, columns_greatest}

abbrev pub at : List ℕ → ℕ → ℕ
at xs r = get_or xs r 0

pub held_more : (forward read n x : ℕ) (fast held ys : List ℕ) → IsHeldColumn forward read fast held → length held ≡ n → ys ≡ held ++ x ∷ [] → x ≡ read + min (at fast n) (least_split forward (at fast) (at held) n n) → x ≤ 2 ^ 62 →
    IsHeldColumn forward read fast ys
held_more forward read n x fast held ys is count e ex low =
    let p = pushed held ys x n e count in
    let before = λ (q : ℕ) (h : q < n). p.before q h in
    let unchanged = λ (r : ℕ) (le : r ≤ n). split_same forward (at fast) (at fast) (at ys) (at held) r r (λ q h. refl) (λ q h. before q (omega arith)) (omega arith) in
    record {
      low = All-pushed (2 ^ 62) held ys x e is.low low;
      value = λ r lt.
          let P : ℕ → Type 0 = λ r. at ys r ≡ read + min (at fast r) (least_split forward (at fast) (at ys) r r) in
          let longer = p.longer in
          elim (cases_lt r n) [
            | inl h ↦ before r h ∙ is.value r (omega arith) ∙ ap (λ s. read + min (at fast r) s) (sym (unchanged r (omega arith)))
            | inr h ↦ let same : n ≡ r = omega arith in subst P same (p.here ∙ ex ∙ ap (λ s. read + min (at fast n) s) (sym (unchanged n (omega arith))))
          ];
    }

pub fresh_more : (forward write n x : ℕ) (fast held fresh ys : List ℕ) → IsFreshColumn forward write fast held fresh → length fresh ≡ n → ys ≡ fresh ++ x ∷ [] →
    x ≡ min (at fast n) (write + least_split forward (at fresh) (at held) n n) → x ≤ 2 ^ 61 → IsFreshColumn forward write fast held ys
fresh_more forward write n x fast held fresh ys is count e ex low =
    let p = pushed fresh ys x n e count in
    let before = λ (q : ℕ) (h : q < n). p.before q h in
    let unchanged = λ (r : ℕ) (le : r ≤ n). split_same forward (at ys) (at fresh) (at held) (at held) r r (λ q h. before q (omega arith)) (λ q h. refl) (omega arith) in
    record {
      low = All-pushed (2 ^ 61) fresh ys x e is.low low;
      value = λ r lt.
          let P : ℕ → Type 0 = λ r. at ys r ≡ min (at fast r) (write + least_split forward (at ys) (at held) r r) in
          let longer = p.longer in
          elim (cases_lt r n) [
            | inl h ↦ before r h ∙ is.value r (omega arith) ∙ ap (λ s. min (at fast r) (write + s)) (sym (unchanged r (omega arith)))
            | inr h ↦ let same : n ≡ r = omega arith in subst P same (p.here ∙ ex ∙ ap (λ s. min (at fast n) (write + s)) (sym (unchanged n (omega arith))))
          ];
    }

-- the entries that are seen are those of the numbers in memory
pub column_seen : (xs : List ℕ) (k : ℕ) → get_or (map entry xs) k (number 0) ≡ entry (at xs k)
column_seen [] k = refl
column_seen (x ∷ xs) zero = refl
column_seen (x ∷ xs) (suc k) = column_seen xs k

pub disk_seen : (t : Inside) (fresh held : List ℕ) → map value_of t.disk_fresh.items ≡ map entry fresh → map value_of t.disk_held.items ≡ map entry held → disk_tables_in (view_of t) ≡ over (tables_in t.fast) (at fresh) (at held)
disk_seen t fresh held is_fresh is_held = λ i. record {
  fresh = (tables_in t.fast).fresh 0;
  held = (tables_in t.fast).held 0;
  disk_fresh = λ l. (ap (λ (xs : List Entry). get_or xs (l - 1) (number 0)) is_fresh ∙ column_seen fresh (l - 1)) i;
  disk_held = λ l. (ap (λ (xs : List Entry). get_or xs (l - 1) (number 0)) is_held ∙ column_seen held (l - 1)) i;
}

-- an entry that is at most a number is a number that is
pub entry_below : (n v : ℕ) → IsAtMost (entry n) (number v) → n ≤ v
entry_below n v h = elim (cases_lt n never_in_memory) [
  | inl lt ↦ subst (λ e. IsAtMost e (number v)) (entry_number n lt) h
  | inr ge ↦ absurd (subst (λ e. IsAtMost e (number v)) (entry_never n ge) h)
]

module _ (steps f r : ℕ) (t : Tables) (fast fresh held : ℕ → ℕ) where
  abbrev of : List Level → BookCosts
  of levels = record { forward = f; reverse = r; levels = levels }

  greatest_of : (levels : List Level) → 0 < length levels → IsGreatest steps (fastest (of levels)) t → ((q : ℕ) → q < steps → entry (fast q) ≡ t.fresh 0 (suc q) (room (of levels) 0 steps)) →
      AreSmall steps f (write_cost (of levels) 1) (read_cost (of levels) 1) fast → AreColumns steps f (write_cost (of levels) 1) (read_cost (of levels) 1) fast fresh held → IsGreatestDisk steps (of levels) (over t fresh held)
  greatest_of [] some is seen small are = absurd (omega arith)
  greatest_of (x ∷ rest) some is seen small are = columns_greatest steps f r x rest t is fast fresh held seen small are

module _ (steps : ℕ) (book : BookCosts) (made : Inside) (column disk_fresh disk_held : List ℕ) where
  abbrev T : Tables
  T = tables_in made.fast

  pub filled_greatest : 1 < length book.levels → AreFor steps (fastest book) made.fast → IsGreatest steps (fastest book) T → steps ≤ 8192 →
      book.forward < 2 ^ 32 → book.reverse < 2 ^ 32 → write_cost book 1 < 2 ^ 32 → read_cost book 1 < 2 ^ 32 →
      length column ≡ made.fast.steps → ((q : ℕ) → q < made.fast.steps → entry (at column q) ≡ T.fresh 0 (q + 1) (get_or made.fast.rooms 0 0)) →
      IsHeldColumn book.forward (read_cost book 1) column disk_held → length disk_held ≡ length column →
      IsFreshColumn book.forward (write_cost book 1) column disk_held disk_fresh → length disk_fresh ≡ length column →
      map value_of made.disk_fresh.items ≡ map entry disk_fresh → map value_of made.disk_held.items ≡ map entry disk_held →
      IsGreatestDisk steps book (disk_tables_in (view_of made))
  filled_greatest some sizes is few f b w c wide value held held_wide fresh fresh_wide is_fresh is_held =
      let known : 0 < length (fastest book).levels = first_known book (omega arith) in
      let same = sizes.rooms_are 0 known ∙ same_room book steps in
      let es = sizes.steps_are in
      let seen = λ (q : ℕ) (lt : q < steps). value q (omega arith) ∙ (λ i. T.fresh 0 (add-one q i) (same i)) in
      let P : DiskTables → Type 0 = λ t. IsGreatestDisk steps book t in
      subst P (sym (disk_seen made disk_fresh disk_held is_fresh is_held)) (greatest_of steps book.forward book.reverse T (at column) (at disk_fresh) (at disk_held) book.levels (omega arith) is seen
      (record {
        few = few;
        cheap_steps = f;
        cheap_write = w;
        cheap_read = c;
        low = λ some.
            let first = is.under.one_fresh 0 (room (fastest book) 0 steps) (omega arith) known (omega arith) in
            let E : Entry → Type 0 = λ e. IsAtMost e (number (book.forward + book.reverse)) in
            let le = entry_below (at column 0) (book.forward + book.reverse) (subst E (sym (seen 0 some ∙ ap (λ m. T.fresh 0 1 m) (sym (same_room book steps)))) first) in
            omega arith;
      })
      (record { is_held = λ q lt. held.value q (omega arith); is_fresh = λ q lt. fresh.value q (omega arith) }))
    where
      first_known : (book : BookCosts) → 0 < length book.levels → 0 < length (fastest book).levels
      first_known book some = omega (arith, length-take 1 book.levels)
