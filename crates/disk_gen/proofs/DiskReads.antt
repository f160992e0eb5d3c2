-- A part that is read from disk tables, from its parts.
use Rattle.std.proofs.Common.{◌≡◌, ◌≢◌, ℕ, zero, suc, ◌+◌, ◌-◌, ◌*◌, ◌<◌, ◌≤◌, Bool, true, false, List, [], ◌∷◌, ◌++◌, length, get_or, sym, ap, ◌∙◌, subst, arith, append_assoc, Result, Ok, Err}
use Rattle.std.specs.Result.{IfOk}
use Rattle.std.proofs.lemmas.List.{length-take}
use Rattle.plan_types.specs.declared.action.Keep.TheVariants.{Nothing, Store}
use Rattle.plan_types.specs.declared.action.Dest.TheVariants.{Work}
use Rattle.plan_types.specs.declared.action.Action.{Action}
use Rattle.plan_types.specs.declared.action.Action.TheVariants.{Forward, Copy, Move, EndReverse}
use Rattle.level_book.specs.BookCosts.{BookCosts, room}
use Rattle.level_book.specs.UnderTable.{Tables, sum_of, write_cost, read_cost, number}
use Rattle.level_book.specs.DiskUnderTable.{DiskTables}
use Rattle.cost_tables.specs.TableRows.{fastest, tables_in}
use Rattle.cost_tables.specs.ExactTables.{IsExact, IsExactTo}
use Rattle.cost_tables.proofs.FastestLevel.{same_room, first_exact}
use Rattle.hrevolve_gen.specs.HRevolveList.{Part, one, faster, split, actions, Reads}
use Rattle.hrevolve_gen.specs.ReadableTables.{IsMore}
use Rattle.disk_gen.specs.DiskRows.{DiskRows, AreDiskFor, disk_tables_in}
use Rattle.disk_gen.specs.DiskRevolveList.{finally, again, DiskPart, alone, parted, held_actions, disk_actions, fast_tables, ReadsDisk, IsDiskWritten}
use Rattle.disk_gen.specs.ReadableDiskTables.{IsDiskExact, CanReadDisk, IsHeldMore, IsDiskMore}

-- what is read of level 0 depends on its entries alone
pub part_first : (steps : ℕ) (book : BookCosts) (t : Tables) (p : Part) (held : Bool) (l m : ℕ) → Reads steps book t held 0 l m p → Reads steps book (record { fresh = λ _. t.fresh 0; held = λ _. t.held 0 }) held 0 l m p
part_first steps book t one false l m is = is
part_first steps book t one true l m is = is
part_first steps book t (faster p) held l m is = absurd is
part_first steps book t (split j p q) false l zero is = absurd is
part_first steps book t (split j p q) false l (suc m) is = (
  is.0,
  is.1,
  is.2,
  part_first steps book t p false (l - j) m is.3,
  part_first steps book t q true j m is.4,
  record { used = λ i before. absurd (omega arith); least = is.5.least },
)
part_first steps book t (split j p q) true l m is = (
  is.0,
  is.1,
  is.2,
  part_first steps book t p false (l - j) m is.3,
  part_first steps book t q true j m is.4,
  record { used = λ i before. absurd (omega arith); least = is.5.least },
)

-- tables for so many steps can be read
pub can_read_disk : (steps : ℕ) (book : BookCosts) (t : DiskRows) → AreDiskFor steps book t → IsExact steps (fastest book) (fast_tables (disk_tables_in t)) → IsDiskExact steps book (disk_tables_in t) → steps ≤ 8192 → CanReadDisk book t
can_read_disk steps book t sizes exact disk few =
    let es = sizes.sized.steps_are in
    let two = sizes.plan.two in
    let single : length t.fast.rooms ≡ 1 = omega (arith, sizes.sized.level_count, length-take 1 book.levels) in
    let known : 0 < length (fastest book).levels = omega (arith, sizes.sized.level_count) in
    let Room : ℕ → Type 0 = λ k. get_or t.fast.rooms k 0 ≡ room book k t.fast.steps in
    let first : Room 0 = sizes.sized.rooms_are 0 known ∙ same_room book steps ∙ ap (λ n. room book 0 n) (sym es) in
    let Exact : ℕ → Type 0 = λ n. IsExactTo (length t.fast.rooms) n book (tables_in t.fast) in
    let Count : ℕ → Type 0 = λ n. IsExactTo n steps book (tables_in t.fast) in
    let Disk : ℕ → Type 0 = λ n. IsDiskExact n book (disk_tables_in t) in
    record {
      one_level = single;
      plan = sizes.plan;
      fast = record {
        known = omega arith;
        rooms_are = λ k h. let e : 0 ≡ k = omega arith in subst Room e first;
        exact = subst Exact (sym es) (subst Count (sym single) (first_exact steps book (tables_in t.fast) (omega arith) exact));
        few = omega arith;
      };
      exact = subst Disk (sym es) disk;
    }

module _ (book : BookCosts) (t : DiskRows) (ready : CanReadDisk book t) where
  abbrev n : ℕ
  n = t.fast.steps

  abbrev T : DiskTables
  T = disk_tables_in t

  abbrev c : ℕ
  c = get_or t.fast.rooms 0 0

  -- the slots of level 0
  whole : c ≡ room book 0 n
  whole = let single = ready.one_level in ready.fast.rooms_are 0 (omega arith)

  fast_reads : (l : ℕ) (p : Part) → Reads n book (tables_in t.fast) false 0 l c p → Reads n book (fast_tables T) false 0 l (room book 0 n) p
  fast_reads l p is =
      let R : ℕ → Type 0 = λ m. Reads n book (fast_tables T) false 0 l m p in
      subst R whole (part_first n book (tables_in t.fast) p false l c is)

  pub some_held : (l read forward : ℕ) → 1 ≤ l → l ≤ n → read ≡ read_cost book 1 → forward ≡ book.forward → T.disk_held l ≢ sum_of read (number 0) (T.fresh l c) →
      (i : ℕ) × (1 ≤ i) × (i < l) × (T.disk_held l ≡ sum_of (read + i * forward) (T.fresh (l - i) c) (T.disk_held i))
  some_held l read forward lo le er ef other =
      let by = ready.exact.held_by l lo le (λ same. other (same ∙ (λ x. sum_of (sym er x) (number 0) (T.fresh l (sym whole x))))) in
      let i = by.0 in
      (i, by.1, by.2, by.3 ∙ (λ x. sum_of (sym er x + i * sym ef x) (T.fresh (l - i) (sym whole x)) (T.disk_held i)))

  pub some_fresh : (l write forward : ℕ) → 1 ≤ l → l ≤ n → write ≡ write_cost book 1 → forward ≡ book.forward → T.disk_fresh l ≢ T.fresh l c →
      (j : ℕ) × (1 ≤ j) × (j < l) × (T.disk_fresh l ≡ sum_of (write + j * forward) (T.disk_fresh (l - j)) (T.disk_held j))
  some_fresh l write forward lo le ew ef other =
      let by = ready.exact.fresh_by l lo le (λ same. other (same ∙ ap (λ m. T.fresh l m) (sym whole))) in
      let j = by.0 in
      (j, by.1, by.2, by.3 ∙ (λ x. sum_of (sym ew x + j * sym ef x) (T.disk_fresh (l - j)) (T.disk_held j)))

  pub more_moved : (b l read : ℕ) (old xs new : List Action) → read ≡ read_cost book 1 → T.disk_held l ≡ sum_of read (number 0) (T.fresh l c) → xs ≡ old ++ Move b 1 Work ∷ [] →
      IsMore book t.fast false 0 b l c xs new → IsHeldMore book t b l old new
  more_moved b l read old xs new er e ex is =
      let list = actions n false 0 b is.0 in (
        finally is.0,
        (e ∙ (λ x. sum_of (er x) (number 0) (T.fresh l (whole x))), fast_reads l is.0 is.1),
        is.2 ∙ ap (λ (xs : List Action). xs ++ list) ex ∙ append_assoc old (Move b 1 Work ∷ []) list,
      )

  pub more_copied : (b l i read forward : ℕ) (old xs ys new : List Action) → 1 ≤ i → i < l → read ≡ read_cost book 1 → forward ≡ book.forward →
      T.disk_held l ≡ sum_of (read + i * forward) (T.fresh (l - i) c) (T.disk_held i) → T.disk_held l ≢ sum_of read (number 0) (T.fresh l c) →
      ((q : ℕ) → 1 ≤ q → q < i → T.disk_held l ≢ sum_of (read + q * forward) (T.fresh (l - q) c) (T.disk_held q)) →
      xs ≡ old ++ Copy b 1 Work ∷ Forward b (b + i) Nothing ∷ [] → IsMore book t.fast false 0 (b + i) (l - i) c xs ys → IsHeldMore book t b i ys new → IsHeldMore book t b l old new
  more_copied b l i read forward old xs ys new hi lt er ef e other least ex first second =
      let one' = actions n false 0 (b + i) first.0 in let rest = held_actions n b second.0 in (
        again i first.0 second.0,
        (
          hi,
          lt,
          e ∙ (λ x. sum_of (er x + i * ef x) (T.fresh (l - i) (whole x)) (T.disk_held i)),
          fast_reads (l - i) first.0 first.1,
          second.1,
          λ same. other (same ∙ (λ x. sum_of (sym er x) (number 0) (T.fresh l (sym whole x)))),
          λ q lo before same. least q lo before (same ∙ (λ x. sum_of (sym er x + q * sym ef x) (T.fresh (l - q) (sym whole x)) (T.disk_held q))),
        ),
        second.2 ∙ ap (λ (ys : List Action). ys ++ rest) (first.2 ∙ ap (λ (xs : List Action). xs ++ one') ex ∙ append_assoc old (Copy b 1 Work ∷ Forward b (b + i) Nothing ∷ []) one')
            ∙ append_assoc old (Copy b 1 Work ∷ Forward b (b + i) Nothing ∷ one') rest,
      )

  pub more_fast : (b l : ℕ) (old new : List Action) → T.disk_fresh l ≡ T.fresh l c → IsMore book t.fast false 0 b l c old new → IsDiskMore book t b l old new
  more_fast b l old new e is = (alone is.0, (e ∙ ap (λ m. T.fresh l m) whole, fast_reads l is.0 is.1), is.2)

  pub more_split : (b l j write forward : ℕ) (old xs ys new : List Action) → 1 ≤ j → j < l → write ≡ write_cost book 1 → forward ≡ book.forward →
      T.disk_fresh l ≡ sum_of (write + j * forward) (T.disk_fresh (l - j)) (T.disk_held j) → T.disk_fresh l ≢ T.fresh l c →
      ((q : ℕ) → 1 ≤ q → q < j → T.disk_fresh l ≢ sum_of (write + q * forward) (T.disk_fresh (l - q)) (T.disk_held q)) →
      xs ≡ old ++ Forward b (b + j) (Store 1) ∷ [] → IsDiskMore book t (b + j) (l - j) xs ys → IsHeldMore book t b j ys new → IsDiskMore book t b l old new
  more_split b l j write forward old xs ys new hj lt ew ef e other least ex first second =
      let one' = disk_actions n (b + j) first.0 in let rest = held_actions n b second.0 in (
        parted j first.0 second.0,
        (
          hj,
          lt,
          e ∙ (λ x. sum_of (ew x + j * ef x) (T.disk_fresh (l - j)) (T.disk_held j)),
          first.1,
          second.1,
          λ same. other (same ∙ ap (λ m. T.fresh l m) (sym whole)),
          λ q lo before same. least q lo before (same ∙ (λ x. sum_of (sym ew x + q * sym ef x) (T.disk_fresh (l - q)) (T.disk_held q))),
        ),
        second.2 ∙ ap (λ (ys : List Action). ys ++ rest) (first.2 ∙ ap (λ (xs : List Action). xs ++ one') ex ∙ append_assoc old (Forward b (b + j) (Store 1) ∷ []) one')
            ∙ append_assoc old (Forward b (b + j) (Store 1) ∷ one') rest,
      )

-- what is so of a result, where more follows from it
pub if_all : {X E : Type 0} (r : Result X E) (P Q : X → Type 0) → IfOk r P → ((x : X) → P x → Q x) → IfOk r Q
if_all (Ok x) P Q h f = f x h
if_all (Err e) P Q h f = tt

-- a list of actions that are read, and EndReverse
pub written_disk : (steps : ℕ) (book : BookCosts) (t : DiskTables) (list xs ys : List Action) (p : DiskPart) → 0 < steps → ReadsDisk steps book t steps p → list ≡ ys ++ EndReverse ∷ [] → ys ≡ xs ++ disk_actions steps 0 p → xs ≡ [] →
    IsDiskWritten steps book t list
written_disk zero book t list xs ys p some is e f g = absurd (omega arith)
written_disk (suc n) book t list xs ys p some is e f g =
    (p, is, e ∙ ap (λ (ys : List Action). ys ++ EndReverse ∷ []) (f ∙ ap (λ (xs : List Action). xs ++ disk_actions (suc n) 0 p) g))
