-- A part that is read, from its parts.
use Rattle.std.proofs.Common.{◌≡◌, ◌≢◌, ℕ, suc, ◌+◌, ◌-◌, ◌*◌, ◌<◌, ◌≤◌, true, false, List, [], ◌∷◌, ◌++◌, length, get_or, refl, sym, ap, ◌∙◌, subst, arith, append_assoc, Result, Ok, Err}
use Rattle.std.specs.Result.{IfOk}
use Rattle.plan_types.specs.declared.action.Keep.TheVariants.{Nothing, Store, Tape}
use Rattle.plan_types.specs.declared.action.Dest.TheVariants.{Work}
use Rattle.plan_types.specs.declared.action.Action.{Action}
use Rattle.plan_types.specs.declared.action.Action.TheVariants.{Forward, Reverse, Copy, Move}
use Rattle.level_book.specs.BookCosts.{BookCosts, room}
use Rattle.level_book.specs.UnderTable.{Tables, sum_of, write_cost, read_cost, Entry, number, never}
use Rattle.cost_tables.specs.TableRows.{TableRows, AreFor, tables_in}
use Rattle.cost_tables.specs.ExactTables.{IsExact, IsExactTo}
use Rattle.hrevolve_gen.specs.HRevolveList.{one, faster, split, actions, IsFirst, Reads}
use Rattle.hrevolve_gen.specs.ReadableTables.{CanRead, IsReadable, IsMore, split_cost}

pub few_steps : (steps : ℕ) → steps ≤ 2048 → steps ≤ 8192
few_steps steps few = omega arith

-- tables for so many steps can be read
pub can_read : (steps : ℕ) (book : BookCosts) (t : TableRows) → AreFor steps book t → IsExact steps book (tables_in t) → steps ≤ 2048 → CanRead book t
can_read steps book t sizes exact few =
    let P : ℕ → Type 0 = λ n. AreFor n book t × IsExact n book (tables_in t) × (n ≤ 2048) in
    let at = subst P (sym sizes.steps_are) (sizes, exact, few) in
    record { sizes = at.0; exact = at.1; few = at.2 }

-- tables of all levels are tables of the first ones
pub readable : (book : BookCosts) (t : TableRows) → CanRead book t → IsReadable book t
readable book t ready =
    let P : ℕ → Type 0 = λ n. IsExactTo n t.steps book (tables_in t) in
    let same = ready.sizes.level_count in
    let few = ready.few in
    record { known = omega arith; rooms_are = λ k h. ready.sizes.rooms_are k (omega arith); exact = subst P (sym same) ready.exact; few = omega arith }

pub if_ok : {X E : Type 0} (r : Result X E) (P Q : Type 0) → IfOk r (λ _. P) → (P → Q) → IfOk r (λ _. Q)
if_ok (Ok x) P Q h f = f h
if_ok (Err e) P Q h f = tt

pub some_of : (o : Entry) → o ≢ never → (v : ℕ) × (o ≡ number v)
some_of (number v) h = (v, refl)
some_of never h = absurd (h refl)

module _ (book : BookCosts) (t : TableRows) (ready : IsReadable book t) where
  abbrev T : Tables
  T = tables_in t

  abbrev rooms : ℕ → ℕ
  rooms k = get_or t.rooms k 0

  pub fresh_some : (k l m n f : ℕ) (own : Entry) → k < length t.rooms → 2 ≤ l → l ≤ t.steps → m ≤ rooms k → own ≡ T.fresh k l m → T.fresh k l m ≢ never →
      ((j : ℕ) → suc j ≡ k → own ≢ T.fresh j l (rooms j)) → n ≡ write_cost book k → f ≡ book.forward →
      (1 ≤ m) × ((j : ℕ) × (1 ≤ j) × (j < l) × (own ≡ split_cost T n f k l (m - 1) j))
  fresh_some k l m n f own known two le some is is_number other en ef =
      let v = some_of (T.fresh k l m) is_number in
      let room_is = ready.rooms_are k known in
      let by = ready.exact.fresh_split k l m v.0 known two le (omega arith) v.1
      (λ j e same. other j e (is ∙ same ∙ ap (λ r. T.fresh j l r) (sym (ready.rooms_are j (omega arith))))) in
      let more = by.1 in let free = by.0 in
      let e : free ≡ m - 1 = omega arith in
      let j = by.2.0 in (
        omega arith,
        (
          j,
          by.2.1,
          by.2.2,
          is ∙ by.2.3 ∙ (λ i. sum_of (sym en i + j * sym ef i) (T.fresh k (l - j) (e i)) (T.held k j (e i))),
        ),
      )

  pub held_some : (k l m n f : ℕ) (own : Entry) → k < length t.rooms → 2 ≤ l → l ≤ t.steps → m < rooms k → own ≡ T.held k l m →
      ((j : ℕ) → suc j ≡ k → own ≢ sum_of n (number 0) (T.fresh j l (rooms j))) → n ≡ read_cost book k → f ≡ book.forward →
      (j : ℕ) × (1 ≤ j) × (j < l) × (own ≡ split_cost T n f k l m j)
  held_some k l m n f own known two le some is other en ef =
      let room_is = ready.rooms_are k known in
      let by = ready.exact.held_split k l m known two le (omega arith)
      (λ j e same. other j e (is ∙ same ∙ (λ i. sum_of (sym en i) (number 0) (T.fresh j l (sym (ready.rooms_are j (omega arith)) i))))) in
      let j = by.0 in
      (j, by.1, by.2, is ∙ by.3 ∙ (λ i. sum_of (sym en i + j * sym ef i) (T.fresh k (l - j) m) (T.held k j m)))

  -- one level faster
  pub more_faster_fresh : (k k' b l m r : ℕ) (old new : List Action) → k ≡ suc k' → k < length t.rooms → 2 ≤ l → r ≡ rooms k' → T.fresh k l m ≡ T.fresh k' l (rooms k') →
      IsMore book t false k' b l r old new → IsMore book t false k b l m old new
  more_faster_fresh k k' b l m r old new ek known two er e is =
      let room_is = ready.rooms_are k' (omega arith) in
      let R : ℕ → Type 0 = λ r. Reads t.steps book T false k' l r is.0 in
      let K : ℕ → Type 0 = λ k. IsMore book t false k b l m old new in
      let E : ℕ → Type 0 = λ k. T.fresh k l m ≡ T.fresh k' l (room book k' t.steps) in
      subst K (sym ek) (faster is.0, (two, subst E ek (e ∙ ap (λ r. T.fresh k' l r) room_is), subst R (er ∙ room_is) is.1), is.2)

  pub more_faster_held : (k k' b l m r n : ℕ) (old xs new : List Action) → k ≡ suc k' → k < length t.rooms → 2 ≤ l → r ≡ rooms k' → n ≡ read_cost book k →
      T.held k l m ≡ sum_of n (number 0) (T.fresh k' l (rooms k')) → xs ≡ old ++ Move b k Work ∷ [] →
      IsMore book t false k' b l r xs new → IsMore book t true k b l m old new
  more_faster_held k k' b l m r n old xs new ek known two er en e ex is =
      let room_is = ready.rooms_are k' (omega arith) in
      let R : ℕ → Type 0 = λ r. Reads t.steps book T false k' l r is.0 in
      let K : ℕ → Type 0 = λ k. IsMore book t true k b l m old new in
      let E : ℕ → Type 0 = λ k. T.held k l m ≡ sum_of (read_cost book k) (number 0) (T.fresh k' l (room book k' t.steps)) in
      let list = actions t.steps false k' b is.0 in
      subst K (sym ek) (
        faster is.0,
        (two, subst E ek (e ∙ (λ i. sum_of (en i) (number 0) (T.fresh k' l (room_is i)))), subst R (er ∙ room_is) is.1),
        is.2 ∙ ap (λ (xs : List Action). xs ++ list) ex ∙ append_assoc old (Move b k Work ∷ []) list ∙ ap (λ k. old ++ Move b k Work ∷ list) ek,
      )

  -- a split
  pub more_split_fresh : (k b l m m' j n f : ℕ) (own : Entry) (old xs ys new : List Action) → m ≡ suc m' → 1 ≤ j → j < l → n ≡ write_cost book k → f ≡ book.forward → own ≡ T.fresh k l m → own ≡ split_cost T n f k l m' j →
      ((i : ℕ) → suc i ≡ k → own ≢ T.fresh i l (rooms i)) → ((i : ℕ) → 1 ≤ i → i < j → own ≢ split_cost T n f k l m' i) → k < length t.rooms →
      xs ≡ old ++ Forward b (b + j) (Store k) ∷ [] → IsMore book t false k (b + j) (l - j) m' xs ys → IsMore book t true k b j m' ys new → IsMore book t false k b l m old new
  more_split_fresh k b l m m' j n f own old xs ys new em hj hl en ef is cost other_level least known ex first second =
      let M : ℕ → Type 0 = λ m. IsMore book t false k b l m old new in
      let E : ℕ → Type 0 = λ m. T.fresh k l m ≡ sum_of (write_cost book k + j * book.forward) (T.fresh k (l - j) m') (T.held k j m') in
      let one' = actions t.steps false k (b + j) first.0 in let other = actions t.steps true k b second.0 in
      let F : ℕ → Type 0 = λ m. IsFirst k j (T.fresh k l m) (λ i. T.fresh i l (room book i t.steps)) (λ i. sum_of (write_cost book k + i * book.forward) (T.fresh k (l - i) m') (T.held k i m')) in
      let is_first : F m = record {
        used = λ i e same. other_level i e (is ∙ same ∙ ap (λ r. T.fresh i l r) (sym (ready.rooms_are i (omega arith))));
        least = λ i one lt same. least i one lt (is ∙ same ∙ (λ x. sum_of (sym en x + i * sym ef x) (T.fresh k (l - i) m') (T.held k i m')));
      } in
      subst M (sym em) (
        split j first.0 second.0,
        (hj, hl, subst E em (sym is ∙ cost ∙ (λ i. sum_of (en i + j * ef i) (T.fresh k (l - j) m') (T.held k j m'))), first.1, second.1, subst F em is_first),
        second.2 ∙ ap (λ (ys : List Action). ys ++ other) (first.2 ∙ ap (λ (xs : List Action). xs ++ one') ex ∙ append_assoc old (Forward b (b + j) (Store k) ∷ []) one')
            ∙ append_assoc old (Forward b (b + j) (Store k) ∷ one') other,
      )

  pub more_split_held : (k b l m j n f : ℕ) (own : Entry) (old xs ys new : List Action) → 1 ≤ j → j < l → n ≡ read_cost book k → f ≡ book.forward → own ≡ T.held k l m → own ≡ split_cost T n f k l m j →
      ((i : ℕ) → suc i ≡ k → own ≢ sum_of n (number 0) (T.fresh i l (rooms i))) → ((i : ℕ) → 1 ≤ i → i < j → own ≢ split_cost T n f k l m i) → k < length t.rooms →
      xs ≡ old ++ Copy b k Work ∷ Forward b (b + j) Nothing ∷ [] → IsMore book t false k (b + j) (l - j) m xs ys → IsMore book t true k b j m ys new → IsMore book t true k b l m old new
  more_split_held k b l m j n f own old xs ys new hj hl en ef is cost other_level least known ex first second =
      let one' = actions t.steps false k (b + j) first.0 in let other = actions t.steps true k b second.0 in (
        split j first.0 second.0,
        (
          hj,
          hl,
          sym is ∙ cost ∙ (λ i. sum_of (en i + j * ef i) (T.fresh k (l - j) m) (T.held k j m)),
          first.1,
          second.1,
          record {
            used = λ i e same. other_level i e (is ∙ same ∙ (λ x. sum_of (sym en x) (number 0) (T.fresh i l (sym (ready.rooms_are i (omega arith)) x))));
            least = λ i one lt same. least i one lt (is ∙ same ∙ (λ x. sum_of (sym en x + i * sym ef x) (T.fresh k (l - i) m) (T.held k i m)));
          },
        ),
        second.2 ∙ ap (λ (ys : List Action). ys ++ other) (first.2 ∙ ap (λ (xs : List Action). xs ++ one') ex ∙ append_assoc old (Copy b k Work ∷ Forward b (b + j) Nothing ∷ []) one')
            ∙ append_assoc old (Copy b k Work ∷ Forward b (b + j) Nothing ∷ one') other,
      )

  -- one step
  pub more_one : (k b l m : ℕ) (old new : List Action) → k < length t.rooms → l ≡ 1 → 1 ≤ t.steps → m ≤ rooms k → new ≡ old ++ actions t.steps false 0 b one → IsMore book t false k b l m old new
  more_one k b l m old new known el some le e =
      let room_is = ready.rooms_are k known in
      (one, (el, ap (λ l. T.fresh k l m) el ∙ ready.exact.fresh_one k m some known (omega arith)), e)

  pub more_one_held : (k b l m : ℕ) (old new : List Action) → k < length t.rooms → l ≡ 1 → m < rooms k → new ≡ old ++ Move b k Work ∷ Forward b (b + 1) Tape ∷ Reverse (b + 1) b ∷ [] → IsMore book t true k b l m old new
  more_one_held k b l m old new known el lt e =
      let room_is = ready.rooms_are k known in
      (one, (el, ap (λ l. T.held k l m) el ∙ ready.exact.held_one k m known (omega arith)), e)
