-- What is seen of the states that come from marks.
use Rattle.std.proofs.Common.{◌≡◌, ◌≢◌, ◌⊎◌, inl, inr, ℕ, ◌+◌, ◌-◌, ◌==◌, ◌<◌, ◌≤◌, min, cond, List, [], ◌∷◌, Some, None, Option, refl, sym, ◌∙◌, ap, subst, arith}
use Rattle.std.proofs.lemmas.Bool.{cases_lt}
use Rattle.std.proofs.lemmas.Option.{same_Some}
use Rattle.std.proofs.lemmas.List.Sums.{sum_by-cons}
use Rattle.keepers.specs.Claims.{Images}
use Rattle.rv_machine.specs.MachineState.{MachineState}
use Rattle.rv_machine.specs.States.{state_number}
use Rattle.rv_machine.proofs.Runs.{state_number-add}
use Rattle.image_store.specs.Calls.{IsGot}
use Rattle.image_store.specs.Shelves.{ShelfState}
use Rattle.reverse_runner.specs.SessionOfRun.{IsNoImage}
use Rattle.reverse_runner.specs.SessionState.{SamePages}
use Rattle.reverse_runner.specs.KeepersSeen.{Calls, Called}
use Rattle.reverse_runner.specs.KeeperCallEffects.{one_get}
use Rattle.reverse_runner.proofs.AllCalls.{called_same}
use Rattle.reverse_queries.specs.Queries.{IsLast, ChangesWord, WritesWord, Differ}
use Rattle.rv_pages.specs.Memory.{byte_at}
use Rattle.reverse_console.specs.declared.order.Order.{Order}
use Rattle.reverse_console.specs.declared.order.Order.TheVariants.{Back, Step, Goto, BackTo, RunTo, BackChange, BackWrite}
use Rattle.reverse_console.specs.declared.order.Sought.{Sought}
use Rattle.reverse_console.specs.Answer.{IsAnswer, IsFirst, IsAt, IsOrder}
use Rattle.reverse_console.specs.Costs.{gets_of}
use Rattle.reverse_console.specs.Marks.{MarkPlan, marked, mark_level}
use Rattle.reverse_console.specs.SearchTargets.{Meets, MeetsFrom}
use Rattle.reverse_runner.specs.declared.fault.RunFault.{RunFault}
use Rattle.reverse_runner.specs.declared.fault.RunFault.TheVariants.{Keeper, Damaged, Visitor, Memory, Ended}
use Rattle.reverse_console.specs.Refusals.{IsNotGot}
use Rattle.reverse_console.specs.StateSources.{Source, ComesFrom, IsSeen, IsLastSeen, IsFirstSeen, HasPc, Changes, Writes, IsAnswerSeen, IsMarkDamaged}
use Rattle.reverse_console.proofs.MarkStates.{SourceStands, comes_from_run}

-- a state that comes from a mark leads to those after it
pub comes_on : (from : Source) (i m n : ℕ) (s : MachineState) → m ≤ n → ComesFrom from i m s → ComesFrom from i n (state_number s from.journal (n - m))
comes_on from i m n s le comes =
    let k = marked from.plan i in
    let below = comes.below in
    let whole : (m - k) + (n - m) ≡ n - k = omega (arith, below, le) in
    record {
      known = comes.known;
      below = omega (arith, below, le);
      bytes = comes.bytes;
      fetched = comes.fetched;
      state = comes.state;
      decoded = comes.decoded;
      there = ap (λ x. state_number x from.journal (n - m)) comes.there ∙ sym (state_number-add comes.state from.journal (m - k) (n - m)) ∙ ap (state_number comes.state from.journal) whole;
    }

-- a state is gone to from a mark
pub went : (from : Source) (i j n m : ℕ) (s t : MachineState) → i ≡ j → m ≡ marked from.plan i → m ≤ n → ComesFrom from i (marked from.plan i) s → t ≡ state_number s from.journal (n - m) → ComesFrom from j n t
went from i j n m s t same is le comes there =
    let k = marked from.plan i in
    let on = comes_on from i k n s (omega (arith, is, le)) comes in
    let here : state_number s from.journal (n - k) ≡ t = ap (λ x. state_number s from.journal (n - x)) (sym is) ∙ sym there in
    subst (λ (x : ℕ). ComesFrom from x n t) same (subst (ComesFrom from i n) here on)

-- what comes from a source that is as it was
module _ (plan : MarkPlan) (journal : List (List ℕ)) (store : List ShelfState) (told told' : ℕ → Option Images) (machine machine' : MachineState)
    (same : (k : ℕ) → told' k ≡ told k) (pages : SamePages machine' machine) where
  abbrev old : Source
  old = record { plan = plan; journal = journal; levels = record { store = store; told = told }; machine = machine }

  abbrev new : Source
  new = record { plan = plan; journal = journal; levels = record { store = store; told = told' }; machine = machine' }

  pub comes_back : (i n : ℕ) (s : MachineState) → ComesFrom new i n s → ComesFrom old i n s
  comes_back i n s comes =
      let f = comes.fetched in
      let P : Option Images → Type 0 = λ o. IsGot f.0 o comes.bytes in
      record {
        known = comes.known;
        below = comes.below;
        bytes = comes.bytes;
        fetched = (f.0, f.1, subst P (same (mark_level plan i)) f.2, f.3, f.4);
        state = comes.state;
        decoded = (comes.decoded.0, comes.decoded.1, comes.decoded.2 ∙ pages);
        there = comes.there;
      }

  wrong_back : (put got bytes : List ℕ) → (got ≢ put) ⊎ IsNoImage machine' bytes → (got ≢ put) ⊎ IsNoImage machine bytes
  wrong_back put got bytes (inl ne) = inl ne
  wrong_back put got bytes (inr none) = inr (λ s is here. none s is (here ∙ sym pages))

  pub damage_back : (mark k : ℕ) (put got : List ℕ) → IsMarkDamaged new mark k put got → IsMarkDamaged old mark k put got
  damage_back mark k put got d =
      let P : Option Images → Type 0 = λ o. IsGot d.kept o d.bytes in
      record {
        known = d.known;
        level = d.level;
        kept = d.kept;
        held = d.held;
        bytes = d.bytes;
        told = subst P (same k) d.told;
        put_digest = d.put_digest;
        got_digest = d.got_digest;
        wrong = wrong_back put got d.bytes d.wrong;
      }

  pub not_got_back : (mark : ℕ) (fault : RunFault) → IsNotGot new mark fault → IsNotGot old mark fault
  not_got_back mark (Keeper k) h = h
  not_got_back mark (Damaged k put got) h = damage_back mark k put got h
  not_got_back mark Visitor h = h
  not_got_back mark Memory h = h
  not_got_back mark Ended h = h

  seen_back : (P : MachineState → Type 0) (n : ℕ) → IsSeen new P n → IsSeen old P n
  seen_back P n (i, (s, h)) = (i, (s, (comes_back i n s h.0, h.1)))

  last_back : (P : MachineState → Type 0) (bound : ℕ) (answer : Option ℕ) → IsLastSeen new P bound answer → IsLastSeen old P bound answer
  last_back P bound (Some m) h = (seen_back P m h.0, h.1, λ n above below. seen_back (λ s. P s → ⊥) n (h.2 n above below))
  last_back P bound None h = λ n below. seen_back (λ s. P s → ⊥) n (h n below)

  first_back : (P : MachineState → Type 0) (bound last : ℕ) (answer : Option ℕ) → IsFirstSeen new P bound last answer → IsFirstSeen old P bound last answer
  first_back P bound last (Some m) h = (seen_back P m h.0, h.1, h.2, λ n above below. seen_back (λ s. P s → ⊥) n (h.3 n above below))
  first_back P bound last None h = λ n above below. seen_back (λ s. P s → ⊥) n (h n above below)

  pub answer_back : (place : ℕ) (order : Order) (answer : Option ℕ) → IsAnswerSeen new place order answer → IsAnswerSeen old place order answer
  answer_back place (Back k) answer h = h
  answer_back place (Step k) answer h = h
  answer_back place (Goto k) answer h = h
  answer_back place (BackTo address) answer h = last_back (HasPc address) place answer h
  answer_back place (RunTo address) answer h = first_back (HasPc address) place plan.count answer h
  answer_back place (BackChange word) answer h = last_back (Changes journal word) place answer h
  answer_back place (BackWrite word) answer h = last_back (Writes journal word) place answer h

-- ---- the answers over a run, by those that were seen

module _ (first : MachineState) (from : Source) (stands : SourceStands first from) (P : MachineState → Type 0) (Holds : ℕ → Type 0)
    (there : (n : ℕ) → P (state_number first from.journal n) → Holds n) (back : (n : ℕ) → Holds n → P (state_number first from.journal n)) where
  seen_holds : (n : ℕ) → IsSeen from P n → Holds n
  seen_holds n seen = there n (subst P (comes_from_run first from seen.0 n seen.1.0 stands seen.1.1.0) seen.1.1.1)

  seen_fails : (n : ℕ) → IsSeen from (λ s. P s → ⊥) n → Holds n → ⊥
  seen_fails n seen holds =
      let Q : MachineState → Type 0 = λ s. P s → ⊥ in
      subst Q (comes_from_run first from seen.0 n seen.1.0 stands seen.1.1.0) seen.1.1.1 (back n holds)

  pub last_of_seen : (bound : ℕ) (answer : Option ℕ) → IsLastSeen from P bound answer → IsLast Holds bound answer
  last_of_seen bound (Some m) h = (seen_holds m h.0, h.1, λ n above below. seen_fails n (h.2 n above below))
  last_of_seen bound None h = λ n below. seen_fails n (h n below)

  pub first_of_seen : (bound last : ℕ) (answer : Option ℕ) → IsFirstSeen from P bound last answer → IsFirst Holds bound last answer
  first_of_seen bound last (Some m) h = (seen_holds m h.0, h.1, h.2, λ n above below. seen_fails n (h.3 n above below))
  first_of_seen bound last None h = λ n above below. seen_fails n (h n above below)

-- a step from a state of a run is the step of the run
pub changes_there : (first : MachineState) (journal : List (List ℕ)) (word n : ℕ) → Changes journal word (state_number first journal n) → ChangesWord first journal word n
changes_there first journal word n h =
    let after : state_number (state_number first journal n) journal 1 ≡ state_number first journal (n + 1) = sym (state_number-add first journal n 1) in
    subst (λ (s : MachineState). (k : ℕ) × ((k < 4) × Differ (byte_at (state_number first journal n).memory (word + k)) (byte_at s.memory (word + k)))) after h

pub changes_back : (first : MachineState) (journal : List (List ℕ)) (word n : ℕ) → ChangesWord first journal word n → Changes journal word (state_number first journal n)
changes_back first journal word n h =
    let after : state_number (state_number first journal n) journal 1 ≡ state_number first journal (n + 1) = sym (state_number-add first journal n 1) in
    subst (λ (s : MachineState). (k : ℕ) × ((k < 4) × Differ (byte_at (state_number first journal n).memory (word + k)) (byte_at s.memory (word + k)))) (sym after) h

pub answer_of_seen : (first : MachineState) (from : Source) (place : ℕ) (order : Order) (answer : Option ℕ) → SourceStands first from → IsAnswerSeen from place order answer →
    IsAnswer first from.journal from.plan.count place order answer
answer_of_seen first from place (Back k) answer stands h = h
answer_of_seen first from place (Step k) answer stands h = h
answer_of_seen first from place (Goto k) answer stands h = h
answer_of_seen first from place (BackTo address) answer stands h = last_of_seen first from stands (HasPc address) (IsAt first from.journal address) (λ n p. p) (λ n p. p) place answer h
answer_of_seen first from place (RunTo address) answer stands h = first_of_seen first from stands (HasPc address) (IsAt first from.journal address) (λ n p. p) (λ n p. p) place from.plan.count answer h
answer_of_seen first from place (BackChange word) answer stands h =
    last_of_seen first from stands (Changes from.journal word) (ChangesWord first from.journal word) (changes_there first from.journal word) (changes_back first from.journal word) place answer h
answer_of_seen first from place (BackWrite word) answer stands h =
    last_of_seen first from stands (Writes from.journal word) (WritesWord first from.journal word) (λ n p. p) (λ n p. p) place answer h

-- a new place is one of the run
pub answer_within : (from : Source) (place : ℕ) (order : Order) (answer : Option ℕ) (n : ℕ) → IsOrder from.plan.count order → place ≤ from.plan.count → IsAnswerSeen from place order answer → answer ≡ Some n → n ≤ from.plan.count
answer_within from place (Back k) answer n is within h e = let same : place - k ≡ n = same_Some _ _ (sym h ∙ e) in omega (arith, same, within)
answer_within from place (Step k) answer n is within h e = let same : min (place + k) from.plan.count ≡ n = same_Some _ _ (sym h ∙ e) in omega (arith, same, within)
answer_within from place (Goto k) answer n is within h e = let same : k ≡ n = same_Some _ _ (sym h ∙ e) in omega (arith, same, is)
answer_within from place (BackTo address) answer n is within h e =
    let P : Option ℕ → Type 0 = IsLastSeen from (HasPc address) place in let at = subst P e h in let lt : n < place = at.1 in omega (arith, within, lt)
answer_within from place (RunTo address) answer n is within h e =
    let P : Option ℕ → Type 0 = IsFirstSeen from (HasPc address) place from.plan.count in (subst P e h).2
answer_within from place (BackChange word) answer n is within h e =
    let P : Option ℕ → Type 0 = IsLastSeen from (Changes from.journal word) place in let at = subst P e h in let lt : n < place = at.1 in omega (arith, within, lt)
answer_within from place (BackWrite word) answer n is within h e =
    let P : Option ℕ → Type 0 = IsLastSeen from (Writes from.journal word) place in let at = subst P e h in let lt : n < place = at.1 in omega (arith, within, lt)

-- ---- stretches

-- none of the states from one on and below a bound does it
abbrev pub NoneSeen : Source → (MachineState → Type 0) → ℕ → ℕ → Type 0
NoneSeen from P low bound = (n : ℕ) → low ≤ n → n < bound → IsSeen from (λ s. P s → ⊥) n

-- a stretch from a mark's state on, in which none does it
pub none_on : (from : Source) (sought : Sought) (i end bound : ℕ) (work : MachineState) → ComesFrom from i (marked from.plan i) work →
    IsLast (MeetsFrom sought from.journal work (marked from.plan i)) end None → NoneSeen from (Meets sought from.journal) end bound → NoneSeen from (Meets sought from.journal) (marked from.plan i) bound
none_on from sought i end bound work comes none rest n low below = elim (cases_lt n end) [
  | inl lt ↦
      let m = marked from.plan i in
      (i, (state_number work from.journal (n - m), (comes_on from i m n work low comes, λ meets. none n lt (low, meets))))
  | inr ge ↦ rest n ge below
]

-- a stretch in which one does it
pub last_on : (from : Source) (sought : Sought) (i end bound m : ℕ) (work : MachineState) → ComesFrom from i (marked from.plan i) work → end ≤ bound →
    IsLast (MeetsFrom sought from.journal work (marked from.plan i)) end (Some m) → NoneSeen from (Meets sought from.journal) end bound → IsLastSeen from (Meets sought from.journal) bound (Some m)
last_on from sought i end bound m work comes le last rest =
    let k = marked from.plan i in
    let low = last.0.0 in
    let below = last.1 in (
      (i, (state_number work from.journal (m - k), (comes_on from i k m work low comes, last.0.1))),
      omega (arith, below, le),
      λ n above under. elim (cases_lt n end) [
        | inl lt ↦
            (let from_low : k ≤ n = omega (arith, above, low) in
            (i, (state_number work from.journal (n - k), (comes_on from i k n work from_low comes, λ meets. last.2 n above lt (from_low, meets)))))
        | inr ge ↦ rest n ge under
      ],
    )

pub none_below : (from : Source) (P : MachineState → Type 0) (bound : ℕ) → NoneSeen from P 0 bound → IsLastSeen from P bound None
none_below from P bound none n below = none n (omega arith) below

-- a stretch forward from a state that comes from a mark
pub first_on : (from : Source) (address i place last : ℕ) (work : MachineState) (answer : Option ℕ) → ComesFrom from i place work →
    IsFirst (λ n. HasPc address (state_number work from.journal (n - place))) place last answer → IsFirstSeen from (HasPc address) place last answer
first_on from address i place last work (Some m) comes h =
    let above = h.1 in (
      (i, (state_number work from.journal (m - place), (comes_on from i place m work (omega (arith, above)) comes, h.0))),
      h.1,
      h.2,
      λ n over under. (i, (state_number work from.journal (n - place), (comes_on from i place n work (omega (arith, over)) comes, h.3 n over under))),
    )
first_on from address i place last work None comes h =
    λ n over under. (i, (state_number work from.journal (n - place), (comes_on from i place n work (omega (arith, over)) comes, h n over under)))

-- ---- calls

-- one mark was got
pub got_one : (p : MarkPlan) (i : ℕ) (a b : Calls) → Called (one_get (mark_level p i)) a b → Called (gets_of p (i ∷ [])) a b
got_one p i a b called =
    called_same (one_get (mark_level p i)) (gets_of p (i ∷ [])) a b called (λ k. refl) (λ k. let f : ℕ → ℕ = λ j. cond (mark_level p j == k) 1 0 in omega (arith, sum_by-cons f i [])) (λ k. refl)

pub got_none : (p : MarkPlan) (a : Calls) → Called (gets_of p []) a a
got_none p a = record { put_calls = λ k. omega arith; get_calls = λ k. omega arith; free_calls = λ k. omega arith }
