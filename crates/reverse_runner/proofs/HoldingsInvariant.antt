-- The holdings of a session are laid out, stand and are alone after every action where they were before it.
use Rattle.reverse_runner.proofs.Common.{◌≡◌, ℕ, ◌*◌, ◌∙◌, refl, ap, sym, subst, arith, List, get_or, Some, length, same_Some, none-some, Action, Forward, Copy, Move, Reverse, EndForward, EndReverse, Work, Level, Store, Nothing, Tape, Configuration, held_on, Goes, Slots, Count, IsSound, page_numbers, IsRecorded, state_number_keeps_pages, number_is_state, MachineState, IsMachineState, image_tells, image, Holdings, IsDecoded, Acts, TapeState, taken_in, IsLaidOut, HoldingsStandAt, AreAlone, unit_states}
use Rattle.reverse_runner.proofs.LevelFacts.{StoredAreGood, FetchedAreGood, levels_follow}
use Rattle.reverse_runner.proofs.LevelsInvariant.{LaidOut, Stands, IsImage, IsAlone, laid_gains, laid_loses, stands_gains, stands_loses, alone_gains, alone_loses, fetched_is, fetched_within}
use Rattle.reverse_runner.proofs.StatesInvariant.{TapeIs, advanced, stayed, put_on}

abbrev AnyBytes : ℕ → List ℕ → Type 0
AnyBytes n bytes = Unit {0}

-- a number that is fetched is one of the run
any_fetched : (steps : ℕ) (slots : List Slots) (c : Configuration) (s : Holdings) → IsLaidOut steps slots c s.levels.store → FetchedAreGood AnyBytes steps c s
any_fetched steps slots c s laid n k got within there fetched =
    (tt, fetched_within steps (get_or slots k (Count 0)) (held_on c k) s.levels k n got (laid.each k within) fetched)

-- levels that are laid out are so after an action
pub laid_out_after : (journal : List (List ℕ)) (unit steps : ℕ) (slots : List Slots) (c : Configuration) (a : Action) (d : Configuration) (old new : Holdings) →
    IsSound steps slots c → Goes steps slots c a d → Acts unit journal a old new → IsLaidOut steps slots c old.levels.store → IsLaidOut steps slots d new.levels.store
laid_out_after journal unit steps slots c a d old new sound g acts laid = record {
  levels = acts.count ∙ laid.levels;
  each = levels_follow (LaidOut steps slots) AnyBytes journal unit steps slots c a d old new (laid_gains AnyBytes steps slots) (laid_loses steps slots) sound
      laid.levels g acts (λ _ _ _ _. tt) (any_fetched steps slots c old laid) laid.each;
}

-- levels that are alone are so after an action
pub alone_after : (journal : List (List ℕ)) (unit steps : ℕ) (slots : List Slots) (c : Configuration) (a : Action) (d : Configuration) (old new : Holdings) →
    IsSound steps slots c → Goes steps slots c a d → Acts unit journal a old new → IsLaidOut steps slots c old.levels.store → AreAlone old.levels → AreAlone new.levels
alone_after journal unit steps slots c a d old new sound g acts laid alone k within =
    (levels_follow (IsAlone steps slots) AnyBytes journal unit steps slots c a d old new (alone_gains AnyBytes steps slots) (alone_loses steps slots) sound
    laid.levels g acts (λ _ _ _ _. tt) (any_fetched steps slots c old laid) (λ j lt. (laid.each j lt, alone j lt)) k within).1

-- bytes that are stored are images of the run
pub stored_are : (first : MachineState) (journal : List (List ℕ)) (unit steps : ℕ) (slots : List Slots) (c : Configuration) (a : Action) (d : Configuration) (s : Holdings) → Goes steps slots c a d →
    s.work ≡ unit_states first journal unit c.work → StoredAreGood (IsImage (unit_states first journal unit)) a s
stored_are first journal unit steps slots c a d s g here from to k e =
    let P : Action → Type 0 = λ x. Goes steps slots c x d in
    ap image (here ∙ ap (unit_states first journal unit) (subst P e g).1.here)

-- bytes that are fetched are images of the run
fetched_are : (first : MachineState) (journal : List (List ℕ)) (unit steps : ℕ) (slots : List Slots) (c : Configuration) (s : Holdings) → IsLaidOut steps slots c s.levels.store →
    HoldingsStandAt first journal unit c s → FetchedAreGood (IsImage (unit_states first journal unit)) steps c s
fetched_are first journal unit steps slots c s laid stands n k got within there fetched = (
  fetched_is (unit_states first journal unit) (held_on c k) s.levels k n got (stands.levels k within) there fetched,
  fetched_within steps (get_or slots k (Count 0)) (held_on c k) s.levels k n got (laid.each k within) fetched,
)

-- a state whose image is that of the run's is the run's
loaded : (first : MachineState) (journal : List (List ℕ)) (unit : ℕ) (c d e : Configuration) (n : ℕ) (work work' : MachineState) (got : List ℕ) → IsMachineState first → IsRecorded journal →
    work ≡ unit_states first journal unit c.work → image work' ≡ image (unit_states first journal unit n) → IsDecoded work work' got → d ≡ e → e.work ≡ n → work' ≡ unit_states first journal unit d.work
loaded first journal unit c d e n work work' got is recorded here same decoded at where_ =
    let pages = decoded.2 ∙ ap (λ (x : MachineState). page_numbers x.memory) here ∙ state_number_keeps_pages first journal (unit * c.work)
    ∙ sym (state_number_keeps_pages first journal (unit * n)) in
    image_tells work' (unit_states first journal unit n) decoded.0 (number_is_state first journal (unit * n) is recorded) pages same
    ∙ ap (unit_states first journal unit) (sym where_ ∙ sym (ap (λ (x : Configuration). x.work) at))

-- what holds of the bytes that are fetched holds of the image of a state that an action takes in
pub taken_is : (Good : ℕ → List ℕ → Type 0) (journal : List (List ℕ)) (unit steps : ℕ) (slots : List Slots) (c : Configuration) (a : Action) (d : Configuration) (old new : Holdings) (n : ℕ) →
    Goes steps slots c a d → Acts unit journal a old new → length old.levels.store ≡ length slots → FetchedAreGood Good steps c old → taken_in a ≡ Some n → Good n (image new.work)
taken_is Good journal unit steps slots c (Copy m k Work) d old new n g acts levels fetched takes =
    let got = acts.does.0 in
    subst (λ i. Good i (image new.work)) (same_Some m n takes) (subst (Good m) (sym got.1.1.1) (fetched m k got.0 (omega (arith, g.1.level, levels)) g.1.there got.1.0).0)
taken_is Good journal unit steps slots c (Move m k Work) d old new n g acts levels fetched takes =
    let got = acts.does.0 in
    subst (λ i. Good i (image new.work)) (same_Some m n takes) (subst (Good m) (sym got.1.1.1) (fetched m k got.0 (omega (arith, g.1.level, levels)) g.1.there got.1.0).0)
taken_is Good journal unit steps slots c (Copy m k (Level j)) d old new n g acts levels fetched takes = absurd (none-some n takes)
taken_is Good journal unit steps slots c (Move m k (Level j)) d old new n g acts levels fetched takes = absurd (none-some n takes)
taken_is Good journal unit steps slots c (Forward from to keep) d old new n g acts levels fetched takes = absurd (none-some n takes)
taken_is Good journal unit steps slots c (Reverse from to) d old new n g acts levels fetched takes = absurd (none-some n takes)
taken_is Good journal unit steps slots c EndForward d old new n g acts levels fetched takes = absurd (none-some n takes)
taken_is Good journal unit steps slots c EndReverse d old new n g acts levels fetched takes = absurd (none-some n takes)

-- the state in work is that of the configuration, where the image of a state that was taken in is that of the run's
pub work_after : (first : MachineState) (journal : List (List ℕ)) (unit steps : ℕ) (slots : List Slots) (c : Configuration) (a : Action) (d : Configuration) (old new : Holdings) →
    IsMachineState first → IsRecorded journal → Goes steps slots c a d → Acts unit journal a old new → old.work ≡ unit_states first journal unit c.work →
    ((n : ℕ) → taken_in a ≡ Some n → image new.work ≡ image (unit_states first journal unit n)) → new.work ≡ unit_states first journal unit d.work
work_after first journal unit steps slots c (Forward from to Nothing) d old new is recorded g acts here same = advanced first journal unit c d _ from to old.work new.work here g.1 g.2 refl acts.does.0
work_after first journal unit steps slots c (Forward from to (Store k)) d old new is recorded g acts here same = advanced first journal unit c d _ from to old.work new.work here g.1 g.3 refl acts.does.0
work_after first journal unit steps slots c (Forward from to Tape) d old new is recorded g acts here same = advanced first journal unit c d _ from to old.work new.work here g.1 g.5 refl acts.does.0
work_after first journal unit steps slots c (Reverse from to) d old new is recorded g acts here same = stayed first journal unit c d _ old.work new.work here g.5 refl acts.does.0
work_after first journal unit steps slots c (Copy n k Work) d old new is recorded g acts here same =
    let got = acts.does.0 in
    loaded first journal unit c d _ n old.work new.work got.0 is recorded here (same n refl) got.1.1 g.2 refl
work_after first journal unit steps slots c (Copy n k (Level j)) d old new is recorded g acts here same = stayed first journal unit c d _ old.work new.work here g.4 refl acts.does.0
work_after first journal unit steps slots c (Move n k Work) d old new is recorded g acts here same =
    let got = acts.does.0 in
    loaded first journal unit c d _ n old.work new.work got.0 is recorded here (same n refl) got.1.1 g.2 refl
work_after first journal unit steps slots c (Move n k (Level j)) d old new is recorded g acts here same = stayed first journal unit c d _ old.work new.work here g.4 refl acts.does.0
work_after first journal unit steps slots c EndForward d old new is recorded g acts here same = stayed first journal unit c d _ old.work new.work here g.3 refl acts.does.0
work_after first journal unit steps slots c EndReverse d old new is recorded g acts here same = stayed first journal unit c d _ old.work new.work here g.3 refl acts.does.0

-- what is on the tape, along equations
tape_along : (first : MachineState) (journal : List (List ℕ)) (unit : ℕ) (d e : Configuration) (t u : TapeState) → d ≡ e → t ≡ u → TapeIs first journal unit e.tape u → TapeIs first journal unit d.tape t
tape_along first journal unit d e t u is was good =
    let P : Configuration → Type 0 = λ x. TapeIs first journal unit x.tape t in
    let Q : TapeState → Type 0 = λ x. TapeIs first journal unit e.tape x in
    subst P (sym is) (subst Q (sym was) good)

-- the state on the tape is that of the configuration
pub tape_after : (first : MachineState) (journal : List (List ℕ)) (unit steps : ℕ) (slots : List Slots) (c : Configuration) (a : Action) (d : Configuration) (old new : Holdings) →
    Goes steps slots c a d → Acts unit journal a old new → old.work ≡ unit_states first journal unit c.work → TapeIs first journal unit c.tape old.tape → TapeIs first journal unit d.tape new.tape
tape_after first journal unit steps slots c (Forward from to Nothing) d old new g acts here tape = tape_along first journal unit d _ new.tape _ g.2 acts.does.1 tape
tape_after first journal unit steps slots c (Forward from to (Store k)) d old new g acts here tape = tape_along first journal unit d _ new.tape _ g.3 acts.does.1 tape
tape_after first journal unit steps slots c (Forward from to Tape) d old new g acts here tape =
    tape_along first journal unit d _ new.tape new.tape g.5 refl (put_on first journal unit from to old.work new.work new.tape (here ∙ ap (unit_states first journal unit) g.1.here) g.2 acts.does.0 acts.does.1)
tape_after first journal unit steps slots c (Reverse from to) d old new g acts here tape = tape_along first journal unit d _ new.tape new.tape g.5 refl tt
tape_after first journal unit steps slots c (Copy n k Work) d old new g acts here tape = tape_along first journal unit d _ new.tape _ g.2 acts.does.1 tape
tape_after first journal unit steps slots c (Copy n k (Level j)) d old new g acts here tape = tape_along first journal unit d _ new.tape _ g.4 acts.does.1 tape
tape_after first journal unit steps slots c (Move n k Work) d old new g acts here tape = tape_along first journal unit d _ new.tape _ g.2 acts.does.1 tape
tape_after first journal unit steps slots c (Move n k (Level j)) d old new g acts here tape = tape_along first journal unit d _ new.tape _ g.4 acts.does.1 tape
tape_after first journal unit steps slots c EndForward d old new g acts here tape = tape_along first journal unit d _ new.tape _ g.3 acts.does.1 tape
tape_after first journal unit steps slots c EndReverse d old new g acts here tape = tape_along first journal unit d _ new.tape _ g.3 acts.does.1 tape

-- holdings that stand do so after an action
pub stand_after : (first : MachineState) (journal : List (List ℕ)) (unit steps : ℕ) (slots : List Slots) (c : Configuration) (a : Action) (d : Configuration) (old new : Holdings) →
    IsMachineState first → IsRecorded journal → IsSound steps slots c → Goes steps slots c a d → Acts unit journal a old new → IsLaidOut steps slots c old.levels.store →
    HoldingsStandAt first journal unit c old → HoldingsStandAt first journal unit d new
stand_after first journal unit steps slots c a d old new is recorded sound g acts laid stands =
    let fetched = fetched_are first journal unit steps slots c old laid stands in
    record {
      work = work_after first journal unit steps slots c a d old new is recorded g acts stands.work
          (λ n takes. taken_is (IsImage (unit_states first journal unit)) journal unit steps slots c a d old new n g acts laid.levels fetched takes);
      tape = tape_after first journal unit steps slots c a d old new g acts stands.work stands.tape;
      levels = λ k within.
          (levels_follow (Stands (unit_states first journal unit) steps slots) (IsImage (unit_states first journal unit)) journal unit steps slots c a d old new
          (stands_gains (unit_states first journal unit) steps slots) (stands_loses (unit_states first journal unit) steps slots) sound laid.levels g acts
          (stored_are first journal unit steps slots c a d old g stands.work) fetched (λ j lt. (laid.each j lt, stands.levels j lt)) k within).1;
    }
