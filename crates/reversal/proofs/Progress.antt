-- On the way through a valid list: what is known of a session, of its sink and of its keepers after each action.
use Rattle.std.proofs.Common.{◌≡◌, ℕ, zero, suc, ◌+◌, ◌*◌, true, [], ◌∷◌, ◌≤◌, IsSome, List, length, map, take, Option, Some, MatchOption, Contains, refl, sym, ◌∙◌, ap, subst, arith, slice_get, inl, inr, false, ◌≢◌, Result, Ok, Err}
use Rattle.std.specs.FinSet as set
use Rattle.std.proofs.lemmas.Bool.{false≢true}
use Rattle.std.proofs.lemmas.Option.{none-some, same_Some}
use Rattle.std.proofs.lemmas.List.{take-map, take_all, length-map}
use Rattle.plan_types.specs.declared.action.Dest.TheVariants.{Work, Level}
use Rattle.plan_types.specs.declared.action.Action.{Action}
use Rattle.plan_types.specs.declared.action.Action.TheVariants.{Forward, Reverse, Copy, Move, EndForward, EndReverse}
use Rattle.image_store.specs.StoredImages.{IsToldAnd}
use Rattle.reverse_runner.specs.ActionEffects.{Holdings, Acts}
use Rattle.reverse_queries.specs.ListExecution.{IsOut}
use Rattle.reverse_runner.specs.KeeperContents.{HoldsJust}
use Rattle.reverse_runner.specs.RefusalResidue.{Spares, NotReached, MayLeave, HoldsBesides, HoldsAllBut}
use Rattle.reverse_runner.specs.HoldingsOfRun.{AreAlone}
use Rattle.reverse_runner.proofs.ExactContents.{holds_just}
use Rattle.reverse_runner.proofs.ResidueContents.{holds_put_to, holds_released}
use Rattle.level_book.specs.declared.book.Slots.{Slots}
use Rattle.level_book.specs.Configuration.{Configuration, start, held_on}
use Rattle.level_book.specs.Moves.{Goes}
use Rattle.level_book.specs.Rules.{levels_named}
use Rattle.level_book.specs.Valid.{Leads, Valid}
use Rattle.level_book.specs.CostFold.{steps_of}
use Rattle.keepers.specs.Claims.{Images, Tells}
use Rattle.schedule_rules.proofs.VerdictReasons.{take_one_more, kept_on_the_way}
use Rattle.schedule_rules.proofs.Reachability.{sound_on, sound_start, leads_unique}
use Rattle.rv_machine.specs.MachineState.{MachineState}
use Rattle.rv_machine.specs.States.{state_number}
use Rattle.reverse_runner.specs.VisitorCalls.{states_out, GetsAll, calls_keepers}
use Rattle.reverse_runner.specs.Units.{unit_states}
use Rattle.reverse_runner.specs.KeepersSeen.{Calls, Called, CalledAtMost, calls_of}
use Rattle.reverse_runner.specs.StateOrder.{handed_by, handed}
use Rattle.reverse_runner.specs.SessionState.{SessionState, levels_of, holdings_of}
use Rattle.reverse_runner.specs.SessionOfRun.{StandsAt, IsDamage, pair_read, begun, Performs}
use Rattle.reverse_runner.proofs.StatesInvariant.{TapeIs}
use Rattle.requests.proofs.Lists.{get_map}
use Rattle.schedule_rules.proofs.RuleLaws.{rules_moves}
use Rattle.reverse_runner.specs.declared.fault.RunFault.TheVariants.{Keeper, Damaged, Memory, Visitor, Ended}
use Rattle.keepers.specs.Counts.{Rose, raised}
use Rattle.reverse_runner.specs.declared.fault.RunFault.{RunFault}
use Rattle.endings.specs.Outcomes.{done, stopped}
use Rattle.reversal.specs.Job.{Run, perform}
use Rattle.reversal.specs.Output.{line_of, Adds}
use Rattle.reversal.specs.Moment.{Moment, NothingFails, SinkFails, KeeperFails, AllTell, AllEmpty}
use Rattle.reversal.specs.Deeds.{Deed, States, deed_of, bytes_of, Did}
use Rattle.reversal.specs.RunTrace.{AreOfRun, held_at_start, GoesOver, ComesToDamage, LeadTo, SameLevels, AllLevels, SparesNext, UnreachedNext, Went}
use Rattle.reversal.specs.Course.{AddsAndPart, DidUntil, BreaksOff, EndsShowing}
use Rattle.reversal.specs.LinesWritten.{lines_for, Writes, BreaksLines}
use Rattle.reversal.specs.CommandRun.{performing}
use Rattle.reversal.specs.Decision.{course_of}
use Rattle.reversal.specs.JobModel.{Works, fault_ending}
use Rattle.reversal.proofs.AllowedActions.{led_on}
use Rattle.reversal.proofs.DeedSequences.{did_none, did_one_more, is_until, broke_off, failed_at, damaged_at, halted_at}
use Rattle.reversal.proofs.LinesWritten.{breaks_longer}
use Rattle.reversal.proofs.TraceSteps.{through_none, has_length, through_more, through_still}
use Rattle.reversal.proofs.ListDeeds.{lines_first, IsAt, did_action, broken_calls_none, bytes_performed, steps_performed, none_named, names_levels, calls_named, calls_one, gets_pair}
use Rattle.reversal.proofs.ShownStates.{shown_by, showing, Shows, it_shows, IsAbove, above_after, same_before, shows_of_run, handed_more, above_at_start}

-- the deeds before an action, with the states that it shows
before_it : (shown : States) (unit steps : ℕ) (slots : List Slots) (list : List Action) (i : ℕ) (c : Configuration) (a : Action) (d : Configuration) (work : MachineState) (tape : List MachineState) (x y : Moment) →
    Goes steps slots c a d → IsAbove unit steps (handed unit steps (take i list)) c → Did (take i (map (deed_of shown unit steps) list)) x y →
    Did (take i (map (deed_of (showing shown unit steps a work tape) unit steps) list)) x y
before_it shown unit steps slots list i c a d work tape x y g above did =
    let P : List Deed → Type 0 = λ ds. Did ds x y in
    let same = same_before shown unit steps slots (take i list) c a d work tape g above in
    subst P (take-map (deed_of shown unit steps) i list ∙ sym same ∙ sym (take-map (deed_of (showing shown unit steps a work tape) unit steps) i list)) did

-- the deeds up to an action that was performed
did_so_far : {X V : Type 0} (told : X → Option (List ℕ)) (writes : X → ℕ) (got : V → ℕ → MachineState → List (List ℕ) → V → Type 0) (shown : States) (journal : List (List ℕ)) (unit steps : ℕ) (slots : List Slots) (list : List Action) (i : ℕ) (c : Configuration) (a : Action) (d : Configuration) (work : MachineState)
    (tape : List MachineState) (u v : V) (x y : X) (old mid new : Moment) → IsAt told writes x mid → IsAt told writes y new → slice_get list i ≡ Some a → Goes steps slots c a d → IsAbove unit steps (handed unit steps (take i list)) c →
    Did (take i (map (deed_of shown unit steps) list)) old mid → GetsAll got journal (handed_by unit steps a) (states_out a work tape) u v → Writes told writes (lines_for (handed_by unit steps a) (states_out a work tape)) x y → new.steps ≡ mid.steps + unit * steps_of a →
    Called (calls_of a) mid.calls new.calls → Did (take (i + 1) (map (deed_of (showing shown unit steps a work tape) unit steps) list)) old new
did_so_far told writes got shown journal unit steps slots list i c a d work tape u v x y old mid new before after at g above did gets wrote counted called =
    let now = showing shown unit steps a work tape in
    did_one_more (map (deed_of now unit steps) list) i (deed_of now unit steps a) old mid new (get_map (deed_of now unit steps) list i a at)
    (before_it shown unit steps slots list i c a d work tape old mid g above did)
    (did_action told writes got now journal unit steps a work tape u v x y mid new before after (it_shows shown unit steps a work tape) gets wrote counted called)

-- the deeds before an action whose write failed
did_before : {X : Type 0} (told : X → Option (List ℕ)) (writes : X → ℕ) (shown : States) (unit steps : ℕ) (slots : List Slots) (list : List Action) (i : ℕ) (c : Configuration) (a : Action) (d : Configuration) (work : MachineState)
    (tape : List MachineState) (x y : X) (old mid new : Moment) → IsAt told writes x mid → IsAt told writes y new → slice_get list i ≡ Some a → Goes steps slots c a d → IsAbove unit steps (handed unit steps (take i list)) c →
    Did (take i (map (deed_of shown unit steps) list)) old mid → BreaksLines told writes (lines_for (handed_by unit steps a) (states_out a work tape)) x y → new.steps ≡ mid.steps →
    calls_of a ≡ record { puts = λ _. 0; gets = λ _. 0; frees = λ _. 0 } → CalledAtMost (calls_of a) mid.calls new.calls → DidUntil (map (deed_of (showing shown unit steps a work tape) unit steps) list) i old new
did_before told writes shown unit steps slots list i c a d work tape x y old mid new before after at g above did breaks still none called =
    let now = showing shown unit steps a work tape in
    let first = lines_first now (handed_by unit steps a) (states_out a work tape) (it_shows shown unit steps a work tape) in
    let part = subst (λ (ls : List (List ℕ)). BreaksLines told writes ls x y) first.1 (breaks_longer told writes (lines_for (handed_by unit steps a) (states_out a work tape)) first.0 x y breaks) in
    let pieces = map (line_of now) (handed_by unit steps a) in
    let P : Calls → Type 0 = λ m. CalledAtMost m mid.calls new.calls in
    let T : Option (List ℕ) → Option (List ℕ) → Type 0 = λ o n. Tells o n (AddsAndPart (bytes_of (take part.whole pieces)) part.piece) in
    is_until (map (deed_of now unit steps) list) i (deed_of now unit steps a) part.whole part.piece old mid new (get_map (deed_of now unit steps) list i a at) part.next
    (before_it shown unit steps slots list i c a d work tape old mid g above did)
    (subst (λ o. T o new.told) (sym before.tells) (subst (T (told x)) (sym after.tells) part.added))
    (after.counts ∙ part.called ∙ ap (λ n. raised n (part.whole + 1)) (sym before.counts)) still
    (subst P none called)

-- the tape holds the state that is reversed next
next_on_tape : (steps : ℕ) (slots : List Slots) (list : List Action) (c : Configuration) → Leads steps slots (start steps slots) list c → MatchOption c.tape (Unit {0}) (λ t. t + 1 ≡ c.reverse)
next_on_tape steps slots list c leads = (sound_on steps slots (start steps slots) list c (sound_start steps slots) leads).tape_is_next

-- over keepers that tell, the states that an action shows are those of the run
pub shown_so_far : (first : MachineState) (journal : List (List ℕ)) (unit steps : ℕ) (slots : List Slots) (list : List Action) (s : SessionState) (told : ℕ → Option Images) (a : Action) (d : Configuration) (shown : States) (n : ℕ) →
    s.journal ≡ journal → s.unit ≡ unit → Leads steps slots (start steps slots) list s.situation.at → Goes steps slots s.situation.at a d → StandsAt first s told → shown n ≡ state_number first journal n →
    showing shown unit steps a s.work s.tape.states n ≡ state_number first journal n
shown_so_far first journal unit steps slots list s told a d shown n same one leads g stands is =
    let W : List (List ℕ) → ℕ → Type 0 = λ j u. s.work ≡ unit_states first j u s.situation.at.work in
    let T : List (List ℕ) → ℕ → Type 0 = λ j u. TapeIs first j u s.situation.at.tape s.tape in
    shows_of_run first journal unit steps slots s.situation.at a d shown s.work s.tape n g (subst (λ j. W j unit) same (subst (W s.journal) one stands.work)) (subst (λ j. T j unit) same (subst (T s.journal) one stands.tape)) (next_on_tape steps slots list s.situation.at leads) is

-- what was handed out is above what is still to come, with one action more
pub above_so_far : (unit steps : ℕ) (slots : List Slots) (list : List Action) (i : ℕ) (c : Configuration) (a : Action) (d : Configuration) → slice_get list i ≡ Some a → Goes steps slots c a d →
    IsAbove unit steps (handed unit steps (take i list)) c → IsAbove unit steps (handed unit steps (take (i + 1) list)) d
above_so_far unit steps slots list i c a d at g above =
    let P : List ℕ → Type 0 = λ l. IsAbove unit steps l d in
    subst P (sym (handed_more unit steps (take i list) a) ∙ ap (handed unit steps) (sym (take_one_more list i a at))) (above_after unit steps slots (handed unit steps (take i list)) c a d g above)

-- a level past those of the book isn't named
pub past_is_unnamed : (steps : ℕ) (slots : List Slots) (c : Configuration) (a : Action) (d : Configuration) (k : ℕ) → Goes steps slots c a d → length slots ≤ k → Contains (levels_named a) k → ⊥
past_is_unnamed steps slots c a d k g past named = let within = names_levels steps slots c a d g k named in absurd (omega (arith, past, within))

-- empty keepers tell
pub empty_tell : (levels : ℕ) (images : ℕ → Option Images) → AllEmpty levels images → AllTell levels images
empty_tell levels images empty k within = let P : Option Images → Type 0 = λ o. IsSome o in subst P (sym (empty k within)) refl

pub one_times : (n : ℕ) → 1 * n ≡ n
one_times n = omega arith

-- an action that may be done reads a pair that is held
at_pair : (c : Configuration) (m j n k : ℕ) → pair_read (Copy m j Work) ≡ Some (n, k) → set.contains (held_on c j) m ≡ true → set.contains (held_on c k) n ≡ true
at_pair c m j n k pair there =
    let P : ℕ × ℕ → Type 0 = λ p. set.contains (held_on c p.1) p.0 ≡ true in
    let read : ℕ × ℕ = (m, j) in
    let named : ℕ × ℕ = (n, k) in
    subst P (same_Some read named pair) there

pair_held : (steps : ℕ) (slots : List Slots) (c : Configuration) (a : Action) (d : Configuration) (n k : ℕ) → Goes steps slots c a d → pair_read a ≡ Some (n, k) → set.contains (held_on c k) n ≡ true
pair_held steps slots c (Forward from to keep) d n k g pair = absurd cc
pair_held steps slots c (Reverse from to) d n k g pair = absurd cc
pair_held steps slots c (Copy m j Work) d n k g pair = at_pair c m j n k pair g.1.there
pair_held steps slots c (Copy m j (Level i)) d n k g pair = at_pair c m j n k pair g.1.there
pair_held steps slots c (Move m j Work) d n k g pair = at_pair c m j n k pair g.1.there
pair_held steps slots c (Move m j (Level i)) d n k g pair = at_pair c m j n k pair g.1.there
pair_held steps slots c EndForward d n k g pair = absurd cc
pair_held steps slots c EndReverse d n k g pair = absurd cc

-- an action whose lines break off puts and releases nothing
pub broken_spares : {X : Type 0} (told : X → Option (List ℕ)) (writes : X → ℕ) (unit steps : ℕ) (a : Action) (work : MachineState) (tape : List MachineState) (x y : X) →
    BreaksLines told writes (lines_for (handed_by unit steps a) (states_out a work tape)) x y → (k : ℕ) → Spares a k
broken_spares told writes unit steps (Forward from to keep) work tape x y h k = absurd (none-some h.piece h.next)
broken_spares told writes unit steps (Reverse from to) work tape x y h k = (refl, refl)
broken_spares told writes unit steps (Copy n from dest) work tape x y h k = absurd (none-some h.piece h.next)
broken_spares told writes unit steps (Move n from dest) work tape x y h k = absurd (none-some h.piece h.next)
broken_spares told writes unit steps EndForward work tape x y h k = (refl, refl)
broken_spares told writes unit steps EndReverse work tape x y h k = absurd (none-some h.piece h.next)

-- ---- what the next action hands out

-- what is shown of numbers has the state at each place
shown_at : (shown : States) (numbers : List ℕ) (states : List MachineState) (j n : ℕ) (state : MachineState) → Shows shown numbers states → slice_get numbers j ≡ Some n → slice_get states j ≡ Some state → shown n ≡ state
shown_at shown [] states j n state shows number is = absurd (none-some n number)
shown_at shown (m ∷ numbers) [] j n state shows number is = absurd (none-some state is)
shown_at shown (m ∷ numbers) (s ∷ states) zero n state shows number is = ap shown (sym (same_Some m n number)) ∙ shows.0 ∙ same_Some s state is
shown_at shown (m ∷ numbers) (s ∷ states) (suc j) n state shows number is = shown_at shown numbers states j n state shows.1 number is

pub shown_next : (shown : States) (unit steps : ℕ) (list : List Action) (i : ℕ) (a : Action) (held : Holdings) → slice_get list i ≡ Some a → (b : Action) (n : ℕ) (state : MachineState) →
    slice_get list i ≡ Some b → IsOut unit steps n state b held → showing shown unit steps a held.work held.tape.states n ≡ state
shown_next shown unit steps list i a held at b n state is out =
    let P : Action → Type 0 = λ x. IsOut unit steps n state x held in
    let here = subst P (same_Some b a (sym is ∙ at)) out in
    shown_at (showing shown unit steps a held.work held.tape.states) (handed_by unit steps a) (states_out a held.work held.tape.states) here.place n state (it_shows shown unit steps a held.work held.tape.states) here.number here.state

-- where it hands nothing out, nothing is to be shown
pub none_next : (shown : States) (unit steps : ℕ) (list : List Action) (i : ℕ) (a : Action) (held : Holdings) → slice_get list i ≡ Some a → handed_by unit steps a ≡ [] → (b : Action) (n : ℕ) (state : MachineState) →
    slice_get list i ≡ Some b → IsOut unit steps n state b held → shown n ≡ state
none_next shown unit steps list i a held at none b n state is out =
    let P : Action → Type 0 = λ x. IsOut unit steps n state x held in
    let here = subst P (same_Some b a (sym is ∙ at)) out in
    absurd (none-some n (sym (ap (λ l. slice_get l here.place) none) ∙ here.number))

-- an action that calls keepers hands nothing out
pub calling_hands_none : (unit steps : ℕ) (a : Action) → calls_keepers a ≡ true → handed_by unit steps a ≡ []
calling_hands_none unit steps (Forward from to keep) h = refl
calling_hands_none unit steps (Copy n k to) h = refl
calling_hands_none unit steps (Move n k to) h = refl
calling_hands_none unit steps (Reverse from to) h = absurd (false≢true h)
calling_hands_none unit steps EndForward h = absurd (false≢true h)
calling_hands_none unit steps EndReverse h = refl

pub named_hands_none : (unit steps : ℕ) (a : Action) (k : ℕ) → Contains (levels_named a) k → handed_by unit steps a ≡ []
named_hands_none unit steps (Forward from to keep) k h = refl
named_hands_none unit steps (Copy n j to) k h = refl
named_hands_none unit steps (Move n j to) k h = refl
named_hands_none unit steps (Reverse from to) k h = absurd (none_named k h)
named_hands_none unit steps EndForward k h = absurd (none_named k h)
named_hands_none unit steps EndReverse k h = refl

pub read_hands_none : (unit steps : ℕ) (a : Action) (n k : ℕ) → pair_read a ≡ Some (n, k) → handed_by unit steps a ≡ []
read_hands_none unit steps (Forward from to keep) n k e = refl
read_hands_none unit steps (Copy m j to) n k e = refl
read_hands_none unit steps (Move m j to) n k e = refl
read_hands_none unit steps (Reverse from to) n k e = absurd cc
read_hands_none unit steps EndForward n k e = absurd cc
read_hands_none unit steps EndReverse n k e = refl

-- ---- how far a list went

-- a run as a session stands in it, by its first state and the list
abbrev pub run_of : MachineState → SessionState → List Action → Run
run_of first s list = record { first = first; journal = s.journal; unit = s.unit; steps = s.situation.steps; slots = s.situation.slots; list = list }

-- what the next action may have left, where it was refused, and that it may be done
record LeavesNext (s : SessionState) (mid new : Moment) (a : Action) : Type 0 where
  left : MayLeave a (levels_of s mid.images) new.images
  after : Configuration
  goes : Goes s.situation.steps s.situation.slots s.situation.at a after

-- how far a list went up to where a session stands, whose next action was refused or isn't there
went_so_far : (Same : SameLevels) (first : MachineState) (s : SessionState) (list : List Action) (i : ℕ) (states : States) (old mid new : Moment) → GoesOver (run_of first s list) (take i list) old (holdings_of s mid.images) states →
    ((a : Action) (n : ℕ) (state : MachineState) → slice_get list i ≡ Some a → IsOut s.unit s.situation.steps n state a (holdings_of s mid.images) → states n ≡ state) →
    ((k : ℕ) → Same (run_of first s list) i k → new.images k ≡ mid.images k) → ((a : Action) → slice_get list i ≡ Some a → LeavesNext s mid new a) → LeadTo (run_of first s list) i s.situation.at →
    length s.store ≡ length s.situation.slots → (AllEmpty (length s.situation.slots) old.images → StandsAt first s mid.images × AreAlone (levels_of s mid.images)) → Went Same (run_of first s list) i states old new
went_so_far Same first s list i states old mid new through next still leaves leads count good =
    let held = holdings_of s mid.images in
    let at = s.situation.at in
    let one = λ (c : Configuration) (there : LeadTo (run_of first s list) i c). leads_unique s.situation.steps s.situation.slots (start s.situation.steps s.situation.slots) (take i list) at c leads there in
    record {
      held = held;
      through = through;
      next = next;
      told = still;
      left = λ a is. (leaves a is).left;
      just = λ empty c there k within out.
          (let stands = good empty in
          let all = unit_states first s.journal s.unit in
          let C : Configuration → Type 0 = λ x. IsToldAnd (new.images k) (HoldsJust all (held_on x k)) in
          let T : Option Images → Type 0 = λ o. IsToldAnd o (HoldsJust all (held_on at k)) in
          subst C (one c there) (subst T (sym (still k out)) (holds_just first s.journal s.unit at held stands.0 stands.1 k (omega (arith, within, count)))));
      put_to = λ empty c there k within a is writes.
          (let stands = good empty in
          let C : Configuration → Type 0 = λ x. IsToldAnd (new.images k) (HoldsBesides (unit_states first s.journal s.unit) (held_on x k)) in
          subst C (one c there) (holds_put_to first s.journal s.unit at a held new.images stands.0 stands.1 (leaves a is).left k (omega (arith, within, count)) writes));
      released = λ empty c there k n within a is frees pair.
          (let stands = good empty in
          let leaving = leaves a is in
          let C : Configuration → Type 0 = λ x. IsToldAnd (new.images k) (HoldsAllBut (unit_states first s.journal s.unit) (held_on x k) n) in
          subst C (one c there) (holds_released first s.journal s.unit at a held new.images stands.0 stands.1 leaving.left k n (omega (arith, within, count)) frees pair
          (pair_held s.situation.steps s.situation.slots at a leaving.after n k leaving.goes pair)));
    }

-- What is known on the way. The actions so far lead to where the session stands. Over keepers that tell its states are those of the run,
-- and over those that were empty there are no other images. The actions so far were gone through and their deeds done, with the states
-- that are shown, and nothing failed.
pub record SoFar (run : Run) (i : ℕ) (shown : States) (s : SessionState) (old mid : Moment) : Type 0 where
  pub lasts : s.ended ≡ false
  pub steps : s.situation.steps ≡ run.steps
  pub slots : s.situation.slots ≡ run.slots
  pub journal : s.journal ≡ run.journal
  pub unit : s.unit ≡ run.unit
  pub count : length s.store ≡ length run.slots
  pub leads : LeadTo run i s.situation.at
  pub stands : AllTell (length run.slots) old.images → StandsAt run.first s mid.images
  pub alone : AllEmpty (length run.slots) old.images → AreAlone (levels_of s mid.images)
  pub above : IsAbove run.unit run.steps (handed run.unit run.steps (take i run.list)) s.situation.at
  pub of_run : AreOfRun run shown old
  pub through : GoesOver run (take i run.list) old (holdings_of s mid.images) shown
  pub did : Did (take i (map (deed_of shown run.unit run.steps) run.list)) old mid
  pub quiet : NothingFails old mid

-- the run is that of the session
pub same_run : (s t : SessionState) (first : MachineState) (list : List Action) → s.journal ≡ t.journal → s.unit ≡ t.unit → s.situation.steps ≡ t.situation.steps → s.situation.slots ≡ t.situation.slots → run_of first s list ≡ run_of first t list
same_run s t first list journal unit steps slots i = record { first = first; journal = journal i; unit = unit i; steps = steps i; slots = slots i; list = list }

pub quiet_then : (a b c : Moment) → NothingFails a b → NothingFails b c → NothingFails a c
quiet_then a b c h g = record { sink = g.sink ∙ h.sink; keepers = λ k. g.keepers k ∙ h.keepers k }

-- what the counts of faults say of a refusal
pub record FaultCounts (fault : RunFault) (old new : Moment) : Type 0 where
  pub sink : fault ≡ Visitor → Rose old.faults new.faults
  pub sink_quiet : fault ≢ Visitor → new.faults ≡ old.faults
  pub keeper : (k : ℕ) → fault ≡ Keeper k → Rose (old.keeper_faults k) (new.keeper_faults k)
  pub keepers_quiet : (j : ℕ) → fault ≢ Keeper j → new.keeper_faults j ≡ old.keeper_faults j

-- the keeper of another level
pub other_keeper : (k j : ℕ) → j ≢ k → Keeper k ≢ Keeper j
other_keeper k j ne e = ne cc

-- what a session says of an action that it refused, from the moment before it to the one after it
pub record Refuses {X : Type 0} (told : X → Option (List ℕ)) (writes : X → ℕ) (first : MachineState) (s : SessionState) (a : Action) (fault : RunFault) (x y : X) (mid new : Moment) : Type 0 where
  pub uncounted : new.steps ≡ mid.steps
  pub called : CalledAtMost (calls_of a) mid.calls new.calls
  pub left : MayLeave a (levels_of s mid.images) new.images
  pub unreached : (k j : ℕ) → fault ≡ Keeper k → NotReached a k j → new.images j ≡ mid.images j
  pub whole : (k : ℕ) (put got : List ℕ) → fault ≡ Damaged k put got → (j : ℕ) → new.images j ≡ mid.images j
  pub breaks : fault ≡ Visitor → BreaksLines told writes (lines_for (handed_by s.unit s.situation.steps a) (states_out a s.work s.tape.states)) x y
  pub unseen : fault ≢ Visitor → y ≡ x
  pub counts : FaultCounts fault mid new
  pub named : (k : ℕ) → fault ≡ Keeper k → Contains (levels_named a) k
  pub damaged : (k : ℕ) (put got : List ℕ) → fault ≡ Damaged k put got → IsDamage a (holdings_of s mid.images) k put got
  pub undamaged : StandsAt first s mid.images → (k : ℕ) (put got : List ℕ) → fault ≢ Damaged k put got
  pub wants : fault ≡ Memory → calls_keepers a ≡ true
  pub lasts : fault ≢ Ended

module _ {X : Type 0} (told : X → Option (List ℕ)) (writes : X → ℕ) (first : MachineState) (s : SessionState) (list : List Action) (i : ℕ) (shown : States) (x : X) (old mid : Moment) (a : Action) (at : slice_get list i ≡ Some a)
    (before : IsAt told writes x mid) (so_far : SoFar (run_of first s list) i shown s old mid) where
  abbrev run : Run
  run = run_of first s list

  abbrev now : States
  now = showing shown s.unit s.situation.steps a s.work s.tape.states

  -- what is shown with the states that it hands out
  now_of_run : (d : Configuration) → Goes s.situation.steps s.situation.slots s.situation.at a d → AreOfRun run now old
  now_of_run d goes tells n within =
      let stands = so_far.stands tells in
      shows_of_run first s.journal s.unit s.situation.steps s.situation.slots s.situation.at a d shown s.work s.tape n goes stands.work stands.tape
      (next_on_tape s.situation.steps s.situation.slots (take i list) s.situation.at so_far.leads) (so_far.of_run tells n within)

  -- it was performed
  pub more : {V : Type 0} (got : V → ℕ → MachineState → List (List ℕ) → V → Type 0) (t : SessionState) (u v : V) (y : X) (new : Moment) → IsAt told writes y new → Performs s a t → Acts s.unit s.journal a (holdings_of s mid.images) (holdings_of t new.images) →
      GetsAll got s.journal (handed_by s.unit s.situation.steps a) (states_out a s.work s.tape.states) u v → Writes told writes (lines_for (handed_by s.unit s.situation.steps a) (states_out a s.work s.tape.states)) x y → new.steps ≡ mid.steps + s.unit * steps_of a → Called (calls_of a) mid.calls new.calls →
      (StandsAt first s mid.images → StandsAt first t new.images) → (AreAlone (levels_of s mid.images) → AreAlone (levels_of t new.images)) → NothingFails mid new → SoFar run (i + 1) now t old new
  more got t u v y new after performs acts gets wrote counted called stands alone quiet =
      let goes = performs.goes in record {
        lasts = performs.lasts;
        steps = performs.steps;
        slots = performs.slots;
        journal = performs.journal;
        unit = performs.unit;
        count = acts.count ∙ so_far.count;
        leads = led_on _ _ list i a s.situation t.situation.at refl refl at so_far.leads goes;
        stands = λ tells. stands (so_far.stands tells);
        alone = λ empty. alone (so_far.alone empty);
        above = above_so_far s.unit s.situation.steps s.situation.slots list i s.situation.at a t.situation.at at goes so_far.above;
        of_run = now_of_run t.situation.at goes;
        through = through_more got shown s.unit s.situation.steps s.situation.slots s.journal list i _ _ _ s.situation.at a t.situation.at u v at goes so_far.above gets acts so_far.through;
        did = did_so_far told writes got shown s.journal s.unit s.situation.steps s.situation.slots list i s.situation.at a t.situation.at s.work s.tape.states u v x y old mid new before after at goes so_far.above so_far.did gets wrote counted called;
        quiet = quiet_then old mid new so_far.quiet quiet;
      }

  -- ---- it was refused

  module _ (valid : Valid s.situation.steps s.situation.slots list) (y : X) (new : Moment) (after : IsAt told writes y new) where
    -- it may be done
    pub may_go : (d : Configuration) × Goes s.situation.steps s.situation.slots s.situation.at a d
    may_go = (rules_moves s.situation.steps s.situation.slots s.situation.at a (take i list, so_far.leads)).0 (kept_on_the_way s.situation.steps s.situation.slots list i s.situation.at a valid.0 at so_far.leads valid.1)

    -- how far the list went
    went : (Same : SameLevels) (states : States) → GoesOver run (take i list) old (holdings_of s mid.images) states →
        ((b : Action) (n : ℕ) (state : MachineState) → slice_get list i ≡ Some b → IsOut s.unit s.situation.steps n state b (holdings_of s mid.images) → states n ≡ state) →
        ((k : ℕ) → Same run i k → new.images k ≡ mid.images k) → MayLeave a (levels_of s mid.images) new.images → Went Same run i states old new
    went Same states through next still left =
        went_so_far Same first s list i states old mid new through next still
        (λ b is. subst (LeavesNext s mid new) (same_Some a b (sym at ∙ is)) (record { left = left; after = may_go.0; goes = may_go.1 })) so_far.leads so_far.count
        (λ empty. (so_far.stands (empty_tell (length s.situation.slots) old.images empty), so_far.alone empty))

    -- by storage or for want of memory: it hands nothing out
    went_quietly : (Same : SameLevels) → handed_by s.unit s.situation.steps a ≡ [] → ((k : ℕ) → Same run i k → new.images k ≡ mid.images k) → MayLeave a (levels_of s mid.images) new.images → Went Same run i shown old new
    went_quietly Same none still left = went Same shown so_far.through (none_next shown s.unit s.situation.steps list i a (holdings_of s mid.images) at none) still left

    -- a level that it spares is the same
    spared : MayLeave a (levels_of s mid.images) new.images → (k : ℕ) → SparesNext run i k → new.images k ≡ mid.images k
    spared left k out = left.spared k (out a at)

    -- so is one to which it didn't come
    passed : (k : ℕ) → MayLeave a (levels_of s mid.images) new.images → ((j : ℕ) → NotReached a k j → new.images j ≡ mid.images j) → (j : ℕ) → UnreachedNext k run i j → new.images j ≡ mid.images j
    passed k left unreached j out = elim (out a at) [ inl free ↦ left.spared j free | inr past ↦ unreached j past ]

    broke : y ≡ x → new.steps ≡ mid.steps → CalledAtMost (calls_of a) mid.calls new.calls →
        (breaks : BreaksOff (map (deed_of shown s.unit s.situation.steps) list) i old new) × (breaks.next ≡ deed_of shown s.unit s.situation.steps a)
    broke same still called =
        broke_off (map (deed_of shown s.unit s.situation.steps) list) i (deed_of shown s.unit s.situation.steps a) old mid new (get_map (deed_of shown s.unit s.situation.steps) list i a at) so_far.did
        (after.tells ∙ ap told same ∙ sym before.tells) (after.counts ∙ ap writes same ∙ sym before.counts) still called

    missed_one : (fault : RunFault) → fault ≡ Visitor → Refuses told writes first s a fault x y mid new → EndsShowing (course_of (perform run)) (stopped (i + 1)) old new
    missed_one fault is refuses =
        let goes = may_go in
        let breaks = refuses.breaks is in
        let until = did_before told writes shown s.unit s.situation.steps s.situation.slots list i s.situation.at a goes.0 s.work s.tape.states x y old mid new before after at goes.1 so_far.above so_far.did breaks refuses.uncounted
        (broken_calls_none told writes s.unit s.situation.steps a s.work s.tape.states x y breaks) refuses.called in
        let through = through_still shown s.unit s.situation.steps s.situation.slots s.journal (take i list) _ _ s.situation.at a goes.0 s.work s.tape.states goes.1 so_far.above so_far.through in
        let held = went AllLevels now through (shown_next shown s.unit s.situation.steps list i a (holdings_of s mid.images) at)
        (λ k out. refuses.left.spared k (broken_spares told writes s.unit s.situation.steps a s.work s.tape.states x y breaks k)) refuses.left in
        let N : ℕ → Type 0 = λ n. Rose n new.faults in
        let other : (k : ℕ) → fault ≢ Keeper k = λ k e. let clash : Visitor ≡ Keeper k = sym is ∙ e in cc in
        let fails : SinkFails old new = record { sink = subst N so_far.quiet.sink (refuses.counts.sink is); keepers = λ k. refuses.counts.keepers_quiet k (other k) ∙ so_far.quiet.keepers k } in
        (shown_by now, (now_of_run goes.0 goes.1, inr (inl (i, refl, record { until = until; answered = tt; held = held; fails = fails }))))

    quiet_refusal : (fault : RunFault) → fault ≢ Visitor → ((k : ℕ) → fault ≢ Keeper k) → Refuses told writes first s a fault x y mid new → NothingFails old new
    quiet_refusal fault seen other refuses = quiet_then old mid new so_far.quiet (record { sink = refuses.counts.sink_quiet seen; keepers = λ j. refuses.counts.keepers_quiet j (other j) })

    -- by each fault
    pub refused : (fault : RunFault) → Refuses told writes first s a fault x y mid new → Works (perform run) (fault_ending (i + 1) fault) old new
    refused (Keeper k) refuses =
        let named = refuses.named k refl in
        let deed = deed_of shown s.unit s.situation.steps a in
        let held = went_quietly (UnreachedNext k) (named_hands_none s.unit s.situation.steps a k named) (passed k refuses.left (λ j past. refuses.unreached k j refl past)) refuses.left in
        let N : ℕ → Type 0 = λ n. Rose n (new.keeper_faults k) in
        let fails : KeeperFails k old new = record { sink = refuses.counts.sink_quiet (λ e. cc) ∙ so_far.quiet.sink; keeper = subst N (so_far.quiet.keepers k) (refuses.counts.keeper k refl); others = λ j ne. refuses.counts.keepers_quiet j (other_keeper k j ne) ∙ so_far.quiet.keepers j } in
        inl (
          shown_by shown,
          (
            so_far.of_run,
            inr (inr (inl (
              i,
              k,
              refl,
              failed_at (performing run) (shown_by shown) i deed old new (broke (refuses.unseen (λ e. cc)) refuses.uncounted refuses.called) k (calls_named shown s.unit s.situation.steps a k named) held tt fails,
            ))),
          ),
        )
    refused (Damaged k put got) refuses =
        let damage = refuses.damaged k put got refl in
        let deed = deed_of shown s.unit s.situation.steps a in
        let held = went_quietly AllLevels (read_hands_none s.unit s.situation.steps a damage.number k damage.pair) (λ j out. refuses.whole k put got refl j) refuses.left in
        let comes : ComesToDamage run i k put got old = record { held = holdings_of s mid.images; states = shown; through = so_far.through; next = a; there = at; holds = damage } in
        inl (
          shown_by shown,
          (
            so_far.of_run,
            inr (inr (inr (
              i,
              k,
              put,
              got,
              refl,
              damaged_at (performing run) (shown_by shown) i deed old new (broke (refuses.unseen (λ e. cc)) refuses.uncounted refuses.called) k put got (gets_pair shown s.unit s.situation.steps a damage.number k damage.pair) comes
                  (λ tells. refuses.undamaged (so_far.stands tells) k put got refl) held (quiet_refusal (Damaged k put got) (λ e. cc) (λ j e. cc) refuses),
            ))),
          ),
        )
    refused Visitor refuses = inl (missed_one Visitor refl refuses)
    refused Memory refuses =
        let wants = refuses.wants refl in
        let deed = deed_of shown s.unit s.situation.steps a in
        let held = went_quietly SparesNext (calling_hands_none s.unit s.situation.steps a wants) (spared refuses.left) refuses.left in
        inr (
          refl,
          (
            shown_by shown,
            (
              so_far.of_run,
              (
                i,
                halted_at (performing run) (shown_by shown) i deed old new (broke (refuses.unseen (λ e. cc)) refuses.uncounted refuses.called) (calls_one shown s.unit s.situation.steps a wants) held
                    (quiet_refusal Memory (λ e. cc) (λ j e. cc) refuses),
              ),
            ),
          ),
        )
    refused Ended refuses = absurd (refuses.lasts refl)

-- nothing stands behind a list
none_behind : (list : List Action) (i : ℕ) (b : Action) → length list ≤ i → slice_get list i ≡ Some b → ⊥
none_behind list i b short is = let far = has_length list i b is in absurd (omega (arith, short, far))

-- the whole list was performed
pub went_whole : (first : MachineState) (s : SessionState) (list : List Action) (i : ℕ) (shown : States) (old mid : Moment) → SoFar (run_of first s list) i shown s old mid → length list ≤ i → i ≤ length list → Valid s.situation.steps s.situation.slots list →
    EndsShowing (course_of (perform (run_of first s list))) done old mid
went_whole first s list i shown old mid so_far short within valid =
    let run = run_of first s list in
    let deeds = map (deed_of shown s.unit s.situation.steps) list in
    let whole : take i deeds ≡ deeds = take_all i deeds (let same = length-map list (deed_of shown s.unit s.situation.steps) in omega (arith, same, short)) in
    let D : List Deed → Type 0 = λ ds. Did ds old mid in
    let did = subst D whole so_far.did in
    let end : i ≡ length deeds = (let same = length-map list (deed_of shown s.unit s.situation.steps) in omega (arith, short, within, same)) in
    let W : ℕ → Type 0 = λ n. Went AllLevels run n shown old mid in
    let B : List ℕ → Type 0 = λ bytes. Tells old.told mid.told (Adds bytes) in
    let held = went_so_far AllLevels first s list i shown old mid mid so_far.through (λ b n state is out. absurd (none_behind list i b short is)) (λ k out. refl) (λ b is. absurd (none_behind list i b short is)) so_far.leads so_far.count
    (λ empty. (so_far.stands (empty_tell (length s.situation.slots) old.images empty), so_far.alone empty)) in (
      shown_by shown,
      (
        so_far.of_run,
        inl (
          refl,
          record {
            did = did;
            output_whole = subst B (bytes_performed shown s.unit s.situation.steps s.situation.slots list valid) did.added;
            stepped = did.counted ∙ ap (λ n. old.steps + n) (steps_performed shown s.unit s.situation.steps list);
            answered = tt;
            held = subst W end held;
            quiet = so_far.quiet;
          },
        ),
      ),
    )

-- nothing was done yet
pub nothing_so_far : (s : SessionState) (list : List Action) (old mid : Moment) → s ≡ begun s.work s.journal s.unit s.situation.steps s.situation.slots → ((told : ℕ → Option Images) → AllTell (length s.situation.slots) told → StandsAt s.work s told) →
    ((told : ℕ → Option Images) → AllEmpty (length s.situation.slots) told → AreAlone (levels_of s told)) → mid.told ≡ old.told → mid.writes ≡ old.writes → mid.steps ≡ old.steps → mid.calls ≡ old.calls → mid.images ≡ old.images →
    NothingFails old mid → SoFar (run_of s.work s list) 0 (state_number s.work s.journal) s old mid
nothing_so_far s list old mid fresh stands alone told writes steps calls images quiet =
    let at = ap (λ (t : SessionState). t.situation.at) fresh in
    let I : (ℕ → Option Images) → Type 0 = λ f. AllTell (length s.situation.slots) old.images → StandsAt s.work s f in
    let J : (ℕ → Option Images) → Type 0 = λ f. AllEmpty (length s.situation.slots) old.images → AreAlone (levels_of s f) in
    let A : Configuration → Type 0 = λ c. IsAbove s.unit s.situation.steps [] c in
    let run = run_of s.work s list in
    let H : Holdings → Type 0 = λ h. GoesOver run [] old h (state_number s.work s.journal) in
    record {
      lasts = ap (λ (t : SessionState). t.ended) fresh;
      steps = refl;
      slots = refl;
      journal = refl;
      unit = refl;
      count = ap (λ (t : SessionState). length t.store) fresh ∙ length-map s.situation.slots _;
      leads = at;
      stands = subst I (sym images) (stands old.images);
      alone = subst J (sym images) (alone old.images);
      above = subst A (sym at) (above_at_start s.unit s.situation.steps s.situation.slots);
      of_run = λ tells n within. refl;
      through = subst H (sym (λ i. holdings_of (fresh i) (images i))) (through_none s.unit s.situation.steps s.journal (held_at_start run old) (state_number s.work s.journal));
      did = did_none old mid told writes steps calls;
      quiet = quiet;
    }

-- one failure
abbrev err_or : {A E : Type 0} → E → Result A E → E
err_or d (Ok x) = d
err_or d (Err e) = e

pub same_Err : {A E : Type 0} (r : Result A E) (d e : E) → r ≡ Err d → r ≡ Err e → d ≡ e
same_Err r d e h g = ap (err_or d) (sym h ∙ g)
