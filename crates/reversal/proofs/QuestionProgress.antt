-- What was done of a question: the actions of a list, up to one that was refused, or all of them, and then its answer.
use Rattle.std.proofs.Common.{◌≡◌, ◌≢◌, ◌⊎◌, ℕ, zero, suc, ◌+◌, ◌*◌, ◌^◌, ◌<◌, ◌≤◌, ◌++◌, ◌==◌, ◌&&◌, Bool, true, false, cond, List, [], ◌∷◌, length, map, take, append-nil, Option, None, Some, refl, sym, ◌∙◌, ap, subst, arith, slice_get, sum_by, inl, inr}
use Rattle.std.proofs.lemmas.Bool.{eqb-true, eq-eqb, le-leb, lt-ltb}
use Rattle.std.proofs.lemmas.List.{take-map, take_all, take_at}
use Rattle.std.proofs.lemmas.List.Sums.{sum_by-cons, sum_by-append}
use Rattle.std.proofs.lemmas.Option.{none-some, same_Some}
use Rattle.plan_types.specs.declared.action.Action.{Action}
use Rattle.plan_types.specs.declared.action.Action.TheVariants.{Forward, Reverse, Copy, Move, EndForward, EndReverse}
use Rattle.level_book.specs.Valid.{Valid}
use Rattle.level_book.specs.CostFold.{steps_of, forward, writes, reads}
use Rattle.keepers.specs.Counts.{raised, Rose}
use Rattle.keepers.specs.Claims.{Tells, AddsPrefix}
use Rattle.rv_machine.specs.MachineState.{MachineState}
use Rattle.reverse_runner.specs.declared.fault.RunFault.{RunFault}
use Rattle.reverse_runner.specs.declared.fault.RunFault.TheVariants.{Keeper, Damaged, Visitor, Memory, Ended}
use Rattle.reverse_runner.specs.StateOrder.{numbers_from, handed_by}
use Rattle.reverse_runner.specs.KeepersSeen.{Calls, calls_of, Called, CalledBetween}
use Rattle.reverse_runner.specs.ActionEffects.{Holdings}
use Rattle.reverse_runner.specs.SessionState.{SessionState, holdings_of}
use Rattle.reverse_runner.specs.SessionOfRun.{begun}
use Rattle.schedule_rules.proofs.VerdictReasons.{take_one_more}
use Rattle.reverse_queries.specs.Queries.{hands_out, front_to, up_to, IsLast}
use Rattle.reverse_queries.specs.ListExecution.{calls_of_all, done_after, IsOut, FaultFits, RefusedIn}
use Rattle.endings.specs.declared.outcome.Outcome.{Outcome}
use Rattle.endings.specs.Outcomes.{done, stopped, keeper_failed, damaged}
use Rattle.requests.proofs.Lists.{get_map}
use Rattle.std.proofs.Math.Nat.{min-eq_left}
use Rattle.reversal.specs.Job.{Run, last_of, state_of}
use Rattle.reversal.specs.Output.{line_of, Adds}
use Rattle.reversal.specs.Moment.{Moment, KeepersAreQuiet, NothingFails, SinkFails, KeeperFails, AllTell}
use Rattle.reversal.specs.Deeds.{Deed, States, deed_for, unseen_deed, writing, CallsSome, bytes_of, bytes_written, writes_made, steps_made, calls_made, Did}
use Rattle.reversal.specs.RunTrace.{AreOfRun, GoesOver, ComesTo, ComesToDamage, SameLevels, AllLevels, SparesNext, UnreachedNext, IsFound}
use Rattle.reversal.specs.Course.{Shown, Course, BreaksOff, EndsShowing}
use Rattle.reversal.specs.CommandAsk.{asking_state, answer_text, IsLastStep, asking_last}
use Rattle.reversal.specs.JobModel.{WorksBy, fault_ending, run_from}
use Rattle.reversal.proofs.Pieces.{not_called}
use Rattle.reversal.proofs.QuestionDeeds.{place_writes, place_bytes, steps_of_deeds}
use Rattle.reversal.proofs.DeedSequences.{tells_nothing, get_front, take_front, raised_none, did_then, did_one, is_until_first, failed_at, damaged_at, halted_at}
use Rattle.reversal.proofs.DemoDeeds.{uncalled}
use Rattle.reversal.proofs.ListDeeds.{gets_pair}
use Rattle.reversal.proofs.Progress.{FaultCounts, other_keeper}
use Rattle.reversal.proofs.DemoProgress.{behind}
use Rattle.reversal.proofs.ShownStates.{settled, settled_at}
use Rattle.reverse_queries.specs.HoldingsTrace.{IsFoundOn}

-- ---- how many actions were performed

-- the front of a list isn't longer
pub front_shorter : (unit steps n : ℕ) (list : List Action) → length (front_to unit steps n list) ≤ length list
front_shorter unit steps n [] = omega arith
front_shorter unit steps n (a ∷ rest) = by_cases (hands_out unit steps n a) refl (front_shorter unit steps n rest)
  where
    by_cases : (b : Bool) → hands_out unit steps n a ≡ b → length (front_to unit steps n rest) ≤ length rest → length (front_to unit steps n (a ∷ rest)) ≤ length (a ∷ rest)
    by_cases true e more = let one = ap (λ b. length (cond b [] (front_to unit steps n rest))) e in omega (arith, one)
    by_cases false e more = let one = ap (λ b. length (cond b [] (front_to unit steps n rest))) e in omega (arith, one, more)

-- the front of a list is a front of it
pub front_is : (unit steps n : ℕ) (list : List Action) (i : ℕ) (a : Action) → slice_get (front_to unit steps n list) i ≡ Some a → (slice_get list i ≡ Some a) × (take i (front_to unit steps n list) ≡ take i list)
front_is unit steps n [] i a h = absurd (none-some a h)
front_is unit steps n (b ∷ rest) zero a h = (h, refl)
front_is unit steps n (b ∷ rest) (suc i) a h = by_cases (hands_out unit steps n b) refl (front_is unit steps n rest i a)
  where
    by_cases : (d : Bool) → hands_out unit steps n b ≡ d → (slice_get (front_to unit steps n rest) i ≡ Some a → (slice_get rest i ≡ Some a) × (take i (front_to unit steps n rest) ≡ take i rest)) →
        (slice_get (b ∷ rest) (suc i) ≡ Some a) × (take (suc i) (front_to unit steps n (b ∷ rest)) ≡ take (suc i) (b ∷ rest))
    by_cases true e later = absurd (none-some a (ap (λ d. slice_get (cond d [] (front_to unit steps n rest)) i) (sym e) ∙ h))
    by_cases false e later =
        let tail = ap (λ d. cond d [] (front_to unit steps n rest)) e in
        let rest_is = later (sym (ap (λ l. slice_get l i) tail) ∙ h) in
        (rest_is.0, ap (λ l. b ∷ take i l) tail ∙ ap (λ l. b ∷ l) rest_is.1)

-- from the start of a session their number is the count
pub performed_so_far : (place : ℕ) → place < 2 ^ 64 → done_after 0 place ≡ place
performed_so_far zero h = refl
performed_so_far (suc n) h =
    let same : 0 + suc n ≡ suc n = omega arith in
    min-eq_left (omega (arith, h)) ∙ same

-- whether a fault is that of the visitor
pub is_visitor : (fault : RunFault) → (fault ≡ Visitor) ⊎ (fault ≢ Visitor)
is_visitor (Keeper k) = inr (λ e. cc)
is_visitor (Damaged k put got) = inr (λ e. cc)
is_visitor Visitor = inl refl
is_visitor Memory = inr (λ e. cc)
is_visitor Ended = inr (λ e. cc)

-- ---- deeds of actions

-- each action is a deed with its steps and its calls
pub record AreDeeds (unit : ℕ) (f : Action → Deed) : Type 0 where
  pub steps : (a : Action) → (f a).steps ≡ unit * steps_of a
  pub calls : (a : Action) → (f a).calls ≡ calls_of a

pub unseen_deeds : (unit : ℕ) → AreDeeds unit (unseen_deed unit)
unseen_deeds unit = record { steps = λ a. refl; calls = λ a. refl }

pub place_deeds : (states : States) (unit steps place : ℕ) → AreDeeds unit (deed_for states unit steps place)
place_deeds states unit steps place = record { steps = λ a. refl; calls = λ a. refl }

mapped_sum : (g : Deed → ℕ) (h : Action → ℕ) (f : Action → Deed) → ((a : Action) → g (f a) ≡ h a) → (list : List Action) → sum_by g (map f list) ≡ sum_by h list
mapped_sum g h f same [] = refl
mapped_sum g h f same (a ∷ rest) =
    let here = sum_by-cons g (f a) (map f rest) in
    let there = sum_by-cons h a rest in
    let one = same a in
    let more = mapped_sum g h f same rest in
    omega (arith, here, there, one, more)

steps_mapped : (unit : ℕ) (f : Action → Deed) → AreDeeds unit f → (list : List Action) → steps_made (map f list) ≡ unit * forward list
steps_mapped unit f are list = steps_of_deeds unit f are.steps list

puts_mapped : (unit : ℕ) (f : Action → Deed) → AreDeeds unit f → (list : List Action) (k : ℕ) → (calls_made (map f list)).puts k ≡ writes k list
puts_mapped unit f are list k = mapped_sum (λ (d : Deed). d.calls.puts k) (λ a. (calls_of a).puts k) f (λ a. ap (λ (c : Calls). c.puts k) (are.calls a)) list

gets_mapped : (unit : ℕ) (f : Action → Deed) → AreDeeds unit f → (list : List Action) (k : ℕ) → (calls_made (map f list)).gets k ≡ reads k list
gets_mapped unit f are list k = mapped_sum (λ (d : Deed). d.calls.gets k) (λ a. (calls_of a).gets k) f (λ a. ap (λ (c : Calls). c.gets k) (are.calls a)) list

frees_mapped : (unit : ℕ) (f : Action → Deed) → AreDeeds unit f → (list : List Action) (k : ℕ) → (calls_made (map f list)).frees k ≡ (calls_of_all list).frees k
frees_mapped unit f are list k = mapped_sum (λ (d : Deed). d.calls.frees k) (λ a. (calls_of a).frees k) f (λ a. ap (λ (c : Calls). c.frees k) (are.calls a)) list

-- calls by all actions are those of the deeds
called_mapped : (unit : ℕ) (f : Action → Deed) → AreDeeds unit f → (list : List Action) (a c : Calls) → Called (calls_of_all list) a c → Called (calls_made (map f list)) a c
called_mapped unit f are list a c h = record {
  put_calls = λ k. let e = puts_mapped unit f are list k in let x = h.put_calls k in omega (arith, e, x);
  get_calls = λ k. let e = gets_mapped unit f are list k in let x = h.get_calls k in omega (arith, e, x);
  free_calls = λ k. let e = frees_mapped unit f are list k in let x = h.free_calls k in omega (arith, e, x);
}

between_mapped : (unit : ℕ) (f : Action → Deed) → AreDeeds unit f → (low high : List Action) (a c : Calls) → CalledBetween (calls_of_all low) (calls_of_all high) a c → CalledBetween (calls_made (map f low)) (calls_made (map f high)) a c
between_mapped unit f are low high a c h = record {
  put_calls = λ k. let d = puts_mapped unit f are low k in let e = puts_mapped unit f are high k in let x = h.put_calls k in (omega (arith, d, x.0), omega (arith, e, x.1));
  get_calls = λ k. let d = gets_mapped unit f are low k in let e = gets_mapped unit f are high k in let x = h.get_calls k in (omega (arith, d, x.0), omega (arith, e, x.1));
  free_calls = λ k. let d = frees_mapped unit f are low k in let e = frees_mapped unit f are high k in let x = h.free_calls k in (omega (arith, d, x.0), omega (arith, e, x.1));
}

-- one more is taken of a longer list
take_behind : {A : Type 0} (xs ys : List A) (i : ℕ) (x : A) → slice_get xs i ≡ Some x → take (i + 1) (xs ++ ys) ≡ take (i + 1) xs
take_behind xs ys i x e = take_one_more (xs ++ ys) i x (get_front xs ys i x e) ∙ ap (λ l. l ++ x ∷ []) (take_front xs ys i x e) ∙ sym (take_one_more xs i x e)

-- The deeds of the actions before one were done, which write nothing, and that one was not, but that it made some of its calls. Other deeds
-- may stand behind.
pub broken_at : (unit : ℕ) (f : Action → Deed) → AreDeeds unit f → (list : List Action) (more : List Deed) (i : ℕ) (next : Action) (a c : Moment) → slice_get list i ≡ Some next →
    bytes_written (take i (map f list)) ≡ [] → writes_made (take i (map f list)) ≡ 0 → c.told ≡ a.told → c.writes ≡ a.writes → c.steps ≡ a.steps + unit * forward (take i list) →
    CalledBetween (calls_of_all (take i list)) (calls_of_all (take (i + 1) list)) a.calls c.calls → (breaks : BreaksOff (map f list ++ more) i a c) × (breaks.next ≡ f next)
broken_at unit f are list more i next a c at silent unwritten told wrote counted called =
    let there = get_map f list i next at in
    let front = take_front (map f list) more i (f next) there in
    let front_more = take_behind (map f list) more i (f next) there in
    let T : List ℕ → Type 0 = λ l. Tells a.told c.told (Adds l) in
    let L : List Deed → Type 0 = λ ds. CalledBetween (calls_made ds) (calls_made (take (i + 1) (map f list ++ more))) a.calls c.calls in
    let H : List Deed → Type 0 = λ ds. CalledBetween (calls_made (take i (map f list))) (calls_made ds) a.calls c.calls in
    let M : List Deed → Type 0 = λ ds. CalledBetween (calls_made ds) (calls_made (map f (take (i + 1) list))) a.calls c.calls in
    let steps = counted ∙ ap (λ n. a.steps + n) (sym (ap steps_made (front ∙ take-map f i list) ∙ steps_mapped unit f are (take i list))) in
    let between = between_mapped unit f are (take i list) (take (i + 1) list) a.calls c.calls called in (
      record {
        next = f next;
        there = get_front (map f list) more i (f next) there;
        added = subst T (sym (ap bytes_written front ∙ silent)) (tells_nothing a.told c.told told);
        wrote = wrote ∙ raised_none a.writes ∙ ap (raised a.writes) (sym (ap writes_made front ∙ unwritten));
        steps_least = omega (arith, steps);
        steps_most = omega (arith, steps);
        called = subst L (sym front) (subst H (sym (take-map f (i + 1) list) ∙ sym front_more) (subst M (sym (take-map f i list)) between));
      },
      refl,
    )

-- ---- the actions before the state that is asked for write nothing

hands_first : (unit steps n i : ℕ) (list : List Action) → i < length (front_to unit steps n list) → (f : Action → Deed) → ((a : Action) → hands_out unit steps n a ≡ false → (f a).pieces ≡ []) →
    (bytes_written (take i (map f (front_to unit steps n list))) ≡ []) × (writes_made (take i (map f (front_to unit steps n list))) ≡ 0)
hands_first unit steps n zero list within f none = (refl, refl)
hands_first unit steps n (suc i) [] within f none = absurd (omega (arith, within))
hands_first unit steps n (suc i) (a ∷ rest) within f none = by_cases (hands_out unit steps n a) refl (λ shorter. hands_first unit steps n i rest shorter f none)
  where
    by_cases : (b : Bool) → hands_out unit steps n a ≡ b →
        (i < length (front_to unit steps n rest) → (bytes_written (take i (map f (front_to unit steps n rest))) ≡ []) × (writes_made (take i (map f (front_to unit steps n rest))) ≡ 0)) → (bytes_written (take (suc i) (map f (front_to unit steps n (a ∷ rest)))) ≡ []) × (writes_made (take (suc i) (map f (front_to unit steps n (a ∷ rest)))) ≡ 0)
    by_cases true e before =
        let one = ap (λ b. length (a ∷ cond b [] (front_to unit steps n rest))) e in absurd (omega (arith, within, one))
    by_cases false e before =
        let tail = ap (λ b. cond b [] (front_to unit steps n rest)) e in
        let longer = ap (λ l. length (a ∷ l)) tail in
        let later = before (omega (arith, within, longer)) in
        let all = λ (g : List Deed → Type 0) (h : g (f a ∷ take i (map f (front_to unit steps n rest)))). subst (λ (l : List Action). g (f a ∷ take i (map f l))) (sym tail) h in (
          all (λ ds. bytes_written ds ≡ []) (ap (λ l. bytes_of l ++ bytes_written (take i (map f (front_to unit steps n rest)))) (none a e) ∙ later.0),
          all (λ ds. writes_made ds ≡ 0) (sum_by-cons (λ (d : Deed). length d.pieces) (f a) (take i (map f (front_to unit steps n rest))) ∙ (let nothing = ap length (none a e) in let rest_none = later.1 in omega (arith, nothing, rest_none))),
        )

place_silent : (states : States) (unit steps place : ℕ) (a : Action) → hands_out unit steps place a ≡ false → (deed_for states unit steps place a).pieces ≡ []
place_silent states unit steps place a e = ap (λ b. cond b (line_of states place ∷ []) []) e

unseen_silent : (unit i : ℕ) (list : List Action) → (bytes_written (take i (map (unseen_deed unit) list)) ≡ []) × (writes_made (take i (map (unseen_deed unit) list)) ≡ 0)
unseen_silent unit zero list = (refl, refl)
unseen_silent unit (suc i) [] = (refl, refl)
unseen_silent unit (suc i) (a ∷ rest) =
    let later = unseen_silent unit i rest in
    let sum = sum_by-cons (λ (d : Deed). length d.pieces) (unseen_deed unit a) (take i (map (unseen_deed unit) rest)) in
    let none = later.1 in
    (later.0, omega (arith, sum, none))

-- ---- a list that was refused

-- a number among so many is one of them
number_within : (from count i n : ℕ) → slice_get (numbers_from from count) i ≡ Some n → (from ≤ n) × (n < from + count)
number_within from zero i n h = absurd (none-some n h)
number_within from (suc count) zero n h = let same = same_Some (from + count) n h in (omega (arith, same), omega (arith, same))
number_within from (suc count) (suc i) n h = let rest = number_within from count i n h in let high = rest.1 in (rest.0, omega (arith, high))

-- an action that hands out a state is one that does by its number, and calls no keeper
out_hands : (unit steps n : ℕ) (a : Action) (i : ℕ) → slice_get (handed_by unit steps a) i ≡ Some n → hands_out unit steps n a ≡ true
out_hands unit steps n (Forward from to keep) i h = absurd (none-some n h)
out_hands unit steps n (Copy m k dest) i h = absurd (none-some n h)
out_hands unit steps n (Move m k dest) i h = absurd (none-some n h)
out_hands unit steps n EndReverse i h = absurd (none-some n h)
out_hands unit steps n EndForward zero h = eq-eqb (unit * steps) n (same_Some (unit * steps) n h)
out_hands unit steps n EndForward (suc i) h = absurd (none-some n h)
out_hands unit steps n (Reverse from to) i h = let within = number_within (unit * to) unit i n h in λ j. le-leb (unit * to) n within.0 j && lt-ltb n (unit * to + unit) within.1 j

out_calls_none : (unit steps n : ℕ) (a : Action) (i : ℕ) → slice_get (handed_by unit steps a) i ≡ Some n → calls_of a ≡ record { puts = λ _. 0; gets = λ _. 0; frees = λ _. 0 }
out_calls_none unit steps n (Forward from to keep) i h = absurd (none-some n h)
out_calls_none unit steps n (Copy m k dest) i h = absurd (none-some n h)
out_calls_none unit steps n (Move m k dest) i h = absurd (none-some n h)
out_calls_none unit steps n EndReverse i h = absurd (none-some n h)
out_calls_none unit steps n EndForward i h = refl
out_calls_none unit steps n (Reverse from to) i h = refl

-- ---- a question that was refused

-- a session at the start of a run
abbrev pub fresh : Run → SessionState
fresh run = begun run.first run.journal run.unit run.steps run.slots

-- what a session that had just begun says of a list of the run's that it refused
abbrev pub Refused : (Action → Holdings → Type 0) → Run → List Action → RunFault → SessionState → Moment → Moment → Type 0
Refused Misses run list fault new a c = RefusedIn Misses list fault (fresh run) new a.images a.steps c.steps a.calls c.calls

-- a course that goes over the list of a run, and says nothing of the levels
record IsAskedOver (run : Run) (course : Course) : Type 1 where
  damage : (shown : Shown) (i k : ℕ) (put got : List ℕ) (a c : Moment) → ComesToDamage run i k put got a → course.damage shown i k put got a c
  wants : (d : Deed) → CallsSome d → course.may_want d
  holds : (Same : SameLevels) (shown : Shown) (i : ℕ) (a c : Moment) → course.holds Same shown i a c
  stops : (shown : Shown) (i k : ℕ) (a c : Moment) → course.stops shown i k a c
  place : (n : ℕ) → n ≡ course.storage_place n
  levels : (a : Moment) → AllTell course.levels a.images → AllTell (length run.slots) a.images

module _ (run : Run) (course : Course) (over : IsAskedOver run course) (shown : Shown) (a c : Moment) (shows : course.shows shown a) where
  -- by storage, or for want of memory
  refused_by : (fault : RunFault) (i : ℕ) (d : Deed) → ((breaks : BreaksOff (course.deeds shown) i a c) × (breaks.next ≡ d)) → (Misses : Action → Holdings → Type 0) (next : Action) (held : Holdings) (states : States) →
      d.calls ≡ calls_of next → FaultFits Misses fault next held → slice_get run.list i ≡ Some next → GoesOver run (take i run.list) a held states → fault ≢ Visitor →
      ((k : ℕ) (put got : List ℕ) → fault ≡ Damaged k put got → AllTell (length run.slots) a.images → ⊥) → FaultCounts fault a c → WorksBy course (fault_ending (i + 1) fault) a c
  refused_by (Keeper k) i d broke Misses next held states same fits there through seen silent counts =
      let C : Calls → Type 0 = λ x. 0 < x.puts k + x.gets k + x.frees k in
      let fails : KeeperFails k a c = record { sink = counts.sink_quiet seen; keeper = counts.keeper k refl; others = λ j ne. counts.keepers_quiet j (other_keeper k j ne) } in
      inl (shown, (shows, inr (inr (inl (i, k, ap (λ (n : ℕ). keeper_failed n k) (over.place (i + 1)), failed_at course shown i d a c broke k (subst C (sym same) fits) (over.holds (UnreachedNext k) shown i a c) (over.stops shown i k a c) fails)))))
  refused_by (Damaged k put got) i d broke Misses next held states same fits there through seen silent counts =
      let C : Calls → Type 0 = λ x. 0 < x.gets k in
      let comes : ComesToDamage run i k put got a = record { held = held; states = states; through = through; next = next; there = there; holds = fits } in
      let gets = subst C (sym same) (gets_pair (λ n. run.first) run.unit run.steps next fits.number k fits.pair) in
      let quiet : NothingFails a c = record { sink = counts.sink_quiet seen; keepers = λ j. counts.keepers_quiet j (λ e. cc) } in
      inl (shown, (shows, inr (inr (inr (i, k, put, got, ap (λ (n : ℕ). damaged n k put got) (over.place (i + 1)), damaged_at course shown i d a c broke k put got gets (over.damage shown i k put got a c comes) (λ tells. silent k put got refl (over.levels a tells)) (over.holds AllLevels shown i a c) quiet)))))
  refused_by Visitor i d broke Misses next held states same fits there through seen silent counts = absurd (seen refl)
  refused_by Memory i d broke Misses next held states same fits there through seen silent counts =
      let C : Calls → Type 0 = λ x. (k : ℕ) × (0 < x.puts k + x.gets k + x.frees k) in
      let quiet : NothingFails a c = record { sink = counts.sink_quiet seen; keepers = λ j. counts.keepers_quiet j (λ e. cc) } in
      inr (refl, (shown, (shows, (i, halted_at course shown i d a c broke (over.wants d (subst C (sym same) fits)) (over.holds SparesNext shown i a c) quiet))))
  refused_by Ended i d broke Misses next held states same fits there through seen silent counts = absurd fits

-- ---- a state

state_over : (place : ℕ) (run : Run) → IsAskedOver run (asking_state place run)
state_over place run = record { damage = λ shown i k put got a c h. h; wants = λ d h. h; holds = λ Same shown i a c. tt; stops = λ shown i k a c. tt; place = λ n. refl; levels = λ a h. h }

module _ (run : Run) (place : ℕ) where
  abbrev front : List Action
  front = front_to run.unit run.steps place run.list

  -- what is shown where its state is this one
  abbrev with_state : MachineState → Shown
  with_state s = record { states = settled (state_of run) place s; answer = None; orders = [] }

  -- over keepers that tell it is that of the run
  with_state_shown : (s : MachineState) (a : Moment) → (AllTell (length run.slots) a.images → s ≡ state_of run place) → AreOfRun run (with_state s).states a
  with_state_shown s a is tells m within = by_cases (m == place) refl
    where
      by_cases : (b : Bool) → (m == place) ≡ b → settled (state_of run) place s m ≡ state_of run m
      by_cases true e = ap (λ b. cond b s (state_of run m)) e ∙ is tells ∙ ap (state_of run) (sym (eqb-true m place e))
      by_cases false e = ap (λ b. cond b s (state_of run m)) e

  -- its list was refused by storage or for want of memory
  state_refused : (Misses : Action → Holdings → Type 0) (fault : RunFault) (new : SessionState) (a c : Moment) (refused : Refused Misses run front fault new a c) → c.told ≡ a.told → c.writes ≡ a.writes → fault ≢ Visitor →
      ((k : ℕ) (put got : List ℕ) → fault ≡ Damaged k put got → AllTell (length run.slots) a.images → ⊥) → FaultCounts fault a c → WorksBy (asking_state place run) (fault_ending (refused.place + 1) fault) a c
  state_refused Misses fault new a c refused told wrote seen silent counts =
      let shown : Shown = record { states = state_of run; answer = None; orders = [] } in
      let f = deed_for shown.states run.unit run.steps place in
      let quiet = hands_first run.unit run.steps place refused.place run.list refused.within f (place_silent shown.states run.unit run.steps place) in
      let broke = broken_at run.unit f (place_deeds shown.states run.unit run.steps place) front [] refused.place refused.next a c refused.there quiet.0 quiet.1 told wrote refused.counted refused.called in
      let is = front_is run.unit run.steps place run.list refused.place refused.next refused.there in
      let T : List Action → Type 0 = λ l. GoesOver run l a refused.held refused.states in
      let B : List Deed → Type 0 = λ ds. (breaks : BreaksOff ds refused.place a c) × (breaks.next ≡ f refused.next) in
      refused_by run (asking_state place run) (state_over place run) shown a c (λ tells n within. refl) fault refused.place (f refused.next) (subst B (append-nil (map f front)) broke)
      Misses refused.next refused.held refused.states refl refused.fits is.0 (subst T is.1 refused.through) seen silent counts

  -- its line was written in part
  state_missed : (Misses : Action → Holdings → Type 0) (new : SessionState) (a c : Moment) (s : MachineState) (refused : Refused Misses run front Visitor new a c) → IsOut run.unit run.steps place s refused.next refused.held →
      (AllTell (length run.slots) a.images → s ≡ state_of run place) → Tells a.told c.told (AddsPrefix (line_of (λ _. s) place)) → c.writes ≡ raised a.writes 1 → SinkFails a c →
      WorksBy (asking_state place run) (fault_ending (refused.place + 1) Visitor) a c
  state_missed Misses new a c s refused out is part once fails =
      let shown = with_state s in
      let f = deed_for shown.states run.unit run.steps place in
      let are = place_deeds shown.states run.unit run.steps place in
      let i = refused.place in
      let quiet = hands_first run.unit run.steps place i run.list refused.within f (place_silent shown.states run.unit run.steps place) in
      let at = get_map f front i refused.next refused.there in
      let pieces : (f refused.next).pieces ≡ line_of shown.states place ∷ [] = ap (λ b. cond b (line_of shown.states place ∷ []) []) (out_hands run.unit run.steps place refused.next out.place out.number) in
      let settled_so : shown.states place ≡ s = settled_at (state_of run) place s in
      let same : line_of (λ _. s) place ≡ line_of shown.states place = ap (λ x. line_of (λ _. x) place) (sym settled_so) in
      let T : List ℕ → Type 0 = λ l. Tells a.told c.told (AddsPrefix l) in
      let b : Moment = record { told = a.told; writes = a.writes; faults = a.faults; steps = c.steps; calls = c.calls; images = c.images; keeper_faults = a.keeper_faults } in
      let none = out_calls_none run.unit run.steps place refused.next out.place out.number in
      let N : Calls → Type 0 = λ x. (k : ℕ) → (x.puts k ≡ 0) × (x.gets k ≡ 0) × (x.frees k ≡ 0) in
      let zeros = subst N (sym none) (λ k. (refl, refl, refl)) in
      let last = take_one_more front i refused.next refused.there in
      let W = λ (k : ℕ). ap (writes k) last ∙ sum_by-append (λ x. (calls_of x).puts k) (take i front) (refused.next ∷ []) in
      let R = λ (k : ℕ). ap (reads k) last ∙ sum_by-append (λ x. (calls_of x).gets k) (take i front) (refused.next ∷ []) in
      let F = λ (k : ℕ). ap (λ l. (calls_of_all l).frees k) last ∙ sum_by-append (λ x. (calls_of x).frees k) (take i front) (refused.next ∷ []) in
      let called : Called (calls_of_all (take i front)) a.calls c.calls = record {
        put_calls = λ k. let x = refused.called.put_calls k in let w = W k in let z = (zeros k).0 in omega (arith, x.0, x.1, w, z);
        get_calls = λ k. let x = refused.called.get_calls k in let w = R k in let z = (zeros k).1 in omega (arith, x.0, x.1, w, z);
        free_calls = λ k. let x = refused.called.free_calls k in let w = F k in let z = (zeros k).2 in omega (arith, x.0, x.1, w, z);
      } in
      let before : Did (take i (map f front)) a b = record {
        added = (let P : List ℕ → Type 0 = λ l. Tells a.told a.told (Adds l) in subst P (sym quiet.0) (tells_nothing a.told a.told refl));
        wrote = raised_none a.writes ∙ ap (raised a.writes) (sym quiet.1);
        counted = refused.counted ∙ ap (λ n. a.steps + n) (sym (ap steps_made (take-map f i front) ∙ steps_mapped run.unit f are (take i front)));
        called = (let P : List Deed → Type 0 = λ ds. Called (calls_made ds) a.calls c.calls in subst P (sym (take-map f i front)) (called_mapped run.unit f are (take i front) a.calls c.calls called));
      } in
      let front_so = front_is run.unit run.steps place run.list i refused.next refused.there in
      let G : List Action → Type 0 = λ l. GoesOver run l a refused.held refused.states in
      let O : MachineState → Type 0 = λ x. IsOut run.unit run.steps place x refused.next refused.held in
      let comes : ComesTo (IsOut run.unit run.steps place (shown.states place)) run i a =
      record { held = refused.held; states = refused.states; through = subst G front_so.1 refused.through; next = refused.next; there = front_so.0; holds = subst O (sym settled_so) out } in
      let until = is_until_first (map f front) i (f refused.next) (line_of shown.states place) a b c at (ap (λ l. slice_get l 0) pieces) before (subst T same part) once refl (uncalled c.calls) in
      inl (shown, (with_state_shown s a is, inr (inl (i, refl, record { until = until; answered = comes; held = tt; fails = fails }))))

  -- the list was refused
  pub state_ended : (Misses : Action → Holdings → Type 0) (fault : RunFault) (new : SessionState) (a c : Moment) (refused : Refused Misses run front fault new a c) → (fault ≢ Visitor → (c.told ≡ a.told) × (c.writes ≡ a.writes)) →
      ((next : Action) (held : Holdings) → Misses next held →
      (s : MachineState) × (IsOut run.unit run.steps place s next held × (AllTell (length run.slots) a.images → s ≡ state_of run place) × Tells a.told c.told (AddsPrefix (line_of (λ _. s) place)) × (c.writes ≡ raised a.writes 1))) →
      ((k : ℕ) (put got : List ℕ) → fault ≡ Damaged k put got → AllTell (length run.slots) a.images → ⊥) → FaultCounts fault a c → WorksBy (asking_state place run) (fault_ending (refused.place + 1) fault) a c
  state_ended Misses Visitor new a c refused unseen misses silent counts =
      let missed = misses refused.next refused.held refused.fits in
      state_missed Misses new a c missed.0 refused missed.1.0 missed.1.1 missed.1.2 missed.1.3 (record { sink = counts.sink refl; keepers = λ j. counts.keepers_quiet j (λ e. cc) })
  state_ended Misses (Keeper k) new a c refused unseen misses silent counts =
      let same = unseen (λ e. cc) in state_refused Misses (Keeper k) new a c refused same.0 same.1 (λ e. cc) silent counts
  state_ended Misses (Damaged k put got) new a c refused unseen misses silent counts =
      let same = unseen (λ e. cc) in state_refused Misses (Damaged k put got) new a c refused same.0 same.1 (λ e. cc) silent counts
  state_ended Misses Memory new a c refused unseen misses silent counts =
      let same = unseen (λ e. cc) in state_refused Misses Memory new a c refused same.0 same.1 (λ e. cc) silent counts
  state_ended Misses Ended new a c refused unseen misses silent counts =
      let same = unseen (λ e. cc) in state_refused Misses Ended new a c refused same.0 same.1 (λ e. cc) silent counts

  -- its line was written
  pub state_done : (a c : Moment) (states : States) (last : Holdings) → place ≤ last_of run → Valid run.steps run.slots run.list → c.images ≡ last.levels.told → GoesOver run front a last states →
      (AllTell (length run.slots) a.images → states place ≡ state_of run place) → Tells a.told c.told (Adds (line_of states place)) → c.writes ≡ raised a.writes 1 → c.steps ≡ a.steps + run.unit * forward front →
      Called (calls_of_all front) a.calls c.calls → NothingFails a c → EndsShowing (asking_state place run) done a c
  state_done a c states last within valid seen through is added once counted called quiet =
      let s = states place in
      let shown = with_state s in
      let f = deed_for shown.states run.unit run.steps place in
      let are = place_deeds shown.states run.unit run.steps place in
      let settled_so : shown.states place ≡ s = settled_at (state_of run) place s in
      let same : line_of (λ _. s) place ≡ line_of shown.states place = ap (λ x. line_of (λ _. x) place) (sym settled_so) in
      let T : List ℕ → Type 0 = λ l. Tells a.told c.told (Adds l) in
      let whole = subst T same added in
      let did : Did (map f front) a c = record {
        added = subst T (sym (place_bytes shown.states run.unit run.steps place run.slots run.list within valid)) whole;
        wrote = once ∙ ap (raised a.writes) (sym (place_writes shown.states run.unit run.steps place run.slots run.list within valid));
        counted = counted ∙ ap (λ n. a.steps + n) (sym (steps_mapped run.unit f are front));
        called = called_mapped run.unit f are front a.calls c.calls called;
      } in
      (shown, (with_state_shown s a is, inl (refl, record { did = did; output_whole = whole; stepped = counted; answered = (last, seen, record { states = states; through = through; holds = sym settled_so }); held = tt; quiet = quiet })))

-- ---- the last step that does something

last_over : (Holds : States → ℕ → Type 0) (run : Run) → IsAskedOver run (asking_last Holds run)
last_over Holds run = record { damage = λ shown i k put got a c h. h; wants = λ d h. h; holds = λ Same shown i a c. tt; stops = λ shown i k a c. tt; place = λ n. refl; levels = λ a h. h }

module _ (run : Run) (Holds : States → ℕ → Type 0) where
  abbrev with_answer : Option ℕ → Shown
  with_answer answer = record { states = state_of run; answer = answer; orders = [] }

  -- its list was refused, of which nothing had been done before
  pub last_refused : (fault : RunFault) (new : SessionState) (e : Outcome) (a c : Moment) → length run.list ≤ 16777216 → Refused (λ action held. ⊥) run run.list fault new a c → e ≡ fault_ending (new.done + 1) fault →
      c.told ≡ a.told → c.writes ≡ a.writes → fault ≢ Visitor → ((k : ℕ) (put got : List ℕ) → fault ≡ Damaged k put got → AllTell (length run.slots) a.images → ⊥) → FaultCounts fault a c → WorksBy (asking_last Holds run) e a c
  last_refused fault new e a c few refused ending told wrote seen silent counts =
      let f = unseen_deed run.unit in
      let quiet = unseen_silent run.unit refused.place run.list in
      let text = writing (answer_text None ∷ []) ∷ [] in
      let broke = broken_at run.unit f (unseen_deeds run.unit) run.list text refused.place refused.next a c refused.there quiet.0 quiet.1 told wrote refused.counted refused.called in
      let count = refused.done ∙ performed_so_far refused.place (omega (arith, refused.within, few)) in
      let E : Outcome → Type 0 = λ x. WorksBy (asking_last Holds run) x a c in
      subst E (sym (ending ∙ ap (λ n. fault_ending (n + 1) fault) count))
      (refused_by run (asking_last Holds run) (last_over Holds run) (with_answer None) a c (λ tells n within. refl) fault refused.place (f refused.next) broke
      (λ action held. ⊥) refused.next refused.held refused.states refl refused.fits refused.there refused.through seen silent counts)

  -- the list was performed as far as the answer takes it, and then the answer was written, or a part of it
  module _ (answer : Option ℕ) (a c : Moment) (answered : IsLastStep Holds run answer a c) (once : c.writes ≡ raised a.writes 1) (counted : c.steps ≡ a.steps + run.unit * forward (up_to run.unit run.steps answer run.list))
      (called : Called (calls_of_all (up_to run.unit run.steps answer run.list)) a.calls c.calls) where
    abbrev performed : List Action
    performed = up_to run.unit run.steps answer run.list

    abbrev silent : List Deed
    silent = map (unseen_deed run.unit) performed

    -- before the answer was written
    abbrev between : Moment
    between = record { told = a.told; writes = a.writes; faults = a.faults; steps = c.steps; calls = c.calls; images = a.images; keeper_faults = a.keeper_faults }

    did_unseen : Did silent a between
    did_unseen =
        let all = take_all (length silent) silent (omega arith) in
        let none = unseen_silent run.unit (length silent) performed in
        let P : List ℕ → Type 0 = λ l. Tells a.told a.told (Adds l) in
        record {
          added = subst P (sym (ap bytes_written (sym all) ∙ none.0)) (tells_nothing a.told a.told refl);
          wrote = raised_none a.writes ∙ ap (raised a.writes) (sym (ap writes_made (sym all) ∙ none.1));
          counted = counted ∙ ap (λ n. a.steps + n) (sym (steps_mapped run.unit (unseen_deed run.unit) (unseen_deeds run.unit) performed));
          called = called_mapped run.unit (unseen_deed run.unit) (unseen_deeds run.unit) performed a.calls c.calls called;
        }

    last_done : Tells a.told c.told (Adds (answer_text answer)) → NothingFails a c → EndsShowing (asking_last Holds run) done a c
    last_done added quiet =
        let text = answer_text answer in
        let last = writing (text ∷ []) in
        let did = did_then silent (last ∷ []) a between c did_unseen (did_one last between c text 1 (append-nil text) refl added once (omega arith) (not_called c.calls)) in
        (with_answer answer, ((λ tells n within. refl), inl (refl, record { did = did; output_whole = added; stepped = counted; answered = answered; held = tt; quiet = quiet })))

    last_stopped : Tells a.told c.told (AddsPrefix (answer_text answer)) → SinkFails a c → EndsShowing (asking_last Holds run) (stopped 0) a c
    last_stopped part fails =
        let text = answer_text answer in
        let last = writing (text ∷ []) in
        let i = length silent in
        let D : List Deed → Type 0 = λ ds. Did ds a between in
        let before = subst D (sym (take_at silent (last ∷ []) i refl)) did_unseen in
        let until = is_until_first (silent ++ last ∷ []) i last text a between c (behind silent last []) refl before part once refl (uncalled c.calls) in
        (with_answer answer, ((λ tells n within. refl), inr (inl (i, refl, record { until = until; answered = answered; held = tt; fails = fails }))))

    -- the whole of it was written, or a part
    pub last_told : (e : Outcome) → ((e ≡ done) × Tells a.told c.told (Adds (answer_text answer)) × (c.faults ≡ a.faults)) ⊎ ((e ≡ stopped 0) × Tells a.told c.told (AddsPrefix (answer_text answer)) × Rose a.faults c.faults) →
        KeepersAreQuiet a c → WorksBy (asking_last Holds run) e a c
    last_told e ends keepers =
        let E : Outcome → Type 0 = λ x. WorksBy (asking_last Holds run) x a c in
        elim ends [
          | inl whole ↦ subst E (sym whole.0) (inl (last_done whole.1 (record { sink = whole.2; keepers = keepers })))
          | inr part ↦ subst E (sym part.0) (inl (last_stopped part.1 (record { sink = part.2; keepers = keepers })))
        ]

-- the answer was found by the states that a session handed out that had just begun
pub is_found : (Holds : States → ℕ → Type 0) (old new : SessionState) (list : List Action) (answer : Option ℕ) (a c : Moment) → old ≡ begun old.work old.journal old.unit old.situation.steps old.situation.slots →
    IsFoundOn (λ states. IsLast (Holds states) (old.unit * old.situation.steps) answer) old.unit old.situation.steps old.journal (up_to old.unit old.situation.steps answer list) (holdings_of old a.images) (holdings_of new c.images) →
    IsFound (λ states. IsLast (Holds states) (old.unit * old.situation.steps) answer) (run_from old list) answer a c
is_found Holds old new list answer a c is found =
    let P : Holdings → Type 0 = λ h. IsFoundOn (λ states. IsLast (Holds states) (old.unit * old.situation.steps) answer) old.unit old.situation.steps old.journal (up_to old.unit old.situation.steps answer list) h (holdings_of new c.images) in
    (holdings_of new c.images, refl, subst P (ap (λ (s : SessionState). holdings_of s a.images) is) found)
