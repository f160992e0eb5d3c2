-- What an order takes: marks that are fetched, one after the other, and steps of the machine.
use Rattle.std.specs.Prelude.{◌≡◌, ◌⊎◌, ℕ, ◌+◌, ◌-◌, ◌==◌, ◌<◌, ◌≤◌, min, if◌then◌else◌, List, [], ◌∷◌, ◌++◌, reverse, count_by, unwrap_or, Option, None, Some, Result, Err, OnOk, IfErr}
use Rattle.std.specs.List.{range_with_len}
use Rattle.reverse_runner.specs.KeepersSeen.{Calls, Called, CalledAtMost}
use Rattle.reverse_runner.specs.declared.fault.RunFault.{RunFault}
use Rattle.reverse_runner.specs.declared.fault.RunFault.TheVariants.{Keeper, Visitor, Ended}
use Rattle.revolve_gen.specs.Places.{places_on}
use Rattle.reverse_console.specs.declared.order.Order.{Order}
use Rattle.reverse_console.specs.declared.order.Order.TheVariants.{BackTo, RunTo, BackChange, BackWrite}
use Rattle.reverse_console.specs.Marks.{MarkPlan, marked, mark_level, mark_of, mark_count, mark, marks_below}
use Rattle.reverse_console.specs.Refusals.{IsOfPutting, IsNotGot}
use Rattle.reverse_console.specs.StateSources.{Source, IsAnswerSeen}

-- each of the first i marks is put on its level
abbrev pub puts_of : MarkPlan → ℕ → Calls
puts_of p i = record { puts = λ k. places_on (mark_level p) k i; gets = λ _. 0; frees = λ _. 0 }

-- A mark of level k wasn't put: those before it were, it was tried, and no one behind it. Just the steps to it were taken.
pub record StopsPutting (p : MarkPlan) (k steps steps' : ℕ) (calls calls' : Calls) : Type 0 where
  pub mark : ℕ
  pub known : mark < mark_count p
  pub level_is : mark_level p mark ≡ k
  pub counted : steps' ≡ steps + marked p mark
  pub called : Called (puts_of p (mark + 1)) calls calls'

-- What setting all marks takes: each is put on its level, and the steps to the last one are taken. A refusal stops it
-- on the way.
pub record PutsMarks {T : Type 0} (p : MarkPlan) (result : Result T RunFault) (steps steps' : ℕ) (calls calls' : Calls) : Type 0 where
  pub counted : OnOk result (steps' ≡ steps + marked p (mark_count p - 1))
  pub called : OnOk result (Called (puts_of p (mark_count p)) calls calls')
  pub counted_at_most : (steps ≤ steps') × (steps' ≤ steps + marked p (mark_count p - 1))
  pub called_at_most : CalledAtMost (puts_of p (mark_count p)) calls calls'
  pub putting : IfErr result (IsOfPutting p)
  pub put_until : (k : ℕ) → result ≡ Err (Keeper k) → StopsPutting p k steps steps' calls calls'

-- each of some marks is got from its level
abbrev pub gets_of : MarkPlan → List ℕ → Calls
gets_of p marks = record { puts = λ _. 0; gets = λ k. count_by (λ i. mark_level p i == k) marks; frees = λ _. 0 }

-- an effort: the fetched marks, in order, and the steps
pub record Effort : Type 0 where
  pub marks : List ℕ
  pub steps : ℕ

-- one effort, and then another
abbrev pub both : Effort → Effort → Effort
both a b = record { marks = a.marks ++ b.marks; steps = a.steps + b.steps }

-- nothing is done; one mark is fetched
abbrev pub nothing : Effort
nothing = record { marks = []; steps = 0 }

abbrev pub asking : ℕ → Effort
asking mark = record { marks = mark ∷ []; steps = 0 }

-- the steps from the mark of one state to another state, which isn't below the mark
abbrev pub way : MarkPlan → (from to : ℕ) → ℕ
way p from to = to - mark p from

-- the marks below a number, from the last of them down to one
abbrev pub marks_down : (high low : ℕ) → List ℕ
marks_down high low = reverse (range_with_len low (high - low))

-- To look back from a place, the marks below it are fetched, the last one first. The search ends at the answer's mark,
-- or at the first. The steps from each mark to the next are taken once.
abbrev pub looking_back : MarkPlan → (place : ℕ) → (answer : Option ℕ) → Effort
looking_back p place (Some n) = record { marks = marks_down (marks_below p place) (mark_of p n); steps = way p n place }
looking_back p place None = record { marks = marks_down (marks_below p place) 0; steps = place }

-- To look on from a place, its mark is fetched. The steps from there to the answer or to the end are taken. At the end
-- nothing is done.
abbrev pub looking_on : MarkPlan → (place : ℕ) → (answer : Option ℕ) → Effort
looking_on p place answer = if place == p.count then nothing else record { marks = mark_of p place ∷ []; steps = way p place (unwrap_or answer p.count) }

-- how the place of an order is searched for; an order with its own place needs no search
abbrev pub looking : MarkPlan → (place : ℕ) → Order → (answer : Option ℕ) → Effort
looking p place (BackTo address) = looking_back p place
looking p place (BackChange word) = looking_back p place
looking p place (BackWrite word) = looking_back p place
looking p place (RunTo address) = looking_on p place
looking p place _ = λ answer. nothing

-- To reach a state, its mark is fetched, and the steps from there are taken.
abbrev pub going : MarkPlan → (answer : Option ℕ) → Effort
going p (Some n) = record { marks = mark_of p n ∷ []; steps = way p n n }
going p None = nothing

-- an order's place is searched for, and reached
abbrev pub effort_of : MarkPlan → (place : ℕ) → Order → (answer : Option ℕ) → Effort
effort_of p place order answer = both (looking p place order answer) (going p answer)

-- just this was done
pub record Takes (p : MarkPlan) (effort : Effort) (steps steps' : ℕ) (calls calls' : Calls) : Type 0 where
  pub counted : steps' ≡ steps + effort.steps
  pub called : Called (gets_of p effort.marks) calls calls'

-- ---- up to a mark that can't be fetched

-- It was the last mark that was asked for in a search backward. The steps from the next mark were taken.
pub record BreaksBack (p : MarkPlan) (place mark : ℕ) (effort : Effort) : Type 0 where
  pub below : mark < marks_below p place
  pub marks : effort.marks ≡ marks_down (marks_below p place) mark
  pub steps : effort.steps + min place (marked p (mark + 1)) ≡ place

-- or in a search forward: it was the first
pub record BreaksOn (p : MarkPlan) (place mark : ℕ) (effort : Effort) : Type 0 where
  pub before_end : place < p.count
  pub mark_is : mark ≡ mark_of p place
  pub effort_is : effort ≡ asking mark

abbrev pub BreaksLooking : MarkPlan → (place : ℕ) → Order → (mark : ℕ) → Effort → Type 0
BreaksLooking p place (BackTo address) = BreaksBack p place
BreaksLooking p place (BackChange word) = BreaksBack p place
BreaksLooking p place (BackWrite word) = BreaksBack p place
BreaksLooking p place (RunTo address) = BreaksOn p place
BreaksLooking p place _ = λ mark effort. ⊥

-- It is the mark of the answer, which was found.
pub record BreaksGoing (p : MarkPlan) (place : ℕ) (order : Order) (n mark : ℕ) (effort : Effort) : Type 0 where
  pub mark_is : mark ≡ mark_of p n
  pub effort_is : effort ≡ both (looking p place order (Some n)) (asking mark)

-- an order stopped at a mark after such an effort; its answers are these
abbrev pub BreaksAt : (ℕ → Type 0) → MarkPlan → (place : ℕ) → Order → (mark : ℕ) → Effort → Type 0
BreaksAt IsFound p place order mark effort =
    BreaksLooking p place order mark effort ⊎ ((n : ℕ) × (IsFound n × BreaksGoing p place order n mark effort))

-- the place to which an order leads was found by the states that were seen
abbrev pub IsSeenAt : Source → (place : ℕ) → Order → ℕ → Type 0
IsSeenAt from place order n = IsAnswerSeen from place order (Some n)

-- an order stopped at a mark, for this fault
pub record StopsAt (from : Source) (place : ℕ) (order : Order) (fault : RunFault) (steps steps' : ℕ) (calls calls' : Calls) : Type 0 where
  pub mark : ℕ
  pub effort : Effort
  pub at : BreaksAt (IsSeenAt from place order) from.plan place order mark effort
  pub not_got : IsNotGot from mark fault
  pub takes : Takes from.plan effort steps steps' calls calls'

-- What a refused order took: nothing if the console had ended. Otherwise it is what leads to the mark that couldn't be
-- fetched. If the visitor refused the state, the answer says what it took.
abbrev pub TookUntil : Source → (place : ℕ) → Order → RunFault → (steps steps' : ℕ) → (calls calls' : Calls) → Type 0
TookUntil from place order Visitor steps steps' calls calls' = Unit {0}
TookUntil from place order Ended steps steps' calls calls' = (steps' ≡ steps) × (calls' ≡ calls)
TookUntil from place order fault steps steps' calls calls' = StopsAt from place order fault steps steps' calls calls'
