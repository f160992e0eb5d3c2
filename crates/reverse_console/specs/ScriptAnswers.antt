-- What the orders of a script answer, and what is written. Both are stated by the fetched bytes, and in the run that a
-- console represents.
use Rattle.std.specs.Prelude.{◌≡◌, ◌≢◌, ℕ, ◌-◌, ◌<◌, ◌^◌, Bool, true, false, List, [], ◌∷◌, ◌++◌, length, take, slice_get, Option, Some, None, Result, Err, OnOk, OnErr, IfErr, codes}
use Rattle.std.specs.List.{flat_map}
use Rattle.keepers.specs.Counts.{raised}
use Rattle.keepers.specs.Claims.{Tells, AddsPrefix}
use Rattle.keepers.specs.declared.storage.Storage.{Ghosts}
use Rattle.rv_machine.specs.MachineState.{MachineState}
use Rattle.rv_machine.specs.States.{state_number}
use Rattle.state_image.specs.Line.{line}
use Rattle.reverse_runner.specs.KeepersSeen.{Calls, HaveRoom, told_by}
use Rattle.reverse_runner.specs.declared.fault.RunFault.{RunFault}
use Rattle.reverse_runner.specs.declared.fault.RunFault.TheVariants.{Visitor}
use Rattle.reverse_console.specs.declared.order.Order.{Order}
use Rattle.reverse_console.specs.declared.script.Stop.{Stop}
use Rattle.reverse_console.specs.Answer.{IsAnswer, IsOrder, found_at}
use Rattle.reverse_console.specs.ConsoleState.{ConsoleState, source_of}
use Rattle.reverse_console.specs.Costs.{effort_of, Takes, TookUntil, StopsAt}
use Rattle.reverse_console.specs.Marks.{mark_of, span}
use Rattle.reverse_console.specs.OrderResults.{LeavesConsole, LeavesKeepers, AreSpared}
use Rattle.reverse_console.specs.StateSources.{Source, ComesFrom, IsAnswerSeen}

-- the place after an answer
abbrev pub place_after : ℕ → Option ℕ → ℕ
place_after place (Some n) = n
place_after place None = place

-- ---- by the bytes

-- between two orders: the place, and so far the steps, and the calls of keepers and of the sink
pub record Moment : Type 0 where
  pub place : ℕ
  pub steps : ℕ
  pub calls : Calls
  pub writes : ℕ

abbrev pub moment : ConsoleState → ℕ → Calls → ℕ → Moment
moment c steps calls writes = record { place = c.place; steps = steps; calls = calls; writes = writes }

-- what is written for an answer: the line of the new state, which came from its mark, or `none`
abbrev pub IsTextOf : Source → Option ℕ → List ℕ → Type 0
IsTextOf from (Some n) text = (s : MachineState) × (ComesFrom from (mark_of from.plan n) n s × (text ≡ line n s ++ 10 ∷ []))
IsTextOf from None text = text ≡ codes "none\n"

-- the line was written in one call if there is a new place, and nothing otherwise
abbrev pub IsShown : Source → Option ℕ → Bool → ℕ → ℕ → Option (List ℕ) → Option (List ℕ) → Type 0
IsShown from (Some n) found writes writes' before after =
    (found ≡ true) × (writes' ≡ raised writes 1) × ((text : List ℕ) × (IsTextOf from (Some n) text × Tells before after (λ x y. y ≡ x ++ text)))
IsShown from None found writes writes' before after = (found ≡ false) × (writes' ≡ writes) × (after ≡ before)

-- an order has a line, which was written, or has no new place
pub record IsOrderShown (from : Source) (order : Order) (found : Bool) (old new : Moment) (before after : Option (List ℕ)) : Type 0 where
  pub answer : Option ℕ
  pub seen : IsAnswerSeen from old.place order answer
  pub place : new.place ≡ place_after old.place answer
  pub shown : IsShown from answer found old.writes new.writes before after
  pub takes : Takes from.plan (effort_of from.plan old.place order (found_at found new.place)) old.steps new.steps old.calls new.calls

-- an order was answered, and its text was written in one call
pub record IsAnswered (from : Source) (order : Order) (answer : Option ℕ) (text : List ℕ) (old new : Moment) : Type 0 where
  pub seen : IsAnswerSeen from old.place order answer
  pub place : new.place ≡ place_after old.place answer
  pub says : IsTextOf from answer text
  pub takes : Takes from.plan (effort_of from.plan old.place order answer) old.steps new.steps old.calls new.calls
  pub wrote : new.writes ≡ raised old.writes 1

-- the first of some orders was answered, and then the others were
pub record IsAnsweredFirst (from : Source) (order : Order)
    (Others : List (Option ℕ) → List ℕ → Moment → Moment → Type 0) (answers : List (Option ℕ)) (text : List ℕ) (old new : Moment) : Type 0 where
  pub answer : Option ℕ
  pub rest : List (Option ℕ)
  pub front : List ℕ
  pub back : List ℕ
  pub mid : Moment
  pub answers_are : answers ≡ answer ∷ rest
  pub text_is : text ≡ front ++ back
  pub first : IsAnswered from order answer front old mid
  pub others : Others rest back mid new

-- orders were answered, each from the place where the one before it led, with the texts of their answers
abbrev pub AreAnswered : Source → List Order → List (Option ℕ) → List ℕ → Moment → Moment → Type 0
AreAnswered from [] answers text old new = (answers ≡ []) × (text ≡ []) × (new ≡ old)
AreAnswered from (order ∷ orders) answers text old new = IsAnsweredFirst from order (AreAnswered from orders) answers text old new

-- orders were answered, and just their texts were written
pub record AreWritten (from : Source) (orders : List Order) (old new : Moment) (before after : Option (List ℕ)) : Type 0 where
  pub answers : List (Option ℕ)
  pub text : List ℕ
  pub are : AreAnswered from orders answers text old new
  pub written : Tells before after (λ x y. y ≡ x ++ text)

-- An order had an answer. The sink failed after a part of its text.
pub record StopsWriting (from : Source) (order : Order) (text : List ℕ) (old new : Moment) (before after : Option (List ℕ)) : Type 0 where
  pub answer : Option ℕ
  pub piece : List ℕ
  pub seen : IsAnswerSeen from old.place order answer
  pub says : IsTextOf from answer piece
  pub takes : Takes from.plan (effort_of from.plan old.place order answer) old.steps new.steps old.calls new.calls
  pub wrote : new.writes ≡ raised old.writes 1
  pub part : Tells before after (λ x y. AddsPrefix piece (x ++ text) y)

-- An order stopped at a mark that couldn't be fetched, and wrote nothing.
pub record StopsGetting (from : Source) (order : Order) (fault : RunFault) (text : List ℕ) (old new : Moment) (before after : Option (List ℕ)) : Type 0 where
  pub stops : StopsAt from old.place order fault old.steps new.steps old.calls new.calls
  pub none : new.writes ≡ old.writes
  pub written : Tells before after (λ x y. y ≡ x ++ text)

abbrev pub BreaksOff : Source → Order → RunFault → List ℕ → Moment → Moment → Option (List ℕ) → Option (List ℕ) → Type 0
BreaksOff from order Visitor text old new before after = StopsWriting from order text old new before after
BreaksOff from order fault text old new before after = StopsGetting from order fault text old new before after

-- The orders before this one were answered, and this one was not. Orders are counted from 1.
pub record IsBrokenOff (from : Source) (orders : List Order) (at : ℕ) (fault : RunFault) (old new : Moment) (before after : Option (List ℕ)) : Type 0 where
  pub from_one : 0 < at
  pub order : Order
  pub there : slice_get orders (at - 1) ≡ Some order
  pub answers : List (Option ℕ)
  pub text : List ℕ
  pub mid : Moment
  pub are : AreAnswered from (take (at - 1) orders) answers text old mid
  pub stays : new.place ≡ mid.place
  pub breaks : BreaksOff from order fault text mid new before after

-- A console has not ended, and an order fits its run. There are keepers with so many slots.
pub record AwaitsOrder (c : ConsoleState) (next : Order) (counts : List ℕ) : Type 0 where
  pub lasts : c.ended ≡ false
  pub order : IsOrder c.plan.count next
  pub room : HaveRoom (span c.plan) c.plan.slots counts

-- likewise for the orders of a script
pub record AwaitsOrders (c : ConsoleState) (list : List Order) (counts : List ℕ) : Type 0 where
  pub lasts : c.ended ≡ false
  pub few : length list < 2 ^ 32
  pub orders : (i : ℕ) (order : Order) → slice_get list i ≡ Some order → IsOrder c.plan.count order
  pub room : HaveRoom (span c.plan) c.plan.slots counts

-- The sink failed after a part of the text of an answer. The order was looked for and reached.
pub record MissesText (from : Source) (order : Order) (old new : Moment) (before after : Option (List ℕ)) : Type 0 where
  pub answer : Option ℕ
  pub piece : List ℕ
  pub seen : IsAnswerSeen from old.place order answer
  pub says : IsTextOf from answer piece
  pub wrote : new.writes ≡ raised old.writes 1
  pub part : Tells before after (AddsPrefix piece)
  pub takes : Takes from.plan (effort_of from.plan old.place order answer) old.steps new.steps old.calls new.calls

-- What an order that writes to a sink leaves, and which refusals it can't have. A refusal wrote nothing, unless the sink
-- failed.
pub record LeavesOrder {K T : Type 0} (seen : Ghosts K) (order : Order) (result : Result T RunFault) (c c' : ConsoleState) (ks ls : List K)
    (old new : Moment) (before after : Option (List ℕ)) : Type 0 where
  pub missed : result ≡ Err Visitor → MissesText (source_of c (told_by seen ks)) order old new before after
  pub unwritten : OnErr result (result ≢ Err Visitor → (after ≡ before) × (new.writes ≡ old.writes))
  pub took_until : IfErr result (λ fault. TookUntil (source_of c (told_by seen ks)) c.place order fault old.steps new.steps old.calls new.calls)
  pub leaves : LeavesConsole result c c'
  pub spared : AreSpared seen c result ks
  pub keepers : LeavesKeepers seen (length c.plan.slots) result ks ls

-- so a script ended: all orders were answered, or those before the refused one
pub record AreAnsweredBy (from : Source) (orders : List Order) (result : Result (Unit {0}) Stop) (old new : Moment)
    (before after : Option (List ℕ)) : Type 0 where
  pub written : OnOk result (AreWritten from orders old new before after)
  pub broken_off : IfErr result (λ stop. IsBrokenOff from orders stop.order stop.fault old new before after)

-- ---- in a run

-- The answers to orders, each from the place where the one before it led, and the last place. The answers are those of
-- an index into the states of the run.
abbrev pub AreAnswers : MachineState → List (List ℕ) → ℕ → ℕ → List Order → List (Option ℕ) → ℕ → Type 0
AreAnswers first journal count place [] answers end = (answers ≡ []) × (end ≡ place)
AreAnswers first journal count place (order ∷ orders) answers end =
    (answer : Option ℕ)
    × ((rest : List (Option ℕ))
    × ((answers ≡ answer ∷ rest) × IsAnswer first journal count place order answer × AreAnswers first journal count (place_after place answer) orders rest end))

-- what is written of an answer: the line of the state with its number, or `none`
abbrev pub answer_text : MachineState → List (List ℕ) → Option ℕ → List ℕ
answer_text first journal (Some n) = line n (state_number first journal n) ++ 10 ∷ []
answer_text first journal None = codes "none\n"

abbrev pub script_text : MachineState → List (List ℕ) → List (Option ℕ) → List ℕ
script_text first journal answers = flat_map (answer_text first journal) answers

-- orders have these answers in a run, and just their lines were written
pub record AreWrittenIn (first : MachineState) (journal : List (List ℕ)) (count place : ℕ)
    (orders : List Order) (end : ℕ) (before after : Option (List ℕ)) : Type 0 where
  pub answers : List (Option ℕ)
  pub are : AreAnswers first journal count place orders answers end
  pub written : Tells before after (λ x y. y ≡ x ++ script_text first journal answers)

-- if the sink failed, a part of the next answer was written after them, and nothing otherwise
abbrev pub BreaksOffIn : MachineState → List (List ℕ) → ℕ → ℕ → Order → RunFault → List (Option ℕ) → Option (List ℕ) → Option (List ℕ) → Type 0
BreaksOffIn first journal count place order Visitor answers before after =
    (answer : Option ℕ) × (IsAnswer first journal count place order answer
    × Tells before after (λ x y. AddsPrefix (answer_text first journal answer) (x ++ script_text first journal answers) y))
BreaksOffIn first journal count place order _ answers before after = Tells before after (λ x y. y ≡ x ++ script_text first journal answers)

-- The orders before this one were answered, and this one was not. Orders are counted from 1.
pub record IsBrokenOffIn (first : MachineState) (journal : List (List ℕ)) (count place : ℕ) (orders : List Order)
    (at : ℕ) (fault : RunFault) (end : ℕ) (before after : Option (List ℕ)) : Type 0 where
  pub from_one : 0 < at
  pub order : Order
  pub there : slice_get orders (at - 1) ≡ Some order
  pub answers : List (Option ℕ)
  pub are : AreAnswers first journal count place (take (at - 1) orders) answers end
  pub breaks : BreaksOffIn first journal count end order fault answers before after

-- so a script ended
pub record AreAnsweredIn (first : MachineState) (journal : List (List ℕ)) (count place : ℕ) (orders : List Order) (result : Result (Unit {0}) Stop)
    (end : ℕ) (before after : Option (List ℕ)) : Type 0 where
  pub written : OnOk result (AreWrittenIn first journal count place orders end before after)
  pub broken_off : IfErr result (λ stop. IsBrokenOffIn first journal count place orders stop.order stop.fault end before after)
