-- `console`: the orders of a script move about in a run, using images that are kept at its marks.
use Rattle.std.specs.Prelude.{◌≡◌, ◌⊎◌, ℕ, ◌+◌, ◌-◌, ◌*◌, ◌/◌, ◌<◌, ◌≤◌, max, List, [], ◌∷◌, length, Option, Some}
use Rattle.keepers.specs.Claims.{Images, Tells}
use Rattle.level_book.specs.BookCosts.{BookCosts, slots_of, total_room}
use Rattle.rv_machine.specs.MachineState.{MachineState}
use Rattle.reverse_runner.specs.KeepersSeen.{Called}
use Rattle.reverse_console.specs.declared.order.Order.{Order}
use Rattle.reverse_console.specs.Answer.{IsAnswer}
use Rattle.reverse_console.specs.Costs.{Effort, puts_of, StopsPutting, gets_of, effort_of, BreaksAt}
use Rattle.reverse_console.specs.Marks.{MarkPlan, marked, mark_count}
use Rattle.reverse_console.specs.Script.{IsScript}
use Rattle.reverse_console.specs.ScriptAnswers.{place_after, IsTextOf, answer_text, AreAnswers, script_text}
use Rattle.reverse_console.specs.ScriptFaults.{HasFirstFault}
use Rattle.reverse_console.specs.StateSources.{Source, IsAnswerSeen, IsMarkDamaged}
use Rattle.reverse_console.specs.MarksOfRun.{MarksTell, KeepsMarks}
use Rattle.requests.specs.Request.{Choice}
use Rattle.endings.specs.Outcomes.{no_plan, bad_script}
use Rattle.reversal.specs.Job.{console}
use Rattle.reversal.specs.Moment.{Moment}
use Rattle.reversal.specs.Output.{Adds}
use Rattle.reversal.specs.Deeds.{Deed, writing, bytes_written, steps_made, calls_made, CallsSome}
use Rattle.reversal.specs.Course.{Course}
use Rattle.reversal.specs.Table.{Decision, Table, Decided, needs, reads, keeps, does}
use Rattle.reversal.specs.InputMeaning.{over_book, over_program}

-- State 0 is a mark even without steps, so the keepers need room for one. Some level has a slot.
abbrev pub console_table : List Choice → (steps : ℕ) → (program : List ℕ) → (journal : Option (List ℕ)) → (book script counts : List ℕ) → Table
console_table options steps program journal book script counts =
    over_book book (λ (b : BookCosts).
    keeps (max steps 1) (slots_of b) counts (
    needs (1 ≤ total_room b (max steps 1)) (no_plan steps (total_room b steps) 1) (
    over_program options program journal (λ start items.
    reads (IsScript steps script) (HasFirstFault steps script) bad_script (λ orders.
    does (console start items (record { slots = slots_of b; count = steps }) orders))))))

abbrev pub DecidesConsole : List Choice → ℕ → List ℕ → Option (List ℕ) → List ℕ → List ℕ → List ℕ → Decision → Type 0
DecidesConsole options steps program journal book script counts d = Decided (console_table options steps program journal book script counts) d

-- ---- deeds

-- Sets the marks: each image is put on its level, and the steps to the last mark are taken.
abbrev pub setting_marks : MarkPlan → Deed
setting_marks p = record {
  pieces = [];
  steps = marked p (mark_count p - 1);
  spent = marked p (mark_count p - 1);
  calls = puts_of p (mark_count p);
}

-- An order's move: its marks are fetched, and its steps are taken.
abbrev pub moving : MarkPlan → Effort → Deed
moving p effort = record { pieces = []; steps = effort.steps; spent = effort.steps; calls = gets_of p effort.marks }

-- What makes deeds those of orders: an order's answer, the text of an answer, and the mark where an order stopped.
pub record Words : Type 1 where
  pub answer : (place : ℕ) → Order → Option ℕ → Type 0
  pub text : Option ℕ → List ℕ → Type 0
  pub broken : (mark : ℕ) → Type 0

-- The order's mark couldn't be fetched, or one on the way to its answer. Its move up to there is the last deed.
pub record IsBrokenOff (p : MarkPlan) (words : Words) (place : ℕ) (order : Order) (deeds : List Deed) : Type 0 where
  pub mark : ℕ
  pub effort : Effort
  pub at : BreaksAt (λ n. words.answer place order (Some n)) p place order mark effort
  pub broken : words.broken mark
  pub deeds_are : deeds ≡ moving p effort ∷ []

-- The order has an answer. Its text was written after its move, and the other orders follow at the new place.
pub record IsAnswered (p : MarkPlan) (words : Words) (Others : ℕ → List Deed → Type 0) (place : ℕ) (order : Order) (deeds : List Deed) : Type 0 where
  pub answer : Option ℕ
  pub text : List ℕ
  pub is : words.answer place order answer
  pub says : words.text answer text
  pub rest : List Deed
  pub deeds_are : deeds ≡ moving p (effort_of p place order answer) ∷ writing (text ∷ []) ∷ rest
  pub others : Others (place_after place answer) rest

-- These deeds are those of the first orders, or of all, from a place on. Each order has two deeds: its move, and the
-- writing of its text. The last one may be only a part of a move.
abbrev pub AreOfOrders : MarkPlan → Words → List Order → ℕ → List Deed → Type 0
AreOfOrders p words [] place deeds = deeds ≡ []
AreOfOrders p words (order ∷ orders) place deeds =
    (deeds ≡ []) ⊎ IsBrokenOff p words place order deeds ⊎ IsAnswered p words (AreOfOrders p words orders) place order deeds

-- ---- answers and texts

-- The answer is that of the states that came from marks by the fetched bytes. So is the text.
abbrev pub by_marks : Source → (Broken : ℕ → Type 0) → Words
by_marks from Broken = record { answer = IsAnswerSeen from; text = IsTextOf from; broken = Broken }

-- The answer is that of an index into the states of the run. The text is the line of the state with its number, or
-- `none`.
abbrev pub of_run : MachineState → List (List ℕ) → (count : ℕ) → Words
of_run first journal count = record {
  answer = IsAnswer first journal count;
  text = λ answer text. text ≡ answer_text first journal answer;
  broken = λ mark. Unit {0};
}

-- the source is that of the marks of a run, over keepers that claim these images
pub record IsOfMarks (first : MachineState) (items : List (List ℕ)) (p : MarkPlan) (images : ℕ → Option Images) (from : Source) : Type 0 where
  pub plan : from.plan ≡ p
  pub journal : from.journal ≡ items
  pub told : (k : ℕ) → from.levels.told k ≡ images k
  pub marks : KeepsMarks first from

-- These are the deeds of the orders from state 0 on. They follow from the length and digest kept for each mark's image.
-- If the levels of the marks claim their content, they hold in the run. After the marks were set just these deeds were
-- done, with that of an order that stopped.
pub record WentAbout (first : MachineState) (items : List (List ℕ)) (p : MarkPlan) (orders : List Order) (deeds : List Deed)
    (Broken : Source → ℕ → Type 0) (old new : Moment) : Type 0 where
  pub from : Source
  pub is : IsOfMarks first items p new.images from
  pub seen : AreOfOrders p (by_marks from (Broken from)) orders 0 deeds
  pub in_run : MarksTell p old.images → AreOfOrders p (of_run first items p.count) orders 0 deeds
  pub counted : new.steps ≡ old.steps + steps_made (setting_marks p ∷ deeds)
  pub called : Called (calls_made (setting_marks p ∷ deeds)) old.calls new.calls

-- any mark may be the one at which the last order stopped
abbrev pub AnyMark : Source → ℕ → Type 0
AnyMark from mark = Unit {0}

-- What came back for the mark at which the last order stopped is damaged. Its move was the last deed.
pub record IsDamagedMark (first : MachineState) (items : List (List ℕ)) (p : MarkPlan) (orders : List Order) (deeds : List Deed)
    (performed level : ℕ) (put got : List ℕ) (old new : Moment) : Type 0 where
  pub last : length deeds ≡ performed
  pub went : WentAbout first items p orders deeds (λ from mark. IsMarkDamaged from mark level put got) old new

-- First the marks are set, up to one that isn't put. Then each order is two deeds. At an ending the place is the number
-- of the order, and 0 for the marks.
abbrev pub console_course : MachineState → List (List ℕ) → MarkPlan → List Order → Course
console_course first journal p orders = record {
  levels = length p.slots;
  deeds = λ shown. setting_marks p ∷ shown.orders;
  output = λ shown. bytes_written shown.orders;
  steps = λ shown. marked p (mark_count p - 1) + steps_made shown.orders;
  write_place = λ place. place / 2;
  storage_place = λ place. place / 2;
  shows = λ shown old. Unit {0};
  answers = λ shown old new. length shown.orders ≡ 2 * length orders;
  answers_partly = λ shown performed old new. Unit {0};
  holds = λ Same shown performed old new. 0 < performed → WentAbout first journal p orders shown.orders AnyMark old new;
  damage = λ shown performed level put got old new. IsDamagedMark first journal p orders shown.orders performed level put got old new;
  stops = λ shown performed level old new. performed ≡ 0 → StopsPutting p level old.steps new.steps old.calls new.calls;
  may_want = CallsSome;
}

-- ---- in one sentence

-- The orders were answered one by one, by an index into the states of the run. The first starts at state 0, and each
-- other where the one before it led. Just the text of each answer was written: the line of the state with its number,
-- or `none`.
pub record WritesAnswers (first : MachineState) (items : List (List ℕ)) (p : MarkPlan) (orders : List Order) (old new : Moment) : Type 0 where
  pub answers : List (Option ℕ)
  pub end : ℕ
  pub are : AreAnswers first items p.count 0 orders answers end
  pub written : Tells old.told new.told (Adds (script_text first items answers))
