-- What follows where a job was done: a script was answered order by order; and where no count of faults rises a job is done.
use Rattle.std.proofs.Common.{◌≡◌, inl, inr, ℕ, ◌+◌, ◌*◌, List, [], ◌∷◌, ◌++◌, length, append-nil, Option, refl, ◌∙◌, ap, subst, arith}
use Rattle.keepers.specs.Claims.{Tells}
use Rattle.rv_machine.specs.MachineState.{MachineState}
use Rattle.reverse_console.specs.declared.order.Order.{Order}
use Rattle.reverse_console.specs.Marks.{MarkPlan}
use Rattle.reverse_console.specs.ScriptAnswers.{AreAnswers, answer_text, script_text}
use Rattle.reverse_console.specs.MarksOfRun.{MarksTell}
use Rattle.endings.specs.declared.outcome.Outcome.{Outcome}
use Rattle.endings.specs.Outcomes.{done}
use Rattle.reversal.specs.Output.{Adds}
use Rattle.reversal.specs.Moment.{Moment, NothingRises, AllTell}
use Rattle.reversal.specs.Deeds.{Deed, bytes_written}
use Rattle.reversal.specs.Course.{Shown, Course, Done, EndsShowing}
use Rattle.reversal.specs.CommandConsole.{AreOfOrders, of_run, WritesAnswers, console_course}

-- the deeds of orders that were all answered write the texts of their answers
record AreAll (first : MachineState) (items : List (List ℕ)) (count place : ℕ) (orders : List Order) (deeds : List Deed) : Type 0 where
  answers : List (Option ℕ)
  end : ℕ
  are : AreAnswers first items count place orders answers end
  bytes : bytes_written deeds ≡ script_text first items answers

all_answers : (first : MachineState) (items : List (List ℕ)) (p : MarkPlan) (orders : List Order) (place : ℕ) (deeds : List Deed) → AreOfOrders p (of_run first items p.count) orders place deeds → length deeds ≡ 2 * length orders →
    AreAll first items p.count place orders deeds
all_answers first items p [] place deeds are long = record { answers = []; end = place; are = (refl, refl); bytes = ap bytes_written are }
all_answers first items p (order ∷ orders) place deeds (inl none) long = absurd (let short = ap (λ (l : List Deed). length l) none in omega (arith, short, long))
all_answers first items p (order ∷ orders) place deeds (inr (inl b)) long = absurd (let short = ap (λ (l : List Deed). length l) b.deeds_are in omega (arith, short, long))
all_answers first items p (order ∷ orders) place deeds (inr (inr a)) long =
    let count = ap (λ (l : List Deed). length l) a.deeds_are in
    let rest = all_answers first items p orders _ a.rest a.others (omega (arith, count, long)) in
    record {
      answers = a.answer ∷ rest.answers;
      end = rest.end;
      are = (a.answer, (rest.answers, (refl, a.is, rest.are)));
      bytes =
          ap bytes_written a.deeds_are
          ∙ ap (λ (l : List ℕ). l ++ bytes_written a.rest) (append-nil a.text ∙ a.says)
          ∙ ap (λ (l : List ℕ). answer_text first items a.answer ++ l) rest.bytes;
    }

pub writes_answers : (first : MachineState) (items : List (List ℕ)) (p : MarkPlan) (orders : List Order) (shown : Shown) (old new : Moment) → MarksTell p old.images → Done (console_course first items p orders) shown old new →
    WritesAnswers first items p orders old new
writes_answers first items p orders shown old new tells finished =
    let went = finished.held (omega arith) in
    let all = all_answers first items p orders 0 shown.orders (went.in_run tells) finished.answered in
    let T : List ℕ → Type 0 = λ l. Tells old.told new.told (Adds l) in
    record { answers = all.answers; end = all.end; are = all.are; written = subst T all.bytes finished.output_whole }

-- ---- where no count of faults rises

pub done_where_nothing_rises : (course : Course) (e : Outcome) (old new : Moment) → EndsShowing course e old new → AllTell course.levels old.images → NothingRises old new → (e ≡ done) × ((shown : Shown) × Done course shown old new)
done_where_nothing_rises course e old new ends tells none = elim ends.1.1 [
  | inl finished ↦ (finished.0, (ends.0, finished.1))
  | inr more ↦ elim more [
    | inl sink ↦ absurd (none.sink sink.2.fails.sink)
    | inr faults ↦ elim faults [
      | inl keeper ↦ absurd (none.keepers keeper.1 keeper.3.fails.keeper)
      | inr damage ↦ absurd (damage.5.silent tells)
    ]
  ]
]
