-- Over any keepers the orders of a script are answered in the run, or bytes that came back collide with the image of a mark.
use Rattle.std.proofs.Common.{◌⊎◌, inl, inr, ℕ, List, [], ◌∷◌, Some, sym, subst}
use Rattle.input_journal.specs.Form.{IsRecorded}
use Rattle.rv_machine.specs.MachineState.{MachineState, IsMachineState}
use Rattle.reverse_console.specs.declared.order.Order.{Order}
use Rattle.reverse_console.specs.Answer.{IsAnswer}
use Rattle.reverse_console.specs.Costs.{Effort, BreaksAt, IsSeenAt}
use Rattle.reverse_console.specs.Marks.{MarkPlan}
use Rattle.reverse_console.specs.ScriptAnswers.{place_after}
use Rattle.reverse_console.specs.StateSources.{Source}
use Rattle.reverse_console.specs.MarksOfRun.{KeepsMarks}
use Rattle.reverse_console.proofs.Collision.{answer_or_collides, text_or_collides}
use Rattle.reversal.specs.Collision.{FoundCollides, AnsweredCollides, OrdersCollide}
use Rattle.reversal.specs.CommandConsole.{IsAnswered, AreOfOrders, by_marks, of_run, WentAbout}
use Rattle.reversal.specs.Deeds.{Deed}
use Rattle.reversal.specs.Moment.{Moment}

module _ (first : MachineState) (p : MarkPlan) (from : Source) (Broken : ℕ → Type 0) (is : IsMachineState first) (recorded : IsRecorded from.journal) (keeps : KeepsMarks first from) where
  found_or : (place : ℕ) (order : Order) (mark : ℕ) (effort : Effort) (at : BreaksAt (IsSeenAt from place order) p place order mark effort) →
      BreaksAt (λ n. IsAnswer first from.journal from.plan.count place order (Some n)) p place order mark effort ⊎ FoundCollides first from p place order mark effort at
  found_or place order mark effort (inl looking) = inl (inl looking)
  found_or place order mark effort (inr going) = elim (answer_or_collides first from is recorded keeps place order (Some going.0) going.1.0) [
    | inr c ↦ inr c
    | inl answer ↦ inl (inr (going.0, (answer, going.1.1)))
  ]

  answered_or : (Others Also : ℕ → List Deed → Type 0) (Collide : (place : ℕ) (deeds : List Deed) → Others place deeds → Type 0) →
      ((place : ℕ) (deeds : List Deed) (are : Others place deeds) → Also place deeds ⊎ Collide place deeds are) → (place : ℕ) (order : Order) (deeds : List Deed) (a : IsAnswered p (by_marks from Broken) Others place order deeds) →
      IsAnswered p (of_run first from.journal from.plan.count) Also place order deeds ⊎ AnsweredCollides first from p Broken Others Collide place order deeds a
  answered_or Others Also Collide each place order deeds a = elim (answer_or_collides first from is recorded keeps place order a.answer a.is) [
    | inr c ↦ inr (inl c)
    | inl answer ↦ elim (text_or_collides first from is recorded keeps a.answer a.text a.says) [
      | inr c ↦ inr (inr (inl c))
      | inl text ↦ elim (each (place_after place a.answer) a.rest a.others) [
        | inr c ↦ inr (inr (inr c))
        | inl others ↦ inl (record { answer = a.answer; text = a.text; is = answer; says = text; rest = a.rest; deeds_are = a.deeds_are; others = others })
      ]
    ]
  ]

  orders_or : (orders : List Order) (place : ℕ) (deeds : List Deed) (are : AreOfOrders p (by_marks from Broken) orders place deeds) →
      AreOfOrders p (of_run first from.journal from.plan.count) orders place deeds ⊎ OrdersCollide first p from Broken orders place deeds are
  orders_or [] place deeds are = inl are
  orders_or (order ∷ orders) place deeds (inl none) = inl (inl none)
  orders_or (order ∷ orders) place deeds (inr (inl b)) = elim (found_or place order b.mark b.effort b.at) [
    | inr c ↦ inr c
    | inl at ↦ inl (inr (inl (record { mark = b.mark; effort = b.effort; at = at; broken = tt; deeds_are = b.deeds_are })))
  ]
  orders_or (order ∷ orders) place deeds (inr (inr a)) =
      elim (answered_or (AreOfOrders p (by_marks from Broken) orders) (AreOfOrders p (of_run first from.journal from.plan.count) orders) (OrdersCollide first p from Broken orders) (orders_or orders) place order deeds a) [
        | inr c ↦ inr c
        | inl also ↦ inl (inr (inr also))
      ]

pub script_or_collides : (first : MachineState) (items : List (List ℕ)) (p : MarkPlan) (orders : List Order) (deeds : List Deed) (Broken : Source → ℕ → Type 0) (old new : Moment) → IsMachineState first → IsRecorded items →
    (went : WentAbout first items p orders deeds Broken old new) → AreOfOrders p (of_run first items p.count) orders 0 deeds ⊎ OrdersCollide first p went.from (Broken went.from) orders 0 deeds went.seen
script_or_collides first items p orders deeds Broken old new is recorded went =
    let from = went.from in
    let J : List (List ℕ) → Type 0 = λ j. AreOfOrders p (of_run first j from.plan.count) orders 0 deeds in
    let Q : MarkPlan → Type 0 = λ q. AreOfOrders p (of_run first items q.count) orders 0 deeds in
    elim (orders_or first p from (Broken from) is (subst IsRecorded (sym went.is.journal) recorded) went.is.marks orders 0 deeds went.seen) [
      | inr c ↦ inr c
      | inl are ↦ inl (subst Q went.is.plan (subst J went.is.journal are))
    ]
