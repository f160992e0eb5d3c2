-- What holds of runs and of a console's answers over any keepers, with its exception.
use Rattle.std.specs.Prelude.{◌≡◌, ◌⊎◌, ℕ, ◌+◌, List, [], ◌∷◌, take, Some, Contains}
use Rattle.std.proofs.Common.{inl, inr}
use Rattle.keepers.specs.Claims.{Tells}
use Rattle.rv_machine.specs.MachineState.{MachineState}
use Rattle.reverse_runner.specs.ActionEffects.{Holdings}
use Rattle.reverse_runner.specs.StateOrder.{handed}
use Rattle.reverse_queries.specs.Collision.{CollidesOn}
use Rattle.reverse_console.specs.declared.order.Order.{Order}
use Rattle.reverse_console.specs.Collision.{AnswerCollides, TextCollides}
use Rattle.reverse_console.specs.Costs.{Effort, BreaksAt, IsSeenAt}
use Rattle.reverse_console.specs.Marks.{MarkPlan}
use Rattle.reverse_console.specs.ScriptAnswers.{place_after}
use Rattle.reverse_console.specs.StateSources.{Source}
use Rattle.reversal.specs.CommandConsole.{IsAnswered, AreOfOrders, by_marks}
use Rattle.reversal.specs.Deeds.{Deed, States}
use Rattle.reversal.specs.Job.{Run, last_of, state_of, unit_state}
use Rattle.reversal.specs.Moment.{Moment}
use Rattle.reversal.specs.Output.{lines_down, AddsFrontOf}

-- The states that a run shows, by its performed actions and the next one, are its own with their numbers. Otherwise a
-- performed action fetched a collision.
abbrev pub ShowsItsStatesOrCollides : Run → (performed : ℕ) → States → (ℕ → Holdings) → Type 0
ShowsItsStatesOrCollides run performed states held =
    ((n : ℕ) → Contains (handed run.unit run.steps (take (performed + 1) run.list)) n → states n ≡ state_of run n)
    ⊎ CollidesOn (unit_state run) (take performed run.list) held

-- A run wrote the beginning of its lines. Otherwise a performed action fetched a collision.
abbrev pub WritesTheBeginningOrCollides : Run → (performed : ℕ) → (ℕ → Holdings) → Moment → Moment → Type 0
WritesTheBeginningOrCollides run performed held old new =
    Tells old.told new.told (AddsFrontOf (lines_down (state_of run) (last_of run))) ⊎ CollidesOn (unit_state run) (take performed run.list) held

-- an order that stopped had found its answer from bytes that collide with the image of a mark
abbrev pub FoundCollides : MachineState → (from : Source) (p : MarkPlan) (place : ℕ) (order : Order) (mark : ℕ) (effort : Effort) → BreaksAt (IsSeenAt from place order) p place order mark effort → Type 0
FoundCollides first from p place order mark effort (inl looking) = ⊥
FoundCollides first from p place order mark effort (inr going) = AnswerCollides first from place order (Some going.0) going.1.0

-- an order was answered from such bytes, or its text was, or so were the other orders
abbrev pub AnsweredCollides : MachineState → (from : Source) (p : MarkPlan) (Broken : ℕ → Type 0) (Others : ℕ → List Deed → Type 0) (OthersCollide : (place : ℕ) (deeds : List Deed) → Others place deeds → Type 0)
    (place : ℕ) (order : Order) (deeds : List Deed) → IsAnswered p (by_marks from Broken) Others place order deeds → Type 0
AnsweredCollides first from p Broken Others OthersCollide place order deeds a =
    AnswerCollides first from place order a.answer a.is ⊎ TextCollides first from a.answer a.text a.says ⊎ OthersCollide (place_after place a.answer) a.rest a.others

-- one of these orders was
abbrev pub OrdersCollide : MachineState → (p : MarkPlan) (from : Source) (Broken : ℕ → Type 0) (orders : List Order) (place : ℕ) (deeds : List Deed) → AreOfOrders p (by_marks from Broken) orders place deeds → Type 0
OrdersCollide first p from Broken [] place deeds are = ⊥
OrdersCollide first p from Broken (order ∷ orders) place deeds (inl none) = ⊥
OrdersCollide first p from Broken (order ∷ orders) place deeds (inr (inl b)) = FoundCollides first from p place order b.mark b.effort b.at
OrdersCollide first p from Broken (order ∷ orders) place deeds (inr (inr a)) =
    AnsweredCollides first from p Broken (AreOfOrders p (by_marks from Broken) orders) (OrdersCollide first p from Broken orders) place order deeds a
