-- No public clause cites this file. What is still to come of the actions of a list.
use Rattle.std.specs.Prelude.{List}
use Rattle.plan_types.specs.declared.action.Action.{Action}
use Rattle.reversal.specs.declared.actions.Actions as in_memory
use Rattle.reversal.specs.declared.actions.Actions.TheVariants.{Listed, Streamed, Periodic, Multistage}

abbrev pub left_of : in_memory.Actions → List Action
left_of (Listed list) = list
left_of (Streamed revolve) = revolve
left_of (Periodic periodic) = periodic
left_of (Multistage plan) = plan.actions
