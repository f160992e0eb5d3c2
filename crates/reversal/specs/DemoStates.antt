-- No public clause cites this file. A demonstration at its start, and one that stops.
use Rattle.std.specs.Prelude.{◌≡◌, ℕ, ◌+◌, List, [], ◌∷◌, map, take, slice_get, Some, None}
use Rattle.plan_types.specs.declared.action.Action.{Action}
use Rattle.level_book.specs.CostFold.{forward}
use Rattle.level_book.specs.Valid.{Valid}
use Rattle.keepers.specs.KeeperState.{KeeperState}
use Rattle.rv_machine.specs.MachineState.{IsMachineState}
use Rattle.reverse_runner.specs.KeepersSeen.{HaveRoom, by_number}
use Rattle.reverse_runner.specs.SessionOfRun.{begun, StandsAt}
use Rattle.reversal.specs.declared.demo.Demonstrated.{Demonstrated}

-- A run. The session is at its start over the keeper, which has room. A valid list is still to come.
pub record IsAtStart (d : Demonstrated) : Type 0 where
  pub state : IsMachineState d.session.work
  pub begun_so : d.session ≡ begun d.session.work d.session.journal 1 d.session.situation.steps d.session.situation.slots
  pub stands : StandsAt d.session.work d.session (by_number None (λ (k : KeeperState). Some k.images) d.keepers.items)
  pub room : HaveRoom d.session.situation.steps d.session.situation.slots (map (λ (k : KeeperState). k.slots) d.keepers.items)
  pub valid : Valid d.session.situation.steps d.session.situation.slots d.actions

-- one keeper in memory, with so many slots
pub record IsOneKeeper (slots : ℕ) (keepers : List KeeperState) : Type 0 where
  pub keeper : KeeperState
  pub one : keepers ≡ keeper ∷ []
  pub slots_of_it : keeper.slots ≡ slots

-- Some actions of the list were performed, but not the next one. The count of steps rose by their forward steps.
pub record BreaksWithin (list : List Action) (old new : ℕ) : Type 0 where
  pub performed : ℕ
  pub next : Action
  pub there : slice_get list performed ≡ Some next
  pub counted : new ≡ old + forward (take performed list)
