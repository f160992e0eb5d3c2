-- The names that clauses cite, passed on from one place. Declares nothing.
pub use Rattle.reverse_runner.specs.ActionEffects.{Acts, Holdings, IsDecoded}
pub use Rattle.reverse_runner.specs.Collision.{Collides, StandsByDigests}
pub use Rattle.reverse_runner.specs.CallOutcome.{FaultsAfter, Stays, VisitorAfter}
pub use Rattle.reverse_runner.specs.Desks.{KeepersAre}
pub use Rattle.reverse_runner.specs.StateOrder.{countdown, handed, handed_by, numbers_from}
pub use Rattle.reverse_runner.specs.KeepersSeen.{HaveRoom, by_number, calls_to, is_release, slot_counts, told_by}
pub use Rattle.reverse_runner.specs.HoldingsOfRun.{AreAlone, HoldingsStandAt, IsLaidOut}
pub use Rattle.reverse_runner.specs.Rooms.{AreRoomy, image_room, rooms_by}
pub use Rattle.reverse_runner.specs.SessionState.{SamePages, holdings_of, levels_of}
pub use Rattle.reverse_runner.specs.SessionOfRun.{IsNoImage, SessionAfter, StandsAt, begun, pair_read}
pub use Rattle.reverse_runner.specs.Units.{unit_states}
pub use Rattle.reverse_runner.specs.VisitorCalls.{HandsOut, calls_keepers, states_out}
pub use Rattle.reverse_runner.specs.KeeperCallEffects.{IsOfStorage, fault_on}
pub use Rattle.reverse_runner.specs.Workspaces.{Ends, HasUnits, IsReady, tape_in}
pub use Rattle.reverse_runner.specs.DeskGives.{FetchGives, IsOnLevel, KeepGives, MayKeep, ReleaseGives}
pub use Rattle.reverse_runner.specs.KeeperContents.{HoldsJust}
pub use Rattle.reverse_runner.specs.RefusalResidue.{HoldsAllBut, HoldsBesides, MayLeave, Spares}
pub use Rattle.reverse_runner.specs.ActionOutcome.{ActionEnds, HasReason, IsSafe}
