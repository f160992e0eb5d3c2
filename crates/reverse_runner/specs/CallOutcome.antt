-- What a call leaves of a session's configuration and of a visitor: relations that contracts share.
use Rattle.std.specs.Prelude.{◌≡◌, ◌≢◌, ℕ, ◌≤◌, Option, Result, Err, OnErr}
use Rattle.keepers.specs.Counts.{Rose}
use Rattle.keepers.specs.Claims.{Images}
use Rattle.rv_machine.specs.MachineState.{MachineState, IsMachineState}
use Rattle.reverse_runner.specs.declared.fault.RunFault.{RunFault}
use Rattle.reverse_runner.specs.declared.fault.RunFault.TheVariants.{Visitor}
use Rattle.reverse_runner.specs.declared.visitor.Visitor.{Ghosts}
use Rattle.reverse_runner.specs.HoldingsOfRun.{AreAlone}
use Rattle.reverse_runner.specs.SessionState.{SessionState, levels_of}
use Rattle.reverse_runner.specs.SessionOfRun.{StandsAt}

-- if a session was at its configuration before, it is at its new one
pub record Stays (old : SessionState) (told : ℕ → Option Images) (new : SessionState) (told' : ℕ → Option Images) : Type 0 where
  pub stands : (first : MachineState) → IsMachineState first → StandsAt first old told → StandsAt first new told'
  pub alone : AreAlone (levels_of old told) → AreAlone (levels_of new told')

-- A visitor's or a sink's count of faults rose if it is said to have failed, and only then.
pub record FaultsAfter {A V : Type 0} (fault_count : V → ℕ) (result : Result A RunFault) (old new : V) : Type 0 where
  pub cause : result ≡ Err Visitor → Rose (fault_count old) (fault_count new)
  pub quiet : result ≢ Err Visitor → fault_count new ≡ fault_count old
  pub later : fault_count old ≤ fault_count new

-- So it is with the visitor. After another refusal it is unchanged.
pub record VisitorAfter {A V : Type 0} (g : Ghosts V) (result : Result A RunFault) (old new : V) : Type 0 where
  pub unseen : OnErr result (result ≢ Err Visitor → new ≡ old)
  pub faults : FaultsAfter g.fault_count result old new
