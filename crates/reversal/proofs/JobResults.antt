-- How a job was done, by how its session did it, or by what one did that uses no keepers.
use Rattle.std.specs.Global.{Vec}
use Rattle.std.proofs.Common.{◌≡◌, ◌⊎◌, ℕ, ◌≤◌, inl, inr, List, length, Option, refl, sym, subst}
use Rattle.plan_types.specs.declared.action.Action.{Action}
use Rattle.keepers.specs.Claims.{Images}
use Rattle.keepers.specs.declared.sink.Sink as sink
use Rattle.keepers.specs.declared.storage.Storage as storage
use Rattle.level_book.specs.declared.book.Slots.{Slots}
use Rattle.level_book.specs.Valid.{Valid}
use Rattle.rv_machine.specs.MachineState.{MachineState, IsMachineState}
use Rattle.reverse_runner.specs.KeepersSeen.{HaveRoom}
use Rattle.reverse_runner.specs.Rooms.{rooms_by}
use Rattle.reverse_runner.specs.SessionState.{SessionState}
use Rattle.reverse_runner.specs.SessionOfRun.{begun, StandsAt}
use Rattle.endings.specs.declared.outcome.Outcome.{Outcome}
use Rattle.endings.specs.Outcomes.{no_memory}
use Rattle.reversal.specs.Job.{Job}
use Rattle.reversal.specs.Moment.{moment, AllTell}
use Rattle.reversal.specs.Decision.{HaveRoomsFor}
use Rattle.reversal.specs.JobModel.{Works, IsUntouched, IsBegun, Does, DoesBegun}

-- a session that was made for a run is at its start
pub is_begun : (s : SessionState) (first : MachineState) (journal : List (List ℕ)) (unit steps : ℕ) (slots : List Slots) (list : List Action) (counts : List ℕ) →
    s ≡ begun first journal unit steps slots → ((told : ℕ → Option Images) → AllTell (length slots) told → StandsAt first s told) →
    IsMachineState first → Valid steps slots list → length list ≤ 16777216 → HaveRoom steps slots counts → IsBegun s list counts
is_begun s first journal unit steps slots list counts is stands state valid few room =
    let P : SessionState → Type 0 = λ t. ((told : ℕ → Option Images) → AllTell (length slots) told → StandsAt first t told) → IsBegun t list counts in
    subst P (sym is) (λ stands. record { begins = refl; stands = stands; state = state; valid = valid; few = few; room = room }) stands

module _ {X K : Type 0} (writing : sink.Ghosts X) (seen : storage.Ghosts K) where
  -- a job that had all of its own memory
  pub does_begun : (job : Job) (e : Outcome) (out out' : X) (keepers keepers' : Vec K) (steps steps' : ℕ) →
      DoesBegun writing seen job e out out' keepers.items keepers'.items steps steps' → Does writing seen job e out out' keepers keepers' steps steps'
  does_begun job e out out' keepers keepers' steps steps' does = record { works = inr does.works; others = does.others; roomy = λ roomy status. absurd (does.roomy roomy status) }

  -- memory ran out before anything was done
  pub does_nothing : (job : Job) (e : Outcome) (out : X) (keepers : Vec K) (steps : ℕ) → e ≡ no_memory → Does writing seen job e out out keepers keepers steps steps
  does_nothing job e out keepers steps none =
      record { works = inl (none, refl, refl, refl); others = (record { slots_same = refl; places_same = refl }, λ k past. refl); roomy = λ roomy status. (none, refl, refl, refl) }

  -- a job that uses no keepers
  pub does_alone : (job : Job) (e : Outcome) (out out' : X) (keepers : Vec K) (steps steps' : ℕ) → (HaveRoomsFor job (rooms_by seen keepers.items) → ⊥) →
      IsUntouched e out out' keepers keepers steps steps' ⊎ Works job e (moment writing seen out keepers.items steps) (moment writing seen out' keepers.items steps') →
      Does writing seen job e out out' keepers keepers steps steps'
  does_alone job e out out' keepers steps steps' roomless works =
      record { works = works; others = (record { slots_same = refl; places_same = refl }, λ k past. refl); roomy = λ roomy status. absurd (roomless roomy) }
