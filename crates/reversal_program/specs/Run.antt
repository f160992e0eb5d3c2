-- What a call of the program does to its objects: what the top call of reversal does.
use Rattle.std.specs.Prelude.{◌≡◌, ◌≢◌, ◌⊎◌, ◌↔◌, ℕ, List, ◌++◌, map, take, Option, None}
use Rattle.keepers.specs.Counts.{Rose}
use Rattle.keepers.specs.Claims.{Files}
use Rattle.keepers.specs.AnyKeeper.{AnyKeeper, told_of, slots_of, puts_of, gets_of, frees_of, faults_of, room_of, place_of}
use Rattle.keepers.specs.ExternalState.{writer_of, writes_of, sink_faults_of}
use Rattle.keepers.specs.declared.stdout_sink.StdoutSink.{StdoutSink}
use Rattle.reverse_runner.specs.KeepersSeen.{by_number}
use Rattle.endings.specs.declared.ended.Ended.{Ended}
use Rattle.requests.specs.Request.{Request, Says}
use Rattle.requests.specs.Bounds.{RefusesWords, Asks}
use Rattle.requests.specs.Inputs.{inputs_of, names, FailsAtInput}
use Rattle.endings.specs.declared.outcome.Outcome.{Outcome}
use Rattle.endings.specs.Outcomes.{no_memory, unreadable}
use Rattle.endings.specs.Endings.{ended_of}
use Rattle.reversal.specs.Table.{Decision, accept}
use Rattle.reversal.specs.RunStart.{Begins, BeginsBy}
use Rattle.reversal.specs.Decision.{course_of, Comes, StayInPlace, KeepsOthers, HaveRoomsFor, EndsBy, IsOfJob}
use Rattle.reversal.specs.Job.{Job}
use Rattle.reversal.specs.Moment.{Moment, moment}
use Rattle.reversal.specs.Course.{HaltsShowing}

-- the program's objects at one moment, by what the disks and the writer claim
abbrev pub seen : {D W : Type 0} → (D → Option Files) → (W → Option (List ℕ)) → StdoutSink W → List (AnyKeeper D) → ℕ → Moment
seen told contents out keepers steps = moment
    (record { told = λ s. contents (writer_of s); call_count = writes_of; fault_count = sink_faults_of })
    (record {
      told = told_of told;
      slot_count = slots_of;
      put_count = puts_of;
      get_count = gets_of;
      free_count = frees_of;
      fault_count = faults_of;
      room_bytes = room_of;
      place = place_of;
    })
    out keepers steps

-- A call by these words, over inputs that claim this, from the objects before it to those after it. The fields are the
-- clauses of the top call, in their order.
pub record IsRun {D W : Type 0} (told : D → Option Files) (contents : W → Option (List ℕ)) (words : List (List ℕ)) (given : Option Files)
    (asked asked' : List (List ℕ)) (input_faults input_faults' : ℕ) (keepers keepers' : List (AnyKeeper D)) (out out' : StdoutSink W) (steps steps' : ℕ)
    (ended : Ended) : Type 0 where
  pub says : (ended.status ≡ 2) ↔ ((r : Request) → Says words r → ⊥)
  pub unread : (o : Outcome) → RefusesWords words o → (ended ≡ ended_of o) × (asked' ≡ asked) × (input_faults' ≡ input_faults)
  pub asks : (r : Request) → Asks words r → (k : ℕ) × (asked' ≡ asked ++ take k (names (inputs_of r.command)))
  pub input : (r : Request) → Asks words r → ended.status ≡ 3 →
      (ended ≡ ended_of (unreadable ended.place)) × FailsAtInput (inputs_of r.command) given ended.place asked asked'
  pub input_cause : ended.status ≡ 3 → Rose input_faults input_faults'
  pub input_quiet : ended.status ≢ 3 → input_faults' ≡ input_faults
  pub decided : (r : Request) → Asks words r → ended.status ≢ 3 → ended.status ≢ 17 → (d : Decision)
      × Comes r given asked asked' (map slots_of keepers) d
      × KeepsOthers slots_of place_of d keepers keepers'
      × EndsBy d ended (seen told contents out keepers steps) (seen told contents out' keepers' steps')
      × BeginsBy d
  pub memory : ended.status ≡ 17 → (ended ≡ ended_of no_memory) × (((out' ≡ out) × (keepers' ≡ keepers) × (steps' ≡ steps))
      ⊎ ((r : Request) × Asks words r × (job : Job)
      × Comes r given asked asked' (map slots_of keepers) (accept job)
      × Begins job
      × KeepsOthers slots_of place_of (accept job) keepers keepers'
      × HaltsShowing (course_of job) (seen told contents out keepers steps) (seen told contents out' keepers' steps')
      × (HaveRoomsFor job (by_number None room_of keepers) → (out' ≡ out) × (keepers' ≡ keepers) × (steps' ≡ steps))))
  pub stay : StayInPlace slots_of place_of keepers keepers'
  pub untouched : (IsOfJob ended.status → ⊥) → (out' ≡ out) × (keepers' ≡ keepers) × (steps' ≡ steps)
