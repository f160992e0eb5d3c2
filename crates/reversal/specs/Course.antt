-- The course of a job, one record for each job, and how the job ends. It is done, stopped by a write or by storage, or
-- out of memory.
use Rattle.std.specs.Prelude.{◌≡◌, ◌⊎◌, ℕ, ◌+◌, ◌<◌, ◌≤◌, ◌++◌, List, length, take, slice_get, Option, Some}
use Rattle.keepers.specs.Counts.{raised}
use Rattle.keepers.specs.Claims.{Tells, AddsPrefix}
use Rattle.reverse_runner.specs.KeepersSeen.{Called, CalledBetween}
use Rattle.endings.specs.declared.outcome.Outcome.{Outcome}
use Rattle.endings.specs.Outcomes.{done, stopped, keeper_failed, damaged}
use Rattle.reversal.specs.Output.{Adds}
use Rattle.reversal.specs.Moment.{Moment, NothingFails, SinkFails, KeeperFails, AllTell}
use Rattle.reversal.specs.Deeds.{Deed, States, bytes_of, bytes_written, writes_made, steps_made, calls_made, Did, CallsLevel}
use Rattle.reversal.specs.RunTrace.{SameLevels, AllLevels, SparesNext, UnreachedNext}

-- What a job shows: states by their numbers, the step that a question asks for, and what a console's orders did.
pub record Shown : Type 0 where
  pub states : States
  pub answer : Option ℕ
  pub orders : List Deed

-- What a job is, in terms of what it shows. Moments are those before and after the call.
pub record Course : Type 1 where
  -- the number of levels whose keepers are called
  pub levels : ℕ
  -- its deeds, in order; also what they write, and their steps, as the job defines them
  pub deeds : Shown → List Deed
  pub output : Shown → List ℕ
  pub steps : Shown → ℕ
  -- The place in an ending for a deed with this number. One is for a failed write, one for a keeper that failed or gave
  -- damaged bytes.
  pub write_place : ℕ → ℕ
  pub storage_place : ℕ → ℕ
  -- which states are shown
  pub shows : Shown → Moment → Type 0
  -- what the answer is: if it was given, and if it was partly written after so many deeds
  pub answers : Shown → Moment → Moment → Type 0
  pub answers_partly : Shown → (performed : ℕ) → Moment → Moment → Type 0
  -- what the levels hold after so many deeds
  pub holds : SameLevels → Shown → (performed : ℕ) → Moment → Moment → Type 0
  -- what is damaged of the bytes from a level after so many deeds, by the digests put and got
  pub damage : Shown → (performed level : ℕ) → (put got : List ℕ) → Moment → Moment → Type 0
  -- what was done of the deed after so many, if the keeper of a level failed in it
  pub stops : Shown → (performed level : ℕ) → Moment → Moment → Type 0
  -- the deeds in which memory may run out
  pub may_want : Deed → Type 0

-- ---- progress

-- it was done
pub record Done (course : Course) (shown : Shown) (old new : Moment) : Type 0 where
  pub did : Did (course.deeds shown) old new
  pub output_whole : Tells old.told new.told (Adds (course.output shown))
  pub stepped : new.steps ≡ old.steps + course.steps shown
  pub answered : course.answers shown old new
  pub held : course.holds AllLevels shown (length (course.deeds shown)) old new
  pub quiet : NothingFails old new

-- these bytes were added, and then a part of a piece
abbrev pub AddsAndPart : List ℕ → List ℕ → List ℕ → List ℕ → Type 0
AddsAndPart bytes piece old new = AddsPrefix piece (old ++ bytes) new

-- So many deeds were done. Of the next one some pieces were written, and a part of the following piece, whose write
-- failed. It called no keeper.
pub record DidUntil (ds : List Deed) (performed : ℕ) (old new : Moment) : Type 0 where
  pub deed : Deed
  pub there : slice_get ds performed ≡ Some deed
  pub whole : ℕ
  pub piece : List ℕ
  pub next : slice_get deed.pieces whole ≡ Some piece
  pub added : Tells old.told new.told (AddsAndPart (bytes_written (take performed ds) ++ bytes_of (take whole deed.pieces)) piece)
  pub wrote : new.writes ≡ raised old.writes (writes_made (take performed ds) + (whole + 1))
  pub counted : new.steps ≡ old.steps + steps_made (take performed ds)
  pub called : Called (calls_made (take performed ds)) old.calls new.calls

-- the sink failed in the deed after so many
pub record Stops (course : Course) (shown : Shown) (performed : ℕ) (old new : Moment) : Type 0 where
  pub until : DidUntil (course.deeds shown) performed old new
  pub answered : course.answers_partly shown performed old new
  pub held : course.holds AllLevels shown performed old new
  pub fails : SinkFails old new

-- So many deeds were done, but not the next one. It made some of its calls of keepers, and perhaps took some steps.
pub record BreaksOff (ds : List Deed) (performed : ℕ) (old new : Moment) : Type 0 where
  pub next : Deed
  pub there : slice_get ds performed ≡ Some next
  pub added : Tells old.told new.told (Adds (bytes_written (take performed ds)))
  pub wrote : new.writes ≡ raised old.writes (writes_made (take performed ds))
  pub steps_least : old.steps + steps_made (take performed ds) ≤ new.steps
  pub steps_most : new.steps ≤ old.steps + steps_made (take performed ds) + next.spent
  pub called : CalledBetween (calls_made (take performed ds)) (calls_made (take (performed + 1) ds)) old.calls new.calls

-- the keeper of a level failed in the deed after so many, which calls it
pub record FailsAt (course : Course) (shown : Shown) (performed level : ℕ) (old new : Moment) : Type 0 where
  pub breaks : BreaksOff (course.deeds shown) performed old new
  pub calls : CallsLevel breaks.next level
  pub held : course.holds (UnreachedNext level) shown performed old new
  pub stopped_so : course.stops shown performed level old new
  pub fails : KeeperFails level old new

-- The deed after so many fetches an image of a level. The bytes that came back have another digest than those put. Or
-- they have the same digest, and are no image of this machine. This never happens if the keepers claim their content.
pub record DamagedAt (course : Course) (shown : Shown) (performed level : ℕ) (put got : List ℕ) (old new : Moment) : Type 0 where
  pub breaks : BreaksOff (course.deeds shown) performed old new
  pub gets : 0 < breaks.next.calls.gets level
  pub damaged : course.damage shown performed level put got old new
  pub silent : AllTell course.levels old.images → ⊥
  pub held : course.holds AllLevels shown performed old new
  pub quiet : NothingFails old new

-- memory ran out in the deed after so many
pub record Halts (course : Course) (shown : Shown) (performed : ℕ) (old new : Moment) : Type 0 where
  pub breaks : BreaksOff (course.deeds shown) performed old new
  pub wants : course.may_want breaks.next
  pub held : course.holds SparesNext shown performed old new
  pub quiet : NothingFails old new

-- ---- how it ends

-- How a job ends, and what it leaves. It was done, or it stopped in the next deed: the sink failed, a keeper failed, or
-- an image was damaged. Places count from 1.
abbrev pub Ends : Course → Shown → Outcome → Moment → Moment → Type 0
Ends course shown e old new =
    ((e ≡ done) × Done course shown old new)
    ⊎ ((performed : ℕ) × (e ≡ stopped (course.write_place (performed + 1))) × Stops course shown performed old new)
    ⊎ ((performed : ℕ) × (level : ℕ) × (e ≡ keeper_failed (course.storage_place (performed + 1)) level) × FailsAt course shown performed level old new)
    ⊎ ((performed : ℕ) × (level : ℕ) × (put : List ℕ) × (got : List ℕ) × (e ≡ damaged (course.storage_place (performed + 1)) level put got)
    × DamagedAt course shown performed level put got old new)

-- how a job ends, by what it shows
abbrev pub EndsShowing : Course → Outcome → Moment → Moment → Type 0
EndsShowing course e old new = (shown : Shown) × (course.shows shown old × Ends course shown e old new)

-- memory ran out in one of its deeds
abbrev pub HaltsShowing : Course → Moment → Moment → Type 0
HaltsShowing course old new = (shown : Shown) × (course.shows shown old × ((performed : ℕ) × Halts course shown performed old new))
