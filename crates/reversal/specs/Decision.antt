-- The decision on a request by its inputs: one refusal with its ending, or one job. Also how a call ends by the
-- decision. A command is a row of `table_of`, and a job one of `course_of`. A table reads like the order of refusals.
-- The first line that isn't met decides, and the last line is the job.
use Rattle.std.specs.Prelude.{◌≡◌, ◌⊎◌, ℕ, ◌+◌, ◌*◌, ◌≤◌, ◌++◌, slice_get, List, [], ◌∷◌, length, map, take, Option, Some}
use Rattle.keepers.specs.Claims.{Files, Location, WhereTold}
use Rattle.reverse_runner.specs.Rooms.{image_room, AreRoomy}
use Rattle.endings.specs.declared.outcome.Outcome.{Outcome}
use Rattle.endings.specs.declared.ended.Ended.{Ended}
use Rattle.endings.specs.Endings.{ended_of}
use Rattle.requests.specs.Request.{Choice, unit_count, plan, plan_periodic, certify, cost, find, asm, disasm, console as console_command, demo, Command, run, check, Request, ask as ask_command}
use Rattle.endings.specs.Outcomes.{unreadable, too_long}
use Rattle.requests.specs.Operands.{by_name, question_bound, limit_of}
use Rattle.requests.specs.Loaded.{Loaded, loaded_of}
use Rattle.requests.specs.Bounds.{IsWithin}
use Rattle.requests.specs.Inputs.{Input, inputs_of, names, contents, asked_count}
use Rattle.reversal.specs.Job.{ask, Job, perform, seek, write, console, demonstrate}
use Rattle.reversal.specs.Moment.{Moment}
use Rattle.reversal.specs.Course.{Course, EndsShowing}
use Rattle.reversal.specs.Table.{Decision, Need, Table, Decided, refuse, accept, grants}
use Rattle.reversal.specs.InputMeaning.{over_loaded}
use Rattle.reversal.specs.Texts.{texts_course}
use Rattle.reversal.specs.CommandRun.{performing}
use Rattle.reversal.specs.CommandAsk.{asking}
use Rattle.reversal.specs.CommandPlan.{plan_table, plan_periodic_table}
use Rattle.reversal.specs.CommandCheck.{check_table}
use Rattle.reversal.specs.CommandCost.{cost_table}
use Rattle.reversal.specs.CommandCertify.{certify_table}
use Rattle.reversal.specs.CommandAsm.{asm_table, disasm_table}
use Rattle.reversal.specs.CommandConsole.{console_table, console_course}
use Rattle.reversal.specs.CommandDemo.{demo_table, demonstrating}
use Rattle.reversal.specs.CommandFind.{find_table, searching}

-- Each input is there and within its limit, and the lines below decide by their bytes. The first that is missing or too
-- long is refused with its number, which counts on from `place`.
abbrev pub Take : ℕ → List Input → List (Option (List ℕ)) → Decision → (List (List ℕ) → Type 0) → Type 0
Take place [] given d below = below []
Take place (i ∷ is) (Some bytes ∷ given) d below =
    Need (length bytes ≤ limit_of i.kind) (too_long place (limit_of i.kind)) d (Take (place + 1) is given d (λ others. below (bytes ∷ others)))
Take place (i ∷ is) given d below = d ≡ refuse (unreadable place)

-- The table of a command, by what was read for it and the keepers' slots. The number of a question is within its bounds.
abbrev pub table_of : List Choice → Command → Loaded → List ℕ → Table
table_of options (run c) l slots = over_loaded perform options c.schedule c.run.steps l slots
table_of options (plan c) l slots = plan_table c.kind c.steps l.book
table_of options (plan_periodic c) l slots = plan_periodic_table c.steps c.period l.book
table_of options (check c) l slots = check_table c.steps l.book l.schedule
table_of options (certify c) l slots = certify_table c.steps l.book l.schedule l.certificate
table_of options (cost c) l slots = cost_table c.steps l.book l.schedule
table_of options (ask_command c) l slots =
    grants (IsWithin (question_bound (unit_count options * c.run.steps) c.question))
    (over_loaded (ask c.question) options (by_name c.schedule) c.run.steps l slots)
table_of options (find c) l slots = find_table options c.steps c.digest l.program l.journal
table_of options (asm c) l slots = asm_table l.source
table_of options (disasm c) l slots = disasm_table l.words
table_of options (console_command c) l slots = console_table options c.steps l.program l.journal l.book l.script slots
table_of options (demo c) l slots = demo_table c.number c.steps c.slots

-- the decision on a request by what was read for it
abbrev pub DecidesLoaded : List Choice → Command → Loaded → List ℕ → Decision → Type 0
DecidesLoaded options command l slots d = Decided (table_of options command l slots) d

-- and by what is there under the names of its inputs
abbrev pub Decides : Request → List (Option (List ℕ)) → List ℕ → Decision → Type 0
Decides r given slots d = Take 1 (inputs_of r.command) given d (λ bytes. DecidesLoaded r.options r.command (loaded_of (inputs_of r.command) bytes) slots d)

-- ---- the decision on a call

-- The decision follows from the content of the inputs: what they claim, or any bytes if they claim nothing. The inputs
-- were asked for these names, up to the first that is missing or too long.
pub record Comes (r : Request) (told : Option Files) (before after : List (List ℕ)) (slots : List ℕ) (d : Decision) : Type 0 where
  pub given : List (Option (List ℕ))
  pub as_told : WhereTold told (λ files. given ≡ contents files (inputs_of r.command))
  pub decides : Decides r given slots d
  pub asked : after ≡ before ++ take (asked_count (inputs_of r.command) given) (names (inputs_of r.command))

-- the course of a job
abbrev pub course_of : Job → Course
course_of (perform over) = performing over
course_of (ask question over) = asking question over
course_of (seek first journal steps workers digest) = searching first journal steps workers digest
course_of (write texts) = texts_course texts
course_of (console first journal p orders) = console_course first journal p orders
course_of (demonstrate number first steps slots) = demonstrating number first steps slots

-- how a call ends by a decision: with the refusal's ending, or with that of a job and what it shows
abbrev pub EndsBy : Decision → Ended → Moment → Moment → Type 0
EndsBy (refuse refusal) e old new = e ≡ ended_of refusal
EndsBy (accept job) e old new = (outcome : Outcome) × (e ≡ ended_of outcome) × EndsShowing (course_of job) outcome old new

-- the keepers are the same: each has the same slots, in the same place
pub record StayInPlace {K : Type 0} (slots : K → ℕ) (place : K → Location) (old new : List K) : Type 0 where
  pub slots_same : map slots new ≡ map slots old
  pub places_same : map place new ≡ map place old

-- which keepers a decision leaves unchanged: all for a refusal, and otherwise those past the levels of the job
abbrev pub KeepsOthers : {K : Type 0} → (K → ℕ) → (K → Location) → Decision → List K → List K → Type 0
KeepsOthers slots place (refuse refusal) old new = new ≡ old
KeepsOthers slots place (accept job) old new = StayInPlace slots place old new × ((k : ℕ) → (course_of job).levels ≤ k → slice_get new k ≡ slice_get old k)

-- Keepers with these rooms have room for each image of a run, a question or a console. Other jobs use none of the
-- call's keepers, and of them it says nothing.
abbrev pub HaveRoomsFor : Job → (ℕ → Option ℕ) → Type 0
HaveRoomsFor (perform over) rooms = AreRoomy (image_room over.first) (length over.slots) rooms
HaveRoomsFor (ask question over) rooms = AreRoomy (image_room over.first) (length over.slots) rooms
HaveRoomsFor (console first journal p orders) rooms = AreRoomy (image_room first) (length p.slots) rooms
HaveRoomsFor job rooms = ⊥

-- the statuses of a call that may have had a job; at any other it was refused
abbrev pub IsOfJob : ℕ → Type 0
IsOfJob status = (status ≡ 0) ⊎ (status ≡ 12) ⊎ (status ≡ 13) ⊎ (status ≡ 14) ⊎ (status ≡ 17)
