-- No public clause cites this file. The job of one in memory, and its invariant.
use Rattle.std.specs.Prelude.{◌≡◌, ◌≢◌, ◌⊎◌, ℕ, ◌*◌, ◌<◌, ◌≤◌, ◌^◌, ◌++◌, max, slice_get, List, [], ◌∷◌, length, Option, None, Some, Result, IfOk, IfErr}
use Rattle.std.specs.Global.{Vec}
use Rattle.std.specs.Vec.{vec_capacity}
use Rattle.std.specs.List.{AllByRecursion}
use Rattle.plan_types.specs.declared.limits.TheConstants.{MOST_ACTIONS, MOST_COST, MOST_SLOTS, MOST_STEPS}
use Rattle.plan_types.specs.declared.action.Action.{Action}
use Rattle.level_book.specs.BookCosts.{slots_of, names_of, total_room, plain}
use Rattle.level_book.specs.Valid.{Valid}
use Rattle.keepers.specs.Claims.{Images, Tells, AddsPrefix}
use Rattle.keepers.specs.Counts.{raised, Rose}
use Rattle.keepers.specs.declared.sink.Sink as sink
use Rattle.keepers.specs.declared.storage.Storage as storage
pub use Rattle.input_journal.specs.RecordedInput.{text_of}
use Rattle.rv_machine.specs.MachineState.{IsMachineState}
use Rattle.action_text.specs.Canonical.{HasSpelling}
use Rattle.cert_text.specs.declared.certificate.Certificate.{Certificate}
use Rattle.cert_text.specs.Canonical as certificate
use Rattle.revolve_gen.specs.Plans as revolve
use Rattle.reverse_runner.specs.KeepersSeen.{HaveRoom}
use Rattle.endings.specs.declared.outcome.Outcome.{Outcome}
use Rattle.reversal.specs.declared.job.Job as in_memory
use Rattle.reversal.specs.declared.job.Job.TheVariants.{Perform, Ask, Find, Write, Bytes, Report, Plan, List as ListWords, Console, Demonstrate}
use Rattle.reversal.specs.declared.planning.Plan as plan_in_memory
use Rattle.reversal.specs.declared.demo.Demonstration as demo_in_memory
use Rattle.reversal.specs.declared.job.Execution.{Execution}
use Rattle.reversal.specs.declared.asking.Asking.{Asking}
use Rattle.reversal.specs.declared.asking.Over.{Over}
use Rattle.reversal.specs.declared.finding.Finding.{Finding}
use Rattle.reversal.specs.declared.console.ConsoleRun.{ConsoleRun}
use Rattle.reverse_console.specs.declared.order.Order.{Order}
use Rattle.reverse_console.specs.Answer.{IsOrder}
use Rattle.reverse_console.specs.ConsoleState.{plan_of}
use Rattle.cost_fold.specs.CountsOf.{all_of}
use Rattle.cost_report.specs.Report.{report_lines}
use Rattle.reversal.specs.ActionsLeft.{left_of}
use Rattle.reversal.specs.Plans.{list_pieces}
use Rattle.reversal.specs.Output.{Adds}
use Rattle.reversal.specs.CommandAsk.{answer_text}
use Rattle.reversal.specs.Listing.{word_pieces}
use Rattle.requests.specs.Operands.{question_bound}
use Rattle.requests.specs.Bounds.{IsWithin}
use Rattle.requests.specs.Request.{Choice, stack_pages, unit_count}
use Rattle.reversal.specs.Table.{Decision, accept, refuse, ends, Decided}
use Rattle.reverse_runner.specs.Rooms.{rooms_by}
use Rattle.reverse_runner.specs.SessionOfRun.{begun, StandsAt}
use Rattle.reverse_runner.specs.SessionState.{SessionState}
use Rattle.reversal.specs.Job.{Run, Job, perform, ask, seek, write, console, demonstrate}
use Rattle.reversal.specs.Moment.{Moment, moment, AllTell}
use Rattle.reversal.specs.Course.{Course, EndsShowing, HaltsShowing}
use Rattle.requests.specs.Loaded.{Loaded}
use Rattle.reversal.specs.InputMeaning.{in_units, over_valid, over_program, DecidesOver}
use Rattle.reversal.specs.Decision.{course_of, KeepsOthers, HaveRoomsFor}
use Rattle.reverse_runner.specs.declared.fault.RunFault.{RunFault}
use Rattle.reverse_runner.specs.declared.fault.RunFault.TheVariants as fault
use Rattle.endings.specs.Outcomes.{done, no_memory, keeper_failed, damaged, stopped}
use Rattle.endings.specs.Endings.{status_of}

-- the writes of a certificate, if there is one
abbrev pub certificate_pieces : Option Certificate → List (List ℕ)
certificate_pieces None = []
certificate_pieces (Some c) = certificate.pieces c

-- the writes of a plan
abbrev pub pieces_of : plan_in_memory.Plan → List (List ℕ)
pieces_of p = list_pieces (names_of p.book) (left_of p.actions) ++ certificate_pieces p.certificate

-- what an execution and a question go over
abbrev pub executed_run : Execution → Run
executed_run e = in_units e.unit e.start e.journal e.steps (slots_of e.book) (left_of e.actions)

abbrev pub run_over : Over → Run
run_over o = in_units o.unit o.start o.journal o.steps (slots_of o.book) o.list.items

-- what a session goes over by a list, from its configuration
abbrev pub run_from : SessionState → List Action → Run
run_from s list = record { first = s.work; journal = s.journal; unit = s.unit; steps = s.situation.steps; slots = s.situation.slots; list = list }

-- what a console moves about in, and its orders
abbrev pub moves : ConsoleRun → Job
moves m = console m.run.start m.run.journal (plan_of m.run) m.orders.items

abbrev pub job_of : in_memory.Job → Job
job_of (Perform e) = perform (executed_run e)
job_of (Ask a) = ask a.question (run_over a.over)
job_of (Find f) = seek f.start f.journal f.steps f.workers f.digest
job_of (Write text) = write (text ∷ [])
job_of (Bytes bytes) = write (bytes.items ∷ [])
job_of (Report p) = write (report_lines p.book p.counts)
job_of (Plan p) = write (pieces_of p)
job_of (ListWords l) = write (word_pieces l.words.items)
job_of (Console m) = moves m
job_of (Demonstrate d) = demonstrate d.number d.start d.steps d.slots

-- a list that is performed is valid
pub record IsExecutable (e : Execution) : Type 0 where
  pub steps : e.steps ≤ MOST_STEPS
  pub unit : (1 ≤ e.unit) × (e.unit ≤ 1024)
  pub instructions : e.unit * e.steps ≤ MOST_STEPS
  pub few : length (left_of e.actions) ≤ MOST_ACTIONS
  pub valid : Valid e.steps (slots_of e.book) (left_of e.actions)

-- the list of a question is valid, and the question's number is within its bounds
pub record IsOver (o : Over) : Type 0 where
  pub steps : o.steps ≤ MOST_STEPS
  pub unit : (1 ≤ o.unit) × (o.unit ≤ 1024)
  pub instructions : o.unit * o.steps ≤ MOST_STEPS
  pub few : length o.list.items ≤ MOST_ACTIONS
  pub valid : Valid o.steps (slots_of o.book) o.list.items

pub record CanBeAsked (a : Asking) : Type 0 where
  pub over : IsOver a.over
  pub within : IsWithin (question_bound (a.over.unit * a.over.steps) a.question)

-- the actions of a plan have a spelling, and there is room for the longest piece
pub record IsWritable (p : plan_in_memory.Plan) : Type 0 where
  pub spelled : AllByRecursion (HasSpelling (names_of p.book)) (left_of p.actions)
  pub reserved : 5184 ≤ vec_capacity p.piece

pub record IsShowable (d : demo_in_memory.Demonstration) : Type 0 where
  pub steps : d.steps ≤ MOST_STEPS
  pub slots : d.slots ≤ MOST_SLOTS
  pub plan : revolve.HasPlan d.steps (total_room (plain d.slots) d.steps)

-- a search has few states, and workers within their bounds
pub record IsSearchable (f : Finding) : Type 0 where
  pub steps : f.steps ≤ MOST_STEPS
  pub workers : (1 ≤ f.workers) × (f.workers ≤ 64)

-- the run of a console has a slot for a mark, and allows each order
pub record CanAnswerOrders (m : ConsoleRun) : Type 0 where
  pub steps : m.run.count ≤ MOST_STEPS
  pub slots : 1 ≤ total_room m.run.book (max m.run.count 1)
  pub few : length m.orders.items < 2 ^ 32
  pub orders : (i : ℕ) (order : Order) → slice_get m.orders.items i ≡ Some order → IsOrder m.run.count order

abbrev pub CanBeDone : in_memory.Job → Type 0
CanBeDone (Perform p) = IsExecutable p
CanBeDone (Ask a) = CanBeAsked a
CanBeDone (Find f) = IsSearchable f
CanBeDone (Write text) = Unit {0}
CanBeDone (Bytes bytes) = Unit {0}
CanBeDone (Report p) = all_of p.counts * MOST_COST < 2 ^ 64
CanBeDone (Plan p) = IsWritable p
CanBeDone (ListWords l) = 5184 ≤ vec_capacity l.piece
CanBeDone (Console m) = CanAnswerOrders m
CanBeDone (Demonstrate d) = IsShowable d

-- a run backward is done by so many workers
abbrev pub HasWorkers : ℕ → in_memory.Job → Type 0
HasWorkers n (Perform p) = p.workers ≡ n
HasWorkers n _ = ⊥

-- keepers with so many slots have room for what a job keeps
abbrev pub KeepersHaveRoom : in_memory.Job → List ℕ → Type 0
KeepersHaveRoom (Perform p) counts = HaveRoom p.steps (slots_of p.book) counts
KeepersHaveRoom (Ask a) counts = HaveRoom a.over.steps (slots_of a.over.book) counts
KeepersHaveRoom (Find f) counts = Unit {0}
KeepersHaveRoom (Write text) counts = Unit {0}
KeepersHaveRoom (Bytes bytes) counts = Unit {0}
KeepersHaveRoom (Report p) counts = Unit {0}
KeepersHaveRoom (Plan p) counts = Unit {0}
KeepersHaveRoom (ListWords l) counts = Unit {0}
KeepersHaveRoom (Console m) counts = HaveRoom (max m.run.count 1) (slots_of m.run.book) counts
KeepersHaveRoom (Demonstrate d) counts = Unit {0}

-- A decision: a job that can be done over keepers with these slots, or a refusal. Or memory ran out.
pub record IsDecided (Decides : Decision → Type 0) (counts : List ℕ) (result : Result in_memory.Job Outcome) : Type 0 where
  pub accepted : IfOk result (λ job. Decides (accept (job_of job)))
  pub can_be_done : IfOk result CanBeDone
  pub room : IfOk result (λ job. KeepersHaveRoom job counts)
  pub refused : IfErr result (λ e. (e ≡ no_memory) ⊎ Decides (refuse e))

-- What a list is performed over, by what was read for a run whose schedule has a name: it can be, whatever the job. Or a
-- refusal, whatever the job; or memory ran out.
pub record IsDecidedOver (options : List Choice) (count : ℕ) (l : Loaded) (counts : List ℕ) (result : Result Over Outcome) : Type 0 where
  pub accepted : IfOk result (λ o. (job : Run → Job) → DecidesOver job options count l.program l.journal l.book (Some l.schedule) counts (accept (job (run_over o))))
  pub over : IfOk result IsOver
  pub steps : IfOk result (λ o. o.steps ≡ count)
  pub unit : IfOk result (λ o. o.unit ≡ unit_count options)
  pub room : IfOk result (λ o. HaveRoom o.steps (slots_of o.book) counts)
  pub refused : (job : Run → Job) → IfErr result (λ e. (e ≡ no_memory)
      ⊎ DecidesOver job options count l.program l.journal l.book (Some l.schedule) counts (refuse e))

-- the options of a run of so many steps are within their bounds
pub record RunFits (options : List Choice) (count : ℕ) : Type 0 where
  pub stack : (1 ≤ stack_pages options) × (stack_pages options ≤ 1024)
  pub unit : (1 ≤ unit_count options) × (unit_count options ≤ 1024)
  pub steps : count ≤ MOST_STEPS
  pub instructions : unit_count options * count ≤ MOST_STEPS

-- why bytes aren't read: their fault, which ends the call, or a lack of memory
abbrev pub IsRefusal : {F : Type 0} → (F → Type 0) → (F → Outcome) → Outcome → Type 0
IsRefusal {F} HasFault ended e = (e ≡ no_memory) ⊎ ((fault : F) × HasFault fault × (e ≡ ended fault))

-- why bytes aren't a program with its recorded input: a refusal, or no memory
abbrev pub IsUnbegun : List Choice → List ℕ → Option (List ℕ) → Outcome → Type 0
IsUnbegun options program journal e = (e ≡ no_memory) ⊎ Decided (over_program options program journal (λ start items. ends (λ d. ⊥))) (refuse e)

-- why the bytes of a schedule aren't a valid list over the book that others mean: a refusal, or no memory
abbrev pub IsUnjudged : ℕ → List ℕ → List ℕ → Outcome → Type 0
IsUnjudged steps book schedule e = (e ≡ no_memory) ⊎ Decided (over_valid steps book schedule (λ b list. ends (λ d. ⊥))) (refuse e)

-- the job was done, stopped, or ran out of memory, by its course
abbrev pub WorksBy : Course → Outcome → Moment → Moment → Type 0
WorksBy course e old new = EndsShowing course e old new ⊎ ((e ≡ no_memory) × HaltsShowing course old new)

abbrev pub Works : Job → Outcome → Moment → Moment → Type 0
Works job e old new = WorksBy (course_of job) e old new

-- memory ran out before anything was done: a sink, keepers and a count of steps are unchanged
abbrev pub IsUntouched : {X K : Type 0} → Outcome → X → X → K → K → ℕ → ℕ → Type 0
IsUntouched e out out' keepers keepers' steps steps' = (e ≡ no_memory) × (out' ≡ out) × (keepers' ≡ keepers) × (steps' ≡ steps)

-- How a job was done: not at all for want of memory, or as its course says. The keepers that it doesn't use are
-- unchanged. Over keepers with room for its images, memory runs out only before anything else is done.
pub record Does {X K : Type 0} (writing : sink.Ghosts X) (seen : storage.Ghosts K) (job : Job) (result : Outcome)
    (out out' : X) (keepers keepers' : Vec K) (steps steps' : ℕ) : Type 0 where
  pub works : IsUntouched result out out' keepers keepers' steps steps'
      ⊎ Works job result (moment writing seen out keepers.items steps) (moment writing seen out' keepers'.items steps')
  pub others : KeepsOthers seen.slot_count seen.place (accept job) keepers.items keepers'.items
  pub roomy : HaveRoomsFor job (rooms_by seen keepers.items) → status_of result ≡ 17 → IsUntouched result out out' keepers keepers' steps steps'

-- How a job was done that had all of its own memory.
pub record DoesBegun {X K : Type 0} (writing : sink.Ghosts X) (seen : storage.Ghosts K) (job : Job) (result : Outcome)
    (out out' : X) (keepers keepers' : List K) (steps steps' : ℕ) : Type 0 where
  pub works : Works job result (moment writing seen out keepers steps) (moment writing seen out' keepers' steps')
  pub others : KeepsOthers seen.slot_count seen.place (accept job) keepers keepers'
  pub roomy : HaveRoomsFor job (rooms_by seen keepers) → status_of result ≢ 17

-- A session is at the start of a run, over which a list is valid. There are keepers with so many slots.
pub record IsBegun (s : SessionState) (list : List Action) (counts : List ℕ) : Type 0 where
  pub begins : s ≡ begun s.work s.journal s.unit s.situation.steps s.situation.slots
  pub stands : (told : ℕ → Option Images) → AllTell (length s.situation.slots) told → StandsAt s.work s told
  pub state : IsMachineState s.work
  pub valid : Valid s.situation.steps s.situation.slots list
  pub few : length list ≤ MOST_ACTIONS
  pub room : HaveRoom s.situation.steps s.situation.slots counts

-- An answer was written, in one call of the sink. Or the sink failed, and perhaps a part of it was written.
pub record WritesAnswer {X : Type 0} (writing : sink.Ghosts X) (answer : Option ℕ) (result : Outcome) (out out' : X) : Type 0 where
  pub ends : ((result ≡ done) × Tells (writing.told out) (writing.told out') (Adds (answer_text answer)) × (writing.fault_count out' ≡ writing.fault_count out))
      ⊎ ((result ≡ stopped 0) × Tells (writing.told out) (writing.told out') (AddsPrefix (answer_text answer)) × Rose (writing.fault_count out) (writing.fault_count out'))
  pub calls : writing.call_count out' ≡ raised (writing.call_count out) 1

-- How a call ends if its session refused the action at a place for this fault. A session that has ended refuses none.
abbrev pub fault_ending : ℕ → RunFault → Outcome
fault_ending place (fault.Keeper level) = keeper_failed place level
fault_ending place (fault.Damaged level put got) = damaged place level put got
fault_ending place fault.Visitor = stopped place
fault_ending place fault.Memory = no_memory
fault_ending place fault.Ended = no_memory
