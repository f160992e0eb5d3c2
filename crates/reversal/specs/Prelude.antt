-- The names that clauses cite, passed on from one place. Declares nothing.
pub use Rattle.reversal.specs.Job.{Job, Run, ask, console, demonstrate, last_of, perform, seek, state_of, unit_state, write}
pub use Rattle.reversal.specs.Moment.{AllEmpty, AllTell, Moment, NothingRises, beside, moment}
pub use Rattle.reversal.specs.Course.{DamagedAt, Done, EndsShowing, FailsAt, Halts, HaltsShowing, Shown, Stops}
pub use Rattle.reversal.specs.Table.{Decided, Decision, IsFirstWide, Keep, accept, refuse}
pub use Rattle.reversal.specs.CommandRun.{performing}
pub use Rattle.reversal.specs.Decision.{Comes, Decides, DecidesLoaded, EndsBy, HaveRoomsFor, IsOfJob, KeepsOthers, StayInPlace, course_of}
pub use Rattle.reversal.specs.ActionsLeft.{left_of}
pub use Rattle.reversal.specs.JobModel.{CanAnswerOrders, CanBeAsked, CanBeDone, Does, DoesBegun, HasWorkers, IsBegun, IsDecided, IsDecidedOver, IsOver, IsExecutable, IsRefusal, IsSearchable, IsShowable, IsUnbegun, IsUnjudged, IsWritable, KeepersHaveRoom, RunFits, Works, WritesAnswer, certificate_pieces, fault_ending, job_of, moves, executed_run, pieces_of, run_from, run_over, text_of}
pub use Rattle.reversal.specs.CommandAsm.{DecidesAsm, DecidesDisasm, word_bytes}
pub use Rattle.reversal.specs.CommandCertify.{DecidesCertify, least_line}
pub use Rattle.reversal.specs.CommandConsole.{AnyMark, AreOfOrders, DecidesConsole, WentAbout, WritesAnswers, console_course, of_run}
pub use Rattle.reversal.specs.CommandCost.{DecidesCost}
pub use Rattle.reversal.specs.CostReport.{list_report}
pub use Rattle.reversal.specs.InputMeaning.{AreItemsOf, DecidesOver, HasBookFault, HasJournalFault, HasProgramFault, IsStartOf, in_units}
pub use Rattle.reversal.specs.CommandCheck.{DecidesCheck}
pub use Rattle.reversal.specs.DemoStates.{BreaksWithin, IsAtStart, IsOneKeeper}
pub use Rattle.reversal.specs.CommandDemo.{DecidesDemo}
pub use Rattle.reversal.specs.Demo.{demo_list, drawn, instruction_of, program, summary_text}
pub use Rattle.reversal.specs.Output.{Adds, line_of, lines_down}
pub use Rattle.reversal.specs.CommandPlan.{DecidesPlan, DecidesPlanDisk, DecidesPlanHrevolve, DecidesPlanMultistage, DecidesPlanPeriodic, DecidesPlanRevolve}
pub use Rattle.reversal.specs.NoPlans.{IsUndisked, IsUnnested, IsUnperiodic}
pub use Rattle.reversal.specs.CommandFind.{find_table}
pub use Rattle.reversal.specs.RunStart.{Begins, BeginsBy}
pub use Rattle.reversal.specs.Contents.{DecisionsExist}
pub use Rattle.reversal.specs.Plans.{certificate_of, line_of_action, list_pieces, plan_pieces}
pub use Rattle.reversal.specs.WrittenPlans.{SaysAgain}
pub use Rattle.reversal.specs.Collision.{OrdersCollide, ShowsItsStatesOrCollides, WritesTheBeginningOrCollides}
pub use Rattle.reversal.specs.CommandAsk.{asking}
pub use Rattle.reversal.specs.RunTrace.{AllLevels, ComesTo, GoesOver, IsFound, IsWithinSlots, SparesNext, UnreachedNext, Went}
pub use Rattle.reversal.specs.Deeds.{Deed, States, bytes_of, bytes_written, steps_made}
pub use Rattle.reversal.specs.Listing.{IsWord, ended_line, word_pieces}
