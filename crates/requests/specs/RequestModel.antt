-- The request that the reader of words returns, and the request of one in memory.
use Rattle.std.specs.Prelude.{ℕ, ◌*◌, if◌then◌else◌, List, [], ◌∷◌, Option, None, Some}
use Rattle.std.specs.Option.{option_map}
use Rattle.requests.specs.declared.request.Run as run_in_memory
use Rattle.requests.specs.declared.request.RunBackward as run_backward_in_memory
use Rattle.requests.specs.declared.request.PlanFor as plan_for_in_memory
use Rattle.requests.specs.declared.request.PlanPeriodic as plan_periodic_in_memory
use Rattle.requests.specs.declared.request.ScheduleFor as schedule_for_in_memory
use Rattle.requests.specs.declared.request.Certify as certify_in_memory
use Rattle.requests.specs.declared.request.Ask as ask_in_memory
use Rattle.requests.specs.declared.request.Find as find_in_memory
use Rattle.requests.specs.declared.request.Asm as asm_in_memory
use Rattle.requests.specs.declared.request.Disasm as disasm_in_memory
use Rattle.requests.specs.declared.request.Console as console_in_memory
use Rattle.requests.specs.declared.request.Demo as demo_in_memory
use Rattle.requests.specs.declared.request.Command as command_in_memory
use Rattle.requests.specs.declared.request.Command.TheVariants as the_command
use Rattle.requests.specs.declared.request.Request as in_memory
use Rattle.requests.specs.declared.bounds.Bounded.{Bounded}
use Rattle.requests.specs.declared.question.Question.{Question}
use Rattle.requests.specs.declared.schedule.Schedule as schedule_in_memory
use Rattle.requests.specs.declared.schedule.Schedule.TheVariants as the_schedule
use Rattle.requests.specs.Operands.{Schedule, by_name, made, within, steps_limit, instructions_limit, question_bound}
use Rattle.requests.specs.ParserSteps.{◌>>=◌}
use Rattle.requests.specs.Forms.{command_of}
use Rattle.requests.specs.Request.{Run, RunBackward, PlanFor, PlanPeriodic, ScheduleFor, Certify, Ask, Find, Asm, Disasm, Console, Demo, Command, run, plan, plan_periodic, check, certify, cost, ask, find, asm, disasm, console, demo, Request}
use Rattle.requests.specs.ChoiceParser.{options_at, behind_options, are_single}

-- the numbers of a run of so many steps, each a unit, and of a question about one
abbrev pub run_numbers : (unit steps : ℕ) → List Bounded
run_numbers unit steps = within steps_limit steps ∷ within instructions_limit (unit * steps) ∷ []

abbrev pub asked_numbers : (unit steps : ℕ) → Question → List Bounded
asked_numbers unit steps question = within steps_limit steps ∷ question_bound (unit * steps) question ∷ within instructions_limit (unit * steps) ∷ []

-- the request that the words mean
unfoldable pub request_read : List (List ℕ) → Option Request
request_read words =
    if are_single (options_at words)
    then (command_of (behind_options words) >>= λ command. Some (record { options = options_at words; command = command }))
    else None

-- ---- in memory

abbrev pub as_schedule : schedule_in_memory.Schedule → Schedule
as_schedule (the_schedule.Named name) = by_name name.now
as_schedule the_schedule.Made = made

abbrev pub as_run : run_in_memory.Run → Run
as_run c = record { program = c.program.now; journal = option_map (λ name. name.now) c.journal; book = c.book.now; steps = c.steps }

abbrev pub as_run_backward : run_backward_in_memory.RunBackward → RunBackward
as_run_backward c = record { run = as_run c.run; schedule = as_schedule c.schedule }

abbrev pub as_plan : plan_for_in_memory.PlanFor → PlanFor
as_plan c = record { kind = c.kind; book = c.book.now; steps = c.steps }

abbrev pub as_plan_periodic : plan_periodic_in_memory.PlanPeriodic → PlanPeriodic
as_plan_periodic c = record { book = c.book.now; steps = c.steps; period = c.period }

abbrev pub as_schedule_for : schedule_for_in_memory.ScheduleFor → ScheduleFor
as_schedule_for c = record { book = c.book.now; schedule = c.schedule.now; steps = c.steps }

abbrev pub as_certify : certify_in_memory.Certify → Certify
as_certify c = record { book = c.book.now; schedule = c.schedule.now; certificate = c.certificate.now; steps = c.steps }

abbrev pub as_ask : ask_in_memory.Ask → Ask
as_ask c = record { question = c.question; run = as_run c.run; schedule = c.schedule.now }

abbrev pub as_find : find_in_memory.Find → Find
as_find c = record { program = c.program.now; journal = option_map (λ name. name.now) c.journal; steps = c.steps; digest = c.digest }

abbrev pub as_asm : asm_in_memory.Asm → Asm
as_asm c = record { source = c.source.now }

abbrev pub as_disasm : disasm_in_memory.Disasm → Disasm
as_disasm c = record { program = c.program.now }

abbrev pub as_console : console_in_memory.Console → Console
as_console c = record {
  program = c.program.now;
  journal = option_map (λ name. name.now) c.journal;
  book = c.book.now;
  script = c.script.now;
  steps = c.steps;
}

abbrev pub as_demo : demo_in_memory.Demo → Demo
as_demo c = record { number = c.number; steps = c.steps; slots = c.slots }

abbrev pub as_command : command_in_memory.Command → Command
as_command (the_command.Run c) = run (as_run_backward c)
as_command (the_command.Plan c) = plan (as_plan c)
as_command (the_command.PlanPeriodic c) = plan_periodic (as_plan_periodic c)
as_command (the_command.Check c) = check (as_schedule_for c)
as_command (the_command.Certify c) = certify (as_certify c)
as_command (the_command.Cost c) = cost (as_schedule_for c)
as_command (the_command.Ask c) = ask (as_ask c)
as_command (the_command.Find c) = find (as_find c)
as_command (the_command.Asm c) = asm (as_asm c)
as_command (the_command.Disasm c) = disasm (as_disasm c)
as_command (the_command.Console c) = console (as_console c)
as_command (the_command.Demo c) = demo (as_demo c)

abbrev pub request_of : in_memory.Request → Request
request_of r = record { options = r.options; command = as_command r.command }
