-- The names that the clauses of other crates cite, passed on from one place. Declares nothing.
pub use Rattle.requests.specs.Operands.{made, question_bound, within}
pub use Rattle.requests.specs.Request.{Choice, Request, Says, ask, plan_limit, run, says_raw, stack_pages, unit_count, words_of, worker_count}
pub use Rattle.requests.specs.Bounds.{Asks, IsWithin, RefusesWords, numbers}
pub use Rattle.requests.specs.Places.{folder_at, folder_said, levels}
pub use Rattle.requests.specs.Inputs.{FailsAtInput, contents, inputs_of, names}
pub use Rattle.requests.specs.Loaded.{IsWithinLimits}
pub use Rattle.requests.specs.RequestModel.{as_ask, as_run_backward, request_of}
pub use Rattle.requests.specs.InputOutcome.{contents_of}
