use Rattle.std.proofs.Common.{◌≡◌, ◌<◌, ℕ, length, Some, subst}
use Rattle.std.specs.FinMap as finmap
use Rattle.level_book.specs.BookCosts.{slots_of}
use Rattle.reverse_runner.specs.SessionState.{SessionState}
use Rattle.reversal.specs.ActionsLeft.{left_of}
use Rattle.reversal.specs.Job.{perform}
use Rattle.reversal.specs.JobModel.{DoesBegun, run_from}
use Rattle.reversal.proofs.JobResults.{is_begun, does_begun}
use Rattle.reversal.proofs.job.Execution.perform.Goals as goal

pub perform_all-requires-clause-begun : goal.perform_all-requires-clause-begun
perform_all-requires-clause-begun g c κs inside =
    let p = c.args.self in
    let done = c.requires.can_be_done in
    is_begun _ p.start p.journal p.unit p.steps (slots_of p.book) (left_of p.actions) _ c.in-Ok-begin.ensures.begun c.in-Ok-begin.ensures.stands c.is_machine_state.ensures done.valid done.few c.requires.room

pub perform_all-requires-clause-alone : goal.perform_all-requires-clause-alone
perform_all-requires-clause-alone g c κs inside told empty =
    let S : SessionState → Type 0 = λ s. (k : ℕ) → k < length s.situation.slots → told k ≡ Some finmap.empty in
    c.in-Ok-begin.ensures.alone told (subst S c.in-Ok-begin.ensures.begun empty)

pub returns : goal.returns
returns g c =
    let P : SessionState → Type 0 = λ s. DoesBegun g.O.Sink g.K.Storage (perform (run_from s (left_of c.args.self.actions))) c.perform_all.result c.args.out.now c.perform_all.new.out
    c.args.keepers.now.items c.perform_all.new.keepers.items c.args.counter.now c.perform_all.new.counter in
    does_begun g.O.Sink g.K.Storage _ _ _ _ _ _ _ _ (subst P c.in-Ok-begin.ensures.begun c.perform_all.ensures)
