use Rattle.std.proofs.Common.{◌∙◌, ap}
use Rattle.endings.specs.Endings.{ended_of}
use Rattle.reversal.specs.Decision.{course_of}
use Rattle.reversal.proofs.JobCompletion.{done_where_nothing_rises}
use Rattle.reversal.proofs.laws.accepted_jobs_are_done.Goals as goal

pub returns : goal.returns
returns c job e old new ends tells none =
    let finished = done_where_nothing_rises (course_of job) ends.0 old new ends.2 tells none in (ends.1 ∙ ap ended_of finished.0, finished.1)
