use Rattle.segment_sweep.proofs.SegmentCovers.{one_found, some_found}
use Rattle.segment_sweep.proofs.laws.queries_have_one_answer.Goals as goal

pub returns : goal.returns
returns c = record { some = some_found; one = one_found }
