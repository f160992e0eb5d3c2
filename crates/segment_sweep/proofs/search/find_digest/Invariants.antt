use Rattle.segment_sweep.proofs.StepExtension.{first_mark}
use Rattle.segment_sweep.proofs.search.find_digest.Given as goal

abbrev pub ghosts-search : goal.ghosts-search
ghosts-search g a = record { query = record { start = first_mark a.marks.now; journal = a.journal.now; digest = a.digest.now; count = a.marks.now.count } }
