use Rattle.segment_sweep.proofs.worker.worker.Given as goal

abbrev pub ghosts-sweep : goal.ghosts-sweep
ghosts-sweep g a = record { name = a.blank.name; parts = a.blank.parts }
