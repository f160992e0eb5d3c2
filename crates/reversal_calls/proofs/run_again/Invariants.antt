use Rattle.reversal_calls.proofs.run_again.Given as goal

abbrev pub ghosts-run_over_files : goal.ghosts-run_over_files
ghosts-run_over_files g a = record { name = a.blank.name; parts = a.blank.parts }
