use Rattle.machine_rows.proofs.run_case.Given as goal

abbrev pub ghosts-seen_by : goal.ghosts-seen_by
ghosts-seen_by a = record { name = a.blank.name; parts = a.blank.parts }
