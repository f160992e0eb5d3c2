use Rattle.gdb_cases.proofs.SessionsCases.difference.Given as goal

abbrev pub ghosts-wrong_of : goal.ghosts-wrong_of
ghosts-wrong_of a = record { name = a.blank.name; parts = a.blank.parts }
