use Rattle.library_tests.proofs.console_tests.answered_in_memory.Given as goal

abbrev pub ghosts-answered : goal.ghosts-answered
ghosts-answered g a = record { name = a.blank.name; parts = a.blank.parts }
