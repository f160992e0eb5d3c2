use Rattle.library_tests.proofs.undo_tests.units_are_undone.Given as goal

abbrev pub ghosts-check_sizes : goal.ghosts-check_sizes
ghosts-check_sizes g a = record { name = a.blank.name; parts = a.blank.parts }
