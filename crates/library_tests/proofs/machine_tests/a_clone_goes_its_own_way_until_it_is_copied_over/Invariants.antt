use Rattle.library_tests.proofs.machine_tests.a_clone_goes_its_own_way_until_it_is_copied_over.Given as goal

abbrev pub ghosts-stepped : goal.ghosts-stepped
ghosts-stepped g a = record { name = a.blank.name; parts = a.blank.parts }
