use Rattle.library_tests.proofs.tape_tests.the_digests_of_the_states_on_the_tape_are_known.Given as goal

abbrev pub ghosts-counted : goal.ghosts-counted
ghosts-counted g a = record { name = a.blank.name; parts = a.blank.parts }
