-- The text about a state for the user. The words are our own.
use Rattle.std.specs.Prelude.{ℕ, ◌==◌, false, List, [], ◌++◌, codes, decimal, if◌then◌else◌}
use Rattle.std.specs.Fmt.{radix_digits}
use Rattle.rv_machine.specs.MachineState.{MachineState}
use Rattle.rv_machine.specs.declared.status.Status.{Status}
use Rattle.rv_machine.specs.declared.status.Status.TheVariants.{Running, Exited, Trapped}

-- a number in hexadecimal digits, without a leading zero
abbrev pub hexadecimal : ℕ → List ℕ
hexadecimal n = radix_digits 16 false n

abbrev pub status_words : Status → List ℕ
status_words Running = []
status_words (Exited code) = codes ", exit " ++ decimal code
status_words (Trapped cause) = codes ", trap " ++ decimal cause

-- state n, in a line
abbrev pub place_line : ℕ → MachineState → List ℕ
place_line n s = codes "state " ++ decimal n ++ codes ", pc 0x" ++ hexadecimal s.pc ++ status_words s.status ++ codes "\n"

-- the causes of traps
abbrev pub trap_words : ℕ → List ℕ
trap_words cause =
    if cause == 0 then codes "a jump to an address that is no multiple of four"
    else (if cause == 1 then codes "a fetch where there is no memory"
    else (if cause == 2 then codes "a word that is no instruction"
    else (if cause == 3 then codes "an EBREAK"
    else (if cause == 5 then codes "a load where there is no memory"
    else codes "a store where there is no memory"))))

-- why a run ends: a program that still runs has reached the bound of steps
abbrev pub ending_words : Status → List ℕ
ending_words Running = codes "the program still runs, and the run may have no more steps"
ending_words (Exited code) = codes "the program exited with code " ++ decimal code
ending_words (Trapped cause) = codes "the program stopped at a trap: " ++ trap_words cause

-- the last state of a run, in a line
abbrev pub ending_line : ℕ → MachineState → List ℕ
ending_line n s = codes "reversal: " ++ ending_words s.status ++ codes " (state " ++ decimal n ++ codes ")\n"
