-- The system calls. a7 (x17) has the number, and a0 to a2 (x10 to x12) have the arguments. The answer goes into a0.
-- Numbers and arguments are those of Linux on RISC-V (asm-generic/unistd.h). So are the errors, negated
-- (asm-generic/errno-base.h and errno.h). The descriptor in a0 is ignored: recorded input is the only input.
use Rattle.std.specs.Prelude.{ℕ, ◌+◌, ◌%◌, ◌^◌, ◌==◌, ◌||◌, Bool, if◌then◌else◌, List, [], length, take, drop, slice_index, slice_get, nat_le, Option, Some, None, is_some}
use Rattle.rv_pages.specs.Memory.{Memory, bytes_at, with_bytes}
use Rattle.rv_machine.specs.declared.status.Status.TheVariants.{Exited}
use Rattle.rv_machine.specs.MachineState.{MachineState}
use Rattle.rv_machine.specs.StateChanges.{put, addresses}

-- a0 to a7 by their numbers: the registers x10 to x17
abbrev pub argument : MachineState → ℕ → ℕ
argument s n = slice_index s.registers (10 + n)

-- An answer in two's complement. EFAULT, -14: a byte isn't mapped. ENOSYS, -38: there is no such call.
abbrev pub not_mapped : ℕ
not_mapped = 0xFFFFFFF2

abbrev pub no_such_call : ℕ
no_such_call = 0xFFFFFFDA

-- whether all of so many bytes from an address on are mapped
abbrev pub are_mapped : Memory → ℕ → ℕ → Bool
are_mapped m at n = is_some (bytes_at m at n)

-- read (63): the next bytes of the item, at most a2, and none beyond its end
abbrev pub bytes_read : MachineState → List ℕ → List ℕ
bytes_read s item = take (argument s 2) (drop s.offset item)

-- the place so many bytes of an item further; an item that was read to its end is left
abbrev pub moved : MachineState → List ℕ → ℕ → MachineState
moved s item n = if nat_le (length item) (s.offset + n) then record s { item = s.item + 1; offset = 0 } else record s { offset = s.offset + n }

-- bytes of the item are stored at a1, and the answer is their number
abbrev pub received : MachineState → List ℕ → List ℕ → MachineState
received s item bytes = put (moved (record s { memory = with_bytes s.memory (argument s 1) bytes }) item (length bytes)) 10 (length bytes)

-- past the last item the answer is 0
abbrev pub read_from : MachineState → Option (List ℕ) → MachineState
read_from s None = put s 10 0
read_from s (Some item) = if are_mapped s.memory (argument s 1) (length (bytes_read s item)) then received s item (bytes_read s item) else put s 10 not_mapped

-- write (64): the a2 bytes at a1 are counted, modulo 2 ^ 64, but not kept
abbrev pub sent : MachineState → MachineState
sent s = if are_mapped s.memory (argument s 1) (argument s 2) then put (record s { written = (s.written + argument s 2) % 2 ^ 64 }) 10
    (argument s 2) else put s 10 not_mapped

-- exit (93) and exit_group (94): the code is the lowest byte of a0, and pc stays
abbrev pub exited : MachineState → MachineState
exited s = record s { status = Exited (argument s 0 % 256) }

-- the state after a call, with the recorded input
abbrev pub called : MachineState → List (List ℕ) → MachineState
called s journal =
    if argument s 7 == 63 then read_from s (slice_get journal s.item) else
    (if argument s 7 == 64 then sent s else
    (if argument s 7 == 93 || argument s 7 == 94 then exited s else put s 10 no_such_call))

-- the addresses that a call writes: those of the bytes of a read that stores them
abbrev pub written_by_read : MachineState → Option (List ℕ) → List ℕ
written_by_read s None = []
written_by_read s (Some item) = if are_mapped s.memory (argument s 1) (length (bytes_read s item)) then addresses (argument s 1)
    (length (bytes_read s item)) else []

abbrev pub written_by_call : MachineState → List (List ℕ) → List ℕ
written_by_call s journal = if argument s 7 == 63 then written_by_read s (slice_get journal s.item) else []
