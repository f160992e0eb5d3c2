-- A large input made from a number: the program of a demonstration, and the summary of its run.
use Rattle.std.specs.Prelude.{ℕ, suc, zero, ◌+◌, ◌-◌, ◌*◌, ◌/◌, ◌%◌, ◌^◌, ◌==◌, cond, List, [], ◌∷◌, ◌++◌, codes, decimal, replicate}
use Rattle.std.specs.List.{flat_map}
use Rattle.std.specs.Int.{w32, to_le_bytes}
use Rattle.hex.specs.Hex.{encode_lower}
use Rattle.sha2.specs.Sha256.{sha256}
use Rattle.rv_decode.specs.declared.instruction.Inst.{Inst}
use Rattle.rv_decode.specs.declared.instruction.Inst.TheVariants.{Lui, Jal, Sw, Addi, Add, Xor}
use Rattle.rv_decode.specs.Words.{word_of}
use Rattle.plan_types.specs.declared.action.Action.{Action}
use Rattle.level_book.specs.BookCosts.{plain}
use Rattle.level_book.specs.CostFold.{forward}
use Rattle.revolve_gen.specs.RevolveList.{revolve_list}
use Rattle.rv_machine.specs.MachineState.{MachineState}
use Rattle.rv_machine.specs.States.{state_number}
use Rattle.reversal.specs.Output.{lines_down}

-- The random number after another one, by the generator of Numerical Recipes, modulo 2 ^ 32.
abbrev pub drawn : ℕ → ℕ
drawn v = (1664525 * v + 1013904223) % 2 ^ 32

-- The instruction of a random number, chosen by its bits 28 and 29. It is ADDI, XOR, SW to one of the 512 words that x5
-- points to, or ADD. It uses registers x8 to x15.
abbrev pub instruction_of : ℕ → Inst
instruction_of v =
    let c = 8 + v / 2 ^ 14 % 8 in
    let a = 8 + v / 2 ^ 8 % 8 in
    let b = 8 + v / 2 ^ 11 % 8 in
    let m = v / 2 ^ 17 % 2048 in
    let kind = v / 2 ^ 28 % 4 in
    cond (kind == 0) (Addi c a m) (cond (kind == 1) (Xor c a b) (cond (kind == 2) (Sw 5 b (4 * (m % 512))) (Add c a b)))

-- the instructions of so many random numbers after this one
abbrev pub drawn_from : ℕ → ℕ → List Inst
drawn_from zero v = []
drawn_from (suc n) v = instruction_of (drawn v) ∷ drawn_from n (drawn v)

-- LUI x5, 0x11; an instruction for each of 62 random numbers; JAL x0 by -248 in 32 bits. The jump goes to the first of
-- these.
abbrev pub instructions : ℕ → List Inst
instructions number = Lui 5 0x11000 ∷ (drawn_from 62 number ++ Jal 0 (2 ^ 32 - 248) ∷ [])

-- the program: the words of its 64 instructions, little-endian, and then zeros, over two pages
abbrev pub program : ℕ → List ℕ
program number = flat_map (λ i. to_le_bytes w32 (word_of i)) (instructions number) ++ replicate 7936 0

-- the list of a demonstration: that of Revolve for a book of one level with so many slots
abbrev pub demo_list : ℕ → ℕ → List Action
demo_list steps slots = revolve_list steps (plain slots)

-- The summary has four lines: the request, the forward steps, a run's number of lines, and a digest.
abbrev pub summary_text : ℕ → ℕ → ℕ → ℕ → List ℕ → List ℕ
summary_text number steps slots count digest =
    codes "demo " ++ decimal number ++ codes " " ++ decimal steps ++ codes " " ++ decimal slots
    ++ codes "\nforward " ++ decimal count
    ++ codes "\nlines " ++ decimal (steps + 1)
    ++ codes "\nsha256 " ++ encode_lower digest ++ codes "\n"

-- It has the list's forward steps, and the SHA-256 of a run's lines, from this state without recorded input.
abbrev pub summary : ℕ → MachineState → ℕ → ℕ → List ℕ
summary number first steps slots = summary_text number steps slots (forward (demo_list steps slots)) (sha256 (lines_down (state_number first []) steps))
