-- The description of the target that gdb asks for: GDB manual, G.2 Target Description Format and G.5.11 RISC-V Features.
use Rattle.std.specs.Prelude.{ℕ, ◌==◌, ◌||◌, List, [], ◌∷◌, ◌++◌, codes, decimal, if◌then◌else◌}
use Rattle.std.specs.List.{flat_map, enumerate_from}

-- the names of x0 to x31 and of pc, as gdb's feature has them
abbrev pub register_names : List (List ℕ)
register_names =
    codes "zero" ∷ codes "ra" ∷ codes "sp" ∷ codes "gp" ∷ codes "tp" ∷ codes "t0" ∷ codes "t1" ∷ codes "t2" ∷ codes "fp" ∷ codes "s1" ∷
    codes "a0" ∷ codes "a1" ∷ codes "a2" ∷ codes "a3" ∷ codes "a4" ∷ codes "a5" ∷ codes "a6" ∷ codes "a7" ∷ codes "s2" ∷ codes "s3" ∷
    codes "s4" ∷ codes "s5" ∷ codes "s6" ∷ codes "s7" ∷ codes "s8" ∷ codes "s9" ∷ codes "s10" ∷ codes "s11" ∷ codes "t3" ∷ codes "t4" ∷
    codes "t5" ∷ codes "t6" ∷ codes "pc" ∷ []

-- ra and pc are addresses of code, and sp, gp, tp and fp are addresses of data
abbrev pub register_type : ℕ → List ℕ
register_type n =
    if n == 1 || n == 32 then codes "code_ptr" else (if n == 2 || (n == 3 || (n == 4 || n == 8)) then codes "data_ptr" else codes "int")

abbrev pub register_element : ℕ × List ℕ → List ℕ
register_element numbered =
    codes "<reg name=\"" ++ numbered.1 ++ codes "\" bitsize=\"32\" type=\"" ++ register_type numbered.0 ++ codes "\" regnum=\"" ++ decimal numbered.0 ++ codes "\"/>"

-- A processor of 32 bits under no operating system. With an operating system gdb would step by breakpoints.
abbrev pub target_description : List ℕ
target_description =
    codes "<?xml version=\"1.0\"?><!DOCTYPE target SYSTEM \"gdb-target.dtd\"><target version=\"1.0\">"
    ++ codes "<architecture>riscv:rv32</architecture><osabi>none</osabi><feature name=\"org.gnu.gdb.riscv.cpu\">"
    ++ flat_map register_element (enumerate_from 0 register_names)
    ++ codes "</feature></target>"
