-- `demo`: a run of a program made from a number, and its summary.
use Rattle.std.specs.Prelude.{◌≡◌, ℕ, ◌++◌, [], ◌∷◌, map}
use Rattle.level_book.specs.BookCosts.{plain}
use Rattle.rv_machine.specs.MachineState.{MachineState}
use Rattle.elf_load.specs.Raw.{IsRawProgram}
use Rattle.level_book.specs.CostFold.{forward}
use Rattle.reversal.specs.Job.{demonstrate}
use Rattle.reversal.specs.Deeds.{silent_deed, writing}
use Rattle.reversal.specs.Course.{Course}
use Rattle.reversal.specs.Table.{Decision, Table, plans, Decided, accept, ends}
use Rattle.reversal.specs.Demo.{demo_list, summary}
use Rattle.reversal.specs.Demo as demonstration

-- a demonstration, whose program is raw words over a stack of 16 pages
abbrev pub demo_table : ℕ → ℕ → ℕ → Table
demo_table number steps slots =
    plans steps (plain slots)
    (ends (λ d. (first : MachineState) × IsRawProgram (demonstration.program number) 16 first × (d ≡ accept (demonstrate number first steps slots))))

abbrev pub DecidesDemo : ℕ → ℕ → ℕ → Decision → Type 0
DecidesDemo number steps slots d = Decided (demo_table number steps slots) d

-- Revolve's list is performed with images in memory of its own. It writes no line, and then the summary.
abbrev pub demonstrating : (number : ℕ) → MachineState → (steps slots : ℕ) → Course
demonstrating number first steps slots = record {
  levels = 0;
  deeds = λ shown. map silent_deed (demo_list steps slots) ++ writing (summary number first steps slots ∷ []) ∷ [];
  output = λ shown. summary number first steps slots;
  steps = λ shown. forward (demo_list steps slots);
  write_place = λ place. 0;
  storage_place = λ place. place;
  shows = λ shown old. Unit {0};
  answers = λ shown old new. Unit {0};
  answers_partly = λ shown performed old new. Unit {0};
  holds = λ Same shown performed old new. Unit {0};
  damage = λ shown performed level put got old new. ⊥;
  stops = λ shown performed level old new. Unit {0};
  may_want = λ deed. deed.pieces ≡ [];
}
