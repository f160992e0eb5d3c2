-- One step more.
use Rattle.std.proofs.Common.{◌≡◌, ℕ, suc, ◌*◌, ◌<◌, List, [], ◌∷◌, zero, length, Some, ap, ◌∙◌, sym, arith}
use Rattle.std.specs.List.{slice_get, slice_index_or}
use Rattle.rv_machine.specs.MachineState.{MachineState}
use Rattle.rv_machine.specs.StepTable.{next}
use Rattle.rv_machine.specs.States.{state_number}
use Rattle.segment_sweep.specs.MarkedRun.{MarkedRun, StandFor}
use Rattle.segment_sweep.specs.SegmentResults.{no_query}

pub one_more : (s : MachineState) (journal : List (List ℕ)) (n m : ℕ) (t : MachineState) → t ≡ state_number s journal n → m ≡ suc n → next t journal ≡ state_number s journal m
one_more s journal n m t e f = ap (λ x. next x journal) e ∙ ap (λ k. state_number s journal k) (sym f)

pub same_number : (s : MachineState) (journal : List (List ℕ)) (n m : ℕ) → n ≡ m → state_number s journal n ≡ state_number s journal m
same_number s journal n m e = ap (λ k. state_number s journal k) e

marks_some : (count width n : ℕ) → count < n * width → 0 < n
marks_some count width zero h = absurd (omega arith)
marks_some count width (suc n) h = omega arith

some_is : {X : Type 0} (x y : X) → Some x ≡ Some y → x ≡ y
some_is x y e = cc

-- the first mark is the start of the run
abbrev pub first_mark : MarkedRun → MachineState
first_mark m = slice_index_or m.states 0 no_query.start

at_front : (xs : List MachineState) (x other : MachineState) → slice_get xs 0 ≡ Some x → slice_index_or xs 0 other ≡ x
at_front [] x other e = absurd cc
at_front (y ∷ xs) x other e = some_is y x e

pub first_mark_lem : (start : MachineState) (journal : List (List ℕ)) (m : MarkedRun) → StandFor start journal m → first_mark m ≡ start
first_mark_lem start journal m h =
    let some : 0 < length m.states = marks_some m.count m.width (length m.states) h.enough in
    at_front m.states start no_query.start (h.each 0 some ∙ ap (λ (s : MachineState). Some s) (same_number start journal (0 * m.width) 0 (omega arith)))
