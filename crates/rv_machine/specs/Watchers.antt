-- Watchers of the steps of a run, each before it is taken.
use Rattle.std.specs.Prelude.{◌≡◌, ◌⊎◌, ℕ, zero, suc, ◌<◌, Bool, true, false, cond, List, None, IfSome}
use Rattle.std.specs.Option.{option_and_then}
use Rattle.rv_pages.specs.Memory.{word_at}
use Rattle.rv_decode.specs.Rows.{decoded}
use Rattle.rv_decode.specs.Ranges.{HasRanges}
use Rattle.rv_machine.specs.declared.next.Next.{Next}
use Rattle.rv_machine.specs.MachineState.{MachineState}
use Rattle.rv_machine.specs.States.{state_number}
use Rattle.rv_machine.specs.StepTable.{is_running}

-- It is the instruction of a state's next step, with its fields in their ranges. A stopped state has none, and neither
-- has one whose word at pc is unmapped or illegal.
pub record IsNext (next : Next) (s : MachineState) : Type 0 where
  pub inst : next.inst ≡ cond (is_running s.status) (option_and_then decoded (word_at s.memory s.pc)) None
  pub ranges : IfSome next.inst HasRanges

-- Each of the first n steps of a run was looked at, in order, before it was taken. v is the watcher before the first of
-- them, and w is the watcher after the last.
abbrev pub AreNoted : {W : Type 0} → (W → MachineState → List (List ℕ) → W → Type 0) → MachineState → List (List ℕ) → ℕ → W → W → Type 0
AreNoted noted first journal zero v w = w ≡ v
AreNoted {W} noted first journal (suc n) v w = (u : W) × (AreNoted noted first journal n v u × noted u (state_number first journal n) journal w)

-- a watcher may look at each of the first n steps of a run, whatever it saw before
abbrev pub CanNote : {W : Type 0} → (W → MachineState → List (List ℕ) → Type 0) → (W → MachineState → List (List ℕ) → W → Type 0) →
    MachineState → List (List ℕ) → ℕ → W → Type 0
CanNote {W} can_note noted first journal n v =
    (k : ℕ) (w : W) → k < n → AreNoted noted first journal k v w → can_note w (state_number first journal k) journal

-- A run goes on in a running state in which nothing stops it. It ends in every other one.
abbrev pub GoesOn : (MachineState → List (List ℕ) → Bool) → List (List ℕ) → MachineState → Type 0
GoesOn stops journal s = (is_running s.status ≡ true) × (stops s journal ≡ false)

abbrev pub Ends : (MachineState → List (List ℕ) → Bool) → List (List ℕ) → MachineState → Type 0
Ends stops journal s = (is_running s.status ≡ false) ⊎ (stops s journal ≡ true)
