-- What the visitor of a session gets from an action, and which actions call keepers. The states are the session's.
use Rattle.std.specs.Prelude.{◌≡◌, ◌⊎◌, ℕ, Bool, true, false, List, [], ◌∷◌, Result, Err, OnOk}
use Rattle.plan_types.specs.declared.action.Keep.TheVariants.{Store}
use Rattle.plan_types.specs.declared.action.Action.{Action}
use Rattle.plan_types.specs.declared.action.Action.TheVariants.{Forward, Reverse, Copy, Move, EndForward}
use Rattle.rv_machine.specs.MachineState.{MachineState}
use Rattle.reverse_runner.specs.declared.fault.RunFault.{RunFault}
use Rattle.reverse_runner.specs.declared.fault.RunFault.TheVariants.{Visitor}

-- whether an action calls a keeper; no other action can run out of memory
abbrev pub calls_keepers : Action → Bool
calls_keepers (Forward from to (Store k)) = true
calls_keepers (Copy n k to) = true
calls_keepers (Move n k to) = true
calls_keepers _ = false

-- the states that an action gives: EndForward the one in work, a Reverse those on the tape
abbrev pub states_out : Action → MachineState → List MachineState → List MachineState
states_out EndForward work tape = work ∷ []
states_out (Reverse from to) work tape = tape
states_out _ work tape = []

-- the visitor got these states with these numbers, one after the other, by its relation between before and after
abbrev pub GetsAll : {V : Type 0} → (V → ℕ → MachineState → List (List ℕ) → V → Type 0) → List (List ℕ) → List ℕ → List MachineState → V → V → Type 0
GetsAll got journal [] [] before after = after ≡ before
GetsAll {V} got journal (n ∷ numbers) (s ∷ states) before after = (between : V)
    × (got before n s journal between × GetsAll got journal numbers states between after)
GetsAll got journal _ _ before after = ⊥

-- it got some of them, and missed the next one
abbrev pub MissesOne : {V : Type 0} → (V → ℕ → MachineState → List (List ℕ) → V → Type 0) → (V → ℕ → MachineState → List (List ℕ) → V → Type 0) →
    List (List ℕ) → List ℕ → List MachineState → V → V → Type 0
MissesOne {V} got missed journal (n ∷ numbers) (s ∷ states) before after =
    missed before n s journal after ⊎ ((between : V) × (got before n s journal between × MissesOne got missed journal numbers states between after))
MissesOne got missed journal _ _ before after = ⊥

-- These states were given to the visitor with these numbers, or those before one that it refused.
pub record HandsOut {A V : Type 0} (got missed : V → ℕ → MachineState → List (List ℕ) → V → Type 0) (journal : List (List ℕ))
    (numbers : List ℕ) (states : List MachineState) (result : Result A RunFault) (before after : V) : Type 0 where
  pub gets : OnOk result (GetsAll got journal numbers states before after)
  pub misses : result ≡ Err Visitor → MissesOne got missed journal numbers states before after
