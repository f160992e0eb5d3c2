-- Undo lists over the states of a run.
use Rattle.std.proofs.Common.{◌≡◌, ℕ, zero, suc, ◌+◌, List, [], ◌∷◌, length, sym, ap, subst, ◌∙◌, arith}
use Rattle.rv_pages.specs.Memory.{IsMapped}
use Rattle.rv_machine.specs.MachineState.{MachineState}
use Rattle.rv_machine.specs.States.{state_number}
use Rattle.rv_machine.specs.StepTable.{next}
use Rattle.rv_machine.specs.Watchers.{AreNoted}
use Rattle.rv_machine.proofs.Runs.{state_number-add}
use Rattle.unit_undo.specs.Entry.{Entry, undone}
use Rattle.unit_undo.specs.UndoState.{UndoState, IsPushed}
use Rattle.unit_undo.specs.UndoTrail.{LeadsBack, states_below}
use Rattle.unit_undo.proofs.UndoTrail.{noted, one_each, length-states_below}
use Rattle.run_timeline.specs.Moves.{Run, state}
use Rattle.run_timeline.specs.UndoTrail.{Trails}

-- What leads back over the states since a place leads back over states of the run.
trails_from : (entries : List Entry) (r : Run) (p n place : ℕ) → place ≡ p + n → LeadsBack entries (state_number (state r p) r.journal n) (states_below (state r p) r.journal n) → Trails entries r place
trails_from [] r p n place is h = tt
trails_from (e ∷ entries) r p zero place is h = absurd h
trails_from (e ∷ entries) r p (suc n) zero is h = absurd (omega (arith, is))
trails_from (e ∷ entries) r p (suc n) (suc q) is h =
    let before : p + n ≡ q = omega (arith, is) in
    let there : state_number (state r p) r.journal n ≡ state r q = sym (state_number-add r.first r.journal p n) ∙ ap (state r) before in
    let now : state_number (state r p) r.journal (suc n) ≡ state r (suc q) = ap (λ (s : MachineState). next s r.journal) there in
    (subst (λ (s : MachineState). IsMapped s.memory e.at (length e.bytes)) now h.0, ap (undone e) (sym now) ∙ h.1 ∙ there, trails_from entries r p n q (sym before) h.2)

-- steps from a place were noted
pub trailed : (r : Run) (p n place : ℕ) (s : MachineState) (u v : UndoState) → s ≡ state r p → place ≡ p + n → u.entries ≡ [] → AreNoted IsPushed s r.journal n u v → Trails v.entries r place
trailed r p n place s u v here is empty h =
    let so = noted s r.journal n u v empty h in
    trails_from v.entries r p n place is (subst (λ (t : MachineState). LeadsBack v.entries (state_number t r.journal n) (states_below t r.journal n)) here so.has.back)

pub trailed_count : (journal : List (List ℕ)) (n : ℕ) (s : MachineState) (u v : UndoState) → u.entries ≡ [] → AreNoted IsPushed s journal n u v → length v.entries ≡ n
trailed_count journal n s u v empty h =
    let so = noted s journal n u v empty h in
    one_each v.entries (state_number s journal n) (states_below s journal n) so.has.back ∙ length-states_below s journal n

pub trailed_same : (journal : List (List ℕ)) (n : ℕ) (s : MachineState) (u v : UndoState) → u.entries ≡ [] → AreNoted IsPushed s journal n u v → v ≡ record u { entries = v.entries }
trailed_same journal n s u v empty h =
    let so = noted s journal n u v empty h in
    λ i. record { unit = so.unit i; room = so.room i; entries = v.entries }
