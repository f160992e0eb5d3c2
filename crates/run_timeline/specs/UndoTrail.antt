-- No public clause cites this file. How an undo list leads back from a place of a run.
use Rattle.std.specs.Prelude.{◌≡◌, ℕ, zero, suc, List, [], ◌∷◌, length}
use Rattle.rv_pages.specs.Memory.{IsMapped}
use Rattle.unit_undo.specs.Entry.{Entry, undone}
use Rattle.run_timeline.specs.Moves.{Run, state}

-- The entries, the last one first, lead back over the states before a place, one for each.
abbrev pub Trails : List Entry → Run → ℕ → Type 0
Trails [] r place = Unit {0}
Trails (e ∷ entries) r zero = ⊥
Trails (e ∷ entries) r (suc p) = IsMapped (state r (suc p)).memory e.at (length e.bytes) × (undone e (state r (suc p)) ≡ state r p) × Trails entries r p
