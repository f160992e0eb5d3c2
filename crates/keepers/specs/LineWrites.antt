-- How lines are written to a sink.
use Rattle.std.specs.Prelude.{◌≡◌, ℕ, ◌+◌, List, ◌∷◌, ◌++◌, length, Option}
use Rattle.std.specs.List.{concat}
use Rattle.keepers.specs.Counts.{Rose, raised}
use Rattle.keepers.specs.Claims.{Tells, AddsPrefix}
use Rattle.keepers.specs.declared.sink.Sink.{Ghosts}

-- a sink at one moment: its claimed bytes, its count of calls, and its count of faults
pub record Seen : Type 0 where
  pub told : Option (List ℕ)
  pub calls : ℕ
  pub faults : ℕ

abbrev pub seen : {X : Type 0} → Ghosts X → X → Seen
seen g sink = record { told = g.told sink; calls = g.call_count sink; faults = g.fault_count sink }

-- the lines were added, each in one write
pub record AddsLines (lines : List (List ℕ)) (old new : Seen) : Type 0 where
  pub told : Tells old.told new.told (λ a b. b ≡ a ++ concat lines)
  pub calls : new.calls ≡ raised old.calls (length lines)
  pub quiet : new.faults ≡ old.faults

-- The lines before one of them were added, each in one write. The write of that one failed, after a prefix of it. The
-- lines after it were not written.
pub record StopsIn (lines : List (List ℕ)) (old new : Seen) : Type 0 where
  pub before : List (List ℕ)
  pub line : List ℕ
  pub after : List (List ℕ)
  pub in_order : lines ≡ before ++ line ∷ after
  pub told : Tells old.told new.told (λ a b. AddsPrefix line (a ++ concat before) b)
  pub calls : new.calls ≡ raised old.calls (length before + 1)
  pub cause : Rose old.faults new.faults
