-- The model of a keeper that gives one wrong bit, and what it gives.
use Rattle.std.specs.Prelude.{ℕ, List, refl, ◌==◌, if◌then◌else◌, slice_set, slice_index, bit_xor}
use Rattle.std.specs.Coded.{Coded, code_by, coded×, coded_ℕ}
use Rattle.keepers.specs.Counts.{raised}
use Rattle.keepers.specs.KeeperState.{KeeperState, keeper_state_code}

-- the keeper in memory with the images, the number of the faulty get, and the place of its byte
pub record FlipState : Type 0 where
  pub keeper : KeeperState
  pub get : ℕ
  pub at : ℕ

abbrev pub flip_state_code : Coded FlipState
flip_state_code =
    code_by (KeeperState × (ℕ × ℕ))
    (coded× keeper_state_code (coded× coded_ℕ coded_ℕ))
    (λ s. (s.keeper, (s.get, s.at)))
    (λ p. record { keeper = p.0; get = p.1.0; at = p.1.1 })
    (λ _. refl)

-- bytes with the lowest bit of one of them flipped; unchanged if there is no such byte
abbrev pub flipped : ℕ → List ℕ → List ℕ
flipped at bytes = slice_set bytes at (bit_xor (slice_index bytes at) 1)

-- what the next get gives of these bytes
abbrev pub given : FlipState → List ℕ → List ℕ
given state bytes = if raised state.keeper.gets 1 == state.get then flipped state.at bytes else bytes
