-- The last state of a run whose image has a digest. It is our own; the digest is SHA-256 (FIPS 180-4).
use Rattle.std.specs.Prelude.{◌≡◌, ℕ, ◌≤◌, List, Option, Some, None}
use Rattle.sha2.specs.Sha256.{sha256}
use Rattle.rv_machine.specs.MachineState.{MachineState}
use Rattle.rv_machine.specs.States.{state_number}
use Rattle.state_image.specs.Image.{image}

-- what is looked for: a digest, among the states of a run with the numbers 0 to count
pub record Query : Type 0 where
  pub start : MachineState
  pub journal : List (List ℕ)
  pub digest : List ℕ
  pub count : ℕ

-- the image of the state with the number n has the digest
abbrev pub HasDigest : Query → ℕ → Type 0
HasDigest q n = sha256 (image (state_number q.start q.journal n)) ≡ q.digest

-- a place: the number of a state that is looked at and has the digest
pub record IsPlace (q : Query) (n : ℕ) : Type 0 where
  pub within : n ≤ q.count
  pub digest : HasDigest q n

-- the answer: the greatest place, or None if there is none
abbrev pub Found : Query → Option ℕ → Type 0
Found q (Some n) = IsPlace q n × ((m : ℕ) → IsPlace q m → m ≤ n)
Found q None = (m : ℕ) → IsPlace q m → ⊥
