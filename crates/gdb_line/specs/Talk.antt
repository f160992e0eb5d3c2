-- What goes over a line, in both directions.
use Rattle.std.specs.Prelude.{◌≡◌, ℕ, List, ◌++◌, take}

pub record Talk : Type 0 where
  pub came : List ℕ
  -- what is yet to come
  pub left : List ℕ
  pub went : List ℕ

-- a piece came, which may be empty
abbrev pub Comes : List ℕ → Talk → Talk → Type 0
Comes piece old new = (old.left ≡ piece ++ new.left) × (new ≡ record old { came = old.came ++ piece; left = new.left })

-- a piece went
abbrev pub Goes : List ℕ → Talk → Talk → Type 0
Goes piece old new = new ≡ record old { went = old.went ++ piece }

-- a prefix of the piece went
abbrev pub GoesPartly : List ℕ → Talk → Talk → Type 0
GoesPartly piece old new = (k : ℕ) × Goes (take k piece) old new
