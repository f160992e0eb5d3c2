-- The input of a hash.
use Rattle.std.specs.Prelude.{ℕ, List, ◌++◌}
use Rattle.sha2.specs.Hashers.{Holds256}
use Rattle.sha2.specs.declared.Sha256.{Sha256}

-- the hasher holds this piece after its earlier input
abbrev pub Feeds : Sha256 → Sha256 → List ℕ → Type 0
Feeds before after piece = (held : List ℕ) → Holds256 before held → Holds256 after (held ++ piece)
