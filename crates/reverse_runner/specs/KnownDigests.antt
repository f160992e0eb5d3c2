-- No public clause cites this file. Digests of images that are known of states.
use Rattle.std.specs.Prelude.{◌≡◌, List, ℕ, Option, IfSome}
use Rattle.sha2.specs.Sha256.{sha256}
use Rattle.rv_machine.specs.MachineState.{MachineState}
use Rattle.state_image.specs.Image.{image}

-- where a digest is known, it is that of the state's image
abbrev pub IsDigestOf : Option (List ℕ) → MachineState → Type 0
IsDigestOf known s = IfSome known (λ digest. digest ≡ sha256 (image s))
