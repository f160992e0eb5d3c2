-- What may be there under the names of a request's inputs, bytes or nothing. All of it leads to a decision.
use Rattle.std.specs.Prelude.{ℕ, ◌<◌, List, Option, None, Some}
use Rattle.std.specs.List.{AllByRecursion}
use Rattle.requests.specs.Request.{Request}
use Rattle.requests.specs.Bounds.{numbers, IsWithin}
use Rattle.reversal.specs.Table.{Decision}
use Rattle.reversal.specs.Decision.{Decides}

abbrev pub AreBytes : List ℕ → Type 0
AreBytes bytes = AllByRecursion (λ b. b < 256) bytes

abbrev pub IsContent : Option (List ℕ) → Type 0
IsContent None = Unit {0}
IsContent (Some bytes) = AreBytes bytes

-- every request within its bounds has a decision, for any inputs and any slots of the keepers
abbrev pub DecisionsExist : Type 0
DecisionsExist =
    (r : Request) → AllByRecursion IsWithin (numbers r) → (given : List (Option (List ℕ))) → AllByRecursion IsContent given → (slots : List ℕ) →
    (d : Decision) × Decides r given slots d
