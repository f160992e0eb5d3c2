-- The inputs of a command, and what is there under their names.
use Rattle.std.specs.Prelude.{◌≡◌, ℕ, ◌+◌, ◌-◌, ◌<◌, ◌≤◌, ◌++◌, List, [], ◌∷◌, length, map, take, nat_le, if◌then◌else◌, Option, Some, IsSomeAnd}
use Rattle.std.specs.List.{AllByRecursion, flat_map}
use Rattle.std.specs.FinMap as finmap
use Rattle.keepers.specs.Claims.{Files, WhereTold}
pub use Rattle.requests.specs.Operands.{Input}
use Rattle.requests.specs.Operands.{inputs_named, limit_of}
use Rattle.requests.specs.Request.{Command, operands}

-- the inputs of a command, in the order of the words; a demonstration makes its own
abbrev pub inputs_of : Command → List Input
inputs_of c = flat_map inputs_named (operands c)

abbrev pub names : List Input → List (List ℕ)
names is = map (λ i. i.name) is

-- What is there under each name: its bytes, or None if there is no such input. An empty input is something else.
abbrev pub contents : Files → List Input → List (Option (List ℕ))
contents files is = map (λ i. finmap.get files i.name) is

-- How many inputs are requested: up to the first that is missing or too long. Each is read and measured before the next
-- is requested.
abbrev pub asked_count : List Input → List (Option (List ℕ)) → ℕ
asked_count [] given = 0
asked_count (i ∷ is) (Some bytes ∷ given) = 1 + (if nat_le (length bytes) (limit_of i.kind) then asked_count is given else 0)
asked_count (i ∷ is) given = 1

-- these inputs are there, and none is longer than its limit
abbrev pub AreThere : Files → List Input → Type 0
AreThere files is = AllByRecursion (λ i. IsSomeAnd (finmap.get files i.name) (λ bytes. length bytes ≤ limit_of i.kind)) is

-- The input at this place can't be read. Places count from 1, so subtracting 1 doesn't truncate. It was asked for, and
-- so were those before it. If the inputs claim their content, those are there and within their limits.
pub record FailsAtInput (is : List Input) (told : Option Files) (place : ℕ) (before after : List (List ℕ)) : Type 0 where
  pub from_one : 0 < place
  pub within : place ≤ length is
  pub asked : after ≡ before ++ take place (names is)
  pub earlier : WhereTold told (λ files. AreThere files (take (place - 1) is))
