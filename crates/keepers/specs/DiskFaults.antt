-- When a call on a disk fails.
use Rattle.std.specs.Prelude.{◌≡◌, ◌≢◌, ◌⊎◌, ℕ, List, [], Option, None, Result, IsSomeAnd}
use Rattle.std.specs.Result.{IfErr}
use Rattle.std.specs.Str.{IsUtf8}
use Rattle.std.specs.FinMap as finmap
use Rattle.std.specs.IoError.{error_kind}
use Rattle.std.specs.declared.io.Error.{Error}
use Rattle.std.specs.declared.io.ErrorKind.TheVariants.{OutOfMemory}
use Rattle.keepers.specs.Claims.{Files}

-- an answer is an error other than lack of memory only where this holds
abbrev pub FailsOnlyWhere : {A : Type 0} → Result A Error → Type 0 → Type 0
FailsOnlyWhere answer P = IfErr answer (λ error. error_kind error ≢ OutOfMemory → P)

-- the files are known, and none has this name
abbrev pub IsAbsent : Option Files → List ℕ → Type 0
IsAbsent told name = IsSomeAnd told (λ files. finmap.get files name ≡ None)

-- these bytes name no folder: there are none, or they aren't UTF-8
abbrev pub NamesNoFolder : List ℕ → Type 0
NamesNoFolder folder = (folder ≡ []) ⊎ (IsUtf8 folder → ⊥)
