-- No public clause cites this file. The canonical spelling at the front of bytes, and the rest after it.
use Rattle.std.specs.Prelude.{◌≡◌, ◌≤◌, ℕ, List, ◌++◌, codes, decimal}
use Rattle.plan_types.specs.declared.limits.TheConstants.{MOST_STEPS}
use Rattle.plan_types.specs.declared.action.Keep.{Keep}
use Rattle.plan_types.specs.declared.action.Dest.{Dest}
use Rattle.plan_types.specs.declared.action.Action.{Action}
use Rattle.action_text.specs.Canonical.{name_of, keep_text, dest_text, copy_text, canonical, IsLevelOf, IsDestOf, CanKeep, HasSpelling}

-- a level
pub record IsLevelAt (names : List (List ℕ)) (bytes : List ℕ) (k : ℕ) (rest : List ℕ) : Type 0 where
  pub is : IsLevelOf names k
  pub parts : bytes ≡ name_of names k ++ rest

-- where a Copy or a Move goes
pub record IsDestAt (names : List (List ℕ)) (bytes : List ℕ) (dest : Dest) (rest : List ℕ) : Type 0 where
  pub is : IsDestOf names dest
  pub parts : bytes ≡ dest_text names dest ++ rest

-- the last three arguments of a Forward with these numbers
pub record IsKeepAt (names : List (List ℕ)) (from to : ℕ) (bytes : List ℕ) (keep : Keep) (rest : List ℕ) : Type 0 where
  pub can : CanKeep names from to keep
  pub parts : bytes ≡ keep_text names keep ++ rest

-- the arguments of a Copy or a Move
pub record IsImageAt (names : List (List ℕ)) (bytes : List ℕ) (n k : ℕ) (dest : Dest) (rest : List ℕ) : Type 0 where
  pub low : n ≤ MOST_STEPS
  pub level : IsLevelOf names k
  pub goes : IsDestOf names dest
  pub parts : bytes ≡ codes "(" ++ (decimal n ++ (copy_text names k dest ++ rest))

-- an action
pub record IsActionAt (names : List (List ℕ)) (bytes : List ℕ) (a : Action) (rest : List ℕ) : Type 0 where
  pub spelling : HasSpelling names a
  pub parts : bytes ≡ canonical names a ++ rest
