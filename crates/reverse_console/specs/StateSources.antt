-- What is known, from the fetched bytes, of a console's states. It holds even if the console represents no run.
use Rattle.std.specs.Prelude.{◌≡◌, ◌≢◌, ◌⊎◌, ℕ, ◌+◌, ◌-◌, ◌<◌, ◌≤◌, min, List, Option, None, Some}
use Rattle.sha2.specs.Sha256.{sha256}
use Rattle.rv_machine.specs.MachineState.{MachineState}
use Rattle.rv_machine.specs.States.{state_number}
use Rattle.image_store.specs.declared.shelf.Kept.{Kept}
use Rattle.image_store.specs.Shelves.{kept_at}
use Rattle.image_store.specs.Calls.{IsGot}
use Rattle.reverse_runner.specs.ActionEffects.{Levels, IsFetched, IsDecoded}
use Rattle.reverse_runner.specs.SessionOfRun.{IsNoImage}
use Rattle.reverse_queries.specs.Queries.{WritesWord, ChangesWord}
use Rattle.reverse_console.specs.declared.order.Order.{Order}
use Rattle.reverse_console.specs.declared.order.Order.TheVariants.{Back, Step, Goto, BackTo, RunTo, BackChange, BackWrite}
use Rattle.reverse_console.specs.Marks.{MarkPlan, marked, mark_level, mark_count}

-- where states come from: the plan of the marks, the recorded input, the levels, and a machine state
pub record Source : Type 0 where
  pub plan : MarkPlan
  pub journal : List (List ℕ)
  pub levels : Levels
  pub machine : MachineState

-- State n came from mark i. The bytes fetched for the mark are the image of a state of this machine. The machine's
-- steps lead from there to this state.
pub record ComesFrom (from : Source) (i n : ℕ) (s : MachineState) : Type 0 where
  pub known : i < mark_count from.plan
  pub below : marked from.plan i ≤ n
  pub bytes : List ℕ
  pub fetched : IsFetched from.levels (mark_level from.plan i) (marked from.plan i) bytes
  pub state : MachineState
  pub decoded : IsDecoded from.machine state bytes
  pub there : s ≡ state_number state from.journal (n - marked from.plan i)

-- state n came from some mark, and this holds of it
abbrev pub IsSeen : Source → (MachineState → Type 0) → ℕ → Type 0
IsSeen from P n = (i : ℕ) × ((s : MachineState) × (ComesFrom from i n s × P s))

-- the last state seen below a bound with this property, or all below it, none with it
abbrev pub IsLastSeen : Source → (MachineState → Type 0) → ℕ → Option ℕ → Type 0
IsLastSeen from P bound (Some m) = IsSeen from P m × (m < bound) × ((n : ℕ) → m < n → n < bound → IsSeen from (λ s. P s → ⊥) n)
IsLastSeen from P bound None = (n : ℕ) → n < bound → IsSeen from (λ s. P s → ⊥) n

-- the first above a bound and up to a last one
abbrev pub IsFirstSeen : Source → (MachineState → Type 0) → ℕ → ℕ → Option ℕ → Type 0
IsFirstSeen from P bound last (Some m) = IsSeen from P m × (bound < m) × (m ≤ last) × ((n : ℕ) → bound < n → n < m → IsSeen from (λ s. P s → ⊥) n)
IsFirstSeen from P bound last None = (n : ℕ) → bound < n → n ≤ last → IsSeen from (λ s. P s → ⊥) n

-- The next instruction of a state is at an address. Its step changes a byte of a word, or writes one.
abbrev pub HasPc : ℕ → MachineState → Type 0
HasPc address s = s.pc ≡ address

abbrev pub Changes : List (List ℕ) → ℕ → MachineState → Type 0
Changes journal word s = ChangesWord s journal word 0

abbrev pub Writes : List (List ℕ) → ℕ → MachineState → Type 0
Writes journal word s = WritesWord s journal word 0

-- an order's new place by the states that were seen
abbrev pub IsAnswerSeen : Source → ℕ → Order → Option ℕ → Type 0
IsAnswerSeen from place (Back k) answer = answer ≡ Some (place - k)
IsAnswerSeen from place (Step k) answer = answer ≡ Some (min (place + k) from.plan.count)
IsAnswerSeen from place (Goto k) answer = answer ≡ Some k
IsAnswerSeen from place (BackTo address) answer = IsLastSeen from (HasPc address) place answer
IsAnswerSeen from place (RunTo address) answer = IsFirstSeen from (HasPc address) place from.plan.count answer
IsAnswerSeen from place (BackChange word) answer = IsLastSeen from (Changes from.journal word) place answer
IsAnswerSeen from place (BackWrite word) answer = IsLastSeen from (Writes from.journal word) place answer

-- The bytes of this mark have another digest than those that were put. Or they have the same digest, and are no image.
pub record IsMarkDamaged (from : Source) (mark k : ℕ) (put got : List ℕ) : Type 0 where
  pub known : mark < mark_count from.plan
  pub level : k ≡ mark_level from.plan mark
  pub kept : Kept
  pub held : kept_at from.levels.store k (marked from.plan mark) ≡ Some kept
  pub bytes : List ℕ
  pub told : IsGot kept (from.levels.told k) bytes
  pub put_digest : put ≡ kept.digest
  pub got_digest : got ≡ sha256 bytes
  pub wrong : (got ≢ put) ⊎ IsNoImage from.machine bytes
