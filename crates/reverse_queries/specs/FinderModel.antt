-- No public clause cites this file. What is looked for in the states that a session gives, and what is kept of them.
use Rattle.std.specs.Prelude.{◌≡◌, ◌⊎◌, ℕ, ◌+◌, ◌<◌, ◌≤◌, List, Option, None, Some, Any, IsSome}
use Rattle.rv_machine.specs.MachineState.{MachineState}
use Rattle.rv_machine.specs.StepTable.{written}
use Rattle.reverse_queries.specs.declared.finder.Sought.{Sought}
use Rattle.reverse_queries.specs.declared.finder.Sought.TheVariants.{Write, Change}
use Rattle.reverse_queries.specs.declared.finder.Finder.{Finder}
use Rattle.reverse_queries.specs.Queries.{WritesIn, ChangesIn, word_bytes, SomeDiffer}

-- the step of state m has the wanted property
abbrev pub DoesWhatIsAsked : Sought → List (List ℕ) → ℕ → (ℕ → MachineState) → ℕ → Type 0
DoesWhatIsAsked Write journal word states m = WritesIn states journal word m
DoesWhatIsAsked Change journal word states m = ChangesIn states word m

-- the next step of a state has it; the word has these bytes in the state after it
abbrev pub Finds : Sought → ℕ → List (Option ℕ) → MachineState → List (List ℕ) → Type 0
Finds Write word later s journal = Any (λ at. (word ≤ at) × (at < word + 4)) (written s journal)
Finds Change word later s journal = SomeDiffer (word_bytes s.memory word) later

-- a finder without an answer got a state; if its step has the property, its number is the answer
pub record Looked (old : Finder) (n : ℕ) (s : MachineState) (journal : List (List ℕ)) (new : Finder) : Type 0 where
  pub question : new.question ≡ old.question
  pub word : new.word ≡ old.word
  pub last : new.last ≡ old.last
  pub later : new.later ≡ word_bytes s.memory old.word
  pub answer :
      ((new.answer ≡ Some n) × (n < old.last) × Finds old.question old.word old.later s journal)
      ⊎ ((new.answer ≡ old.answer) × (n < old.last → Finds old.question old.word old.later s journal → ⊥))

-- a finder got a state: one that has an answer keeps it
pub record Got (old : Finder) (n : ℕ) (s : MachineState) (journal : List (List ℕ)) (new : Finder) : Type 0 where
  pub keeps : IsSome old.answer → new ≡ old
  pub looks : old.answer ≡ None → Looked old n s journal new
