-- The exception to claims about a console over any keepers: a collision came back for a mark. The bytes differ from the
-- image of its state in the run, and both have one SHA-256.
use Rattle.std.specs.Prelude.{◌≡◌, ◌≢◌, ◌⊎◌, ℕ, ◌<◌, ◌≤◌, List, Option, None, Some}
use Rattle.sha2.specs.Sha256.{sha256}
use Rattle.rv_machine.specs.MachineState.{MachineState}
use Rattle.rv_machine.specs.States.{state_number}
use Rattle.state_image.specs.Image.{image}
use Rattle.reverse_console.specs.declared.order.Order.{Order}
use Rattle.reverse_console.specs.declared.order.Order.TheVariants.{Back, Step, Goto, BackTo, RunTo, BackChange, BackWrite}
use Rattle.reverse_console.specs.Marks.{marked, mark_of}
use Rattle.reverse_console.specs.StateSources.{Source, ComesFrom, IsSeen, IsLastSeen, IsFirstSeen, HasPc, Changes, Writes, IsAnswerSeen}
use Rattle.reverse_console.specs.ScriptAnswers.{IsTextOf}

-- the bytes from which a state came collide with the image of the mark's state
pub record Collides (first : MachineState) (from : Source) (i n : ℕ) (s : MachineState) (came : ComesFrom from i n s) : Type 0 where
  pub other : came.bytes ≢ image (state_number first from.journal (marked from.plan i))
  pub one_digest : sha256 came.bytes ≡ sha256 (image (state_number first from.journal (marked from.plan i)))

-- the bytes of a state that was seen collide, or those of a state that an answer used
abbrev pub SeenCollides : MachineState → (from : Source) (P : MachineState → Type 0) (n : ℕ) → IsSeen from P n → Type 0
SeenCollides first from P n seen = Collides first from seen.0 n seen.1.0 seen.1.1.0

abbrev pub LastCollides : MachineState → (from : Source) (P : MachineState → Type 0) (bound : ℕ) (answer : Option ℕ) → IsLastSeen from P bound answer → Type 0
LastCollides first from P bound (Some m) h =
    SeenCollides first from P m h.0 ⊎ ((n : ℕ) × (above : m < n) × (below : n < bound) × SeenCollides first from (λ s. P s → ⊥) n (h.2 n above below))
LastCollides first from P bound None h = (n : ℕ) × (below : n < bound) × SeenCollides first from (λ s. P s → ⊥) n (h n below)

abbrev pub FirstCollides : MachineState → (from : Source) (P : MachineState → Type 0) (bound last : ℕ) (answer : Option ℕ) → IsFirstSeen from P bound last answer → Type 0
FirstCollides first from P bound last (Some m) h =
    SeenCollides first from P m h.0 ⊎ ((n : ℕ) × (above : bound < n) × (below : n < m) × SeenCollides first from (λ s. P s → ⊥) n (h.3 n above below))
FirstCollides first from P bound last None h = (n : ℕ) × (above : bound < n) × (most : n ≤ last) × SeenCollides first from (λ s. P s → ⊥) n (h n above most)

abbrev pub AnswerCollides : MachineState → (from : Source) (place : ℕ) (order : Order) (answer : Option ℕ) → IsAnswerSeen from place order answer → Type 0
AnswerCollides first from place (Back k) answer h = ⊥
AnswerCollides first from place (Step k) answer h = ⊥
AnswerCollides first from place (Goto k) answer h = ⊥
AnswerCollides first from place (BackTo address) answer h = LastCollides first from (HasPc address) place answer h
AnswerCollides first from place (RunTo address) answer h = FirstCollides first from (HasPc address) place from.plan.count answer h
AnswerCollides first from place (BackChange word) answer h = LastCollides first from (Changes from.journal word) place answer h
AnswerCollides first from place (BackWrite word) answer h = LastCollides first from (Writes from.journal word) place answer h

-- the bytes of the state whose line is written collide
abbrev pub TextCollides : MachineState → (from : Source) (answer : Option ℕ) (text : List ℕ) → IsTextOf from answer text → Type 0
TextCollides first from (Some n) text h = Collides first from (mark_of from.plan n) n h.0 h.1.0
TextCollides first from None text h = ⊥
