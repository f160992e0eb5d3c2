-- What was read of a request's inputs, by their kind.
use Rattle.std.specs.Prelude.{ℕ, ◌≤◌, List, [], ◌∷◌, length, Option, None, Some, IfSome}
use Rattle.requests.specs.declared.input_kind.InputKind.{InputKind}
use Rattle.requests.specs.declared.input_kind.InputKind.TheVariants as input
use Rattle.requests.specs.Operands.{Input, limit_of}

-- The bytes of each kind of input. What the words don't name is empty; without recorded input the journal is None.
pub record Loaded : Type 0 where
  pub program : List ℕ
  pub journal : Option (List ℕ)
  pub book : List ℕ
  pub schedule : List ℕ
  pub certificate : List ℕ
  pub source : List ℕ
  pub words : List ℕ
  pub script : List ℕ

-- before anything was read
abbrev pub nothing : Loaded
nothing = record { program = []; journal = None; book = []; schedule = []; certificate = []; source = []; words = []; script = [] }

-- then these bytes were read for an input of this kind
abbrev pub with_bytes : InputKind → List ℕ → Loaded → Loaded
with_bytes input.Program bytes l = record l { program = bytes }
with_bytes input.Journal bytes l = record l { journal = Some bytes }
with_bytes input.Book bytes l = record l { book = bytes }
with_bytes input.Schedule bytes l = record l { schedule = bytes }
with_bytes input.Certificate bytes l = record l { certificate = bytes }
with_bytes input.Source bytes l = record l { source = bytes }
with_bytes input.Words bytes l = record l { words = bytes }
with_bytes input.Script bytes l = record l { script = bytes }

-- then the bytes of these inputs, one after the other
abbrev pub loaded_after : Loaded → List Input → List (List ℕ) → Loaded
loaded_after l (i ∷ is) (bytes ∷ others) = loaded_after (with_bytes i.kind bytes l) is others
loaded_after l _ _ = l

-- what was read of these inputs
abbrev pub loaded_of : List Input → List (List ℕ) → Loaded
loaded_of is bytes = loaded_after nothing is bytes

-- each text is within the limit of its kind
pub record IsWithinLimits (l : Loaded) : Type 0 where
  pub program : length l.program ≤ limit_of input.Program
  pub journal : IfSome l.journal (λ text. length text ≤ limit_of input.Journal)
  pub book : length l.book ≤ limit_of input.Book
  pub schedule : length l.schedule ≤ limit_of input.Schedule
  pub certificate : length l.certificate ≤ limit_of input.Certificate
  pub source : length l.source ≤ limit_of input.Source
  pub words : length l.words ≤ limit_of input.Words
  pub script : length l.script ≤ limit_of input.Script
