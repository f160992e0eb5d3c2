-- The outcome of reading the inputs of a request.
use Rattle.std.specs.Prelude.{◌≡◌, ◌≢◌, ◌⊎◌, ℕ, ◌+◌, ◌<◌, ◌≤◌, ◌++◌, List, [], ◌∷◌, length, take, nat_le, if◌then◌else◌, Option, Some, Result, Err, IfOk, IfErr, Vec}
use Rattle.std.specs.FinMap as finmap
use Rattle.std.specs.Option.{option_map}
use Rattle.keepers.specs.Counts.{Rose}
use Rattle.keepers.specs.Claims.{Files, WhereTold}
use Rattle.keepers.specs.declared.inputs.Inputs.{Ghosts}
use Rattle.endings.specs.declared.outcome.Outcome.{Outcome}
use Rattle.requests.specs.declared.inputs.Input as in_memory
use Rattle.requests.specs.declared.loaded.Loaded as in_memory_loaded
use Rattle.requests.specs.Operands.{limit_of}
use Rattle.requests.specs.Inputs.{Input, names, contents, asked_count, FailsAtInput}
use Rattle.requests.specs.Loaded.{Loaded, loaded_of, IsWithinLimits}
use Rattle.endings.specs.Outcomes.{too_long as longer, no_memory, unreadable}
use Rattle.endings.specs.Endings.{status_of}

-- a wanted input, as one in memory has it
abbrev pub input_of : in_memory.Input → Input
input_of i = record { kind = i.kind; name = i.name.now }

-- the bytes of all inputs, or the first that is missing or too long, with its limit
pub data Reading : Type 0 where
  all : List (List ℕ) → Reading
  too_long : ℕ → ℕ → Reading
  not_there : ℕ → Reading

-- what was read, as it is in memory
abbrev pub contents_of : in_memory_loaded.Loaded → Loaded
contents_of l = record {
  program = l.program.items;
  journal = option_map (λ text. text.items) l.journal;
  book = l.book.items;
  schedule = l.schedule.items;
  certificate = l.certificate.items;
  source = l.source.items;
  words = l.words.items;
  script = l.script.items;
}

-- so many bytes before those that reading gives
abbrev pub with_front : List (List ℕ) → Reading → Reading
with_front front (all bytes) = all (front ++ bytes)
with_front front (too_long place limit) = too_long place limit
with_front front (not_there place) = not_there place

-- the outcome of reading, by what is there; inputs count on from `place`
abbrev pub reading : ℕ → List Input → List (Option (List ℕ)) → Reading
reading place [] given = all []
reading place (i ∷ is) (Some bytes ∷ given) =
    if nat_le (length bytes) (limit_of i.kind) then with_front (bytes ∷ []) (reading (place + 1) is given) else too_long place (limit_of i.kind)
reading place (i ∷ is) given = not_there place

-- Reading the inputs had this outcome, by what is there, if the inputs claim their content. They were asked for up to
-- the first that stops it.
pub record Reads (is : List Input) (told : Option Files) (before after : List (List ℕ)) (r : Reading) : Type 0 where
  pub given : List (Option (List ℕ))
  pub as_told : WhereTold told (λ files. given ≡ contents files is)
  pub reads : reading 1 is given ≡ r
  pub asked : after ≡ before ++ take (asked_count is given) (names is)

-- why reading stopped: an input can't be read, memory ran out, or an input is too long
abbrev pub Stops : List Input → Option Files → Outcome → List (List ℕ) → List (List ℕ) → Type 0
Stops is told e before after =
    ((place : ℕ) × (e ≡ unreadable place) × FailsAtInput is told place before after)
    ⊎ (e ≡ no_memory)
    ⊎ ((place : ℕ) × (limit : ℕ) × (e ≡ longer place limit) × Reads is told before after (too_long place limit))

-- the bytes of an input, if the inputs claim their content
abbrev pub IsThere : Option Files → Input → List ℕ → Type 0
IsThere told i bytes = WhereTold told (λ files. finmap.get files i.name ≡ Some bytes)

abbrev pub IsLonger : Option Files → Input → Type 0
IsLonger told i = (bytes : List ℕ) × (limit_of i.kind < length bytes) × IsThere told i bytes

-- A call that reads an input, which a refusal names by its place. It asks for the input, unless memory runs out before.
-- A fault is counted if the input can't be read, and only then.
pub record ReadsInput {I A : Type 0} (seen : Ghosts I) (place : ℕ) (i : Input) (result : Result (Vec ℕ A) Outcome) (old new : I) : Type 0 where
  pub read : IfOk result (λ bytes. (length bytes.items ≤ limit_of i.kind) × IsThere (seen.told old) i bytes.items)
  pub stops : IfErr result (λ e. (e ≡ unreadable place) ⊎ (e ≡ no_memory) ⊎ ((e ≡ longer place (limit_of i.kind)) × IsLonger (seen.told old) i))
  pub same : seen.told new ≡ seen.told old
  pub asks : result ≢ Err no_memory → seen.asked new ≡ seen.asked old ++ i.name ∷ []
  pub may_ask : (seen.asked new ≡ seen.asked old) ⊎ (seen.asked new ≡ seen.asked old ++ i.name ∷ [])
  pub quiet : result ≢ Err (unreadable place) → seen.fault_count new ≡ seen.fault_count old
  pub cause : result ≡ Err (unreadable place) → Rose (seen.fault_count old) (seen.fault_count new)

-- A call that reads inputs one after the other, or stops at one. A fault is counted if an input can't be read, and only
-- then.
pub record ReadsInputs {I : Type 0} (seen : Ghosts I) (is : List Input) (result : Result in_memory_loaded.Loaded Outcome) (old new : I) : Type 0 where
  pub read : IfOk result (λ l. (bytes : List (List ℕ)) × (contents_of l ≡ loaded_of is bytes)
      × Reads is (seen.told old) (seen.asked old) (seen.asked new) (all bytes))
  pub within : IfOk result (λ l. IsWithinLimits (contents_of l))
  pub stops : IfErr result (λ e. Stops is (seen.told old) e (seen.asked old) (seen.asked new))
  pub asked : (k : ℕ) × (seen.asked new ≡ seen.asked old ++ take k (names is))
  pub quiet : IfOk result (λ _. seen.fault_count new ≡ seen.fault_count old)
  pub cause : IfErr result (λ e. status_of e ≡ 3 → Rose (seen.fault_count old) (seen.fault_count new))
  pub no_cause : IfErr result (λ e. status_of e ≢ 3 → seen.fault_count new ≡ seen.fault_count old)
