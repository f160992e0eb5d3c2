-- What a writer of lines wrote, when it got the states of an action.
use Rattle.std.proofs.Common.{◌≡◌, ℕ, suc, ◌+◌, List, [], ◌∷◌, ◌++◌, length, take, Option, inl, inr, refl, sym, ap, subst, ◌∙◌, arith}
use Rattle.keepers.specs.Counts.{raised}
use Rattle.keepers.specs.Claims.{Tells, AddsPrefix}
use Rattle.rv_machine.specs.MachineState.{MachineState}
use Rattle.state_image.specs.Line.{line}
use Rattle.reverse_runner.specs.declared.line_writer.LineWriter.{LineWriter}
use Rattle.reverse_runner.specs.VisitorCalls.{GetsAll, MissesOne}
use Rattle.reverse_runner.proofs.VisitorGets.{gets_keeps}
use Rattle.reversal.specs.Output.{Adds}
use Rattle.reversal.specs.Deeds.{bytes_of}
use Rattle.reversal.specs.Course.{AddsAndPart}
use Rattle.reversal.specs.LinesWritten.{lines_for, Writes, BreaksLines}
use Rattle.reversal.proofs.DeedSequences.{tells_nothing, adds_then, part_then, part_first, raised_then, raised_none, get_front, take_front}

-- the writer's relation for a state that it gets: it writes to the same sink, and in one call the line was added
abbrev pub Got : {X : Type 0} → (X → Option (List ℕ)) → (X → ℕ) → LineWriter X → ℕ → MachineState → List (List ℕ) → LineWriter X → Type 0
Got told calls w n s journal v =
    (v.out.ghost_name ≡ w.out.ghost_name)
    × Tells (told w.out.now) (told v.out.now) (λ old new. new ≡ old ++ (line n s ++ 10 ∷ []))
    × (calls v.out.now ≡ raised (calls w.out.now) 1)

-- and for one that it misses
abbrev pub Missed : {X : Type 0} → (X → Option (List ℕ)) → (X → ℕ) → LineWriter X → ℕ → MachineState → List (List ℕ) → LineWriter X → Type 0
Missed told calls w n s journal v =
    (v.out.ghost_name ≡ w.out.ghost_name)
    × Tells (told w.out.now) (told v.out.now) (AddsPrefix (line n s ++ 10 ∷ []))
    × (calls v.out.now ≡ raised (calls w.out.now) 1)

-- after an action it writes to the same sink
pub same_sink : {X : Type 0} (told : X → Option (List ℕ)) (calls : X → ℕ) (journal : List (List ℕ)) (numbers : List ℕ) (states : List MachineState) (x y : LineWriter X) →
    GetsAll (Got told calls) journal numbers states x y → y.out.ghost_name ≡ x.out.ghost_name
same_sink {X} told calls =
    gets_keeps (Got told calls) (λ (x : LineWriter X) (y : LineWriter X). y.out.ghost_name ≡ x.out.ghost_name) (λ x n s journal y got. got.0) (λ x. refl) (λ x y z h g. g ∙ h)

-- and after one of whose states it missed one
pub same_sink_missed : {X : Type 0} (told : X → Option (List ℕ)) (calls : X → ℕ) (journal : List (List ℕ)) (numbers : List ℕ) (states : List MachineState) (x y : LineWriter X) →
    MissesOne (Got told calls) (Missed told calls) journal numbers states x y → y.out.ghost_name ≡ x.out.ghost_name
same_sink_missed told calls journal [] states x y h = absurd h
same_sink_missed told calls journal (n ∷ numbers) [] x y h = absurd h
same_sink_missed told calls journal (n ∷ numbers) (s ∷ states) x y h = elim h [
  | inl missed ↦ missed.0
  | inr later ↦ same_sink_missed told calls journal numbers states later.0 y later.1.1 ∙ later.1.0.0
]

-- ---- lines, one after the other

-- no line was written
writes_none : {X : Type 0} (told : X → Option (List ℕ)) (calls : X → ℕ) (x : X) → Writes told calls [] x x
writes_none told calls x = record { added = tells_nothing (told x) (told x) refl; called = raised_none (calls x) }

-- one line, and then others
writes_then : {X : Type 0} (told : X → Option (List ℕ)) (calls : X → ℕ) (l : List ℕ) (lines : List (List ℕ)) (x y z : X) → Tells (told x) (told y) (Adds l) → calls y ≡ raised (calls x) 1 →
    Writes told calls lines y z → Writes told calls (l ∷ lines) x z
writes_then told calls l lines x y z added called rest = record {
  added = adds_then (told x) (told y) (told z) l (bytes_of lines) added rest.added;
  called =
      let one : 1 + length lines ≡ length (l ∷ lines) = omega arith in
      raised_then (calls x) (calls y) (calls z) 1 (length lines) called rest.called ∙ ap (raised (calls x)) one;
}

-- a part of the first line
breaks_first : {X : Type 0} (told : X → Option (List ℕ)) (calls : X → ℕ) (l : List ℕ) (lines : List (List ℕ)) (x y : X) → Tells (told x) (told y) (AddsPrefix l) → calls y ≡ raised (calls x) 1 →
    BreaksLines told calls (l ∷ lines) x y
breaks_first told calls l lines x y added called = record { whole = 0; piece = l; next = refl; added = part_first (told x) (told y) l added; called = called }

-- one line, and then some of the others and a part of the next one
breaks_then : {X : Type 0} (told : X → Option (List ℕ)) (calls : X → ℕ) (l : List ℕ) (lines : List (List ℕ)) (x y z : X) → Tells (told x) (told y) (Adds l) → calls y ≡ raised (calls x) 1 →
    BreaksLines told calls lines y z → BreaksLines told calls (l ∷ lines) x z
breaks_then told calls l lines x y z added called rest = record {
  whole = suc rest.whole;
  piece = rest.piece;
  next = rest.next;
  added = part_then (told x) (told y) (told z) l (bytes_of (take rest.whole lines)) rest.piece added rest.added;
  called =
      let one : 1 + (rest.whole + 1) ≡ suc rest.whole + 1 = omega arith in
      raised_then (calls x) (calls y) (calls z) 1 (rest.whole + 1) called rest.called ∙ ap (raised (calls x)) one;
}

-- some of these lines are some of more lines
pub breaks_longer : {X : Type 0} (told : X → Option (List ℕ)) (calls : X → ℕ) (front back : List (List ℕ)) (x y : X) → BreaksLines told calls front x y → BreaksLines told calls (front ++ back) x y
breaks_longer told calls front back x y h = record {
  whole = h.whole;
  piece = h.piece;
  next = get_front front back h.whole h.piece h.next;
  added =
      let T : List (List ℕ) → Type 0 = λ lines. Tells (told x) (told y) (AddsAndPart (bytes_of lines) h.piece) in
      subst T (sym (take_front front back h.whole h.piece h.next)) h.added;
  called = h.called;
}

-- ---- the lines of states

-- where the writer got them all
pub all_written : {X : Type 0} (told : X → Option (List ℕ)) (calls : X → ℕ) (journal : List (List ℕ)) (numbers : List ℕ) (states : List MachineState) (x y : LineWriter X) →
    GetsAll (Got told calls) journal numbers states x y → Writes told calls (lines_for numbers states) x.out.now y.out.now
all_written {X} told calls journal [] [] x y h = subst (λ (w : LineWriter X). Writes told calls [] x.out.now w.out.now) (sym h) (writes_none told calls x.out.now)
all_written told calls journal [] (s ∷ states) x y h = absurd h
all_written told calls journal (n ∷ numbers) [] x y h = absurd h
all_written told calls journal (n ∷ numbers) (s ∷ states) x y h =
    writes_then told calls (line n s ++ 10 ∷ []) (lines_for numbers states) x.out.now h.0.out.now y.out.now h.1.0.1 h.1.0.2 (all_written told calls journal numbers states h.0 y h.1.1)

-- where it missed one
pub one_broken : {X : Type 0} (told : X → Option (List ℕ)) (calls : X → ℕ) (journal : List (List ℕ)) (numbers : List ℕ) (states : List MachineState) (x y : LineWriter X) →
    MissesOne (Got told calls) (Missed told calls) journal numbers states x y → BreaksLines told calls (lines_for numbers states) x.out.now y.out.now
one_broken told calls journal [] states x y h = absurd h
one_broken told calls journal (n ∷ numbers) [] x y h = absurd h
one_broken told calls journal (n ∷ numbers) (s ∷ states) x y h = elim h [
  | inl missed ↦ breaks_first told calls (line n s ++ 10 ∷ []) (lines_for numbers states) x.out.now y.out.now missed.1 missed.2
  | inr later ↦
      breaks_then told calls (line n s ++ 10 ∷ []) (lines_for numbers states) x.out.now later.0.out.now y.out.now later.1.0.1 later.1.0.2
      (one_broken told calls journal numbers states later.0 y later.1.1)
]
