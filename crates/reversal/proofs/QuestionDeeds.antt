-- What the deeds of a question write, and how many steps they take.
use Rattle.std.proofs.Common.{◌≡◌, ◌≢◌, ◌⊎◌, inl, inr, ℕ, zero, suc, ◌+◌, ◌*◌, ◌<◌, ◌≤◌, ◌++◌, ◌==◌, ◌&&◌, Bool, true, false, cond, List, [], ◌∷◌, length, map, append-nil, refl, sym, ◌∙◌, ap, subst, arith}
use Rattle.std.proofs.lemmas.Bool.{eqb-true, eq-eqb, false≢true, le-leb, lt-ltb}
use Rattle.std.proofs.Math.Nat.{mul-zero}
use Rattle.std.proofs.lemmas.List.Sums.{sum_by-cons, sum_by-append}
use Rattle.plan_types.specs.declared.action.Action.{Action}
use Rattle.plan_types.specs.declared.action.Action.TheVariants.{Forward, Reverse, Copy, Move, EndForward, EndReverse}
use Rattle.level_book.specs.declared.book.Slots.{Slots}
use Rattle.level_book.specs.Valid.{Valid}
use Rattle.level_book.specs.CostFold.{steps_of, forward}
use Rattle.reverse_runner.specs.StateOrder.{numbers_from, handed_by, handed, countdown}
use Rattle.reverse_runner.proofs.StateOrder.{valid_hands}
use Rattle.reverse_runner.specs.KeepersSeen.{calls_of}
use Rattle.reverse_queries.specs.Queries.{hands_out, front_to, up_to}
use Rattle.requests.specs.declared.question.Question.{Question}
use Rattle.requests.specs.declared.question.Question.TheVariants.{State, LastWrite, LastChange}
use Rattle.requests.specs.Operands.{question_bound}
use Rattle.requests.specs.Bounds.{IsWithin}
use Rattle.reversal.specs.Output.{line_of}
use Rattle.reversal.specs.Deeds.{Deed, States, deed_for, unseen_deed, writing, bytes_of, bytes_written, writes_made, steps_made}
use Rattle.reversal.specs.Course.{Shown}
use Rattle.reversal.specs.CommandAsk.{answer_text, asking}
use Rattle.reversal.specs.Job.{Run, last_of}

-- ---- one state

-- a number is in a list
abbrev pub IsIn : ℕ → List ℕ → Type 0
IsIn n [] = ⊥
IsIn n (m ∷ ms) = (m ≡ n) ⊎ IsIn n ms

in_countdown : (n : ℕ) (steps : ℕ) → n ≤ steps → IsIn n (countdown steps)
in_countdown n zero h = inl (omega (arith, h))
in_countdown n (suc steps) h = by_cases (n == suc steps) refl (in_countdown n steps)
  where
    by_cases : (b : Bool) → (n == suc steps) ≡ b → (n ≤ steps → IsIn n (countdown steps)) → IsIn n (countdown (suc steps))
    by_cases true e later = inl (sym (eqb-true n (suc steps) e))
    by_cases false e later =
        let other : n ≢ suc steps = λ same. false≢true (sym e ∙ eq-eqb n (suc steps) same) in
        inr (later (omega (arith, h, other)))

-- one of some numbers from one on is at least that one, and below the number past them
of_numbers : (from count n : ℕ) (rest : List ℕ) → IsIn n (numbers_from from count ++ rest) → ((from ≤ n) × (n < from + count)) ⊎ IsIn n rest
of_numbers from zero n rest h = inr h
of_numbers from (suc count) n rest h = elim h [
  | inl same ↦ inl (omega (arith, same), omega (arith, same))
  | inr later ↦ elim (of_numbers from count n rest later) [ inl here ↦ (let high = here.1 in inl (here.0, omega (arith, high))) | inr other ↦ inr other ]
]

-- an action hands out the state, or what it hands out isn't it
hands_or : (unit steps n : ℕ) (a : Action) (rest : List ℕ) → hands_out unit steps n a ≡ false → IsIn n (handed_by unit steps a ++ rest) → IsIn n rest
hands_or unit steps n (Forward from to keep) rest e h = h
hands_or unit steps n (Copy m k dest) rest e h = h
hands_or unit steps n (Move m k dest) rest e h = h
hands_or unit steps n EndReverse rest e h = h
hands_or unit steps n EndForward rest e h = elim h [ inl is ↦ absurd (false≢true (sym e ∙ eq-eqb (unit * steps) n is)) | inr other ↦ other ]
hands_or unit steps n (Reverse from to) rest e h = elim (of_numbers (unit * to) unit n rest h) [
  | inl within ↦ absurd (false≢true (sym e ∙ (λ i. le-leb (unit * to) n within.0 i && lt-ltb n (unit * to + unit) within.1 i)))
  | inr other ↦ other
]

-- the deeds up to the first action that hands out the state write its line
front_bytes : (states : States) (unit steps place : ℕ) (list : List Action) → IsIn place (handed unit steps list) → bytes_written (map (deed_for states unit steps place) (front_to unit steps place list)) ≡ line_of states place
front_bytes states unit steps place [] h = absurd h
front_bytes states unit steps place (a ∷ rest) h = by_cases (hands_out unit steps place a) refl (front_bytes states unit steps place rest)
  where
    by_cases : (b : Bool) → hands_out unit steps place a ≡ b → (IsIn place (handed unit steps rest) → bytes_written (map (deed_for states unit steps place) (front_to unit steps place rest)) ≡ line_of states place) → bytes_written (map (deed_for states unit steps place) (front_to unit steps place (a ∷ rest))) ≡ line_of states place
    by_cases true e later =
        ap (λ b. bytes_of (cond b (line_of states place ∷ []) []) ++ bytes_written (map (deed_for states unit steps place) (cond b [] (front_to unit steps place rest)))) e
        ∙ append-nil (line_of states place ++ []) ∙ append-nil (line_of states place)
    by_cases false e later =
        ap (λ b. bytes_of (cond b (line_of states place ∷ []) []) ++ bytes_written (map (deed_for states unit steps place) (cond b [] (front_to unit steps place rest)))) e
        ∙ later (hands_or unit steps place a (handed unit steps rest) e h)

front_writes : (states : States) (unit steps place : ℕ) (list : List Action) → IsIn place (handed unit steps list) → writes_made (map (deed_for states unit steps place) (front_to unit steps place list)) ≡ 1
front_writes states unit steps place [] h = absurd h
front_writes states unit steps place (a ∷ rest) h = by_cases (hands_out unit steps place a) refl (front_writes states unit steps place rest)
  where
    by_cases : (b : Bool) → hands_out unit steps place a ≡ b → (IsIn place (handed unit steps rest) → writes_made (map (deed_for states unit steps place) (front_to unit steps place rest)) ≡ 1) → writes_made (map (deed_for states unit steps place) (front_to unit steps place (a ∷ rest))) ≡ 1
    by_cases true e later = ap (λ b. writes_made (record { pieces = cond b (line_of states place ∷ []) []; steps = unit * steps_of a; spent = 0; calls = calls_of a } ∷ map (deed_for states unit steps place) (cond b [] (front_to unit steps place rest)))) e
    by_cases false e later =
        ap (λ b. writes_made (record { pieces = cond b (line_of states place ∷ []) []; steps = unit * steps_of a; spent = 0; calls = calls_of a } ∷ map (deed_for states unit steps place) (cond b [] (front_to unit steps place rest)))) e
        ∙ (let sum = sum_by-cons (λ (d : Deed). length d.pieces) (unseen_deed unit a) (map (deed_for states unit steps place) (front_to unit steps place rest)) in
        let one = later (hands_or unit steps place a (handed unit steps rest) e h) in
        omega (arith, sum, one))

-- the deeds of a valid list up to a state of the run
pub place_writes : (states : States) (unit steps place : ℕ) (slots : List Slots) (list : List Action) → place ≤ unit * steps → Valid steps slots list → writes_made (map (deed_for states unit steps place) (front_to unit steps place list)) ≡ 1
place_writes states unit steps place slots list within valid = front_writes states unit steps place list (subst (IsIn place) (sym (valid_hands unit steps slots list valid)) (in_countdown place (unit * steps) within))

pub place_bytes : (states : States) (unit steps place : ℕ) (slots : List Slots) (list : List Action) → place ≤ unit * steps → Valid steps slots list → bytes_written (map (deed_for states unit steps place) (front_to unit steps place list)) ≡ line_of states place
place_bytes states unit steps place slots list within valid = front_bytes states unit steps place list (subst (IsIn place) (sym (valid_hands unit steps slots list valid)) (in_countdown place (unit * steps) within))

-- ---- the number of a step

pub unseen_bytes : (unit : ℕ) (list : List Action) (ds : List Deed) → bytes_written (map (unseen_deed unit) list ++ ds) ≡ bytes_written ds
unseen_bytes unit [] ds = refl
unseen_bytes unit (a ∷ list) ds = unseen_bytes unit list ds

text_bytes : (unit : ℕ) (list : List Action) (text : List ℕ) → bytes_written (map (unseen_deed unit) list ++ writing (text ∷ []) ∷ []) ≡ text
text_bytes unit list text = unseen_bytes unit list (writing (text ∷ []) ∷ []) ∙ append-nil (text ++ []) ∙ append-nil text

-- ---- both

pub bytes_asked : (shown : Shown) (question : Question) (run : Run) → IsWithin (question_bound (last_of run) question) → Valid run.steps run.slots run.list →
    bytes_written ((asking question run).deeds shown) ≡ (asking question run).output shown
bytes_asked shown (State place) run within valid = place_bytes shown.states run.unit run.steps place run.slots run.list within.1 valid
bytes_asked shown (LastWrite address) run within valid = text_bytes run.unit (up_to run.unit run.steps shown.answer run.list) (answer_text shown.answer)
bytes_asked shown (LastChange address) run within valid = text_bytes run.unit (up_to run.unit run.steps shown.answer run.list) (answer_text shown.answer)

-- deeds of actions take their steps
pub steps_of_deeds : (unit : ℕ) (f : Action → Deed) → ((a : Action) → (f a).steps ≡ unit * steps_of a) → (list : List Action) → steps_made (map f list) ≡ unit * forward list
steps_of_deeds unit f same [] = sym (mul-zero unit)
steps_of_deeds unit f same (a ∷ rest) =
    let here = sum_by-cons (λ (d : Deed). d.steps) (f a) (map f rest) in
    let there = ap (λ n. unit * n) (sum_by-cons steps_of a rest) in
    let one = same a in
    let more = steps_of_deeds unit f same rest in
    let two : unit * (steps_of a + forward rest) ≡ unit * steps_of a + unit * forward rest = omega arith in
    omega (arith, here, there, one, more, two)

unseen_steps : (unit : ℕ) (list : List Action) (text : List ℕ) → steps_made (map (unseen_deed unit) list ++ writing (text ∷ []) ∷ []) ≡ unit * forward list
unseen_steps unit list text =
    sum_by-append (λ (d : Deed). d.steps) (map (unseen_deed unit) list) (writing (text ∷ []) ∷ [])
    ∙ (let same = steps_of_deeds unit (unseen_deed unit) (λ a. refl) list in omega (arith, same))

pub steps_asked : (shown : Shown) (question : Question) (run : Run) → steps_made ((asking question run).deeds shown) ≡ (asking question run).steps shown
steps_asked shown (State place) run = steps_of_deeds run.unit (deed_for shown.states run.unit run.steps place) (λ a. refl) (front_to run.unit run.steps place run.list)
steps_asked shown (LastWrite address) run = unseen_steps run.unit (up_to run.unit run.steps shown.answer run.list) (answer_text shown.answer)
steps_asked shown (LastChange address) run = unseen_steps run.unit (up_to run.unit run.steps shown.answer run.list) (answer_text shown.answer)
