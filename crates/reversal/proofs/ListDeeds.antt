-- The deeds of a performed list: what a writer of lines writes for its actions, on the way through a valid list.
use Rattle.std.proofs.Common.{◌≡◌, ◌⊎◌, inl, inr, ℕ, zero, suc, ◌==◌, true, get_or, eq-eqb, ◌+◌, ◌*◌, ◌<◌, List, [], ◌∷◌, ◌++◌, length, map, Option, Some, Contains, refl, sym, ◌∙◌, ap, subst, arith}
use Rattle.std.proofs.Math.Nat.{mul-zero}
use Rattle.std.proofs.lemmas.List.Sums.{sum_by-cons}
use Rattle.std.specs.List.{flat_map}
use Rattle.std.proofs.lemmas.Bool.{false≢true}
use Rattle.std.proofs.lemmas.Option.{none-some, same_Some}
use Rattle.std.proofs.lemmas.Grind.{flat_map-append}
use Rattle.std.proofs.lemmas.List.Folds.{flat_map-map}
use Rattle.plan_types.specs.declared.action.Keep.TheVariants.{Nothing, Store, Tape}
use Rattle.plan_types.specs.declared.action.Dest.TheVariants.{Work, Level}
use Rattle.plan_types.specs.declared.action.Action.{Action}
use Rattle.plan_types.specs.declared.action.Action.TheVariants.{Forward, Reverse, Copy, Move, EndForward, EndReverse}
use Rattle.level_book.specs.declared.book.Slots.{Slots}
use Rattle.level_book.specs.Configuration.{Configuration}
use Rattle.level_book.specs.Moves.{Goes}
use Rattle.level_book.specs.Rules.{levels_named}
use Rattle.level_book.specs.Valid.{Valid}
use Rattle.level_book.specs.CostFold.{steps_of, forward}
use Rattle.keepers.specs.Counts.{raised}
use Rattle.keepers.specs.Claims.{Tells}
use Rattle.rv_machine.specs.MachineState.{MachineState}
use Rattle.state_image.specs.Line.{line}
use Rattle.reverse_runner.specs.VisitorCalls.{states_out, GetsAll, calls_keepers}
use Rattle.reverse_runner.specs.KeepersSeen.{Called, calls_of, one_if}
use Rattle.reverse_runner.specs.StateOrder.{handed_by, handed}
use Rattle.reverse_runner.specs.SessionOfRun.{pair_read}
use Rattle.reverse_runner.proofs.StateOrder.{valid_hands}
use Rattle.reversal.specs.Output.{line_of, lines_down, Adds}
use Rattle.reversal.specs.Moment.{Moment}
use Rattle.reversal.specs.Deeds.{Deed, States, deed_of, CallsLevel, bytes_of, bytes_written, steps_made, Did}
use Rattle.reversal.specs.LinesWritten.{lines_for, Writes, BreaksLines}
use Rattle.reversal.proofs.DeedSequences.{did_one}
use Rattle.reversal.proofs.ShownStates.{Shows}

-- the line of a state that is shown
the_line : (shown : States) (n : ℕ) (state : MachineState) → shown n ≡ state → line n state ++ 10 ∷ [] ≡ line_of shown n
the_line shown n state is = ap (λ s. line n s ++ 10 ∷ []) (sym is)

-- the lines of states that are shown, where a visitor got them all
lines_shown : {V : Type 0} (got : V → ℕ → MachineState → List (List ℕ) → V → Type 0) (shown : States) (journal : List (List ℕ)) (numbers : List ℕ) (states : List MachineState) (u v : V) →
    Shows shown numbers states → GetsAll got journal numbers states u v → lines_for numbers states ≡ map (line_of shown) numbers
lines_shown got shown journal [] [] u v shows gets = refl
lines_shown got shown journal [] (s ∷ states) u v shows gets = absurd gets
lines_shown got shown journal (n ∷ numbers) [] u v shows gets = absurd gets
lines_shown got shown journal (n ∷ numbers) (s ∷ states) u v shows gets = λ i. the_line shown n s shows.0 i ∷ lines_shown got shown journal numbers states gets.0 v shows.1 gets.1.1 i

-- those of states come first among the lines of as many or more numbers
pub lines_first : (shown : States) (numbers : List ℕ) (states : List MachineState) → Shows shown numbers states → (rest : List (List ℕ)) × (lines_for numbers states ++ rest ≡ map (line_of shown) numbers)
lines_first shown [] states shows = ([], refl)
lines_first shown (n ∷ numbers) [] shows = (map (line_of shown) (n ∷ numbers), refl)
lines_first shown (n ∷ numbers) (s ∷ states) shows =
    let more = lines_first shown numbers states shows.1 in
    (more.0, λ i. the_line shown n s shows.0 i ∷ more.1 i)

-- a sink is seen at a moment
pub record IsAt {X : Type 0} (told : X → Option (List ℕ)) (writes : X → ℕ) (x : X) (m : Moment) : Type 0 where
  pub tells : m.told ≡ told x
  pub counts : m.writes ≡ writes x

-- what an action does that may be done
pub did_action : {X V : Type 0} (told : X → Option (List ℕ)) (writes : X → ℕ) (got : V → ℕ → MachineState → List (List ℕ) → V → Type 0) (shown : States) (journal : List (List ℕ)) (unit steps : ℕ) (a : Action) (work : MachineState) (tape : List MachineState) (u v : V) (x y : X) (mid new : Moment) →
    IsAt told writes x mid → IsAt told writes y new → Shows shown (handed_by unit steps a) (states_out a work tape) → GetsAll got journal (handed_by unit steps a) (states_out a work tape) u v →
    Writes told writes (lines_for (handed_by unit steps a) (states_out a work tape)) x y → new.steps ≡ mid.steps + unit * steps_of a → Called (calls_of a) mid.calls new.calls → Did (deed_of shown unit steps a ∷ []) mid new
did_action told writes got shown journal unit steps a work tape u v x y mid new before after shows gets wrote counted called =
    let pieces = map (line_of shown) (handed_by unit steps a) in
    let lines = subst (λ (ls : List (List ℕ)). Writes told writes ls x y) (lines_shown got shown journal (handed_by unit steps a) (states_out a work tape) u v shows gets) wrote in
    let T : Option (List ℕ) → Option (List ℕ) → Type 0 = λ old now. Tells old now (Adds (bytes_of pieces)) in
    did_one (deed_of shown unit steps a) mid new (bytes_of pieces) (length pieces) refl refl
    (subst (λ o. T o new.told) (sym before.tells) (subst (T (told x)) (sym after.tells) lines.added))
    (after.counts ∙ lines.called ∙ ap (λ n. raised n (length pieces)) (sym before.counts)) counted called

-- an action whose lines break off calls no keeper
pub broken_calls_none : {X : Type 0} (told : X → Option (List ℕ)) (writes : X → ℕ) (unit steps : ℕ) (a : Action) (work : MachineState) (tape : List MachineState) (x y : X) →
    BreaksLines told writes (lines_for (handed_by unit steps a) (states_out a work tape)) x y → calls_of a ≡ record { puts = λ _. 0; gets = λ _. 0; frees = λ _. 0 }
broken_calls_none told writes unit steps (Forward from to keep) work tape x y h = absurd (none-some h.piece h.next)
broken_calls_none told writes unit steps (Reverse from to) work tape x y h = refl
broken_calls_none told writes unit steps (Copy n from dest) work tape x y h = absurd (none-some h.piece h.next)
broken_calls_none told writes unit steps (Move n from dest) work tape x y h = absurd (none-some h.piece h.next)
broken_calls_none told writes unit steps EndForward work tape x y h = refl
broken_calls_none told writes unit steps EndReverse work tape x y h = absurd (none-some h.piece h.next)

-- ---- the deeds of a whole list

-- the lines of the states that a list hands out are those that its deeds write
lines_of_deeds : (shown : States) (unit steps : ℕ) (list : List Action) → flat_map (λ a. bytes_of (deed_of shown unit steps a).pieces) list ≡ flat_map (line_of shown) (handed unit steps list)
lines_of_deeds shown unit steps [] = refl
lines_of_deeds shown unit steps (a ∷ rest) =
    (λ i. flat_map-map (λ (piece : List ℕ). piece) (line_of shown) (handed_by unit steps a) i ++ lines_of_deeds shown unit steps rest i)
    ∙ sym (flat_map-append (line_of shown) (handed_by unit steps a) (handed unit steps rest))

-- the deeds of a valid list write the lines of all states, from the last to the first
pub bytes_performed : (shown : States) (unit steps : ℕ) (slots : List Slots) (list : List Action) → Valid steps slots list → bytes_written (map (deed_of shown unit steps) list) ≡ lines_down shown (unit * steps)
bytes_performed shown unit steps slots list valid =
    flat_map-map (λ (d : Deed). bytes_of d.pieces) (deed_of shown unit steps) list ∙ lines_of_deeds shown unit steps list
    ∙ ap (flat_map (line_of shown)) (valid_hands unit steps slots list valid)

-- and take its forward steps
pub steps_performed : (shown : States) (unit steps : ℕ) (list : List Action) → steps_made (map (deed_of shown unit steps) list) ≡ unit * forward list
steps_performed shown unit steps [] = sym (mul-zero unit)
steps_performed shown unit steps (a ∷ rest) =
    let here = sum_by-cons (λ (d : Deed). d.steps) (deed_of shown unit steps a) (map (deed_of shown unit steps) rest) in
    let there = sum_by-cons steps_of a rest in
    let later = steps_performed shown unit steps rest in
    let whole = ap (λ n. unit * n) there in
    let two : unit * (steps_of a + forward rest) ≡ unit * steps_of a + unit * forward rest = omega arith in
    here ∙ ap (λ n. unit * steps_of a + n) later ∙ sym two ∙ sym whole

-- ---- levels that actions name

one_named : (j k : ℕ) → Contains (j ∷ []) k → k ≡ j
one_named j k h = at h.0 h.1 h.2
  where
    at : (i : ℕ) → i < 1 → get_or (j ∷ []) i k ≡ k → k ≡ j
    at zero lt e = sym e
    at (suc i) lt e = absurd (omega (arith, lt))

two_named : (i j k : ℕ) → Contains (i ∷ j ∷ []) k → (k ≡ i) ⊎ (k ≡ j)
two_named i j k h = at h.0 h.1 h.2
  where
    at : (m : ℕ) → m < 2 → get_or (i ∷ j ∷ []) m k ≡ k → (k ≡ i) ⊎ (k ≡ j)
    at zero lt e = inl (sym e)
    at (suc zero) lt e = inr (sym e)
    at (suc (suc m)) lt e = absurd (omega (arith, lt))

pub none_named : (k : ℕ) → Contains [] k → ⊥
none_named k h = let lt = h.1 in absurd (omega (arith, lt))

-- an action that may be done names levels of the book alone
pub names_levels : (steps : ℕ) (slots : List Slots) (c : Configuration) (a : Action) (d : Configuration) → Goes steps slots c a d → (k : ℕ) → Contains (levels_named a) k → k < length slots
names_levels steps slots c (Forward from to Nothing) d g k h = absurd (none_named k h)
names_levels steps slots c (Forward from to (Store j)) d g k h = let e = one_named j k h in omega (arith, e, g.2.level)
names_levels steps slots c (Forward from to Tape) d g k h = absurd (none_named k h)
names_levels steps slots c (Reverse from to) d g k h = absurd (none_named k h)
names_levels steps slots c (Copy n i Work) d g k h = let e = one_named i k h in omega (arith, e, g.1.level)
names_levels steps slots c (Copy n i (Level j)) d g k h = elim (two_named i j k h) [ inl e ↦ omega (arith, e, g.1.level) | inr e ↦ omega (arith, e, g.3.level) ]
names_levels steps slots c (Move n i Work) d g k h = let e = one_named i k h in omega (arith, e, g.1.level)
names_levels steps slots c (Move n i (Level j)) d g k h = elim (two_named i j k h) [ inl e ↦ omega (arith, e, g.1.level) | inr e ↦ omega (arith, e, g.3.level) ]
names_levels steps slots c EndForward d g k h = absurd (none_named k h)
names_levels steps slots c EndReverse d g k h = absurd (none_named k h)

-- a test that a number is this one counts one
one_here : (j k : ℕ) → k ≡ j → one_if (j == k) ≡ 1
one_here j k e = ap one_if (eq-eqb j k (sym e))

-- an action calls the keepers of the levels that it names
pub calls_named : (shown : States) (unit steps : ℕ) (a : Action) (k : ℕ) → Contains (levels_named a) k → CallsLevel (deed_of shown unit steps a) k
calls_named shown unit steps (Forward from to Nothing) k h = absurd (none_named k h)
calls_named shown unit steps (Forward from to (Store j)) k h = let e = one_here j k (one_named j k h) in omega (arith, e)
calls_named shown unit steps (Forward from to Tape) k h = absurd (none_named k h)
calls_named shown unit steps (Reverse from to) k h = absurd (none_named k h)
calls_named shown unit steps (Copy n i Work) k h = let e = one_here i k (one_named i k h) in omega (arith, e)
calls_named shown unit steps (Copy n i (Level j)) k h = elim (two_named i j k h) [ inl e ↦ (let o = one_here i k e in omega (arith, o)) | inr e ↦ (let o = one_here j k e in omega (arith, o)) ]
calls_named shown unit steps (Move n i Work) k h = let e = one_here i k (one_named i k h) in omega (arith, e)
calls_named shown unit steps (Move n i (Level j)) k h = elim (two_named i j k h) [ inl e ↦ (let o = one_here i k e in omega (arith, o)) | inr e ↦ (let o = one_here j k e in omega (arith, o)) ]
calls_named shown unit steps EndForward k h = absurd (none_named k h)
calls_named shown unit steps EndReverse k h = absurd (none_named k h)

-- one that calls keepers calls one
pub calls_one : (shown : States) (unit steps : ℕ) (a : Action) → calls_keepers a ≡ true → (k : ℕ) × CallsLevel (deed_of shown unit steps a) k
calls_one shown unit steps (Forward from to Nothing) h = absurd (false≢true h)
calls_one shown unit steps (Forward from to (Store j)) h = (j, (let o = one_here j j refl in omega (arith, o)))
calls_one shown unit steps (Forward from to Tape) h = absurd (false≢true h)
calls_one shown unit steps (Reverse from to) h = absurd (false≢true h)
calls_one shown unit steps (Copy n i dest) h = (i, (let o = one_here i i refl in omega (arith, o)))
calls_one shown unit steps (Move n i dest) h = (i, (let o = one_here i i refl in omega (arith, o)))
calls_one shown unit steps EndForward h = absurd (false≢true h)
calls_one shown unit steps EndReverse h = absurd (false≢true h)

-- one that reads a pair gets an image of its level
pub gets_pair : (shown : States) (unit steps : ℕ) (a : Action) (n k : ℕ) → pair_read a ≡ Some (n, k) → 0 < (deed_of shown unit steps a).calls.gets k
gets_pair shown unit steps (Forward from to keep) n k e = absurd cc
gets_pair shown unit steps (Reverse from to) n k e = absurd cc
gets_pair shown unit steps (Copy m i dest) n k e = let o = one_here i k (ap (λ (p : ℕ × ℕ). p.1) (sym (same_Some _ _ e))) in omega (arith, o)
gets_pair shown unit steps (Move m i dest) n k e = let o = one_here i k (ap (λ (p : ℕ × ℕ). p.1) (sym (same_Some _ _ e))) in omega (arith, o)
gets_pair shown unit steps EndForward n k e = absurd cc
gets_pair shown unit steps EndReverse n k e = absurd cc
