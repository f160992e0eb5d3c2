-- What a session held before each action of a list so far, and the states that were handed out: one action more.
use Rattle.std.proofs.Common.{◌≡◌, ℕ, zero, suc, ◌+◌, ◌<◌, ◌==◌, cond, inl, inr, List, [], ◌∷◌, length, map, take, slice_get, Some, refl, sym, ◌∙◌, ap, subst, arith, eq-eqb, ne_eqb}
use Rattle.std.proofs.lemmas.Bool.{cases_eq}
use Rattle.std.proofs.lemmas.List.{length-take-le}
use Rattle.std.proofs.lemmas.Option.{none-some, same_Some}
use Rattle.plan_types.specs.declared.action.Action.{Action}
use Rattle.level_book.specs.declared.book.Slots.{Slots}
use Rattle.level_book.specs.Configuration.{Configuration}
use Rattle.level_book.specs.Moves.{Goes}
use Rattle.rv_machine.specs.MachineState.{MachineState}
use Rattle.reverse_runner.specs.ActionEffects.{Holdings, Acts}
use Rattle.reverse_runner.specs.StateOrder.{handed_by, handed}
use Rattle.reverse_runner.specs.VisitorCalls.{states_out, GetsAll}
use Rattle.reverse_queries.specs.HoldingsTrace.{GoesThrough}
use Rattle.reversal.specs.Deeds.{States}
use Rattle.reversal.proofs.ShownStates.{showing, Shows, AtLeast, at_least_front, at_least_back, IsAbove, is_apart, same_above, it_shows}

-- nothing was gone through
pub through_none : (unit steps : ℕ) (journal : List (List ℕ)) (old : Holdings) (states : States) → GoesThrough unit steps journal [] old old states
through_none unit steps journal old states = record {
  held = λ i. old;
  from = refl;
  to = refl;
  acts = λ i a at. absurd (none-some a at);
  hands = λ i a at. absurd (none-some a at);
}

-- ---- a front of a list

-- an element of a front is one of the list
pub in_front : {A : Type 0} (xs : List A) (n i : ℕ) (x : A) → slice_get (take n xs) i ≡ Some x → (i < n) × (slice_get xs i ≡ Some x)
in_front [] zero i x h = absurd (none-some x h)
in_front [] (suc n) i x h = absurd (none-some x h)
in_front (y ∷ ys) zero i x h = absurd (none-some x h)
in_front (y ∷ ys) (suc n) zero x h = (omega arith, h)
in_front (y ∷ ys) (suc n) (suc i) x h = let rest = in_front ys n i x h in let lt = rest.0 in (omega (arith, lt), rest.1)

-- and the other way
pub of_front : {A : Type 0} (xs : List A) (n i : ℕ) (x : A) → i < n → slice_get xs i ≡ Some x → slice_get (take n xs) i ≡ Some x
of_front [] n i x lt h = absurd (none-some x h)
of_front (y ∷ ys) zero i x lt h = absurd (omega (arith, lt))
of_front (y ∷ ys) (suc n) zero x lt h = h
of_front (y ∷ ys) (suc n) (suc i) x lt h = of_front ys n i x (omega (arith, lt)) h

pub has_length : {A : Type 0} (xs : List A) (i : ℕ) (x : A) → slice_get xs i ≡ Some x → i < length xs
has_length [] i x h = absurd (none-some x h)
has_length (y ∷ ys) zero x h = omega arith
has_length (y ∷ ys) (suc i) x h = let rest = has_length ys i x h in omega (arith, rest)

-- ---- states that were handed out

-- what all that a list hands out is at least, each of its actions does
at_least_at : (r unit steps : ℕ) (list : List Action) (i : ℕ) (a : Action) → slice_get list i ≡ Some a → AtLeast r (handed unit steps list) → AtLeast r (handed_by unit steps a)
at_least_at r unit steps [] i a at h = absurd (none-some a at)
at_least_at r unit steps (b ∷ rest) zero a at h =
    let P : Action → Type 0 = λ x. AtLeast r (handed_by unit steps x) in
    subst P (same_Some b a at) (at_least_front r (handed_by unit steps b) (handed unit steps rest) h)
at_least_at r unit steps (b ∷ rest) (suc i) a at h = at_least_at r unit steps rest i a at (at_least_back r (handed_by unit steps b) (handed unit steps rest) h)

-- a visitor gets as many states as numbers, so those that are shown are all
pub all_shown : {V : Type 0} (got : V → ℕ → MachineState → List (List ℕ) → V → Type 0) (journal : List (List ℕ)) (shown : States) (numbers : List ℕ) (states : List MachineState) (x y : V) → GetsAll got journal numbers states x y →
    Shows shown numbers states → map shown numbers ≡ states
all_shown got journal shown [] [] x y h shows = refl
all_shown got journal shown [] (s ∷ states) x y h shows = absurd h
all_shown got journal shown (n ∷ numbers) [] x y h shows = absurd h
all_shown got journal shown (n ∷ numbers) (s ∷ states) x y h shows = let rest = all_shown got journal shown numbers states h.0 y h.1.1 shows.1 in λ i. shows.0 i ∷ rest i

-- ---- one action more

-- what was held, with what is held after one action more
abbrev then_held : (ℕ → Holdings) → ℕ → Holdings → ℕ → Holdings
then_held held count new i = cond (i == count + 1) new (held i)

held_there : (held : ℕ → Holdings) (count : ℕ) (new : Holdings) → then_held held count new (count + 1) ≡ new
held_there held count new = ap (λ b. cond b new (held (count + 1))) (eq-eqb (count + 1) (count + 1) refl)

held_before : (held : ℕ → Holdings) (count : ℕ) (new : Holdings) (i : ℕ) → i < count + 1 → then_held held count new i ≡ held i
held_before held count new i lt = ap (λ b. cond b new (held i)) (ne_eqb i (count + 1) (λ e. absurd (omega (arith, lt, e))))

pub through_more : {V : Type 0} (got : V → ℕ → MachineState → List (List ℕ) → V → Type 0) (shown : States) (unit steps : ℕ) (slots : List Slots) (journal : List (List ℕ)) (list : List Action) (count : ℕ) (old mid new : Holdings)
    (c : Configuration) (a : Action) (d : Configuration) (x y : V) → slice_get list count ≡ Some a → Goes steps slots c a d → IsAbove unit steps (handed unit steps (take count list)) c →
    GetsAll got journal (handed_by unit steps a) (states_out a mid.work mid.tape.states) x y → Acts unit journal a mid new → GoesThrough unit steps journal (take count list) old mid shown →
    GoesThrough unit steps journal (take (count + 1) list) old new (showing shown unit steps a mid.work mid.tape.states)
through_more got shown unit steps slots journal list count old mid new c a d x y at goes above gets acts through =
    let now = showing shown unit steps a mid.work mid.tape.states in
    let held = then_held through.held count new in
    let within = has_length list count a at in
    let so_far : length (take count list) ≡ count = length-take-le count list (omega (arith, within)) in
    let more : length (take (count + 1) list) ≡ count + 1 = length-take-le (count + 1) list (omega (arith, within)) in
    let there : through.held count ≡ mid = ap through.held (sym so_far) ∙ through.to in
    let apart = is_apart unit steps slots (handed unit steps (take count list)) c a d goes above in
    let same : (b : Action) (i : ℕ) → i ≡ count → slice_get list i ≡ Some b → a ≡ b = λ b i e is. same_Some a b (sym at ∙ ap (slice_get list) (sym e) ∙ is) in
    record {
      held = held;
      from = held_before through.held count new 0 (omega arith) ∙ through.from;
      to = ap held more ∙ held_there through.held count new;
      acts = λ i b is.
          (let front = in_front list (count + 1) i b is in
          let lt = front.0 in
          elim (cases_eq i count) [
            | inl e ↦
                (let A : Action → Type 0 = λ x. Acts unit journal x mid new in
                let F : Holdings → Type 0 = λ h. Acts unit journal b h new in
                let T : Holdings → Type 0 = λ h. Acts unit journal b (held i) h in
                let J : ℕ → Type 0 = λ j. new ≡ held (j + 1) in
                subst T (subst J (sym e) (sym (held_there through.held count new)))
                (subst F (sym (held_before through.held count new i lt ∙ ap through.held e ∙ there)) (subst A (same b i e front.1) acts)))
            | inr ne ↦
                (let F : Holdings → Type 0 = λ h. Acts unit journal b h (through.held (i + 1)) in
                let T : Holdings → Type 0 = λ h. Acts unit journal b (held i) h in
                subst T (sym (held_before through.held count new (i + 1) (omega (arith, lt, ne))))
                (subst F (sym (held_before through.held count new i lt)) (through.acts i b (of_front list count i b (omega (arith, lt, ne)) front.1))))
          ]);
      hands = λ i b is.
          (let front = in_front list (count + 1) i b is in
          let lt = front.0 in
          let O : Holdings → Type 0 = λ h. map now (handed_by unit steps b) ≡ states_out b h.work h.tape.states in
          elim (cases_eq i count) [
            | inl e ↦
                (let A : Action → Type 0 = λ x. map now (handed_by unit steps x) ≡ states_out x mid.work mid.tape.states in
                subst O (sym (held_before through.held count new i lt ∙ ap through.held e ∙ there))
                (subst A (same b i e front.1)
                (all_shown got journal now (handed_by unit steps a) (states_out a mid.work mid.tape.states) x y gets (it_shows shown unit steps a mid.work mid.tape.states))))
            | inr ne ↦
                (let before = of_front list count i b (omega (arith, lt, ne)) front.1 in
                subst O (sym (held_before through.held count new i lt))
                (same_above (λ n s. s) shown (handed_by unit steps a) (states_out a mid.work mid.tape.states) apart.bound (handed_by unit steps b) apart.below
                (at_least_at apart.bound unit steps (take count list) i b before apart.above)
                ∙ through.hands i b before))
          ]);
    }

-- the same list with the states settled that an action behind it hands out
pub through_still : (shown : States) (unit steps : ℕ) (slots : List Slots) (journal : List (List ℕ)) (list : List Action) (old mid : Holdings) (c : Configuration) (a : Action) (d : Configuration) (work : MachineState) (tape : List MachineState) →
    Goes steps slots c a d → IsAbove unit steps (handed unit steps list) c → GoesThrough unit steps journal list old mid shown → GoesThrough unit steps journal list old mid (showing shown unit steps a work tape)
through_still shown unit steps slots journal list old mid c a d work tape goes above through =
    let apart = is_apart unit steps slots (handed unit steps list) c a d goes above in
    record {
      held = through.held;
      from = through.from;
      to = through.to;
      acts = through.acts;
      hands = λ i b is.
          same_above (λ n s. s) shown (handed_by unit steps a) (states_out a work tape) apart.bound (handed_by unit steps b) apart.below (at_least_at apart.bound unit steps list i b is apart.above)
          ∙ through.hands i b is;
    }
