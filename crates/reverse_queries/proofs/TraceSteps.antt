-- What a session held before each action of a list so far, and the states that were handed out.
use Rattle.std.proofs.Common.{◌≡◌, inl, inr, ℕ, zero, suc, ◌+◌, ◌*◌, ◌<◌, ◌≤◌, ◌==◌, cond, List, [], ◌∷◌, map, length, take, slice_get, Some, refl, sym, ◌∙◌, ap, subst, arith, eq-eqb, ne_eqb}
use Rattle.std.proofs.lemmas.Bool.{cases_eq}
use Rattle.std.proofs.lemmas.List.{length-take-le}
use Rattle.std.proofs.lemmas.Option.{none-some, same_Some}
use Rattle.plan_types.specs.declared.action.Action.{Action}
use Rattle.level_book.specs.declared.book.Slots.{Slots}
use Rattle.level_book.specs.Configuration.{Configuration}
use Rattle.level_book.specs.Moves.{Goes}
use Rattle.rv_machine.specs.MachineState.{MachineState}
use Rattle.rv_machine.specs.States.{state_number}
use Rattle.reverse_runner.specs.ActionEffects.{Holdings, Acts}
use Rattle.reverse_runner.specs.StateOrder.{numbers_from, handed_by}
use Rattle.reverse_runner.specs.VisitorCalls.{states_out, GetsAll}
use Rattle.reverse_queries.specs.declared.finder.Sought.{Sought}
use Rattle.reverse_queries.specs.declared.finder.Finder.{Finder}
use Rattle.reverse_queries.specs.HoldingsTrace.{HaveOut, GoesThrough, IsFoundOn}
use Rattle.reverse_queries.proofs.FinderProgress.{Unfound}
use Rattle.reverse_queries.proofs.Numbers.{over, over_here, over_past, Above, above_numbers, above_weaker, map_above, gets_length}
use Rattle.reverse_queries.proofs.ReversalOrder.{Turns, left, hands_of}

-- the states, by their numbers, have those that the first so many actions handed out
abbrev pub HaveAllOut : ℕ → ℕ → List Action → ℕ → (ℕ → Holdings) → (ℕ → MachineState) → Type 0
HaveAllOut unit steps list count held states = (i : ℕ) (a : Action) → i < count → slice_get list i ≡ Some a → HaveOut unit steps a (held i) states

-- the first so many actions of a list were gone through
pub record Gone (unit steps : ℕ) (journal : List (List ℕ)) (list : List Action) (count : ℕ) (old new : Holdings) (c : Configuration) : Type 0 where
  pub held : ℕ → Holdings
  pub from : held 0 ≡ old
  pub to : held count ≡ new
  pub acts : (i : ℕ) (a : Action) → i < count → slice_get list i ≡ Some a → Acts unit journal a (held i) (held (i + 1))
  pub states : ℕ → MachineState
  pub have : HaveAllOut unit steps list count held states
  -- what was handed out isn't left any more
  pub past : (i : ℕ) (a : Action) → i < count → slice_get list i ≡ Some a → Above (left unit steps c) (handed_by unit steps a)

pub gone_start : (unit steps : ℕ) (journal : List (List ℕ)) (list : List Action) (old : Holdings) (c : Configuration) → Gone unit steps journal list 0 old old c
gone_start unit steps journal list old c = record {
  held = λ i. old;
  from = refl;
  to = refl;
  acts = λ i a lt at. absurd (omega (arith, lt));
  states = λ n. old.work;
  have = λ i a lt at. absurd (omega (arith, lt));
  past = λ i a lt at. absurd (omega (arith, lt));
}

-- ---- one action more

-- what was held, with what is held after one action more
abbrev pub then_held : (ℕ → Holdings) → ℕ → Holdings → ℕ → Holdings
then_held held count new i = cond (i == count + 1) new (held i)

held_there : (held : ℕ → Holdings) (count : ℕ) (new : Holdings) → then_held held count new (count + 1) ≡ new
held_there held count new = ap (λ b. cond b new (held (count + 1))) (eq-eqb (count + 1) (count + 1) refl)

held_before : (held : ℕ → Holdings) (count : ℕ) (new : Holdings) (i : ℕ) → i < count + 1 → then_held held count new i ≡ held i
held_before held count new i lt = ap (λ b. cond b new (held i)) (ne_eqb i (count + 1) (λ e. absurd (omega (arith, lt, e))))

-- states that have all that was handed out so far, and what the next action hands out
pub have_on : (unit steps : ℕ) (list : List Action) (count : ℕ) (held : ℕ → Holdings) (mid new : Holdings) (a : Action) (states : ℕ → MachineState) → held count ≡ mid → slice_get list count ≡ Some a →
    HaveOut unit steps a mid states → HaveAllOut unit steps list count held states → HaveAllOut unit steps list (count + 1) (then_held held count new) states
have_on unit steps list count held mid new a states is at out have i b lt there =
    let H : Holdings → Type 0 = λ h. HaveOut unit steps b h states in
    subst H (sym (held_before held count new i lt)) (elim (cases_eq i count) [
      | inl e ↦
          (let same : a ≡ b = same_Some a b (sym at ∙ ap (slice_get list) (sym e) ∙ there) in
          let B : Action → Type 0 = λ x. HaveOut unit steps x mid states in
          let J : ℕ → Type 0 = λ j. HaveOut unit steps b (held j) states in
          subst J (sym e) (subst H (sym is) (subst B same out)))
      | inr ne ↦ have i b (omega (arith, lt, ne)) there
    ])

-- and they had them before
pub had_out : (unit steps : ℕ) (list : List Action) (count : ℕ) (held : ℕ → Holdings) (mid new : Holdings) (a : Action) (states : ℕ → MachineState) → held count ≡ mid → slice_get list count ≡ Some a →
    HaveAllOut unit steps list (count + 1) (then_held held count new) states → HaveAllOut unit steps list count held states × HaveOut unit steps a mid states
had_out unit steps list count held mid new a states is at have = (
  λ i b lt there.
      (let H : Holdings → Type 0 = λ h. HaveOut unit steps b h states in
      subst H (held_before held count new i (omega (arith, lt))) (have i b (omega (arith, lt)) there)),
  (let H : Holdings → Type 0 = λ h. HaveOut unit steps a h states in
      subst H (held_before held count new count (omega arith) ∙ is) (have count a (omega arith) at)),
)

-- as many states are handed out as numbers
abbrev pub IsEven : ℕ → ℕ → Action → Holdings → Type 0
IsEven unit steps a held = length (states_out a held.work held.tape.states) ≡ length (handed_by unit steps a)

pub got_even : {V : Type 0} (got : V → ℕ → MachineState → List (List ℕ) → V → Type 0) (journal : List (List ℕ)) (unit steps : ℕ) (a : Action) (held : Holdings) (x y : V) →
    GetsAll got journal (handed_by unit steps a) (states_out a held.work held.tape.states) x y → IsEven unit steps a held
got_even got journal unit steps a held x y h = gets_length got journal (handed_by unit steps a) (states_out a held.work held.tape.states) x y h

pub gone_on : (unit steps : ℕ) (slots : List Slots) (journal : List (List ℕ)) (list : List Action) (count : ℕ) (old mid new : Holdings) (c : Configuration) (a : Action) (d : Configuration) → Goes steps slots c a d → Turns steps c →
    slice_get list count ≡ Some a → Acts unit journal a mid new → IsEven unit steps a mid → Gone unit steps journal list count old mid c → Gone unit steps journal list (count + 1) old new d
gone_on unit steps slots journal list count old mid new c a d goes turns at acts even gone =
    let hands = hands_of unit steps slots c a d goes turns in
    let from : ℕ = left unit steps d in
    let out : List MachineState = states_out a mid.work mid.tape.states in
    let states = over from hands.count out gone.states in
    let more = hands.more in
    let same : (b : Action) (i : ℕ) → i ≡ count → slice_get list i ≡ Some b → a ≡ b = λ b i e there. same_Some a b (sym at ∙ ap (slice_get list) (sym e) ∙ there) in
    record {
      held = then_held gone.held count new;
      from = held_before gone.held count new 0 (omega arith) ∙ gone.from;
      to = held_there gone.held count new;
      acts = λ i b lt there. elim (cases_eq i count) [
        | inl e ↦
            (let A : Action → Type 0 = λ x. Acts unit journal x mid new in
            let F : Holdings → Type 0 = λ h. Acts unit journal b h new in
            let T : Holdings → Type 0 = λ h. Acts unit journal b (then_held gone.held count new i) h in
            let J : ℕ → Type 0 = λ j. new ≡ then_held gone.held count new (j + 1) in
            subst T (subst J (sym e) (sym (held_there gone.held count new)))
            (subst F (sym (held_before gone.held count new i lt ∙ ap gone.held e ∙ gone.to)) (subst A (same b i e there) acts)))
        | inr ne ↦
            (let F : Holdings → Type 0 = λ h. Acts unit journal b h (gone.held (i + 1)) in
            let T : Holdings → Type 0 = λ h. Acts unit journal b (then_held gone.held count new i) h in
            subst T (sym (held_before gone.held count new (i + 1) (omega (arith, lt, ne)))) (subst F (sym (held_before gone.held count new i lt)) (gone.acts i b (omega (arith, lt, ne)) there)))
      ];
      states = states;
      have =
          have_on unit steps list count gone.held mid new a states gone.to at
          (ap (map states) hands.numbers ∙ over_here from hands.count out gone.states (even ∙ ap length hands.numbers ∙ length_numbers from hands.count))
          (λ i b lt there.
          map_above states gone.states (left unit steps c) (handed_by unit steps b) (λ n le. over_past from hands.count out gone.states n (omega (arith, le, more))) (gone.past i b lt there)
          ∙ gone.have i b lt there);
      past = λ i b lt there. elim (cases_eq i count) [
        | inl e ↦
            (let A : List ℕ → Type 0 = λ l. Above from l in
            let B : Action → Type 0 = λ x. Above from (handed_by unit steps x) in
            subst B (same b i e there) (subst A (sym hands.numbers) (above_numbers from hands.count)))
        | inr ne ↦ above_weaker from (left unit steps c) (handed_by unit steps b) (omega (arith, more)) (gone.past i b (omega (arith, lt, ne)) there)
      ];
    }
  where
    length_numbers : (from count : ℕ) → length (numbers_from from count) ≡ count
    length_numbers from zero = refl
    length_numbers from (suc count) = let rest = length_numbers from count in omega (arith, rest)

-- ---- a front of the list

-- an element of a front is one of the list
in_front : {A : Type 0} (xs : List A) (n i : ℕ) (x : A) → slice_get (take n xs) i ≡ Some x → (i < n) × (slice_get xs i ≡ Some x)
in_front [] zero i x h = absurd (none-some x h)
in_front [] (suc n) i x h = absurd (none-some x h)
in_front (y ∷ ys) zero i x h = absurd (none-some x h)
in_front (y ∷ ys) (suc n) zero x h = (omega arith, h)
in_front (y ∷ ys) (suc n) (suc i) x h = let rest = in_front ys n i x h in let lt = rest.0 in (omega (arith, lt), rest.1)

pub through : (unit steps : ℕ) (journal : List (List ℕ)) (list front : List Action) (count : ℕ) (old new : Holdings) (c : Configuration) → count ≤ length list → front ≡ take count list →
    (gone : Gone unit steps journal list count old new c) → GoesThrough unit steps journal front old new gone.states
through unit steps journal list front count old new c within is gone =
    let P : List Action → Type 0 = λ l. GoesThrough unit steps journal l old new gone.states in
    subst P (sym is) (record {
      held = gone.held;
      from = gone.from;
      to = ap gone.held (length-take-le count list within) ∙ gone.to;
      acts = λ i a at. (let there = in_front list count i a at in gone.acts i a there.0 there.1);
      hands = λ i a at. (let there = in_front list count i a at in gone.have i a there.0 there.1);
    })

-- ---- with a finder

-- The first so many actions were gone through, and a finder has no answer by any states that have those that were handed out. Those of
-- a run have them.
pub record Going (question : Sought) (word unit steps : ℕ) (journal : List (List ℕ)) (list : List Action) (count : ℕ) (old new : Holdings) (c : Configuration) (f : Finder) (IsOfRun : MachineState → Type 0) : Type 0 where
  pub gone : Gone unit steps journal list count old new c
  pub unfound : (states : ℕ → MachineState) → HaveAllOut unit steps list count gone.held states → Unfound question states journal word (unit * steps) (left unit steps c) f
  pub of_run : (first : MachineState) → IsOfRun first → HaveAllOut unit steps list count gone.held (state_number first journal)

-- one action more
pub going_on : (question : Sought) (word unit steps : ℕ) (slots : List Slots) (journal : List (List ℕ)) (list : List Action) (count : ℕ) (old mid new : Holdings) (c : Configuration) (a : Action) (d : Configuration) (f g : Finder)
    (IsOfRun : MachineState → Type 0) → Goes steps slots c a d → Turns steps c → slice_get list count ≡ Some a → Acts unit journal a mid new → IsEven unit steps a mid →
    ((states : ℕ → MachineState) → HaveOut unit steps a mid states → Unfound question states journal word (unit * steps) (left unit steps c) f → Unfound question states journal word (unit * steps) (left unit steps d) g) →
    ((first : MachineState) → IsOfRun first → HaveOut unit steps a mid (state_number first journal)) →
    Going question word unit steps journal list count old mid c f IsOfRun → Going question word unit steps journal list (count + 1) old new d g IsOfRun
unfolding gone_on
going_on question word unit steps slots journal list count old mid new c a d f g IsOfRun goes turns at acts even unfound out going =
    let gone = going.gone in
    record {
      gone = gone_on unit steps slots journal list count old mid new c a d goes turns at acts even gone;
      unfound = λ states have.
          (let had = had_out unit steps list count gone.held mid new a states gone.to at have in
          unfound states had.1 (going.unfound states had.0));
      of_run = λ first is. have_on unit steps list count gone.held mid new a (state_number first journal) gone.to at (out first is) (going.of_run first is);
    }

-- a list was gone through with one action more, and something holds of any states that have those that were handed out
pub found_on : (Holds : (ℕ → MachineState) → Type 0) (unit steps : ℕ) (slots : List Slots) (journal : List (List ℕ)) (list front : List Action) (count : ℕ) (old mid new : Holdings) (c : Configuration) (a : Action) (d : Configuration) →
    count + 1 ≤ length list → front ≡ take (count + 1) list → Goes steps slots c a d → Turns steps c → slice_get list count ≡ Some a → Acts unit journal a mid new → IsEven unit steps a mid →
    (gone : Gone unit steps journal list count old mid c) → ((states : ℕ → MachineState) → HaveOut unit steps a mid states → HaveAllOut unit steps list count gone.held states → Holds states) →
    IsFoundOn Holds unit steps journal front old new
unfolding gone_on
found_on Holds unit steps slots journal list front count old mid new c a d within is goes turns at acts even gone holds =
    let more = gone_on unit steps slots journal list count old mid new c a d goes turns at acts even gone in
    let had = had_out unit steps list count gone.held mid new a more.states gone.to at more.have in
    record {
      states = more.states;
      through = through unit steps journal list front (count + 1) old new d within is more;
      holds = holds more.states had.1 had.0;
    }
