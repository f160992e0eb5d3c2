-- What a visitor that passes on one state does with those that an action hands out.
use Rattle.std.proofs.Common.{◌≡◌, inl, inr, ◌⊎◌, ℕ, zero, suc, ◌+◌, ◌<◌, ◌≤◌, true, false, List, [], ◌∷◌, map, ltb, Option, Some, true≢false, refl, sym, ◌∙◌, ap, subst, arith}
use Rattle.std.proofs.lemmas.Bool.{cases_Bool, cases_eq, leb-true, leb-false}
use Rattle.keepers.specs.Claims.{Images}
use Rattle.rv_machine.specs.MachineState.{MachineState, IsMachineState}
use Rattle.rv_machine.specs.States.{state_number}
use Rattle.reverse_runner.specs.declared.fault.RunFault.{RunFault}
use Rattle.reverse_runner.specs.declared.fault.RunFault.TheVariants.{Keeper, Damaged, Visitor, Memory, Ended}
use Rattle.reverse_runner.specs.SessionState.{SessionState}
use Rattle.reverse_runner.specs.SessionOfRun.{StandsAt}
use Rattle.plan_types.specs.declared.action.Action.{Action}
use Rattle.level_book.specs.declared.book.Slots.{Slots}
use Rattle.level_book.specs.Configuration.{Configuration}
use Rattle.level_book.specs.Moves.{Goes}
use Rattle.reverse_runner.specs.ActionEffects.{Holdings}
use Rattle.reverse_runner.specs.StateOrder.{numbers_from, handed_by}
use Rattle.reverse_runner.specs.VisitorCalls.{states_out, GetsAll, MissesOne}
use Rattle.reverse_queries.specs.declared.picked.Picked.{Picked}
use Rattle.reverse_queries.specs.Queries.{hands_out}
use Rattle.reverse_queries.specs.HoldingsTrace.{HaveOut}
use Rattle.reverse_queries.specs.ListExecution.{IsOut, MissesState}
use Rattle.reverse_queries.specs.PickVisitor.{PassesOn}
use Rattle.reverse_queries.proofs.Numbers.{Stands, stands_later, stands_is, number_within}
use Rattle.reverse_queries.proofs.ReversalOrder.{Turns, left, hands_of}

-- it passed on the state with its number
pub record Passed {V : Type 0} (got : V → ℕ → MachineState → List (List ℕ) → V → Type 0) (journal : List (List ℕ)) (from count : ℕ) (out : List MachineState) (p q : Picked V) : Type 0 where
  pub low : from ≤ p.place
  pub high : p.place < from + count
  pub state : MachineState
  pub stands : Stands (numbers_from from count) out p.place state
  pub gets : got p.visitor.now p.place state journal q.visitor.now
  pub passed : q.passed ≡ true

-- or it passed on none, and none of these states has its number
pub record Passive {V : Type 0} (from count : ℕ) (p q : Picked V) : Type 0 where
  pub outside : from ≤ p.place → p.place < from + count → ⊥
  pub visitor : q.visitor.now ≡ p.visitor.now
  pub passed : q.passed ≡ p.passed

pub record Picks {V : Type 0} (got : V → ℕ → MachineState → List (List ℕ) → V → Type 0) (journal : List (List ℕ)) (from count : ℕ) (out : List MachineState) (p q : Picked V) : Type 0 where
  pub same_place : q.place ≡ p.place
  pub reference : q.visitor.ghost_name ≡ p.visitor.ghost_name
  pub either : Passed got journal from count out p q ⊎ Passive from count p q

pub picks : {V : Type 0} (got : V → ℕ → MachineState → List (List ℕ) → V → Type 0) (journal : List (List ℕ)) (from count : ℕ) (out : List MachineState) (p q : Picked V) → GetsAll (PassesOn got) journal (numbers_from from count) out p q → Picks got journal from count out p q
picks {V} got journal from zero [] p q h = record {
  same_place = ap (λ (x : Picked V). x.place) h;
  reference = ap (λ (x : Picked V). x.visitor.ghost_name) h;
  either = inr (record { outside = λ low high. omega (arith, low, high); visitor = ap (λ (x : Picked V). x.visitor.now) h; passed = ap (λ (x : Picked V). x.passed) h });
}
picks got journal from zero (s ∷ out) p q h = absurd h
picks got journal from (suc count) [] p q h = absurd h
picks {V} got journal from (suc count) (s ∷ out) p q h =
    let b = h.0 in
    let one = h.1.0 in
    let rest = picks got journal from count out b q h.1.1 in
    let place = one.same_place in
    record {
      same_place = rest.same_place ∙ place;
      reference = rest.reference ∙ one.reference;
      either = elim (cases_eq (from + count) p.place) [
        | inl e ↦
            (let given = one.gives e in
            elim rest.either [
              | inl more ↦ (let low = more.high in absurd (omega (arith, low, place, e)))
              | inr none ↦
                  (let P : V → Type 0 = λ v. got p.visitor.now p.place s journal v in
                  let N : ℕ → Type 0 = λ n. got p.visitor.now n s journal b.visitor.now in
                  inl (record {
                    low = omega (arith, e);
                    high = omega (arith, e);
                    state = s;
                    stands = record { place = 0; number = ap Some e; state = refl };
                    gets = subst P (sym none.visitor) (subst N e given.0);
                    passed = none.passed ∙ given.1;
                  }))
            ])
        | inr ne ↦
            (let same = one.others ne in
            elim rest.either [
              | inl more ↦
                  (let low = more.low in
                  let high = more.high in
                  let P : V → Type 0 = λ v. got v p.place more.state journal q.visitor.now in
                  let N : ℕ → Type 0 = λ n. got b.visitor.now n more.state journal q.visitor.now in
                  let S : ℕ → Type 0 = λ n. Stands (numbers_from from (suc count)) (s ∷ out) n more.state in
                  inl (record {
                    low = omega (arith, low, place);
                    high = omega (arith, high, place);
                    state = more.state;
                    stands = subst S place (stands_later (from + count) s (numbers_from from count) out b.place more.state more.stands);
                    gets = subst P same.0 (subst N place more.gets);
                    passed = more.passed;
                  }))
              | inr none ↦
                  inr (record {
                    outside = λ low high. none.outside (omega (arith, low, place)) (omega (arith, high, place, ne));
                    visitor = none.visitor ∙ same.0;
                    passed = none.passed ∙ same.1;
                  })
            ])
      ];
    }

-- it missed the state with its number
abbrev pub MissesPicked : {V : Type 0} → (V → ℕ → MachineState → List (List ℕ) → V → Type 0) → Picked V → ℕ → MachineState → List (List ℕ) → Picked V → Type 0
MissesPicked missed p n s journal q = (n ≡ p.place) × (q.visitor.ghost_name ≡ p.visitor.ghost_name) × missed p.visitor.now n s journal q.visitor.now

pub record Missed {V : Type 0} (missed : V → ℕ → MachineState → List (List ℕ) → V → Type 0) (journal : List (List ℕ)) (numbers : List ℕ) (out : List MachineState) (p q : Picked V) : Type 0 where
  pub reference : q.visitor.ghost_name ≡ p.visitor.ghost_name
  pub state : MachineState
  pub stands : Stands numbers out p.place state
  pub misses : missed p.visitor.now p.place state journal q.visitor.now

pub misses_picked : {V : Type 0} (got missed : V → ℕ → MachineState → List (List ℕ) → V → Type 0) (journal : List (List ℕ)) (from count : ℕ) (out : List MachineState) (p q : Picked V) →
    MissesOne (PassesOn got) (MissesPicked missed) journal (numbers_from from count) out p q → Missed missed journal (numbers_from from count) out p q
misses_picked got missed journal from zero out p q h = absurd h
misses_picked got missed journal from (suc count) [] p q h = absurd h
misses_picked {V} got missed journal from (suc count) (s ∷ out) p q (inl h) =
    let N : ℕ → Type 0 = λ n. missed p.visitor.now n s journal q.visitor.now in
    record { reference = h.1; state = s; stands = record { place = 0; number = ap Some h.0; state = refl }; misses = subst N h.0 h.2 }
misses_picked {V} got missed journal from (suc count) (s ∷ out) p q (inr h) =
    let b = h.0 in
    let one = h.1.0 in
    let place = one.same_place in
    let rest = misses_picked got missed journal from count out b q h.1.1 in
    let within = number_within from count rest.stands.place b.place rest.stands.number in
    let high = within.1 in
    let same = one.others (λ e. absurd (omega (arith, high, place, e))) in
    let P : V → Type 0 = λ v. missed v p.place rest.state journal q.visitor.now in
    let N : ℕ → Type 0 = λ n. missed b.visitor.now n rest.state journal q.visitor.now in
    let S : ℕ → Type 0 = λ n. Stands (numbers_from from (suc count)) (s ∷ out) n rest.state in
    record {
      reference = rest.reference ∙ one.reference;
      state = rest.state;
      stands = subst S place (stands_later (from + count) s (numbers_from from count) out b.place rest.state rest.stands);
      misses = subst P same.0 (subst N place rest.misses);
    }

-- ---- at an action

-- it passed on the state with its number, which the action hands out
pub record PassedAt {V : Type 0} (got : V → ℕ → MachineState → List (List ℕ) → V → Type 0) (unit steps : ℕ) (journal : List (List ℕ)) (a : Action) (held : Holdings) (p q : Picked V) : Type 0 where
  pub hands : hands_out unit steps p.place a ≡ true
  pub state : MachineState
  pub is : (states : ℕ → MachineState) → HaveOut unit steps a held states → state ≡ states p.place
  pub gets : got p.visitor.now p.place state journal q.visitor.now
  pub passed : q.passed ≡ true

pub record PassiveAt {V : Type 0} (unit steps : ℕ) (a : Action) (c d : Configuration) (p q : Picked V) : Type 0 where
  pub none : hands_out unit steps p.place a ≡ false
  pub left_still : p.place < left unit steps c → p.place < left unit steps d
  pub visitor : q.visitor.now ≡ p.visitor.now
  pub passed : q.passed ≡ p.passed

pub record PicksAt {V : Type 0} (got : V → ℕ → MachineState → List (List ℕ) → V → Type 0) (unit steps : ℕ) (journal : List (List ℕ)) (a : Action) (c d : Configuration) (held : Holdings) (p q : Picked V) : Type 0 where
  pub same_place : q.place ≡ p.place
  pub reference : q.visitor.ghost_name ≡ p.visitor.ghost_name
  pub either : PassedAt got unit steps journal a held p q ⊎ PassiveAt unit steps a c d p q

pub picks_at : {V : Type 0} (got : V → ℕ → MachineState → List (List ℕ) → V → Type 0) (unit steps : ℕ) (slots : List Slots) (journal : List (List ℕ)) (a : Action) (c d : Configuration) (held : Holdings) (p q : Picked V) → Goes steps slots c a d → Turns steps c →
    GetsAll (PassesOn got) journal (handed_by unit steps a) (states_out a held.work held.tape.states) p q → PicksAt got unit steps journal a c d held p q
picks_at {V} got unit steps slots journal a c d held p q goes turns gets =
    let h = hands_of unit steps slots c a d goes turns in
    let from : ℕ = left unit steps d in
    let more = h.more in
    let out : List MachineState = states_out a held.work held.tape.states in
    let G : List ℕ → Type 0 = λ l. GetsAll (PassesOn got) journal l out p q in
    let it = picks got journal from h.count out p q (subst G h.numbers gets) in
    record {
      same_place = it.same_place;
      reference = it.reference;
      either = elim it.either [
        | inl passed ↦
            (let high = passed.high in
            inl (record {
              hands = h.hands p.place passed.low (omega (arith, high, more));
              state = passed.state;
              is = λ states have. stands_is states (numbers_from from h.count) out p.place passed.state (ap (map states) (sym h.numbers) ∙ have) passed.stands;
              gets = passed.gets;
              passed = passed.passed;
            }))
        | inr passive ↦
            inr (record {
              none = elim (cases_Bool (hands_out unit steps p.place a)) [
                | inl e ↦ (let at = h.only p.place e in let high = at.1 in absurd (passive.outside at.0 (omega (arith, high, more))))
                | inr e ↦ e
              ];
              left_still = λ lt. (let outside = passive.outside in elim (cases_lt p.place from) [ inl below ↦ below | inr le ↦ absurd (outside le (omega (arith, lt, more))) ]);
              visitor = passive.visitor;
              passed = passive.passed;
            })
      ];
    }
  where
    cases_lt : (n m : ℕ) → (n < m) ⊎ (m ≤ n)
    cases_lt n m = elim (cases_Bool (ltb n m)) [ inl e ↦ inl (leb-true (suc n) m e) | inr e ↦ inr (let lt = leb-false (suc n) m e in omega (arith, lt)) ]

pub record MissedAt {V : Type 0} (missed : V → ℕ → MachineState → List (List ℕ) → V → Type 0) (unit steps : ℕ) (journal : List (List ℕ)) (a : Action) (held : Holdings) (p q : Picked V) : Type 0 where
  pub reference : q.visitor.ghost_name ≡ p.visitor.ghost_name
  pub state : MachineState
  pub out : IsOut unit steps p.place state a held
  pub is : (states : ℕ → MachineState) → HaveOut unit steps a held states → state ≡ states p.place
  pub misses : missed p.visitor.now p.place state journal q.visitor.now

pub missed_at : {V : Type 0} (got missed : V → ℕ → MachineState → List (List ℕ) → V → Type 0) (unit steps : ℕ) (slots : List Slots) (journal : List (List ℕ)) (a : Action) (c d : Configuration) (held : Holdings) (p q : Picked V) → Goes steps slots c a d → Turns steps c →
    MissesOne (PassesOn got) (MissesPicked missed) journal (handed_by unit steps a) (states_out a held.work held.tape.states) p q → MissedAt missed unit steps journal a held p q
missed_at {V} got missed unit steps slots journal a c d held p q goes turns misses =
    let h = hands_of unit steps slots c a d goes turns in
    let from : ℕ = left unit steps d in
    let out : List MachineState = states_out a held.work held.tape.states in
    let M : List ℕ → Type 0 = λ l. MissesOne (PassesOn got) (MissesPicked missed) journal l out p q in
    let it = misses_picked got missed journal from h.count out p q (subst M h.numbers misses) in
    let stands : Stands (handed_by unit steps a) out p.place it.state = let S : List ℕ → Type 0 = λ l. Stands l out p.place it.state in subst S (sym h.numbers) it.stands in
    record {
      reference = it.reference;
      state = it.state;
      out = record { place = stands.place; number = stands.number; state = stands.state };
      is = λ states have. stands_is states (handed_by unit steps a) out p.place it.state have stands;
      misses = it.misses;
    }

-- ---- for the visitor that it gives the state to

-- a visitor got the state with a number, which the action hands out
pub record ShownAt {V : Type 0} (got : V → ℕ → MachineState → List (List ℕ) → V → Type 0) (unit steps : ℕ) (journal : List (List ℕ)) (a : Action) (held : Holdings) (n : ℕ) (v w : V) : Type 0 where
  pub hands : hands_out unit steps n a ≡ true
  pub state : MachineState
  pub is : (states : ℕ → MachineState) → HaveOut unit steps a held states → state ≡ states n
  pub gets : got v n state journal w

pub shown_at : {V : Type 0} (got : V → ℕ → MachineState → List (List ℕ) → V → Type 0) (unit steps : ℕ) (journal : List (List ℕ)) (a : Action) (c d : Configuration) (held : Holdings) (p q : Picked V) (n : ℕ) (v : V) → p.place ≡ n → p.visitor.now ≡ v → p.passed ≡ false → q.passed ≡ true →
    PicksAt got unit steps journal a c d held p q → ShownAt got unit steps journal a held n v q.visitor.now
shown_at {V} got unit steps journal a c d held p q n v place visitor before after it = elim it.either [
  | inl passed ↦
      (let N : ℕ → Type 0 = λ m. got p.visitor.now m passed.state journal q.visitor.now in
      let P : V → Type 0 = λ x. got x n passed.state journal q.visitor.now in
      record {
        hands = ap (λ m. hands_out unit steps m a) (sym place) ∙ passed.hands;
        state = passed.state;
        is = λ states have. passed.is states have ∙ ap states place;
        gets = subst P visitor (subst N place passed.gets);
      })
  | inr passive ↦ absurd (true≢false (sym after ∙ passive.passed ∙ before))
]

-- or none of the states has the number
pub unshown_at : {V : Type 0} (got : V → ℕ → MachineState → List (List ℕ) → V → Type 0) (unit steps : ℕ) (journal : List (List ℕ)) (a : Action) (c d : Configuration) (held : Holdings) (p q : Picked V) → q.passed ≡ false →
    PicksAt got unit steps journal a c d held p q → PassiveAt unit steps a c d p q
unshown_at got unit steps journal a c d held p q after it = elim it.either [ inl passed ↦ absurd (true≢false (sym passed.passed ∙ after)) | inr passive ↦ passive ]

-- or it missed the state
pub misses_state : {V : Type 0} (missed : V → ℕ → MachineState → List (List ℕ) → V → Type 0) (old : SessionState) (told : ℕ → Option Images) (a : Action) (held : Holdings) (p q : Picked V) (n : ℕ) (v w : V) → p.place ≡ n → p.visitor.now ≡ v → w ≡ q.visitor.now →
    ((first : MachineState) → IsMachineState first → StandsAt first old told → HaveOut old.unit old.situation.steps a held (state_number first old.journal)) →
    MissedAt missed old.unit old.situation.steps old.journal a held p q → MissesState missed old told n v w a held
misses_state {V} missed old told a held p q n v w place visitor last has it =
    let O : ℕ → Type 0 = λ m. IsOut old.unit old.situation.steps m it.state a held in
    let N : ℕ → Type 0 = λ m. missed p.visitor.now m it.state old.journal q.visitor.now in
    let P : V → Type 0 = λ x. missed x n it.state old.journal q.visitor.now in
    let Q : V → Type 0 = λ y. missed v n it.state old.journal y in
    record {
      state = it.state;
      out = subst O place it.out;
      misses = subst Q (sym last) (subst P visitor (subst N place it.misses));
      of_run = λ first is stands. it.is (state_number first old.journal) (has first is stands) ∙ ap (state_number first old.journal) place;
    }

-- a fault is that of the visitor, or another
pub of_visitor : (f : RunFault) → (f ≡ Visitor) ⊎ (f ≡ Visitor → ⊥)
of_visitor (Keeper k) = inr (λ e. cc)
of_visitor (Damaged k put got) = inr (λ e. cc)
of_visitor Visitor = inl refl
of_visitor Memory = inr (λ e. cc)
of_visitor Ended = inr (λ e. cc)
