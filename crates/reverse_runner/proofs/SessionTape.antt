-- The tape of a session, as its workspace holds it, and how its states are handed out.
use Rattle.reverse_runner.proofs.Common.{◌≡◌, ℕ, ◌*◌, ◌∙◌, refl, ap, sym, subst, arith, inl, inr, List, Option, [], length, ◌-◌, ◌∷◌, map, zero, suc, ◌++◌, MatchOption, Forward, Tape, Configuration, Goes, Slots, state_number-add, MachineState, state_number, one_each, length-states_below, UndoState, states_below, LeadsBack, IsMadeFor, numbers_from, GetsAll, MissesOne, HasUnits}
use Rattle.reverse_runner.specs.declared.workspace.Workspace.{Workspace}
use Rattle.reverse_runner.proofs.StatesInvariant.{times_one}

-- one state more was got
pub gets_more : {V : Type 0} (got : V → ℕ → MachineState → List (List ℕ) → V → Type 0) (journal : List (List ℕ)) (numbers : List ℕ) (states : List MachineState) (n : ℕ) (s : MachineState) (a b c : V) →
    GetsAll got journal numbers states a b → got b n s journal c → GetsAll got journal (numbers ++ n ∷ []) (states ++ s ∷ []) a c
gets_more got journal [] [] n s a b c h here = (c, (subst (λ v. got v n s journal c) h here, refl))
gets_more got journal [] (t ∷ states) n s a b c h here = absurd h
gets_more got journal (m ∷ numbers) [] n s a b c h here = absurd h
gets_more got journal (m ∷ numbers) (t ∷ states) n s a b c h here = (h.0, (h.1.0, gets_more got journal numbers states n s h.0 b c h.1.1 here))

-- the next state was missed
pub misses_next : {V : Type 0} (got missed : V → ℕ → MachineState → List (List ℕ) → V → Type 0) (journal : List (List ℕ)) (numbers more : List ℕ) (states others : List MachineState) (n : ℕ) (s : MachineState) (a b c : V) →
    GetsAll got journal numbers states a b → missed b n s journal c → MissesOne got missed journal (numbers ++ n ∷ more) (states ++ s ∷ others) a c
misses_next got missed journal [] more [] others n s a b c h here = inl (subst (λ v. missed v n s journal c) h here)
misses_next got missed journal [] more (t ∷ states) others n s a b c h here = absurd h
misses_next got missed journal (m ∷ numbers) more [] others n s a b c h here = absurd h
misses_next got missed journal (m ∷ numbers) more (t ∷ states) others n s a b c h here = inr (h.0, (h.1.0, misses_next got missed journal numbers more states others n s h.0 b c h.1.1 here))

-- the undo list stays, and so does what the configuration's tape is
pub units_kept : (unit steps : ℕ) (journal : List (List ℕ)) (c d : Configuration) (w x : Workspace) → x.undo ≡ w.undo → d.tape ≡ c.tape → HasUnits unit journal steps c w → HasUnits unit journal steps d x
units_kept unit steps journal c d w x undo tape h =
    let P : Option ℕ → Type 0 = λ o. MatchOption o (Unit {0}) (λ n. length x.undo.entries ≡ unit) in
    let Q : UndoState → Type 0 = λ u. MatchOption c.tape (Unit {0}) (λ n. length u.entries ≡ unit) in
    record {
      taped = subst P (sym tape) (subst Q (sym undo) h.taped);
      made = subst (IsMadeFor journal) (sym undo) h.made;
      same = ap (λ (u : UndoState). u.unit) undo ∙ h.same;
      small = h.small;
    }

-- a unit was put on the tape
pub units_put : (unit steps from to : ℕ) (journal : List (List ℕ)) (slots : List Slots) (c d : Configuration) (w x : Workspace) (first : MachineState) → Goes steps slots c (Forward from to Tape) d →
    LeadsBack x.undo.entries x.tape (states_below first journal (unit * (to - from))) → x.undo.unit ≡ w.undo.unit → x.undo.room ≡ w.undo.room → HasUnits unit journal steps c w → HasUnits unit journal steps d x
units_put unit steps from to journal slots c d w x first g back same room h =
    let one : to - from ≡ 1 = (let next = g.2 in omega (arith, next)) in
    let count : length x.undo.entries ≡ unit = one_each x.undo.entries x.tape _ back ∙ length-states_below first journal (unit * (to - from)) ∙ ap (λ n. unit * n) one ∙ times_one unit in
    let P : Option ℕ → Type 0 = λ o. MatchOption o (Unit {0}) (λ n. length x.undo.entries ≡ unit) in
    record {
      taped = subst P (sym (ap (λ (x : Configuration). x.tape) g.5)) count;
      made = (let made = h.made in omega (arith, made, same, room));
      same = same ∙ h.same;
      small = h.small;
    }

-- the states of a unit are those of the run with the numbers that are handed out for it
pub unit_has : (first : MachineState) (journal : List (List ℕ)) (from n : ℕ) → states_below (state_number first journal from) journal n ≡ map (state_number first journal) (numbers_from from n)
unit_has first journal from zero = refl
unit_has first journal from (suc n) = (λ i. sym (state_number-add first journal from n) i ∷ unit_has first journal from n i)
