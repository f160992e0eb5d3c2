-- The states of a session follow its configuration through the steps that are taken.
use Rattle.reverse_runner.proofs.Common.{◌≡◌, ℕ, ◌+◌, ◌*◌, ◌∙◌, ap, sym, arith, List, Option, ◌<◌, ◌-◌, MatchOption, Configuration, MayAdvance, state_number-add, MachineState, state_number, states_below, TapeState, IsUnit, unit_states}

-- what is on the tape is the unit of the run that it is named by
abbrev pub TapeIs : MachineState → List (List ℕ) → ℕ → Option ℕ → TapeState → Type 0
TapeIs first journal unit number tape = MatchOption number (Unit {0}) (λ n. IsUnit first journal unit n tape)

distributed : (u a b : ℕ) → u * (a + b) ≡ u * a + u * b
distributed u a b = omega arith

pub times_one : (u : ℕ) → u * 1 ≡ u
times_one u = omega arith

-- the units of a Forward, one after the other
units : (unit from to : ℕ) → from < to → unit * from + unit * (to - from) ≡ unit * to
units unit from to ahead =
    let whole : from + (to - from) ≡ to = omega (arith, ahead) in
    sym (distributed unit from (to - from)) ∙ ap (λ n. unit * n) whole

-- the steps of a Forward lead from one state of the run to another
pub further : (first : MachineState) (journal : List (List ℕ)) (unit from to : ℕ) (work work' : MachineState) → work ≡ unit_states first journal unit from → from < to → work' ≡ state_number work journal (unit * (to - from)) →
    work' ≡ unit_states first journal unit to
further first journal unit from to work work' here ahead there =
    there ∙ ap (λ x. state_number x journal (unit * (to - from))) here ∙ sym (state_number-add first journal (unit * from) (unit * (to - from))) ∙ ap (state_number first journal) (units unit from to ahead)

pub advanced : (first : MachineState) (journal : List (List ℕ)) (unit : ℕ) (c d e : Configuration) (from to : ℕ) (work work' : MachineState) → work ≡ unit_states first journal unit c.work → MayAdvance c from to →
    d ≡ e → e.work ≡ to → work' ≡ state_number work journal (unit * (to - from)) → work' ≡ unit_states first journal unit d.work
advanced first journal unit c d e from to work work' here may is at there =
    further first journal unit from to work work' (here ∙ ap (unit_states first journal unit) may.here) may.ahead there
    ∙ ap (unit_states first journal unit) (sym at ∙ sym (ap (λ (x : Configuration). x.work) is))

-- the state in work stays, where its number does
pub stayed : (first : MachineState) (journal : List (List ℕ)) (unit : ℕ) (c d e : Configuration) (work work' : MachineState) → work ≡ unit_states first journal unit c.work → d ≡ e → e.work ≡ c.work → work' ≡ work →
    work' ≡ unit_states first journal unit d.work
stayed first journal unit c d e work work' here is same still = still ∙ here ∙ ap (unit_states first journal unit) (sym same ∙ sym (ap (λ (x : Configuration). x.work) is))

-- the unit that a Forward puts on the tape
pub put_on : (first : MachineState) (journal : List (List ℕ)) (unit from to : ℕ) (work work' : MachineState) (tape : TapeState) → work ≡ unit_states first journal unit from → to ≡ from + 1 →
    work' ≡ state_number work journal (unit * (to - from)) → tape ≡ record { states = states_below work journal (unit * (to - from)); after = work' } → IsUnit first journal unit from tape
put_on first journal unit from to work work' tape here next there is =
    let one : to - from ≡ 1 = omega arith in
    let ahead : from < to = omega arith in
    record {
      states = ap (λ (t : TapeState). t.states) is ∙ ap (λ s. states_below s journal (unit * (to - from))) here ∙ ap (λ n. states_below (unit_states first journal unit from) journal n) (ap (λ n. unit * n) one ∙ times_one unit);
      after = ap (λ (t : TapeState). t.after) is ∙ further first journal unit from to work work' here ahead there ∙ ap (unit_states first journal unit) next;
    }
