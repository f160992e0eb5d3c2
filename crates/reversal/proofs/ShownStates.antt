-- The states that a run shows, by their numbers: each action that hands out states settles those, which no earlier action
-- has shown.
use Rattle.std.proofs.Common.{◌≡◌, ◌≢◌, ℕ, zero, suc, ◌+◌, ◌*◌, ◌==◌, ◌<◌, ◌≤◌, cond, false, List, [], ◌∷◌, ◌++◌, map, Option, None, Some, IsSome, MatchOption, refl, sym, ◌∙◌, ap, subst, arith, inl, inr, eq-eqb, append-nil}
use Rattle.std.proofs.Math.Nat.{mul-le-mul_left}
use Rattle.std.proofs.lemmas.Bool.{cases_eq, ne_eqb, false≢true}
use Rattle.std.proofs.lemmas.Grind.{flat_map-append}
use Rattle.plan_types.specs.declared.action.Keep.TheVariants.{Nothing, Store, Tape}
use Rattle.plan_types.specs.declared.action.Dest.TheVariants.{Work, Level}
use Rattle.plan_types.specs.declared.action.Action.{Action}
use Rattle.plan_types.specs.declared.action.Action.TheVariants.{Forward, Reverse, Copy, Move, EndForward, EndReverse}
use Rattle.level_book.specs.declared.book.Slots.{Slots}
use Rattle.level_book.specs.Configuration.{Configuration, start}
use Rattle.level_book.specs.Moves.{Goes}
use Rattle.level_book.specs.CostFold.{steps_of}
use Rattle.rv_machine.specs.MachineState.{MachineState}
use Rattle.rv_machine.specs.States.{state_number}
use Rattle.reverse_runner.specs.ActionEffects.{TapeState}
use Rattle.reverse_runner.specs.StateOrder.{numbers_from, handed_by, handed}
use Rattle.reverse_runner.specs.VisitorCalls.{states_out}
use Rattle.reverse_runner.specs.Units.{unit_states}
use Rattle.reverse_runner.proofs.StatesInvariant.{TapeIs}
use Rattle.reverse_runner.proofs.SessionTape.{unit_has}
use Rattle.reverse_runner.specs.KeepersSeen.{calls_of}
use Rattle.reversal.specs.Output.{line_of}
use Rattle.reversal.specs.Deeds.{States, deed_of}
use Rattle.reversal.specs.Course.{Shown}

-- what a run shows by its states alone
abbrev pub shown_by : States → Shown
shown_by states = record { states = states; answer = None; orders = [] }

-- with one state settled
abbrev pub settled : States → ℕ → MachineState → States
settled shown n state m = cond (m == n) state (shown m)

pub settled_at : (shown : States) (n : ℕ) (state : MachineState) → settled shown n state n ≡ state
settled_at shown n state = ap (λ b. cond b state (shown n)) (eq-eqb n n refl)

pub settled_else : (shown : States) (n : ℕ) (state : MachineState) (m : ℕ) → m ≢ n → settled shown n state m ≡ shown m
settled_else shown n state m ne = ap (λ b. cond b state (shown m)) (ne_eqb m n ne)

-- with these settled, as far as there is one for each number
abbrev pub all_settled : States → List ℕ → List MachineState → States
all_settled shown [] states = shown
all_settled shown (n ∷ numbers) [] = shown
all_settled shown (n ∷ numbers) (s ∷ states) = settled (all_settled shown numbers states) n s

-- what is shown once an action was done, by the states in work and on the tape
abbrev pub showing : States → ℕ → ℕ → Action → MachineState → List MachineState → States
showing shown unit steps a work tape = all_settled shown (handed_by unit steps a) (states_out a work tape)

-- what is shown has these states, as far as there is one for each number
abbrev pub Shows : States → List ℕ → List MachineState → Type 0
Shows shown [] states = Unit {0}
Shows shown (n ∷ numbers) [] = Unit {0}
Shows shown (n ∷ numbers) (s ∷ states) = (shown n ≡ s) × Shows shown numbers states

pub shows_mapped : (shown : States) (numbers : List ℕ) → Shows shown numbers (map shown numbers)
shows_mapped shown [] = tt
shows_mapped shown (n ∷ numbers) = (refl, shows_mapped shown numbers)

-- ---- numbers below and above others

-- each of these is below a number, or at least as great
abbrev pub AllBelow : ℕ → List ℕ → Type 0
AllBelow r [] = Unit {0}
AllBelow r (m ∷ ms) = (m < r) × AllBelow r ms

abbrev pub AtLeast : ℕ → List ℕ → Type 0
AtLeast r [] = Unit {0}
AtLeast r (m ∷ ms) = (r ≤ m) × AtLeast r ms

-- each of these is above those behind it
abbrev pub Falls : List ℕ → Type 0
Falls [] = Unit {0}
Falls (n ∷ ns) = AllBelow n ns × Falls ns

below_more : (r q : ℕ) (ms : List ℕ) → r ≤ q → AllBelow r ms → AllBelow q ms
below_more r q [] le h = tt
below_more r q (m ∷ ms) le h = (omega (arith, le, h.0), below_more r q ms le h.1)

at_least_lower : (r q : ℕ) (ms : List ℕ) → q ≤ r → AtLeast r ms → AtLeast q ms
at_least_lower r q [] le h = tt
at_least_lower r q (m ∷ ms) le h = (omega (arith, le, h.0), at_least_lower r q ms le h.1)

at_least_none : (ms : List ℕ) → AtLeast 0 ms
at_least_none [] = tt
at_least_none (m ∷ ms) = (omega arith, at_least_none ms)

at_least_both : (r : ℕ) (ms ns : List ℕ) → AtLeast r ms → AtLeast r ns → AtLeast r (ms ++ ns)
at_least_both r [] ns h g = g
at_least_both r (m ∷ ms) ns h g = (h.0, at_least_both r ms ns h.1 g)

pub at_least_front : (r : ℕ) (ms ns : List ℕ) → AtLeast r (ms ++ ns) → AtLeast r ms
at_least_front r [] ns h = tt
at_least_front r (m ∷ ms) ns h = (h.0, at_least_front r ms ns h.1)

pub at_least_back : (r : ℕ) (ms ns : List ℕ) → AtLeast r (ms ++ ns) → AtLeast r ns
at_least_back r [] ns h = h
at_least_back r (m ∷ ms) ns h = at_least_back r ms ns h.1

-- the numbers of a unit
from_below : (from n r : ℕ) → from + n ≤ r → AllBelow r (numbers_from from n)
from_below from zero r le = tt
from_below from (suc n) r le = (omega (arith, le), from_below from n r (omega (arith, le)))

from_at_least : (from n : ℕ) → AtLeast from (numbers_from from n)
from_at_least from zero = tt
from_at_least from (suc n) = (omega arith, from_at_least from n)

from_falls : (from n : ℕ) → Falls (numbers_from from n)
from_falls from zero = tt
from_falls from (suc n) = (from_below from n (from + n) (omega arith), from_falls from n)

handed_falls : (unit steps : ℕ) (a : Action) → Falls (handed_by unit steps a)
handed_falls unit steps (Forward from to keep) = tt
handed_falls unit steps (Reverse from to) = from_falls (unit * to) unit
handed_falls unit steps (Copy n k dest) = tt
handed_falls unit steps (Move n k dest) = tt
handed_falls unit steps EndForward = (tt, tt)
handed_falls unit steps EndReverse = tt

-- ---- what is settled

settled_above : (shown : States) (numbers : List ℕ) (states : List MachineState) (m : ℕ) → AllBelow m numbers → all_settled shown numbers states m ≡ shown m
settled_above shown [] states m h = refl
settled_above shown (n ∷ numbers) [] m h = refl
settled_above shown (n ∷ numbers) (s ∷ states) m h =
    let ne : m ≢ n = λ e. absurd (omega (arith, e, h.0)) in
    settled_else (all_settled shown numbers states) n s m ne ∙ settled_above shown numbers states m h.1

still_shows : (shown : States) (n : ℕ) (s : MachineState) (numbers : List ℕ) (states : List MachineState) → AllBelow n numbers → Shows shown numbers states → Shows (settled shown n s) numbers states
still_shows shown n s [] states below h = tt
still_shows shown n s (m ∷ numbers) [] below h = tt
still_shows shown n s (m ∷ numbers) (t ∷ states) below h =
    let ne : m ≢ n = λ e. absurd (omega (arith, e, below.0)) in
    (settled_else shown n s m ne ∙ h.0, still_shows shown n s numbers states below.1 h.1)

all_show : (shown : States) (numbers : List ℕ) (states : List MachineState) → Falls numbers → Shows (all_settled shown numbers states) numbers states
all_show shown [] states falls = tt
all_show shown (n ∷ numbers) [] falls = tt
all_show shown (n ∷ numbers) (s ∷ states) falls = (
  settled_at (all_settled shown numbers states) n s,
  still_shows (all_settled shown numbers states) n s numbers states falls.0 (all_show shown numbers states falls.1),
)

-- an action shows what it hands out
pub it_shows : (shown : States) (unit steps : ℕ) (a : Action) (work : MachineState) (tape : List MachineState) → Shows (showing shown unit steps a work tape) (handed_by unit steps a) (states_out a work tape)
it_shows shown unit steps a work tape = all_show shown (handed_by unit steps a) (states_out a work tape) (handed_falls unit steps a)

-- ---- numbers that were handed out are above those that are still to come

-- what was handed out on the way to a configuration isn't reversed any more, and before EndForward it is nothing
pub record IsAbove (unit steps : ℕ) (out : List ℕ) (c : Configuration) : Type 0 where
  pub above : AtLeast (unit * c.reverse) out
  pub none : c.forward_ended ≡ false → out ≡ []
  pub most : c.reverse ≤ steps

-- nothing is handed out, and the same is still to be reversed
above_still : (unit steps : ℕ) (out : List ℕ) (c d e : Configuration) → d ≡ e → e.reverse ≡ c.reverse → e.forward_ended ≡ c.forward_ended → IsAbove unit steps out c → IsAbove unit steps (out ++ []) d
above_still unit steps out c d e is same ended h =
    let P : List ℕ → Type 0 = λ l. IsAbove unit steps l d in
    let Q : Configuration → Type 0 = λ x. IsAbove unit steps out x in
    subst P (sym (append-nil out)) (subst Q (sym is) (record {
      above = (let R : ℕ → Type 0 = λ r. AtLeast (unit * r) out in subst R (sym same) h.above);
      none = λ f. h.none (sym ended ∙ f);
      most = omega (arith, same, h.most);
    }))

pub above_after : (unit steps : ℕ) (slots : List Slots) (out : List ℕ) (c : Configuration) (a : Action) (d : Configuration) → Goes steps slots c a d → IsAbove unit steps out c → IsAbove unit steps (out ++ handed_by unit steps a) d
above_after unit steps slots out c (Forward from to Nothing) d g h = above_still unit steps out c d _ g.2 refl refl h
above_after unit steps slots out c (Forward from to (Store k)) d g h = above_still unit steps out c d _ g.3 refl refl h
above_after unit steps slots out c (Forward from to Tape) d g h = above_still unit steps out c d _ g.5 refl refl h
above_after unit steps slots out c (Copy n k Work) d g h = above_still unit steps out c d _ g.2 refl refl h
above_after unit steps slots out c (Copy n k (Level j)) d g h = above_still unit steps out c d _ g.4 refl refl h
above_after unit steps slots out c (Move n k Work) d g h = above_still unit steps out c d _ g.2 refl refl h
above_after unit steps slots out c (Move n k (Level j)) d g h = above_still unit steps out c d _ g.4 refl refl h
above_after unit steps slots out c EndReverse d g h = above_still unit steps out c d _ g.3 refl refl h
above_after unit steps slots out c EndForward d g h =
    let Q : Configuration → Type 0 = λ x. IsAbove unit steps (out ++ (unit * steps) ∷ []) x in
    subst Q (sym g.3) (record {
      above = at_least_both (unit * c.reverse) out ((unit * steps) ∷ []) h.above (mul-le-mul_left unit h.most, tt);
      none = λ f. absurd (false≢true (sym f));
      most = h.most;
    })
above_after unit steps slots out c (Reverse from to) d g h =
    let Q : Configuration → Type 0 = λ x. IsAbove unit steps (out ++ numbers_from (unit * to) unit) x in
    let less : to ≤ c.reverse = omega (arith, g.3, g.4) in
    subst Q (sym g.5) (record {
      above =
          at_least_both (unit * to) out (numbers_from (unit * to) unit) (at_least_lower (unit * c.reverse) (unit * to) out (mul-le-mul_left unit less) h.above)
          (from_at_least (unit * to) unit);
      none = λ f. absurd (false≢true (sym f ∙ g.1));
      most = omega (arith, less, h.most);
    })

-- a number stands between those that an action hands out and those that were handed out
pub record Apart (next out : List ℕ) : Type 0 where
  pub bound : ℕ
  pub below : AllBelow bound next
  pub above : AtLeast bound out

pub is_apart : (unit steps : ℕ) (slots : List Slots) (out : List ℕ) (c : Configuration) (a : Action) (d : Configuration) → Goes steps slots c a d → IsAbove unit steps out c → Apart (handed_by unit steps a) out
is_apart unit steps slots out c (Forward from to keep) d g h = record { bound = 0; below = tt; above = at_least_none out }
is_apart unit steps slots out c (Copy n k dest) d g h = record { bound = 0; below = tt; above = at_least_none out }
is_apart unit steps slots out c (Move n k dest) d g h = record { bound = 0; below = tt; above = at_least_none out }
is_apart unit steps slots out c EndReverse d g h = record { bound = 0; below = tt; above = at_least_none out }
is_apart unit steps slots out c EndForward d g h = record {
  bound = unit * steps + 1;
  below = (omega arith, tt);
  above = let P : List ℕ → Type 0 = λ l. AtLeast (unit * steps + 1) l in subst P (sym (h.none g.1)) tt;
}
is_apart unit steps slots out c (Reverse from to) d g h = record {
  bound = unit * c.reverse;
  below =
      (let next : c.reverse ≡ to + 1 = sym g.3 ∙ sym g.4 in
      let more : unit * (to + 1) ≡ unit * to + unit = omega arith in
      let whole = ap (λ n. unit * n) next in
      from_below (unit * to) unit (unit * c.reverse) (omega (arith, more, whole)));
  above = h.above;
}

-- ---- deeds that are done stay as they are

-- what is made of the states with numbers above those that are settled
pub same_above : {X : Type 0} (f : ℕ → MachineState → X) (shown : States) (numbers : List ℕ) (states : List MachineState) (r : ℕ) (ms : List ℕ) → AllBelow r numbers → AtLeast r ms →
    map (λ m. f m (all_settled shown numbers states m)) ms ≡ map (λ m. f m (shown m)) ms
same_above f shown numbers states r [] below above = refl
same_above f shown numbers states r (m ∷ ms) below above =
    let here = settled_above shown numbers states m (below_more r m numbers above.0 below) in
    let there = same_above f shown numbers states r ms below above.1 in
    λ i. f m (here i) ∷ there i

same_deed : (shown : States) (numbers : List ℕ) (states : List MachineState) (r unit steps : ℕ) (a : Action) → AllBelow r numbers → AtLeast r (handed_by unit steps a) →
    deed_of (all_settled shown numbers states) unit steps a ≡ deed_of shown unit steps a
same_deed shown numbers states r unit steps a below above =
    ap (λ pieces. record { pieces = pieces; steps = unit * steps_of a; spent = 0; calls = calls_of a })
    (same_above (λ n s. line_of (λ _. s) n) shown numbers states r (handed_by unit steps a) below above)

same_deeds : (shown : States) (numbers : List ℕ) (states : List MachineState) (r unit steps : ℕ) (list : List Action) → AllBelow r numbers → AtLeast r (handed unit steps list) →
    map (deed_of (all_settled shown numbers states) unit steps) list ≡ map (deed_of shown unit steps) list
same_deeds shown numbers states r unit steps [] below above = refl
same_deeds shown numbers states r unit steps (a ∷ rest) below above =
    let here = same_deed shown numbers states r unit steps a below (at_least_front r (handed_by unit steps a) (handed unit steps rest) above) in
    let there = same_deeds shown numbers states r unit steps rest below (at_least_back r (handed_by unit steps a) (handed unit steps rest) above) in
    λ i. here i ∷ there i

-- deeds that were done before states are settled are those after it
pub same_before : (shown : States) (unit steps : ℕ) (slots : List Slots) (list : List Action) (c : Configuration) (a : Action) (d : Configuration) (work : MachineState) (tape : List MachineState) → Goes steps slots c a d →
    IsAbove unit steps (handed unit steps list) c → map (deed_of (showing shown unit steps a work tape) unit steps) list ≡ map (deed_of shown unit steps) list
same_before shown unit steps slots list c a d work tape g h =
    let apart = is_apart unit steps slots (handed unit steps list) c a d g h in
    same_deeds shown (handed_by unit steps a) (states_out a work tape) apart.bound unit steps list apart.below apart.above

-- ---- over keepers that tell, what is shown are the states of the run

settled_of_run : (first : MachineState) (journal : List (List ℕ)) (shown : States) (n : ℕ) (state : MachineState) (m : ℕ) → state_number first journal n ≡ state → shown m ≡ state_number first journal m →
    settled shown n state m ≡ state_number first journal m
settled_of_run first journal shown n state m is of_run = elim (cases_eq m n) [
  | inl e ↦ ap (λ b. cond b state (shown m)) (eq-eqb m n e) ∙ sym is ∙ ap (state_number first journal) (sym e)
  | inr ne ↦ settled_else shown n state m ne ∙ of_run
]

pub all_of_run : (first : MachineState) (journal : List (List ℕ)) (shown : States) (numbers : List ℕ) (states : List MachineState) (m : ℕ) → Shows (state_number first journal) numbers states →
    shown m ≡ state_number first journal m → all_settled shown numbers states m ≡ state_number first journal m
all_of_run first journal shown [] states m h of_run = of_run
all_of_run first journal shown (n ∷ numbers) [] m h of_run = of_run
all_of_run first journal shown (n ∷ numbers) (s ∷ states) m h of_run =
    settled_of_run first journal (all_settled shown numbers states) n s m h.0 (all_of_run first journal shown numbers states m h.1 of_run)

-- the states on the tape are those that a Reverse leads back over
pub on_tape : (first : MachineState) (journal : List (List ℕ)) (unit : ℕ) (number : Option ℕ) (tape : TapeState) (reverse to : ℕ) → IsSome number → MatchOption number (Unit {0}) (λ t. t + 1 ≡ reverse) → to + 1 ≡ reverse →
    TapeIs first journal unit number tape → tape.states ≡ map (state_number first journal) (numbers_from (unit * to) unit)
on_tape first journal unit None tape reverse to some next before good = absurd (false≢true some)
on_tape first journal unit (Some t) tape reverse to some next before good =
    let same : t ≡ to = omega (arith, next, before) in
    good.states ∙ unit_has first journal (unit * t) unit ∙ ap (λ n. map (state_number first journal) (numbers_from (unit * n) unit)) same

-- those that an action hands out are those of the run
pub hands_of_run : (first : MachineState) (journal : List (List ℕ)) (unit steps : ℕ) (slots : List Slots) (c : Configuration) (a : Action) (d : Configuration) (work : MachineState) (tape : TapeState) →
    Goes steps slots c a d → work ≡ unit_states first journal unit c.work → TapeIs first journal unit c.tape tape → MatchOption c.tape (Unit {0}) (λ t. t + 1 ≡ c.reverse) →
    Shows (state_number first journal) (handed_by unit steps a) (states_out a work tape.states)
hands_of_run first journal unit steps slots c (Forward from to keep) d work tape g here taped next = tt
hands_of_run first journal unit steps slots c (Copy n k dest) d work tape g here taped next = tt
hands_of_run first journal unit steps slots c (Move n k dest) d work tape g here taped next = tt
hands_of_run first journal unit steps slots c EndReverse d work tape g here taped next = tt
hands_of_run first journal unit steps slots c EndForward d work tape g here taped next = (ap (unit_states first journal unit) (sym g.2) ∙ sym here, tt)
hands_of_run first journal unit steps slots c (Reverse from to) d work tape g here taped next =
    let numbers = numbers_from (unit * to) unit in
    let P : List MachineState → Type 0 = λ l. Shows (state_number first journal) numbers l in
    subst P (sym (on_tape first journal unit c.tape tape c.reverse to g.2 next (g.4 ∙ g.3) taped)) (shows_mapped (state_number first journal) numbers)

pub shows_of_run : (first : MachineState) (journal : List (List ℕ)) (unit steps : ℕ) (slots : List Slots) (c : Configuration) (a : Action) (d : Configuration) (shown : States) (work : MachineState) (tape : TapeState) (m : ℕ) →
    Goes steps slots c a d → work ≡ unit_states first journal unit c.work → TapeIs first journal unit c.tape tape → MatchOption c.tape (Unit {0}) (λ t. t + 1 ≡ c.reverse) →
    shown m ≡ state_number first journal m → showing shown unit steps a work tape.states m ≡ state_number first journal m
shows_of_run first journal unit steps slots c a d shown work tape m g here taped next of_run =
    all_of_run first journal shown (handed_by unit steps a) (states_out a work tape.states) m (hands_of_run first journal unit steps slots c a d work tape g here taped next) of_run

-- ---- one action more

-- what is handed out by one action more
pub handed_more : (unit steps : ℕ) (list : List Action) (a : Action) → handed unit steps (list ++ a ∷ []) ≡ handed unit steps list ++ handed_by unit steps a
handed_more unit steps list a = flat_map-append (handed_by unit steps) list (a ∷ []) ∙ ap (λ l. handed unit steps list ++ l) (append-nil (handed_by unit steps a))

-- nothing was handed out at the start
pub above_at_start : (unit steps : ℕ) (slots : List Slots) → IsAbove unit steps [] (start steps slots)
above_at_start unit steps slots = record { above = tt; none = λ _. refl; most = omega arith }
