-- How a configuration turns: nothing is reversed before EndForward, and all at the end; and which states are handed out.
use Rattle.std.proofs.Common.{◌≡◌, ℕ, suc, ◌+◌, ◌*◌, ◌<◌, ◌≤◌, inl, inr, true, false, cond, Bool, List, [], ◌∷◌, map, Option, Some, None, IsSome, MatchOption, refl, sym, ◌∙◌, ap, subst, arith, true≢false, eq-eqb, eqb-true, add-zero}
use Rattle.std.proofs.Common.{◌&&◌}
use Rattle.std.proofs.Math.Nat.{mul-zero}
use Rattle.std.proofs.lemmas.Bool.{cases_Bool, le-leb, leb-true}
use Rattle.plan_types.specs.declared.action.Keep.TheVariants.{Nothing, Store, Tape}
use Rattle.plan_types.specs.declared.action.Dest.TheVariants.{Work, Level}
use Rattle.plan_types.specs.declared.action.Action.{Action}
use Rattle.plan_types.specs.declared.action.Action.TheVariants.{Forward, Reverse, Copy, Move, EndForward, EndReverse}
use Rattle.level_book.specs.declared.book.Slots.{Slots}
use Rattle.level_book.specs.Configuration.{Configuration, start}
use Rattle.level_book.specs.Moves.{Goes}
use Rattle.schedule_rules.specs.Reachability.{IsSound}
use Rattle.rv_machine.specs.MachineState.{MachineState}
use Rattle.rv_machine.specs.States.{state_number}
use Rattle.reverse_runner.specs.ActionEffects.{TapeState, Holdings}
use Rattle.reverse_runner.specs.StateOrder.{numbers_from, handed_by}
use Rattle.reverse_runner.specs.HoldingsOfRun.{IsUnit, HoldingsStandAt}
use Rattle.reverse_runner.specs.Units.{unit_states}
use Rattle.reverse_runner.proofs.SessionTape.{unit_has}
use Rattle.reverse_queries.specs.Queries.{hands_out}
use Rattle.reverse_queries.specs.HoldingsTrace.{HaveOut}

pub record Turns (steps : ℕ) (c : Configuration) : Type 0 where
  pub whole : c.forward_ended ≡ false → c.reverse ≡ steps
  pub over : c.ended ≡ true → (c.forward_ended ≡ true) × (c.reverse ≡ 0)

pub turns_start : (steps : ℕ) (slots : List Slots) (c : Configuration) → c ≡ start steps slots → Turns steps c
turns_start steps slots c is = let P : Configuration → Type 0 = λ x. Turns steps x in subst P (sym is) (record { whole = λ _. refl; over = λ h. absurd (true≢false (sym h)) })

-- an action that ends and reverses nothing
on : (steps : ℕ) (c m e : Configuration) → m ≡ e → e.forward_ended ≡ c.forward_ended → e.reverse ≡ c.reverse → e.ended ≡ false → Turns steps c → Turns steps m
on steps c m e is ended reverse open_ t =
    let P : Configuration → Type 0 = λ x. Turns steps x in
    subst P (sym is) (record { whole = λ h. reverse ∙ t.whole (sym ended ∙ h); over = λ h. absurd (true≢false (sym h ∙ open_)) })

pub turns_on : (steps : ℕ) (slots : List Slots) (c : Configuration) (a : Action) (d : Configuration) → Goes steps slots c a d → Turns steps c → Turns steps d
turns_on steps slots c (Forward from to Nothing) d g t = on steps c d _ g.2 refl refl g.0 t
turns_on steps slots c (Forward from to (Store k)) d g t = on steps c d _ g.3 refl refl g.0 t
turns_on steps slots c (Forward from to Tape) d g t = on steps c d _ g.5 refl refl g.0 t
turns_on steps slots c (Copy n k Work) d g t = on steps c d _ g.2 refl refl g.0 t
turns_on steps slots c (Copy n k (Level j)) d g t = on steps c d _ g.4 refl refl g.0 t
turns_on steps slots c (Move n k Work) d g t = on steps c d _ g.2 refl refl g.0 t
turns_on steps slots c (Move n k (Level j)) d g t = on steps c d _ g.4 refl refl g.0 t
turns_on steps slots c (Reverse from to) d g t =
    let P : Configuration → Type 0 = λ x. Turns steps x in
    subst P (sym g.5) (record { whole = λ h. absurd (true≢false (sym g.1 ∙ h)); over = λ h. absurd (true≢false (sym h ∙ g.0)) })
turns_on steps slots c EndForward d g t =
    let P : Configuration → Type 0 = λ x. Turns steps x in
    subst P (sym g.3) (record { whole = λ h. absurd (true≢false h); over = λ h. absurd (true≢false (sym h ∙ g.0)) })
turns_on steps slots c EndReverse d g t =
    let P : Configuration → Type 0 = λ x. Turns steps x in
    subst P (sym g.3) (record { whole = λ h. absurd (true≢false (sym g.1 ∙ h)); over = λ h. (g.1, g.2) })

-- how many states are still to be handed out at a configuration: those with the numbers below
abbrev pub left : ℕ → ℕ → Configuration → ℕ
left unit steps c = cond c.forward_ended (unit * c.reverse) (unit * steps + 1)

pub left_at_start : (unit steps : ℕ) (slots : List Slots) (c : Configuration) → c ≡ start steps slots → left unit steps c ≡ unit * steps + 1
left_at_start unit steps slots c is = ap (left unit steps) is

-- at the end nothing is left
pub left_at_end : (unit steps : ℕ) (c : Configuration) → Turns steps c → c.ended ≡ true → left unit steps c ≡ 0
left_at_end unit steps c t ended =
    let over = t.over ended in
    (λ i. cond (over.0 i) (unit * c.reverse) (unit * steps + 1)) ∙ ap (λ n. unit * n) over.1 ∙ mul-zero unit

-- An action hands out the states with so many numbers, from those that are left after it to those that were left before.
pub record Hands (unit steps : ℕ) (c : Configuration) (a : Action) (d : Configuration) : Type 0 where
  pub count : ℕ
  pub numbers : handed_by unit steps a ≡ numbers_from (left unit steps d) count
  pub more : left unit steps c ≡ left unit steps d + count
  pub hands : (n : ℕ) → left unit steps d ≤ n → n < left unit steps c → hands_out unit steps n a ≡ true
  pub only : (n : ℕ) → hands_out unit steps n a ≡ true → (left unit steps d ≤ n) × (n < left unit steps c)

-- a test of both ends
within : (p q : Bool) → p ≡ true → q ≡ true → (p && q) ≡ true
within p q e f = (λ i. e i && f i)

both : (p q : Bool) → (p && q) ≡ true → (p ≡ true) × (q ≡ true)
both true q h = (refl, h)
both false q h = absurd (true≢false (sym h))

-- an action that ends and reverses nothing hands nothing out
silent : (unit steps : ℕ) (c : Configuration) (a : Action) (d e : Configuration) → d ≡ e → e.forward_ended ≡ c.forward_ended → e.reverse ≡ c.reverse → handed_by unit steps a ≡ [] → ((n : ℕ) → hands_out unit steps n a ≡ false) →
    Hands unit steps c a d
silent unit steps c a d e is ended reverse none never =
    let same : left unit steps d ≡ left unit steps c = ap (left unit steps) is ∙ (λ i. cond (ended i) (unit * reverse i) (unit * steps + 1)) in
    record {
      count = 0;
      numbers = none;
      more = sym same ∙ sym (add-zero _);
      hands = λ n low high. absurd (omega (arith, low, high, same));
      only = λ n h. absurd (true≢false (sym h ∙ never n));
    }

pub hands_of : (unit steps : ℕ) (slots : List Slots) (c : Configuration) (a : Action) (d : Configuration) → Goes steps slots c a d → Turns steps c → Hands unit steps c a d
hands_of unit steps slots c (Forward from to Nothing) d g t = silent unit steps c _ d _ g.2 refl refl refl (λ n. refl)
hands_of unit steps slots c (Forward from to (Store k)) d g t = silent unit steps c _ d _ g.3 refl refl refl (λ n. refl)
hands_of unit steps slots c (Forward from to Tape) d g t = silent unit steps c _ d _ g.5 refl refl refl (λ n. refl)
hands_of unit steps slots c (Copy n k Work) d g t = silent unit steps c _ d _ g.2 refl refl refl (λ n. refl)
hands_of unit steps slots c (Copy n k (Level j)) d g t = silent unit steps c _ d _ g.4 refl refl refl (λ n. refl)
hands_of unit steps slots c (Move n k Work) d g t = silent unit steps c _ d _ g.2 refl refl refl (λ n. refl)
hands_of unit steps slots c (Move n k (Level j)) d g t = silent unit steps c _ d _ g.4 refl refl refl (λ n. refl)
hands_of unit steps slots c EndReverse d g t = silent unit steps c _ d _ g.3 refl refl refl (λ n. refl)
hands_of unit steps slots c (Reverse from to) d g t =
    let before : left unit steps c ≡ unit * (to + 1) = (λ i. cond (g.1 i) (unit * c.reverse) (unit * steps + 1)) ∙ ap (λ n. unit * n) (sym g.3 ∙ sym g.4) in
    let after : left unit steps d ≡ unit * to = ap (left unit steps) g.5 ∙ (λ i. cond (g.1 i) (unit * to) (unit * steps + 1)) in
    let one : unit * (to + 1) ≡ unit * to + unit = omega arith in
    let more : left unit steps c ≡ unit * to + unit = before ∙ one in
    record {
      count = unit;
      numbers = ap (λ n. numbers_from n unit) (sym after);
      more = more ∙ ap (λ n. n + unit) (sym after);
      hands = λ n low high. within _ _ (le-leb (unit * to) n (omega (arith, low, after))) (le-leb (suc n) (unit * to + unit) (omega (arith, high, more)));
      only = λ n h.
          (let ends = both _ _ h in
          let low = leb-true (unit * to) n ends.0 in
          let high = leb-true (suc n) (unit * to + unit) ends.1 in
          (omega (arith, low, after), omega (arith, high, more)));
    }
hands_of unit steps slots c EndForward d g t =
    let before : left unit steps c ≡ unit * steps + 1 = (λ i. cond (g.1 i) (unit * c.reverse) (unit * steps + 1)) in
    let after : left unit steps d ≡ unit * steps = ap (left unit steps) g.3 ∙ ap (λ n. unit * n) (t.whole g.1) in
    record {
      count = 1;
      numbers = ap (λ n. n ∷ []) (sym after ∙ sym (add-zero _));
      more = before ∙ ap (λ n. n + 1) (sym after);
      hands = λ n low high. eq-eqb (unit * steps) n (omega (arith, low, high, before, after));
      only = λ n h. (let same = eqb-true (unit * steps) n h in (omega (arith, same, after), omega (arith, same, before)));
    }

-- what is left after an action was left before it, and the action doesn't hand it out
pub left_before : (unit steps : ℕ) (c : Configuration) (a : Action) (d : Configuration) (n : ℕ) → Hands unit steps c a d → n < left unit steps d → (n < left unit steps c) × (hands_out unit steps n a ≡ false)
left_before unit steps c a d n h lt = (
  (let more = h.more in omega (arith, more, lt)),
  elim (cases_Bool (hands_out unit steps n a)) [
    | inl e ↦ (let low = (h.only n e).0 in absurd (omega (arith, low, lt)))
    | inr e ↦ e
  ],
)

-- what is on the tape is the unit that is reversed next
pub on_tape : (first : MachineState) (journal : List (List ℕ)) (unit : ℕ) (tape : Option ℕ) (t : TapeState) (reverse from to : ℕ) → IsSome tape → MatchOption tape (Unit {0}) (λ n. n + 1 ≡ reverse) →
    MatchOption tape (Unit {0}) (λ n. IsUnit first journal unit n t) → from ≡ reverse → to + 1 ≡ from → t.states ≡ map (state_number first journal) (numbers_from (unit * to) unit)
on_tape first journal unit None t reverse from to some next is here one = absurd (true≢false (sym some))
on_tape first journal unit (Some n) t reverse from to some next is here one =
    let same : n ≡ to = omega (arith, next, here, one) in
    is.states ∙ unit_has first journal (unit * n) unit ∙ ap (λ m. map (state_number first journal) (numbers_from (unit * m) unit)) same

-- where what is held is of a run, the states of the run have those that are handed out
pub out_of_run : (first : MachineState) (unit steps : ℕ) (slots : List Slots) (journal : List (List ℕ)) (c : Configuration) (a : Action) (d : Configuration) (held : Holdings) → Goes steps slots c a d → IsSound steps slots c →
    HoldingsStandAt first journal unit c held → HaveOut unit steps a held (state_number first journal)
out_of_run first unit steps slots journal c (Forward from to keep) d held g sound stands = refl
out_of_run first unit steps slots journal c (Copy m k dest) d held g sound stands = refl
out_of_run first unit steps slots journal c (Move m k dest) d held g sound stands = refl
out_of_run first unit steps slots journal c EndReverse d held g sound stands = refl
out_of_run first unit steps slots journal c EndForward d held g sound stands = ap (λ s. s ∷ []) (sym (stands.work ∙ ap (unit_states first journal unit) g.2))
out_of_run first unit steps slots journal c (Reverse from to) d held g sound stands =
    sym (on_tape first journal unit c.tape held.tape c.reverse from to g.2 sound.tape_is_next stands.tape g.3 g.4)
