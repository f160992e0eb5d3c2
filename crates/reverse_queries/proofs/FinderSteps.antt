-- A finder at an action that hands out a unit of states, one state, or none.
use Rattle.std.proofs.Common.{◌≡◌, ℕ, ◌+◌, ◌*◌, ◌<◌, true, List, map, Some, None, sym, ◌∙◌, ap, subst, arith}
use Rattle.plan_types.specs.declared.action.Action.{Action}
use Rattle.level_book.specs.declared.book.Slots.{Slots}
use Rattle.level_book.specs.Configuration.{Configuration}
use Rattle.level_book.specs.Moves.{Goes}
use Rattle.rv_machine.specs.MachineState.{MachineState}
use Rattle.reverse_runner.specs.ActionEffects.{Holdings}
use Rattle.reverse_runner.specs.StateOrder.{numbers_from, handed_by}
use Rattle.reverse_runner.specs.VisitorCalls.{states_out, GetsAll}
use Rattle.reverse_queries.specs.declared.finder.Sought.{Sought}
use Rattle.reverse_queries.specs.declared.finder.Finder.{Finder}
use Rattle.reverse_queries.specs.Queries.{IsLast, hands_out}
use Rattle.reverse_queries.specs.HoldingsTrace.{HaveOut}
use Rattle.reverse_queries.specs.FinderModel.{DoesWhatIsAsked, Got}
use Rattle.reverse_queries.proofs.FinderProgress.{Asked, Unfound, finder_runs}
use Rattle.reverse_queries.proofs.ReversalOrder.{Turns, left, hands_of}

-- a finder without an answer after the action keeps what it is asked; an answer is the last place
pub record RanAt (question : Sought) (word unit steps : ℕ) (journal : List (List ℕ)) (c : Configuration) (a : Action) (d : Configuration) (held : Holdings) (f g : Finder) : Type 0 where
  pub unanswered :
      g.answer ≡ None →
      Asked question word (unit * steps) g
      × ((states : ℕ → MachineState) → HaveOut unit steps a held states → Unfound question states journal word (unit * steps) (left unit steps c) f → Unfound question states journal word (unit * steps) (left unit steps d) g)
  pub answered :
      (k : ℕ) → g.answer ≡ Some k →
      (hands_out unit steps k a ≡ true) × (k < left unit steps c)
      × ((states : ℕ → MachineState) → HaveOut unit steps a held states → Unfound question states journal word (unit * steps) (left unit steps c) f → IsLast (DoesWhatIsAsked question journal word states) (unit * steps) (Some k))

pub ran_at : (question : Sought) (word unit steps : ℕ) (slots : List Slots) (journal : List (List ℕ)) (c : Configuration) (a : Action) (d : Configuration) (held : Holdings) (f g : Finder) → Goes steps slots c a d → Turns steps c →
    Asked question word (unit * steps) f → GetsAll Got journal (handed_by unit steps a) (states_out a held.work held.tape.states) f g → RanAt question word unit steps journal c a d held f g
ran_at question word unit steps slots journal c a d held f g goes turns asked gets =
    let h = hands_of unit steps slots c a d goes turns in
    let from : ℕ = left unit steps d in
    let out : List MachineState = states_out a held.work held.tape.states in
    let G : List ℕ → Type 0 = λ l. GetsAll Got journal l out f g in
    let ran = finder_runs question word (unit * steps) from h.count journal out f g asked (subst G h.numbers gets) in
    let have : (states : ℕ → MachineState) → HaveOut unit steps a held states → map states (numbers_from from h.count) ≡ out = λ states e. ap (map states) (sym h.numbers) ∙ e in
    let before : (states : ℕ → MachineState) → Unfound question states journal word (unit * steps) (left unit steps c) f → Unfound question states journal word (unit * steps) (from + h.count) f =
    λ states u. let U : ℕ → Type 0 = λ m. Unfound question states journal word (unit * steps) m f in subst U h.more u in
    record {
      unanswered = λ still. (let r = ran.unanswered still in (r.0, λ states e u. r.1 states (have states e) (before states u)));
      answered = λ k answer.
          (let r = ran.answered k answer in
          let low = r.0 in
          let high = r.1 in
          let more = h.more in
          (h.hands k low (omega (arith, high, more)), omega (arith, high, more), λ states e u. r.2 states (have states e) (before states u)));
    }
