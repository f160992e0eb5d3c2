use Rattle.std.proofs.Common.{◌≡◌, ℕ, ◌*◌, ◌≤◌, List, length, Option, sym, subst}
use Rattle.std.specs.Global.{Vec}
use Rattle.keepers.specs.Claims.{Images}
use Rattle.keepers.specs.declared.sink.Sink as sink
use Rattle.keepers.specs.declared.storage.Storage as storage
use Rattle.plan_types.specs.declared.action.Action.{Action}
use Rattle.plan_types.specs.declared.limits.TheConstants.{MOST_STEPS}
use Rattle.level_book.specs.BookCosts.{slots_of}
use Rattle.reverse_runner.specs.SessionState.{SessionState}
use Rattle.reverse_runner.specs.KeepersSeen.{HaveRoom}
use Rattle.reverse_runner.specs.SessionOfRun.{begun, StandsAt}
use Rattle.rv_machine.specs.MachineState.{IsMachineState}
use Rattle.endings.specs.declared.outcome.Outcome.{Outcome}
use Rattle.requests.specs.declared.question.Question.{Question}
use Rattle.requests.specs.Operands.{question_bound}
use Rattle.requests.specs.Bounds.{IsWithin}
use Rattle.reversal.specs.declared.asking.Over.{Over}
use Rattle.reversal.specs.Job.{ask}
use Rattle.reversal.specs.Moment.{AllTell}
use Rattle.reversal.specs.JobModel.{Does, DoesBegun, IsBegun, IsOver, run_from, run_over}
use Rattle.reversal.specs.InputMeaning.{in_units}
use Rattle.reversal.proofs.JobResults.{is_begun, does_begun}
use Rattle.reversal.proofs.asking.Asking.answer.Goals as goal

-- a session that had just begun is at the start of the run
starts : (o : Over) (s : SessionState) (list : List Action) (counts : List ℕ) → IsOver o → HaveRoom o.steps (slots_of o.book) counts → IsMachineState o.start →
    s ≡ begun o.start o.journal o.unit o.steps (slots_of o.book) → ((told : ℕ → Option Images) → AllTell (length (slots_of o.book)) told → StandsAt o.start s told) →
    list ≡ o.list.items → IsBegun s list counts
starts o s list counts over room state is stands same =
    let L : List Action → Type 0 = λ l. IsBegun s l counts in
    subst L (sym same) (is_begun s o.start o.journal o.unit o.steps (slots_of o.book) o.list.items counts is stands state over.valid over.few room)

-- an answer by a session that had just begun
answers : {X K : Type 0} (writing : sink.Ghosts X) (seen : storage.Ghosts K) (o : Over) (q : Question) (s : SessionState) (list : List Action) (e : Outcome)
    (out out' : X) (ks ls : Vec K) (steps steps' : ℕ) → s ≡ begun o.start o.journal o.unit o.steps (slots_of o.book) → list ≡ o.list.items →
    DoesBegun writing seen (ask q (run_from s list)) e out out' ks.items ls.items steps steps' →
    Does writing seen (ask q (run_over o)) e out out' ks ls steps steps'
answers writing seen o q s list e out out' ks ls steps steps' starts same does =
    let S : SessionState → Type 0 = λ s. DoesBegun writing seen (ask q (run_from s list)) e out out' ks.items ls.items steps steps' in
    let L : List Action → Type 0 = λ l. DoesBegun writing seen (ask q (in_units o.unit o.start o.journal o.steps (slots_of o.book) l)) e out out' ks.items ls.items steps steps' in
    does_begun writing seen _ _ _ _ _ _ _ _ (subst L same (subst S starts does))

-- it has the steps of the run, which are few
within : (o : Over) (s : SessionState) (q : Question) → s ≡ begun o.start o.journal o.unit o.steps (slots_of o.book) → IsWithin (question_bound (o.unit * o.steps) q) →
    IsWithin (question_bound (s.unit * s.situation.steps) q)
within o s q is h = let S : SessionState → Type 0 = λ s. IsWithin (question_bound (s.unit * s.situation.steps) q) in subst S (sym is) h

small : (o : Over) (s : SessionState) → s ≡ begun o.start o.journal o.unit o.steps (slots_of o.book) → o.unit * o.steps ≤ MOST_STEPS → s.unit * s.situation.steps ≤ MOST_STEPS
small o s is h = let S : SessionState → Type 0 = λ s. s.unit * s.situation.steps ≤ MOST_STEPS in subst S (sym is) h

pub answer_from-requires-clause-begun : goal.answer_from-requires-clause-begun
answer_from-requires-clause-begun g c = starts c.args.self.over c.in-Ok.session c.deref.result.now _ c.requires.can_be_asked.over c.requires.room c.is_machine_state.ensures c.in-Ok.ensures.begun c.in-Ok.ensures.stands c.deref.ensures.value

pub answer_from-requires-clause-within : goal.answer_from-requires-clause-within
answer_from-requires-clause-within g c = within c.args.self.over c.in-Ok.session c.args.self.question c.in-Ok.ensures.begun c.requires.can_be_asked.within

pub answer_from-requires-clause-small : goal.answer_from-requires-clause-small
answer_from-requires-clause-small g c = small c.args.self.over c.in-Ok.session c.in-Ok.ensures.begun c.requires.can_be_asked.over.instructions

pub returns : goal.returns
returns g c =
    answers g.O.Sink g.K.Storage c.args.self.over c.args.self.question c.in-Ok.session c.deref.result.now c.answer_from.result
    c.args.out.now c.answer_from.new.out c.args.keepers.now c.answer_from.new.keepers c.args.counter.now c.answer_from.new.counter
    c.in-Ok.ensures.begun c.deref.ensures.value c.answer_from.ensures
