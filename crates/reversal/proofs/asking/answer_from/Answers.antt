use Rattle.std.proofs.Common.{◌≡◌, ◌*◌, arith, refl, sym, subst}
use Rattle.reverse_queries.specs.Queries.{WritesIn, ChangesIn}
use Rattle.requests.specs.declared.question.Question.{Question}
use Rattle.requests.specs.declared.question.Question.TheVariants.{State, LastWrite, LastChange}
use Rattle.requests.specs.Operands.{question_bound}
use Rattle.requests.specs.Bounds.{IsWithin}
use Rattle.reversal.specs.Job.{ask}
use Rattle.reversal.specs.JobModel.{DoesBegun, run_from}
use Rattle.reversal.proofs.LastAnswers.{awaits, can_be_told, is_told}
use Rattle.reversal.proofs.asking.answer_from.Goals as goal

pub show_state-requires-clause-begun : goal.show_state-requires-clause-begun
show_state-requires-clause-begun g c = c.requires.begun

pub show_state-requires-clause-place : goal.show_state-requires-clause-place
show_state-requires-clause-place g c =
    let P : Question → Type 0 = λ q. IsWithin (question_bound (c.args.session.now.unit * c.args.session.now.situation.steps) q) in
    (subst P c.in-State.is c.requires.within).1

pub overflow_cast-place : goal.overflow_cast-place
overflow_cast-place g c =
    let P : Question → Type 0 = λ q. IsWithin (question_bound (c.args.session.now.unit * c.args.session.now.situation.steps) q) in
    omega (arith, (subst P c.in-State.is c.requires.within).1, c.requires.small)

pub returns-in-State : goal.returns-in-State
returns-in-State g c =
    let Q : Question → Type 0 = λ q. DoesBegun g.O.Sink g.K.Storage (ask q (run_from c.args.session.now c.args.list.now)) c.show_state.result c.args.out.now c.show_state.new.out
    c.args.keepers.now.items c.show_state.new.keepers.items c.args.counter.now c.show_state.new.counter in
    subst Q (sym c.in-State.is) c.show_state.ensures

pub last_write-found-requires-clause-awaits : goal.last_write-found-requires-clause-awaits
last_write-found-requires-clause-awaits g c = awaits _ _ _ c.requires.begun

pub tell-requires : goal.tell-requires
tell-requires g c =
    can_be_told g.O.Sink g.K.Storage (λ states. WritesIn states c.args.session.now.journal c.in-LastWrite.address) c.args.session.now c.last_write-found.new.session c.args.list.now
    c.args.keepers.now.items c.last_write-found.new.keepers.items c.args.counter.now c.last_write-found.new.steps
    c.requires.begun c.last_write-found.result c.last_write-found.ensures

pub returns-in-LastWrite : goal.returns-in-LastWrite
returns-in-LastWrite g c =
    let Q : Question → Type 0 = λ q. DoesBegun g.O.Sink g.K.Storage (ask q (run_from c.args.session.now c.args.list.now)) c.tell.result c.args.out.now c.tell.new.out
    c.args.keepers.now.items c.last_write-found.new.keepers.items c.args.counter.now c.last_write-found.new.steps in
    subst Q (sym c.in-LastWrite.is)
    (is_told g.O.Sink g.K.Storage (λ states. WritesIn states c.args.session.now.journal c.in-LastWrite.address) c.args.session.now c.last_write-found.new.session c.args.list.now
    c.args.keepers.now.items c.last_write-found.new.keepers.items c.args.counter.now c.last_write-found.new.steps
    c.requires.begun (LastWrite c.in-LastWrite.address) c.last_write-found.result c.tell.result
    c.args.out.now c.tell.new.out refl c.last_write-found.ensures c.tell.ensures.answered c.tell.ensures.refused)

pub last_change-found-requires-clause-awaits : goal.last_change-found-requires-clause-awaits
last_change-found-requires-clause-awaits g c = awaits _ _ _ c.requires.begun

pub tell-requires-in-LastChange : goal.tell-requires-in-LastChange
tell-requires-in-LastChange g c =
    can_be_told g.O.Sink g.K.Storage (λ states. ChangesIn states c.in-LastChange.address) c.args.session.now c.last_change-found.new.session c.args.list.now
    c.args.keepers.now.items c.last_change-found.new.keepers.items c.args.counter.now c.last_change-found.new.steps
    c.requires.begun c.last_change-found.result c.last_change-found.ensures

pub returns-in-LastChange : goal.returns-in-LastChange
returns-in-LastChange g c =
    let Q : Question → Type 0 = λ q. DoesBegun g.O.Sink g.K.Storage (ask q (run_from c.args.session.now c.args.list.now)) c.tell-in-LastChange.result c.args.out.now c.tell-in-LastChange.new.out
    c.args.keepers.now.items c.last_change-found.new.keepers.items c.args.counter.now c.last_change-found.new.steps in
    subst Q (sym c.in-LastChange.is)
    (is_told g.O.Sink g.K.Storage (λ states. ChangesIn states c.in-LastChange.address) c.args.session.now c.last_change-found.new.session c.args.list.now
    c.args.keepers.now.items c.last_change-found.new.keepers.items c.args.counter.now c.last_change-found.new.steps
    c.requires.begun (LastChange c.in-LastChange.address) c.last_change-found.result c.tell-in-LastChange.result
    c.args.out.now c.tell-in-LastChange.new.out refl c.last_change-found.ensures c.tell-in-LastChange.ensures.answered c.tell-in-LastChange.ensures.refused)
