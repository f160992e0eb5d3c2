use Rattle.std.proofs.Common.{◌≡◌, ℕ, ◌+◌, List, Option, MatchOption, sym, subst}
use Rattle.sha2.specs.Sha256.{sha256}
use Rattle.level_book.specs.CostFold.{forward}
use Rattle.rv_machine.specs.States.{state_number}
use Rattle.reversal.specs.DemoStates.{BreaksWithin}
use Rattle.reversal.specs.Output.{lines_down}
use Rattle.reversal.proofs.DemoProgress.{next_allowed, one_more_done, broken, all_done, where_ok, where_err}
use Rattle.reversal.proofs.demo.Demonstrated.digest.Goals as goal

pub perform-requires-clause-allowed : goal.perform-requires-clause-allowed
perform-requires-clause-allowed g c lasts =
    next_allowed c.args.self.now c.loop-action.self c.loop-action.hasher c.args.counter.now c.loop-action.counter c.in-Some.action _ c.requires c.loop-action.invariant c.in-Some.ensures

pub loop-action-preserved : goal.loop-action-preserved
loop-action-preserved g c =
    let ok = c.in_ok-ok.ensures.value in
    let r = c.perform.result in
    one_more_done c.args.self.now c.loop-action.self _ c.loop-action.hasher c.perform.new.visitor c.args.counter.now c.loop-action.counter c.perform.new.steps c.in-Some.action c.loop-action.invariant c.in-Some.ensures
    (where_ok r _ ok c.perform.ensures.session.performs) c.perform.ensures.kept.slots
    ((where_ok r _ ok c.perform.ensures.stays).stands c.args.self.now.session.work c.requires.state c.loop-action.invariant.stands)
    (where_ok r _ ok c.perform.ensures.hands.gets) (where_ok r _ ok (c.perform.ensures.does c.loop-action.invariant.lasts).acted).counted

pub returns-in_err-ok : goal.returns-in_err-ok
returns-in_err-ok g c =
    let d = c.args.self.now in
    let P : Option (List ℕ) → Type 0 = λ o. MatchOption o (BreaksWithin d.actions c.args.counter.now c.perform.new.steps) (λ digest.
    (digest ≡ sha256 (lines_down (state_number d.session.work d.session.journal) d.session.situation.steps)) × (c.perform.new.steps ≡ c.args.counter.now + forward d.actions)) in
    subst P (sym c.from_residual.ensures)
    (broken d c.loop-action.self c.loop-action.hasher c.args.counter.now c.loop-action.counter c.perform.new.steps c.in-Some.action _ c.loop-action.invariant c.in-Some.ensures
    (where_err c.perform.result c.in_err-ok.ensures.value (c.perform.ensures.does c.loop-action.invariant.lasts).leaves).uncounted)

pub returns : goal.returns
returns g c =
    let end = all_done c.args.self.now c.loop-action.self c.loop-action.hasher c.args.counter.now c.loop-action.counter c.requires c.loop-action.invariant c.in_default.ensures.0 in
    (c.finalize.ensures _ end.0, end.1)
