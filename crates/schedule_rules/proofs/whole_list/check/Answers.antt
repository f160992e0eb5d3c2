use Rattle.std.proofs.Common.{sym, ◌∙◌, subst, List}
use Rattle.std.proofs.lemmas.List.{take_all}
use Rattle.std.proofs.lemmas.Option.{slice_get-get_or}
use Rattle.plan_types.specs.declared.action.Action.{Action}
use Rattle.level_book.specs.BookCosts.{slots_of}
use Rattle.level_book.specs.Configuration.{start}
use Rattle.level_book.specs.Valid.{Leads}
use Rattle.schedule_rules.proofs.VerdictReasons.{broken_so, goes_on, unfinished_here}
use Rattle.schedule_rules.proofs.whole_list.check.Goals as goal

pub returns-in-Err : goal.returns-in-Err
returns-in-Err c =
    let so_far = c.loop-i.invariant in
    let within = c.loop-i-test.true in
    broken_so c.args.steps (slots_of c.args.book.now) c.args.list.now c.loop-i.i c.loop-i.config _ c.in-Err.broken c.broken_at.result
    so_far.steps so_far.slots within (slice_get-get_or c.args.list.now c.loop-i.i _ within) so_far.leads c.in-Err.ensures.0 c.in-Err.ensures.1 c.broken_at.ensures

pub loop-i-preserved : goal.loop-i-preserved
loop-i-preserved c =
    let so_far = c.loop-i.invariant in
    record {
      steps = c.take.ensures.steps ∙ so_far.steps;
      slots = c.take.ensures.slots ∙ so_far.slots;
      leads = goes_on c.args.steps (slots_of c.args.book.now) c.args.list.now c.loop-i.i c.loop-i.config _ _
          so_far.steps so_far.slots (slice_get-get_or c.args.list.now c.loop-i.i _ c.loop-i-test.true) so_far.leads c.take.ensures.goes;
    }

pub returns : goal.returns
returns c =
    let P : List Action → Type 0 = λ xs. Leads c.args.steps (slots_of c.args.book.now) (start c.args.steps (slots_of c.args.book.now)) xs c.loop-i.config.at in
    unfinished_here c.args.steps (slots_of c.args.book.now) c.args.list.now c.loop-i.config.at
    (subst P (take_all c.loop-i.i c.args.list.now c.loop-i-test.false) c.loop-i.invariant.leads) (sym c.if-ended.ensures)
