use Rattle.std.proofs.Common.{◌≡◌, ◌++◌, ◌≤◌, List, sym, ◌∙◌, subst, arith}
use Rattle.std.specs.List.{AllByRecursion}
use Rattle.plan_types.specs.declared.action.Action.{Action}
use Rattle.level_book.specs.BookCosts.{slots_of, names_of, room}
use Rattle.action_text.specs.Canonical.{HasSpelling}
use Rattle.cost_tables.specs.TableRows.{FastestTablesFit}
use Rattle.disk_gen.specs.DiskShapes.{AreDiskShaped}
use Rattle.cert_text.specs.declared.certificate.Certificate.TheVariants.{Disk}
use Rattle.cert_text.specs.Canonical as certificate_text
use Rattle.cert_text.specs.Meaning.{HasText}
use Rattle.reversal.specs.Job.{Job, write}
use Rattle.reversal.specs.Plans.{list_pieces}
use Rattle.reversal.specs.Table.{accept}
use Rattle.reversal.specs.CommandPlan.{DecidesPlanDisk}
use Rattle.reversal.proofs.ActionSpelling.{valid_spelled}
use Rattle.reversal.proofs.RevolvePlan.{as_many}
use Rattle.reversal.proofs.DecisionLaws.{disk_accepted}
use Rattle.reversal.proofs.disk.decide_disk.Goals as goal

pub plan_job-requires : goal.plan_job-requires
plan_job-requires g c =
    let b = c.in_ok-book.book in
    let S : List Action → Type 0 = λ l. AllByRecursion (HasSpelling (names_of b)) l in
    subst S (sym c.new.ensures) (valid_spelled c.args.steps (slots_of b) (names_of b) c.in_ok-list.list.items (omega (arith, c.requires.steps)) (as_many b) c.in_ok-list.ensures.disk.nested.0)

pub returns : goal.returns
returns g c counts =
    let b = c.in_ok-book.book in
    let t = c.in_ok-tables.tables in
    let narrow : room b 0 c.args.steps ≤ 64 = omega (arith, c.if-room-gt-MOST_IMAGES.false, c.room-room.ensures) in
    let fits : FastestTablesFit c.args.steps b = record { few = c.requires.steps; narrow = narrow } in
    let D : Job → Type 0 = λ j. DecidesPlanDisk c.args.steps c.args.book.now (accept j) in
    let is : c.certify_disk-certificate.result ≡ Disk t = c.certify_disk-certificate.ensures.value in
    let plan = c.in_ok-tables.ensures.tables.sizes.plan in
    let has : HasText c.args.steps b (Disk t) =
    subst (HasText c.args.steps b) is (c.certify_disk-certificate.ensures.text c.args.steps b c.is_within_limits.ensures fits c.in_ok-tables.ensures.tables.sizes c.in_ok-tables.ensures.tables.greatest) in
    let steps_are = has.fast.sized.steps_are in
    let shaped : AreDiskShaped t = record { fast = has.fast.shaped; fresh_long = has.fresh_long ∙ sym steps_are; held_long = has.held_long ∙ sym steps_are } in
    record {
      accepted = subst D (sym (c.in_ok-job.ensures.job ∙ (λ i. write (list_pieces (names_of b) (c.new.ensures i) ++ certificate_text.pieces (is i)))))
          (disk_accepted c.args.steps c.args.book.now b t c.in_ok-list.list.items c.in_ok-book.ensures.found narrow plan.two plan.unlimited (has.fast.sized, shaped) c.in_ok-tables.ensures.tables.greatest c.in_ok-list.ensures.list);
      can_be_done = c.in_ok-job.ensures.can_be_done;
      room = c.in_ok-job.ensures.room counts;
      refused = tt;
    }
