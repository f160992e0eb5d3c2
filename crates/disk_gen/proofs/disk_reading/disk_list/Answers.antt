use Rattle.std.proofs.Common.{◌≡◌, ℕ, sym, ap, ◌∙◌, subst, Vec}
use Rattle.std.specs.declared.alloc.Global.{Global}
use Rattle.plan_types.specs.declared.action.Action.{Action}
use Rattle.level_book.specs.BookCosts.{slots_of}
use Rattle.level_book.specs.CostFold.{cost}
use Rattle.level_book.specs.DiskClass.{Disk}
use Rattle.level_book.specs.DiskUnderTable.{disk_top_entry}
use Rattle.level_book.specs.UnderTable.{number}
use Rattle.disk_gen.specs.DiskRows.{disk_tables_in}
use Rattle.disk_gen.specs.DiskRevolveList.{IsDiskWritten}
use Rattle.disk_gen.proofs.DiskExactness.{fast_exact, disk_exact}
use Rattle.disk_gen.proofs.DiskReads.{can_read_disk, if_all}
use Rattle.disk_gen.proofs.DiskCosts.{top_some, written_disk_costs}
use Rattle.disk_gen.proofs.DiskMembership.{written_in_class}
use Rattle.disk_gen.proofs.disk_reading.disk_list.Goals as goal

pub whole_list-requires : goal.whole_list-requires
whole_list-requires c =
    let book = c.args.book.now in let t = disk_tables_in c.args.tables.now in
    let plan = c.requires.sizes.plan in let few = c.requires.fits.few in let limits = c.is_within_limits.ensures in
    record { ready = can_read_disk c.args.steps book c.args.tables.now c.requires.sizes (fast_exact c.args.steps book t plan c.requires.greatest few limits) (disk_exact c.args.steps book t plan c.requires.greatest few limits) few }

pub returns-clause-list : goal.returns-clause-list
returns-clause-list c =
    let book = c.args.book.now in let t = disk_tables_in c.args.tables.now in
    let W : Vec Action Global → Type 0 = λ list. IsDiskWritten c.args.tables.now.fast.steps book t list.items in
    let Q : Vec Action Global → Type 0 = λ list. IsDiskWritten c.args.steps book t list.items in
    if_all c.whole_list.result W Q c.whole_list.ensures (λ list is. let P : ℕ → Type 0 = λ n. IsDiskWritten n book t list.items in subst P c.requires.sizes.sized.steps_are is)

pub returns-clause-disk : goal.returns-clause-disk
returns-clause-disk c =
    let book = c.args.book.now in let t = disk_tables_in c.args.tables.now in
    let W : Vec Action Global → Type 0 = λ list. IsDiskWritten c.args.tables.now.fast.steps book t list.items in
    let Q : Vec Action Global → Type 0 = λ list. Disk c.args.steps (slots_of book) list.items in
    if_all c.whole_list.result W Q c.whole_list.ensures
    (λ list is. let P : ℕ → Type 0 = λ n. IsDiskWritten n book t list.items in written_in_class c.args.steps book t list.items c.requires.sizes.plan (subst P c.requires.sizes.sized.steps_are is))

pub returns-clause-cost : goal.returns-clause-cost
returns-clause-cost c =
    let book = c.args.book.now in let t = disk_tables_in c.args.tables.now in
    let plan = c.requires.sizes.plan in let few = c.requires.fits.few in let limits = c.is_within_limits.ensures in
    let exact = disk_exact c.args.steps book t plan c.requires.greatest few limits in
    let v = top_some c.args.steps book t exact in
    let W : Vec Action Global → Type 0 = λ list. IsDiskWritten c.args.tables.now.fast.steps book t list.items in
    let Q : Vec Action Global → Type 0 = λ list. disk_top_entry c.args.steps t ≡ number (cost list.items book) in
    if_all c.whole_list.result W Q c.whole_list.ensures
    (λ list is.
    let P : ℕ → Type 0 = λ n. IsDiskWritten n book t list.items in
    v.1 ∙ ap (λ n. number n) (sym (written_disk_costs c.args.steps book t list.items v.0 (subst P c.requires.sizes.sized.steps_are is) v.1)))
