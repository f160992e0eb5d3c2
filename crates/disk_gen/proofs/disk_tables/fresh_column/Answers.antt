use Rattle.std.proofs.Common.{ℕ, List, ◌+◌, ◌≤◌, ◌^◌, min, arith, sym, ap, ◌∙◌, subst}
use Rattle.cost_tables.specs.Entries.{never_in_memory, least_split}
use Rattle.cost_tables.proofs.RowExtension.{pushed}
use Rattle.cost_tables.proofs.Splits.{split_never}
use Rattle.disk_gen.proofs.DiskRowExtension.{at, fresh_more}
use Rattle.disk_gen.proofs.disk_tables.fresh_column.Goals as goal

pub overflow_add-write : goal.overflow_add-write
overflow_add-write c =
    let P : ℕ → Type 0 = λ n. n ≤ never_in_memory in
    let low = subst P (sym c.least_cost-split.ensures) (split_never c.args.forward (at c.deref.result.now) (at c.args.held.now) c.loop-r.r c.loop-r.r) in
    record { fits = omega arith }

pub loop-r-preserved : goal.loop-r-preserved
loop-r-preserved c =
    let fast = c.args.fast.now in let held = c.args.held.now in let forward = c.args.forward in let write = c.args.write in let r = c.loop-r.r in
    let fresh = c.loop-r.fresh.items in let ys = c.push.new.self.items in
    let x = c.min.result in
    let split = c.least_cost-split.ensures ∙ ap (λ (xs : List ℕ). least_split forward (at xs) (at held) r r) c.deref.ensures.value in
    let first : at fast r ≤ 2 ^ 61 = c.requires.fast r 0 (omega arith) in
    let least = c.min.ensures in
    record {
      count = (pushed fresh ys x r c.in_ok-push.ensures.items c.loop-r.invariant.count).longer;
      column = fresh_more forward write r x fast held fresh ys c.loop-r.invariant.column c.loop-r.invariant.count c.in_ok-push.ensures.items
          (c.min.ensures ∙ ap (λ s. min (at fast r) (write + s)) split) (omega arith);
    }
