use Rattle.std.proofs.Common.{ℕ, List, ◌+◌, ◌≤◌, min, arith, sym, ap, ◌∙◌, subst}
use Rattle.cost_tables.specs.Entries.{never_in_memory, least_split}
use Rattle.cost_tables.proofs.RowExtension.{pushed}
use Rattle.cost_tables.proofs.Splits.{split_never}
use Rattle.disk_gen.proofs.DiskRowExtension.{at, held_more}
use Rattle.disk_gen.proofs.disk_tables.held_column.Goals as goal

pub loop-r-preserved : goal.loop-r-preserved
loop-r-preserved c =
    let fast = c.args.fast.now in let forward = c.args.forward in let read = c.args.read in let r = c.loop-r.r in
    let held = c.loop-r.held.items in let ys = c.push.new.self.items in
    let x = read + c.min.result in
    let split = c.least_cost-split.ensures ∙ ap (λ (xs : List ℕ). least_split forward (at fast) (at xs) r r) c.deref.ensures.value in
    let P : ℕ → Type 0 = λ n. n ≤ never_in_memory in
    let low = subst P (sym split) (split_never forward (at fast) (at held) r r) in
    let least = c.min.ensures in
    record {
      count = (pushed held ys x r c.in_ok-push.ensures.items c.loop-r.invariant.count).longer;
      column = held_more forward read r x fast held ys c.loop-r.invariant.column c.loop-r.invariant.count c.in_ok-push.ensures.items
          (ap (λ n. read + n) (c.min.ensures ∙ ap (λ s. min (at fast r) s) split)) (omega arith);
    }
