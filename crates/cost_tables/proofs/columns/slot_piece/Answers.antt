use Rattle.std.proofs.Common.{◌≡◌, ℕ, ◌+◌, ◌-◌, ◌^◌, ◌≤◌, length, get_or, sym, ◌∙◌, subst}
use Rattle.cost_tables.specs.Entries.{least_of}
use Rattle.cost_tables.specs.Rows.{partial_in}
use Rattle.cost_tables.proofs.NumberColumns.{column_more, started, least_never}
use Rattle.cost_tables.proofs.columns.slot_piece.Goals as goal

pub loop-q-preserved : goal.loop-q-preserved
loop-q-preserved c =
    let rows = c.args.rows.now in let n = length rows in let forward = c.args.forward in let m = c.args.m in let q = c.loop-q.q in
    let fresh = c.in_ok-fresh.fresh.items in let held = c.in_ok-held.held.items in
    let first : c.started_cost.result ≡ least_of (λ i. get_or fresh i 0 + get_or held (q + i) 0) (length held - q) =
    c.started_cost.ensures ∙ (λ t. least_of (λ i. get_or (c.deref.ensures.value t) i 0 + get_or (c.deref-in-loop-q.ensures.value t) (q + i) 0) (length (c.deref-in-loop-q.ensures.value t) - q)) in
    let value = first ∙ started rows forward q m fresh held c.in_ok-fresh.ensures c.in_ok-held.ensures in
    let low = least_never (λ i. get_or fresh i 0 + get_or held (q + i) 0) (length held - q) in
    let P : ℕ → Type 0 = λ n. n ≤ 2 ^ 61 in
    column_more (2 ^ 61) q (λ q. partial_in rows forward n (n + q) m) c.loop-q.costs.items c.push.new.self.items c.started_cost.result c.loop-q.invariant c.in_ok-push.ensures.items value (subst P (sym first) low)
