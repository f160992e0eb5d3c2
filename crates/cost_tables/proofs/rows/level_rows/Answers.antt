use Rattle.std.proofs.Common.{ℕ, List, ◌+◌, ◌-◌, ◌<◌, length, get_or, sym, ap, subst, arith, Result, Vec, Global}
use Rattle.std.specs.declared.alloc.AllocError.{AllocError}
use Rattle.std.specs.Result.{IfOk}
use Rattle.cost_tables.specs.declared.rows.Row.{Row}
use Rattle.cost_tables.specs.Rows.{cut_of, AreStarted}
use Rattle.cost_tables.proofs.rows.level_rows.Goals as goal

pub start_rows-requires-clause-few : goal.start_rows-requires-clause-few
start_rows-requires-clause-few g c = omega (arith, ap length c.deref.ensures.value, c.shared_rows-count.ensures.number, c.requires.few)

pub push_rows-requires-clause-next : goal.push_rows-requires-clause-next
push_rows-requires-clause-next g c = omega (arith, c.shared_rows-count.ensures.number)

pub push_rows-requires-clause-parts : goal.push_rows-requires-clause-parts
push_rows-requires-clause-parts g c =
    let room = c.args.room in let count = c.shared_rows-count.result in let forward = c.args.costs.forward in let pieces = c.max-pieces.result in
    let rows = c.loop-alloc.rows.items in let parts = c.in_ok-parts.parts.items in
    let F : List Row → Type 0 = λ rows. (i : ℕ) (d : Result (Vec (Vec ℕ Global) Global) AllocError) → i < pieces → IfOk (get_or parts i d) (λ p. AreStarted rows forward count (cut_of room pieces i) (cut_of room pieces (i + 1)) p.items) in
    let N : ℕ → Type 0 = λ n. (i : ℕ) (d : Result (Vec (Vec ℕ Global) Global) AllocError) → i < n → IfOk (get_or parts i d) (λ p. AreStarted rows forward count (cut_of room n i) (cut_of room n (i + 1)) p.items) in
    let P : List (Result (Vec (Vec ℕ Global) Global) AllocError) → Type 0 = λ parts. (i : ℕ) (d : Result (Vec (Vec ℕ Global) Global) AllocError) → i < length parts →
    IfOk (get_or parts i d) (λ p. AreStarted rows forward count (cut_of room (length parts) i) (cut_of room (length parts) (i + 1)) p.items) in
    subst P (sym c.deref-in-loop-alloc.ensures.value) (subst N (sym c.in_ok-parts.ensures.long) (subst F c.deref.ensures.value c.in_ok-parts.ensures.each))

pub loop-alloc-smaller : goal.loop-alloc-smaller
loop-alloc-smaller g c = omega (arith, c.in_ok-push_rows.ensures.long, c.shared_rows-count.ensures.some)

pub loop-alloc-preserved : goal.loop-alloc-preserved
loop-alloc-preserved g c = record {
  within = omega (arith, c.in_ok-push_rows.ensures.long, c.shared_rows-count.ensures.number);
  rows = c.in_ok-push_rows.ensures.rows;
}

pub returns-clause-wide : goal.returns-clause-wide
returns-clause-wide g c = omega (arith, c.loop-alloc.invariant.within)
