use Rattle.std.proofs.Common.{◌≡◌, ℕ, List, ◌+◌, ◌*◌, ◌<◌, ◌≤◌, ◌++◌, length, get_or, length-append, append_assoc, sym, ap, ◌∙◌, subst, arith, All, Result, Ok, Err, Vec, Global}
use Rattle.std.specs.declared.alloc.AllocError.{AllocError}
use Rattle.std.specs.Result.{IfOk}
use Rattle.cost_tables.specs.declared.rows.Row.{Row}
use Rattle.cost_tables.specs.Rows.{partial_in, cut_of, row_in, IsMore, IsPiece, AreStarted}
use Rattle.cost_tables.proofs.RowPieces.{piece_same, partial_same, piece_of_row}
use Rattle.cost_tables.proofs.rows.push_rows.Goals as goal

-- a worker's piece of one row
piece_of : (low high : ℕ) (first : List Row) (forward count q : ℕ) (r : Result (Vec (Vec ℕ Global) Global) AllocError) → q < count →
    IfOk r (λ p. AreStarted first forward count low high p.items) → IfOk r (λ p. IsPiece (partial_in first forward (length first) (length first + q)) low high (row_in q p.items))
piece_of low high first forward count q (Ok p) lt is = piece_of_row first forward count low high q p.items is lt
piece_of low high first forward count q (Err error) lt is = tt

-- each of its slots has a number for the row
slots_of : (low high : ℕ) (first : List Row) (forward count q : ℕ) (r : Result (Vec (Vec ℕ Global) Global) AllocError) → q < count →
    IfOk r (λ p. AreStarted first forward count low high p.items) → IfOk r (λ p. All (λ slot. q < length slot.items) p.items)
slots_of low high first forward count q (Ok p) lt is = λ k d h. let long = (is.each k d (omega (arith, is.wide))).long in omega arith
slots_of low high first forward count q (Err error) lt is = tt

-- rows more, and again
more_again : (old rows new : List Row) (m n : ℕ) → IsMore old rows m → IsMore rows new n → IsMore old new (m + n)
more_again old rows new m n first second =
    (first.0 ++ second.0, second.1 ∙ ap (λ (rows : List Row). rows ++ second.0) first.1 ∙ append_assoc old first.0 second.0, length-append first.0 second.0 ∙ omega (arith, first.2, second.2))

more_count : (old rows : List Row) (n : ℕ) → IsMore old rows n → length rows ≡ length old + n
more_count old rows n more = ap (λ (rows : List Row). length rows) more.1 ∙ length-append old more.0 ∙ ap (λ k. length old + k) more.2

mostly_started : (filled count q r : ℕ) → 16 * count ≤ filled + 16 → q < count → r ≡ filled + q → 16 * r ≤ 16 * filled + r
mostly_started filled count q r few lt e = omega arith

pub joined-requires-clause-long : goal.joined-requires-clause-long
joined-requires-clause-long c = λ i d lt.
    let low : ℕ → ℕ = λ i. cut_of c.args.room (length c.args.parts.now) i in
    slots_of (low i) (low (i + 1)) c.args.rows.now.items c.args.costs.forward c.args.count c.loop-q.q (get_or c.args.parts.now i d) c.loop-q-test.true (c.requires.parts i d lt)

pub push_row-requires-clause-next : goal.push_row-requires-clause-next
push_row-requires-clause-next c =
    let all = more_count c.args.rows.now.items c.loop-q.rows.items c.loop-q.q c.loop-q.invariant.more in
    omega (arith, all, c.loop-q-test.true, c.requires.next)

pub push_row-requires-clause-filled : goal.push_row-requires-clause-filled
push_row-requires-clause-filled c =
    let all = more_count c.args.rows.now.items c.loop-q.rows.items c.loop-q.q c.loop-q.invariant.more in
    omega (arith, all, c.len-filled.ensures)

pub push_row-requires-clause-share : goal.push_row-requires-clause-share
push_row-requires-clause-share c =
    let first = c.args.rows.now.items in let rows = c.loop-q.rows.items in
    let all = more_count first rows c.loop-q.q c.loop-q.invariant.more in
    let filled : length first ≡ c.len-filled.result = omega (arith, c.len-filled.ensures) in
    let P : ℕ → Type 0 = λ n. 16 * length rows ≤ 16 * n + length rows in
    subst P filled (mostly_started (length first) c.args.count c.loop-q.q (length rows) c.requires.share c.loop-q-test.true all)

pub loop-q-preserved : goal.loop-q-preserved
loop-q-preserved c = record {
  more = more_again c.args.rows.now.items c.loop-q.rows.items c.push_row.new.rows.items c.loop-q.q 1 c.loop-q.invariant.more c.in_ok-push_row.ensures.more;
  rows = c.in_ok-push_row.ensures.rows;
}

pub returns-clause-long : goal.returns-clause-long
returns-clause-long c =
    let all = more_count c.args.rows.now.items c.loop-q.rows.items c.loop-q.q c.loop-q.invariant.more in
    omega arith

pub returns-clause-rows : goal.returns-clause-rows
returns-clause-rows c = c.loop-q.invariant.rows

pub push_row-requires-clause-partial : goal.push_row-requires-clause-partial
push_row-requires-clause-partial c =
    let first = c.args.rows.now.items in let n = length first in let q = c.loop-q.q in let forward = c.args.costs.forward in let parts = c.args.parts.now in
    let rows = c.loop-q.rows.items in let more = c.loop-q.invariant.more in
    let low : ℕ → ℕ = λ i. cut_of c.args.room (length parts) i in
    let filled : n ≡ c.len-filled.result = omega (arith, c.len-filled.ensures) in
    let all : n + q ≡ length rows = sym (more_count first rows q more) in
    let piece = c.in_ok-partial.ensures (partial_in first forward n (n + q)) (λ i d lt. piece_of (low i) (low (i + 1)) first forward c.args.count q (get_or parts i d) (omega arith) (c.requires.parts i d lt)) in
    let P : List ℕ → Type 0 = λ xs. IsPiece (partial_in rows forward c.len-filled.result (length rows)) 0 c.args.room xs in
    subst P (sym c.deref.ensures.value) (piece_same (partial_in first forward n (n + q)) (partial_in rows forward c.len-filled.result (length rows)) 0 c.args.room c.in_ok-partial.partial.items
    (λ m. partial_same first more.0 forward (n + q) m (omega arith) ∙ ap (λ (rows : List Row). partial_in rows forward n (n + q) m) (sym more.1) ∙ (λ t. partial_in rows forward (filled t) (all t) m)) piece)
