use Rattle.std.proofs.Common.{◌≡◌, ℕ, List, ◌++◌, ◌+◌, arith, sym, ap, ◌∙◌, subst, length, Result, Vec, Global}
use Rattle.std.specs.declared.alloc.AllocError.{AllocError}
use Rattle.std.specs.Result.{IfOk}
use Rattle.cost_tables.specs.Rows.{IsPiece, cut_of, row_in}
use Rattle.cost_tables.proofs.RowPieces.{pieces_joined, cut_next, cut_end}
use Rattle.cost_tables.proofs.sharing.joined.Goals as goal

pub loop-part-preserved : goal.loop-part-preserved
loop-part-preserved c = λ cost are.
    let i = c.loop-part.part-index in let n = length c.args.parts.now in let own = c.in-Ok.pieces in let q = c.args.q in
    let low = cut_of c.args.room n i in let high = cut_of c.args.room n (i + 1) in
    let P : Result (Vec (Vec ℕ Global) Global) AllocError → Type 0 = λ r. IfOk r (λ p. IsPiece cost low high (row_in q p.items)) in
    let piece : IsPiece cost low high (row_in q own.items) = subst P c.in-Ok.is (subst P (sym c.part-item.is) (are i c.part-item.result (omega arith))) in
    pieces_joined cost 0 low high c.loop-part.costs.items (row_in q own.items) c.join_piece.new.costs.items (c.loop-part.invariant cost are) piece (omega arith) (cut_next c.args.room n i c.requires.pieces.0)
    (c.in_ok-join_piece-in-Ok.ensures ∙ ap (λ (xs : List (Vec ℕ Global)). c.loop-part.costs.items ++ row_in q xs) c.deref.ensures.value)

pub returns : goal.returns
returns c = λ cost are.
    let all : c.loop-part.part-index ≡ length c.args.parts.now = omega arith in
    let P : ℕ → Type 0 = λ n. IsPiece cost 0 n c.loop-part.costs.items in
    subst P (cut_end c.args.room (length c.args.parts.now) c.loop-part.part-index c.requires.pieces.0 all) (c.loop-part.invariant cost are)
