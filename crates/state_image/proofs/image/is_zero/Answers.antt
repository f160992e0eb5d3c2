use Rattle.std.proofs.Common.{◌≡◌, ◌==◌, ◌&&◌, ℕ, List, ◌++◌, Bool, false, true, ap, sym, ◌∙◌}
use Rattle.std.specs.List.{list_all}
use Rattle.std.specs.Slice.Iter.{chunks_rest}
use Rattle.std.proofs.lemmas.List.Folds.{list_all-append}
use Rattle.state_image.proofs.image.is_zero.Goals as goal

-- the answer of a rest is that of its first piece, and where all of that is zero, of what comes behind it
rest_answer : (rest piece behind : List ℕ) (first : Bool) → rest ≡ piece ++ behind → first ≡ list_all (λ b. b == 0) piece →
    list_all (λ b. b == 0) rest ≡ (first && list_all (λ b. b == 0) behind)
rest_answer rest piece behind first cut is =
    ap (λ l. list_all (λ b. b == 0) l) cut ∙ list_all-append (λ b. b == 0) piece behind ∙ ap (λ x. x && list_all (λ b. b == 0) behind) (sym is)

pub returns-then-not-is_zero_piece : goal.returns-then-not-is_zero_piece
returns-then-not-is_zero_piece c =
    sym (rest_answer (chunks_rest c.loop-piece.piece-iterator) c.in-Some.piece.now (chunks_rest c.next.new.self) false c.in-Some.ensures.steps.1.0 (sym c.if-not-is_zero_piece.true ∙ c.is_zero_piece.ensures)) ∙ c.loop-piece.invariant.1

pub loop-piece-preserved : goal.loop-piece-preserved
loop-piece-preserved c = (
  c.in-Some.ensures.steps.0 ∙ c.loop-piece.invariant.0,
  sym (rest_answer (chunks_rest c.loop-piece.piece-iterator) c.in-Some.piece.now (chunks_rest c.next.new.self) true c.in-Some.ensures.steps.1.0 (sym c.if-not-is_zero_piece.false ∙ c.is_zero_piece.ensures)) ∙ c.loop-piece.invariant.1,
)
