use Rattle.std.proofs.Common.{◌+◌, List, sym, ap, ◌∙◌, subst, length, length-append, All, [], ◌∷◌}
use Rattle.std.proofs.lemmas.List.Elements.{All-push}
use Rattle.cost_tables.specs.declared.cells.Cells.{Cells}
use Rattle.cost_tables.specs.TableInvariant.{IsNeverCells}
use Rattle.cost_tables.proofs.cells.never_cells.Goals as goal

pub loop-preserved : goal.loop-preserved
loop-preserved c =
    let room = c.args.room in let cells = c.loop.cells.items in
    let made : Cells = record { fresh = c.in_ok-fresh.fresh; held = c.in_ok-held.held } in
    let is : IsNeverCells room made = record {
      wide = record { fresh_wide = c.in_ok-fresh.ensures.count; held_wide = c.in_ok-held.ensures.count };
      fresh = c.in_ok-fresh.ensures.never;
      held = c.in_ok-held.ensures.never;
    } in
    let P : List Cells → Type 0 = λ cells. All (IsNeverCells room) cells in
    record {
      count = ap length c.in_ok-push.ensures.items ∙ length-append cells (made ∷ []) ∙ ap (λ n. n + 1) c.loop.invariant.count;
      never = subst P (sym c.in_ok-push.ensures.items) (All-push (IsNeverCells room) cells made c.loop.invariant.never is);
    }
