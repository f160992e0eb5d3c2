use Rattle.std.proofs.Common.{List, [], ◌∷◌, ◌++◌, ap, ◌∙◌, Vec}
use Rattle.std.specs.declared.alloc.Global.{Global}
use Rattle.cost_tables.specs.declared.cells.Cells.{Cells}
use Rattle.cost_tables.specs.declared.tables.Tables.TheInside.{Inside}
use Rattle.cost_tables.proofs.NeverTables.{fastest_never}
use Rattle.cost_tables.proofs.tables.Tables.never_fastest.Goals as goal

pub returns-clause-never : goal.returns-clause-never
returns-clause-never c =
    let made : Inside = record { steps = c.args.steps; rooms = c.push-2.new.self; levels = c.push.new.self } in
    let cells = c.in_ok-never_cells.field-0 in
    fastest_never c.args.steps c.args.book.now made cells c.room-room.result (c.in_ok-push.ensures.items ∙ ap (λ (levels : List (Vec Cells Global)). levels ++ cells ∷ []) c.new-levels.ensures.items)
    c.in_ok-never_cells.ensures.count c.room-room.ensures c.in_ok-never_cells.ensures.never
