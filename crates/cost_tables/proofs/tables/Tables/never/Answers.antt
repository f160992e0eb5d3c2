use Rattle.std.proofs.Common.{◌≡◌, ℕ, length, subst, arith}
use Rattle.cost_tables.specs.declared.tables.Tables.TheInside.{Inside}
use Rattle.cost_tables.specs.TableInvariant.{AreNever}
use Rattle.cost_tables.proofs.NeverTables.{all_never, never_more, never_whole}
use Rattle.cost_tables.proofs.tables.Tables.never.Goals as goal

pub loop-k-preserved : goal.loop-k-preserved
loop-k-preserved c =
    never_more c.args.steps c.args.book.now c.loop-k.k c.room-room.result c.loop-k.levels.items c.push.new.self.items c.loop-k.rooms.items c.push-in-loop-k.new.self.items c.in_ok-never_cells.field-0
    c.loop-k.invariant c.in_ok-push.ensures.items c.in_ok-push-2.ensures.items c.room-room.ensures c.in_ok-never_cells.ensures.count c.in_ok-never_cells.ensures.never

pub invariant_of-result : goal.invariant_of-result
invariant_of-result c =
    let book = c.args.book.now in
    let made : Inside = record { steps = c.args.steps; rooms = c.loop-k.rooms; levels = c.loop-k.levels } in
    let all : c.loop-k.k ≡ length book.levels = omega (arith, c.levels-k-end.ensures.value) in
    let P : ℕ → Type 0 = λ k. AreNever c.args.steps book k c.loop-k.levels.items c.loop-k.rooms.items in
    never_whole book made (subst P all c.loop-k.invariant) (omega (arith, c.levels-k-end.ensures.value, c.levels-k-end.ensures.range)) (omega (arith, c.levels-k-end.ensures.value, c.levels-k-end.ensures.range))

pub returns-clause-never : goal.returns-clause-never
returns-clause-never c =
    let book = c.args.book.now in
    let made : Inside = record { steps = c.args.steps; rooms = c.loop-k.rooms; levels = c.loop-k.levels } in
    let all : c.loop-k.k ≡ length book.levels = omega (arith, c.levels-k-end.ensures.value) in
    let P : ℕ → Type 0 = λ k. AreNever c.args.steps book k c.loop-k.levels.items c.loop-k.rooms.items in
    all_never c.args.steps book made (subst P all c.loop-k.invariant)
