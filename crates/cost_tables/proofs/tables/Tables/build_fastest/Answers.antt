use Rattle.std.proofs.Common.{ℕ, List, [], ◌∷◌, ◌++◌, ◌+◌, ◌<◌, ◌≤◌, ◌^◌, All, arith, refl, sym, ap, ◌∙◌, subst, length, Vec}
use Rattle.std.specs.declared.alloc.Global.{Global}
use Rattle.level_book.specs.BookCosts.{room}
use Rattle.level_book.specs.UnderTable.{Tables, IsGreatest, write_cost, read_cost}
use Rattle.cost_tables.specs.declared.rows.Row.{Row}
use Rattle.cost_tables.specs.TableRows.{fastest}
use Rattle.cost_tables.specs.Rows.{AreRows}
use Rattle.cost_tables.specs.declared.tables.Tables.TheInside.{Inside}
use Rattle.cost_tables.specs.TableInvariant.{first_in, view_of, AreLevelsOf}
use Rattle.cost_tables.proofs.CellEntries.{fastest_whole}
use Rattle.cost_tables.proofs.Views.{tables_seen}
use Rattle.cost_tables.proofs.FastestLevel.{fastest_greatest, fastest_sizes}
use Rattle.cost_tables.proofs.tables.Tables.build_fastest.Goals as goal

pub invariant_of-result : goal.invariant_of-result
invariant_of-result g c =
    let rows = c.in_ok-rows.rows in let wide = c.room-room.result in
    let made : Inside = record { steps = c.args.steps; rooms = c.push-2.new.self; levels = c.in_ok-levels.levels } in
    let count = c.in_ok-rows.ensures.wide ∙ ap length c.deref.ensures.value ∙ c.in_ok-base.ensures.count in
    let levels = c.in_ok-push.ensures.items ∙ ap (λ (levels : List (Vec Row Global)). levels ++ rows ∷ []) c.new-levels.ensures.items in
    let rooms = c.in_ok-push-2.ensures.items ∙ ap (λ (rooms : List ℕ). rooms ++ wide ∷ []) c.new-rooms.ensures.items in
    let From : List (Vec Row Global) → Type 0 = λ levels. AreLevelsOf levels c.in_ok-levels.levels.items in
    fastest_whole made rows wide rooms (subst From (c.deref-2.ensures.value ∙ levels) c.in_ok-levels.ensures) count c.in_ok-rows.ensures.rows.shapes

pub level_rows-requires-clause-base : goal.level_rows-requires-clause-base
level_rows-requires-clause-base g c = λ κs h.
    let P : List ℕ → Type 0 = λ base. All (λ n. n ≤ 2 ^ 61) base in
    subst P (sym c.deref.ensures.value) c.in_ok-base.ensures.low

pub returns-clause-sizes : goal.returns-clause-sizes
returns-clause-sizes g c =
    let book = c.args.book.now in let wide = c.room-room.result in
    let made : Inside = record { steps = c.args.steps; rooms = c.push-2.new.self; levels = c.in_ok-levels.levels } in
    let rooms = c.in_ok-push-2.ensures.items ∙ ap (λ (rooms : List ℕ). rooms ++ wide ∷ []) c.new-rooms.ensures.items in
    fastest_sizes c.args.steps book (view_of made) wide (omega arith) refl rooms c.room-room.ensures

pub returns-clause-greatest : goal.returns-clause-greatest
returns-clause-greatest g c =
    let book = c.args.book.now in let costs = c.of-costs.result in let are = c.of-costs.ensures in
    let rows = c.in_ok-rows.rows in let base = c.in_ok-base.base.items in
    let made : Inside = record { steps = c.args.steps; rooms = c.push-2.new.self; levels = c.in_ok-levels.levels } in
    let Low : ℕ → Type 0 = λ n. n < 2 ^ 32 in
    let R : ℕ → Type 0 = λ n. AreRows n costs.forward costs.write costs.read c.deref.result.now rows.items in
    let F : ℕ → Type 0 = λ n. AreRows (room book 0 c.args.steps) n costs.write costs.read c.deref.result.now rows.items in
    let W : ℕ → Type 0 = λ n. AreRows (room book 0 c.args.steps) book.forward n costs.read c.deref.result.now rows.items in
    let D : ℕ → Type 0 = λ n. AreRows (room book 0 c.args.steps) book.forward (write_cost book 0) n c.deref.result.now rows.items in
    let B : List ℕ → Type 0 = λ base. AreRows (room book 0 c.args.steps) book.forward (write_cost book 0) (read_cost book 0) base rows.items in
    let is = subst B c.deref.ensures.value (subst D are.read (subst W are.write (subst F are.forward (subst R c.room-room.ensures c.in_ok-rows.ensures.rows)))) in
    let count = c.in_ok-rows.ensures.wide ∙ ap length c.deref.ensures.value ∙ c.in_ok-base.ensures.count in
    let levels = c.in_ok-push.ensures.items ∙ ap (λ (levels : List (Vec Row Global)). levels ++ rows ∷ []) c.new-levels.ensures.items in
    let P : Tables → Type 0 = λ t. IsGreatest c.args.steps (fastest book) t in
    let From : List (Vec Row Global) → Type 0 = λ levels. AreLevelsOf levels c.in_ok-levels.levels.items in
    subst P (sym (tables_seen made c.push.new.self.items (subst From c.deref-2.ensures.value c.in_ok-levels.ensures)))
    (fastest_greatest c.args.steps book c.push.new.self.items rows base levels c.requires.fits.few count is
    (λ q lt. c.in_ok-base.ensures.value q lt ∙ (λ i. first_in (are.forward i + are.reverse i) q)) (subst Low are.forward are.cheap.forward) (subst Low are.reverse are.cheap.reverse) (subst Low are.write are.cheap.write) (subst Low are.read are.cheap.read))
