use Rattle.std.proofs.Common.{◌≡◌, ℕ, List, [], ◌+◌, ◌<◌, ◌≤◌, ◌^◌, All, arith, refl, sym, ap, ◌∙◌, subst, get_or, length, Vec}
use Rattle.std.specs.declared.alloc.Global.{Global}
use Rattle.level_book.specs.BookCosts.{room}
use Rattle.level_book.specs.UnderTable.{Tables, IsGreatest, write_cost, read_cost}
use Rattle.cost_tables.specs.declared.rows.Row.{Row}
use Rattle.cost_tables.specs.Entries.{fresh_in}
use Rattle.cost_tables.specs.Rows.{AreRows, IsRow}
use Rattle.cost_tables.specs.declared.tables.Tables.TheInside.{Inside}
use Rattle.cost_tables.specs.TableInvariant.{AreBuilt, rows_at, fresh_at, held_at, first_in, AreLevelsOf}
use Rattle.cost_tables.proofs.CellEntries.{whole_of}
use Rattle.cost_tables.proofs.Views.{tables_seen}
use Rattle.cost_tables.proofs.AllLevels.{greatest}
use Rattle.cost_tables.proofs.LevelExtension.{built_none, built_more, modest}
use Rattle.cost_tables.proofs.tables.Tables.build_with.Goals as goal

pub invariant_of-result : goal.invariant_of-result
invariant_of-result g c =
    let are = c.loop-k.invariant in let book = c.args.book.now in
    let made : Inside = record { steps = c.args.steps; rooms = c.loop-k.rooms; levels = c.in_ok-levels.levels } in
    let From : List (Vec Row Global) → Type 0 = λ levels. AreLevelsOf levels c.in_ok-levels.levels.items in
    whole_of made c.loop-k.levels.items (subst From c.deref-2.ensures.value c.in_ok-levels.ensures) (omega (arith, are.room_count)) (omega (arith, are.room_count)) (omega (arith, are.room_count, are.count))
    (λ k lt. are.row_count k (omega (arith, are.room_count)))
    (λ k lt.
    let known : k < c.loop-k.k = omega (arith, are.room_count) in
    let P : ℕ → Type 0 = λ room. All (IsRow room) (rows_at c.loop-k.levels.items k) in
    subst P (sym (are.rooms_are k known)) (are.shapes k known))

pub returns : goal.returns
returns g c =
    let are = c.loop-k.invariant in
    let book = c.args.book.now in
    let made : Inside = record { steps = c.args.steps; rooms = c.loop-k.rooms; levels = c.in_ok-levels.levels } in
    let all : length book.levels ≤ c.loop-k.k = omega arith in
    let few : c.args.steps ≤ 8192 = let short = c.requires.fits.few in omega arith in
    let f : book.forward < 2 ^ 32 = omega arith in
    let b : book.reverse < 2 ^ 32 = omega arith in
    let From : List (Vec Row Global) → Type 0 = λ levels. AreLevelsOf levels c.in_ok-levels.levels.items in
    let P : Tables → Type 0 = λ t. IsGreatest c.args.steps book t in
    record {
      fits = c.requires.fits;
      sizes = record {
        steps_are = refl;
        level_count = omega (arith, are.room_count);
        rooms_are = λ k lt. are.rooms_are k (omega arith);
      };
      greatest = subst P (sym (tables_seen made c.loop-k.levels.items (subst From c.deref-2.ensures.value c.in_ok-levels.ensures)))
          (greatest c.args.steps book (fresh_at c.loop-k.levels.items) (held_at c.loop-k.levels.items) (modest c.args.steps book c.loop-k.k c.loop-k.levels.items c.loop-k.rooms.items c.loop-k.base.items are all few f b)
          (λ k known. are.are_levels k (omega arith)));
    }

pub loop-k-init : goal.loop-k-init
loop-k-init g c =
    let steps = c.args.steps in let book = c.args.book.now in let base = c.in_ok-base.base.items in
    let value : (r : ℕ) → r < steps → get_or base r 0 ≡ first_in (book.forward + book.reverse) r = λ r lt.
    c.in_ok-base.ensures.value r lt ∙ (λ t. first_in (c.forward.ensures t + c.reverse.ensures t) r) in
    let L : List (Vec Row Global) → Type 0 = λ levels. AreBuilt steps book 0 levels c.new-rooms.result.items base in
    let R : List ℕ → Type 0 = λ rooms. AreBuilt steps book 0 [] rooms base in
    subst L (sym c.new-levels.ensures.items) (subst R (sym c.new-rooms.ensures.items) (built_none steps book base c.in_ok-base.ensures.count c.in_ok-base.ensures.low value))

pub level_rows-requires-clause-few : goal.level_rows-requires-clause-few
level_rows-requires-clause-few g c = λ κs h. let few = c.requires.fits.few in omega (arith, ap length c.deref.ensures.value, c.loop-k.invariant.base_count)

pub level_rows-requires-clause-base : goal.level_rows-requires-clause-base
level_rows-requires-clause-base g c = λ κs h.
    let P : List ℕ → Type 0 = λ base. All (λ n. n ≤ 2 ^ 61) base in
    subst P (sym c.deref.ensures.value) c.loop-k.invariant.base_low

pub column-requires : goal.column-requires
column-requires g c =
    let P : List Row → Type 0 = λ rows. All (IsRow c.room-room.result) rows in
    subst P (sym c.deref-in-loop-k.ensures.value) c.in_ok-rows.ensures.rows.shapes

pub level_rows-requires-clause-room : goal.level_rows-requires-clause-room
level_rows-requires-clause-room g c = λ κs h.
    let P : ℕ → Type 0 = λ n. n ≤ 64 in
    subst P (sym c.room-room.ensures) (c.requires.fits.narrow c.loop-k.k (omega arith))

pub loop-k-preserved : goal.loop-k-preserved
loop-k-preserved g c =
    let book = c.args.book.now in let k = c.loop-k.k in let costs = c.of.result in let are = c.of.ensures in
    let rows = c.in_ok-rows.rows in
    let wide = c.room-room.ensures in
    let R : ℕ → Type 0 = λ n. AreRows n costs.forward costs.write costs.read c.deref.result.now rows.items in
    let F : ℕ → Type 0 = λ n. AreRows (room book k c.args.steps) n costs.write costs.read c.deref.result.now rows.items in
    let W : ℕ → Type 0 = λ n. AreRows (room book k c.args.steps) book.forward n costs.read c.deref.result.now rows.items in
    let D : ℕ → Type 0 = λ n. AreRows (room book k c.args.steps) book.forward (write_cost book k) n c.deref.result.now rows.items in
    let B : List ℕ → Type 0 = λ base. AreRows (room book k c.args.steps) book.forward (write_cost book k) (read_cost book k) base rows.items in
    let is = subst B c.deref.ensures.value (subst D are.read (subst W are.write (subst F are.forward (subst R wide c.in_ok-rows.ensures.rows)))) in
    let count = c.in_ok-rows.ensures.wide ∙ ap length c.deref.ensures.value ∙ c.loop-k.invariant.base_count in
    let same = c.deref-in-loop-k.ensures.value in
    let P : List (Vec Row Global) → Type 0 = λ levels. AreBuilt c.args.steps book (k + 1) levels c.push-in-loop-k.new.self.items c.in_ok-base-2.base.items in
    let C : List Row → Type 0 = λ rows. (r : ℕ) → r < length rows → get_or c.in_ok-base-2.base.items r 0 ≡ fresh_in rows r c.room-room.result in
    let V : ℕ → Type 0 = λ n. (r : ℕ) → r < length rows.items → get_or c.in_ok-base-2.base.items r 0 ≡ fresh_in rows.items r n in
    let W' : ℕ → Type 0 = λ n. n < 2 ^ 32 in
    subst P (sym c.in_ok-push.ensures.items)
    (built_more c.args.steps book k c.loop-k.levels.items c.loop-k.rooms.items c.loop-k.base.items rows c.loop-k.invariant c.room-room.result c.push-in-loop-k.new.self.items c.in_ok-base-2.base.items c.in_ok-push-2.ensures.items wide count is
    (c.in_ok-base-2.ensures.count ∙ ap length same ∙ count) c.in_ok-base-2.ensures.low (subst V wide (subst C same c.in_ok-base-2.ensures.value)) (subst W' are.write are.cheap.write) (subst W' are.read are.cheap.read))
