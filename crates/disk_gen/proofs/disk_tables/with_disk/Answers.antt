use Rattle.std.proofs.Common.{◌≡◌, ℕ, List, ◌<◌, ◌≤◌, ◌^◌, All, arith, sym, ap, ◌∙◌, subst, length, map, get_or}
use Rattle.std.proofs.lemmas.List.{length-take, length-map}
use Rattle.cost_tables.specs.TableRows.{fastest, tables_in, value_of}
use Rattle.cost_tables.specs.declared.cost.Cost.{Cost}
use Rattle.cost_tables.specs.Entries.{entry}
use Rattle.cost_tables.proofs.FastestLevel.{same_room}
use Rattle.cost_tables.proofs.LevelExtension.{read_level}
use Rattle.disk_gen.specs.declared.disk_tables.DiskTables.TheInside.{Inside}
use Rattle.disk_gen.specs.DiskInvariant.{IsHeldColumn, IsFreshColumn}
use Rattle.disk_gen.proofs.DiskRowExtension.{filled_greatest}
use Rattle.disk_gen.proofs.DiskNeverTables.{fastest_low}
use Rattle.disk_gen.proofs.disk_tables.with_disk.Goals as goal

same_count : (costs : List Cost) (numbers : List ℕ) → map value_of costs ≡ map entry numbers → length costs ≡ length numbers
same_count costs numbers same = sym (length-map costs value_of) ∙ ap length same ∙ length-map numbers entry

pub fast_column-requires-clause-low : goal.fast_column-requires-clause-low
fast_column-requires-clause-low c = λ l v one le e.
    let book = c.args.book.now in let fast = c.args.fast in let sizes = c.requires.sizes in
    let two = c.requires.plan.two in
    let known : 0 < length (fastest book).levels = omega (arith, length-take 1 book.levels) in
    let same = sizes.rooms_are 0 known ∙ same_room book c.args.fast.steps in
    fastest_low c.args.fast.steps book (tables_in fast) (omega arith) c.requires.fits.few c.is_within_limits.ensures c.requires.greatest l (get_or fast.rooms 0 0) v one (omega arith) (omega arith) e

pub held_column-requires-clause-few : goal.held_column-requires-clause-few
held_column-requires-clause-few c =
    let few = c.requires.fits.few in
    omega (arith, ap length c.deref.ensures.value, c.in_ok-column.ensures.count)

pub held_column-requires-clause-fast : goal.held_column-requires-clause-fast
held_column-requires-clause-fast c =
    let P : List ℕ → Type 0 = λ xs. All (λ n. n ≤ 2 ^ 61) xs in
    subst P (sym c.deref.ensures.value) c.in_ok-column.ensures.low

pub fresh_column-requires-clause-few : goal.fresh_column-requires-clause-few
fresh_column-requires-clause-few c =
    let few = c.requires.fits.few in
    omega (arith, ap length c.deref-2.ensures.value, c.in_ok-column.ensures.count)

pub fresh_column-requires-clause-fast : goal.fresh_column-requires-clause-fast
fresh_column-requires-clause-fast c =
    let P : List ℕ → Type 0 = λ xs. All (λ n. n ≤ 2 ^ 61) xs in
    subst P (sym c.deref-2.ensures.value) c.in_ok-column.ensures.low

pub fresh_column-requires-clause-held : goal.fresh_column-requires-clause-held
fresh_column-requires-clause-held c =
    let P : List ℕ → Type 0 = λ xs. All (λ n. n ≤ 2 ^ 62) xs in
    subst P (sym c.deref-3.ensures.value) c.in_ok-held.ensures.column.low

pub fresh_column-requires-clause-count : goal.fresh_column-requires-clause-count
fresh_column-requires-clause-count c = ap length c.deref-3.ensures.value ∙ c.in_ok-held.ensures.count ∙ ap length c.deref.ensures.value ∙ sym (ap length c.deref-2.ensures.value)

pub invariant_of-result : goal.invariant_of-result
invariant_of-result c =
    let book = c.args.book.now in let sizes = c.requires.sizes in let two = c.requires.plan.two in
    let long = c.in_ok-column.ensures.count in
    let held = c.in_ok-held.ensures.count ∙ ap length c.deref.ensures.value ∙ long in
    let fresh = c.in_ok-fresh.ensures.count ∙ ap length c.deref-2.ensures.value ∙ long in
    record {
      one_level = omega (arith, sizes.level_count, length-take 1 book.levels);
      fresh_count = same_count c.in_ok-disk_fresh.disk_fresh.items c.deref-5.result.now c.in_ok-disk_fresh.ensures ∙ ap length c.deref-5.ensures.value ∙ fresh;
      held_count = same_count c.in_ok-disk_held.disk_held.items c.deref-4.result.now c.in_ok-disk_held.ensures ∙ ap length c.deref-4.ensures.value ∙ held;
    }

pub returns : goal.returns
returns c =
    let book = c.args.book.now in let level = c.level-disk.result.now in
    let column = c.in_ok-column.column.items in let held = c.in_ok-held.held.items in let fresh = c.in_ok-fresh.fresh.items in
    let made : Inside = record { fast = c.args.fast; disk_fresh = c.in_ok-disk_fresh.disk_fresh; disk_held = c.in_ok-disk_held.disk_held } in
    let limits = c.is_within_limits.ensures in
    let f : book.forward < 2 ^ 32 = let le = limits.forward in omega arith in
    let b : book.reverse < 2 ^ 32 = let le = limits.reverse in omega arith in
    let w : level.write < 2 ^ 32 = omega arith in
    let r : level.read < 2 ^ 32 = omega arith in
    let write = read_level (λ level. level.write) book.levels 1 0 level c.level-disk.ensures in
    let read = read_level (λ level. level.read) book.levels 1 0 level c.level-disk.ensures in
    let Low : ℕ → Type 0 = λ n. n < 2 ^ 32 in
    let H : List ℕ → Type 0 = λ xs. IsHeldColumn c.forward-forward.result level.read xs held in
    let HF : ℕ → Type 0 = λ n. IsHeldColumn n level.read column held in
    let HR : ℕ → Type 0 = λ n. IsHeldColumn book.forward n column held in
    let F : List ℕ → Type 0 = λ xs. IsFreshColumn c.forward-forward.result level.write xs c.deref-3.result.now fresh in
    let FH : List ℕ → Type 0 = λ xs. IsFreshColumn c.forward-forward.result level.write column xs fresh in
    let FF : ℕ → Type 0 = λ n. IsFreshColumn n level.write column held fresh in
    let FW : ℕ → Type 0 = λ n. IsFreshColumn book.forward n column held fresh in
    record {
      fits = c.requires.fits;
      sizes = record { sized = c.requires.sizes; plan = c.requires.plan };
      greatest = filled_greatest c.args.fast.steps book made column fresh held (let two = c.requires.plan.two in omega arith) c.requires.sizes c.requires.greatest c.requires.fits.few
          f b (subst Low (sym write) w) (subst Low (sym read) r) c.in_ok-column.ensures.count c.in_ok-column.ensures.value
          (subst HR (sym read) (subst HF c.forward-forward.ensures (subst H c.deref.ensures.value c.in_ok-held.ensures.column)))
          (c.in_ok-held.ensures.count ∙ ap length c.deref.ensures.value)
          (subst FW (sym write) (subst FF c.forward-forward.ensures (subst FH c.deref-3.ensures.value (subst F c.deref-2.ensures.value c.in_ok-fresh.ensures.column))))
          (c.in_ok-fresh.ensures.count ∙ ap length c.deref-2.ensures.value)
          (c.in_ok-disk_fresh.ensures ∙ ap (λ (xs : List ℕ). map entry xs) c.deref-5.ensures.value) (c.in_ok-disk_held.ensures ∙ ap (λ (xs : List ℕ). map entry xs) c.deref-4.ensures.value);
    }
