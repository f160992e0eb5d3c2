use Rattle.std.proofs.Common.{◌+◌, map, sym, ◌∙◌, ap, refl, subst, List}
use Rattle.std.specs.FinSet as set
use Rattle.std.specs.Ordering.{nat_cmp}
use Rattle.std.specs.List.{AllByRecursion, take-map}
use Rattle.std.specs.Option.{option_map}
use Rattle.std.proofs.lemmas.Option.{slice_get-map}
use Rattle.level_book.specs.declared.book.Level.{Level}
use Rattle.level_book.specs.declared.book.Slots.{Slots}
use Rattle.level_book.specs.BookCosts.{slots_of}
use Rattle.schedule_rules.specs.declared.config.LevelHeld.{LevelHeld}
use Rattle.schedule_rules.specs.BitRoom.{HasBits}
use Rattle.schedule_rules.specs.Bits.{set_of}
use Rattle.schedule_rules.proofs.EmptyLevels.{alike_one_more, all_one_more}
use Rattle.schedule_rules.proofs.config.empty_levels.Goals as goal

abbrev slots_of_level : Level → Slots
slots_of_level level = level.slots

abbrev no_images : Slots → set.FinSet nat_cmp
no_images slots = set.empty

-- with one level more, all is as for that many levels of the book
pub loop-k-preserved : goal.loop-k-preserved
loop-k-preserved c =
    let levels = c.args.book.now.levels in
    let pushed = c.in_ok-push.ensures.items in
    record {
      slots =
          ap (map (λ (level : LevelHeld). level.slots)) pushed
          ∙ alike_one_more slots_of_level (λ (level : LevelHeld). level.slots) levels c.loop-k.levels.items c.loop-k.k c.level.result.now _ c.level.ensures refl
          (c.loop-k.invariant.slots ∙ take-map slots_of_level c.loop-k.k levels)
          ∙ sym (take-map slots_of_level (c.loop-k.k + 1) levels);
      empty =
          ap (map (λ (level : LevelHeld). set_of level.images.words.items)) pushed
          ∙ alike_one_more no_images (λ (level : LevelHeld). set_of level.images.words.items) (slots_of c.args.book.now) c.loop-k.levels.items c.loop-k.k _ _
          (slice_get-map slots_of_level levels c.loop-k.k ∙ ap (option_map slots_of_level) c.level.ensures)
          c.in_ok-new.ensures.empty c.loop-k.invariant.empty;
      bits =
          let P : List LevelHeld → Type 0 = AllByRecursion (HasBits c.args.steps) in
          subst P (sym pushed) (all_one_more (HasBits c.args.steps) c.loop-k.levels.items _ c.loop-k.invariant.bits c.in_ok-new.ensures.room);
    }
