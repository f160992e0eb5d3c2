use Rattle.std.proofs.Common.{ap, ◌∙◌, ◌<◌, map, arith, add-one, length, refl, length-set}
use Rattle.std.specs.Option.{option_map}
use Rattle.std.proofs.lemmas.Option.{slice_get-map, slice_get_read}
use Rattle.serde_json.specs.View.{view}
use Rattle.level_book.proofs.ReadLevels.{faultless_at, say_more, within_set}
use Rattle.level_book.proofs.reading.levels_of.Goals as goal

pub level_of-requires : goal.level_of-requires
level_of-requires c =
    let at = slice_get_read c.args.entries.now (length c.args.entries.now) c.loop-k.k c.index-entries-k.result refl c.loop-k-test.true c.index-entries-k.is in
    faultless_at (map view c.args.entries.now) c.loop-k.k (view c.index-entries-k.result) c.requires.faultless
    (slice_get-map view c.args.entries.now c.loop-k.k ∙ ap (option_map view) at)

pub loop-k-preserved : goal.loop-k-preserved
loop-k-preserved c =
    let so_far = c.loop-k.invariant in
    let at = slice_get_read c.args.entries.now (length c.args.entries.now) c.loop-k.k c.index-entries-k.result refl c.loop-k-test.true c.index-entries-k.is in
    let below : c.loop-k.k < length c.loop-k.levels = omega (arith, so_far.four, c.requires.few, c.loop-k-test.true) in
    record {
      says = rw add-one (say_more (map view c.args.entries.now) c.loop-k.levels c.loop-k.k (view c.index-entries-k.result) c.level_of.result
          (slice_get-map view c.args.entries.now c.loop-k.k ∙ ap (option_map view) at) below c.level_of.ensures.says so_far.says);
      limits = within_set c.loop-k.levels c.loop-k.k c.level_of.result so_far.limits c.level_of.ensures.limits;
      four = length-set c.loop-k.levels c.loop-k.k c.level_of.result ∙ so_far.four;
    }
