use Rattle.std.proofs.Common.{◌≡◌, ◌+◌, refl, arith}
use Rattle.run_timeline.proofs.LastWatcher.{noted_at, noted_last}
use Rattle.run_timeline.proofs.observing.look_back.Goals as goal

pub advance_watched-requires : goal.advance_watched-requires
advance_watched-requires g c k w inside noted =
    let at : w.at ≡ c.args.from + k = noted_at c.args.work.now c.args.journal.now k _ w noted in
    omega (arith, at, c.requires, inside)

pub returns-clause-last : goal.returns-clause-last
returns-clause-last g c =
    noted_last c.args.stops.now c.args.work.now c.args.journal.now c.args.from c.args.count _ c.advance_watched.new.watch refl refl refl c.advance_watched.ensures.noted
