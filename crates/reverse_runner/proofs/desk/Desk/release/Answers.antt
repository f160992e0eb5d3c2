use Rattle.reverse_runner.proofs.Common.{◌∙◌, refl, ap, sym, set, Err, answer_on}
use Rattle.reverse_runner.specs.declared.fault.RunFault.{RunFault}
use Rattle.reverse_runner.proofs.OneKeeper.{was_there}
use Rattle.reverse_runner.proofs.DeskLaws.{release_gives}
use Rattle.reverse_runner.proofs.desk.Desk.release.Goals as goal

pub returns-in-Ok-clause-releases : goal.returns-in-Ok-clause-releases
returns-in-Ok-clause-releases g c =
    release_gives g.K.Storage c.args.level c.args.n c.args.self.now.store c.release.new.self c.args.keepers.now.items (set c.args.keepers.now.items c.args.level c.release.new.keeper) c.release.ensures.others _ c.requires.held
    (record {
      answer = c.release.result;
      is = ap (answer_on c.args.level) (sym c.in-Ok.is);
      before = c.index_mut-keeper.result.now;
      after = c.release.new.keeper;
      was = was_there c.args.keepers.now.items c.args.level c.index_mut-keeper.result.now c.release.new.keeper c.requires.on.there c.index_mut-keeper.ensures.value;
      others = refl;
      does = c.release.ensures.releases;
    })

pub returns-in-Err-clause-releases : goal.returns-in-Err-clause-releases
returns-in-Err-clause-releases g c =
    release_gives g.K.Storage c.args.level c.args.n c.args.self.now.store c.release.new.self c.args.keepers.now.items (set c.args.keepers.now.items c.args.level c.release.new.keeper) c.release.ensures.others _ c.requires.held
    (record {
      answer = c.release.result;
      is = ap (λ (f : RunFault). Err f) c.on.ensures ∙ ap (answer_on c.args.level) (sym c.in-Err.is);
      before = c.index_mut-keeper.result.now;
      after = c.release.new.keeper;
      was = was_there c.args.keepers.now.items c.args.level c.index_mut-keeper.result.now c.release.new.keeper c.requires.on.there c.index_mut-keeper.ensures.value;
      others = refl;
      does = c.release.ensures.releases;
    })
