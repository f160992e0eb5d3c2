use Rattle.reverse_runner.proofs.Common.{◌∙◌, refl, ap, sym, set, Err, answer_on}
use Rattle.reverse_runner.specs.declared.fault.RunFault.{RunFault}
use Rattle.reverse_runner.proofs.OneKeeper.{was_there}
use Rattle.reverse_runner.proofs.DeskLaws.{fetch_gives}
use Rattle.reverse_runner.proofs.desk.Desk.fetch.Goals as goal

pub returns-in-Ok-clause-fetches : goal.returns-in-Ok-clause-fetches
returns-in-Ok-clause-fetches g c =
    fetch_gives g.K.Storage c.args.level c.args.n c.args.self.now.store c.args.keepers.now.items (set c.args.keepers.now.items c.args.level c.fetch.new.keeper) c.args.self.now.buffer c.fetch.new.into c.fetch.new.into.ok.0 c.requires.held _
    (record {
      answer = c.fetch.result;
      is = ap (answer_on c.args.level) (sym c.in-Ok.is);
      before = c.index_mut-keeper.result.now;
      after = c.fetch.new.keeper;
      was = was_there c.args.keepers.now.items c.args.level c.index_mut-keeper.result.now c.fetch.new.keeper c.requires.on.there c.index_mut-keeper.ensures.value;
      others = refl;
      does = c.fetch.ensures;
    })

pub returns-in-Err-clause-fetches : goal.returns-in-Err-clause-fetches
returns-in-Err-clause-fetches g c =
    fetch_gives g.K.Storage c.args.level c.args.n c.args.self.now.store c.args.keepers.now.items (set c.args.keepers.now.items c.args.level c.fetch.new.keeper) c.args.self.now.buffer c.fetch.new.into c.fetch.new.into.ok.0 c.requires.held _
    (record {
      answer = c.fetch.result;
      is = ap (λ (f : RunFault). Err f) c.on.ensures ∙ ap (answer_on c.args.level) (sym c.in-Err.is);
      before = c.index_mut-keeper.result.now;
      after = c.fetch.new.keeper;
      was = was_there c.args.keepers.now.items c.args.level c.index_mut-keeper.result.now c.fetch.new.keeper c.requires.on.there c.index_mut-keeper.ensures.value;
      others = refl;
      does = c.fetch.ensures;
    })
