use Rattle.reverse_runner.proofs.Common.{ℕ, ◌∙◌, refl, ap, sym, subst, List, set, Err, level_of, KeepsPair, answer_on}
use Rattle.reverse_runner.specs.declared.fault.RunFault.{RunFault}
use Rattle.reverse_runner.proofs.OneKeeper.{was_there}
use Rattle.reverse_runner.proofs.DeskLaws.{keep_gives}
use Rattle.reverse_runner.proofs.desk.Desk.keep.Goals as goal

pub returns-in-Ok-clause-keeps : goal.returns-in-Ok-clause-keeps
returns-in-Ok-clause-keeps g c =
    let bytes = c.as_slice-bytes.ensures.value in
    keep_gives g.K.Storage c.args.level c.args.n c.args.self.now.store c.keep.new.self c.args.keepers.now.items (set c.args.keepers.now.items c.args.level c.keep.new.keeper) c.keep.ensures.others c.args.self.now.buffer c.args.self.now.buffer.ok.0 _
    (record {
      answer = c.keep.result;
      is = ap (answer_on c.args.level) (sym c.in-Ok.is);
      before = c.index_mut-keeper.result.now;
      after = c.keep.new.keeper;
      was = was_there c.args.keepers.now.items c.args.level c.index_mut-keeper.result.now c.keep.new.keeper c.requires.on.there c.index_mut-keeper.ensures.value;
      others = refl;
      does = subst (λ (b : List ℕ). KeepsPair g.K.Storage c.args.n b c.keep.result (level_of c.args.self.now.store c.args.level) (level_of c.keep.new.self c.args.level) c.index_mut-keeper.result.now c.keep.new.keeper) bytes c.keep.ensures.keeps;
    })

pub returns-in-Err-clause-keeps : goal.returns-in-Err-clause-keeps
returns-in-Err-clause-keeps g c =
    let bytes = c.as_slice-bytes.ensures.value in
    keep_gives g.K.Storage c.args.level c.args.n c.args.self.now.store c.keep.new.self c.args.keepers.now.items (set c.args.keepers.now.items c.args.level c.keep.new.keeper) c.keep.ensures.others c.args.self.now.buffer c.args.self.now.buffer.ok.0 _
    (record {
      answer = c.keep.result;
      is = ap (λ (f : RunFault). Err f) c.on.ensures ∙ ap (answer_on c.args.level) (sym c.in-Err.is);
      before = c.index_mut-keeper.result.now;
      after = c.keep.new.keeper;
      was = was_there c.args.keepers.now.items c.args.level c.index_mut-keeper.result.now c.keep.new.keeper c.requires.on.there c.index_mut-keeper.ensures.value;
      others = refl;
      does = subst (λ (b : List ℕ). KeepsPair g.K.Storage c.args.n b c.keep.result (level_of c.args.self.now.store c.args.level) (level_of c.keep.new.self c.args.level) c.index_mut-keeper.result.now c.keep.new.keeper) bytes c.keep.ensures.keeps;
    })
