use Rattle.std.proofs.Common.{◌∷◌, [], ◌++◌, List, ◌∙◌, ap}
use Rattle.keepers.specs.KeeperState.{KeeperState}
use Rattle.reversal.proofs.demo.keeper_of.Goals as goal

pub returns : goal.returns
returns c = record {
  keeper = c.new.result;
  one = c.in_ok-push.ensures.items ∙ ap (λ (l : List KeeperState). l ++ c.new.result ∷ []) c.in_ok-keepers.ensures.items;
  slots_of_it = ap (λ (k : KeeperState). k.slots) c.new.ensures;
}
