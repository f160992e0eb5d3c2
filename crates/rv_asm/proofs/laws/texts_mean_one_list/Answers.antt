use Rattle.rv_asm.proofs.SourceLaws.{one_meaning}
use Rattle.rv_asm.proofs.laws.texts_mean_one_list.Goals as goal

pub returns : goal.returns
returns c = one_meaning
