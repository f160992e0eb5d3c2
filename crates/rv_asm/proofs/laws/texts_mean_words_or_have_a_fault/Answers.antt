use Rattle.rv_asm.proofs.SourceLaws.{meaning_or_fault}
use Rattle.rv_asm.proofs.laws.texts_mean_words_or_have_a_fault.Goals as goal

pub returns : goal.returns
returns c = meaning_or_fault
