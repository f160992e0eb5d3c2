use Rattle.rv_pages.proofs.MarkOperations.{mark_of-with_mark_same, mark_of-with_mark_other}
use Rattle.rv_pages.proofs.marks.Marks.mark.Goals as goal

pub returns-clause-marked : goal.returns-clause-marked
returns-clause-marked c = mark_of-with_mark_same c.args.self.now.words c.args.index c.requires.size c.requires.index

pub returns-clause-others : goal.returns-clause-others
returns-clause-others c = λ k other. mark_of-with_mark_other c.args.self.now.words c.args.index k c.requires.size c.requires.index other
