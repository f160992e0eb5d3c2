use Rattle.std.proofs.Common.{arith, rules}
use Rattle.rv_pages.proofs.MarkOperations.{next_in_rest, next_in_word, none_in_rest}
use Rattle.rv_pages.proofs.marks.Marks.next.Goals as goal

pub returns-then-rest-ne0 : goal.returns-then-rest-ne0
returns-then-rest-ne0 c = next_in_rest c.args.self.now.words c.args.from (omega arith) (search rules) (omega arith)

pub loop-word-init : goal.loop-word-init
loop-word-init c = λ k. none_in_rest c.args.self.now.words c.args.from k c.if-rest-ne0.false

pub returns-then-self-word-ne0 : goal.returns-then-self-word-ne0
returns-then-self-word-ne0 c = next_in_word c.args.self.now.words c.args.from c.loop-word.word (omega arith) (search rules) (omega arith) (omega arith) c.loop-word.invariant
