use Rattle.std.proofs.Common.{◌∙◌, ap, sym, ◌+◌, arith}
use Rattle.std.specs.FinSet as set
use Rattle.schedule_rules.proofs.BitsLemmas.{set_of-written_with, len-set_of, len_one_more}
use Rattle.schedule_rules.proofs.positions.Positions.insert.Goals as goal

pub overflow_add-self : goal.overflow_add-self
overflow_add-self c = omega (arith, len-set_of c.args.self.now.words.items, c.args.self.now.counted, c.args.self.now.small, c.args.self.now.words.ok)

pub returns-clause-set : goal.returns-clause-set
returns-clause-set c = set_of-written_with c.args.self.now.words.items c.args.n _ c.requires.room c.index_mut-word.ensures.value

pub invariant_of-self-clause-counted : goal.invariant_of-self-clause-counted
invariant_of-self-clause-counted c =
    let s = set_of-written_with c.args.self.now.words.items c.args.n _ c.requires.room c.index_mut-word.ensures.value in
    ap (λ n. n + 1) c.args.self.now.counted ∙ sym (ap set.len s ∙ len_one_more _ c.args.n c.requires.new)
