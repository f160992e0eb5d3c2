use Rattle.std.proofs.Common.{◌-◌, ◌∙◌, ap, sym, arith}
use Rattle.std.specs.FinSet as set
use Rattle.schedule_rules.proofs.BitsLemmas.{set_of-written_without, word_of_member, len_one_less, len_of_member}
use Rattle.schedule_rules.proofs.positions.Positions.remove.Goals as goal

pub index_mut-word-requires : goal.index_mut-word-requires
index_mut-word-requires c = omega (arith, word_of_member c.args.self.now.words.items c.args.n c.requires, c.args.self.now.words.ok)

pub overflow_sub-self : goal.overflow_sub-self
overflow_sub-self c = omega (arith, len_of_member _ c.args.n c.requires, c.args.self.now.counted)

pub returns-clause-set : goal.returns-clause-set
returns-clause-set c =
    set_of-written_without c.args.self.now.words.items c.args.n _ (word_of_member c.args.self.now.words.items c.args.n c.requires) c.index_mut-word.ensures.value

pub invariant_of-self-clause-counted : goal.invariant_of-self-clause-counted
invariant_of-self-clause-counted c =
    let s = set_of-written_without c.args.self.now.words.items c.args.n _ (word_of_member c.args.self.now.words.items c.args.n c.requires) c.index_mut-word.ensures.value in
    ap (λ n. n - 1) c.args.self.now.counted ∙ sym (ap set.len s ∙ len_one_less _ c.args.n c.requires)
