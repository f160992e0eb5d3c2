use Rattle.std.proofs.Common.{◌/◌, ◌%◌, inl, inr, max, ap, sym, ◌∙◌, arith}
use Rattle.std.proofs.lemmas.Bool.{cases_lt}
use Rattle.std.specs.Int.{bit_at}
use Rattle.std.proofs.lemmas.Nat.Bits.{bit_at_or}
use Rattle.rv_pages.proofs.MarkOperations.{past_words}
use Rattle.rv_pages.proofs.marks.Marks.union.Goals as goal

pub returns-clause-marks : goal.returns-clause-marks
returns-clause-marks c = λ k.
    elim (cases_lt (k / 64) 64) [
      | inl l ↦ ap (λ w. bit_at w (k % 64)) (c.loop-word.invariant.1 (k / 64) (omega arith)) ∙ bit_at_or _ _ (k % 64)
      | inr r ↦
          past_words c.loop-word.both k c.loop-word.invariant.0 (omega arith)
          ∙ (λ i. max (sym (past_words c.args.self.now.words k c.requires.mine (omega arith)) i) (sym (past_words c.args.other.now.words k c.requires.theirs (omega arith)) i))
    ]
