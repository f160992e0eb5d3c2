use Rattle.std.proofs.Common.{IfSome, subst}
use Rattle.rv_decode.specs.Ranges.{HasRanges}
use Rattle.rv_decode.proofs.FieldRanges.{decoded_ranges}
use Rattle.rv_machine.proofs.memo.Memo.decode.Goals as goal

pub returns-then-enter-clause-ranges : goal.returns-then-enter-clause-ranges
returns-then-enter-clause-ranges c = subst (λ o. IfSome o HasRanges) c.inst_at.ensures (decoded_ranges c.args.word c.ranges.word.fits)
