use Rattle.std.proofs.Common.{◌≡◌, Some, replicate, refl, sym, ap, ◌∙◌}
use Rattle.std.proofs.lemmas.List.{get_or-replicate}
use Rattle.rv_decode.specs.declared.instruction.Inst.{Inst}
use Rattle.rv_decode.specs.declared.instruction.Inst.TheVariants.{Ecall}
use Rattle.rv_decode.specs.Rows.{decoded}
use Rattle.rv_machine.specs.Memo.{AreDecoded}
use Rattle.rv_machine.proofs.memo.Memo.new.Goals as goal

ecall : decoded 115 ≡ Some Ecall
unfolding decoded
ecall = refl

ecalls : AreDecoded (replicate 1024 115) (replicate 1024 Ecall)
ecalls k inst l = ap decoded (get_or-replicate 1024 k 115 0 l) ∙ ecall ∙ sym (ap (λ (i : Inst). Some i) (get_or-replicate 1024 k Ecall inst l))

pub invariant_of-result : goal.invariant_of-result
invariant_of-result c = record { words_size = refl; insts_size = refl; decoded = ecalls }
