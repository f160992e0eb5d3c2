use Rattle.std.proofs.Common.{sym, arith, arith, arith, ◌∙◌, Some}
use Rattle.rv_decode.specs.declared.instruction.Inst.TheVariants.{Lui, Auipc, Jal}
use Rattle.rv_decode.proofs.Groups.{decoded_lui, decoded_auipc, decoded_jal, decoded_jalr, decoded_branch, decoded_load, decoded_store, decoded_on_immediate, decoded_on_register, decoded_fence, decoded_system, decoded_none}
use Rattle.rv_decode.proofs.decoding.decode.Goals as goal

pub returns-in-103-clause-table : goal.returns-in-103-clause-table
returns-in-103-clause-table c = c.jalr.ensures ∙ sym (decoded_jalr c.args.word (sym c.opcode.ensures ∙ c.in-103.is))

pub returns-in-99-clause-table : goal.returns-in-99-clause-table
returns-in-99-clause-table c = c.branch-word.ensures ∙ sym (decoded_branch c.args.word (sym c.opcode.ensures ∙ c.in-99.is))

pub returns-in-3-clause-table : goal.returns-in-3-clause-table
returns-in-3-clause-table c = c.load.ensures ∙ sym (decoded_load c.args.word (sym c.opcode.ensures ∙ c.in-3.is))

pub returns-in-35-clause-table : goal.returns-in-35-clause-table
returns-in-35-clause-table c = c.store.ensures ∙ sym (decoded_store c.args.word (sym c.opcode.ensures ∙ c.in-35.is))

pub returns-in-19-clause-table : goal.returns-in-19-clause-table
returns-in-19-clause-table c = c.on_immediate.ensures ∙ sym (decoded_on_immediate c.args.word (sym c.opcode.ensures ∙ c.in-19.is))

pub returns-in-51-clause-table : goal.returns-in-51-clause-table
returns-in-51-clause-table c = c.on_register.ensures ∙ sym (decoded_on_register c.args.word (sym c.opcode.ensures ∙ c.in-51.is))

pub returns-in-15-clause-table : goal.returns-in-15-clause-table
returns-in-15-clause-table c = c.fence.ensures ∙ sym (decoded_fence c.args.word (sym c.opcode.ensures ∙ c.in-15.is))

pub returns-in-115-clause-table : goal.returns-in-115-clause-table
returns-in-115-clause-table c = c.system.ensures ∙ sym (decoded_system c.args.word (sym c.opcode.ensures ∙ c.in-115.is))

pub returns-in-55-clause-table : goal.returns-in-55-clause-table
returns-in-55-clause-table c = (λ i. Some (Lui (c.rd.ensures i) (c.imm_u.ensures i))) ∙ sym (decoded_lui c.args.word (sym c.opcode.ensures ∙ c.in-55.is))

pub returns-in-23-clause-table : goal.returns-in-23-clause-table
returns-in-23-clause-table c = (λ i. Some (Auipc (c.rd-in-23.ensures i) (c.imm_u-in-23.ensures i))) ∙ sym (decoded_auipc c.args.word (sym c.opcode.ensures ∙ c.in-23.is))

pub returns-in-111-clause-table : goal.returns-in-111-clause-table
returns-in-111-clause-table c = (λ i. Some (Jal (c.rd-in-111.ensures i) (c.imm_j.ensures i))) ∙ sym (decoded_jal c.args.word (sym c.opcode.ensures ∙ c.in-111.is))

pub returns-in_default-clause-table : goal.returns-in_default-clause-table
returns-in_default-clause-table c = sym (decoded_none c.args.word c.opcode.result (sym c.opcode.ensures) (omega arith) (omega arith) (omega arith) (omega arith) (omega arith) (omega arith) (omega arith) (omega arith) (omega arith) (omega arith) (omega arith))
