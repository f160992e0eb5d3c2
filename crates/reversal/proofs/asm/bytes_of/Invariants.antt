use Rattle.std.proofs.Common.{◌≡◌, take}
use Rattle.reversal.specs.CommandAsm.{word_bytes}
use Rattle.reversal.proofs.asm.bytes_of.Given as goal

-- the bytes of so many words
abbrev pub invariant-loop-word : goal.invariant-loop-word
invariant-loop-word l = l.bytes.items ≡ word_bytes (take l.word-index l.words)
