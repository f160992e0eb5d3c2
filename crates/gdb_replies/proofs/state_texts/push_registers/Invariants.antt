use Rattle.std.proofs.Common.{◌≡◌, ◌++◌, take}
use Rattle.std.specs.List.{flat_map}
use Rattle.gdb_replies.specs.StateTexts.{word_text}
use Rattle.gdb_replies.proofs.state_texts.push_registers.Given as goal

abbrev pub invariant-loop-word : goal.invariant-loop-word
invariant-loop-word l = l.out.items ≡ l.fn.out.items ++ flat_map word_text (take l.word-index l.word-items)
