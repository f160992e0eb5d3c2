use Rattle.std.proofs.Common.{rules}
use Rattle.action_text.proofs.CanonicalSpelling.{four_there}
use Rattle.action_text.proofs.canonical.behind_four.Goals as goal

pub returns : goal.returns
returns c = four_there c.args.bytes.now c.args.word.now _ _ c.in-len4-up.len_at_least (search rules) (search rules) (search rules) c.from_le_bytes.ensures c.from_le_bytes-2.ensures c.if-from_le_bytes.false
