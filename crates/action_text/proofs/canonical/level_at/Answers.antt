use Rattle.std.proofs.Common.{sym, ap, ◌∙◌}
use Rattle.action_text.specs.Bytes.{behind_front}
use Rattle.action_text.proofs.CanonicalSpelling.{level_written}
use Rattle.action_text.proofs.canonical.level_at.Goals as goal

pub returns-then-not-starts_run : goal.returns-then-not-starts_run
returns-then-not-starts_run c = level_written c.args.book.now c.loop-k.k c.level.result.now c.args.bytes.now c.in-Some.rest.now c.level.ensures (ap (behind_front c.args.bytes.now) (sym c.bytes.ensures.value) ∙ c.in-Some.ensures)
