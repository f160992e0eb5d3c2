use Rattle.action_text.proofs.NextToken.{seen_whole}
use Rattle.action_text.proofs.cursor.Cursor.new.Goals as goal

pub returns : goal.returns
returns c = seen_whole c.args.bytes.now
