use Rattle.cert_text.proofs.TextExistence.{disk_sized_has_text}
use Rattle.cert_text.proofs.laws.sized_disk_tables_have_a_text.Goals as goal

pub returns : goal.returns
returns c = disk_sized_has_text c.args.tables.now c.is_shaped.ensures c.is_short.ensures
