use Rattle.bound_cert.proofs.PlanCertificates.{disk_accepted}
use Rattle.bound_cert.proofs.Texts.{disk_has_text}
use Rattle.bound_cert.proofs.certifying.certify_disk.Goals as goal

pub returns-clause-accepted : goal.returns-clause-accepted
returns-clause-accepted c list steps book limits fits sized greatest written = disk_accepted list steps book c.args.tables limits fits sized greatest written

pub returns-clause-text : goal.returns-clause-text
returns-clause-text c steps book limits fits are greatest = disk_has_text steps book c.args.tables limits fits are c.is_shaped.ensures greatest
