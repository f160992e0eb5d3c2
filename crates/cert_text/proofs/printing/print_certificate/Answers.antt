use Rattle.keepers.specs.LineWrites.{seen}
use Rattle.cert_text.specs.Canonical.{pieces, canonical}
use Rattle.cert_text.proofs.WordWrites.{added_told, stopped_told}
use Rattle.cert_text.proofs.CanonicalRoundTrip.{joined}
use Rattle.cert_text.proofs.printing.print_certificate.Goals as goal

pub returns-clause-ok : goal.returns-clause-ok
returns-clause-ok g c =
    let look = seen g.O.Sink in
    let k = c.args.certificate.now in
    added_told c.print.result (pieces k) (canonical k) (look c.args.out.now) (look c.print.new.out) (joined k) c.print.ensures.ok

pub returns-clause-refused : goal.returns-clause-refused
returns-clause-refused g c =
    let look = seen g.O.Sink in
    let k = c.args.certificate.now in
    stopped_told c.print.result (pieces k) (canonical k) (look c.args.out.now) (look c.print.new.out) (joined k) c.print.ensures.stopped
