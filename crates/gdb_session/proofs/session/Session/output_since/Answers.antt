use Rattle.std.proofs.Common.{◌∙◌, ℕ, List, [], sym, ap, subst}
use Rattle.gdb_session.specs.Debugger.{Debugger}
use Rattle.gdb_session.specs.Moves.{ShowsBytes}
use Rattle.gdb_session.proofs.PendingOutput.{silent, nothing_written}
use Rattle.gdb_session.proofs.session.Session.output_since.Goals as goal
use Rattle.gdb_session.proofs.session.Session.output_since.Goals.{then-self-via-then-self, then-self-via-else-self+then-now-written}

pub returns-then-self-clause-bytes : goal.returns-then-self-clause-bytes
returns-then-self-clause-bytes g c =
    let d = c.args.self.now in
    let law = c.is_machine_run.ensures in
    let quiet = ap (λ (e : Debugger). e.quiet) (sym c.self.view_is) in
    let none : ShowsBytes d.quiet d.run c.args.from d.place [] = elim c.then-self.branch [
      | then-self-via-then-self w ↦ silent d c.args.from (quiet ∙ w.if-self.true)
      | then-self-via-else-self+then-now-written w ↦ nothing_written d c.args.from c.args.written law.first law.recorded law.small (sym c.written-now.ensures ∙ w.if-now-written.true) c.requires.counted
    ] in
    subst (λ (l : List ℕ). ShowsBytes d.quiet d.run c.args.from d.place l) (sym c.new.ensures.items) none
