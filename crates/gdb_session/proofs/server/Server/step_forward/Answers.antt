use Rattle.std.proofs.Common.{◌≡◌, ◌+◌, ap, sym, refl, ◌∙◌, arith}
use Rattle.run_timeline.specs.Moves.{steps_of}
use Rattle.gdb_session.specs.Debugger.{Debugger}
use Rattle.gdb_session.proofs.PendingOutput.{counted_there, shown_after, moved_step}
use Rattle.gdb_session.proofs.server.Server.step_forward.Goals as goal

pub push_output-requires : goal.push_output-requires
push_output-requires g c =
    let s = c.args.self.now in
    let e = c.step_forward-step.new.self in
    let place : e.place ≡ s.session.place + steps_of c.step_forward-step.result = ap (λ (d : Debugger). d.place) c.step_forward-step.ensures.goes in
    let run = ap (λ (d : Debugger). d.run) c.step_forward-step.ensures.goes in
    let from = c.place-from.ensures in
    record {
      behind = omega (arith, place, from);
      counted = counted_there s.session e c.place-from.result c.written-written.result from c.written-written.ensures run;
    }

pub returns-clause-moved : goal.returns-clause-moved
returns-clause-moved g c =
    let s = c.args.self.now in
    let e = c.step_forward-step.new.self in
    let u = c.push_output.new.self in
    let goes = c.step_forward-step.ensures.goes in
    let there : e.place ≡ s.session.place + steps_of c.step_forward-step.result = ap (λ (d : Debugger). d.place) goes in
    let session = goes ∙ ap (λ n. record s.session { place = n }) (sym there) in
    let shown = shown_after s (record s { session = e }) u c.place-from.result c.place-from.ensures session refl refl c.in_ok-push_output.ensures.shows c.push_output.ensures.same in
    let place : u.session.place ≡ s.session.place + steps_of c.step_forward-step.result = ap (λ (d : Debugger). d.place) c.push_output.ensures.same.session ∙ there in
    (shown.0, moved_step s u c.step_forward-step.result c.halt_of_step.result shown.0 c.step_forward-step.ensures.value c.halt_of_step.ensures place shown.1, shown.2)
