use Rattle.std.proofs.Common.{◌≡◌, ◌≤◌, ◌++◌, [], ◌∷◌, Bool, Some, sym, ◌∙◌, ap, subst}
use Rattle.std.proofs.lemmas.Result.{on_err_weaker}
use Rattle.keepers.specs.Counts.{Rose, raised}
use Rattle.keepers.specs.Claims.{Tells, AddsPrefix}
use Rattle.state_image.specs.Line.{line}
use Rattle.reverse_runner.specs.KeepersSeen.{told_by, calls_to}
use Rattle.reverse_console.specs.ConsoleState.{source_of}
use Rattle.reverse_console.specs.ScriptAnswers.{moment, IsShown, IsOrderShown}
use Rattle.reverse_console.proofs.OrderEffects.{if_ok_both}
use Rattle.reverse_console.proofs.Scripts.{shown_of, same_names, not_over}
use Rattle.reverse_console.proofs.script.show.Goals as goal

pub returns-clause-shown : goal.returns-clause-shown
returns-clause-shown g c =
    let old = c.args.console.now in
    let new = c.perform.new.self in
    let src = source_of old (told_by g.K.Storage c.args.keepers.now.items) in
    let w = c.new-writer.result in
    let v = c.perform.new.visitor in
    let told = g.O.Sink.told in
    let calls = g.O.Sink.call_count in
    let m0 = moment old c.args.steps.now (calls_to g.K.Storage c.args.keepers.now.items) (calls c.args.out.now) in
    let m1 = moment new c.perform.new.steps (calls_to g.K.Storage c.perform.new.keepers.items) (calls c.out-1.given.0) in
    let Q : Bool → Type 0 = λ found. IsOrderShown src c.args.order.now found m0 m1 (told c.args.out.now) (told c.out-1.given.0) in
    let did = c.perform.ensures.performed in
    if_ok_both _ _ Q c.perform.result (λ found h takes.
    let k = shown_of told calls src h.0 found old.place new.place w v h.1.1 in
    let last = c.out-1.given.1 (sym (k.0 ∙ c.new-writer.ensures.same_reference)) in
    let A : g.row.O.Denot → Type 0 = λ o. IsShown src h.0 found (calls o) (calls v.out.now) (told o) (told v.out.now) in
    let B : g.row.O.Denot → Type 0 = λ o. IsShown src h.0 found (calls c.args.out.now) (calls o) (told c.args.out.now) (told o) in
    record { answer = h.0; seen = h.1.0; place = k.2; shown = subst B (sym last) (subst A c.new-writer.ensures.same k.1); takes = takes })
    did.answered did.takes

pub returns-clause-leaves : goal.returns-clause-leaves
returns-clause-leaves g c =
    let v = c.perform.new.visitor in
    let told = g.O.Sink.told in
    let calls = g.O.Sink.call_count in
    let did = c.perform.ensures.performed in
    record {
      missed = λ e.
          let m = did.misses e in
          let missed = m.1.1.2 in
          let last = c.out-1.given.1 (sym (missed.0 ∙ c.new-writer.ensures.same_reference)) in
          let text = line m.0 m.1.0 ++ 10 ∷ [] in
          let A : g.row.O.Denot → Type 0 = λ o. (calls v.out.now ≡ raised (calls o) 1) × Tells (told o) (told v.out.now) (AddsPrefix text) in
          let B : g.row.O.Denot → Type 0 = λ o. (calls o ≡ raised (calls c.args.out.now) 1) × Tells (told c.args.out.now) (told o) (AddsPrefix text) in
          let both = subst B (sym last) (subst A c.new-writer.ensures.same (missed.2, missed.1)) in
          record { answer = Some m.0; piece = text; seen = m.1.1.0; says = (m.1.0, (m.1.1.1, λ i. text)); wrote = both.0; part = both.1; takes = m.1.1.3 };
      unwritten =
          on_err_weaker c.perform.result (λ unseen never.
          let same = unseen never in
          let last = c.out-1.given.1 (sym (ap (λ v. v.out.ghost_name) same ∙ c.new-writer.ensures.same_reference)) in
          let is = last ∙ ap (λ v. v.out.now) same ∙ c.new-writer.ensures.same in
          (ap told is, ap calls is))
          c.perform.ensures.seen.unseen;
      took_until = did.took_until;
      leaves = c.perform.ensures.leaves;
      spared = record {
        not_ended = λ e. not_over c.perform.result c.perform.ensures.ended.0 c.requires.lasts e;
        undamaged = λ first is stands. (c.perform.ensures.in_run first is stands).undamaged;
        roomy = c.perform.ensures.roomy;
      };
      keepers = c.perform.ensures.keepers;
    }

pub returns-clause-faults : goal.returns-clause-faults
returns-clause-faults g c =
    let v = c.perform.new.visitor in
    let count = g.O.Sink.fault_count in
    let A : g.row.O.Denot → Type 0 = λ o. Rose (count o) (count v.out.now) in
    let B : g.row.O.Denot → Type 0 = λ o. Rose (count c.args.out.now) (count o) in
    let old = c.args.console.now in
    let src = source_of old (told_by g.K.Storage c.args.keepers.now.items) in
    let w = c.new-writer.result in
    let name = same_names g.O.Sink.told g.O.Sink.call_count src old.place c.args.order.now c.perform.new.self.place c.perform.result w v c.perform.ensures.performed.answered (λ e. (c.perform.ensures.performed.misses e).1.1.2.0) c.perform.ensures.seen.unseen in
    let last = c.out-1.given.1 (sym (name ∙ c.new-writer.ensures.same_reference)) in
    record {
      cause = λ e.
          let missed = (c.perform.ensures.performed.misses e).1.1.2 in
          let last = c.out-1.given.1 (sym (missed.0 ∙ c.new-writer.ensures.same_reference)) in
          subst B (sym last) (subst A c.new-writer.ensures.same (c.perform.ensures.seen.faults.cause e));
      quiet = λ never. ap count last ∙ c.perform.ensures.seen.faults.quiet never ∙ ap count c.new-writer.ensures.same;
      later =
          let A : g.row.O.Denot → Type 0 = λ o. count o ≤ count v.out.now in
          let B : g.row.O.Denot → Type 0 = λ o. count c.args.out.now ≤ count o in
          subst B (sym last) (subst A c.new-writer.ensures.same c.perform.ensures.seen.faults.later);
    }
