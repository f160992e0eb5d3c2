use Rattle.std.proofs.Common.{◌≡◌, ◌⊎◌, ℕ, List, map, IfOk, ◌∙◌, subst}
use Rattle.endings.specs.declared.outcome.Outcome.{Outcome}
use Rattle.endings.specs.Outcomes.{no_memory}
use Rattle.requests.specs.Loaded.{Loaded}
use Rattle.requests.specs.InputOutcome.{Stops}
use Rattle.requests.specs.Inputs.{inputs_of}
use Rattle.reversal.specs.Table.{accept, refuse}
use Rattle.reversal.specs.Decision.{DecidesLoaded, Comes}
use Rattle.reversal.specs.JobModel.{job_of, KeepersHaveRoom}
use Rattle.requests.specs.RequestModel.{request_of}
use Rattle.reversal.proofs.TopCall.{Refused, comes_by, stops_refused, decides_refused, no_input_fault, if_error, if_okay}
use Rattle.reversal.proofs.DecisionLaws.{on_error}
use Rattle.reversal.proofs.top.prepared.Goals as goal

pub returns-clause-comes : goal.returns-clause-comes
returns-clause-comes g c =
    let r = request_of c.args.request.now in
    let told = g.I.Inputs.told c.args.inputs.now in
    let before = g.I.Inputs.asked c.args.inputs.now in
    let after = g.I.Inputs.asked c.read_inputs.new.inputs in
    let read = c.in_ok-loaded.ensures.read in
    let same : c.deref.result.now ≡ map g.K.Storage.slot_count c.args.keepers.now = c.deref.ensures.value ∙ c.in_ok-counts.ensures in
    if_okay c.decide.result _ _ (λ job decides.
    let P : List ℕ → Type 0 = λ slots. Comes r told before after slots (accept (job_of job)) in
    let D : Loaded → Type 0 = λ l. DecidesLoaded r.options r.command l c.deref.result.now (accept (job_of job)) in
    subst P same (comes_by r told before after read.0 c.deref.result.now (accept (job_of job)) read.2 (subst D read.1 decides))) c.decide.ensures.accepted

pub returns-clause-room : goal.returns-clause-room
returns-clause-room g c =
    let same : c.deref.result.now ≡ map g.K.Storage.slot_count c.args.keepers.now = c.deref.ensures.value ∙ c.in_ok-counts.ensures in
    let P : List ℕ → Type 0 = λ slots. IfOk c.decide.result (λ job. KeepersHaveRoom job slots) in
    subst P same c.decide.ensures.room

pub returns-clause-refused : goal.returns-clause-refused
returns-clause-refused g c =
    let r = request_of c.args.request.now in
    let told = g.I.Inputs.told c.args.inputs.now in
    let before = g.I.Inputs.asked c.args.inputs.now in
    let after = g.I.Inputs.asked c.read_inputs.new.inputs in
    let read = c.in_ok-loaded.ensures.read in
    let same : c.deref.result.now ≡ map g.K.Storage.slot_count c.args.keepers.now = c.deref.ensures.value ∙ c.in_ok-counts.ensures in
    if_error c.decide.result _ _ (λ e h.
    let P : List ℕ → Type 0 = λ slots. Refused r told e before after slots in
    let D : Loaded → Type 0 = λ l. (e ≡ no_memory) ⊎ DecidesLoaded r.options r.command l c.deref.result.now (refuse e) in
    subst P same (decides_refused r told e before after read.0 c.deref.result.now read.2 (subst D read.1 h))) c.decide.ensures.refused

pub returns-clause-cause : goal.returns-clause-cause
returns-clause-cause g c =
    if_error c.decide.result _ _ (λ e h three. absurd (no_input_fault (request_of c.args.request.now) e _ c.deref.result.now h three)) c.decide.ensures.refused

pub returns-in_err-loaded-clause-refused : goal.returns-in_err-loaded-clause-refused
returns-in_err-loaded-clause-refused g c =
    let r = request_of c.args.request.now in
    let told = g.I.Inputs.told c.args.inputs.now in
    let before = g.I.Inputs.asked c.args.inputs.now in
    let after = g.I.Inputs.asked c.read_inputs.new.inputs in
    on_error c.from_residual.result _ _ c.from_residual.ensures.1 (λ e gives.
    let same : c.in_err-loaded.field-0.0 ≡ e = cc in
    let S : Outcome → Type 0 = λ x. Stops (inputs_of r.command) told x before after in
    stops_refused r told e before after (map g.K.Storage.slot_count c.args.keepers.now) (subst S same c.in_err-loaded.ensures.stops))
