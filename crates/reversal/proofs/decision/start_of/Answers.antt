use Rattle.std.proofs.Common.{◌≡◌, ℕ, Bool, subst}
use Rattle.endings.specs.Outcomes.{bad_program}
use Rattle.requests.specs.Request.{says_raw, stack_pages}
use Rattle.reversal.specs.InputMeaning.{IsStartOf, HasProgramFault}
use Rattle.reversal.specs.JobModel.{IsRefusal}
use Rattle.reversal.proofs.DecisionLaws.{on_error}
use Rattle.reversal.proofs.Refusals.{program_refused}
use Rattle.reversal.proofs.decision.start_of.Goals as goal

pub returns-in_err-load_start-clause-refused : goal.returns-in_err-load_start-clause-refused
returns-in_err-load_start-clause-refused c =
    on_error c.from_residual.result _ _ c.from_residual.ensures.1 (λ e gives.
    let kind : c.says_raw.result ≡ says_raw c.args.options.now = cc in
    let pages : c.stack_pages-stack.result ≡ stack_pages c.args.options.now = cc in
    let S : ℕ → Type 0 = λ n. IsRefusal (HasProgramFault c.says_raw.result n c.args.bytes.now) bad_program e in
    let P : Bool → Type 0 = λ b. IsRefusal (HasProgramFault b (stack_pages c.args.options.now) c.args.bytes.now) bad_program e in
    subst P kind (subst S pages (program_refused c.says_raw.result c.stack_pages-stack.result c.args.bytes.now c.in_err-load_start.field-0.0 e c.in_err-load_start.ensures.refused gives)))

pub returns-clause-found : goal.returns-clause-found
returns-clause-found c =
    let kind : c.says_raw.result ≡ says_raw c.args.options.now = cc in
    let pages : c.stack_pages-stack.result ≡ stack_pages c.args.options.now = cc in
    let S : ℕ → Type 0 = λ n. IsStartOf c.says_raw.result n c.args.bytes.now c.in_ok-load_start.field-0 in
    let P : Bool → Type 0 = λ b. IsStartOf b (stack_pages c.args.options.now) c.args.bytes.now c.in_ok-load_start.field-0 in
    subst P kind (subst S pages c.in_ok-load_start.ensures.found)
