use Rattle.std.proofs.Common.{ℕ, ◌<◌, length, Option, IsSome, ◌∙◌, subst}
use Rattle.keepers.specs.Claims.{Images}
use Rattle.level_book.specs.BookCosts.{BookCosts, slots_of}
use Rattle.reverse_runner.specs.SessionOfRun.{begun, StandsAt}
use Rattle.reversal.specs.declared.demo.Demonstrated.{Demonstrated}
use Rattle.reversal.proofs.DemoProgress.{at_start}
use Rattle.reversal.proofs.demo.Demonstrated.begin.Goals as goal

pub returns-clause-start : goal.returns-clause-start
returns-clause-start c =
    let P : BookCosts → Type 0 = λ b. (told : ℕ → Option Images) → ((k : ℕ) → k < length (slots_of b) → IsSome (told k)) → StandsAt c.args.start c.in_ok-session.session told in
    let d : Demonstrated = record { session = c.in_ok-session.session; actions = c.in_ok-actions.actions; keepers = c.in_ok-keepers.keepers } in
    at_start d c.args.start c.args.steps c.args.slots c.is_machine_state.ensures c.requires.plan
    (c.in_ok-session.ensures.begun ∙ (λ i. begun c.args.start (c.none.ensures i) 1 c.args.steps (slots_of (c.plain-book.ensures i))))
    c.in_ok-actions.ensures c.in_ok-keepers.ensures (subst P c.plain-book.ensures c.in_ok-session.ensures.stands)

pub returns-clause-session : goal.returns-clause-session
returns-clause-session c = c.in_ok-session.ensures.begun ∙ (λ i. begun c.args.start (c.none.ensures i) 1 c.args.steps (slots_of (c.plain-book.ensures i)))

pub returns-clause-list : goal.returns-clause-list
returns-clause-list c = c.in_ok-actions.ensures
