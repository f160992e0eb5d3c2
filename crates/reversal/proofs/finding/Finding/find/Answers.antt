use Rattle.std.proofs.Common.{ℕ, refl, subst}
use Rattle.segment_sweep.specs.LastMatch.{Found}
use Rattle.reversal.specs.Moment.{Moment, beside}
use Rattle.reversal.specs.CommandFind.{query_of}
use Rattle.reversal.proofs.SearchProgress.{marking_halted, seeking_halted, seek_told}
use Rattle.reversal.proofs.finding.Finding.find.Goals as goal

pub returns-in_default : goal.returns-in_default
returns-in_default g c other =
    let f = c.args.self in
    let seen : ℕ → Moment = λ steps. beside g.O.Sink other c.args.out.now steps in
    marking_halted f.start f.journal f.steps f.workers f.digest (seen c.args.counter.now) (seen c.make.new.steps) refl refl refl c.make.ensures.least c.make.ensures.most (record { sink = refl; keepers = λ k. refl })

pub returns : goal.returns
returns g c other =
    let f = c.args.self in
    let seen : g.row.O.Denot → ℕ → Moment = λ out steps. beside g.O.Sink other out steps in
    let F : ℕ → Type 0 = λ n. Found (query_of f.start f.journal n f.digest) c.in-Ok-find_digest.place in
    seek_told f.start f.journal f.steps f.workers f.digest (seen c.args.out.now c.args.counter.now) (seen c.write_answer.new.out c.make.new.steps) refl c.in-Ok.ensures.counted c.in-Ok-find_digest.place
    (subst F c.in-Ok.ensures.count (c.in-Ok-find_digest.ensures f.start c.in-Ok.ensures.stand)) c.write_answer.ensures.calls c.write_answer.result c.write_answer.ensures.ends (λ k. refl)

pub returns-in_default-find_digest : goal.returns-in_default-find_digest
returns-in_default-find_digest g c other =
    let f = c.args.self in
    let seen : ℕ → Moment = λ steps. beside g.O.Sink other c.args.out.now steps in
    seeking_halted f.start f.journal f.steps f.workers f.digest (seen c.args.counter.now) (seen c.make.new.steps) refl c.in-Ok.ensures.counted refl refl (record { sink = refl; keepers = λ k. refl })
