use Rattle.std.proofs.Common.{ℕ, List, [], ◌∷◌, inl, inr, refl, sym, subst}
use Rattle.reversal.specs.declared.job.Job.{Job}
use Rattle.reversal.specs.Job.{write}
use Rattle.reversal.specs.Moment.{moment}
use Rattle.reversal.specs.Course.{EndsShowing}
use Rattle.reversal.specs.Decision.{course_of}
use Rattle.reversal.specs.JobModel.{job_of, Does}
use Rattle.reversal.proofs.JobResults.{does_alone}
use Rattle.reversal.proofs.job.Job.work.Goals as goal

pub returns-in-Perform : goal.returns-in-Perform
returns-in-Perform g c =
    let P : Job → Type 0 = λ j. Does g.O.Sink g.K.Storage (job_of j) c.perform.result c.args.out.now c.perform.new.out c.args.keepers.now c.perform.new.keepers c.args.counter.now c.perform.new.counter in
    subst P (sym c.in-Perform.is) c.perform.ensures

pub returns-in-Ask : goal.returns-in-Ask
returns-in-Ask g c =
    let P : Job → Type 0 = λ j. Does g.O.Sink g.K.Storage (job_of j) c.answer.result c.args.out.now c.answer.new.out c.args.keepers.now c.answer.new.keepers c.args.counter.now c.answer.new.counter in
    subst P (sym c.in-Ask.is) c.answer.ensures

pub returns-in-Find : goal.returns-in-Find
returns-in-Find g c =
    let old = moment g.O.Sink g.K.Storage c.args.out.now c.args.keepers.now.items c.args.counter.now in
    let P : Job → Type 0 = λ j. Does g.O.Sink g.K.Storage (job_of j) c.find.result c.args.out.now c.find.new.out c.args.keepers.now c.args.keepers.now c.args.counter.now c.find.new.counter in
    subst P (sym c.in-Find.is) (does_alone g.O.Sink g.K.Storage _ _ _ _ _ _ _ (λ none. none) (inr (c.find.ensures old)))

pub returns-in-Write : goal.returns-in-Write
returns-in-Write g c =
    let old = moment g.O.Sink g.K.Storage c.args.out.now c.args.keepers.now.items c.args.counter.now in
    let new = moment g.O.Sink g.K.Storage c.write_bytes.new.out c.args.keepers.now.items c.args.counter.now in
    let P : Job → Type 0 = λ j. Does g.O.Sink g.K.Storage (job_of j) c.write_bytes.result c.args.out.now c.write_bytes.new.out c.args.keepers.now c.args.keepers.now c.args.counter.now c.args.counter.now in
    let W : List ℕ → Type 0 = λ l. EndsShowing (course_of (write (l ∷ []))) c.write_bytes.result old new in
    subst P (sym c.in-Write.is) (does_alone g.O.Sink g.K.Storage _ _ _ _ _ _ _ (λ none. none) (inr (inl (subst W c.bytes.ensures.value (c.write_bytes.ensures old c.args.counter.now)))))

pub returns-in-Bytes : goal.returns-in-Bytes
returns-in-Bytes g c =
    let old = moment g.O.Sink g.K.Storage c.args.out.now c.args.keepers.now.items c.args.counter.now in
    let new = moment g.O.Sink g.K.Storage c.write_bytes-in-Bytes.new.out c.args.keepers.now.items c.args.counter.now in
    let P : Job → Type 0 = λ j. Does g.O.Sink g.K.Storage (job_of j) c.write_bytes-in-Bytes.result c.args.out.now c.write_bytes-in-Bytes.new.out c.args.keepers.now c.args.keepers.now c.args.counter.now c.args.counter.now in
    let W : List ℕ → Type 0 = λ l. EndsShowing (course_of (write (l ∷ []))) c.write_bytes-in-Bytes.result old new in
    subst P (sym c.in-Bytes.is) (does_alone g.O.Sink g.K.Storage _ _ _ _ _ _ _ (λ none. none) (inr (inl (subst W c.deref.ensures.value (c.write_bytes-in-Bytes.ensures old c.args.counter.now)))))

pub returns-in-Report : goal.returns-in-Report
returns-in-Report g c =
    let old = moment g.O.Sink g.K.Storage c.args.out.now c.args.keepers.now.items c.args.counter.now in
    let P : Job → Type 0 = λ j. Does g.O.Sink g.K.Storage (job_of j) c.write.result c.args.out.now c.write.new.out c.args.keepers.now c.args.keepers.now c.args.counter.now c.args.counter.now in
    subst P (sym c.in-Report.is) (does_alone g.O.Sink g.K.Storage _ _ _ _ _ _ _ (λ none. none) (inr (inl (c.write.ensures old c.args.counter.now))))

pub returns-in-Plan : goal.returns-in-Plan
returns-in-Plan g c =
    let old = moment g.O.Sink g.K.Storage c.args.out.now c.args.keepers.now.items c.args.counter.now in
    let P : Job → Type 0 = λ j. Does g.O.Sink g.K.Storage (job_of j) c.write-in-Plan.result c.args.out.now c.write-in-Plan.new.out c.args.keepers.now c.args.keepers.now c.args.counter.now c.args.counter.now in
    subst P (sym c.in-Plan.is) (does_alone g.O.Sink g.K.Storage _ _ _ _ _ _ _ (λ none. none) (inr (inl (c.write-in-Plan.ensures old c.args.counter.now))))

pub returns-in-List : goal.returns-in-List
returns-in-List g c =
    let old = moment g.O.Sink g.K.Storage c.args.out.now c.args.keepers.now.items c.args.counter.now in
    let P : Job → Type 0 = λ j. Does g.O.Sink g.K.Storage (job_of j) c.write-in-List.result c.args.out.now c.write-in-List.new.out c.args.keepers.now c.args.keepers.now c.args.counter.now c.args.counter.now in
    subst P (sym c.in-List.is) (does_alone g.O.Sink g.K.Storage _ _ _ _ _ _ _ (λ none. none) (inr (inl (c.write-in-List.ensures old c.args.counter.now))))

pub returns-in-Console : goal.returns-in-Console
returns-in-Console g c =
    let P : Job → Type 0 = λ j. Does g.O.Sink g.K.Storage (job_of j) c.answer_orders.result c.args.out.now c.answer_orders.new.out c.args.keepers.now c.answer_orders.new.keepers c.args.counter.now c.answer_orders.new.counter in
    subst P (sym c.in-Console.is) c.answer_orders.ensures

pub returns-in-Demonstrate : goal.returns-in-Demonstrate
returns-in-Demonstrate g c =
    let old = moment g.O.Sink g.K.Storage c.args.out.now c.args.keepers.now.items c.args.counter.now in
    let P : Job → Type 0 = λ j. Does g.O.Sink g.K.Storage (job_of j) c.show.result c.args.out.now c.show.new.out c.args.keepers.now c.args.keepers.now c.args.counter.now c.show.new.counter in
    subst P (sym c.in-Demonstrate.is) (does_alone g.O.Sink g.K.Storage _ _ _ _ _ _ _ (λ none. none) (elim (c.show.ensures old) [ inl none ↦ inl (none.0, none.1, refl, none.2) | inr works ↦ inr works ]))
