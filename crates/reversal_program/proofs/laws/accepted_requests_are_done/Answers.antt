use Rattle.std.proofs.Common.{inl, inr, List, ℕ, map, Option, subst}
use Rattle.std.proofs.lemmas.Bool.{cases_eq}
use Rattle.keepers.specs.AnyKeeper.{slots_of}
use Rattle.requests.specs.Inputs.{inputs_of, contents}
use Rattle.reversal.specs.Decision.{Decides, EndsBy}
use Rattle.reversal.specs.Table.{Decision, accept}
use Rattle.reversal_program.specs.Run.{seen}
use Rattle.reversal_program.proofs.laws.accepted_requests_are_done.Goals as goal

pub returns : goal.returns
returns g c words files asked asked2 faults faults2 before after out out2 steps steps2 ended run r asks job decides tells quiet nothing = elim (cases_eq ended.status 17) [
  | inl memory ↦ inr (run.memory memory).0
  | inr some ↦ elim (cases_eq ended.status 3) [
    | inl input ↦ absurd (quiet (run.input_cause input))
    | inr read ↦
        let d = run.decided r asks read some in
        let comes = d.1 in
        let D : List (Option (List ℕ)) → Type 0 = λ l. Decides r l (map slots_of before) d.0 in
        let here = subst D comes.as_told comes.decides in
        let same = c.decisions_are_unique.ensures r (contents files (inputs_of r.command)) (map slots_of before) d.0 (accept job) here decides in
        let E : Decision → Type 0 = λ x. EndsBy x ended (seen g.D.Disk.told g.W.Write.contents out before steps) (seen g.D.Disk.told g.W.Write.contents out2 after steps2) in
        inl (c.accepted_jobs_are_done.ensures job ended (seen g.D.Disk.told g.W.Write.contents out before steps) (seen g.D.Disk.told g.W.Write.contents out2 after steps2) (subst E same d.3) tells nothing).0
  ]
]
