use Rattle.std.proofs.Common.{inr, List, ℕ, [], ◌∷◌, refl, sym, ap, subst, ◌∙◌}
use Rattle.rv_asm.specs.Source.{HasFault}
use Rattle.endings.specs.Outcomes.{bad_source}
use Rattle.reversal.specs.Job.{write}
use Rattle.reversal.specs.Table.{accept}
use Rattle.reversal.specs.CommandAsm.{word_bytes, DecidesAsm}
use Rattle.reversal.proofs.DecisionLaws.{read_refuses}
use Rattle.reversal.proofs.Refusals.{source_refused}
use Rattle.reversal.proofs.asm.decide_asm.Goals as goal

pub returns-in-Err : goal.returns-in-Err
returns-in-Err c counts =
    let refused = read_refuses _ (HasFault c.args.source.now) bad_source c.bad_source.result _ (source_refused c.args.source.now c.in-Err.fault c.bad_source.result c.in-Err.ensures.refused c.bad_source.ensures) in
    record { accepted = tt; can_be_done = tt; room = tt; refused = refused }

pub returns : goal.returns
returns c counts =
    let D : List ℕ → Type 0 = λ l. DecidesAsm c.args.source.now (accept (write (l ∷ []))) in
    record {
      accepted = subst D (sym (c.in_ok-bytes.ensures ∙ ap word_bytes c.deref.ensures.value)) (inr (c.in-Ok.words.items, c.in-Ok.ensures.found, refl));
      can_be_done = tt;
      room = tt;
      refused = tt;
    }
