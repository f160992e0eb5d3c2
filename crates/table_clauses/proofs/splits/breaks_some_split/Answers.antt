use Rattle.std.proofs.Common.{◌-◌, arith, refl, sym, ◌∙◌}
use Rattle.std.proofs.lemmas.Bool.{false≢true}
use Rattle.table_clauses.proofs.splits.breaks_some_split.Goals as goal

pub returns-then-not-is_at_most : goal.returns-then-not-is_at_most
returns-then-not-is_at_most c =
    let j = c.loop-j.j in let i = c.args.l - c.loop-j.j in
    (λ _. (j, i, c.loop-j.auto.j, omega arith, omega arith, λ le. false≢true (sym c.if-not-is_at_most.true ∙ c.is_at_most.ensures.1 le)), λ _. refl)
