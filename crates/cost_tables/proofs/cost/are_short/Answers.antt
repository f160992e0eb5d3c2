use Rattle.std.proofs.Common.{arith, subst, All, List}
use Rattle.std.proofs.lemmas.List.{take_all}
use Rattle.std.proofs.lemmas.List.Elements.{All-more}
use Rattle.cost_tables.specs.declared.cost.Cost.{Cost}
use Rattle.cost_tables.specs.declared.cost.Cost.TheVariants.{Number}
use Rattle.cost_tables.specs.TableRows.{value_of}
use Rattle.cost_tables.specs.Shapes.{IsShort}
use Rattle.cost_tables.proofs.cost.are_short.Goals as goal

pub loop-cost-preserved : goal.loop-cost-preserved
loop-cost-preserved c = All-more (λ (cost : Cost). IsShort (value_of cost)) c.args.costs.now c.loop-cost.cost-index (Number 0) (omega arith) c.loop-cost.invariant c.is_short.ensures

pub returns : goal.returns
returns c = subst (λ (xs : List Cost). All (λ cost. IsShort (value_of cost)) xs) (take_all c.loop-cost.cost-index c.args.costs.now (omega arith)) c.loop-cost.invariant
