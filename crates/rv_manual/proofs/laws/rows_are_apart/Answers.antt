use Rattle.rv_manual.proofs.ManualEquivalence.{apart}
use Rattle.rv_manual.proofs.laws.rows_are_apart.Goals as goal

pub returns : goal.returns
returns c = λ w l. apart w l (c.rows_are_apart.ensures w)
