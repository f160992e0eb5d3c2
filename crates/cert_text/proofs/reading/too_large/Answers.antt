use Rattle.std.proofs.Common.{ℕ, ap, ◌∙◌}
use Rattle.line_texts.specs.declared.fault.Fault.TheVariants.{At}
use Rattle.cert_text.specs.Faults.{first_column}
use Rattle.cert_text.specs.ReaderState.{left}
use Rattle.cert_text.proofs.reading.too_large.Goals as goal

pub returns : goal.returns
unfolding left
returns c = ap (λ (column : ℕ). At 5 c.args.first.now.number column) (c.first_column.ensures ∙ (λ i. first_column (c.new.ensures i).words (c.new.ensures i).end))
