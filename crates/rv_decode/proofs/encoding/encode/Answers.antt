use Rattle.std.proofs.Common.{ap, ◌∙◌}
use Rattle.rv_decode.specs.Rows.{decoded}
use Rattle.rv_decode.proofs.EncodingRoundTrip.{read}
use Rattle.rv_decode.proofs.EncodingUniqueness.{only}
use Rattle.rv_decode.proofs.encoding.encode.Goals as goal

pub returns-clause-read_again : goal.returns-clause-read_again
returns-clause-read_again c = ap decoded c.word_from.ensures ∙ read c.args.inst.now c.requires

pub returns-clause-only_word : goal.returns-clause-only_word
returns-clause-only_word c = λ word l e. c.word_from.ensures ∙ only word c.args.inst.now l e
