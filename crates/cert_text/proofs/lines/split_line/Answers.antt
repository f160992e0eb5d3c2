use Rattle.cert_text.proofs.LineLemmas.{split_ended, split_open, split_counted, open_counted}
use Rattle.cert_text.proofs.lines.split_line.Goals as goal

pub returns-in-empty-clause-lines : goal.returns-in-empty-clause-lines
returns-in-empty-clause-lines c = λ n.
    split_open n c.length_before.result c.args.bytes.now c.split_at.result.0.now c.split_at.result.1.now
    c.length_before.ensures.value c.split_at.ensures.front c.split_at.ensures.back c.in-empty.len_below

pub returns-in-len1-up-clause-lines : goal.returns-in-len1-up-clause-lines
returns-in-len1-up-clause-lines c = λ n.
    split_ended n c.length_before.result c.args.bytes.now c.split_at.result.0.now c.split_at.result.1.now
    c.length_before.ensures.value c.split_at.ensures.front c.split_at.ensures.back c.in-len1-up.len_at_least

pub returns-in-empty-clause-count : goal.returns-in-empty-clause-count
returns-in-empty-clause-count c =
    open_counted c.length_before.result c.args.bytes.now c.split_at.result.1.now c.length_before.ensures.value c.split_at.ensures.back c.in-empty.len_below c.requires

pub returns-in-len1-up-clause-count : goal.returns-in-len1-up-clause-count
returns-in-len1-up-clause-count c =
    split_counted c.length_before.result c.args.bytes.now c.split_at.result.1.now c.length_before.ensures.value c.split_at.ensures.back c.in-len1-up.len_at_least
