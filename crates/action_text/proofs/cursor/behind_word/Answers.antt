use Rattle.std.proofs.Common.{◌≡◌, None, Some, sym, ap, ◌∙◌}
use Rattle.action_text.specs.Tokens.{starts_run}
use Rattle.action_text.proofs.FirstRun.{word_front, word_longer, front_differs, begun_with, not_begun_with}
use Rattle.action_text.proofs.cursor.behind_word.Goals as goal

pub returns-in_err-behind : goal.returns-in_err-behind
returns-in_err-behind c =
    let none : c.from_residual.result ≡ None = c.from_residual.ensures in
    rw none (front_differs c.args.bytes.now c.args.word.now (not_begun_with c.args.bytes.now c.args.word.now c.in_err-behind.ensures))

pub returns-then-starts_run : goal.returns-then-starts_run
returns-then-starts_run c =
    let there = begun_with c.args.bytes.now c.args.word.now c.in_ok-behind.behind.now c.in_ok-behind.ensures in
    word_longer c.args.bytes.now c.args.word.now c.requires there.0 (ap starts_run (sym there.1) ∙ sym c.starts_run.ensures ∙ c.if-starts_run.true)

pub returns : goal.returns
returns c =
    let there = begun_with c.args.bytes.now c.args.word.now c.in_ok-behind.behind.now c.in_ok-behind.ensures in
    word_front c.args.bytes.now c.args.word.now c.requires there.0 (ap starts_run (sym there.1) ∙ sym c.starts_run.ensures ∙ c.if-starts_run.false) ∙ ap Some (sym there.1)
