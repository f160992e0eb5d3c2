use Rattle.std.proofs.Common.{ℕ, ◌+◌, ap, sym, ◌∙◌}
use Rattle.line_texts.specs.declared.fault.Fault.TheVariants.{At}
use Rattle.cert_text.specs.ReaderState.{Unread, unread}
use Rattle.cert_text.proofs.reader.Reader.line.Goals as goal

pub returns-in-Ok : goal.returns-in-Ok
unfolding unread
returns-in-Ok c = (
  ap (λ (u : Unread). u.lines) (sym c.self.view_is) ∙ c.in-Ok.ensures.0,
  c.in-Ok.ensures.1 ∙ ap (λ (u : Unread). u.count) c.self.view_is,
  c.in-Ok.ensures.2,
)

pub returns-in-Err : goal.returns-in-Err
unfolding unread
returns-in-Err c = (
  ap (λ (u : Unread). u.lines) (sym c.self.view_is) ∙ c.in-Err.ensures.0,
  ap (λ (n : ℕ). At 4 (n + 1) 1) (c.in-Err.ensures.1 ∙ ap (λ (u : Unread). u.count) c.self.view_is),
)
