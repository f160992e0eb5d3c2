-- No public clause cites this file. Which bytes are tokens by themselves.
use Rattle.std.specs.Prelude.{ℕ}
use Rattle.line_texts.specs.Cursors as texts
use Rattle.rv_asm.specs.Tokens.{is_run_byte}

abbrev pub IsMark : ℕ → Type 0
IsMark byte = texts.IsMark is_run_byte byte
