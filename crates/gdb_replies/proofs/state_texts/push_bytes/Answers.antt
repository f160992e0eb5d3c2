use Rattle.std.proofs.Common.{◌+◌, sym, ◌∙◌, append_assoc, append-nil}
use Rattle.gdb_replies.proofs.MemoryDigits.{mapped_none, mapped_some, mapped_end}
use Rattle.gdb_replies.proofs.state_texts.push_bytes.Goals as goal

pub returns-in_default : goal.returns-in_default
returns-in_default c =
    let none = mapped_none c.args.pages.now c.args.at c.loop-k.k c.args.count c.loop-k-test.true (sym c.load8.ensures ∙ c.in_default.is) in
    sym (append-nil c.loop-k.out.items) ∙ (rw none at c.loop-k.invariant)

pub loop-k-preserved : goal.loop-k-preserved
loop-k-preserved c =
    let some = mapped_some c.args.pages.now c.args.at c.loop-k.k c.args.count c.in-Some.byte c.loop-k-test.true (sym c.load8.ensures ∙ c.in-Some.is) in
    rw (c.in_ok-push_hex.ensures, append_assoc) (rw some at c.loop-k.invariant)

pub returns : goal.returns
returns c =
    let none = mapped_end c.args.pages.now (c.args.at + c.loop-k.k) c.loop-k.k c.args.count c.loop-k-test.false in
    sym (append-nil c.loop-k.out.items) ∙ (rw none at c.loop-k.invariant)
