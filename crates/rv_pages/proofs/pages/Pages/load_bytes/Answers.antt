use Rattle.std.proofs.Common.{◌+◌, ◌<◌, length, take, Some, ap, sym, ◌∙◌, arith}
use Rattle.std.proofs.lemmas.List.{take_more_set}
use Rattle.rv_pages.proofs.MemoryReads.{bytes_at_missing, bytes_at_more, byte_at_wrapped}
use Rattle.rv_pages.proofs.pages.Pages.load_bytes.Goals as goal

pub returns-in-None-clause-none : goal.returns-in-None-clause-none
returns-in-None-clause-none c = λ no.
    bytes_at_missing c.args.self.now _ c.loop-k.k c.args.at c.loop-k-test.true (byte_at_wrapped c.args.self.now (c.args.at + c.loop-k.k) ∙ sym c.load8.ensures ∙ c.in-None.is)

pub loop-k-preserved : goal.loop-k-preserved
loop-k-preserved c =
    let inside : c.loop-k.k < length c.loop-k.into = omega arith in
    bytes_at_more c.args.self.now c.loop-k.k c.args.at c.in-Some.loaded (take c.loop-k.k c.loop-k.into) c.loop-k.invariant (byte_at_wrapped c.args.self.now (c.args.at + c.loop-k.k) ∙ sym c.load8.ensures ∙ c.in-Some.is)
    ∙ ap Some (sym (take_more_set c.loop-k.into c.loop-k.k c.in-Some.loaded inside))
