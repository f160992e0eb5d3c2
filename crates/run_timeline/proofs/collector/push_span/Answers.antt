use Rattle.std.proofs.Common.{◌≡◌, ℕ, ◌+◌, List, [], ◌∷◌, ◌++◌, append_assoc, sym, ap, ◌∙◌, rules, Some}
use Rattle.rv_pages.specs.Memory.{byte_at}
use Rattle.rv_pages.proofs.MemoryReads.{bytes_at_more, byte_at_wrapped}
use Rattle.run_timeline.proofs.collector.push_span.Goals as goal

-- one more byte
pub loop-k-preserved : goal.loop-k-preserved
loop-k-preserved c =
    let before = c.loop-k.invariant in
    let bs : List ℕ = before.0 in
    let b : ℕ = c.unwrap-byte.result in
    let at : ℕ = c.args.span.now.at in
    let here : byte_at c.args.pages.now (at + c.loop-k.k) ≡ Some b = byte_at_wrapped c.args.pages.now (at + c.loop-k.k) ∙ sym c.load8.ensures ∙ c.unwrap-byte.ensures in
    let items : c.push.new.self.items ≡ c.loop-k.out.items ++ b ∷ [] = search rules in
    (bs ++ b ∷ [], (bytes_at_more c.args.pages.now c.loop-k.k at b bs before.1.0 here, items ∙ ap (λ xs. xs ++ b ∷ []) before.1.1 ∙ append_assoc c.args.out.now.items bs (b ∷ [])))
