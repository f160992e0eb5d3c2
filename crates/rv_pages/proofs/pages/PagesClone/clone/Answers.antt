use Rattle.std.proofs.Common.{replicate, ◌*◌, ◌≡◌, ℕ, List, length, get_or, ap, sym, subst, ◌∙◌, arith}
use Rattle.std.proofs.lemmas.List.{with_items_is, length-replicate}
use Rattle.rv_pages.specs.PageLayout.{memory_kept, ArePages}
use Rattle.rv_pages.proofs.TableEntries.{zeros_get}
use Rattle.rv_pages.proofs.PageInvariant.{copied_whole}
use Rattle.rv_pages.proofs.pages.PagesClone.clone.Goals as goal

pub invariant_of-result : goal.invariant_of-result
invariant_of-result c =
    let bytes : List ℕ = c.self.inside.bytes.items in
    let words : List ℕ = c.self.inside.written.words in
    let zeros : c.in_ok-bytes.bytes.items ≡ replicate (4096 * c.len.result) 0 = c.in_ok-bytes.ensures in
    let count : 4096 * c.len.result ≡ length bytes = ap (λ n. 4096 * n) (c.len.ensures ∙ c.self.inside.numbers.ok.0) ∙ sym c.self.invariant.kept.whole in
    let before : length c.in_ok-bytes.bytes.items ≡ length bytes = ap length zeros ∙ length-replicate (4096 * c.len.result) 0 ∙ count in
    let long : length c.copy_marked.new.bytes ≡ length c.in_ok-bytes.bytes.items = c.copy_marked.ensures.long ∙ ap length c.deref_mut.ensures.value in
    let copied = copied_whole c.in_ok-bytes.bytes.items bytes c.copy_marked.new.bytes words words words (long ∙ before) (λ k. omega arith)
    (λ place none. ap (λ bs. get_or bs place 0) zeros ∙ zeros_get (4096 * c.len.result) place) c.self.invariant.unmarked
    (λ place one. c.copy_marked.ensures.copied place one ∙ ap (λ bs. get_or bs place 0) c.deref-2.ensures.value)
    (λ place none. c.copy_marked.ensures.others place none ∙ ap (λ bs. get_or bs place 0) c.deref_mut.ensures.value)
    in
    let items = with_items_is c.in_ok-bytes.bytes c.copy_marked.new.bytes (long ∙ sym c.in_ok-bytes.bytes.ok.0) ∙ copied in
    subst (λ bs. ArePages c.in_ok-numbers.numbers.items c.in_ok-tables.tables.tops.items c.in_ok-tables.tables.lows.items bs words) (sym items)
    (subst (λ ls. ArePages c.in_ok-numbers.numbers.items c.in_ok-tables.tables.tops.items ls bytes words) (sym c.in_ok-tables.ensures.lows)
    (subst (λ ts. ArePages c.in_ok-numbers.numbers.items ts c.self.inside.tables.lows.items bytes words) (sym c.in_ok-tables.ensures.tops)
    (subst (λ ns. ArePages ns c.self.inside.tables.tops.items c.self.inside.tables.lows.items bytes words) (sym (c.in_ok-numbers.ensures.items ∙ c.deref.ensures.value)) c.self.invariant)))

pub returns : goal.returns
returns c =
    let bytes : List ℕ = c.self.inside.bytes.items in
    let words : List ℕ = c.self.inside.written.words in
    let zeros : c.in_ok-bytes.bytes.items ≡ replicate (4096 * c.len.result) 0 = c.in_ok-bytes.ensures in
    let count : 4096 * c.len.result ≡ length bytes = ap (λ n. 4096 * n) (c.len.ensures ∙ c.self.inside.numbers.ok.0) ∙ sym c.self.invariant.kept.whole in
    let before : length c.in_ok-bytes.bytes.items ≡ length bytes = ap length zeros ∙ length-replicate (4096 * c.len.result) 0 ∙ count in
    let long : length c.copy_marked.new.bytes ≡ length c.in_ok-bytes.bytes.items = c.copy_marked.ensures.long ∙ ap length c.deref_mut.ensures.value in
    let copied = copied_whole c.in_ok-bytes.bytes.items bytes c.copy_marked.new.bytes words words words (long ∙ before) (λ k. omega arith)
    (λ place none. ap (λ bs. get_or bs place 0) zeros ∙ zeros_get (4096 * c.len.result) place) c.self.invariant.unmarked
    (λ place one. c.copy_marked.ensures.copied place one ∙ ap (λ bs. get_or bs place 0) c.deref-2.ensures.value)
    (λ place none. c.copy_marked.ensures.others place none ∙ ap (λ bs. get_or bs place 0) c.deref_mut.ensures.value)
    in
    let items = with_items_is c.in_ok-bytes.bytes c.copy_marked.new.bytes (long ∙ sym c.in_ok-bytes.bytes.ok.0) ∙ copied in
    record { cases = (λ i. memory_kept ((c.in_ok-numbers.ensures.items ∙ c.deref.ensures.value) i) (items i)) ∙ c.self.view_is }
