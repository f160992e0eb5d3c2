use Rattle.std.proofs.Common.{◌≡◌, ◌<◌, inl, inr, length, get_or, ap, sym, subst, ◌∙◌, arith}
use Rattle.std.proofs.lemmas.List.{with_items_is}
use Rattle.rv_pages.specs.PageLayout.{memory_kept, ArePages}
use Rattle.rv_pages.proofs.MarkOperations.{mark_cases}
use Rattle.rv_pages.proofs.Numbers.{seen_numbers}
use Rattle.rv_pages.proofs.PageInvariant.{copied_whole, pages_copied, marked_inside}
use Rattle.rv_pages.proofs.pages.Pages.copy_from.Goals as goal

pub copy_marked-requires-clause-long : goal.copy_marked-requires-clause-long
copy_marked-requires-clause-long c =
    let mine = seen_numbers c.self.inside.numbers.items c.self.inside.bytes.items _ c.self.invariant.kept c.self.view_is in
    let others = seen_numbers c.other.inside.numbers.items c.other.inside.bytes.items _ c.other.invariant.kept c.other.view_is in
    let same = ap length (sym mine ∙ c.requires ∙ others) in
    let whole : length c.self.inside.bytes.items ≡ length c.other.inside.bytes.items = omega (arith, c.self.invariant.kept.whole, c.other.invariant.kept.whole) in
    ap length c.deref_mut.ensures.value ∙ whole ∙ ap length (sym c.deref.ensures.value)

pub copy_marked-requires-clause-pages : goal.copy_marked-requires-clause-pages
copy_marked-requires-clause-pages c = λ index marked.
    let mine = seen_numbers c.self.inside.numbers.items c.self.inside.bytes.items _ c.self.invariant.kept c.self.view_is in
    let others = seen_numbers c.other.inside.numbers.items c.other.inside.bytes.items _ c.other.invariant.kept c.other.view_is in
    let same = ap length (sym mine ∙ c.requires ∙ others) in
    let is = c.union-written.ensures.marks index in
    let long = ap length c.deref_mut.ensures.value in
    let whole = c.self.invariant.kept.whole in
    let inside : index < length c.self.inside.numbers.items =
    elim (mark_cases c.self.inside.written.words index) [
      | inl none ↦ omega (arith, marked_inside c.other.inside.numbers.items _ _ c.other.inside.bytes.items c.other.inside.written.words c.other.invariant index (omega arith))
      | inr one ↦ marked_inside c.self.inside.numbers.items _ _ c.self.inside.bytes.items c.self.inside.written.words c.self.invariant index one
    ]
    in
    omega arith

pub invariant_of-self : goal.invariant_of-self
invariant_of-self c =
    let mine = seen_numbers c.self.inside.numbers.items c.self.inside.bytes.items _ c.self.invariant.kept c.self.view_is in
    let others = seen_numbers c.other.inside.numbers.items c.other.inside.bytes.items _ c.other.invariant.kept c.other.view_is in
    let numbers = sym mine ∙ c.requires ∙ others in
    let same = ap length numbers in
    let whole : length c.self.inside.bytes.items ≡ length c.other.inside.bytes.items = omega (arith, c.self.invariant.kept.whole, c.other.invariant.kept.whole) in
    let long = c.copy_marked.ensures.long ∙ ap length c.deref_mut.ensures.value in
    let copied = copied_whole c.self.inside.bytes.items c.other.inside.bytes.items c.copy_marked.new.bytes c.self.inside.written.words c.other.inside.written.words c.union-written.result.words (long ∙ whole) c.union-written.ensures.marks c.self.invariant.unmarked c.other.invariant.unmarked
    (λ place one. c.copy_marked.ensures.copied place one ∙ ap (λ bs. get_or bs place 0) c.deref.ensures.value)
    (λ place none. c.copy_marked.ensures.others place none ∙ ap (λ bs. get_or bs place 0) c.deref_mut.ensures.value)
    in
    let items = with_items_is c.self.inside.bytes c.copy_marked.new.bytes (long ∙ sym c.self.inside.bytes.ok.0) ∙ copied in
    subst (λ bs. ArePages c.self.inside.numbers.items c.self.inside.tables.tops.items c.self.inside.tables.lows.items bs c.other.inside.written.words) (sym items)
    (pages_copied c.self.inside.numbers.items _ _ c.self.inside.bytes.items c.self.inside.written.words c.other.inside.numbers.items _ _ c.other.inside.bytes.items c.other.inside.written.words c.self.invariant c.other.invariant numbers)

pub returns : goal.returns
returns c =
    let mine = seen_numbers c.self.inside.numbers.items c.self.inside.bytes.items _ c.self.invariant.kept c.self.view_is in
    let others = seen_numbers c.other.inside.numbers.items c.other.inside.bytes.items _ c.other.invariant.kept c.other.view_is in
    let numbers = sym mine ∙ c.requires ∙ others in
    let same = ap length numbers in
    let whole : length c.self.inside.bytes.items ≡ length c.other.inside.bytes.items = omega (arith, c.self.invariant.kept.whole, c.other.invariant.kept.whole) in
    let long = c.copy_marked.ensures.long ∙ ap length c.deref_mut.ensures.value in
    let copied = copied_whole c.self.inside.bytes.items c.other.inside.bytes.items c.copy_marked.new.bytes c.self.inside.written.words c.other.inside.written.words c.union-written.result.words (long ∙ whole) c.union-written.ensures.marks c.self.invariant.unmarked c.other.invariant.unmarked
    (λ place one. c.copy_marked.ensures.copied place one ∙ ap (λ bs. get_or bs place 0) c.deref.ensures.value)
    (λ place none. c.copy_marked.ensures.others place none ∙ ap (λ bs. get_or bs place 0) c.deref_mut.ensures.value)
    in
    let items = with_items_is c.self.inside.bytes c.copy_marked.new.bytes (long ∙ sym c.self.inside.bytes.ok.0) ∙ copied in
    (λ i. memory_kept (numbers i) (items i)) ∙ c.other.view_is
