use Rattle.std.proofs.Common.{◌≡◌, ℕ, ◌+◌, ◌<◌, ◌≤◌, ◌==◌, ◌∷◌, [], inl, inr, Bool, true, false, cond, not, List, length, filter, take, get_or, set, refl, ap, sym, ◌∙◌, arith}
use Rattle.std.proofs.lemmas.Bool.{cases_lt, cases_eq}
use Rattle.std.proofs.lemmas.List.{length-append, get_or-set_same, get_or-set_other, take_all}
use Rattle.std.proofs.lemmas.List.Elements.{filter_more}
use Rattle.std.specs.List.{list_all}
use mir.Val.{bool_byte}
use Rattle.rv_pages.specs.Memory.{Memory, page_numbers, IsZeroPage}
use Rattle.state_image.specs.Image.{is_stored}
use Rattle.state_image.proofs.HashedPages.{skipped, zero_not_stored}
use Rattle.state_image.proofs.image.mark_stored.Goals as goal

-- one page more is counted
length-one : (b : Bool) (x : ℕ) → length (cond b (x ∷ []) []) ≡ bool_byte b
length-one true x = refl
length-one false x = refl

at_most_one : (b : Bool) → bool_byte b ≤ 1
at_most_one true = omega arith
at_most_one false = omega arith

counted_more : (m : Memory) (from i count : ℕ) (b : Bool) → from ≤ i → i < length (page_numbers m) → ((k : ℕ) → from ≤ k → k < i → IsZeroPage m (get_or (page_numbers m) k 0)) → count ≡ length (filter (is_stored m) (take from (page_numbers m))) → b ≡ is_stored m (get_or (page_numbers m) i 0) → count + bool_byte b ≡ length (filter (is_stored m) (take (i + 1) (page_numbers m)))
counted_more m from i count b order below are before is =
    let ns = page_numbers m in
    let all : count ≡ length (filter (is_stored m) (take i ns)) = before ∙ ap length (skipped m from i order (omega arith) are) in
    (λ k. all k + bool_byte (is k))
    ∙ ap (λ n. length (filter (is_stored m) (take i ns)) + n) (sym (length-one (is_stored m (get_or ns i 0)) (get_or ns i 0)))
    ∙ sym (length-append (filter (is_stored m) (take i ns)) (cond (is_stored m (get_or ns i 0)) (get_or ns i 0 ∷ []) []))
    ∙ ap length (sym (filter_more (is_stored m) ns i 0 below))

-- the mark of a page that was looked at, those before it, and those passed over
marked_more : (m : Memory) (marks : List Bool) (from i : ℕ) (b : Bool) → i < length marks → ((k : ℕ) → k < from → get_or marks k false ≡ is_stored m (get_or (page_numbers m) k 0)) → ((k : ℕ) → from ≤ k → get_or marks k false ≡ false) → ((k : ℕ) → from ≤ k → k < i → IsZeroPage m (get_or (page_numbers m) k 0)) → b ≡ is_stored m (get_or (page_numbers m) i 0) → (k : ℕ) → k < i + 1 → get_or (set marks i b) k false ≡ is_stored m (get_or (page_numbers m) k 0)
marked_more m marks from i b room before after are is k below =
    elim (cases_eq k i) [
      | inl same ↦ ap (λ n. get_or (set marks i b) n false) same ∙ get_or-set_same marks i b false room ∙ is ∙ ap (λ n. is_stored m (get_or (page_numbers m) n 0)) (sym same)
      | inr other ↦ get_or-set_other marks i k b false other ∙ elim (cases_lt k from) [
        | inl l ↦ before k l
        | inr r ↦ after k r ∙ sym (zero_not_stored m (get_or (page_numbers m) k 0) (are k r (omega arith)))
      ]
    ]

pub loop-index-preserved : goal.loop-index-preserved
loop-index-preserved c =
    let m : Memory = c.args.pages.now in
    let i : ℕ = c.in-Some.index in
    let next = c.in-Some.ensures in
    let before = c.loop-index.invariant in
    let b : Bool = not c.is_zero-is_stored.result in
    let is : b ≡ is_stored m (get_or (page_numbers m) i 0) = ap not c.is_zero-is_stored.ensures ∙ ap (λ bytes. not (list_all (λ b. b == 0) bytes)) c.page.ensures.value in
    let one = at_most_one b in
    record {
      inside = omega (arith, next.index.1);
      few = omega (arith, next.few);
      count = omega (arith, next.index.0, before.count, one);
      counted = counted_more m c.loop-index.from i c.loop-index.count b next.index.0 next.index.1 next.zero before.counted is;
      marked = marked_more m c.loop-index.stored c.loop-index.from i b (omega (arith, next.few, c.loop-index.auto.stored, c.requires.room)) before.marked before.unmarked next.zero is;
      unmarked = λ k above. get_or-set_other c.loop-index.stored i k b false (λ (e : k ≡ i). omega arith) ∙ before.unmarked k (omega (arith, next.index.0));
    }

pub returns-clause-count : goal.returns-clause-count
returns-clause-count c =
    let m : Memory = c.args.pages.now in
    c.loop-index.invariant.counted
    ∙ ap length (skipped m c.loop-index.from (length (page_numbers m)) c.loop-index.invariant.inside (omega arith) c.in_default.ensures.zero)
    ∙ ap (λ ns. length (filter (is_stored m) ns)) (take_all (length (page_numbers m)) (page_numbers m) (omega arith))

pub returns-clause-marked : goal.returns-clause-marked
returns-clause-marked c = λ k below.
    let m : Memory = c.args.pages.now in
    elim (cases_lt k c.loop-index.from) [
      | inl l ↦ c.loop-index.invariant.marked k l
      | inr r ↦ c.loop-index.invariant.unmarked k r ∙ sym (zero_not_stored m (get_or (page_numbers m) k 0) (c.in_default.ensures.zero k r below))
    ]
