use Rattle.std.proofs.Common.{◌≡◌, ◌≢◌, ℕ, ◌+◌, ◌-◌, ◌*◌, ◌/◌, ◌<◌, ◌≤◌, inl, inr, List, length, get_or, take, drop, ap, sym, ◌∙◌, arith}
use Rattle.std.proofs.lemmas.Bool.{cases_lt, cases_eq}
use Rattle.std.proofs.lemmas.List.{get_or-take, get_or-drop, length-take, length-drop}
use borrow.Rule.Slice.PartMut.{put_mid}
use Rattle.rv_pages.specs.Marks.{mark_of}
use Rattle.rv_pages.proofs.PageWrites.{mid_inside}
use Rattle.rv_pages.proofs.PageInvariant.{outside_page}
use Rattle.rv_pages.proofs.pages.copy_marked.Goals as goal

-- the page that was copied has the other bytes
inside_page : (bytes from : List ℕ) (i place : ℕ) → i * 4096 + 4096 ≤ length bytes → length bytes ≡ length from → place / 4096 ≡ i → get_or (put_mid (i * 4096) 4096 bytes (take 4096 (drop (i * 4096) from))) place 0 ≡ get_or from place 0
inside_page bytes from i place fits long here =
    let r : ℕ = place - i * 4096 in
    let at : i * 4096 + r ≡ place = omega arith in
    let page : List ℕ = take 4096 (drop (i * 4096) from) in
    let whole : r < length page = omega (arith, length-take 4096 (drop (i * 4096) from), length-drop (i * 4096) from) in
    ap (λ k. get_or (put_mid (i * 4096) 4096 bytes page) k 0) (sym at)
    ∙ mid_inside bytes page (i * 4096) 4096 r (omega arith) whole
    ∙ get_or-take 4096 (drop (i * 4096) from) r 0 (omega arith) ∙ get_or-drop (i * 4096) from r 0
    ∙ ap (λ k. get_or from k 0) at

pub loop-next-preserved : goal.loop-next-preserved
loop-next-preserved c =
    let i : ℕ = c.in-Some.index in
    let from : List ℕ = c.args.from.now in
    let bytes : List ℕ = c.loop-next.bytes in
    let page : List ℕ = take 4096 (drop (i * 4096) from) in
    let size : i * 4096 + 4096 - i * 4096 ≡ 4096 = omega arith in
    let next = c.in-Some.ensures in
    let fits : i * 4096 + 4096 ≤ length c.args.bytes.now = c.requires.pages i next.2 in
    let long : length bytes ≡ length c.args.bytes.now = c.loop-next.auto.bytes in
    let is : put_mid (i * 4096) (i * 4096 + 4096 - i * 4096) bytes c.copy_from_slice.new.self ≡ put_mid (i * 4096) 4096 bytes page = λ k. put_mid (i * 4096) (size k) bytes ((c.copy_from_slice.ensures.after ∙ ap (λ n. take n (drop (i * 4096) from)) size) k) in
    let whole : length page ≡ 4096 = omega (arith, length-take 4096 (drop (i * 4096) from), length-drop (i * 4096) from) in
    let elsewhere : (k : ℕ) → k / 4096 ≢ i → get_or (put_mid (i * 4096) (i * 4096 + 4096 - i * 4096) bytes c.copy_from_slice.new.self) k 0 ≡ get_or bytes k 0 =
    λ (k : ℕ) (other : k / 4096 ≢ i). ap (λ bs. get_or bs k 0) is ∙ outside_page bytes page i (i * 4096) 4096 k (omega arith) whole (omega arith) (omega arith) other
    in
    record {
      inside = omega (arith, next.1);
      copied = λ k below marked. elim (cases_eq (k / 4096) i) [
        | inl here ↦ ap (λ bs. get_or bs k 0) is ∙ inside_page bytes from i k (omega arith) (omega arith) here
        | inr other ↦
            let earlier : k / 4096 < c.loop-next.next = elim (cases_lt (k / 4096) c.loop-next.next) [ inl l ↦ l | inr r ↦ absurd (let none = next.3 (k / 4096) r (omega arith) in omega arith) ] in
            elsewhere k other ∙ c.loop-next.invariant.copied k earlier marked
      ];
      others = λ k unmarked. elsewhere k (λ (e : k / 4096 ≡ i). let one = ap (mark_of c.args.marks.now.words) e in omega (arith, one, next.2)) ∙ c.loop-next.invariant.others k unmarked;
    }
