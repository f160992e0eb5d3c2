use Rattle.std.proofs.Common.{◌≡◌, ◌++◌, ◌+◌, ◌<◌, ℕ, Bool, true, false, List, take, filter, length, get_or, ap, sym, ◌∙◌, arith}
use Rattle.std.proofs.lemmas.List.{take_all}
use Rattle.std.proofs.lemmas.Option.{get_or_from_slice_get}
use Rattle.std.specs.List.{flat_map}
use Rattle.std.specs.Int.{to_le_bytes, w32}
use Rattle.rv_pages.specs.Memory.{Memory, page_numbers, page_bytes}
use Rattle.state_image.specs.Image.{is_stored, page_field}
use Rattle.state_image.proofs.HashedPages.{one_more, left_out, skipped}
use Rattle.state_image.proofs.encoding.push_pages.Goals as goal
use Rattle.state_image.proofs.encoding.push_pages.Goals.{then-stored-index, else-stored-index}

pub loop-index-preserved : goal.loop-index-preserved
loop-index-preserved c =
    let m : Memory = c.args.pages.now in
    let ns : List ℕ = page_numbers m in
    let i : ℕ = c.in-Some.index in
    let p : ℕ → Bool = is_stored m in
    let next = c.in-Some.ensures in
    let below : i < length ns = next.index.1 in
    let mark : get_or c.args.stored.now i false ≡ p (get_or ns i 0) = c.requires.marked i below in
    let same : filter p (take c.loop-index.from ns) ≡ filter p (take i ns) = skipped m c.loop-index.from i next.index.0 (omega arith) next.zero in
    let before : c.loop-index.into.items ≡ c.args.into.now.items ++ flat_map (page_field m) (filter p (take i ns)) =
    c.loop-index.invariant.items ∙ ap (λ (xs : List ℕ). c.args.into.now.items ++ flat_map (page_field m) xs) same in
    elim c.if-stored-index.branch [
      | then-stored-index w ↦
          let stored : p (get_or ns i 0) ≡ true = sym mark ∙ w.if-stored-index.true in
          let number : w.number.result ≡ get_or ns i 0 = sym (get_or_from_slice_get ns i w.number.result 0 w.number.ensures) in
          let items : w.push.new.into.items ≡ c.args.into.now.items ++ flat_map (page_field m) (filter p (take (i + 1) ns)) =
          w.push.ensures.items
          ∙ (λ k. (w.push_word.ensures.items ∙ (λ j. before j ++ to_le_bytes w32 (number j))) k ++ w.page.ensures.value k)
          ∙ one_more (to_le_bytes w32) (page_bytes m) p ns i c.args.into.now.items below stored in
          let whole : length w.page.result.now ≡ 4096 = w.page.ensures.whole in
          rw w.into-is (record {
            inside = omega arith;
            few = omega (arith, next.few);
            items = items;
            room = omega (arith, next.index.0, below, whole, c.loop-index.invariant.room);
            len = omega (arith, next.index.0, whole, c.loop-index.invariant.len);
            reserved = omega (arith, c.loop-index.invariant.reserved);
          })
      | else-stored-index w ↦
          let skip : p (get_or ns i 0) ≡ false = sym mark ∙ w.if-stored-index.false in
          rw w.into-is (record {
            inside = omega arith;
            few = omega (arith, next.few);
            items = before ∙ ap (λ (xs : List ℕ). c.args.into.now.items ++ flat_map (page_field m) xs) (left_out p ns i below skip);
            room = omega (arith, next.index.0, below, c.loop-index.invariant.room);
            len = omega (arith, next.index.0, c.loop-index.invariant.len);
            reserved = c.loop-index.invariant.reserved;
          })
    ]

pub returns-clause-items : goal.returns-clause-items
returns-clause-items c =
    let m : Memory = c.args.pages.now in
    let ns : List ℕ = page_numbers m in
    let all : filter (is_stored m) (take c.loop-index.from ns) ≡ filter (is_stored m) ns =
    skipped m c.loop-index.from (length ns) c.loop-index.invariant.inside (omega arith) c.in_default.ensures.zero ∙ ap (filter (is_stored m)) (take_all (length ns) ns (omega arith))
    in
    c.loop-index.invariant.items ∙ ap (λ (xs : List ℕ). c.args.into.now.items ++ flat_map (page_field m) xs) all
