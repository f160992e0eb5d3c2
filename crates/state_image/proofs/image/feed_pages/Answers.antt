use Rattle.std.proofs.Common.{◌≡◌, ◌++◌, ◌+◌, ◌<◌, ℕ, Bool, true, false, List, take, filter, length, get_or, ap, sym, subst, ◌∙◌, arith}
use Rattle.std.proofs.lemmas.List.{take_all}
use Rattle.std.proofs.lemmas.Option.{get_or_from_slice_get}
use Rattle.std.specs.List.{flat_map}
use Rattle.std.specs.Int.{to_le_bytes, w32}
use Rattle.sha2.specs.Hashers.{Holds256}
use Rattle.sha2.specs.declared.Sha256.{Sha256}
use Rattle.rv_pages.specs.Memory.{Memory, page_numbers, page_bytes}
use Rattle.state_image.specs.Image.{is_stored, page_field}
use Rattle.state_image.proofs.HashedPages.{one_more, left_out, skipped}
use Rattle.state_image.proofs.image.feed_pages.Goals as goal
use Rattle.state_image.proofs.image.feed_pages.Goals.{then-stored-index, else-stored-index}

pub loop-index-preserved : goal.loop-index-preserved
loop-index-preserved c =
    let m : Memory = c.args.pages.now in
    let ns : List ℕ = page_numbers m in
    let i : ℕ = c.in-Some.index in
    let p : ℕ → Bool = is_stored m in
    let next = c.in-Some.ensures in
    let below : i < length ns = next.index.1 in
    let mark : get_or c.args.stored.now i false ≡ p (get_or ns i 0) = c.requires.marked i below in
    let same : filter p (take c.loop-index.from ns) ≡ filter p (take i ns) = skipped m c.loop-index.from i next.index.0 (omega arith) next.zero in
    let before : (held : List ℕ) → Holds256 c.args.hasher.now held → Holds256 c.loop-index.hasher (held ++ flat_map (page_field m) (filter p (take i ns))) =
    λ (held : List ℕ) (h : Holds256 c.args.hasher.now held). subst (λ (xs : List ℕ). Holds256 c.loop-index.hasher (held ++ flat_map (page_field m) xs)) same (c.loop-index.invariant.fed held h)
    in
    record {
      inside = omega arith;
      few = omega (arith, next.few);
      fed = elim c.if-stored-index.branch [
        | then-stored-index w ↦
            let stored : p (get_or ns i 0) ≡ true = sym mark ∙ w.if-stored-index.true in
            let number : w.number.result ≡ get_or ns i 0 = sym (get_or_from_slice_get ns i w.number.result 0 w.number.ensures) in
            let field : w.to_le_bytes.result ≡ to_le_bytes w32 (get_or ns i 0) = w.to_le_bytes.ensures ∙ ap (to_le_bytes w32) number in
            let bytes : w.page.result.now ≡ page_bytes m (get_or ns i 0) = w.page.ensures.value in
            λ held h.
            let all : List ℕ = held ++ flat_map (page_field m) (filter p (take i ns)) in
            let fed : Holds256 w.update-then-stored-index.new.self (all ++ w.to_le_bytes.result ++ w.page.result.now) = w.update-then-stored-index.ensures _ (w.update.ensures _ (before held h)) in
            let is : all ++ w.to_le_bytes.result ++ w.page.result.now ≡ held ++ flat_map (page_field m) (filter p (take (i + 1) ns)) =
            (λ k. all ++ field k ++ bytes k) ∙ one_more (to_le_bytes w32) (page_bytes m) p ns i held below stored in
            subst (λ (s : Sha256). Holds256 s (held ++ flat_map (page_field m) (filter p (take (i + 1) ns)))) (sym w.hasher-is)
            (subst (Holds256 w.update-then-stored-index.new.self) is fed)
        | else-stored-index w ↦
            let skip : p (get_or ns i 0) ≡ false = sym mark ∙ w.if-stored-index.false in
            λ held h.
            let past = ap (λ xs. held ++ flat_map (page_field m) xs) (left_out p ns i below skip) in
            subst (λ (s : Sha256). Holds256 s (held ++ flat_map (page_field m) (filter p (take (i + 1) ns)))) (sym w.hasher-is)
            (subst (Holds256 c.loop-index.hasher) past (before held h))
      ];
    }

pub returns : goal.returns
returns c = λ held h.
    let m : Memory = c.args.pages.now in
    let ns : List ℕ = page_numbers m in
    let all : filter (is_stored m) (take c.loop-index.from ns) ≡ filter (is_stored m) ns =
    skipped m c.loop-index.from (length ns) c.loop-index.invariant.inside (omega arith) c.in_default.ensures.zero ∙ ap (filter (is_stored m)) (take_all (length ns) ns (omega arith))
    in
    subst (λ (xs : List ℕ). Holds256 c.loop-index.hasher (held ++ flat_map (page_field m) xs)) all (c.loop-index.invariant.fed held h)
