use Rattle.std.proofs.Common.{◌≡◌, ◌∷◌, ◌++◌, ℕ, [], List, Some, length, map, slice_get, sym, subst, rules, arith}
use Rattle.std.specs.List.{AllByRecursion}
use Rattle.unit_digests.specs.declared.sharing.Digester.{Digester}
use Rattle.unit_digests.specs.Digests.{states_of, HasPages}
use Rattle.unit_digests.specs.WorkDivision.{mapped, HasShare, HasRoom, part_of}
use Rattle.unit_digests.proofs.DigestWalks.{all_push}
use Rattle.unit_digests.proofs.WorkDivision.{each_more, same_count, all_front, all_back, pages_front, pages_last}
use Rattle.unit_digests.proofs.sharing.+sharing.Goals as goal

pub take_beside-unwrap-requires : goal.take_beside-unwrap-requires
take_beside-unwrap-requires g t c =
    let others = c.join-last.ensures.second in
    let count = same_count c.join-last.result.1.items c.args.others.items others.1 in
    c.push.ensures.succeeds (omega (arith, count, c.join-last.result.1.ok.0, c.args.others.ok.0, c.requires.reserved, others.3))

pub take_beside-returns-clause-shares : goal.take_beside-returns-clause-shares
take_beside-returns-clause-shares g t c i d at =
    let all = c.join-last.result.1.items in
    let last = c.join-last.result.0 in
    let others = c.join-last.ensures.second in
    let P : ℕ → Digester → Type 0 = HasShare (states_of c.args.undo.now.entries c.args.after.now) c.args.deal in
    let pushed : c.push.new.self.items ≡ all ++ last ∷ [] = search rules in
    let count = same_count all c.args.others.items others.1 in
    let number : c.len-number.result ≡ length all = omega (arith, count, c.args.others.ok.0, c.len-number.ensures) in
    each_more P all last others.0 (subst (λ (n : ℕ). P n last) number c.join-last.ensures.first.0) i d (subst (λ (xs : List Digester). slice_get xs i ≡ Some d) pushed at)

pub take_beside-returns-clause-rooms : goal.take_beside-returns-clause-rooms
take_beside-returns-clause-rooms g t c room all =
    let pushed : c.push.new.self.items ≡ c.join-last.result.1.items ++ c.join-last.result.0 ∷ [] = search rules in
    let last = (all_back (HasRoom room) c.args.others.items (c.args.last ∷ []) all).0 in
    subst (AllByRecursion (HasRoom room)) (sym pushed)
    (all_push (HasRoom room) c.join-last.result.1.items c.join-last.result.0 (c.join-last.ensures.second.2 room (all_front (HasRoom room) c.args.others.items (c.args.last ∷ []) all))
    (omega (arith, last, c.join-last.ensures.first.2)))

pub take_digests-take_beside-requires-clause-last : goal.take_digests-take_beside-requires-clause-last
take_digests-take_beside-requires-clause-last g t c κs within =
    let dealt = c.requires.dealt in
    let left = c.pop.new.self.items in
    let is = c.in-Some.ensures.items in
    let P = HasPages c.args.after.now in
    let Q = HasRoom (part_of c.args.deal.workers) in
    record {
      within = dealt.within;
      short = dealt.short;
      some = dealt.some;
      few = omega (arith, dealt.few, c.in-Some.ensures.len);
      pages = (pages_last P left c.in-Some.last (subst (λ (xs : List Digester). AllByRecursion P (map mapped xs)) is dealt.pages), tt);
      room = all_back Q left (c.in-Some.last ∷ []) (subst (AllByRecursion Q) is dealt.room);
    }

pub take_digests-take_beside-requires-clause-others : goal.take_digests-take_beside-requires-clause-others
take_digests-take_beside-requires-clause-others g t c κs within =
    let dealt = c.requires.dealt in
    let left = c.pop.new.self.items in
    let is = c.in-Some.ensures.items in
    let P = HasPages c.args.after.now in
    let Q = HasRoom (part_of c.args.deal.workers) in
    record {
      within = dealt.within;
      short = dealt.short;
      some = dealt.some;
      few = omega (arith, dealt.few, c.in-Some.ensures.len);
      pages = pages_front P left c.in-Some.last (subst (λ (xs : List Digester). AllByRecursion P (map mapped xs)) is dealt.pages);
      room = all_front Q left (c.in-Some.last ∷ []) (subst (AllByRecursion Q) is dealt.room);
    }

pub take_digests-returns-then-not-is_empty-clause-rooms : goal.take_digests-returns-then-not-is_empty-clause-rooms
take_digests-returns-then-not-is_empty-clause-rooms g t c room all = c.take_beside.ensures.rooms room (subst (AllByRecursion (HasRoom room)) c.in-Some.ensures.items all)
