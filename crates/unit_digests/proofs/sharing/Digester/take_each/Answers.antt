use Rattle.std.proofs.Common.{◌≡◌, ◌<◌, ◌≤◌, ◌+◌, ◌*◌, ◌∷◌, ◌++◌, [], length, refl, sym, ap, subst, ◌∙◌, append_assoc, rules, arith}
use Rattle.std.specs.List.{AllByRecursion}
use Rattle.std.specs.Vec.{vec_len, vec_capacity}
use Rattle.unit_undo.specs.UndoTrail.{led_back}
use Rattle.unit_digests.specs.declared.sharing.Taken.{Taken}
use Rattle.unit_digests.specs.Digests.{states_of}
use Rattle.unit_digests.specs.WorkDivision.{IsTaken, IsDealt, part_of}
use Rattle.unit_undo.proofs.UndoTrail.{length-led_back}
use Rattle.unit_digests.proofs.DigestWalks.{is_taken, all_push, joined}
use Rattle.unit_digests.proofs.WorkDivision.{parts_enough, turn_fits, turn_next, whole_next}
use Rattle.unit_digests.proofs.sharing.Digester.take_each.Goals as goal

pub unwrap-requires : goal.unwrap-requires
unwrap-requires g c =
    let h = c.loop-end.invariant in
    let deal = c.args.deal in
    let taken = c.loop-end.self.taken in
    let some : 0 < c.loop-end.end = omega (arith, c.loop-end-test.true) in
    let part : part_of deal.workers ≤ vec_capacity taken = omega (arith, c.requires.room, h.reserved) in
    let enough = parts_enough deal.workers (vec_capacity taken) deal.end c.requires.workers part c.requires.short in
    c.push.ensures.succeeds (turn_fits deal.workers (vec_capacity taken) (vec_len taken) c.loop-end.end c.args.number deal.end some (h.turn some) enough)

pub loop-end-preserved : goal.loop-end-preserved
loop-end-preserved g c =
    let h = c.loop-end.invariant in
    let p = c.go_back.ensures.passed in
    let deal = c.args.deal in
    let end = c.loop-end.end in
    let taken = c.loop-end.self.taken in
    let all = led_back c.args.undo.now.entries c.args.after.now in
    let rest = led_back c.go_back.new.walk c.go_back.new.state in
    let front = h.passed.0 ++ p.0 in
    let now : all ≡ front ++ c.go_back.new.state ∷ rest = joined all h.passed.0 (led_back c.loop-end.walk c.loop-end.self.state) p.0 c.go_back.new.state rest h.passed.1 p.1 in
    let count = length-led_back c.go_back.new.walk c.go_back.new.state ∙ c.go_back.ensures.left in
    let t : Taken = record { number = _; digest = c.image_digest-digest.result } in
    let P : Taken → Type 0 = IsTaken (states_of c.args.undo.now.entries c.args.after.now) in
    let D : Taken → Type 0 = λ u. IsDealt deal c.args.number u.number in
    let is : P t = is_taken all front c.go_back.new.state rest t now count c.image_digest-digest.ensures in
    let pushed : c.push.new.self.items ≡ taken.items ++ t ∷ [] = search rules in
    let more : vec_len c.push.new.self ≡ vec_len taken + 1 = search rules in
    let some : 0 < end = omega (arith, c.loop-end-test.true) in
    let turn = h.turn some in
    let size : length taken.items ≡ vec_len taken = omega (arith, taken.ok.0) in
    let turn' : end + c.args.number + length taken.items * deal.workers ≡ deal.end = let e = ap (λ n. n * deal.workers) size in omega (arith, turn, e) in
    let next = c.saturating_sub-end-in-loop-end.ensures in
    let dealt : D t = (omega (arith, c.loop-end-test.true), (vec_len taken, omega (arith, turn, some))) in
    record {
      leads = c.go_back.ensures.back;
      passed = (front ++ c.go_back.new.state ∷ [], now ∙ sym (append_assoc front (c.go_back.new.state ∷ []) rest));
      left = omega (arith, c.go_back.ensures.left, next, c.requires.workers);
      right = subst (AllByRecursion P) (sym pushed) (all_push P taken.items t h.right is);
      dealt = subst (AllByRecursion D) (sym pushed) (all_push D taken.items t h.dealt dealt);
      whole = λ n is above. whole_next deal c.args.number end taken.items c.push.new.self.items t pushed refl turn' h.whole n is (omega (arith, next, above));
      turn = λ left.
          let later = turn_next deal.workers (vec_len taken) end c.args.number deal.end (omega (arith, next, left)) turn in
          let e = ap (λ n. n * deal.workers) more in
          omega (arith, next, later, e);
      pages = c.go_back.ensures.pages ∙ h.pages;
      reserved = omega (arith, c.push.ensures.capacity, h.reserved);
    }
