use Rattle.std.proofs.Common.{◌≡◌, ◌<◌, ◌≤◌, ℕ, inl, inr, List, Some, length, map, slice_get, sym, ap, subst, ◌∙◌, arith, Vec, Global}
use Rattle.std.specs.List.{AllByRecursion}
use Rattle.std.specs.Vec.{vec_len}
use Rattle.std.proofs.lemmas.Bool.{cases_lt}
use Rattle.std.proofs.lemmas.Grind.{common_steps}
use Rattle.unit_digests.specs.declared.sharing.Deal.{Deal}
use Rattle.unit_digests.specs.declared.sharing.Digester.{Digester}
use Rattle.unit_digests.specs.Digests.{states_of, IsKnown, HasPages}
use Rattle.unit_digests.specs.WorkDivision.{mapped, part_of, HasRoom, HasTaken}
use Rattle.unit_digests.proofs.WorkDivision.{same_count, all_by_place, dealt_to, get_some}
use Rattle.unit_digests.proofs.digesters.Digesters.digest.Goals as goal

pub take_digests-requires-clause-dealt : goal.take_digests-requires-clause-dealt
take_digests-requires-clause-dealt g c κs within =
    let all = c.self.inside.all in
    let same = c.replace-digesters.ensures.value in
    let items = ap (λ (v : Vec Digester Global). v.items) same in
    let P = HasPages c.args.after.now in
    let count : length all.items ≡ c.len-2.result = omega (arith, all.ok.0, c.len-2.ensures) in
    record {
      within = omega (arith, c.min.ensures, c.count-count.ensures);
      short = omega (arith, c.min.ensures, c.count-count.ensures, c.is_short.ensures.entries, c.is_short.ensures.unit);
      some = grind (arith, common_steps, all.ok, c.is_empty.ensures, c.if-is_empty.false, c.len-2.ensures);
      few = let e = ap vec_len same in omega (arith, e, c.len-2.ensures);
      pages = subst (λ (xs : List Digester). AllByRecursion P (map mapped xs)) (sym items) (subst (AllByRecursion P) (sym c.self.view_is) c.requires.pages);
      room = subst (λ (xs : List Digester). AllByRecursion (HasRoom (part_of c.len-2.result)) xs) (sym items) (subst (λ (n : ℕ). AllByRecursion (HasRoom (part_of n)) all.items) count c.self.invariant.room);
    }

pub invariant_of-self : goal.invariant_of-self
invariant_of-self g c =
    let all = c.self.inside.all.items in
    let items = ap (λ (v : Vec Digester Global). v.items) c.replace-digesters.ensures.value in
    let count = same_count c.take_digests.result.items c.replace-digesters.result.items c.take_digests.ensures.pages ∙ ap length items in
    let room = c.take_digests.ensures.rooms (part_of (length all)) (subst (AllByRecursion (HasRoom (part_of (length all)))) (sym items) c.self.invariant.room) in
    record {
      few = omega (arith, count, c.self.invariant.few);
      room = subst (λ (n : ℕ). AllByRecursion (HasRoom (part_of n)) c.take_digests.result.items) (sym count) room;
    }

pub returns-clause-known : goal.returns-clause-known
returns-clause-known g c =
    let states = states_of c.args.undo.now.entries c.args.after.now in
    let has : AllByRecursion (HasTaken states) c.take_digests.result.items =
    all_by_place (HasTaken states) c.take_digests.result.items (λ i d at. (c.take_digests.ensures.shares i d at).right)
    in
    c.put_digests.ensures.known states (c.make_room.ensures.known states c.requires.known) (subst (AllByRecursion (HasTaken states)) (sym c.deref.ensures.value) has)

pub returns-clause-all : goal.returns-clause-all
returns-clause-all g c some n below room =
    let deal : Deal = record { least = c.least_unknown.result; end = c.min.result; workers = c.len-2.result } in
    let items = ap (λ (v : Vec Digester Global). v.items) c.replace-digesters.ensures.value in
    let count = same_count c.take_digests.result.items c.replace-digesters.result.items c.take_digests.ensures.pages ∙ ap length items in
    let all = c.self.inside.all in
    let workers : length c.take_digests.result.items ≡ c.len-2.result = omega (arith, count, all.ok.0, c.len-2.ensures) in
    let some' : 1 ≤ c.len-2.result = grind (arith, common_steps, all.ok, c.is_empty.ensures, c.if-is_empty.false, c.len-2.ensures) in
    let end : n < c.min.result = omega (arith, below, room, c.min.ensures, c.count-count.ensures, c.len.ensures, c.make_room.ensures.room) in
    elim (cases_lt n c.least_unknown.result) [
      | inl first ↦
          let known = subst (λ known. IsKnown known n) c.as_slice.ensures.value (c.least_unknown.ensures.below n first) in
          c.put_digests.ensures.still n known
      | inr later ↦
          let dealt = dealt_to deal n some' later end in
          let worker = get_some c.take_digests.result.items dealt.0 (omega (arith, dealt.1, workers)) in
          let number = (c.take_digests.ensures.shares dealt.0 worker.0 worker.1).whole n dealt.2 in
          let at = subst (λ (ds : List Digester). slice_get ds dealt.0 ≡ Some worker.0) (sym c.deref.ensures.value) worker.1 in
          subst (λ (k : ℕ). IsKnown c.put_digests.new.known.items k) number.3
          (c.put_digests.ensures.put dealt.0 number.0 worker.0 number.1 at number.2 (omega (arith, number.3, end, c.min.ensures, c.len.ensures)))
    ]
