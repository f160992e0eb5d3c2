use Rattle.std.proofs.Common.{◌≡◌, ◌≤◌, ℕ, List, length, sym, ap, subst, ◌∙◌, arith}
use Rattle.plan_types.specs.declared.action.Action.{Action}
use Rattle.level_book.specs.BookCosts.{BookCosts, slots_of, total_room}
use Rattle.revolve_gen.specs.Places.{level_at}
use Rattle.revolve_gen.specs.Plans.{HasPlan}
use Rattle.revolve_gen.specs.Stack.{written, read}
use Rattle.revolve_gen.specs.RevolveList.{revolve, revolve_list}
use Rattle.revolve_gen.proofs.MultistageValidity.{two_levels}
use Rattle.multistage_gen.specs.declared.traffic.PlaceTraffic.{PlaceTraffic}
use Rattle.multistage_gen.specs.Traffic.{IsTraffic}
use Rattle.multistage_gen.proofs.ClassMembership.{revolve_short, plan_list, plan_places, planned_in_class}
use Rattle.multistage_gen.proofs.Savings.{traffic_counted}
use Rattle.multistage_gen.proofs.stream.Multistage.begin.Goals as goal

abbrev Counts : List Action → List PlaceTraffic → Type 0
Counts list traffic = IsTraffic (written 0 list) (read 0 list) traffic

-- the traffic that is counted by the numbers is that of the list, which is not too long
counts : (steps slots : ℕ) (book : BookCosts) (list : List Action) (traffic seen : List PlaceTraffic) → slots ≡ total_room book steps → list ≡ revolve_list steps book → seen ≡ traffic →
    ((level : ℕ → ℕ) → Counts (revolve level steps slots) traffic) → Counts list seen
counts steps slots book list traffic seen room is same of =
    subst (λ (l : List Action). Counts l seen) (ap (λ c. revolve (level_at (slots_of book)) steps c) room ∙ sym is) (subst (Counts (revolve (level_at (slots_of book)) steps slots)) (sym same) (of (level_at (slots_of book))))

short : (steps : ℕ) (book : BookCosts) (list : List Action) → list ≡ revolve_list steps book → HasPlan steps (total_room book steps) → steps ≤ 1000000 → length list ≤ 16777216
short steps book list is has few = omega (arith, ap length is, revolve_short (level_at (slots_of book)) steps (total_room book steps) has few)

pub revolve_places-requires-clause-plan : goal.revolve_places-requires-clause-plan
revolve_places-requires-clause-plan c = subst (HasPlan c.args.steps) (sym c.total_room.ensures) c.in_ok-revolve.ensures.plan

pub planned_levels-requires-clause-counted : goal.planned_levels-requires-clause-counted
planned_levels-requires-clause-counted c =
    let steps = c.args.steps in
    let book = c.args.book.now in
    let list = c.in_ok-revolve.revolve in
    traffic_counted list c.deref.result.now (short steps book list c.in_ok-revolve.ensures.list c.in_ok-revolve.ensures.plan c.requires)
    (counts steps c.total_room.result book list c.in_ok-traffic.traffic.items c.deref.result.now c.total_room.ensures c.in_ok-revolve.ensures.list c.deref.ensures.value c.in_ok-traffic.ensures)

pub savings_by-requires-clause-counted : goal.savings_by-requires-clause-counted
savings_by-requires-clause-counted c =
    let steps = c.args.steps in
    let book = c.args.book.now in
    let list = c.in_ok-revolve.revolve in
    traffic_counted list c.deref-2.result.now (short steps book list c.in_ok-revolve.ensures.list c.in_ok-revolve.ensures.plan c.requires)
    (counts steps c.total_room.result book list c.in_ok-traffic.traffic.items c.deref-2.result.now c.total_room.ensures c.in_ok-revolve.ensures.list c.deref-2.ensures.value c.in_ok-traffic.ensures)

pub invariant_of-result : goal.invariant_of-result
invariant_of-result c =
    let steps = c.args.steps in
    let book = c.args.book.now in
    let list = c.in_ok-revolve.revolve in
    let levels = two_levels book.levels (omega (arith, c.levels.ensures.value, c.if-levels-ne2.false)) in
    let of = counts steps c.total_room.result book list c.in_ok-traffic.traffic.items c.deref-2.result.now c.total_room.ensures c.in_ok-revolve.ensures.list c.deref-2.ensures.value c.in_ok-traffic.ensures in
    let saves = c.in_ok-savings.ensures list levels.0 levels.1 levels.2 of in
    let each = c.in_ok-levels.ensures.each ∙ ap length (c.deref.ensures.value ∙ sym c.deref-2.ensures.value) ∙ of.many in
    (saves.count ∙ sym each, omega (arith, short steps book list c.in_ok-revolve.ensures.list c.in_ok-revolve.ensures.plan c.requires))

pub returns-clause-list : goal.returns-clause-list
returns-clause-list c =
    let steps = c.args.steps in
    let book = c.args.book.now in
    let list = c.in_ok-revolve.revolve in
    let of = counts steps c.total_room.result book list c.in_ok-traffic.traffic.items c.deref.result.now c.total_room.ensures c.in_ok-revolve.ensures.list c.deref.ensures.value c.in_ok-traffic.ensures in
    plan_list steps book c.in_ok-levels.levels.items c.in_ok-savings.savings.items list c.in_ok-revolve.ensures.list (omega (arith, c.levels.ensures.value, c.if-levels-ne2.false)) c.in_ok-revolve.ensures.plan
    (λ fast slow two. c.in_ok-levels.ensures.planned list fast slow two of)

pub returns-clause-class : goal.returns-clause-class
returns-clause-class c = planned_in_class c.args.steps c.args.book.now _ (returns-clause-list c)

pub returns-clause-places : goal.returns-clause-places
returns-clause-places c =
    let steps = c.args.steps in
    let book = c.args.book.now in
    let list = c.in_ok-revolve.revolve in
    let of = counts steps c.total_room.result book list c.in_ok-traffic.traffic.items c.deref.result.now c.total_room.ensures c.in_ok-revolve.ensures.list c.deref.ensures.value c.in_ok-traffic.ensures in
    let of_too = counts steps c.total_room.result book list c.in_ok-traffic.traffic.items c.deref-2.result.now c.total_room.ensures c.in_ok-revolve.ensures.list c.deref-2.ensures.value c.in_ok-traffic.ensures in
    plan_places steps book c.in_ok-levels.levels.items c.in_ok-savings.savings.items list c.in_ok-revolve.ensures.list (omega (arith, c.levels.ensures.value, c.if-levels-ne2.false)) c.in_ok-revolve.ensures.plan
    (λ fast slow two. c.in_ok-levels.ensures.planned list fast slow two of) (c.in_ok-levels.ensures.each ∙ of.many)
    (λ fast slow two. c.in_ok-savings.ensures list fast slow two of_too)
