use Rattle.std.proofs.Common.{All, List, subst, sym}
use Rattle.std.proofs.lemmas.Result.{IfOk-weaker}
use Rattle.revolve_gen.specs.Stack.{written, read}
use Rattle.multistage_gen.specs.declared.traffic.PlaceTraffic.{PlaceTraffic}
use Rattle.multistage_gen.specs.Ranks.{IsCounted}
use Rattle.multistage_gen.specs.Traffic.{IsTraffic}
use Rattle.multistage_gen.proofs.Savings.{traffic_counted}
use Rattle.multistage_gen.proofs.planning.place_savings.Goals as goal

pub savings_by-requires-clause-counted : goal.savings_by-requires-clause-counted
savings_by-requires-clause-counted c = subst (All IsCounted) (sym c.deref.ensures.value) (traffic_counted c.args.list.now c.in_ok-traffic.traffic.items c.requires.few c.in_ok-traffic.ensures)

pub returns : goal.returns
returns c =
    let list = c.args.list.now in
    let T : List PlaceTraffic → Type 0 = λ traffic. IsTraffic (written 0 list) (read 0 list) traffic in
    IfOk-weaker c.savings_by.result _ _ (λ savings are fast slow two. are list fast slow two (subst T (sym c.deref.ensures.value) c.in_ok-traffic.ensures)) c.savings_by.ensures
