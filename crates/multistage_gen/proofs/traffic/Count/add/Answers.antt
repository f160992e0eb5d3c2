use Rattle.std.proofs.Common.{ℕ, ◌-◌, ◌^◌, ◌<◌, List, length, sym, arith}
use Rattle.plan_types.specs.declared.action.Action.{Action}
use Rattle.revolve_gen.specs.Stack.{written, read}
use Rattle.multistage_gen.specs.declared.traffic.PlaceTraffic.{PlaceTraffic}
use Rattle.multistage_gen.specs.Traffic.{IsTraffic}
use Rattle.multistage_gen.specs.TrafficCount.{HasCounted}
use Rattle.multistage_gen.proofs.CountExtension.{pushed, got, popped, stayed}
use Rattle.multistage_gen.proofs.Savings.{written_few, read_few}
use Rattle.multistage_gen.proofs.traffic.Count.add.Goals as goal

-- the counts so far are those of some actions, which are not too many
few_written : (held : ℕ) (items : List PlaceTraffic) → ((front : List Action) × HasCounted front held items × (length front < 2 ^ 64 - 1)) →
    (ws : List ℕ) × (rs : List ℕ) × IsTraffic ws rs items × (length ws < 2 ^ 64 - 1)
few_written held items so = (written 0 so.0, read 0 so.0, so.1.traffic, omega (arith, written_few 0 so.0, so.2))

few_read : (held : ℕ) (items : List PlaceTraffic) → ((front : List Action) × HasCounted front held items × (length front < 2 ^ 64 - 1)) →
    (ws : List ℕ) × (rs : List ℕ) × IsTraffic ws rs items × (length rs < 2 ^ 64 - 1)
few_read held items so = (written 0 so.0, read 0 so.0, so.1.traffic, omega (arith, read_few 0 so.0, so.2))

pub write_at-requires-clause-small : goal.write_at-requires-clause-small
write_at-requires-clause-small c = few_written c.args.self.now.held c.args.self.now.places.items c.requires

pub read_at-requires-clause-small : goal.read_at-requires-clause-small
read_at-requires-clause-small c = few_read c.args.self.now.held c.args.self.now.places.items c.requires

pub read_at-requires-in-Pop-clause-small : goal.read_at-requires-in-Pop-clause-small
read_at-requires-in-Pop-clause-small c = few_read c.args.self.now.held c.args.self.now.places.items c.requires

pub returns-in_ok-write_at-in-Push : goal.returns-in_ok-write_at-in-Push
returns-in_ok-write_at-in-Push c = λ front is.
    let new = c.write_at.new.places in
    pushed front c.args.self.now.held c.args.self.now.places.items new.items _ is (sym c.in-Push.ensures)
    (omega (arith, new.ok, c.in_ok-write_at-in-Push.ensures.there.0)) (c.in_ok-write_at-in-Push.ensures.ok (written 0 front) (read 0 front) is.traffic)

pub returns-in_ok-read_at-in-Read : goal.returns-in_ok-read_at-in-Read
returns-in_ok-read_at-in-Read c = λ front is.
    let old = c.args.self.now.places in
    let new = c.read_at.new.places in
    got front c.args.self.now.held c.saturating_sub.result old.items new.items _ is (sym c.in-Read.ensures)
    (omega (arith, old.ok, new.ok, c.in_ok-read_at-in-Read.ensures.there.1)) (omega (arith, c.saturating_sub.ensures))
    (c.in_ok-read_at-in-Read.ensures.ok (written 0 front) (read 0 front) is.traffic)

pub returns-in_ok-read_at-in-Pop : goal.returns-in_ok-read_at-in-Pop
returns-in_ok-read_at-in-Pop c = λ front is.
    let old = c.args.self.now.places in
    let new = c.read_at-in-Pop.new.places in
    popped front c.args.self.now.held c.saturating_sub-self.result old.items new.items _ is (sym c.in-Pop.ensures)
    (omega (arith, old.ok, new.ok, c.in_ok-read_at-in-Pop.ensures.there.1)) (omega (arith, c.saturating_sub-self.ensures))
    (c.in_ok-read_at-in-Pop.ensures.ok (written 0 front) (read 0 front) is.traffic)

pub returns-in-Stay : goal.returns-in-Stay
returns-in-Stay c = λ front is. stayed front c.args.self.now.held c.args.self.now.places.items _ is (sym c.in-Stay.ensures)
