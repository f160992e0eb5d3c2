use Rattle.std.proofs.Common.{◌+◌, ◌∙◌, Err, ap, arith}
use Rattle.std.proofs.lemmas.Result.{err_from_is_err_and}
use Rattle.keepers.specs.Claims.{Tells}
use Rattle.gdb_line.specs.Talk.{Talk}
use Rattle.gdb_session.specs.Conversation.{Serves, ServesPartly, IsTooLong}
use Rattle.gdb_session.specs.ServerState.{talker}
use Rattle.gdb_session.specs.Turns.{GoesOn, IsFed, Continues, Concludes, Fails, Feeds, Overflows}
use Rattle.gdb_session.proofs.ItemAnswers.{begins_at, serves_partly}
use Rattle.gdb_session.proofs.TurnCounts.{begins_fed}
use Rattle.gdb_session.proofs.LineClaims.{tells_here, tells_so, tells_then}
use Rattle.gdb_session.proofs.ServeFaults.{at_any_err, where_here, where_then, where_told, fails_alike}
use Rattle.gdb_session.proofs.server.Server.converse.Goals as goal

pub loop-init : goal.loop-init
loop-init g c =
    let told = g.N.Line.told in
    let run = c.args.self.now.session.run in
    record {
      goes_on = tells_here (told c.args.line.now) (GoesOn run _ _) (λ a. begins_at run _ _ a c.requires.held c.requires.talker_is);
      empty = c.requires.out;
      fed = where_here (told c.args.line.now) (IsFed 0 _) (λ talk. begins_fed _ talk c.requires.held);
      later = omega arith;
    }

-- a turn failed
pub returns-in_err-take_turn-clause-partly : goal.returns-in_err-take_turn-clause-partly
returns-in_err-take_turn-clause-partly g c =
    let told = g.N.Line.told in
    let run = c.args.self.now.session.run in
    let s = c.loop.self in
    let partly = tells_then (told c.args.line.now) (told c.loop.line) (told c.take_turn.new.line) (GoesOn run s.held.items (talker s)) (Fails s) (ServesPartly run)
    (λ a b d is fails. fails run a is) c.loop.invariant.goes_on c.in_err-take_turn.ensures.fails in
    at_any_err c.from_residual.result (Tells (told c.args.line.now) (told c.take_turn.new.line) (ServesPartly run)) partly

pub returns-in_err-take_turn-clause-long : goal.returns-in_err-take_turn-clause-long
returns-in_err-take_turn-clause-long g c is =
    let told = g.N.Line.told in
    let run = c.args.self.now.session.run in
    let s = c.loop.self in
    let p = err_from_is_err_and c.from_residual.result c.from_residual.ensures.1 in
    let long = tells_then (told c.args.line.now) (told c.loop.line) (told c.take_turn.new.line) (GoesOn run s.held.items (talker s)) (Overflows s) (λ (a d : Talk). IsTooLong d)
    (λ a b d is long. long run a is) c.loop.invariant.goes_on (c.in_err-take_turn.ensures.long (fails_alike c.from_residual.result _ _ (p.1 ∙ ap Err p.2) is)) in
    where_told (told c.args.line.now) (told c.take_turn.new.line) (λ (a d : Talk). IsTooLong d) IsTooLong (λ a d long. long) long

-- the conversation is over
pub returns-then-branch-clause-serves : goal.returns-then-branch-clause-serves
returns-then-branch-clause-serves g c =
    let told = g.N.Line.told in
    let run = c.args.self.now.session.run in
    let s = c.loop.self in
    tells_then (told c.args.line.now) (told c.loop.line) (told c.take_turn.new.line) (GoesOn run s.held.items (talker s)) (Concludes s) (Serves run)
    (λ a b d is over. over run a is) c.loop.invariant.goes_on (c.in_ok-take_turn.ensures.concludes c.if-branch.true)

-- it goes on
pub loop-preserved : goal.loop-preserved
loop-preserved g c =
    let told = g.N.Line.told in
    let run = c.args.self.now.session.run in
    let s = c.loop.self in
    let u = c.take_turn.new.self in
    record {
      goes_on = tells_then (told c.args.line.now) (told c.loop.line) (told c.take_turn.new.line) (GoesOn run s.held.items (talker s)) (Continues s u) (GoesOn run u.held.items (talker u))
          (λ a b d is on. on run a is) c.loop.invariant.goes_on (c.in_ok-take_turn.ensures.continues c.if-branch.false);
      empty = c.in_ok-take_turn.ensures.empty c.if-branch.false;
      fed = where_then (told c.loop.line) (told c.take_turn.new.line) (IsFed c.loop.counter s.held.items) (Feeds s u) (IsFed (c.loop.counter + 1) u.held.items)
          (λ b d fed feeds. feeds c.loop.counter fed) c.loop.invariant.fed (c.in_ok-take_turn.ensures.feeds c.if-branch.false);
      later = omega arith;
    }

-- too much came
pub returns-clause-partly : goal.returns-clause-partly
returns-clause-partly g c =
    let told = g.N.Line.told in
    let run = c.args.self.now.session.run in
    let s = c.loop.self in
    tells_so (told c.args.line.now) (told c.loop.line) (GoesOn run s.held.items (talker s)) (ServesPartly run) (λ a b is. serves_partly run s.held.items (talker s) a b is) c.loop.invariant.goes_on
