use Rattle.std.proofs.Common.{◌≡◌, ◌<◌, [], length, subst, sym, arith}
use Rattle.keepers.specs.Claims.{Tells}
use Rattle.gdb_line.specs.Talk.{Talk}
use Rattle.gdb_wire.specs.Items.{IsPartial}
use Rattle.gdb_session.specs.ServerState.{Holds, MayCome}
use Rattle.gdb_session.specs.Turns.{Continues, Concludes, Fails, Overflows}
use Rattle.gdb_session.proofs.LineClaims.{tells_here, tells_so}
use Rattle.gdb_session.proofs.TurnEffects.{held_fails, long_overflows, piece_fails, piece_continues, end_concludes}
use Rattle.gdb_session.proofs.ServeFaults.{tells_where, at_any_err}
use Rattle.gdb_session.proofs.server.Server.take_more.Goals as goal

-- too much is held
pub returns-then-len-gt-MOST_HELD-clause-fails : goal.returns-then-len-gt-MOST_HELD-clause-fails
returns-then-len-gt-MOST_HELD-clause-fails g c = tells_here (g.N.Line.told c.args.line.now) (Fails c.args.self.now) (λ b. held_fails c.args.self.now b)

pub returns-then-len-gt-MOST_HELD-clause-long : goal.returns-then-len-gt-MOST_HELD-clause-long
returns-then-len-gt-MOST_HELD-clause-long g c is =
    let long : 65536 < length c.args.self.now.held.items = omega (arith, c.if-len-gt-MOST_HELD.true, c.len.ensures) in
    tells_here (g.N.Line.told c.args.line.now) (Overflows c.args.self.now) (λ b. long_overflows c.args.self.now b c.requires.partial long)

-- the line failed, or no memory was found
pub returns-in_err-receive-clause-fails : goal.returns-in_err-receive-clause-fails
returns-in_err-receive-clause-fails g c =
    let told = g.N.Line.told in
    let s = c.args.self.now in
    let fails = tells_so (told c.args.line.now) (told c.receive.new.line) MayCome (Fails s) (λ b d may. piece_fails s b d may) c.in_err-receive.ensures.refused in
    at_any_err c.from_residual.result (Tells (told c.args.line.now) (told c.receive.new.line) (Fails s)) fails

-- bytes came
pub returns-clause-continues : goal.returns-clause-continues
returns-clause-continues g c is =
    let told = g.N.Line.told in
    let s = c.args.self.now in
    let u = c.receive.new.self in
    tells_so (told c.args.line.now) (told c.receive.new.line) (Holds s u) (Continues s u) (λ b d holds. piece_continues s u b d c.in_ok-receive.ensures.same holds)
    c.in_ok-receive.ensures.holds

-- the line is at its end
pub returns-clause-concludes : goal.returns-clause-concludes
returns-clause-concludes g c is =
    let told = g.N.Line.told in
    let s = c.args.self.now in
    let u = c.receive.new.self in
    let end = c.in_ok-receive.ensures.end is in
    let partial = subst IsPartial (sym end.0) c.requires.partial in
    tells_where (told c.args.line.now) (told c.receive.new.line) (Holds s u) (Concludes s) (λ (talk : Talk). talk.left ≡ [])
    (λ b d holds left. end_concludes s u b d c.in_ok-receive.ensures.same partial holds left) c.in_ok-receive.ensures.holds end.1
