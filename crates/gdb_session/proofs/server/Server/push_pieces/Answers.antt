use Rattle.std.proofs.Common.{◌≡◌, ◌++◌, arith}
use Rattle.gdb_session.proofs.ProgramOutput.{front_back}
use Rattle.gdb_session.proofs.Pieces.{no_pieces_yet, one_more, all_pieces, says_then, some_rest, no_rest}
use Rattle.gdb_session.proofs.server.Server.push_pieces.Goals as goal

pub loop-rest-init : goal.loop-rest-init
loop-rest-init c = no_pieces_yet c.args.text.now c.args.self.now

pub loop-rest-preserved : goal.loop-rest-preserved
loop-rest-preserved c =
    let rest = c.loop-rest.rest.now in
    let split = c.split_at in
    let front = split.ensures.front in
    let back = split.ensures.back in
    let long = split.ensures.front_len in
    let some = some_rest rest c.is_empty.result c.is_empty.ensures c.loop-rest-test.true in
    let whole = front_back c.min.result rest in
    let is : rest ≡ split.result.0.now ++ split.result.1.now = cc in
    one_more c.args.text.now rest split.result.0.now split.result.1.now c.args.self.now c.loop-rest.self c.push_console.new.self c.loop-rest.invariant is (omega arith) (omega arith)
    c.in_ok-push_console.ensures.out c.in_ok-push_console.ensures.last c.push_console.ensures.same

pub returns-clause-pieces : goal.returns-clause-pieces
returns-clause-pieces c =
    let rest = c.loop-rest.rest.now in
    let none = no_rest rest c.is_empty.result c.is_empty.ensures c.loop-rest-test.false in
    all_pieces c.args.text.now rest c.args.self.now c.loop-rest.self c.loop-rest.invariant none

pub returns-clause-same : goal.returns-clause-same
returns-clause-same c = c.loop-rest.invariant.same

pub returns-in_err-push_console-clause-same : goal.returns-in_err-push_console-clause-same
returns-in_err-push_console-clause-same c = says_then c.args.self.now c.loop-rest.self c.push_console.new.self c.loop-rest.invariant.same c.push_console.ensures.same
