use Rattle.std.proofs.Common.{◌≡◌, sym, subst}
use Rattle.std.proofs.lemmas.Result.{IfOk-weaker}
use Rattle.gdb_wire.specs.Requests.{IsRequest}
use Rattle.gdb_wire.specs.RequestParser.{request_of}
use Rattle.gdb_wire.specs.declared.request.Request.{Request}
use Rattle.gdb_wire.proofs.ParserCorrectness.{request_is}
use Rattle.gdb_wire.proofs.reading.read_request.Goals as goal

pub returns-clause-read : goal.returns-clause-read
returns-clause-read c =
    let text = c.args.text.now in
    let is = λ (request : Request) (e : request ≡ request_of text). subst (IsRequest text) (sym e) (request_is text) in
    IfOk-weaker c.read.result (λ request. request ≡ request_of text) (IsRequest text) is c.read.ensures.read
