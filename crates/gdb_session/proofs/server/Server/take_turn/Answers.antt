use Rattle.std.proofs.Common.{Bool, IsFalse, sym, ◌∙◌}
use Rattle.std.proofs.lemmas.Bool.{false≢true}
use Rattle.keepers.specs.Claims.{Tells}
use Rattle.gdb_session.specs.declared.server.Server.{Server}
use Rattle.gdb_session.specs.ServerState.{said_by, IsAnsweredBy, IsAnsweredPartly}
use Rattle.gdb_session.specs.Turns.{Continues, Concludes, Fails, Feeds, Overflows}
use Rattle.gdb_session.proofs.LineClaims.{tells_here, tells_so}
use Rattle.gdb_session.proofs.TurnEffects.{Takes, TakesNone, item_continues, item_concludes, item_fails, held_fails, none_feeds, none_overflows}
use Rattle.gdb_session.proofs.ServeFaults.{at_any_err, if_ok_so, some_case, none_case}
use Rattle.gdb_session.proofs.server.Server.take_turn.Goals as goal

-- no memory for an item
pub returns-in_err-kind-clause-fails : goal.returns-in_err-kind-clause-fails
returns-in_err-kind-clause-fails g c =
    let told = g.N.Line.told in
    let s = c.args.self.now in
    at_any_err c.from_residual.result (Tells (told c.args.line.now) (told c.args.line.now) (Fails s)) (tells_here (told c.args.line.now) (Fails s) (λ b. held_fails s b))

-- an item can't be answered
pub returns-in_err-answer-in-Some-clause-fails : goal.returns-in_err-answer-in-Some-clause-fails
returns-in_err-answer-in-Some-clause-fails g c =
    let told = g.N.Line.told in
    let s = c.args.self.now in
    let t = c.take_item.new.self in
    let said = said_by c.in-Some.kind t.text.items in
    let item = some_case _ _ c.in_ok-kind.field-0 c.in-Some.kind c.in-Some.is c.in_ok-kind.ensures.item in
    let takes : Takes said s t = record { front = item.0; cut = item.1; item = item.2; same = c.in_ok-kind.ensures.same } in
    let fails = tells_so (told c.args.line.now) (told c.answer.new.line) (IsAnsweredPartly t said) (Fails s) (λ b d partly. item_fails said s t b d takes partly) c.in_err-answer-in-Some.ensures.partly in
    at_any_err c.from_residual-in_err-answer-in-Some.result (Tells (told c.args.line.now) (told c.answer.new.line) (Fails s)) fails

-- an item was answered
pub returns-in_ok-answer-in-Some-clause-continues : goal.returns-in_ok-answer-in-Some-clause-continues
returns-in_ok-answer-in-Some-clause-continues g c is =
    let told = g.N.Line.told in
    let s = c.args.self.now in
    let t = c.take_item.new.self in
    let u = c.answer.new.self in
    let said = said_by c.in-Some.kind t.text.items in
    let item = some_case _ _ c.in_ok-kind.field-0 c.in-Some.kind c.in-Some.is c.in_ok-kind.ensures.item in
    let takes : Takes said s t = record { front = item.0; cut = item.1; item = item.2; same = c.in_ok-kind.ensures.same } in
    let ended = c.in_ok-answer-in-Some.ensures.ended in
    tells_so (told c.args.line.now) (told c.answer.new.line) (IsAnsweredBy t u said) (Continues s u)
    (λ b d by. item_continues said s t u b d takes c.requires c.in_ok-answer-in-Some.ensures.empty (λ last. false≢true (sym is ∙ ended.1 last)) by)
    c.in_ok-answer-in-Some.ensures.answered

pub returns-in_ok-answer-in-Some-clause-concludes : goal.returns-in_ok-answer-in-Some-clause-concludes
returns-in_ok-answer-in-Some-clause-concludes g c is =
    let told = g.N.Line.told in
    let s = c.args.self.now in
    let t = c.take_item.new.self in
    let u = c.answer.new.self in
    let said = said_by c.in-Some.kind t.text.items in
    let item = some_case _ _ c.in_ok-kind.field-0 c.in-Some.kind c.in-Some.is c.in_ok-kind.ensures.item in
    let takes : Takes said s t = record { front = item.0; cut = item.1; item = item.2; same = c.in_ok-kind.ensures.same } in
    let ended = c.in_ok-answer-in-Some.ensures.ended in
    tells_so (told c.args.line.now) (told c.answer.new.line) (IsAnsweredBy t u said) (Concludes s)
    (λ b d by. item_concludes said s t u b d takes c.requires c.in_ok-answer-in-Some.ensures.empty (ended.0 is) by)
    c.in_ok-answer-in-Some.ensures.answered

-- more bytes came
pub returns-in-None-clause-feeds : goal.returns-in-None-clause-feeds
returns-in-None-clause-feeds g c =
    let told = g.N.Line.told in
    let s = c.args.self.now in
    let t = c.take_item.new.self in
    let u = c.take_more.new.self in
    let none = none_case _ _ c.in_ok-kind.field-0 c.in-None.is c.in_ok-kind.ensures.item in
    let takes : TakesNone s t = record { held = none.1; same = c.in_ok-kind.ensures.same } in
    let Fed : Server → Bool → Type 0 = λ taken over. IsFalse over → Tells (told c.args.line.now) (told c.take_more.new.line) (Feeds taken u) in
    if_ok_so c.take_more.result (Fed t) (Fed s)
    (λ over fed is. tells_so (told c.args.line.now) (told c.take_more.new.line) (Feeds t u) (Feeds s u) (λ b d feeds. none_feeds s t u b d takes feeds) (fed is))
    c.take_more.ensures.feeds

pub returns-in-None-clause-long : goal.returns-in-None-clause-long
returns-in-None-clause-long g c is =
    let told = g.N.Line.told in
    let s = c.args.self.now in
    let t = c.take_item.new.self in
    let none = none_case _ _ c.in_ok-kind.field-0 c.in-None.is c.in_ok-kind.ensures.item in
    let takes : TakesNone s t = record { held = none.1; same = c.in_ok-kind.ensures.same } in
    tells_so (told c.args.line.now) (told c.take_more.new.line) (Overflows t) (Overflows s) (λ b d long. none_overflows s t b d takes long) (c.take_more.ensures.long is)
