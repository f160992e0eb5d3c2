use Rattle.std.proofs.Common.{◌≡◌, List, ◌++◌, ℕ, [], ap, ◌∙◌}
use Rattle.std.proofs.lemmas.Bool.{false≢true}
use Rattle.gdb_line.specs.Talk.{Goes, GoesPartly}
use Rattle.gdb_session.specs.ServerState.{said_by, sign_of, talker, IsAnsweredBy, IsAnsweredPartly}
use Rattle.gdb_session.proofs.AnswerDelivery.{sent, sent_partly, sign_replies, sign_goes_on}
use Rattle.gdb_session.proofs.LineClaims.{tells_so}
use Rattle.gdb_session.proofs.ServeFaults.{at_any_err}
use Rattle.gdb_session.proofs.server.Server.answer.Goals as goal

-- nothing was to go before
first_out : (before more now : List ℕ) → now ≡ before ++ more → before ≡ [] → now ≡ more
first_out before more now is none = is ∙ ap (λ l. l ++ more) none

pub returns-in_err-send-in_default-clause-partly : goal.returns-in_err-send-in_default-clause-partly
returns-in_err-send-in_default-clause-partly g c =
    let told = g.N.Line.told in
    let s = c.args.self.now in
    let t = c.push_sign.new.self in
    let text = s.text.items in
    let k = c.args.kind in
    let pushed = c.in_ok-push_sign-in_default.ensures in
    let out = first_out s.out.items (sign_of k (talker s)) t.out.items pushed.out c.requires in
    let replies = sign_replies k text (talker s) (talker t) t.out.items c.in_default.not-Packet pushed.same.talker_same out in
    at_any_err c.from_residual-in_err-send-in_default.result _
    (tells_so (told c.args.line.now) (told c.send.new.line) (GoesPartly t.out.items) (IsAnsweredPartly s (said_by k text))
    (λ a b goes. sent_partly s t (said_by k text) a b replies goes) c.in_err-send-in_default.ensures.refused)

pub returns-in_ok-send-in_default-clause-answered : goal.returns-in_ok-send-in_default-clause-answered
returns-in_ok-send-in_default-clause-answered g c =
    let told = g.N.Line.told in
    let s = c.args.self.now in
    let t = c.push_sign.new.self in
    let u = c.send.new.self in
    let text = s.text.items in
    let k = c.args.kind in
    let pushed = c.in_ok-push_sign-in_default.ensures in
    let sends = c.in_ok-send-in_default.ensures in
    let out = first_out s.out.items (sign_of k (talker s)) t.out.items pushed.out c.requires in
    let replies = sign_replies k text (talker s) (talker t) t.out.items c.in_default.not-Packet pushed.same.talker_same out in
    tells_so (told c.args.line.now) (told c.send.new.line) (Goes t.out.items) (IsAnsweredBy s u (said_by k text))
    (λ a b goes. sent s t u (said_by k text) a b c.requires pushed.same.held sends.same sends.empty replies goes) sends.goes

pub returns-in_ok-send-in_default-clause-ended : goal.returns-in_ok-send-in_default-clause-ended
returns-in_ok-send-in_default-clause-ended g c = (
  λ never. absurd (false≢true never),
  λ last. absurd (sign_goes_on c.args.kind c.args.self.now.text.items c.in_default.not-Packet last),
)
