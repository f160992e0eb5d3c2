use Rattle.std.proofs.Common.{◌≡◌, ◌↔◌, List, [], ◌++◌, ℕ, Bool, true, false, codes, Result, Ok, IfOk, IsTrue, ap, subst, sym, refl, ◌∙◌, inl}
use Rattle.std.proofs.lemmas.Bool.{false≢true}
use Rattle.gdb_line.specs.Talk.{Goes, GoesPartly}
use Rattle.gdb_wire.specs.Items.{packet}
use Rattle.gdb_wire.specs.Requests.{IsRequest}
use Rattle.gdb_wire.specs.declared.request.Request.{Request}
use Rattle.gdb_wire.specs.declared.request.Request.TheVariants.{Move, Kill, Detach}
use Rattle.gdb_session.specs.declared.server.TalkFault.{TalkFault}
use Rattle.gdb_session.specs.Conversation.{if_acks, IsLast, Talker}
use Rattle.gdb_session.specs.ServerState.{talker, IsAnsweredBy, IsAnsweredPartly}
use Rattle.gdb_session.proofs.AnswerDelivery.{sent, sent_partly, goes_on, reply_is, kill_is, moved, moved_partly}
use Rattle.gdb_session.proofs.LineClaims.{tells_so}
use Rattle.gdb_session.proofs.ServeFaults.{at_any_ok, at_any_err}
use Rattle.gdb_session.proofs.server.Server.answer_packet.Goals as goal
use Rattle.gdb_session.proofs.server.Server.answer_packet.Goals.{in-Detach, in_default-matches}

-- what was read of the text asks for this
asks_for : (text seen : List ℕ) (request asked : Request) → seen ≡ text → IsRequest seen request → request ≡ asked → IsRequest text asked
asks_for text seen request asked same read is = subst (λ r. IsRequest text r) is (subst (λ l. IsRequest l request) same read)

-- nothing was to go before
first_out : (before more now : List ℕ) → now ≡ before ++ more → before ≡ [] → now ≡ more
first_out before more now is none = is ∙ ap (λ l. l ++ more) none

-- whether a request that was answered is gdb's last word
last_is : (text : List ℕ) (request : Request) (r : Result Bool TalkFault) → IsRequest text request → request ≡ Detach → r ≡ Ok true →
    IfOk r (λ ended. IsTrue ended ↔ IsLast (packet text))
last_is text request r asks detach is =
    subst (λ (x : Result Bool TalkFault). IfOk x (λ ended. IsTrue ended ↔ IsLast (packet text))) (sym is) (λ _. inl (subst (λ q. IsRequest text q) detach asks), λ _. refl)

last_isnt : (text : List ℕ) (request : Request) (r : Result Bool TalkFault) → IsRequest text request → (request ≡ Detach → ⊥) → (request ≡ Kill → ⊥) → r ≡ Ok false →
    IfOk r (λ ended. IsTrue ended ↔ IsLast (packet text))
last_isnt text request r asks no_detach no_kill is =
    subst (λ (x : Result Bool TalkFault). IfOk x (λ ended. IsTrue ended ↔ IsLast (packet text))) (sym is)
    (λ never. absurd (false≢true never), λ last. absurd (goes_on text request asks no_detach no_kill last))

-- ---- a move

pub returns-in_err-run_move-in-Move-clause-partly : goal.returns-in_err-run_move-in-Move-clause-partly
returns-in_err-run_move-in-Move-clause-partly g c =
    let told = g.N.Line.told in
    let s = c.args.self.now in
    let t = c.push_ack.new.self in
    let text = s.text.items in
    let asks = asks_for text c.as_slice.result.now c.in_ok-request.request (Move c.in-Move.motion) c.as_slice.ensures.value c.in_ok-request.ensures.read c.in-Move.is in
    let out = first_out s.out.items (if_acks (talker s) (codes "+")) t.out.items c.in_ok-push_ack.ensures.out c.requires in
    at_any_err c.from_residual-in_err-run_move-in-Move.result _
    (tells_so (told c.args.line.now) (told c.run_move.new.line) _ (IsAnsweredPartly s (packet text))
    (λ a b moves. moved_partly s t text c.in-Move.motion a b asks c.in_ok-push_ack.ensures.same out moves) c.in_err-run_move-in-Move.ensures.partly)

pub returns-in-Move-clause-answered : goal.returns-in-Move-clause-answered
returns-in-Move-clause-answered g c =
    let told = g.N.Line.told in
    let s = c.args.self.now in
    let t = c.push_ack.new.self in
    let u = c.run_move.new.self in
    let text = s.text.items in
    let asks = asks_for text c.as_slice.result.now c.in_ok-request.request (Move c.in-Move.motion) c.as_slice.ensures.value c.in_ok-request.ensures.read c.in-Move.is in
    let out = first_out s.out.items (if_acks (talker s) (codes "+")) t.out.items c.in_ok-push_ack.ensures.out c.requires in
    tells_so (told c.args.line.now) (told c.run_move.new.line) _ (IsAnsweredBy s u (packet text))
    (λ a b moves. moved s t u text c.in-Move.motion a b asks c.requires c.in_ok-push_ack.ensures.same out moves) c.in_ok-run_move-in-Move.ensures.moves

-- ---- the program is killed

pub returns-in_err-send-in-Kill-clause-partly : goal.returns-in_err-send-in-Kill-clause-partly
returns-in_err-send-in-Kill-clause-partly g c =
    let told = g.N.Line.told in
    let s = c.args.self.now in
    let t = c.push_ack.new.self in
    let text = s.text.items in
    let asks = asks_for text c.as_slice.result.now c.in_ok-request.request Kill c.as_slice.ensures.value c.in_ok-request.ensures.read c.in-Kill.is in
    let out = first_out s.out.items (if_acks (talker s) (codes "+")) t.out.items c.in_ok-push_ack.ensures.out c.requires in
    let replies = kill_is (talker s) (talker t) text t.out.items asks c.in_ok-push_ack.ensures.same.talker_same out in
    at_any_err c.from_residual-in_err-send-in-Kill.result _
    (tells_so (told c.args.line.now) (told c.send.new.line) (GoesPartly t.out.items) (IsAnsweredPartly s (packet text))
    (λ a b goes. sent_partly s t (packet text) a b replies goes) c.in_err-send-in-Kill.ensures.refused)

-- ---- another request

pub returns-in_err-send-in_default-clause-partly : goal.returns-in_err-send-in_default-clause-partly
returns-in_err-send-in_default-clause-partly g c =
    let told = g.N.Line.told in
    let s = c.args.self.now in
    let t = c.push_ack.new.self in
    let p = c.push_reply.new.self in
    let text = s.text.items in
    let request = c.in_ok-request.request in
    let asks = subst (λ l. IsRequest l request) c.as_slice.ensures.value c.in_ok-request.ensures.read in
    let out = first_out s.out.items (if_acks (talker s) (codes "+")) t.out.items c.in_ok-push_ack.ensures.out c.requires in
    let replies = reply_is (talker s) (talker p) t.session c.answer.new.self text c.answer.new.text.items request t.out.items p.out.items asks
    (ap (λ (x : Talker). x.debugger) c.in_ok-push_ack.ensures.same.talker_same) c.in_ok-push_reply-in_default.ensures.same.session c.in_ok-answer-in_default.ensures
    c.in_ok-push_reply-in_default.ensures.last out c.in_ok-push_reply-in_default.ensures.out in
    at_any_err c.from_residual-in_err-send-in_default.result _
    (tells_so (told c.args.line.now) (told c.send-in_default.new.line) (GoesPartly p.out.items) (IsAnsweredPartly s (packet text))
    (λ a b goes. sent_partly s p (packet text) a b replies goes) c.in_err-send-in_default.ensures.refused)

pub returns-clause-answered : goal.returns-clause-answered
returns-clause-answered g c =
    let told = g.N.Line.told in
    let s = c.args.self.now in
    let t = c.push_ack.new.self in
    let p = c.push_reply.new.self in
    let u = c.send-in_default.new.self in
    let text = s.text.items in
    let request = c.in_ok-request.request in
    let asks = subst (λ l. IsRequest l request) c.as_slice.ensures.value c.in_ok-request.ensures.read in
    let out = first_out s.out.items (if_acks (talker s) (codes "+")) t.out.items c.in_ok-push_ack.ensures.out c.requires in
    let replies = reply_is (talker s) (talker p) t.session c.answer.new.self text c.answer.new.text.items request t.out.items p.out.items asks
    (ap (λ (x : Talker). x.debugger) c.in_ok-push_ack.ensures.same.talker_same) c.in_ok-push_reply-in_default.ensures.same.session c.in_ok-answer-in_default.ensures
    c.in_ok-push_reply-in_default.ensures.last out c.in_ok-push_reply-in_default.ensures.out in
    let sends = c.in_ok-send-in_default.ensures in
    let held : p.held.items ≡ s.held.items = ◌∙◌ {A = List ℕ} c.in_ok-push_reply-in_default.ensures.same.held c.in_ok-push_ack.ensures.same.held in
    at_any_ok c.match-matches.result _
    (tells_so (told c.args.line.now) (told c.send-in_default.new.line) (Goes p.out.items) (IsAnsweredBy s u (packet text))
    (λ a b goes. sent s p u (packet text) a b c.requires held sends.same sends.empty replies goes)
    sends.goes)

pub returns-clause-ended : goal.returns-clause-ended
returns-clause-ended g c =
    let text = c.args.self.now.text.items in
    let request = c.in_ok-request.request in
    let asks = subst (λ l. IsRequest l request) c.as_slice.ensures.value c.in_ok-request.ensures.read in
    elim c.match-matches.branch [
      | in-Detach w ↦ last_is text request c.match-matches.result asks w.in-Detach.is w.result-is
      | in_default-matches w ↦ last_isnt text request c.match-matches.result asks w.in_default-matches.not-Detach c.in_default.not-Kill w.result-is
    ]
