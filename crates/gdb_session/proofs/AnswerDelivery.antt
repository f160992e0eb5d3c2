-- The answer to an item is sent.
use Rattle.std.proofs.Common.{◌≡◌, ℕ, Bool, true, false, List, [], ◌∷◌, ◌++◌, take, codes, refl, sym, ap, subst, ◌∙◌, inl, inr, append-nil}
use Rattle.std.proofs.lemmas.Bool.{false≢true}
use Rattle.std.specs.List.{flat_map}
use Rattle.gdb_line.specs.Talk.{Talk, Goes, GoesPartly}
use Rattle.gdb_wire.specs.Items.{Said, packet}
use Rattle.gdb_wire.specs.Replies.{reply_packet}
use Rattle.gdb_wire.specs.Requests.{IsRequest}
use Rattle.gdb_wire.specs.declared.request.Motion.{Motion}
use Rattle.gdb_wire.specs.declared.request.Request.{Request}
use Rattle.gdb_wire.specs.declared.request.Request.TheVariants.{Move, Kill, Detach}
use Rattle.gdb_wire.proofs.ParserCorrectness.{one_request}
use Rattle.gdb_session.specs.declared.server.Kind.{Kind}
use Rattle.gdb_session.specs.declared.server.Kind.TheVariants as kind
use Rattle.gdb_session.specs.declared.server.Server.{Server}
use Rattle.gdb_session.specs.Debugger.{Debugger}
use Rattle.gdb_session.specs.Answers.{Moves, Answers}
use Rattle.gdb_session.specs.Conversation.{Talker, last_packet, if_acks, interrupts, Replies, IsLast, Passes}
use Rattle.gdb_session.specs.SessionFields.{IsAnswered}
use Rattle.gdb_session.specs.ServerState.{said_by, sign_of, talker, Does, OnlySends, IsAnsweredBy, IsAnsweredPartly}
use Rattle.gdb_session.proofs.ItemAnswers.{replies_more}
use Rattle.gdb_session.proofs.LineClaims.{none_comes, goes_passes}

-- nothing comes
pub nothing_comes : (old : Server) (said : Said) (a : Talk) → IsAnsweredPartly old said a a
nothing_comes old said a = inl ([], none_comes a)

-- what nothing interrupts holds whether gdb interrupts or not
uninterrupted : (broken : Bool) (t : Talker) (said : Said) (u : Talker) (bytes : List ℕ) → Replies false t said u bytes → Replies broken t said u bytes
uninterrupted broken t said u bytes is = replies_more false broken t said u bytes (λ (e : false ≡ true). absurd (false≢true e)) is

-- What was to go is the answer, and it went.
pub sent : (old mid new : Server) (said : Said) (a b : Talk) → old.out.items ≡ [] → mid.held.items ≡ old.held.items → OnlySends mid new → new.out.items ≡ [] →
    Replies false (talker old) said (talker mid) mid.out.items → Goes mid.out.items a b → IsAnsweredBy old new said a b
sent old mid new said a b none held sends empty replies goes =
    let bytes = mid.out.items in
    let at_new = subst (λ x. Replies false (talker old) said x bytes) (sym sends.talker_same) replies in (
      bytes,
      uninterrupted (interrupts new.held.items) (talker old) said (talker new) bytes at_new,
      (
        [],
        bytes,
        goes_passes bytes a b goes,
        sends.held ∙ held ∙ sym (append-nil old.held.items),
        ap (λ l. l ++ bytes) none ∙ sym (ap (λ l. bytes ++ l) empty ∙ append-nil bytes),
      ),
    )

pub sent_partly : (old mid : Server) (said : Said) (a b : Talk) → Replies false (talker old) said (talker mid) mid.out.items → GoesPartly mid.out.items a b →
    IsAnsweredPartly old said a b
sent_partly old mid said a b replies goes =
    let bytes = mid.out.items in
    inr (
      [],
      take goes.0 bytes,
      bytes,
      talker mid,
      goes.0,
      goes_passes (take goes.0 bytes) a b goes.1,
      uninterrupted (interrupts (old.held.items ++ [])) (talker old) said (talker mid) bytes replies,
      refl,
    )

-- ---- items that are no packet

pub sign_replies : (which : Kind) (text : List ℕ) (t u : Talker) (bytes : List ℕ) → (which ≡ kind.Packet → ⊥) → u ≡ t → bytes ≡ sign_of which t →
    Replies false t (said_by which text) u bytes
sign_replies kind.Packet text t u bytes other same is = absurd (other refl)
sign_replies kind.DamagedPacket text t u bytes other same is = (same, is)
sign_replies kind.Interrupt text t u bytes other same is = (same, is)
sign_replies kind.Resend text t u bytes other same is = (same, is)
sign_replies kind.AckOrNoise text t u bytes other same is = (same, is)

pub sign_goes_on : (which : Kind) (text : List ℕ) → (which ≡ kind.Packet → ⊥) → IsLast (said_by which text) → ⊥
sign_goes_on kind.Packet text other last = other refl
sign_goes_on kind.DamagedPacket text other last = last
sign_goes_on kind.Interrupt text other last = last
sign_goes_on kind.Resend text other last = last
sign_goes_on kind.AckOrNoise text other last = last

-- ---- packets

-- a request that is neither a move nor a kill
pub is_answered : (request : Request) → ((motion : Motion) → request ≡ Move motion → ⊥) → (request ≡ Kill → ⊥) → IsAnswered request
is_answered (Move motion) no_move no_kill = absurd (no_move motion refl)
is_answered Kill no_move no_kill = absurd (no_kill refl)
is_answered request no_move no_kill = tt

-- which packets aren't gdb's last word
pub goes_on : (text : List ℕ) (request : Request) → IsRequest text request → (request ≡ Detach → ⊥) → (request ≡ Kill → ⊥) → IsLast (packet text) → ⊥
goes_on text request asks no_detach no_kill (inl detach) = no_detach (one_request text request Detach asks detach)
goes_on text request asks no_detach no_kill (inr kill) = no_kill (one_request text request Kill asks kill)

-- a packet that is answered by one packet, the acknowledgment before it
pub reply_is : (t u : Talker) (d e : Debugger) (text reply : List ℕ) (request : Request) (acked bytes : List ℕ) → IsRequest text request → d ≡ t.debugger → u.debugger ≡ e →
    Answers false d request e (reply ∷ []) → u.last ≡ reply_packet reply → acked ≡ if_acks t (codes "+") → bytes ≡ acked ++ reply_packet reply →
    Replies false t (packet text) u bytes
reply_is t u d e text reply request acked bytes asks same new answers last ack is = (
  request,
  reply ∷ [],
  asks,
  subst (λ x. Answers false x request u.debugger (reply ∷ [])) same (subst (λ x. Answers false d request x (reply ∷ [])) (sym new) answers),
  last,
  is ∙ ap (λ l. l ++ reply_packet reply) ack ∙ ap (λ l. if_acks t (codes "+") ++ l) (sym (append-nil (reply_packet reply))),
)

-- a packet that kills
pub kill_is : (t u : Talker) (text bytes : List ℕ) → IsRequest text Kill → u ≡ t → bytes ≡ if_acks t (codes "+") → Replies false t (packet text) u bytes
kill_is t u text bytes asks same is = (
  Kill,
  [],
  asks,
  (ap (λ (x : Talker). x.debugger) same, refl),
  ap (λ (x : Talker). x.last) same,
  is ∙ sym (append-nil (if_acks t (codes "+"))),
)

-- a packet that moves
pub moved : (old mid new : Server) (text : List ℕ) (motion : Motion) (a b : Talk) → IsRequest text (Move motion) → old.out.items ≡ [] → OnlySends old mid →
    mid.out.items ≡ if_acks (talker old) (codes "+") →
    ((texts : List (List ℕ)) × Moves (interrupts new.held.items) mid.session motion new.session texts × (new.last.items ≡ last_packet mid.last.items texts)
    × Does mid new (flat_map reply_packet texts) a b) →
    IsAnsweredBy old new (packet text) a b
moved old mid new text motion a b asks none sends ack moves =
    let texts = moves.0 in
    let replies = flat_map reply_packet texts in
    let bytes = if_acks (talker old) (codes "+") ++ replies in
    let does = moves.3 in (
      bytes,
      (
        Move motion,
        texts,
        asks,
        subst (λ d. Moves (interrupts new.held.items) d motion new.session texts) (ap (λ (x : Talker). x.debugger) sends.talker_same) moves.1,
        moves.2 ∙ ap (λ (x : Talker). last_packet x.last texts) sends.talker_same,
        refl,
      ),
      (
        does.0,
        does.1,
        does.2,
        does.3 ∙ ap (λ l. l ++ does.0) sends.held,
        ap (λ l. l ++ bytes) none ∙ ap (λ l. l ++ replies) (sym ack) ∙ does.4,
      ),
    )

pub moved_partly : (old mid : Server) (text : List ℕ) (motion : Motion) (a b : Talk) → IsRequest text (Move motion) → OnlySends old mid →
    mid.out.items ≡ if_acks (talker old) (codes "+") →
    ((came : List ℕ) × (went : List ℕ) × (texts : List (List ℕ)) × (e : Debugger) × (count : ℕ) × Passes came went a b
    × Moves (interrupts (mid.held.items ++ came)) mid.session motion e texts × (went ≡ take count (mid.out.items ++ flat_map reply_packet texts))) →
    IsAnsweredPartly old (packet text) a b
moved_partly old mid text motion a b asks sends ack moves =
    let came = moves.0 in
    let texts = moves.2 in
    let e = moves.3 in
    let replies = flat_map reply_packet texts in
    let of_old = subst (λ d. Moves (interrupts (mid.held.items ++ came)) d motion e texts) (ap (λ (x : Talker). x.debugger) sends.talker_same) moves.6 in
    let behind = subst (λ l. Moves (interrupts (l ++ came)) old.session motion e texts) sends.held of_old in
    inr (
      came,
      moves.1,
      if_acks (talker old) (codes "+") ++ replies,
      record { debugger = e; last = last_packet old.last.items texts },
      moves.4,
      moves.5,
      (Move motion, texts, asks, behind, refl, refl),
      moves.7 ∙ ap (λ l. take moves.4 (l ++ replies)) ack,
    )
