-- Items are answered one after the other, and what comes behind them does no harm.
use Rattle.std.proofs.Common.{◌≡◌, ◌<◌, ℕ, ◌+◌, ◌==◌, ◌||◌, Bool, true, false, cond, List, [], ◌∷◌, ◌++◌, length, refl, sym, ap, subst, ◌∙◌, inl, inr, arith, append-nil, append_assoc}
use Rattle.std.proofs.lemmas.Bool.{false≢true}
use Rattle.std.proofs.lemmas.List.{take_all}
use Rattle.std.proofs.Math.Seq.{take-append-add}
use Rattle.gdb_line.specs.Talk.{Talk, Comes}
use Rattle.gdb_wire.specs.Items.{Said, packet, IsItem, IsPartial}
use Rattle.gdb_wire.specs.declared.request.Request.{Request}
use Rattle.gdb_wire.specs.declared.request.Request.TheVariants.{Move}
use Rattle.run_timeline.specs.Moves.{Run}
use Rattle.gdb_session.specs.declared.server.Server.{Server}
use Rattle.gdb_session.specs.Debugger.{Debugger}
use Rattle.gdb_session.specs.Answers.{Answers}
use Rattle.gdb_session.specs.Conversation.{Talker, new_talker, interrupts, Replies, IsLast, AreAnswered, EndsTalk, Passes, Serves, ServesPartly, IsTooLong}
use Rattle.gdb_session.specs.ServerState.{talker, Holds, OnlyHolds, TakesItem, IsAnsweredBy, IsAnsweredPartly}
use Rattle.gdb_session.specs.Turns.{NoneLast, Within, GoesOn}
use Rattle.gdb_session.proofs.LineClaims.{passes_then, comes_passes}

-- ---- what comes later

after_byte : (x y p q : Bool) → (p ≡ true → q ≡ true) → cond x true (cond y false p) ≡ true → cond x true (cond y false q) ≡ true
after_byte true y p q f is = refl
after_byte false true p q f is = is
after_byte false false p q f is = f is

-- an interrupt stays one
pub interrupts_more : (bytes more : List ℕ) → interrupts bytes ≡ true → interrupts (bytes ++ more) ≡ true
interrupts_more [] more is = absurd (false≢true is)
interrupts_more (b ∷ bytes) more is = after_byte (b == 3) (b == 36 || b == 45) (interrupts bytes) (interrupts (bytes ++ more)) (interrupts_more bytes more) is

-- an answer stays one where gdb interrupts more
pub answers_more : (some more : Bool) (d : Debugger) (request : Request) (e : Debugger) (texts : List (List ℕ)) → (some ≡ true → more ≡ true) →
    Answers some d request e texts → Answers more d request e texts
answers_more some more d (Move motion) e texts f is = record {
  halt = is.halt;
  written = is.written;
  leads = is.leads;
  cause = λ interrupted. f (is.cause interrupted);
  shows = is.shows;
  same = is.same;
  texts_are = is.texts_are;
}
answers_more some more d request e texts f is = is

pub replies_more : (some more : Bool) (t : Talker) (said : Said) (u : Talker) (bytes : List ℕ) → (some ≡ true → more ≡ true) →
    Replies some t said u bytes → Replies more t said u bytes
replies_more some more t (packet text) u bytes f is = (is.0, is.1, is.2, answers_more some more t.debugger is.0 u.debugger is.1 f is.3, is.4, is.5)
replies_more some more t said u bytes f is = is

-- more bytes behind the items do no harm
pub answered_more : (t : Talker) (items : List Said) (bytes rest : List ℕ) (u : Talker) (went more : List ℕ) →
    AreAnswered t items bytes rest u went → AreAnswered t items (bytes ++ more) (rest ++ more) u went
answered_more t [] bytes rest u went more is = (ap (λ l. l ++ more) is.0, is.1, is.2)
answered_more t (said ∷ others) bytes rest u went more is = (
  is.0,
  is.1 ++ more,
  is.2,
  is.3,
  is.4,
  ap (λ l. l ++ more) is.5 ∙ append_assoc is.0 is.1 more,
  is.6,
  replies_more (interrupts is.1) (interrupts (is.1 ++ more)) t said is.2 is.3 (interrupts_more is.1 more) is.7,
  answered_more is.2 others is.1 rest u is.4 more is.8,
  is.9,
  is.10,
)

-- ---- one item more

none_last_more : (items : List Said) (said : Said) → NoneLast items → (IsLast said → ⊥) → NoneLast (items ++ said ∷ [])
none_last_more [] said none not = (not, tt)
none_last_more (item ∷ items) said none not = (none.0, none_last_more items said none.1 not)

ends_talk : (items : List Said) (said : Said) → IsLast said → EndsTalk (items ++ said ∷ [])
ends_talk [] said is = is
ends_talk (item ∷ []) said is = is
ends_talk (item ∷ next ∷ items) said is = ends_talk (next ∷ items) said is

-- the item behind those that were answered, which none of them forbids
one_more : (t : Talker) (items : List Said) (bytes rest : List ℕ) (u : Talker) (went : List ℕ) → AreAnswered t items bytes rest u went → NoneLast items →
    (said : Said) (front back : List ℕ) (v : Talker) (first : List ℕ) → rest ≡ front ++ back → IsItem said front → Replies (interrupts back) u said v first →
    AreAnswered t (items ++ said ∷ []) bytes back v (went ++ first)
one_more t [] bytes rest u went is none said front back v first cut item replies = (
  front,
  back,
  v,
  first,
  [],
  is.0 ∙ cut,
  item,
  subst (λ x. Replies (interrupts back) x said v first) is.1 replies,
  (refl, refl, refl),
  ap (λ l. l ++ first) is.2 ∙ sym (append-nil first),
  λ _. refl,
)
one_more t (other ∷ items) bytes rest u went is none said front back v first cut item replies = (
  is.0,
  is.1,
  is.2,
  is.3,
  is.4 ++ first,
  is.5,
  is.6,
  is.7,
  one_more is.2 items is.1 rest u is.4 is.8 none.1 said front back v first cut item replies,
  ap (λ l. l ++ first) is.9 ∙ append_assoc is.3 is.4 first,
  λ last. absurd (none.0 last),
)

-- what is left stands at the end
ends_with : (t : Talker) (items : List Said) (bytes rest : List ℕ) (u : Talker) (went : List ℕ) → AreAnswered t items bytes rest u went →
    (front : List ℕ) × (bytes ≡ front ++ rest)
ends_with t [] bytes rest u went is = ([], is.0)
ends_with t (said ∷ items) bytes rest u went is =
    let later = ends_with is.2 items is.1 rest u is.4 is.8 in (
      is.0 ++ later.0,
      is.5 ∙ ap (λ l. is.0 ++ l) later.1 ∙ sym (append_assoc is.0 later.0 rest),
    )

-- ---- over a line

pub begins : (run : Run) (a : Talk) → GoesOn run [] (new_talker run) a a
begins run a = (
  [],
  tt,
  record {
    came = [];
    went = [];
    passes = (refl, sym (append-nil a.came), sym (append-nil a.went));
    answers = (refl, refl, refl);
  },
)

pub begins_at : (run : Run) (held : List ℕ) (u : Talker) (a : Talk) → held ≡ [] → u ≡ new_talker run → GoesOn run held u a a
begins_at run held u a none new =
    subst (λ t. GoesOn run held t a a) (sym new) (subst (λ l. GoesOn run l (new_talker run) a a) (sym none) (begins run a))

-- a piece came, and is held
pub holds_more : (run : Run) (held : List ℕ) (u : Talker) (piece : List ℕ) (a b c : Talk) → GoesOn run held u a b → Comes piece b c → GoesOn run (held ++ piece) u a c
holds_more run held u piece a b c is comes = (
  is.0,
  is.1,
  record {
    came = is.2.came ++ piece;
    went = is.2.went ++ [];
    passes = passes_then is.2.came is.2.went piece [] a b c is.2.passes (comes_passes piece b c comes);
    answers = subst (λ l. AreAnswered (new_talker run) is.0 (is.2.came ++ piece) (held ++ piece) u l) (sym (append-nil is.2.went))
        (answered_more (new_talker run) is.0 is.2.came held u is.2.went piece is.2.answers);
  },
)

-- the same for a server
pub held_on : (run : Run) (old new : Server) (a b c : Talk) → OnlyHolds old new → GoesOn run old.held.items (talker old) a b → Holds old new b c → GoesOn run new.held.items (talker new) a c
held_on run old new a b c only is holds =
    let more = holds_more run old.held.items (talker old) holds.0 a b c is holds.1 in
    subst (λ l. GoesOn run l (talker new) a c) (sym holds.2) (subst (λ u. GoesOn run (old.held.items ++ holds.0) u a c) (sym only.talker_same) more)

-- no item was taken
pub still_on : (run : Run) (old taken : Server) (a b : Talk) → taken.held.items ≡ old.held.items → TakesItem old taken → GoesOn run old.held.items (talker old) a b →
    GoesOn run taken.held.items (talker taken) a b
still_on run old taken a b held takes is =
    subst (λ l. GoesOn run l (talker taken) a b) (sym held) (subst (λ u. GoesOn run old.held.items u a b) (sym takes.talker_same) is)

-- an item was answered, behind which bytes came
one_answered : (run : Run) (items : List Said) (held front back came made : List ℕ) (u v : Talker) (said : Said) (a b : Talk) → NoneLast items →
    (is : Within run items held u a b) → held ≡ front ++ back → IsItem said front → Replies (interrupts (back ++ came)) u said v made →
    AreAnswered (new_talker run) (items ++ said ∷ []) (is.came ++ came) (back ++ came) v (is.went ++ made)
one_answered run items held front back came made u v said a b none is cut item replies =
    one_more (new_talker run) items (is.came ++ came) (held ++ came) u is.went (answered_more (new_talker run) items is.came held u is.went came is.answers) none
    said front (back ++ came) v made (ap (λ l. l ++ came) cut ∙ append_assoc front back came) item replies

-- the same, over the line
item_answered : (run : Run) (items : List Said) (held front back came made went kept : List ℕ) (u v w : Talker) (said : Said) (a b c : Talk) → NoneLast items →
    Within run items held u a b → held ≡ front ++ back → IsItem said front → v ≡ u → kept ≡ back ++ came → made ≡ went → Passes came went b c →
    Replies (interrupts kept) v said w made → Within run (items ++ said ∷ []) kept w a c
item_answered run items held front back came made went kept u v w said a b c none is cut item same kept_is made_is passes replies =
    let at_back = subst (λ l. Replies (interrupts l) v said w made) kept_is replies in
    let from_u = subst (λ x. Replies (interrupts (back ++ came)) x said w made) same at_back in
    let by_went = subst (λ l. Replies (interrupts (back ++ came)) u said w l) made_is from_u in
    let answered = one_answered run items held front back came went u w said a b none is cut item by_went in
    record {
      came = is.came ++ came;
      went = is.went ++ went;
      passes = passes_then is.came is.went came went a b c is.passes passes;
      answers = subst (λ l. AreAnswered (new_talker run) (items ++ said ∷ []) (is.came ++ came) l w (is.went ++ went)) (sym kept_is) answered;
    }

-- a server has taken an item, and has answered it
pub served_more : (run : Run) (items : List Said) (front : List ℕ) (old taken new : Server) (said : Said) (a b c : Talk) → NoneLast items →
    Within run items old.held.items (talker old) a b → old.held.items ≡ front ++ taken.held.items → IsItem said front → TakesItem old taken →
    old.out.items ≡ [] → new.out.items ≡ [] → IsAnsweredBy taken new said b c → Within run (items ++ said ∷ []) new.held.items (talker new) a c
served_more run items front old taken new said a b c none is cut item takes empty sent answered =
    let made_is : answered.0 ≡ answered.2.1 =
    ap (λ l. l ++ answered.0) (sym (takes.out ∙ empty)) ∙ answered.2.4 ∙ ap (λ l. answered.2.1 ++ l) sent ∙ append-nil answered.2.1 in
    item_answered run items old.held.items front taken.held.items answered.2.0 answered.0 answered.2.1 new.held.items (talker old) (talker taken) (talker new) said a b c
    none is cut item takes.talker_same answered.2.3 made_is answered.2.2 answered.1

-- the item isn't gdb's last word
pub went_on : (run : Run) (front : List ℕ) (old taken new : Server) (said : Said) (a b c : Talk) → old.held.items ≡ front ++ taken.held.items → IsItem said front → TakesItem old taken →
    old.out.items ≡ [] → new.out.items ≡ [] → (IsLast said → ⊥) → GoesOn run old.held.items (talker old) a b → IsAnsweredBy taken new said b c → GoesOn run new.held.items (talker new) a c
went_on run front old taken new said a b c cut item takes empty sent more is answered =
    (is.0 ++ said ∷ [], none_last_more is.0 said is.1 more, served_more run is.0 front old taken new said a b c is.1 is.2 cut item takes empty sent answered)

-- ---- ends

pub serves_partly : (run : Run) (held : List ℕ) (u : Talker) (a b : Talk) → GoesOn run held u a b → ServesPartly run a b
serves_partly run held u a b is = (
  is.2.came,
  is.2.went,
  is.2.passes,
  record {
    items = is.0;
    rest = held;
    end = u;
    whole = is.2.went;
    count = length is.2.went;
    answers = is.2.answers;
    beginning = sym (take_all (length is.2.went) is.2.went (omega arith));
  },
)

-- some of the answer to an item went, or nothing
pub item_partly : (run : Run) (front : List ℕ) (old taken : Server) (said : Said) (a b c : Talk) → GoesOn run old.held.items (talker old) a b →
    old.held.items ≡ front ++ taken.held.items → IsItem said front → TakesItem old taken → IsAnsweredPartly taken said b c → ServesPartly run a c
item_partly run front old taken said a b c is cut item takes (inl come) =
    serves_partly run (old.held.items ++ come.0) (talker old) a c (holds_more run old.held.items (talker old) come.0 a b c is come.1)
item_partly run front old taken said a b c is cut item takes (inr some) =
    let came = some.0 in
    let whole = some.2 in
    let replies = subst (λ x. Replies (interrupts (taken.held.items ++ came)) x said some.3 whole) takes.talker_same some.6 in (
      is.2.came ++ came,
      is.2.went ++ some.1,
      passes_then is.2.came is.2.went came some.1 a b c is.2.passes some.5,
      record {
        items = is.0 ++ said ∷ [];
        rest = taken.held.items ++ came;
        end = some.3;
        whole = is.2.went ++ whole;
        count = length is.2.went + some.4;
        answers = one_answered run is.0 old.held.items front taken.held.items came whole (talker old) some.3 said a b is.1 is.2 cut item replies;
        beginning = ap (λ l. is.2.went ++ l) some.7 ∙ sym (take-append-add is.2.went whole some.4);
      },
    )

-- gdb had its last word
pub last_word : (run : Run) (front : List ℕ) (old taken new : Server) (said : Said) (a b c : Talk) → old.held.items ≡ front ++ taken.held.items → IsItem said front → TakesItem old taken →
    old.out.items ≡ [] → new.out.items ≡ [] → IsLast said → GoesOn run old.held.items (talker old) a b → IsAnsweredBy taken new said b c → Serves run a c
last_word run front old taken new said a b c cut item takes empty sent last is answered =
    let all = served_more run is.0 front old taken new said a b c is.1 is.2 cut item takes empty sent answered in (
      all.came,
      all.went,
      all.passes,
      record {
        items = is.0 ++ said ∷ [];
        rest = new.held.items;
        end = talker new;
        answers = all.answers;
        all = inl (ends_talk is.0 said last);
      },
    )

-- the line is at its end, and less than an item is held
pub line_ended : (run : Run) (held : List ℕ) (u : Talker) (a b : Talk) → GoesOn run held u a b → IsPartial held → b.left ≡ [] → Serves run a b
line_ended run held u a b is partial none = (
  is.2.came,
  is.2.went,
  is.2.passes,
  record {
    items = is.0;
    rest = held;
    end = u;
    answers = is.2.answers;
    all = inr (partial, none);
  },
)

pub too_long : (run : Run) (held : List ℕ) (u : Talker) (a b : Talk) → GoesOn run held u a b → IsPartial held → 65536 < length held → IsTooLong b
too_long run held u a b is partial long =
    let e = ends_with (new_talker run) is.0 is.2.came held u is.2.went is.2.answers in
    (a.came ++ e.0, held, is.2.passes.1 ∙ ap (λ l. a.came ++ l) e.1 ∙ sym (append_assoc a.came e.0 held), partial, long)
