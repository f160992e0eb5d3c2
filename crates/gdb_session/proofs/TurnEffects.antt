-- What a turn of a server makes of a conversation, by what its parts do.
use Rattle.std.proofs.Common.{◌≡◌, ◌<◌, ◌≤◌, ◌+◌, ◌*◌, ◌++◌, ℕ, List, [], length, refl, subst, sym}
use Rattle.gdb_line.specs.Talk.{Talk}
use Rattle.gdb_wire.specs.Items.{Said, IsItem, IsPartial}
use Rattle.gdb_session.specs.declared.server.Server.{Server}
use Rattle.gdb_session.specs.Conversation.{IsLast}
use Rattle.gdb_session.specs.ServerState.{talker, Holds, MayCome, OnlyHolds, TakesItem, IsAnsweredBy, IsAnsweredPartly}
use Rattle.gdb_session.specs.Turns.{Continues, Concludes, Fails, Overflows, Feeds}
use Rattle.gdb_session.proofs.ItemAnswers.{holds_more, held_on, still_on, went_on, serves_partly, item_partly, last_word, line_ended, too_long}
use Rattle.gdb_session.proofs.TurnCounts.{item_fed, piece_fed}

-- ---- an item

-- an item was taken from what is held
pub record Takes (said : Said) (old taken : Server) : Type 0 where
  pub front : List ℕ
  pub cut : old.held.items ≡ front ++ taken.held.items
  pub item : IsItem said front
  pub same : TakesItem old taken

pub item_continues : (said : Said) (s t u : Server) (b c : Talk) → Takes said s t → s.out.items ≡ [] → u.out.items ≡ [] → (IsLast said → ⊥) → IsAnsweredBy t u said b c → Continues s u b c
item_continues said s t u b c takes empty sent more by run a is = went_on run takes.front s t u said a b c takes.cut takes.item takes.same empty sent more is by

pub item_feeds : (said : Said) (s t u : Server) (b c : Talk) → Takes said s t → IsAnsweredBy t u said b c → Feeds s u b c
item_feeds said s t u b c takes by turns fed = item_fed turns takes.front said s t u b c takes.cut takes.item fed by

pub item_concludes : (said : Said) (s t u : Server) (b c : Talk) → Takes said s t → s.out.items ≡ [] → u.out.items ≡ [] → IsLast said → IsAnsweredBy t u said b c → Concludes s b c
item_concludes said s t u b c takes empty sent last by run a is = last_word run takes.front s t u said a b c takes.cut takes.item takes.same empty sent last is by

pub item_fails : (said : Said) (s t : Server) (b c : Talk) → Takes said s t → IsAnsweredPartly t said b c → Fails s b c
item_fails said s t b c takes partly run a is = item_partly run takes.front s t said a b c is takes.cut takes.item takes.same partly

pub held_fails : (s : Server) (b : Talk) → Fails s b b
held_fails s b run a is = serves_partly run s.held.items (talker s) a b is

-- ---- more bytes

-- no item was taken
pub record TakesNone (old taken : Server) : Type 0 where
  pub held : taken.held.items ≡ old.held.items
  pub same : TakesItem old taken

pub none_continues : (s t u : Server) (b c : Talk) → TakesNone s t → Continues t u b c → Continues s u b c
none_continues s t u b c takes on run a is = on run a (still_on run s t a b takes.held takes.same is)

pub none_concludes : (s t : Server) (b c : Talk) → TakesNone s t → Concludes t b c → Concludes s b c
none_concludes s t b c takes over run a is = over run a (still_on run s t a b takes.held takes.same is)

pub none_fails : (s t : Server) (b c : Talk) → TakesNone s t → Fails t b c → Fails s b c
none_fails s t b c takes fails run a is = fails run a (still_on run s t a b takes.held takes.same is)

pub none_overflows : (s t : Server) (b c : Talk) → TakesNone s t → Overflows t b c → Overflows s b c
none_overflows s t b c takes long run a is = long run a (still_on run s t a b takes.held takes.same is)

pub none_feeds : (s t u : Server) (b c : Talk) → TakesNone s t → Feeds t u b c → Feeds s u b c
none_feeds s t u b c takes feeds turns fed = feeds turns (subst (λ held. turns + length held ≤ 2 * length b.came) (sym takes.held) fed)

pub piece_continues : (t u : Server) (b c : Talk) → OnlyHolds t u → Holds t u b c → Continues t u b c
piece_continues t u b c same holds run a is = held_on run t u a b c same is holds

pub piece_feeds : (t u : Server) (b c : Talk) → length t.held.items < length u.held.items → Holds t u b c → Feeds t u b c
piece_feeds t u b c longer holds turns fed = piece_fed turns t t u b c refl longer fed holds

pub piece_fails : (t : Server) (b c : Talk) → MayCome b c → Fails t b c
piece_fails t b c may run a is = serves_partly run (t.held.items ++ may.0) (talker t) a c (holds_more run t.held.items (talker t) may.0 a b c is may.1)

-- the line is at its end
pub end_concludes : (t u : Server) (b c : Talk) → OnlyHolds t u → IsPartial u.held.items → Holds t u b c → c.left ≡ [] → Concludes t b c
end_concludes t u b c same partial holds none run a is = line_ended run u.held.items (talker u) a c (held_on run t u a b c same is holds) partial none

pub long_overflows : (t : Server) (b : Talk) → IsPartial t.held.items → 65536 < length t.held.items → Overflows t b b
long_overflows t b partial long run a is = too_long run t.held.items (talker t) a b is partial long
