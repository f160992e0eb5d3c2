-- Each turn is fed by a byte that came: it takes an item, which has some, or more bytes come.
use Rattle.std.proofs.Common.{◌≡◌, ◌<◌, ℕ, ◌+◌, ◌-◌, ◌^◌, List, [], ◌++◌, length, ap, arith, length-append}
use Rattle.gdb_line.specs.Talk.{Talk}
use Rattle.gdb_wire.specs.Items.{Said, packet, damaged_packet, interrupt, resend, ack_or_noise, IsItem}
use Rattle.gdb_session.specs.declared.server.Server.{Server}
use Rattle.gdb_session.specs.ServerState.{Holds, IsAnsweredBy}
use Rattle.gdb_session.specs.Turns.{IsFed}

-- no item is without a byte
pub item_some : (said : Said) (bytes : List ℕ) → IsItem said bytes → 0 < length bytes
item_some (packet text) bytes is = let some = ap length is.2.whole in omega arith
item_some damaged_packet bytes is = let some = ap length is.2.whole in omega arith
item_some interrupt bytes is = let some = ap length is in omega arith
item_some resend bytes is = let some = ap length is in omega arith
item_some ack_or_noise bytes is = let some = ap length is.4 in omega arith

pub begins_fed : (held : List ℕ) (talk : Talk) → held ≡ [] → IsFed 0 held talk
begins_fed held talk none = let empty = ap length none in omega arith

-- an item was taken and answered
pub item_fed : (turns : ℕ) (front : List ℕ) (said : Said) (old taken new : Server) (b c : Talk) → old.held.items ≡ front ++ taken.held.items → IsItem said front →
    IsFed turns old.held.items b → IsAnsweredBy taken new said b c → IsFed (turns + 1) new.held.items c
item_fed turns front said old taken new b c cut item fed answered =
    let came = answered.2.0 in
    let some = item_some said front item in
    let before = ap length cut in
    let parts = length-append front taken.held.items in
    let now = ap length answered.2.3 in
    let held = length-append taken.held.items came in
    let all = ap length answered.2.2.1 in
    let more = length-append b.came came in
    omega arith

-- more bytes came
pub piece_fed : (turns : ℕ) (old taken new : Server) (b c : Talk) → taken.held.items ≡ old.held.items → length taken.held.items < length new.held.items →
    IsFed turns old.held.items b → Holds taken new b c → IsFed (turns + 1) new.held.items c
piece_fed turns old taken new b c same longer fed holds =
    let piece = holds.0 in
    let before = ap length same in
    let now = ap length holds.2 in
    let held = length-append taken.held.items piece in
    let all = ap (λ (t : Talk). length t.came) holds.1.1 in
    let more = length-append b.came piece in
    omega arith

-- the greatest count of turns is fed by more than 2 ^ 62 bytes
pub much_fed : (turns : ℕ) (held : List ℕ) (talk : Talk) → turns ≡ 2 ^ 64 - 1 → IsFed turns held talk → 2 ^ 62 < length talk.came
much_fed turns held talk all fed = omega arith
