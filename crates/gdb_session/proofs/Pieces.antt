-- Texts that are added in pieces.
use Rattle.std.proofs.Common.{◌≡◌, ℕ, ◌<◌, ◌≤◌, ◌==◌, Bool, true, false, List, [], ◌∷◌, ◌++◌, length, map, refl, sym, ap, subst, ◌∙◌, arith, append-nil, append_assoc}
use Rattle.std.proofs.lemmas.Bool.Decides.{nat_tests}
use Rattle.std.proofs.lemmas.List.{nil_from_length}
use Rattle.std.specs.List.{flat_map}
use Rattle.gdb_wire.specs.Replies.{reply_packet}
use Rattle.gdb_session.specs.declared.server.Server.{Server}
use Rattle.gdb_session.specs.Moves.{ArePieces, console_text}
use Rattle.gdb_session.specs.Conversation.{last_packet}
use Rattle.gdb_session.specs.ServerState.{SaysReply}
use Rattle.gdb_session.proofs.ProgramOutput.{flat_joined, map_joined, no_pieces, one_piece, pieces_joined}
use Rattle.gdb_session.proofs.Motions.{last_joined}

pub says_none : (s : Server) → SaysReply s s
says_none s = record { session = refl; held = refl }

pub says_then : (s t u : Server) → SaysReply s t → SaysReply t u → SaysReply s u
says_then s t u h g = record { session = g.session ∙ h.session; held = g.held ∙ h.held }

-- the pieces so far, of what stands before the rest
pub record PiecesSoFar (text rest : List ℕ) (s t : Server) : Type 0 where
  pub front : List ℕ
  pub pieces : List (List ℕ)
  pub whole : text ≡ front ++ rest
  pub are : ArePieces front pieces
  pub out : t.out.items ≡ s.out.items ++ flat_map reply_packet (map console_text pieces)
  pub last : t.last.items ≡ last_packet s.last.items (map console_text pieces)
  pub same : SaysReply s t

pub no_pieces_yet : (text : List ℕ) (s : Server) → PiecesSoFar text text s s
no_pieces_yet text s = record { front = []; pieces = []; whole = refl; are = no_pieces; out = sym (append-nil s.out.items); last = refl; same = says_none s }

pub one_more : (text rest piece more : List ℕ) (s t u : Server) → PiecesSoFar text rest s t → rest ≡ piece ++ more → 0 < length piece → length piece ≤ 4096 →
    u.out.items ≡ t.out.items ++ reply_packet (console_text piece) → u.last.items ≡ reply_packet (console_text piece) → SaysReply t u → PiecesSoFar text more s u
one_more text rest piece more s t u h e some few out last same =
    let texts : List (List ℕ) = map console_text h.pieces in
    let packet : List ℕ = reply_packet (console_text piece) in
    let joined : map console_text (h.pieces ++ piece ∷ []) ≡ texts ++ console_text piece ∷ [] = map_joined console_text h.pieces (piece ∷ []) in
    let flat : flat_map reply_packet (map console_text (h.pieces ++ piece ∷ [])) ≡ flat_map reply_packet texts ++ packet =
    ap (flat_map reply_packet) joined ∙ flat_joined reply_packet texts (console_text piece ∷ []) ∙ ap (λ (l : List ℕ). flat_map reply_packet texts ++ l) (append-nil packet) in
    record {
      front = h.front ++ piece;
      pieces = h.pieces ++ piece ∷ [];
      whole = h.whole ∙ ap (λ (l : List ℕ). h.front ++ l) e ∙ sym (append_assoc h.front piece more);
      are = pieces_joined h.front piece h.pieces (piece ∷ []) h.are (one_piece piece some few);
      out = out ∙ ap (λ (l : List ℕ). l ++ packet) h.out ∙ append_assoc s.out.items (flat_map reply_packet texts) packet ∙ ap (λ (l : List ℕ). s.out.items ++ l) (sym flat);
      last = last ∙ last_joined s.last.items texts (console_text piece ∷ []) ∙ ap (last_packet s.last.items) (sym joined);
      same = says_then s t u h.same same;
    }

-- all of them
pub all_pieces : (text rest : List ℕ) (s t : Server) → PiecesSoFar text rest s t → rest ≡ [] →
    (pieces : List (List ℕ)) × ArePieces text pieces × (t.out.items ≡ s.out.items ++ flat_map reply_packet (map console_text pieces)) × (t.last.items ≡ last_packet s.last.items (map console_text pieces))
all_pieces text rest s t h none =
    let whole : text ≡ h.front = h.whole ∙ ap (λ (l : List ℕ). h.front ++ l) none ∙ append-nil h.front in
    (h.pieces, subst (λ (l : List ℕ). ArePieces l h.pieces) (sym whole) h.are, h.out, h.last)

-- ---- the rest

pub some_rest : (rest : List ℕ) (e : Bool) → e ≡ (length rest == 0) → e ≡ false → 0 < length rest
some_rest rest e is other = grind (arith, nat_tests)

pub no_rest : (rest : List ℕ) (e : Bool) → e ≡ (length rest == 0) → e ≡ true → rest ≡ []
no_rest rest e is same = let none : length rest ≡ 0 = grind (arith, nat_tests) in nil_from_length rest none
