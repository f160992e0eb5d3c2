-- Pieces of what comes.
use Rattle.std.proofs.Common.{◌≡◌, ℕ, ◌+◌, ◌++◌, List, length, take, drop, sym, ap, ◌∙◌}
use Rattle.std.proofs.lemmas.List.{take-append-drop, drop-drop}
use Rattle.std.proofs.Math.Seq.{take-add, take-append_seam}

-- a piece at the front of a room
front_is : (room new : List ℕ) (count : ℕ) → length new ≡ count → take count (new ++ drop count room) ≡ new
front_is room new count is = ap (λ n. take n (new ++ drop count room)) (sym is) ∙ take-append_seam new (drop count room)

-- what was left is the piece, and what is left
pub left_is : (bytes room new : List ℕ) (taken count : ℕ) → length new ≡ count → new ≡ take count (drop taken bytes) →
    drop taken bytes ≡ take count (new ++ drop count room) ++ drop (taken + count) bytes
left_is bytes room new taken count len is =
    sym (take-append-drop count (drop taken bytes))
    ∙ (λ i. (sym (front_is room new count len ∙ is)) i ++ drop-drop count taken bytes i)

-- what came is what came before, and the piece
pub came_is : (bytes room new : List ℕ) (taken count : ℕ) → length new ≡ count → new ≡ take count (drop taken bytes) →
    take (taken + count) bytes ≡ take taken bytes ++ take count (new ++ drop count room)
came_is bytes room new taken count len is = take-add taken count bytes ∙ ap (λ xs. take taken bytes ++ xs) (sym (front_is room new count len ∙ is))
