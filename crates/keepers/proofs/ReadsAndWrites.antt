-- What several reads take from known bytes, and what several writes add to them.
use Rattle.std.proofs.Common.{◌≡◌, ℕ, ◌+◌, ◌-◌, ◌≤◌, List, [], ◌++◌, take, drop, length, Option, Some, None, IfSome, sym, ap, ◌∙◌, append_assoc, append-nil, arith}
use Rattle.std.proofs.Math.Seq.{take-add}
use Rattle.std.proofs.lemmas.List.{take-take, length-take, length-drop, length-take-le, take_at, take_all, drop_at, take-append-le}
use Rattle.std.proofs.lemmas.Slice.{take-put_mid_below}
use borrow.Rule.Slice.PartMut.{put_mid, post_of, same_len_mid}
use Rattle.std.specs.Io.KnownBytes.{Appends, Consumes, IsAtEnd, Keeps}
use Rattle.keepers.specs.Claims.{WhereTold, Begins}

pub consumes_more : (a b c : Option (List ℕ)) (xs ys : List ℕ) → Consumes a b xs → Consumes b c ys → Consumes a c (xs ++ ys)
consumes_more None b c xs ys first second = tt
consumes_more (Some before) None c xs ys first second = absurd first
consumes_more (Some before) (Some between) None xs ys first second = absurd second
consumes_more (Some before) (Some between) (Some after) xs ys first second = first ∙ ap (λ rest. xs ++ rest) second ∙ sym (append_assoc xs ys after)

pub consumes_kept : (a b c : Option (List ℕ)) (xs : List ℕ) → Consumes a b xs → Keeps b c → Consumes a c xs
consumes_kept None b c xs first second = tt
consumes_kept (Some before) None c xs first second = absurd first
consumes_kept (Some before) (Some between) None xs first second = absurd second
consumes_kept (Some before) (Some between) (Some after) xs first second = first ∙ ap (λ rest. xs ++ rest) (sym second)

-- bytes that were taken begin what there was
pub consumes_begins : (a b : Option (List ℕ)) (xs : List ℕ) → Consumes a b xs → IfSome a (λ bytes. Begins xs bytes)
consumes_begins None b xs took = tt
consumes_begins (Some before) None xs took = absurd took
consumes_begins (Some before) (Some rest) xs took = (rest, took)

pub appends_more : (a b c : Option (List ℕ)) (xs ys : List ℕ) → Appends a b xs → Appends b c ys → Appends a c (xs ++ ys)
appends_more None b c xs ys first second = tt
appends_more (Some before) None c xs ys first second = absurd first
appends_more (Some before) (Some between) None xs ys first second = absurd second
appends_more (Some before) (Some between) (Some after) xs ys first second = second ∙ ap (λ front. front ++ ys) first ∙ append_assoc before xs ys

pub appends_kept : (a b c : Option (List ℕ)) (xs : List ℕ) → Appends a b xs → Keeps b c → Appends a c xs
appends_kept None b c xs first second = tt
appends_kept (Some before) None c xs first second = absurd first
appends_kept (Some before) (Some between) None xs first second = absurd second
appends_kept (Some before) (Some between) (Some after) xs first second = second ∙ first

-- the next bytes of a piece, where they are taken from what is left of it
pub taken_more : (at count : ℕ) (piece : List ℕ) → count ≤ length (take (length piece - at) (drop at piece)) → take (at + count) piece ≡ take at piece ++ take count (take (length piece - at) (drop at piece))
taken_more at count piece fits =
    let within : count ≤ length piece - at = omega (arith, length-take (length piece - at) (drop at piece)) in
    take-add at count piece ∙ ap (λ next. take at piece ++ next) (sym (take-take count (length piece - at) (drop at piece) within))

-- what is read into a room whose first bytes were read before
module _ (at k count : ℕ) (room piece : List ℕ) (front : at ≤ length room) (rest : k ≡ length room - at) (full : length piece ≡ k) (fits : count ≤ length piece) where
  abbrev Room : List ℕ
  Room = put_mid at k room piece

  pub room_stays : length Room ≡ length room
  room_stays = same_len_mid at k room piece (full ∙ (let long : length (take k (drop at room)) ≡ k = simp (length-take, length-drop) (omega (arith, rest, front)) in sym long))

  pub room_read : take (at + count) Room ≡ take at room ++ take count piece
  room_read =
      let short : length (take at room) ≡ at = length-take-le at room front in
      take-add at count Room
      ∙ ap (λ xs. xs ++ take count (drop at Room)) (take-put_mid_below at k room piece at (omega arith) front)
      ∙ ap (λ xs. take at room ++ take count xs) (drop_at (take at room) (piece ++ post_of at k room) at short)
      ∙ ap (λ xs. take at room ++ xs) (take-append-le count piece (post_of at k room) fits)

-- what was read fills the room
pub read_full : (a b : Option (List ℕ)) (at n : ℕ) (room : List ℕ) → Consumes a b (take at room) → at ≡ length room → length room ≡ n → WhereTold a (λ bytes. take at room ≡ take n bytes)
read_full None b at n room read full long = tt
read_full (Some bytes) None at n room read full long = absurd read
read_full (Some bytes) (Some rest) at n room read full long =
    let short : length (take at room) ≡ n = length-take-le at room (omega (arith, full)) ∙ full ∙ long in
    sym (take_at (take at room) rest n short) ∙ ap (take n) (sym read)

-- what was read is all that there was
pub read_end : (a b c : Option (List ℕ)) (at n : ℕ) (room piece room' : List ℕ) → Consumes a b (take at room) → Consumes b c (take 0 piece) → IsAtEnd c → at ≤ length room → length room ≡ n → take at room' ≡ take at room → WhereTold a (λ bytes. take at room' ≡ take n bytes)
read_end None b c at n room piece room' first second end front long same = tt
read_end (Some bytes) None c at n room piece room' first second end front long same = absurd first
read_end (Some bytes) (Some rest) None at n room piece room' first second end front long same = absurd second
read_end (Some bytes) (Some rest) (Some left) at n room piece room' first second end front long same =
    let none : rest ≡ [] = second ∙ end in
    let all : bytes ≡ take at room = first ∙ ap (λ xs. take at room ++ xs) none ∙ append-nil (take at room) in
    let short : length (take at room) ≤ n = (let e = length-take-le at room front in omega (arith, e, front, long)) in
    same ∙ sym (take_all n (take at room) short) ∙ ap (take n) (sym all)
