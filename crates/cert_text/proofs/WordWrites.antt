-- Words of a line that are put into its writes, some after others.
use Rattle.std.proofs.Common.{◌≡◌, ℕ, ◌+◌, List, [], ◌∷◌, ◌++◌, sym, ap, subst, ◌∙◌, append-nil, append_assoc, add-one, Result, Ok, Err, OnOk, OnErr}
use Rattle.std.specs.Prelude.{codes}
use Rattle.std.specs.List.{concat}
use Rattle.keepers.specs.Claims.{Tells, AddsPrefix}
use Rattle.keepers.specs.LineWrites.{Seen, AddsLines, StopsIn}
use Rattle.keepers.proofs.LineSequences.{none_added, added_then, stopped_then, stopped_before, stopped_prefix}
use Rattle.cert_text.specs.Canonical.{pieces_from}
use Rattle.cert_text.specs.LineWrites.{Puts, StopsAt}

-- ---- one word

pub put_behind : (word text after : List ℕ) (room left : ℕ) (a : Seen) → left + 1 ≡ room → after ≡ text ++ 32 ∷ word → Puts (word ∷ []) room text left after a a
put_behind word text after room left a less is = record {
  done = [];
  parts = λ later.
      ap (λ (n : ℕ). pieces_from n text (word ∷ later)) (sym less ∙ add-one left)
      ∙ ap (λ (t : List ℕ). pieces_from left t later) (sym is);
  added = none_added a;
}

pub put_next : (word text after : List ℕ) (room left : ℕ) (a b : Seen) → room ≡ 0 → left ≡ 15 → after ≡ 32 ∷ word → AddsLines (text ∷ []) a b → Puts (word ∷ []) room text left after a b
put_next word text after room left a b none less is added = record {
  done = text ∷ [];
  parts = λ later.
      ap (λ (n : ℕ). pieces_from n text (word ∷ later)) none
      ∙ ap (λ (n : ℕ). text ∷ pieces_from n (32 ∷ word) later) (sym less)
      ∙ ap (λ (t : List ℕ). text ∷ pieces_from left t later) (sym is);
  added = added;
}

pub stop_next : (word text : List ℕ) (room : ℕ) (a b : Seen) → room ≡ 0 → StopsIn (text ∷ []) a b → StopsAt (word ∷ []) room text a b
stop_next word text room a b none stop = record {
  stops = λ later.
      let P : ℕ → Type 0 = λ n. StopsIn (pieces_from n text (word ∷ later)) a b in
      subst P (sym none) (stopped_before (text ∷ []) (pieces_from 15 (32 ∷ word) later) a b stop);
}

-- ---- words behind words

pub put_then : (xs ys : List (List ℕ)) (room left last : ℕ) (text after end : List ℕ) (a b c : Seen) → Puts xs room text left after a b → Puts ys left after last end b c → Puts (xs ++ ys) room text last end a c
put_then xs ys room left last text after end a b c first second = record {
  done = first.done ++ second.done;
  parts = λ later.
      ap (pieces_from room text) (append_assoc xs ys later)
      ∙ first.parts (ys ++ later)
      ∙ ap (λ (l : List (List ℕ)). first.done ++ l) (second.parts later)
      ∙ sym (append_assoc first.done second.done (pieces_from last end later));
  added = added_then first.done second.done a b c first.added second.added;
}

pub stop_then : (xs ys : List (List ℕ)) (room left : ℕ) (text after : List ℕ) (a b c : Seen) → Puts xs room text left after a b → StopsAt ys left after b c → StopsAt (xs ++ ys) room text a c
stop_then xs ys room left text after a b c first stop = record {
  stops = λ later.
      let all = ap (pieces_from room text) (append_assoc xs ys later) ∙ first.parts (ys ++ later) in
      let P : List (List ℕ) → Type 0 = λ l. StopsIn l a c in
      subst P (sym all) (stopped_then first.done (pieces_from left after (ys ++ later)) a b c first.added (stop.stops later));
}

-- ---- a whole line

abbrev line_of : List (List ℕ) → List (List ℕ)
line_of ws = pieces_from 16 (codes "#!") ws

whole_line : (room : ℕ) (text : List ℕ) (ws : List (List ℕ)) → room ≡ 16 → text ≡ codes "#!" → pieces_from room text ws ≡ line_of ws
whole_line room text ws full start = λ i. pieces_from (full i) (start i) ws

-- it was ended
pub ended : (ws : List (List ℕ)) (room left : ℕ) (text after : List ℕ) (a b c : Seen) → room ≡ 16 → text ≡ codes "#!" → Puts ws room text left after a b → AddsLines (pieces_from left after []) b c → AddsLines (line_of ws) a c
ended ws room left text after a b c full start put end =
    let all = ap (λ (l : List (List ℕ)). pieces_from room text l) (sym (append-nil ws)) ∙ put.parts [] in
    let same : line_of ws ≡ put.done ++ pieces_from left after [] = sym (whole_line room text ws full start) ∙ all in
    let P : List (List ℕ) → Type 0 = λ l. AddsLines l a c in
    subst P (sym same) (added_then put.done (pieces_from left after []) a b c put.added end)

-- its last write failed
pub end_stopped : (ws : List (List ℕ)) (room left : ℕ) (text after : List ℕ) (a b c : Seen) → room ≡ 16 → text ≡ codes "#!" → Puts ws room text left after a b → StopsIn (pieces_from left after []) b c → StopsIn (line_of ws) a c
end_stopped ws room left text after a b c full start put end =
    let all = ap (λ (l : List (List ℕ)). pieces_from room text l) (sym (append-nil ws)) ∙ put.parts [] in
    let same : line_of ws ≡ put.done ++ pieces_from left after [] = sym (whole_line room text ws full start) ∙ all in
    let P : List (List ℕ) → Type 0 = λ l. StopsIn l a c in
    subst P (sym same) (stopped_then put.done (pieces_from left after []) a b c put.added end)

-- a write before failed
pub line_stopped : (ws later : List (List ℕ)) (room : ℕ) (text : List ℕ) (a b : Seen) → room ≡ 16 → text ≡ codes "#!" → StopsAt ws room text a b → StopsIn (line_of (ws ++ later)) a b
line_stopped ws later room text a b full start stop =
    let same = whole_line room text (ws ++ later) full start in
    let P : List (List ℕ) → Type 0 = λ l. StopsIn l a b in
    subst P same (stop.stops later)

-- ---- a text of one line, by how its last write ended

pub one_line_ended : {T E : Type 0} (r : Result T E) (ws : List (List ℕ)) (room left : ℕ) (text after : List ℕ) (a b c : Seen) → room ≡ 16 → text ≡ codes "#!" → Puts ws room text left after a b →
    OnOk r (AddsLines (pieces_from left after []) b c) → OnOk r (AddsLines (line_of ws ++ []) a c)
one_line_ended (Ok x) ws room left text after a b c full start put end = added_then (line_of ws) [] a c c (ended ws room left text after a b c full start put end) (none_added c)
one_line_ended (Err f) ws room left text after a b c full start put end = tt

pub one_line_stopped : {T E : Type 0} (r : Result T E) (ws : List (List ℕ)) (room left : ℕ) (text after : List ℕ) (a b c : Seen) → room ≡ 16 → text ≡ codes "#!" → Puts ws room text left after a b →
    OnErr r (StopsIn (pieces_from left after []) b c) → OnErr r (StopsIn (line_of ws ++ []) a c)
one_line_stopped (Ok x) ws room left text after a b c full start put end = tt
one_line_stopped (Err f) ws room left text after a b c full start put end = stopped_before (line_of ws) [] a c (end_stopped ws room left text after a b c full start put end)

-- ---- the writes of a whole text, which join to these bytes

pub added_told : {T E : Type 0} (r : Result T E) (ps : List (List ℕ)) (bytes : List ℕ) (a b : Seen) → concat ps ≡ bytes → OnOk r (AddsLines ps a b) → OnOk r (Tells a.told b.told (λ old new. new ≡ old ++ bytes))
added_told (Ok x) ps bytes a b joined added = subst (λ (l : List ℕ). Tells a.told b.told (λ old new. new ≡ old ++ l)) joined added.told
added_told (Err f) ps bytes a b joined added = tt

pub stopped_told : {T E : Type 0} (r : Result T E) (ps : List (List ℕ)) (bytes : List ℕ) (a b : Seen) → concat ps ≡ bytes → OnErr r (StopsIn ps a b) → OnErr r (Tells a.told b.told (AddsPrefix bytes))
stopped_told (Ok x) ps bytes a b joined stop = tt
stopped_told (Err f) ps bytes a b joined stop = subst (λ (l : List ℕ). Tells a.told b.told (AddsPrefix l)) joined (stopped_prefix ps a b stop)
