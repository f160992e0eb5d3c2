-- What stays true of pages when one of them is written, and when their bytes become those of other pages.
use Rattle.std.proofs.Common.{Vec, Global, ◌≡◌, ◌≢◌, ℕ, ◌+◌, ◌-◌, ◌*◌, ◌/◌, ◌<◌, ◌≤◌, inl, inr, List, length, get_or, take, drop, max, sym, ap, subst, ◌∙◌, arith}
use Rattle.std.proofs.lemmas.Bool.{cases_lt, cases_eq}
use Rattle.std.proofs.lemmas.List.{get_or-take, get_or-drop, length-take, ext_get_or, with_items_is}
use Rattle.std.proofs.lemmas.List.Elements.{All-from_get_or}
use Rattle.std.specs.List.{All}
use Rattle.std.specs.Vec.{with_items}
use borrow.Rule.Slice.PartMut.{put_mid}
use Rattle.rv_pages.specs.Marks.{mark_of}
use Rattle.rv_pages.specs.Memory.{Memory, page_numbers, IsZeroPage}
use Rattle.rv_pages.specs.PageLayout.{memory_kept, AreKept, ArePages}
use Rattle.rv_pages.proofs.Bytes.{kept_bytes}
use Rattle.rv_pages.proofs.MarkOperations.{mark_cases}
use Rattle.rv_pages.proofs.Numbers.{seen_numbers}
use Rattle.rv_pages.proofs.PageWrites.{mid_below, mid_above, length_written}

-- what a vector holds after a write to a part of it
pub written_items : (v : Vec ℕ Global) (before after : List ℕ) (start size : ℕ) (part : List ℕ) → before ≡ v.items → after ≡ part → start + size ≤ length v.items → length part ≡ size → (with_items v (put_mid start (start + size - start) before after)).items ≡ put_mid start size v.items part
written_items v before after start size part was is inside whole =
    let long : start + size - start ≡ size = omega arith in
    let wrote : put_mid start (start + size - start) before after ≡ put_mid start size v.items part = λ i. put_mid start (long i) (was i) (is i) in
    with_items_is v _ (ap length wrote ∙ length_written v.items part start size inside whole ∙ sym v.ok.0) ∙ wrote

-- a page that isn't marked is all zero
pub zero_page : (numbers tops lows bytes words : List ℕ) → ArePages numbers tops lows bytes words → (i : ℕ) → i < length numbers → mark_of words i ≡ 0 → IsZeroPage (memory_kept numbers bytes) (get_or numbers i 0)
zero_page numbers tops lows bytes words h i l unmarked =
    let page : List ℕ = take 4096 (drop (i * 4096) bytes) in
    let each : (k : ℕ) → k < length page → get_or page k 0 ≡ 0 =
    λ (k : ℕ) (m : k < length page).
    let inside : k < 4096 = omega (arith, length-take 4096 (drop (i * 4096) bytes)) in
    let index : (i * 4096 + k) / 4096 ≡ i = omega arith in
    get_or-take 4096 (drop (i * 4096) bytes) k 0 inside ∙ get_or-drop (i * 4096) bytes k 0 ∙ h.unmarked (i * 4096 + k) (ap (mark_of words) index ∙ unmarked)
    in
    subst (All (λ b. b ≡ 0)) (sym (kept_bytes numbers bytes h.kept i l)) (All-from_get_or (λ b. b ≡ 0) page 0 each)

-- a part of a page is written, and the page is marked
pub outside_page : (bytes part : List ℕ) (i start size place : ℕ) → start + size ≤ length bytes → length part ≡ size → i * 4096 ≤ start → start + size ≤ i * 4096 + 4096 → place / 4096 ≢ i → get_or (put_mid start size bytes part) place 0 ≡ get_or bytes place 0
outside_page bytes part i start size place fits whole from to other =
    elim (cases_lt place start) [
      | inl l ↦ mid_below bytes part start size place (omega arith) l
      | inr r ↦ elim (cases_lt place (start + size)) [
        | inl m ↦ absurd (other (omega arith))
        | inr m ↦ mid_above bytes part start size place fits whole m
      ]
    ]

pub pages_written : (numbers tops lows bytes words after marked : List ℕ) → ArePages numbers tops lows bytes words → (i : ℕ) → i < length numbers → mark_of marked i ≡ 1 → ((k : ℕ) → k ≢ i → mark_of marked k ≡ mark_of words k) → length marked ≡ 64 → length after ≡ length bytes → ((place : ℕ) → place / 4096 ≢ i → get_or after place 0 ≡ get_or bytes place 0) → ArePages numbers tops lows after marked
pages_written numbers tops lows bytes words after marked h i l is others size long same = record {
  kept = record { ascending = h.kept.ascending; below = h.kept.below; few = h.kept.few; whole = long ∙ h.kept.whole };
  tables = h.tables;
  found = h.found;
  size = size;
  marked = λ k past. others k (λ (e : k ≡ i). omega arith) ∙ h.marked k past;
  unmarked = λ place none.
      let other : place / 4096 ≢ i = λ (e : place / 4096 ≡ i). let one = ap (mark_of marked) e in omega arith in
      same place other ∙ h.unmarked place (sym (others (place / 4096) other) ∙ none);
}

-- the same pages with the bytes and the marks of others
pub pages_copied : (numbers tops lows bytes words theirs tops_too lows_too after marked : List ℕ) → ArePages numbers tops lows bytes words → ArePages theirs tops_too lows_too after marked → numbers ≡ theirs → ArePages numbers tops lows after marked
pages_copied numbers tops lows bytes words theirs tops_too lows_too after marked h g same =
    let long : length numbers ≡ length theirs = ap length same in
    record {
      kept = subst (λ ns. AreKept ns after) (sym same) g.kept;
      tables = h.tables;
      found = h.found;
      size = g.size;
      marked = λ k past. g.marked k (omega arith);
      unmarked = g.unmarked;
    }

-- bytes that were copied where either is marked are those of the other
pub copied_whole : (bytes from after mine theirs both : List ℕ) → length after ≡ length from
    → ((k : ℕ) → mark_of both k ≡ max (mark_of mine k) (mark_of theirs k))
    → ((place : ℕ) → mark_of mine (place / 4096) ≡ 0 → get_or bytes place 0 ≡ 0)
    → ((place : ℕ) → mark_of theirs (place / 4096) ≡ 0 → get_or from place 0 ≡ 0)
    → ((place : ℕ) → mark_of both (place / 4096) ≡ 1 → get_or after place 0 ≡ get_or from place 0)
    → ((place : ℕ) → mark_of both (place / 4096) ≡ 0 → get_or after place 0 ≡ get_or bytes place 0)
    → after ≡ from
copied_whole bytes from after mine theirs both long union zeros zeros_too copied others =
    ext_get_or 0 after from long (λ place l.
    elim (mark_cases both (place / 4096)) [
      | inl none ↦
          let is = union (place / 4096) in
          others place none ∙ zeros place (omega arith) ∙ sym (zeros_too place (omega arith))
      | inr one ↦ copied place one
    ])

-- the same of a value that the pages have
pub zero_seen : (numbers tops lows bytes words : List ℕ) → ArePages numbers tops lows bytes words → (m : Memory) → memory_kept numbers bytes ≡ m → (i : ℕ) → i < length numbers → mark_of words i ≡ 0 → IsZeroPage m (get_or (page_numbers m) i 0)
zero_seen numbers tops lows bytes words h m is i l unmarked =
    let mapped = seen_numbers numbers bytes m h.kept is in
    subst (λ ns. IsZeroPage m (get_or ns i 0)) (sym mapped) (subst (λ k. IsZeroPage k (get_or numbers i 0)) is (zero_page numbers tops lows bytes words h i l unmarked))

-- a marked page is mapped
pub marked_inside : (numbers tops lows bytes words : List ℕ) → ArePages numbers tops lows bytes words → (i : ℕ) → mark_of words i ≡ 1 → i < length numbers
marked_inside numbers tops lows bytes words h i is =
    elim (cases_lt i (length numbers)) [ inl l ↦ l | inr r ↦ absurd (let none = h.marked i r in omega arith) ]

-- a page is made zero, and its mark is taken away
pub pages_cleared : (numbers tops lows bytes words after marks : List ℕ) → ArePages numbers tops lows bytes words → (i : ℕ) → i < length numbers → mark_of marks i ≡ 0 → ((k : ℕ) → k ≢ i → mark_of marks k ≡ mark_of words k) → length marks ≡ 64 → length after ≡ length bytes → ((place : ℕ) → place / 4096 ≡ i → get_or after place 0 ≡ 0) → ((place : ℕ) → place / 4096 ≢ i → get_or after place 0 ≡ get_or bytes place 0) → ArePages numbers tops lows after marks
pages_cleared numbers tops lows bytes words after marks h i l none others size long zero same = record {
  kept = record { ascending = h.kept.ascending; below = h.kept.below; few = h.kept.few; whole = long ∙ h.kept.whole };
  tables = h.tables;
  found = h.found;
  size = size;
  marked = λ k past. others k (λ (e : k ≡ i). omega arith) ∙ h.marked k past;
  unmarked = λ place unmarked. elim (cases_eq (place / 4096) i) [
    | inl e ↦ zero place e
    | inr other ↦ same place other ∙ h.unmarked place (sym (others (place / 4096) other) ∙ unmarked)
  ];
}
