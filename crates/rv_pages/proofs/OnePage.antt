-- The bytes of each page, after all bytes of one page are written.
use Rattle.std.proofs.Common.{◌≡◌, ◌≢◌, ℕ, zero, suc, ◌+◌, ◌-◌, ◌*◌, ◌/◌, ◌<◌, ◌≤◌, List, ◌++◌, length, get_or, take, drop, replicate, refl, sym, ap, ◌∙◌, arith}
use Rattle.std.proofs.lemmas.List.{get_or-take, get_or-drop, get_or_default, length-drop, length-take-le, take_at, drop_at, same_lists}
use Rattle.std.proofs.lemmas.List.Elements.{All-from_get_or}
use Rattle.std.specs.List.{All}
use borrow.Rule.Slice.PartMut.{put_mid, post_of}
use Rattle.rv_pages.specs.Memory.{page_bytes}
use Rattle.rv_pages.specs.PageLayout.{memory_kept, AreKept}
use Rattle.rv_pages.proofs.Bytes.{kept_bytes}
use Rattle.rv_pages.proofs.PageWrites.{kept_written, byte_written, length_written, mid_inside}

module _ (numbers bytes part : List ℕ) (h : AreKept numbers bytes) (i : ℕ) (below : i < length numbers) (whole : length part ≡ 4096) where
  abbrev After : List ℕ
  After = put_mid (i * 4096) 4096 bytes part

  inside : (k : ℕ) → k < length numbers → k * 4096 + 4096 ≤ length bytes
  inside k low = let all = h.whole in omega (arith, all, low)

  middle : take 4096 (drop (i * 4096) After) ≡ part
  middle =
      let short : length (take (i * 4096) bytes) ≡ i * 4096 = length-take-le (i * 4096) bytes (let fits = inside i below in omega (arith, fits)) in
      ap (take 4096) (drop_at (take (i * 4096) bytes) (part ++ post_of (i * 4096) 4096 bytes) (i * 4096) short)
      ∙ take_at part (post_of (i * 4096) 4096 bytes) 4096 whole

  -- it has the bytes that were written
  pub page_written : page_bytes (memory_kept numbers After) (get_or numbers i 0) ≡ part
  page_written = kept_bytes numbers After (kept_written numbers bytes part h i below whole) i below ∙ middle

  long : (xs : List ℕ) (k : ℕ) → k * 4096 + 4096 ≤ length xs → length (take 4096 (drop (k * 4096) xs)) ≡ 4096
  long xs k fits = length-take-le 4096 (drop (k * 4096) xs) (let e = length-drop (k * 4096) xs in omega (arith, e, fits))

  same_part : (k : ℕ) → k < length numbers → k ≢ i → take 4096 (drop (k * 4096) After) ≡ take 4096 (drop (k * 4096) bytes)
  same_part k low apart =
      let fits = inside k low in
      let room = inside i below in
      let size : length After ≡ length bytes = length_written bytes part (i * 4096) 4096 room whole in
      let mine = long After k (omega (arith, size, fits)) in
      let theirs = long bytes k fits in
      same_lists _ _ (mine ∙ sym theirs) (λ r d m.
      let near : r < 4096 = omega (arith, m, mine) in
      get_or_default (take 4096 (drop (k * 4096) After)) r d 0 m
      ∙ get_or-take 4096 (drop (k * 4096) After) r 0 near ∙ get_or-drop (k * 4096) After r 0
      ∙ byte_written bytes part i k r room whole near (λ (e : i ≡ k). apart (sym e))
      ∙ sym (get_or-take 4096 (drop (k * 4096) bytes) r 0 near ∙ get_or-drop (k * 4096) bytes r 0)
      ∙ sym (get_or_default (take 4096 (drop (k * 4096) bytes)) r d 0 (omega (arith, near, theirs))))

  -- each other page has the bytes that it had
  pub page_kept : (k : ℕ) → k < length numbers → k ≢ i → page_bytes (memory_kept numbers After) (get_or numbers k 0) ≡ page_bytes (memory_kept numbers bytes) (get_or numbers k 0)
  page_kept k low apart =
      kept_bytes numbers After (kept_written numbers bytes part h i below whole) k low ∙ same_part k low apart ∙ sym (kept_bytes numbers bytes h k low)

  -- a byte of the page that was written
  pub byte_inside : (place : ℕ) → place / 4096 ≡ i → All (λ b. b ≡ 0) part → get_or After place 0 ≡ 0
  byte_inside place here zeros =
      let room = inside i below in
      let offset : i * 4096 + (place - i * 4096) ≡ place = omega (arith, here) in
      let near : place - i * 4096 < length part = omega (arith, here, whole) in
      ap (λ p. get_or After p 0) (sym offset) ∙ mid_inside bytes part (i * 4096) 4096 (place - i * 4096) (omega (arith, room)) near ∙ zeros (place - i * 4096) 0 near

zero_at : (n k : ℕ) → get_or {A = ℕ} (replicate n 0) k 0 ≡ 0
zero_at zero k = refl
zero_at (suc n) zero = refl
zero_at (suc n) (suc k) = zero_at n k

pub zeros_are : (n : ℕ) → All (λ (b : ℕ). b ≡ 0) (replicate n 0)
zeros_are n = All-from_get_or (λ (b : ℕ). b ≡ 0) (replicate n 0) 0 (λ k low. zero_at n k)
