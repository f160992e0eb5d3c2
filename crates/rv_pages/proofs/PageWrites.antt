-- Kept pages after all bytes of one page are written.
use Rattle.std.proofs.Common.{◌≡◌, ℕ, suc, zero, ◌+◌, ◌-◌, ◌*◌, ◌/◌, ◌%◌, ◌<◌, ◌≤◌, ◌⊎◌, ◌==◌, inl, inr, cond, List, [], ◌∷◌, length, get_or, sym, ap, subst, ◌∙◌, arith, rules, Some}
use Rattle.std.proofs.lemmas.List.{places}
use Rattle.std.proofs.lemmas.Bool.{cases_lt, cases_order, cases_eq, eq-eqb, ne_eqb}
use Rattle.std.proofs.lemmas.List.Elements.{All-from_get_or}
use Rattle.std.specs.List.{All}
use Rattle.std.specs.FinMap.{get}
use borrow.Rule.Slice.PartMut.{put_mid}
use Rattle.rv_pages.specs.PageLayout.{memory_kept, AreKept}
use Rattle.rv_pages.proofs.EntryOrder.{get_kept, get_not_kept}

nowhere : (n : ℕ) (ns : List ℕ) (p : ℕ) → (n ≡ p → ⊥) → ((k : ℕ) → k < length ns → get_or ns k 0 ≡ p → ⊥) → (k : ℕ) → k < length (n ∷ ns) → get_or (n ∷ ns) k 0 ≡ p → ⊥
nowhere n ns p apart none zero l e = apart e
nowhere n ns p apart none (suc k) l e = none k (omega arith) e

-- a number stands somewhere, or nowhere
abbrev pub StandsIn : List ℕ → ℕ → Type 0
StandsIn numbers p = (k : ℕ) × ((k < length numbers) × (get_or numbers k 0 ≡ p))

pub somewhere : (numbers : List ℕ) (p : ℕ) → StandsIn numbers p ⊎ ((k : ℕ) → k < length numbers → get_or numbers k 0 ≡ p → ⊥)
somewhere [] p = inr (λ k l e. omega arith)
somewhere (n ∷ ns) p =
    elim (cases_eq n p) [
      | inl e ↦ inl (0, (omega arith, e))
      | inr apart ↦ elim (somewhere ns p) [
        | inl w ↦ inl (suc w.0, (omega arith, w.1.1))
        | inr none ↦ inr (nowhere n ns p apart none)
      ]
    ]

pub mid_inside : (bs page : List ℕ) (a k r : ℕ) → a ≤ length bs → r < length page → get_or (put_mid a k bs page) (a + r) 0 ≡ get_or page r 0
mid_inside bs page a k r h l = search (rules, places)

pub mid_below : (bs page : List ℕ) (a k j : ℕ) → a ≤ length bs → j < a → get_or (put_mid a k bs page) j 0 ≡ get_or bs j 0
mid_below bs page a k j h l = search (rules, places)

pub mid_above : (bs page : List ℕ) (a k j : ℕ) → a + k ≤ length bs → length page ≡ k → a + k ≤ j → get_or (put_mid a k bs page) j 0 ≡ get_or bs j 0
mid_above bs page a k j h l m = search (rules, places)

-- a byte at an offset of a page, after page i is written
pub byte_written : (bs page : List ℕ) (i k r : ℕ) → i * 4096 + 4096 ≤ length bs → length page ≡ 4096 → r < 4096 → (i ≡ k → ⊥) → get_or (put_mid (i * 4096) 4096 bs page) (k * 4096 + r) 0 ≡ get_or bs (k * 4096 + r) 0
byte_written bs page i k r h whole inside apart =
    elim (cases_order i k) [
      | inl same ↦ absurd (apart same)
      | inr differs ↦ elim differs [
        | inl less ↦ mid_above bs page (i * 4096) 4096 (k * 4096 + r) h whole (omega arith)
        | inr more ↦ mid_below bs page (i * 4096) 4096 (k * 4096 + r) (omega arith) (omega arith)
      ]
    ]

pub length_written : (bs page : List ℕ) (a k : ℕ) → a + k ≤ length bs → length page ≡ k → length (put_mid a k bs page) ≡ length bs
length_written bs page a k h e = search (rules, places)

-- bytes over bytes are bytes
pub small_written : (bs page : List ℕ) (i : ℕ) → i * 4096 + 4096 ≤ length bs → length page ≡ 4096 → All (λ b. b < 256) bs → All (λ b. b < 256) page → All (λ b. b < 256) (put_mid (i * 4096) 4096 bs page)
small_written bs page i h whole old new =
    let all = put_mid (i * 4096) 4096 bs page in
    let long : length all ≡ length bs = length_written bs page (i * 4096) 4096 h whole in
    All-from_get_or (λ b. b < 256) all 0 (λ j l. elim (cases_lt j (i * 4096)) [
      | inl below ↦ subst (λ (b : ℕ). b < 256) (sym (mid_below bs page (i * 4096) 4096 j (omega arith) below)) (old j 0 (omega (arith, long)))
      | inr not_below ↦ elim (cases_lt j (i * 4096 + 4096)) [
        | inl inside ↦
            let place : i * 4096 + (j - i * 4096) ≡ j = omega arith in
            let is : get_or all j 0 ≡ get_or page (j - i * 4096) 0 = ap (λ k. get_or all k 0) (sym place) ∙ mid_inside bs page (i * 4096) 4096 (j - i * 4096) (omega arith) (omega arith) in
            subst (λ (b : ℕ). b < 256) (sym is) (new (j - i * 4096) 0 (omega arith))
        | inr above ↦ subst (λ (b : ℕ). b < 256) (sym (mid_above bs page (i * 4096) 4096 j h whole above)) (old j 0 (omega (arith, long)))
      ]
    ])

pub kept_written : (numbers bs page : List ℕ) → AreKept numbers bs → (i : ℕ) → i < length numbers → length page ≡ 4096 → AreKept numbers (put_mid (i * 4096) 4096 bs page)
kept_written numbers bs page h i l whole =
    let whole_bytes : length bs ≡ 4096 * length numbers = h.whole in
    record { ascending = h.ascending; below = h.below; few = h.few; whole = length_written bs page (i * 4096) 4096 (omega arith) whole ∙ h.whole }

pub get_written : (numbers bs page : List ℕ) → AreKept numbers bs → (i : ℕ) → i < length numbers → length page ≡ 4096 → (at : ℕ) → get (memory_kept numbers (put_mid (i * 4096) 4096 bs page)) at ≡ cond (at / 4096 == get_or numbers i 0) (Some (get_or page (at % 4096) 0)) (get (memory_kept numbers bs) at)
get_written numbers bs page h i l whole at =
    let new = put_mid (i * 4096) 4096 bs page in
    let kept = kept_written numbers bs page h i l whole in
    let all : length bs ≡ 4096 * length numbers = h.whole in
    let fits : i * 4096 + 4096 ≤ length bs = omega arith in
    let here : (at / 4096 ≡ get_or numbers i 0) → get (memory_kept numbers new) at ≡ Some (get_or page (at % 4096) 0) =
    λ (e : at / 4096 ≡ get_or numbers i 0). get_kept numbers new kept i at l (sym e) ∙ ap Some (mid_inside bs page (i * 4096) 4096 (at % 4096) (omega arith) (omega arith)) in
    let elsewhere : ((at / 4096 ≡ get_or numbers i 0) → ⊥) → get (memory_kept numbers new) at ≡ get (memory_kept numbers bs) at =
    λ (apart : (at / 4096 ≡ get_or numbers i 0) → ⊥). elim (somewhere numbers (at / 4096)) [
      | inl w ↦
          let other : i ≡ w.0 → ⊥ = λ (s : i ≡ w.0). apart (sym w.1.1 ∙ ap (λ k. get_or numbers k 0) (sym s)) in
          get_kept numbers new kept w.0 at w.1.0 w.1.1 ∙ ap Some (byte_written bs page i w.0 (at % 4096) fits whole (omega arith) other) ∙ sym (get_kept numbers bs h w.0 at w.1.0 w.1.1)
      | inr none ↦ get_not_kept numbers new kept at none ∙ sym (get_not_kept numbers bs h at none)
    ] in
    elim (cases_eq (at / 4096) (get_or numbers i 0)) [
      | inl e ↦ here e ∙ sym (ap (λ b. cond b (Some (get_or page (at % 4096) 0)) (get (memory_kept numbers bs) at)) (eq-eqb _ _ e))
      | inr apart ↦ elsewhere apart ∙ sym (ap (λ b. cond b (Some (get_or page (at % 4096) 0)) (get (memory_kept numbers bs) at)) (ne_eqb _ _ apart))
    ]
