-- The pairs of a level, as its places and its fingerprints give them.
use Rattle.image_store.proofs.Common.{◌≡◌, ℕ, ◌<◌, List, [], length, set, Option, Some, None, refl, ◌∙◌, ap, ◌+◌, zero, suc, ◌∷◌, get_or, ◌-◌, replicate, add-one, get_or-set_same, get_or-set_other, map-set, sha256, kept_in, pair_at, IsFreeSlot, fingerprint_at, pair_in, pairs_in}
use Rattle.image_store.specs.declared.shelf.Fingerprint.{Fingerprint}
use Rattle.image_store.specs.declared.shelf.Kept.{Kept}

-- a pair is the one in its place
pub pair_is : (prints : List Fingerprint) (places : List ℕ) (n : ℕ) → pair_at (pairs_in prints places) n ≡ pair_in prints (get_or places n 0)
pair_is prints [] n = refl
pair_is prints (p ∷ places) zero = refl
pair_is prints (p ∷ places) (suc n) = pair_is prints places n

-- what is kept of the pair in a slot
abbrev pub kept_by : List Fingerprint → ℕ → Kept
kept_by prints slot = record { slot = slot; length = (fingerprint_at prints slot).length; digest = (fingerprint_at prints slot).digest }

-- no place leads to a free slot
not_placed : (prints : List Fingerprint) (places : List ℕ) (slot m : ℕ) → IsFreeSlot (pairs_in prints places) slot → get_or places m 0 ≡ suc slot → ⊥
not_placed prints places slot m unused at = unused m (kept_by prints slot) (pair_is prints places m ∙ ap (pair_in prints) at) refl

same_pair : (prints : List Fingerprint) (slot place : ℕ) (x : Fingerprint) → (place ≡ suc slot → ⊥) → pair_in (set prints slot x) place ≡ pair_in prints place
same_pair prints slot zero x apart = refl
same_pair prints slot (suc other) x apart =
    ap (λ (f : Fingerprint). Some (record { slot = other; length = f.length; digest = f.digest })) (get_or-set_other prints slot other x (record { length = 0; digest = [] }) (λ e. apart (ap suc e)))

-- a new fingerprint in a free slot changes no pair
same_pairs : (prints : List Fingerprint) (places : List ℕ) (slot : ℕ) (x : Fingerprint) → ((m : ℕ) → get_or places m 0 ≡ suc slot → ⊥) → pairs_in (set prints slot x) places ≡ pairs_in prints places
same_pairs prints [] slot x apart = refl
same_pairs prints (p ∷ places) slot x apart = λ i. same_pair prints slot p x (apart 0) i ∷ same_pairs prints places slot x (λ m. apart (suc m)) i

-- a pair more, in a free slot
pub pairs_more : (prints : List Fingerprint) (places : List ℕ) (n slot : ℕ) (image digest : List ℕ) → slot < length prints → IsFreeSlot (pairs_in prints places) slot → digest ≡ sha256 image →
    pairs_in (set prints slot (record { length = length image; digest = digest })) (set places n (slot + 1)) ≡ set (pairs_in prints places) n (Some (kept_in slot image))
pairs_more prints places n slot image digest within unused is =
    let x : Fingerprint = record { length = length image; digest = digest } in
    let here : pair_in (set prints slot x) (slot + 1) ≡ Some (kept_in slot image) =
    ap (pair_in (set prints slot x)) (add-one slot)
    ∙ ap (λ (f : Fingerprint). Some (record { slot = slot; length = f.length; digest = f.digest })) (get_or-set_same prints slot x (record { length = 0; digest = [] }) within)
    ∙ ap (λ (d : List ℕ). Some (record { slot = slot; length = length image; digest = d })) is in
    map-set (pair_in (set prints slot x)) places n (slot + 1)
    ∙ ap (λ (ps : List (Option Kept)). set ps n (pair_in (set prints slot x) (slot + 1))) (same_pairs prints places slot x (λ m. not_placed prints places slot m unused))
    ∙ ap (set (pairs_in prints places) n) here

-- a pair less
pub pairs_less : (prints : List Fingerprint) (places : List ℕ) (n : ℕ) → pairs_in prints (set places n 0) ≡ set (pairs_in prints places) n None
pairs_less prints places n = map-set (pair_in prints) places n 0

-- at the start no pair is held
pub pairs_none : (prints : List Fingerprint) (count : ℕ) → pairs_in prints (replicate count 0) ≡ replicate count None
pairs_none prints zero = refl
pairs_none prints (suc count) = λ i. None ∷ pairs_none prints count i
