-- What a level stands for as pairs come and go, and what is seen of its keeper.
use Rattle.image_store.proofs.Common.{◌≡◌, ◌≢◌, ℕ, ◌<◌, inl, inr, List, [], length, take, set, Option, Some, None, IsSome, cond, true, false, refl, sym, ◌∙◌, ap, subst, unwrap_or, eq-eqb, true≢false, arith, cases_eq, ne_eqb, get_or-set_same, get_or-set_other, take_all, none-some, same_Some, nat_cmp, eq_by_cmp, sha256, Images, Tells, SameButAt, kept_in, IsGot, pair_at, IsFreeSlot, IsKeptAs, KeepsAs, IsToldAnd, Alone}
use Rattle.std.specs.Cmp.{nat_cmp_total, unsigned_tied}
use Rattle.std.specs.FinMap as finmap
use Rattle.keepers.specs.Calls.{Remains}
use Rattle.keepers.specs.declared.storage.Storage.{Ghosts}
use Rattle.image_store.specs.declared.shelf.Kept.{Kept}
use Rattle.image_store.proofs.SlotAllocation.{own_more, own_less, is_within}

pub tied : (q n : ℕ) → q ≡ n → eq_by_cmp nat_cmp q n ≡ true
tied q n e = unsigned_tied q n ∙ eq-eqb q n e

pub not_tied : (q n : ℕ) → (q ≡ n → ⊥) → eq_by_cmp nat_cmp q n ≡ false
not_tied q n ne = unsigned_tied q n ∙ ne_eqb q n ne

pub inserted : (m : Images) (n q : ℕ) (x : List ℕ) → q ≡ n → finmap.get (finmap.insert m n x) q ≡ Some x
inserted m n q x e = finmap.get-insert nat_cmp_total m n x q ∙ ap (λ b. cond b (Some x) (finmap.get m q)) (tied q n e)

pub not_inserted : (m : Images) (n q : ℕ) (x : List ℕ) → (q ≡ n → ⊥) → finmap.get (finmap.insert m n x) q ≡ finmap.get m q
not_inserted m n q x ne = finmap.get-insert nat_cmp_total m n x q ∙ ap (λ b. cond b (Some x) (finmap.get m q)) (not_tied q n ne)

pub removed : (m : Images) (n q : ℕ) → q ≡ n → finmap.get (finmap.remove m n) q ≡ None
removed m n q e = finmap.get-remove nat_cmp_total m n q ∙ ap (λ b. cond b None (finmap.get m q)) (tied q n e)

pub not_removed : (m : Images) (n q : ℕ) → (q ≡ n → ⊥) → finmap.get (finmap.remove m n) q ≡ finmap.get m q
not_removed m n q ne = finmap.get-remove nat_cmp_total m n q ∙ ap (λ b. cond b None (finmap.get m q)) (not_tied q n ne)

-- a pair over images that are the same at its slot
same_image : (images images' : Images) (o : Option Kept) (b : Option (List ℕ)) → ((kept : Kept) → o ≡ Some kept → finmap.get images' kept.slot ≡ finmap.get images kept.slot) →
    IsKeptAs images o b → IsKeptAs images' o b
same_image images images' None None same h = tt
same_image images images' (Some kept) (Some bytes) same h = (same kept refl ∙ h.0, h.1, h.2)
same_image images images' None (Some bytes) same h = h
same_image images images' (Some kept) None same h = h

-- a pair more
pub stands_more : (pairs : List (Option Kept)) (bytes images : Images) (n slot : ℕ) (image : List ℕ) → n < length pairs → IsFreeSlot pairs slot →
    KeepsAs pairs bytes images → KeepsAs (set pairs n (Some (kept_in slot image))) (finmap.insert bytes n image) (finmap.insert images slot image)
stands_more pairs bytes images n slot image within unused s = record {
  own = own_more pairs n (kept_in slot image) within s.own unused;
  each = λ m. elim (cases_eq m n) [
    | inl e ↦
        let P : Option Kept → Option (List ℕ) → Type 0 = IsKeptAs (finmap.insert images slot image) in
        let at : pair_at (set pairs n (Some (kept_in slot image))) m ≡ Some (kept_in slot image) =
        ap (λ q. pair_at (set pairs n (Some (kept_in slot image))) q) e ∙ get_or-set_same pairs n (Some (kept_in slot image)) None within in
        let got = inserted bytes n m image e in
        subst (λ o. P o (finmap.get (finmap.insert bytes n image) m)) (sym at) (subst (λ b. P (Some (kept_in slot image)) b) (sym got) (inserted images slot slot image refl, refl, refl))
    | inr ne ↦
        let P : Option Kept → Option (List ℕ) → Type 0 = IsKeptAs (finmap.insert images slot image) in
        let at = get_or-set_other pairs n m (Some (kept_in slot image)) None ne in
        let got = not_inserted bytes n m image ne in
        subst (λ o. P o (finmap.get (finmap.insert bytes n image) m)) (sym at) (subst (λ b. P (pair_at pairs m) b) (sym got)
        (same_image images (finmap.insert images slot image) (pair_at pairs m) (finmap.get bytes m) (λ kept is. not_inserted images slot kept.slot image (unused m kept is)) (s.each m)))
  ];
}

-- a slot that no pair has holds anything
pub stands_still : (pairs : List (Option Kept)) (bytes images images' : Images) (slot : ℕ) → IsFreeSlot pairs slot → SameButAt slot images images' →
    KeepsAs pairs bytes images → KeepsAs pairs bytes images'
stands_still pairs bytes images images' slot unused same s = record {
  own = s.own;
  each = λ m. same_image images images' (pair_at pairs m) (finmap.get bytes m) (λ kept is. same kept.slot (unused m kept is)) (s.each m);
}

-- a pair less
pub stands_less : (pairs : List (Option Kept)) (bytes images : Images) (n : ℕ) (kept : Kept) → pair_at pairs n ≡ Some kept →
    KeepsAs pairs bytes images → KeepsAs (set pairs n None) (finmap.remove bytes n) (finmap.remove images kept.slot)
stands_less pairs bytes images n kept is s =
    let within = is_within pairs n kept is in
    let P : Option Kept → Option (List ℕ) → Type 0 = IsKeptAs (finmap.remove images kept.slot) in
    record {
      own = own_less pairs n within s.own;
      each = λ m. elim (cases_eq m n) [
        | inl e ↦
            let at : pair_at (set pairs n None) m ≡ None = ap (λ q. pair_at (set pairs n None) q) e ∙ get_or-set_same pairs n None None within in
            let got = removed bytes n m e in
            subst (λ o. P o (finmap.get (finmap.remove bytes n) m)) (sym at) (subst (λ b. P None b) (sym got) tt)
        | inr ne ↦
            let at = get_or-set_other pairs n m None None ne in
            let got = not_removed bytes n m ne in
            subst (λ o. P o (finmap.get (finmap.remove bytes n) m)) (sym at) (subst (λ b. P (pair_at pairs m) b) (sym got)
            (same_image images (finmap.remove images kept.slot) (pair_at pairs m) (finmap.get bytes m)
            (λ k there. not_removed images kept.slot k.slot (λ same. ne (s.own m n k kept there is same))) (s.each m)))
      ];
    }

-- the bytes of a held pair
abbrev pub Found : Images → Images → ℕ → Kept → Type 0
Found bytes images n kept = (image : List ℕ) × ((finmap.get bytes n ≡ Some image) × ((finmap.get images kept.slot ≡ Some image) × ((kept.length ≡ length image) × (kept.digest ≡ sha256 image))))

found_in : (images : Images) (kept : Kept) (b : Option (List ℕ)) → IsKeptAs images (Some kept) b →
    (image : List ℕ) × ((b ≡ Some image) × ((finmap.get images kept.slot ≡ Some image) × ((kept.length ≡ length image) × (kept.digest ≡ sha256 image))))
found_in images kept None h = absurd h
found_in images kept (Some image) h = (image, (refl, (h.0, (h.1, h.2))))

pub found : (pairs : List (Option Kept)) (bytes images : Images) (n : ℕ) (kept : Kept) → pair_at pairs n ≡ Some kept → KeepsAs pairs bytes images → Found bytes images n kept
found pairs bytes images n kept is s = found_in images kept (finmap.get bytes n) (subst (λ o. IsKeptAs images o (finmap.get bytes n)) is (s.each n))

-- the bytes that are got are those that were put
pub got_is : (pairs : List (Option Kept)) (bytes : Images) (told : Option Images) (n : ℕ) (kept : Kept) (got : List ℕ) → pair_at pairs n ≡ Some kept →
    IsToldAnd told (KeepsAs pairs bytes) → IsGot kept told got → (finmap.get bytes n ≡ Some got) × (kept.digest ≡ sha256 got)
got_is pairs bytes None n kept got is s g = absurd s
got_is pairs bytes (Some images) n kept got is s g =
    let f = found pairs bytes images n kept is s in
    let same : got ≡ f.0 = g ∙ ap (λ (o : Option (List ℕ)). take kept.length (unwrap_or o [])) f.1.1.0 ∙ take_all kept.length f.0 (let long = f.1.1.1.0 in omega (arith, long)) in
    (f.1.0 ∙ ap Some (sym same), f.1.1.1.1 ∙ ap sha256 (sym same))

-- a level that stands, after what its keeper tells has changed
pub level_more : (pairs : List (Option Kept)) (bytes : Images) (before after : Option Images) (n slot : ℕ) (image : List ℕ) → n < length pairs → IsFreeSlot pairs slot →
    Tells before after (λ images images'. images' ≡ finmap.insert images slot image) → IsToldAnd before (KeepsAs pairs bytes) →
    IsToldAnd after (KeepsAs (set pairs n (Some (kept_in slot image))) (finmap.insert bytes n image))
level_more pairs bytes None after n slot image within unused told s = absurd s
level_more pairs bytes (Some images) None n slot image within unused told s = absurd told
level_more pairs bytes (Some images) (Some images') n slot image within unused told s =
    subst (KeepsAs (set pairs n (Some (kept_in slot image))) (finmap.insert bytes n image)) (sym told) (stands_more pairs bytes images n slot image within unused s)

pub level_less : (pairs : List (Option Kept)) (bytes : Images) (before after : Option Images) (n : ℕ) (kept : Kept) → pair_at pairs n ≡ Some kept →
    Tells before after (λ images images'. images' ≡ finmap.remove images kept.slot) → IsToldAnd before (KeepsAs pairs bytes) →
    IsToldAnd after (KeepsAs (set pairs n None) (finmap.remove bytes n))
level_less pairs bytes None after n kept is told s = absurd s
level_less pairs bytes (Some images) None n kept is told s = absurd told
level_less pairs bytes (Some images) (Some images') n kept is told s =
    subst (KeepsAs (set pairs n None) (finmap.remove bytes n)) (sym told) (stands_less pairs bytes images n kept is s)

-- nothing but the pairs' slots has an image
pub alone_more : (pairs : List (Option Kept)) (images : Images) (n slot : ℕ) (image : List ℕ) → n < length pairs → pair_at pairs n ≡ None →
    Alone pairs images → Alone (set pairs n (Some (kept_in slot image))) (finmap.insert images slot image)
alone_more pairs images n slot image within none alone at some = elim (cases_eq at slot) [
  | inl e ↦ (n, (kept_in slot image, get_or-set_same pairs n (Some (kept_in slot image)) None within, sym e))
  | inr ne ↦
      let there = alone at (subst IsSome (not_inserted images slot at image ne) some) in
      let other : there.0 ≢ n = λ e. none-some there.1.0 (sym none ∙ ap (pair_at pairs) (sym e) ∙ there.1.1) in
      (there.0, (there.1.0, get_or-set_other pairs n there.0 (Some (kept_in slot image)) None other ∙ there.1.1, there.1.2))
]

pub alone_less : (pairs : List (Option Kept)) (images : Images) (n : ℕ) (kept : Kept) → pair_at pairs n ≡ Some kept →
    Alone pairs images → Alone (set pairs n None) (finmap.remove images kept.slot)
alone_less pairs images n kept is alone at some = elim (cases_eq at kept.slot) [
  | inl e ↦ absurd (true≢false (sym (subst IsSome (removed images kept.slot at e) some)))
  | inr ne ↦
      let there = alone at (subst IsSome (not_removed images kept.slot at ne) some) in
      let other : there.0 ≢ n = λ e. ne (sym there.1.2 ∙ ap (λ (k : Kept). k.slot) (same_Some there.1.0 kept (sym there.1.1 ∙ ap (pair_at pairs) e ∙ is))) in
      (there.0, (there.1.0, get_or-set_other pairs n there.0 None None other ∙ there.1.1, there.1.2))
]

pub level_alone_more : (pairs : List (Option Kept)) (before after : Option Images) (n slot : ℕ) (image : List ℕ) → n < length pairs → pair_at pairs n ≡ None →
    Tells before after (λ images images'. images' ≡ finmap.insert images slot image) → IsToldAnd before (Alone pairs) → IsToldAnd after (Alone (set pairs n (Some (kept_in slot image))))
level_alone_more pairs None after n slot image within none told s = absurd s
level_alone_more pairs (Some images) None n slot image within none told s = absurd told
level_alone_more pairs (Some images) (Some images') n slot image within none told s =
    subst (Alone (set pairs n (Some (kept_in slot image)))) (sym told) (alone_more pairs images n slot image within none s)

pub level_alone_less : (pairs : List (Option Kept)) (before after : Option Images) (n : ℕ) (kept : Kept) → pair_at pairs n ≡ Some kept →
    Tells before after (λ images images'. images' ≡ finmap.remove images kept.slot) → IsToldAnd before (Alone pairs) → IsToldAnd after (Alone (set pairs n None))
level_alone_less pairs None after n kept is told s = absurd s
level_alone_less pairs (Some images) None n kept is told s = absurd told
level_alone_less pairs (Some images) (Some images') n kept is told s = subst (Alone (set pairs n None)) (sym told) (alone_less pairs images n kept is s)

module _ {K : Type 0} (g : Ghosts K) (x y : K) where
  -- a call failed for the store where it failed for the keeper
  pub remains_as : {P Q : Type 0} → (P → Q) → (Q → P) → Remains g P x y → Remains g Q x y
  remains_as to from r = record { slots = r.slots; room = r.room; place = r.place; quiet = λ never. r.quiet (λ p. never (to p)); later = r.later; cause = λ q. r.cause (from q) }
