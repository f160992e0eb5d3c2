-- The images of a keeper in memory, as they stand in its places.
use Rattle.std.proofs.Common.{Result, Ok, Err, OnOk, OnErr, ◌≡◌, ◌≢◌, ℕ, zero, suc, ◌+◌, ◌<◌, ◌≤◌, Bool, true, false, cond, List, [], ◌∷◌, ◌++◌, length, set, get_or, Option, Some, None, refl, ap, sym, subst, ◌∙◌, arith}
use Rattle.std.specs.Ordering.{nat_cmp, eq_by_cmp}
use Rattle.std.specs.Option.{is_some, IfSome}
use Rattle.std.specs.Result.{is_err}
use Rattle.std.specs.Cmp.{nat_cmp_total, eq_by_cmp_equiv}
use Rattle.std.specs.List.{count_by}
use Rattle.std.proofs.lemmas.List.Recursion.{is_count_by}
use Rattle.std.specs.Vec.{vec_capacity}
use Rattle.std.proofs.lemmas.Map.Lookups.{exact_unsigned}
use Rattle.std.proofs.lemmas.Map.Views.{tells_apart}
use Rattle.std.proofs.lemmas.Bool.{false≢true}
use Rattle.std.specs.FinMap as finmap
use Rattle.std.specs.FinMap.{find, get-from_entries, get-insert, get-remove, len-insert, len-empty, same_map, nat_cmp-IsAntisymmetric}
use Rattle.keepers.specs.Claims.{Images, SameButAt}
use Rattle.keepers.specs.Places.{filled_from, images_of, HaveRoom}
use Rattle.keepers.specs.declared.place.Place.{Place}

not_true : (b : Bool) → b ≢ true → b ≡ false
not_true true h = absurd (h refl)
not_true false h = refl

pub not_at : (k q : ℕ) → q ≢ k → eq_by_cmp nat_cmp q k ≡ false
not_at k q apart = not_true (eq_by_cmp nat_cmp q k) (λ e. apart (tells_apart {R = nat_cmp} exact_unsigned q k e))

is_at : (k : ℕ) → eq_by_cmp nat_cmp k k ≡ true
is_at k = (eq_by_cmp_equiv nat_cmp_total).refl k

-- the image in a place, and in the place with a number
abbrev pub filled_of : Place → Option (List ℕ)
filled_of place = cond place.filled (Some place.bytes.items) None

abbrev pub filled_at : List Place → ℕ → Option (List ℕ)
filled_at [] slot = None
filled_at (place ∷ places) zero = filled_of place
filled_at (place ∷ places) (suc slot) = filled_at places slot

-- an entry of another slot makes no difference
skip : (b : Bool) (q i : ℕ) (x : List ℕ) (rest : List (ℕ × List ℕ)) → eq_by_cmp nat_cmp q i ≡ false → find nat_cmp q (cond b ((i, x) ∷ rest) rest) ≡ find nat_cmp q rest
skip true q i x rest e = ap (λ c. cond c (Some x) (find nat_cmp q rest)) e
skip false q i x rest e = refl

here : (b : Bool) (q i : ℕ) (x : List ℕ) (rest : List (ℕ × List ℕ)) → eq_by_cmp nat_cmp q i ≡ true → find nat_cmp q rest ≡ None → find nat_cmp q (cond b ((i, x) ∷ rest) rest) ≡ cond b (Some x) None
here true q i x rest e none = ap (λ c. cond c (Some x) (find nat_cmp q rest)) e
here false q i x rest e none = none

find_below : (q i : ℕ) (places : List Place) → q < i → find nat_cmp q (filled_from i places) ≡ None
find_below q i [] h = refl
find_below q i (p ∷ places) h =
    skip p.filled q i p.bytes.items (filled_from (suc i) places) (not_at i q (λ e. absurd (omega (arith, e, h)))) ∙ find_below q (suc i) places (omega (arith, h))

find_at : (j i q : ℕ) (places : List Place) → q ≡ i + j → find nat_cmp q (filled_from i places) ≡ filled_at places j
find_at j i q [] e = refl
find_at zero i q (p ∷ places) e =
    let same : q ≡ i = omega (arith, e) in
    here p.filled q i p.bytes.items (filled_from (suc i) places) (ap (λ k. eq_by_cmp nat_cmp k i) same ∙ is_at i) (find_below q (suc i) places (omega (arith, same)))
find_at (suc j) i q (p ∷ places) e =
    skip p.filled q i p.bytes.items (filled_from (suc i) places) (not_at i q (λ f. absurd (omega (arith, e, f)))) ∙ find_at j (suc i) q places (omega (arith, e))

pub get_image : (places : List Place) (slot : ℕ) → finmap.get (images_of places) slot ≡ filled_at places slot
get_image places slot = get-from_entries nat_cmp_total _ slot ∙ find_at slot 0 slot places (omega arith)

-- past the places there is nothing
filled_past : (places : List Place) (slot : ℕ) → length places ≤ slot → filled_at places slot ≡ None
filled_past [] slot h = refl
filled_past (p ∷ places) zero h = absurd (omega (arith, h))
filled_past (p ∷ places) (suc slot) h = filled_past places slot (omega (arith, h))

filled_there : (places : List Place) (slot : ℕ) (d : Place) → slot < length places → filled_at places slot ≡ filled_of (get_or places slot d)
filled_there [] slot d h = absurd (omega (arith, h))
filled_there (p ∷ places) zero d h = refl
filled_there (p ∷ places) (suc slot) d h = filled_there places slot d (omega (arith, h))

pub image_there : (places : List Place) (slot : ℕ) (d : Place) → slot < length places → finmap.get (images_of places) slot ≡ filled_of (get_or places slot d)
image_there places slot d h = get_image places slot ∙ filled_there places slot d h

-- by what a call promised
pub on_ok : {A E P : Type 0} (r : Result A E) → OnOk r P → is_err r ≡ false → P
on_ok (Ok x) p ok = p
on_ok (Err e) p ok = absurd (cc)

pub ok_so : {A E P Q : Type 0} (r : Result A E) → OnOk r P → (P → Q) → OnOk r Q
ok_so (Ok x) p f = f p
ok_so (Err e) p f = tt

pub by_result : {A E P Q X : Type 0} (r : Result A E) → OnOk r P → OnErr r Q → (P → X) → (Q → X) → X
by_result (Ok x) p q f g = f p
by_result (Err e) p q f g = g q

pub in_some : {A : Type 0} (o : Option A) (P : A → Type 0) (x : A) → IfSome o P → o ≡ Some x → P x
in_some None P x h e = absurd (cc)
in_some (Some y) P x h e = (let same : y ≡ x = cc in subst P same h)

pub image_past : (places : List Place) (slot : ℕ) → length places ≤ slot → finmap.get (images_of places) slot ≡ None
image_past places slot h = get_image places slot ∙ filled_past places slot h

-- a place that changes
set_here : (places : List Place) (slot : ℕ) (p : Place) → slot < length places → filled_at (set places slot p) slot ≡ filled_of p
set_here [] slot p h = absurd (omega (arith, h))
set_here (x ∷ places) zero p h = refl
set_here (x ∷ places) (suc slot) p h = set_here places slot p (omega (arith, h))

set_else : (places : List Place) (slot other : ℕ) (p : Place) → other ≢ slot → filled_at (set places slot p) other ≡ filled_at places other
set_else [] slot other p apart = refl
set_else (x ∷ places) zero zero p apart = absurd (apart refl)
set_else (x ∷ places) zero (suc other) p apart = refl
set_else (x ∷ places) (suc slot) zero p apart = refl
set_else (x ∷ places) (suc slot) (suc other) p apart = set_else places slot other p (λ e. apart (ap suc e))

set_by : (b : Bool) (places : List Place) (slot other : ℕ) (p : Place) → slot < length places → eq_by_cmp nat_cmp other slot ≡ b → filled_at (set places slot p) other ≡ cond b (filled_of p) (filled_at places other)
set_by true places slot other p h e =
    let same : other ≡ slot = tells_apart {R = nat_cmp} exact_unsigned other slot e in
    ap (λ k. filled_at (set places slot p) k) same ∙ set_here places slot p h
set_by false places slot other p h e =
    set_else places slot other p (λ same. false≢true (sym e ∙ ap (λ k. eq_by_cmp nat_cmp k slot) same ∙ is_at slot))

set_at : (places : List Place) (slot other : ℕ) (p : Place) → slot < length places → filled_at (set places slot p) other ≡ cond (eq_by_cmp nat_cmp other slot) (filled_of p) (filled_at places other)
set_at places slot other p h = set_by (eq_by_cmp nat_cmp other slot) places slot other p h refl

pub image_put : (places : List Place) (slot : ℕ) (p : Place) (image : List ℕ) → slot < length places → p.filled ≡ true → p.bytes.items ≡ image → images_of (set places slot p) ≡ finmap.insert (images_of places) slot image
image_put places slot p image h filled is = same_map nat_cmp_total nat_cmp-IsAntisymmetric _ _
    (λ q. get_image (set places slot p) q ∙ set_at places slot q p h
    ∙ ap (λ o. cond (eq_by_cmp nat_cmp q slot) o (filled_at places q)) (ap (λ b. cond b (Some p.bytes.items) None) filled ∙ ap Some is)
    ∙ ap (λ o. cond (eq_by_cmp nat_cmp q slot) (Some image) o) (sym (get_image places q))
    ∙ sym (get-insert nat_cmp_total (images_of places) slot image q))

pub image_freed : (places : List Place) (slot : ℕ) (p : Place) → slot < length places → p.filled ≡ false → images_of (set places slot p) ≡ finmap.remove (images_of places) slot
image_freed places slot p h filled = same_map nat_cmp_total nat_cmp-IsAntisymmetric _ _
    (λ q. get_image (set places slot p) q ∙ set_at places slot q p h
    ∙ ap (λ o. cond (eq_by_cmp nat_cmp q slot) o (filled_at places q)) (ap (λ b. cond b (Some p.bytes.items) None) filled)
    ∙ ap (λ o. cond (eq_by_cmp nat_cmp q slot) None o) (sym (get_image places q))
    ∙ sym (get-remove nat_cmp_total (images_of places) slot q))

cond_none : (b : Bool) (o : Option (List ℕ)) → (b ≡ true → o ≡ None) → o ≡ cond b None o
cond_none true o h = h refl
cond_none false o h = refl

-- to free a slot that has no place changes nothing
pub none_freed : (places : List Place) (slot : ℕ) → length places ≤ slot → images_of places ≡ finmap.remove (images_of places) slot
none_freed places slot h = same_map nat_cmp_total nat_cmp-IsAntisymmetric _ _
    (λ q. cond_none (eq_by_cmp nat_cmp q slot) _ (λ e. ap (finmap.get (images_of places)) (tells_apart {R = nat_cmp} exact_unsigned q slot e) ∙ image_past places slot h)
    ∙ sym (get-remove nat_cmp_total (images_of places) slot q))

-- an empty place more
filled_more : (places : List Place) (p : Place) (slot : ℕ) → p.filled ≡ false → filled_at (places ++ p ∷ []) slot ≡ filled_at places slot
filled_more [] p zero e = ap (λ b. cond b (Some p.bytes.items) None) e
filled_more [] p (suc slot) e = refl
filled_more (x ∷ places) p zero e = refl
filled_more (x ∷ places) p (suc slot) e = filled_more places p slot e

pub images_more : (places : List Place) (p : Place) → p.filled ≡ false → images_of (places ++ p ∷ []) ≡ images_of places
images_more places p e = same_map nat_cmp_total nat_cmp-IsAntisymmetric _ _
    (λ q. get_image (places ++ p ∷ []) q ∙ filled_more places p q e ∙ sym (get_image places q))

-- how many images there are
filled_count : List Place → ℕ
filled_count [] = 0
filled_count (p ∷ places) = cond p.filled (1 + filled_count places) (filled_count places)

count_step : (b : Bool) (i n : ℕ) (x : List ℕ) (rest : List (ℕ × List ℕ)) → finmap.get {R = nat_cmp} (finmap.from_entries rest) i ≡ None → finmap.len {R = nat_cmp} (finmap.from_entries rest) ≡ n →
    finmap.len {R = nat_cmp} (finmap.from_entries (cond b ((i, x) ∷ rest) rest)) ≡ cond b (1 + n) n
count_step true i n x rest none e =
    len-insert nat_cmp_total (finmap.from_entries rest) i x
    ∙ ap (λ o. cond (is_some o) (finmap.len {R = nat_cmp} (finmap.from_entries rest)) (finmap.len {R = nat_cmp} (finmap.from_entries rest) + 1)) none ∙ omega (arith, e)
count_step false i n x rest none e = e

-- the places from a slot on have no image of a slot before it
count_from : (i : ℕ) (places : List Place) → finmap.len {R = nat_cmp} (finmap.from_entries (filled_from i places)) ≡ filled_count places
unfolding filled_count
count_from i [] = len-empty nat_cmp (List ℕ)
count_from i (p ∷ places) =
    count_step p.filled i (filled_count places) p.bytes.items (filled_from (suc i) places)
    (get-from_entries nat_cmp_total _ i ∙ find_below i (suc i) places (omega arith)) (count_from (suc i) places)

pub image_count : (places : List Place) → finmap.len (images_of places) ≡ count_by (λ p. p.filled) places
unfolding filled_count
image_count places = count_from 0 places ∙ is_count_by filled_count (λ p. p.filled) refl (λ x xs. refl) places

pub others_stay : (images : Images) (k : ℕ) → SameButAt k images (finmap.remove images k)
others_stay images k q apart = get-remove nat_cmp_total images k q ∙ ap (λ b. cond b None (finmap.get images q)) (not_at k q apart)

pub others_put : (images : Images) (k : ℕ) (v : List ℕ) → SameButAt k images (finmap.insert images k v)
others_put images k v q apart = get-insert nat_cmp_total images k v q ∙ ap (λ b. cond b (Some v) (finmap.get images q)) (not_at k q apart)

-- memory in each place
pub room_at : (bytes : ℕ) (places : List Place) (slot : ℕ) (d : Place) → HaveRoom bytes places → slot < length places → bytes ≤ vec_capacity (get_or places slot d).bytes
room_at bytes [] slot d all h = absurd (omega (arith, h))
room_at bytes (p ∷ places) zero d all h = all.0
room_at bytes (p ∷ places) (suc slot) d all h = room_at bytes places slot d all.1 (omega (arith, h))

pub room_set : (bytes : ℕ) (places : List Place) (slot : ℕ) (p : Place) → HaveRoom bytes places → bytes ≤ vec_capacity p.bytes → HaveRoom bytes (set places slot p)
room_set bytes [] slot p all h = tt
room_set bytes (x ∷ places) zero p all h = (h, all.1)
room_set bytes (x ∷ places) (suc slot) p all h = (all.0, room_set bytes places slot p all.1 h)

pub room_more : (bytes : ℕ) (places : List Place) (p : Place) → HaveRoom bytes places → bytes ≤ vec_capacity p.bytes → HaveRoom bytes (places ++ p ∷ [])
room_more bytes [] p all h = (h, tt)
room_more bytes (x ∷ places) p all h = (all.0, room_more bytes places p all.1 h)
