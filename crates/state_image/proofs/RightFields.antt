-- Bytes of which no field is wrong.
use Rattle.std.proofs.Common.{◌≡◌, ◌==◌, ℕ, zero, suc, ◌+◌, ◌-◌, ◌%◌, ◌<◌, ◌≤◌, Bool, true, false, not, cond, ◌&&◌, ◌||◌, nat_lt, nat_le, List, ◌∷◌, length, map, find, Option, Some, None, refl, sym, ap, ◌∙◌, subst, arith}
use Rattle.std.proofs.lemmas.Bool.{eqb-true, eq-eqb, ne_eqb, ltb-true, ltb-false, lt-ltb, le-ltb}
use Rattle.std.specs.List.{list_all, range_with_len}
use Rattle.state_image.specs.ImageForm.{Field, is_wrong, magic, version, pc, registers, kind, value, item, offset, written, count, page, page_start, page_number, page_part, page_count, number_at, rises, start_or, trailing, first_wrong, fields}
use Rattle.state_image.specs.Decoder.{IsRightPage, IsRight}
use Rattle.state_image.proofs.FirstWrongField.{none_trails, each_right, pages_right}

some_none : {A : Type 0} (x : A) → Some x ≡ None → ⊥
some_none x e = cc

-- a test that failed, and one that didn't
parted : (a b : Bool) → (a || not b) ≡ false → (a ≡ false) × (b ≡ true)
parted false true h = (refl, refl)
parted false false h = absurd (cc)
parted true b h = absurd (cc)

both : (a b : Bool) → (a && b) ≡ true → (a ≡ true) × (b ≡ true)
both true b h = (refl, h)
both false b h = absurd (cc)

negated : (b : Bool) → not b ≡ true → b ≡ false
negated false h = refl
negated true h = absurd (cc)

-- a field that isn't wrong is all there, and is right
pub there : (bytes : List ℕ) (f : Field) → is_wrong bytes f ≡ false → f.start + f.size ≤ length bytes
there bytes f h = ltb-false (length bytes) (f.start + f.size) (parted (nat_lt (length bytes) (f.start + f.size)) (f.right bytes) h).0

pub right : (bytes : List ℕ) (f : Field) → is_wrong bytes f ≡ false → f.right bytes ≡ true
right bytes f h = (parted (nat_lt (length bytes) (f.start + f.size)) (f.right bytes) h).1

not_wrong : (bytes : List ℕ) (f : Field) → f.start + f.size ≤ length bytes → f.right bytes ≡ true → is_wrong bytes f ≡ false
not_wrong bytes f fits is = λ i. le-ltb (length bytes) (f.start + f.size) fits i || not (is i)

-- the first of several isn't wrong, and none after it is
first_of : (p : Field → Bool) (f : Field) (fs : List Field) → find p (f ∷ fs) ≡ None → (p f ≡ false) × (find p fs ≡ None)
first_of p f fs h =
    elim (p f) as (λ b. cond b (Some f) (find p fs) ≡ None → (b ≡ false) × (find p fs ≡ None)) [
      | true ↦ λ h. absurd (some_none f h)
      | false ↦ λ h. (refl, h)
    ] h

one_more : (p : Field → Bool) (f : Field) (fs : List Field) → p f ≡ false → find p fs ≡ None → find p (f ∷ fs) ≡ None
one_more p f fs h none = ap (λ b. cond b (Some f) (find p fs)) h ∙ none

none_found : (o : Option Field) (t : Option ℕ) → start_or o t ≡ None → (o ≡ None) × (t ≡ None)
none_found None t h = (refl, h)
none_found (Some f) t h = absurd (some_none f.start h)

pub right_page : (bytes : List ℕ) (k : ℕ) → is_wrong bytes (page k) ≡ false → IsRightPage bytes k
right_page bytes k h =
    let tests = both (rises bytes k && nat_lt (page_number bytes k) 1048576) (not (list_all (λ b. b == 0) (page_part bytes k))) (right bytes (page k) h) in
    let front = both (rises bytes k) (nat_lt (page_number bytes k) 1048576) tests.0 in
    record {
      there = there bytes (page k) h;
      up = front.0;
      below = ltb-true (page_number bytes k) 1048576 front.1;
      stored = negated (list_all (λ b. b == 0) (page_part bytes k)) tests.1;
    }

page_right : (bytes : List ℕ) (k : ℕ) → IsRightPage bytes k → is_wrong bytes (page k) ≡ false
page_right bytes k h = not_wrong bytes (page k) h.there (λ i. (h.up i && lt-ltb (page_number bytes k) 1048576 h.below i) && not (h.stored i))

-- bytes end behind their last page
ends : (bytes : List ℕ) (n : ℕ) → 164 ≤ length bytes → ((k : ℕ) → k < n → IsRightPage bytes k) → page_start n ≤ length bytes
ends bytes zero whole pages = omega (arith, whole)
ends bytes (suc n) whole pages = let last = (pages n (omega arith)).there in omega (arith, last)

pub at_most : (a b : ℕ) → nat_le a b ≡ true → a ≤ b
at_most a b h = search (h, arith)

pub is_right : (bytes : List ℕ) → first_wrong bytes ≡ None → IsRight bytes
is_right bytes h =
    let p : Field → Bool = is_wrong bytes in
    let pages : List Field = map page (range_with_len 0 (page_count bytes)) in
    let f9 : List Field = count ∷ pages in
    let f8 : List Field = written ∷ f9 in
    let f7 : List Field = offset ∷ f8 in
    let f6 : List Field = item ∷ f7 in
    let f5 : List Field = value ∷ f6 in
    let f4 : List Field = kind ∷ f5 in
    let f3 : List Field = registers ∷ f4 in
    let f2 : List Field = pc ∷ f3 in
    let f1 : List Field = version ∷ f2 in
    let none = none_found (find p (fields bytes)) (trailing bytes) h in
    let r0 = first_of p magic f1 none.0 in
    let r1 = first_of p version f2 r0.1 in
    let r2 = first_of p pc f3 r1.1 in
    let r3 = first_of p registers f4 r2.1 in
    let r4 = first_of p kind f5 r3.1 in
    let r5 = first_of p value f6 r4.1 in
    let r6 = first_of p item f7 r5.1 in
    let r7 = first_of p offset f8 r6.1 in
    let r8 = first_of p written f9 r7.1 in
    let r9 = first_of p count pages r8.1 in
    let whole : 164 ≤ length bytes = there bytes count r9.0 in
    let each : (k : ℕ) → k < page_count bytes → IsRightPage bytes k = λ (k : ℕ) (low : k < page_count bytes). right_page bytes k (each_right bytes (page_count bytes) r9.1 k low) in
    let past = none_trails bytes none.1 in
    let up = ends bytes (page_count bytes) whole each in
    record {
      whole = whole;
      letters = right bytes magic r0.0;
      version = eqb-true (number_at bytes 4) 1 (right bytes version r1.0);
      pc = eqb-true (number_at bytes 8 % 4) 0 (right bytes pc r2.0);
      kind = at_most (number_at bytes 136) 2 (right bytes kind r4.0);
      value = right bytes value r5.0;
      few = at_most (number_at bytes 160) 4096 (right bytes count r9.0);
      pages = each;
      end = omega (arith, past, up);
    }

at_most_test : (a b : ℕ) → a ≤ b → nat_le a b ≡ true
at_most_test a b h = search (h, arith)

no_trail : (bytes : List ℕ) → length bytes ≡ page_start (page_count bytes) → trailing bytes ≡ None
no_trail bytes h = ap (λ b. cond b (Some (page_start (page_count bytes))) None) (le-ltb (page_start (page_count bytes)) (length bytes) (omega (arith, h)))

pub none_wrong : (bytes : List ℕ) → IsRight bytes → first_wrong bytes ≡ None
none_wrong bytes h =
    let p : Field → Bool = is_wrong bytes in
    let pages : List Field = map page (range_with_len 0 (page_count bytes)) in
    let f9 : List Field = count ∷ pages in
    let f8 : List Field = written ∷ f9 in
    let f7 : List Field = offset ∷ f8 in
    let f6 : List Field = item ∷ f7 in
    let f5 : List Field = value ∷ f6 in
    let f4 : List Field = kind ∷ f5 in
    let f3 : List Field = registers ∷ f4 in
    let f2 : List Field = pc ∷ f3 in
    let f1 : List Field = version ∷ f2 in
    let whole = h.whole in
    let n9 = one_more p count pages (not_wrong bytes count whole (at_most_test (number_at bytes 160) 4096 h.few)) (pages_right bytes (page_count bytes) (λ k low. page_right bytes k (h.pages k low))) in
    let n8 = one_more p written f9 (not_wrong bytes written (omega (arith, whole)) refl) n9 in
    let n7 = one_more p offset f8 (not_wrong bytes offset (omega (arith, whole)) refl) n8 in
    let n6 = one_more p item f7 (not_wrong bytes item (omega (arith, whole)) refl) n7 in
    let n5 = one_more p value f6 (not_wrong bytes value (omega (arith, whole)) h.value) n6 in
    let n4 = one_more p kind f5 (not_wrong bytes kind (omega (arith, whole)) (at_most_test (number_at bytes 136) 2 h.kind)) n5 in
    let n3 = one_more p registers f4 (not_wrong bytes registers (omega (arith, whole)) refl) n4 in
    let n2 = one_more p pc f3 (not_wrong bytes pc (omega (arith, whole)) (eq-eqb (number_at bytes 8 % 4) 0 h.pc)) n3 in
    let n1 = one_more p version f2 (not_wrong bytes version (omega (arith, whole)) (eq-eqb (number_at bytes 4) 1 h.version)) n2 in
    let n0 = one_more p magic f1 (not_wrong bytes magic (omega (arith, whole)) h.letters) n1 in
    ap (λ o. start_or o (trailing bytes)) n0 ∙ no_trail bytes h.end

-- the numbers of the pages rise
up_by_one : (bytes : List ℕ) → IsRight bytes → (k : ℕ) → suc k < page_count bytes → page_number bytes k < page_number bytes (suc k)
up_by_one bytes h k low =
    let before : suc k - 1 ≡ k = omega arith in
    let up = (h.pages (suc k) low).up in
    let later = ap (λ b. b || nat_lt (page_number bytes (suc k - 1)) (page_number bytes (suc k))) (ne_eqb (suc k) 0 (λ (e : suc k ≡ 0). omega (arith, e))) in
    let is : nat_lt (page_number bytes k) (page_number bytes (suc k)) ≡ true =
    ap (λ n. nat_lt (page_number bytes n) (page_number bytes (suc k))) (sym before) ∙ sym later ∙ up in
    ltb-true (page_number bytes k) (page_number bytes (suc k)) is

pub rising : (bytes : List ℕ) → IsRight bytes → (gap j : ℕ) → j + suc gap < page_count bytes → page_number bytes j < page_number bytes (j + suc gap)
rising bytes h zero j low =
    let next : j + 1 ≡ suc j = omega arith in
    subst (λ k. page_number bytes j < page_number bytes k) (sym next) (up_by_one bytes h j (omega (arith, low)))
rising bytes h (suc gap) j low =
    let next : j + suc (suc gap) ≡ suc (j + suc gap) = omega arith in
    let before = rising bytes h gap j (omega (arith, low)) in
    let step = up_by_one bytes h (j + suc gap) (omega (arith, low)) in
    subst (λ k. page_number bytes j < page_number bytes k) (sym next) (omega (arith, before, step))

pub apart : (bytes : List ℕ) → IsRight bytes → (j k : ℕ) → j < k → k < page_count bytes → page_number bytes j < page_number bytes k
apart bytes h j k less low =
    let to : j + suc (k - j - 1) ≡ k = omega (arith, less) in
    subst (λ n. page_number bytes j < page_number bytes n) to (rising bytes h (k - j - 1) j (subst (λ n. n < page_count bytes) (sym to) low))
