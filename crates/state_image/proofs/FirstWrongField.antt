-- The first field that is wrong, among the fields of two lists.
use Rattle.std.proofs.Common.{◌≡◌, ◌==◌, ℕ, zero, suc, ◌+◌, ◌<◌, ◌≤◌, Bool, true, false, not, cond, ◌&&◌, ◌||◌, List, [], ◌∷◌, ◌++◌, length, get_or, map, find, Option, Some, None, inl, inr, refl, sym, ap, ◌∙◌, subst, zero-add, arith}
use Rattle.std.proofs.lemmas.Bool.{cases_lt, eq-eqb, ne_eqb, lt-ltb, le-ltb}
use Rattle.std.specs.List.{list_all, list_any, range_with_len}
use Rattle.state_image.specs.ImageForm.{Field, is_wrong, page, page_start, page_number, page_part, page_count, rises, start_or, trailing}

some_none : (x : ℕ) → Some x ≡ None → ⊥
some_none x e = cc

not_none : {A : Type 0} (x : A) → Some x ≡ None → ⊥
not_none x e = cc

or_last : (a b : Bool) → b ≡ true → (a || b) ≡ true
or_last true b h = refl
or_last false b h = h

module _ (p : Field → Bool) where
  -- the first is among those before
  pub start_some : (xs ys : List Field) (at : ℕ) (other : Option ℕ) → Some at ≡ start_or (find p xs) None → Some at ≡ start_or (find p (xs ++ ys)) other
  start_some [] ys at other h = absurd (some_none at h)
  start_some (x ∷ xs) ys at other h =
      elim (p x) as (λ b. Some at ≡ start_or (cond b (Some x) (find p xs)) None → Some at ≡ start_or (cond b (Some x) (find p (xs ++ ys))) other) [
        | true ↦ λ h. h
        | false ↦ λ h. start_some xs ys at other h
      ] h

  -- none is among those before
  pub find_later : (xs ys : List Field) → start_or (find p xs) None ≡ None → find p (xs ++ ys) ≡ find p ys
  find_later [] ys h = refl
  find_later (x ∷ xs) ys h =
      elim (p x) as (λ b. start_or (cond b (Some x) (find p xs)) None ≡ None → cond b (Some x) (find p (xs ++ ys)) ≡ find p ys) [
        | true ↦ λ h. absurd (some_none x.start h)
        | false ↦ λ h. find_later xs ys h
      ] h

-- the first of things that are numbered, from one on, that a test finds
module _ {X : Type 0} (q : X → Bool) (f : ℕ → X) where
  found_from : (n k from : ℕ) → k < n → ((j : ℕ) → j < k → q (f (from + j)) ≡ false) → q (f (from + k)) ≡ true → find q (map f (range_with_len from n)) ≡ Some (f (from + k))
  found_from zero k from low before here = absurd (omega arith)
  found_from (suc n) zero from low before here =
      let same : from + 0 ≡ from = omega arith in
      ap (λ b. cond b (Some (f from)) (find q (map f (range_with_len (from + 1) n)))) (ap (λ m. q (f m)) (sym same) ∙ here)
      ∙ ap (λ m. Some (f m)) (sym same)
  found_from (suc n) (suc k) from low before here =
      let same : from + 0 ≡ from = omega arith in
      let next : from + 1 + k ≡ from + suc k = omega arith in
      ap (λ b. cond b (Some (f from)) (find q (map f (range_with_len (from + 1) n)))) (ap (λ m. q (f m)) (sym same) ∙ before 0 (omega arith))
      ∙ found_from n k (from + 1) (omega arith)
      (λ j l. let there : from + 1 + j ≡ from + suc j = omega arith in ap (λ m. q (f m)) there ∙ before (suc j) (omega arith))
      (ap (λ m. q (f m)) next ∙ here)
      ∙ ap (λ m. Some (f m)) next

  none_from : (n from : ℕ) → ((j : ℕ) → j < n → q (f (from + j)) ≡ false) → find q (map f (range_with_len from n)) ≡ None
  none_from zero from before = refl
  none_from (suc n) from before =
      let same : from + 0 ≡ from = omega arith in
      ap (λ b. cond b (Some (f from)) (find q (map f (range_with_len (from + 1) n)))) (ap (λ m. q (f m)) (sym same) ∙ before 0 (omega arith))
      ∙ none_from n (from + 1) (λ j l. let there : from + 1 + j ≡ from + suc j = omega arith in ap (λ m. q (f m)) there ∙ before (suc j) (omega arith))

  none_here : (x : X) (rest : Option X) → cond (q x) (Some x) rest ≡ None → (q x ≡ false) × (rest ≡ None)
  none_here x rest h =
      elim (q x) as (λ b. cond b (Some x) rest ≡ None → (b ≡ false) × (rest ≡ None)) [
        | true ↦ λ h. absurd (not_none x h)
        | false ↦ λ h. (refl, h)
      ] h

  each_from : (n from : ℕ) → find q (map f (range_with_len from n)) ≡ None → (j : ℕ) → j < n → q (f (from + j)) ≡ false
  each_from zero from h j l = absurd (omega arith)
  each_from (suc n) from h zero l =
      let same : from + 0 ≡ from = omega arith in
      ap (λ m. q (f m)) same ∙ (none_here (f from) _ h).0
  each_from (suc n) from h (suc j) l =
      let there : from + suc j ≡ from + 1 + j = omega arith in
      ap (λ m. q (f m)) there ∙ each_from n (from + 1) (none_here (f from) _ h).1 j (omega arith)

  -- the same from the first on
  pub found_first : (n k : ℕ) → k < n → ((j : ℕ) → j < k → q (f j) ≡ false) → q (f k) ≡ true → find q (map f (range_with_len 0 n)) ≡ Some (f k)
  found_first n k low before here =
      found_from n k 0 low (λ j l. ap (λ m. q (f m)) (zero-add j) ∙ before j l) (ap (λ m. q (f m)) (zero-add k) ∙ here)
      ∙ ap (λ m. Some (f m)) (zero-add k)

  pub none_first : (n : ℕ) → ((j : ℕ) → j < n → q (f j) ≡ false) → find q (map f (range_with_len 0 n)) ≡ None
  none_first n before = none_from n 0 (λ j l. ap (λ m. q (f m)) (zero-add j) ∙ before j l)

  pub each_first : (n : ℕ) → find q (map f (range_with_len 0 n)) ≡ None → (j : ℕ) → j < n → q (f j) ≡ false
  each_first n none j l = ap (λ m. q (f m)) (sym (zero-add j)) ∙ each_from n 0 none j l

-- pages that are wrong
pub first_page : (bytes : List ℕ) (n k : ℕ) → k < n → ((j : ℕ) → j < k → is_wrong bytes (page j) ≡ false) → is_wrong bytes (page k) ≡ true → find (is_wrong bytes) (map page (range_with_len 0 n)) ≡ Some (page k)
first_page bytes = found_first (is_wrong bytes) page

pub pages_right : (bytes : List ℕ) (n : ℕ) → ((j : ℕ) → j < n → is_wrong bytes (page j) ≡ false) → find (is_wrong bytes) (map page (range_with_len 0 n)) ≡ None
pages_right bytes = none_first (is_wrong bytes) page

pub each_right : (bytes : List ℕ) (n : ℕ) → find (is_wrong bytes) (map page (range_with_len 0 n)) ≡ None → (j : ℕ) → j < n → is_wrong bytes (page j) ≡ false
each_right bytes = each_first (is_wrong bytes) page

-- whether a number is among others
pub listed : (ns : List ℕ) (n k : ℕ) → k < length ns → get_or ns k 0 ≡ n → list_any (λ m. m == n) ns ≡ true
listed [] n k low is = absurd (omega arith)
listed (x ∷ ns) n zero low is = ap (λ b. b || list_any (λ m. m == n) ns) (eq-eqb x n is)
listed (x ∷ ns) n (suc k) low is = or_last (x == n) _ (listed ns n k (omega arith) is)

pub unlisted : (ns : List ℕ) (n : ℕ) → ((k : ℕ) → k < length ns → get_or ns k 0 ≡ n → ⊥) → list_any (λ m. m == n) ns ≡ false
unlisted [] n none = refl
unlisted (x ∷ ns) n none = ap (λ b. b || list_any (λ m. m == n) ns) (ne_eqb x n (none 0 (omega arith))) ∙ unlisted ns n (λ k low. none (suc k) (omega arith))

-- a page that is there, whose number is right
last : (l : Bool) → (false || not ((true && true) && not l)) ≡ l
last true = refl
last false = refl

pub page_wrong : (bytes zeros : List ℕ) (k : ℕ) → page_start k + 4100 ≤ length bytes → rises bytes k ≡ true → page_number bytes k < 1048576 → zeros ≡ page_part bytes k → list_all (λ b. b == 0) zeros ≡ is_wrong bytes (page k)
page_wrong bytes zeros k there up below is =
    sym ((λ i. le-ltb (length bytes) (page_start k + 4100) there i || not ((up i && lt-ltb (page_number bytes k) 1048576 below i) && not (list_all (λ b. b == 0) (page_part bytes k))))
    ∙ last (list_all (λ b. b == 0) (page_part bytes k))
    ∙ ap (list_all (λ b. b == 0)) (sym is))

-- what follows the last page
pub trailing_some : (bytes : List ℕ) (end : ℕ) → end ≡ page_start (page_count bytes) → end < length bytes → Some end ≡ trailing bytes
trailing_some bytes end is low =
    ap Some is ∙ sym (ap (λ b. cond b (Some (page_start (page_count bytes))) None) (lt-ltb (page_start (page_count bytes)) (length bytes) (subst (λ e. e < length bytes) is low)))

pub trailing_none : (bytes : List ℕ) (end : ℕ) → end ≡ page_start (page_count bytes) → length bytes ≤ end → None ≡ trailing bytes
trailing_none bytes end is past =
    sym (ap (λ b. cond b (Some (page_start (page_count bytes))) None) (le-ltb (page_start (page_count bytes)) (length bytes) (subst (λ e. length bytes ≤ e) is past)))

pub none_trails : (bytes : List ℕ) → trailing bytes ≡ None → length bytes ≤ page_start (page_count bytes)
none_trails bytes none = elim (cases_lt (page_start (page_count bytes)) (length bytes)) [
  | inl low ↦ absurd (some_none _ (trailing_some bytes (page_start (page_count bytes)) refl low ∙ none))
  | inr past ↦ past
]
