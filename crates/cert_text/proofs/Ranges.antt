-- Lists over ranges of numbers.
use Rattle.std.proofs.Common.{◌≡◌, ℕ, zero, suc, ◌+◌, ◌<◌, ◌≤◌, List, [], ◌∷◌, ◌++◌, length, map, refl, sym, ap, ◌∙◌, inl, inr, arith, append-nil, append_assoc}
use Rattle.std.proofs.lemmas.Bool.{cases_lt}
use Rattle.std.specs.List.{range_with_len, flat_map, AllByRecursion}

pub map_same : {A : Type 0} (f g : ℕ → A) (a n : ℕ) → ((i : ℕ) → a ≤ i → i < a + n → f i ≡ g i) → map f (range_with_len a n) ≡ map g (range_with_len a n)
map_same f g a zero same = refl
map_same f g a (suc n) same =
    let here = same a (omega arith) (omega arith) in
    let later = map_same f g (a + 1) n (λ i low high. same i (omega arith) (omega arith)) in
    λ i. here i ∷ later i

pub flat_same : {A : Type 0} (f g : ℕ → List A) (a n : ℕ) → ((i : ℕ) → a ≤ i → i < a + n → f i ≡ g i) → flat_map f (range_with_len a n) ≡ flat_map g (range_with_len a n)
flat_same f g a zero same = refl
flat_same f g a (suc n) same =
    let here = same a (omega arith) (omega arith) in
    let later = flat_same f g (a + 1) n (λ i low high. same i (omega arith) (omega arith)) in
    λ i. here i ++ later i

-- one more at the end
pub map_more : {A : Type 0} (f : ℕ → A) (a n : ℕ) → map f (range_with_len a (suc n)) ≡ map f (range_with_len a n) ++ f (a + n) ∷ []
map_more {A = A} f a zero = let e : a ≡ a + 0 = omega arith in ap (λ (i : ℕ). f i ∷ []) e
map_more {A = A} f a (suc n) =
    let e : (a + 1) + n ≡ a + suc n = omega arith in
    ap (λ (l : List A). f a ∷ l) (map_more {A = A} f (a + 1) n ∙ ap (λ (i : ℕ). map f (range_with_len (a + 1) n) ++ f i ∷ []) e)

pub flat_more : {A : Type 0} (f : ℕ → List A) (a n : ℕ) → flat_map f (range_with_len a (suc n)) ≡ flat_map f (range_with_len a n) ++ f (a + n)
flat_more {A = A} f a zero = let e : a ≡ a + 0 = omega arith in append-nil (f a) ∙ ap f e
flat_more {A = A} f a (suc n) =
    let e : (a + 1) + n ≡ a + suc n = omega arith in
    ap (λ (l : List A). f a ++ l) (flat_more {A = A} f (a + 1) n ∙ ap (λ (i : ℕ). flat_map f (range_with_len (a + 1) n) ++ f i) e)
    ∙ sym (append_assoc (f a) (flat_map f (range_with_len (a + 1) n)) (f (a + suc n)))

pub all_mapped : {A : Type 0} (P : A → Type 0) (f : ℕ → A) (a n : ℕ) → ((i : ℕ) → a ≤ i → i < a + n → P (f i)) → AllByRecursion P (map f (range_with_len a n))
all_mapped P f a zero all = tt
all_mapped P f a (suc n) all = (all a (omega arith) (omega arith), all_mapped P f (a + 1) n (λ i low high. all i (omega arith) (omega arith)))

pub all_appended : {A : Type 0} (P : A → Type 0) (x y : List A) → AllByRecursion P x → AllByRecursion P y → AllByRecursion P (x ++ y)
all_appended P [] y all more = more
all_appended P (a ∷ x) y all more = (all.0, all_appended P x y all.1 more)

pub all_flat : {A : Type 0} (P : A → Type 0) (f : ℕ → List A) (a n : ℕ) → ((i : ℕ) → a ≤ i → i < a + n → AllByRecursion P (f i)) → AllByRecursion P (flat_map f (range_with_len a n))
all_flat P f a zero all = tt
all_flat P f a (suc n) all =
    all_appended P (f a) (flat_map f (range_with_len (a + 1) n)) (all a (omega arith) (omega arith)) (all_flat P f (a + 1) n (λ i low high. all i (omega arith) (omega arith)))

-- fronts of the same length are the same
pub same_parts : {A : Type 0} (x y p q : List A) → length x ≡ length p → x ++ y ≡ p ++ q → (x ≡ p) × (y ≡ q)
same_parts [] y [] q long e = (refl, e)
same_parts [] y (b ∷ p) q long e = absurd (omega arith)
same_parts (a ∷ x) y [] q long e = absurd (omega arith)
same_parts (a ∷ x) y (b ∷ p) q long e =
    let d : a ∷ (x ++ y) ≡ b ∷ (p ++ q) = e in
    let first : a ≡ b = cc in
    let rest : x ++ y ≡ p ++ q = cc in
    let size : length x ≡ length p = omega arith in
    let more = same_parts x y p q size rest in
    ((λ i. first i ∷ more.0 i), more.1)

-- lists over a range that are the same have the same at each place
pub mapped_same : {A : Type 0} (f g : ℕ → A) (a n i : ℕ) → map f (range_with_len a n) ≡ map g (range_with_len a n) → a ≤ i → i < a + n → f i ≡ g i
mapped_same f g a zero i e low high = absurd (omega arith)
mapped_same f g a (suc n) i e low high =
    let d : f a ∷ map f (range_with_len (a + 1) n) ≡ g a ∷ map g (range_with_len (a + 1) n) = e in
    let first : f a ≡ g a = cc in
    let rest : map f (range_with_len (a + 1) n) ≡ map g (range_with_len (a + 1) n) = cc in
    elim (cases_lt a i) [
      | inl later ↦ mapped_same f g (a + 1) n i rest (omega arith) (omega arith)
      | inr here ↦ let is : i ≡ a = omega arith in ap f is ∙ first ∙ ap g (sym is)
    ]

pub flat_parts : {A : Type 0} (f g : ℕ → List A) (a n i : ℕ) (y z : List A) → ((j : ℕ) → length (f j) ≡ length (g j)) → flat_map f (range_with_len a n) ++ y ≡ flat_map g (range_with_len a n) ++ z → a ≤ i → i < a + n → f i ≡ g i
flat_parts f g a zero i y z long e low high = absurd (omega arith)
flat_parts f g a (suc n) i y z long e low high =
    let d = sym (append_assoc (f a) (flat_map f (range_with_len (a + 1) n)) y) ∙ e ∙ append_assoc (g a) (flat_map g (range_with_len (a + 1) n)) z in
    let parts = same_parts (f a) (flat_map f (range_with_len (a + 1) n) ++ y) (g a) (flat_map g (range_with_len (a + 1) n) ++ z) (long a) d in
    elim (cases_lt a i) [
      | inl later ↦ flat_parts f g (a + 1) n i y z long parts.1 (omega arith) (omega arith)
      | inr here ↦ let is : i ≡ a = omega arith in ap f is ∙ parts.0 ∙ ap g (sym is)
    ]
