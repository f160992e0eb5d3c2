-- The path of a slot's file says its folder, its level and its slot.
use Rattle.std.proofs.Common.{◌≡◌, ◌≢◌, ℕ, ◌+◌, ◌%◌, ◌^◌, ◌<◌, ◌≤◌, List, [], ◌∷◌, ◌++◌, refl, ap, sym, subst, ◌∙◌, arith, append_assoc}
use Rattle.std.specs.Prelude.{codes, decimal}
use Rattle.std.specs.List.{AllByRecursion}
use Rattle.std.proofs.lemmas.Fmt.{decimal_injective, decimal_by_steps}
use Rattle.std.proofs.lemmas.List.{append_cancel_right}
use Rattle.keepers.specs.SlotFiles.{slot_path}

abbrev IsOther : ℕ → ℕ → Type 0
IsOther c x = x ≢ c

-- a byte that stands in xs, behind ys, isn't one that xs has none of
absent : (c : ℕ) (ys zs : List ℕ) → AllByRecursion (IsOther c) (ys ++ c ∷ zs) → ⊥
absent c [] zs all = all.0 refl
absent c (y ∷ ys) zs all = absent c ys zs all.1

-- the last byte of a kind splits a list in one way
pub one_split : (c : ℕ) (xs ys ds es : List ℕ) → AllByRecursion (IsOther c) ds → AllByRecursion (IsOther c) es → xs ++ c ∷ ds ≡ ys ++ c ∷ es → (xs ≡ ys) × (ds ≡ es)
one_split c [] [] ds es none also same = (refl, cc)
one_split c [] (y ∷ ys) ds es none also same = (let behind : ds ≡ ys ++ c ∷ es = cc in absurd (absent c ys es (subst (AllByRecursion (IsOther c)) behind none)))
one_split c (x ∷ xs) [] ds es none also same = (let behind : es ≡ xs ++ c ∷ ds = cc in absurd (absent c xs ds (subst (AllByRecursion (IsOther c)) behind also)))
one_split c (x ∷ xs) (y ∷ ys) ds es none also same =
    let first : x ≡ y = cc in
    let rest : xs ++ c ∷ ds ≡ ys ++ c ∷ es = cc in
    let h = one_split c xs ys ds es none also rest in
    (λ i. first i ∷ h.0 i, h.1)

all_more : (c : ℕ) (xs : List ℕ) (x : ℕ) → AllByRecursion (IsOther c) xs → x ≢ c → AllByRecursion (IsOther c) (xs ++ x ∷ [])
all_more c [] x all apart = (apart, tt)
all_more c (y ∷ ys) x all apart = (all.0, all_more c ys x all.1 apart)

-- a letter is no digit
no_digit : (c n : ℕ) → 58 ≤ c → n < 2 ^ 64 → AllByRecursion (IsOther c) (decimal n)
no_digit c n letter few = decimal_by_steps (λ m ds. AllByRecursion (IsOther c) ds)
    (λ m h. ((λ e. absurd (omega (arith, letter, h, e))), tt))
    (λ m ds h all. all_more c ds (48 + m % 10) all (λ e. absurd (omega (arith, letter, e)))) n few

-- a letter behind a text, and then digits
behind : (front tail : List ℕ) (c : ℕ) (ds : List ℕ) → (front ++ (tail ++ c ∷ [])) ++ ds ≡ (front ++ tail) ++ c ∷ ds
behind front tail c ds = append_assoc front (tail ++ c ∷ []) ds ∙ ap (λ (l : List ℕ). front ++ l) (append_assoc tail (c ∷ []) ds) ∙ sym (append_assoc front tail (c ∷ ds))

-- what stands before a number, and the number
one_number : (front its_front tail : List ℕ) (c n m : ℕ) → 58 ≤ c → n < 2 ^ 64 → m < 2 ^ 64 → (front ++ (tail ++ c ∷ [])) ++ decimal n ≡ (its_front ++ (tail ++ c ∷ [])) ++ decimal m → (front ≡ its_front) × (n ≡ m)
one_number front its_front tail c n m letter few also same =
    let split = one_split c (front ++ tail) (its_front ++ tail) (decimal n) (decimal m) (no_digit c n letter few) (no_digit c m letter also) (sym (behind front tail c (decimal n)) ∙ same ∙ behind its_front tail c (decimal m)) in
    (append_cancel_right front its_front tail split.0, decimal_injective n m few also split.1)

-- the path of a slot's file says its folder, its level and its slot
pub one_path : (folder other : List ℕ) (level its_level slot its_slot : ℕ) → level < 2 ^ 64 → its_level < 2 ^ 64 → slot < 2 ^ 64 → its_slot < 2 ^ 64 →
    slot_path folder level slot ≡ slot_path other its_level its_slot → (folder ≡ other) × (level ≡ its_level) × (slot ≡ its_slot)
one_path folder other level its_level slot its_slot a b s t same =
    let front = folder ++ codes "/level" ++ decimal level in
    let its_front = other ++ codes "/level" ++ decimal its_level in
    let slots = one_number front its_front (codes "-slo") 116 slot its_slot (omega arith) s t
    (append_cancel_right (front ++ codes "-slot" ++ decimal slot) (its_front ++ codes "-slot" ++ decimal its_slot) (codes ".img") same) in
    let levels = one_number folder other (codes "/leve") 108 level its_level (omega arith) a b slots.0 in
    (levels.0, levels.1, slots.1)
