-- One more level of a book.
use Rattle.std.proofs.Common.{◌≡◌, ℕ, zero, suc, ◌+◌, List, [], ◌∷◌, ◌++◌, map, take, sym, ◌∙◌, ap, add-one, Some}
use Rattle.std.specs.List.{AllByRecursion, slice_get}
use Rattle.std.proofs.lemmas.List.{map-append}

some_is : {X : Type 0} (x y : X) → Some x ≡ Some y → x ≡ y
some_is x y e = cc

-- one element more of a list
take_one_more : {X : Type 0} (xs : List X) (k : ℕ) (x : X) → slice_get xs k ≡ Some x → take (suc k) xs ≡ take k xs ++ x ∷ []
take_one_more [] k x e = cc
take_one_more (y ∷ ys) zero x e = ap (λ z. z ∷ []) (some_is y x e)
take_one_more (y ∷ ys) (suc k) x e = ap (λ zs. y ∷ zs) (take_one_more ys k x e)

-- the lists seen by f and by g are alike one element further
pub alike_one_more : {X Y Z : Type 0} (f : X → Z) (g : Y → Z) (xs : List X) (ys : List Y) (k : ℕ) (x : X) (y : Y) →
    slice_get xs k ≡ Some x → g y ≡ f x → map g ys ≡ map f (take k xs) → map g (ys ++ y ∷ []) ≡ map f (take (k + 1) xs)
alike_one_more f g xs ys k x y here same so_far =
    map-append g ys (y ∷ [])
    ∙ (λ i. so_far i ++ same i ∷ [])
    ∙ sym (map-append f (take k xs) (x ∷ []))
    ∙ ap (map f) (sym (take_one_more xs k x here) ∙ ap (λ n. take n xs) (sym (add-one k)))

pub all_one_more : {X : Type 0} (P : X → Type 0) (xs : List X) (x : X) → AllByRecursion P xs → P x → AllByRecursion P (xs ++ x ∷ [])
all_one_more P [] x all p = (p, tt)
all_one_more P (y ∷ ys) x all p = (all.0, all_one_more P ys x all.1 p)
