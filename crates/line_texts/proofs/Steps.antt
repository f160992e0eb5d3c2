-- Steps that every reader takes.
use Rattle.std.proofs.Common.{◌≡◌, Bool, true, false, cond, ◌&&◌, List, ℕ, Option, Some, None, Result, Ok, Err, refl, sym, inl, inr, ◌⊎◌}
use Rattle.std.specs.Str.{bytes_eq}
use Rattle.std.proofs.lemmas.Slice.Eq.{bytes_eq-Decides}
use Rattle.line_texts.specs.Parsers.{◌>>=◌}

-- which way a test went
pub chosen : {A : Type 0} (b : Bool) (x y z : A) → cond b x y ≡ z → ((b ≡ true) × (x ≡ z)) ⊎ ((b ≡ false) × (y ≡ z))
chosen true x y z e = inl (refl, e)
chosen false x y z e = inr (refl, e)

pub which : (b : Bool) → (b ≡ true) ⊎ (b ≡ false)
which true = inl refl
which false = inr refl

pub both : (a b : Bool) → (a && b) ≡ true → (a ≡ true) × (b ≡ true)
both true true e = (refl, refl)
both true false e = absurd cc
both false b e = absurd cc

-- a test that did not fail
pub passed : {A : Type 0} (b : Bool) (r : Option A) (y : A) → cond b None r ≡ Some y → (b ≡ false) × (r ≡ Some y)
passed true r y e = absurd cc
passed false r y e = (refl, e)

pub passed_then : {A : Type 0} (b : Bool) (r : Option A) (y : A) → cond b r None ≡ Some y → (b ≡ true) × (r ≡ Some y)
passed_then true r y e = (refl, e)
passed_then false r y e = absurd cc

-- what steps gave that may fail
pub bind_ok : {A B F : Type 0} (r : Result A F) (f : A → Result B F) (y : B) → (r >>= f) ≡ Ok y → (x : A) × (r ≡ Ok x) × (f x ≡ Ok y)
bind_ok (Ok x) f y e = (x, refl, e)
bind_ok (Err d) f y e = absurd cc

abbrev pub done : {A : Type 0} (F : Type 0) → A → Result A F
done F x = Ok x

abbrev pub failed : {F : Type 0} (A : Type 0) → F → Result A F
failed A d = Err d

pub ok_is : {A F : Type 0} (x y : A) → done F x ≡ done F y → x ≡ y
ok_is x y e = cc

pub err_is : (A : Type 0) {F : Type 0} (x y : F) → failed A x ≡ failed A y → x ≡ y
err_is A x y e = cc

pub not_both : {A F : Type 0} (x : A) (d : F) → done F x ≡ failed A d → ⊥
not_both x d e = cc

pub bind_err : {A B F : Type 0} (r : Result A F) (f : A → Result B F) (d : F) → (r >>= f) ≡ Err d → (r ≡ Err d) ⊎ ((x : A) × (r ≡ Ok x) × (f x ≡ Err d))
bind_err (Ok x) f d e = inr (x, refl, e)
bind_err {A = A} {B = B} (Err d') f d e = inl (err_same A B d' d e)
  where
    err_same : {F : Type 0} (A B : Type 0) (d' d : F) → failed B d' ≡ failed B d → failed A d' ≡ failed A d
    err_same A B d' d e = cc (err_is B d' d e)

-- texts of the same bytes are one
pub same_bytes : (a b : List ℕ) → bytes_eq a b ≡ true → a ≡ b
same_bytes a b e = (bytes_eq-Decides a b).0 e

pub itself : (a : List ℕ) → bytes_eq a a ≡ true
itself a = (bytes_eq-Decides a a).1 refl

pub other_bytes : (a b : List ℕ) → bytes_eq a b ≡ false → bytes_eq b a ≡ false
other_bytes a b miss = elim (which (bytes_eq b a)) [
  | inl hit ↦ absurd (cc ((bytes_eq-Decides a b).1 (sym (same_bytes b a hit)), miss))
  | inr other ↦ other
]
