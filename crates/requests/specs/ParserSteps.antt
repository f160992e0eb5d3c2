-- Steps of readers of words, as functions on lists.
use Rattle.std.specs.Prelude.{ℕ, ◌==◌, List, [], ◌∷◌, Option, Some, None, if◌then◌else◌}

infixl 10 ◌>>=◌
abbrev pub ◌>>=◌ : {A B : Type 0} → Option A → (A → Option B) → Option B
None >>= f = None
(Some x) >>= f = f x

-- f of the value, or the other if there is none
abbrev pub with_or : {A B : Type 0} → Option A → (A → B) → B → B
with_or None f other = other
with_or (Some x) f other = f x

-- the bytes after this text at the front
unfoldable pub after_of : List ℕ → List ℕ → Option (List ℕ)
after_of [] bytes = Some bytes
after_of (t ∷ ts) [] = None
after_of (t ∷ ts) (b ∷ bs) = if t == b then after_of ts bs else None
