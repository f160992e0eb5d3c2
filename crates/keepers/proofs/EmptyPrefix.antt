-- The empty list is a prefix of every list of bytes.
use Rattle.std.proofs.Common.{◌≡◌, ℕ, List, [], ◌++◌, Option, None, Some, sym, ap}
use Rattle.keepers.specs.Claims.{WhereTold, Begins}

pub empty_begins : (front bytes : List ℕ) → front ≡ [] → Begins front bytes
empty_begins front bytes e = (bytes, ap (λ f. f ++ bytes) (sym e))

-- the same of what is told
pub none_begin : {A : Type 0} (told : Option A) (front : List ℕ) (bytes : A → List ℕ) → front ≡ [] → WhereTold told (λ x. Begins front (bytes x))
none_begin None front bytes e = tt
none_begin (Some x) front bytes e = empty_begins front (bytes x) e
