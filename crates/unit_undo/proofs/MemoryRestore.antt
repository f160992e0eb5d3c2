-- Memory that gets its old bytes back.
use Rattle.std.proofs.Common.{◌≡◌, ℕ, zero, suc, ◌+◌, ◌==◌, ◌||◌, inl, inr, cond, List, [], ◌∷◌, length, refl, sym, ap, ◌∙◌, Option, Some, None}
use Rattle.std.proofs.lemmas.Bool.{cases_eq, ne_eqb}
use Rattle.std.specs.Cmp.{nat_cmp_total}
use Rattle.std.specs.List.{list_any}
use Rattle.std.specs.FinMap.{get, insert, get-insert, same_map, nat_cmp-IsAntisymmetric}
use Rattle.rv_pages.specs.Memory.{Memory, wrapped, byte_at, bytes_at, followed_by, with_bytes}
use Rattle.rv_pages.proofs.EntrySearch.{tied_same, tied_other}
use Rattle.rv_machine.specs.StateChanges.{addresses}
use Rattle.rv_machine.specs.StepChanges.{IsOutside}

followed : (x : Option ℕ) (ys : Option (List ℕ)) (b : ℕ) (bs : List ℕ) → followed_by x ys ≡ Some (b ∷ bs) → (x ≡ Some b) × (ys ≡ Some bs)
followed None ys b bs e = absurd (cc)
followed (Some c) None b bs e = absurd (cc)
followed (Some c) (Some cs) b bs e = ((cc), (cc))

-- where all other bytes are as they were, the old bytes make the memory what it was
pub restored : (m k : Memory) (at : ℕ) (bytes : List ℕ) → bytes_at m at (length bytes) ≡ Some bytes → ((a : ℕ) → IsOutside (addresses at (length bytes)) a → get k a ≡ get m a) → with_bytes k at bytes ≡ m
restored m k at [] old others = same_map nat_cmp_total nat_cmp-IsAntisymmetric k m (λ a. others a refl)
restored m k at (b ∷ bs) old others =
    let parts = followed (byte_at m at) (bytes_at m (at + 1) (length bs)) b bs old in
    let first : get (insert k (wrapped at) b) (wrapped at) ≡ Some b =
    get-insert nat_cmp_total k (wrapped at) b (wrapped at) ∙ ap (λ t. cond t (Some b) (get k (wrapped at))) (tied_same (wrapped at)) in
    restored m (insert k (wrapped at) b) (at + 1) bs parts.1 (λ a outside. elim (cases_eq a (wrapped at)) [
      | inl same ↦ ap (get (insert k (wrapped at) b)) same ∙ first ∙ sym parts.0 ∙ ap (get m) (sym same)
      | inr other ↦
          get-insert nat_cmp_total k (wrapped at) b a
          ∙ ap (λ t. cond t (Some b) (get k a)) (tied_other a (wrapped at) other)
          ∙ others a (ap (λ t. t || list_any (λ x. x == a) (addresses (at + 1) (length bs))) (ne_eqb (wrapped at) a (λ (e : wrapped at ≡ a). other (sym e))) ∙ outside)
    ])

not_none : (x : Option ℕ) (ys : Option (List ℕ)) → followed_by x ys ≡ Some [] → ⊥
not_none None ys h = cc
not_none (Some b) None h = cc
not_none (Some b) (Some bs) h = cc

pub length-bytes_at : (m : Memory) (n at : ℕ) (bytes : List ℕ) → bytes_at m at n ≡ Some bytes → length bytes ≡ n
length-bytes_at m zero at [] h = refl
length-bytes_at m zero at (b ∷ bs) h = absurd (cc)
length-bytes_at m (suc n) at [] h = absurd (not_none (byte_at m at) (bytes_at m (at + 1) n) h)
length-bytes_at m (suc n) at (b ∷ bs) h = ap suc (length-bytes_at m n (at + 1) bs (followed (byte_at m at) (bytes_at m (at + 1) n) b bs h).1)
