-- Calls that fail where they are listed.
use Rattle.std.proofs.Common.{◌≡◌, ◌↔◌, ℕ, Bool, true, false, IsTrue, List, sym, ◌∙◌, subst}
use Rattle.std.proofs.lemmas.Bool.{false≢true}
use Rattle.keepers.specs.FailureList.{IsListed}
use Rattle.keepers.specs.KeeperState.{KeeperState}
use Rattle.keepers.specs.declared.memory_keeper.Op.{Op}

-- what the list says of the next call of a kind, seen from the keeper before it
module _ (op : Op) (count : KeeperState → ℕ) (inside now : KeeperState) (list : List (Op × ℕ)) (fails : Bool) (same : inside ≡ now) (is : list ≡ inside.failing) (told : IsTrue fails ↔ IsListed list op (count inside)) where
  abbrev Listed : KeeperState → Type 0
  Listed k = IsListed k.failing op (count k)

  told_now : IsTrue fails ↔ Listed now
  told_now = subst (λ k. IsTrue fails ↔ Listed k) same (subst (λ l. IsTrue fails ↔ IsListed l op (count inside)) is told)

  -- it is listed, and it fails
  pub listed : (Fails : Type 0) → fails ≡ true → Fails → (Fails ↔ Listed now)
  listed Fails is_in failed = ((λ _. told_now.0 is_in), (λ _. failed))

  -- it isn't listed, and it doesn't fail
  pub unlisted : (Fails : Type 0) → fails ≡ false → (Fails → ⊥) → (Fails ↔ Listed now)
  unlisted Fails is_not went = ((λ failed. absurd (went failed)), (λ l. absurd (false≢true (sym is_not ∙ told_now.1 l))))
