-- What is seen of a keeper of one of two kinds: what is seen of its part.
use Rattle.keepers.specs.declared.either_keeper.EitherKeeper.{EitherKeeper}
use Rattle.keepers.specs.declared.either_keeper.EitherKeeper.TheVariants.{First, Second}

module _ {A B : Type 0} where
  abbrev pub of_part : {T : Type 0} → (A → T) → (B → T) → EitherKeeper A B → T
  of_part a b (First k) = a k
  of_part a b (Second k) = b k

  -- the part is of the same kind before and after, and this relates the two
  abbrev pub Relates : (A → A → Type 0) → (B → B → Type 0) → EitherKeeper A B → EitherKeeper A B → Type 0
  Relates a b (First old) (First new) = a old new
  Relates a b (Second old) (Second new) = b old new
  Relates a b old new = ⊥
