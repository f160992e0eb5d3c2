-- The images that are held below a stretch.
use Rattle.std.proofs.Common.{◌≡◌, ◌==◌, ℕ, ◌+◌, ◌<◌, ◌≤◌, cond, Bool, true, false, ◌&&◌, ◌||◌, List, [], ◌∷◌, refl, ap, ◌∙◌, arith, eq-eqb}
use Rattle.std.proofs.lemmas.Bool.{ne_eqb}
use Rattle.level_book.specs.NestedClass.{Image, GoesOnTop}

-- all are of states before b, and on no faster level than k
abbrev pub Below : List Image → ℕ → ℕ → Type 0
Below [] b k = Unit {0}
Below (i ∷ older) b k = (i.position < b) × (k ≤ i.level) × Below older b k

-- how many are on level k, and whether that of state n on level k is among them
abbrev pub on_level : ℕ → List Image → ℕ
on_level k [] = 0
on_level k (i ∷ older) = cond (i.level == k) 1 0 + on_level k older

abbrev pub among : List Image → ℕ → ℕ → Bool
among [] k n = false
among (i ∷ older) k n = ((i.level == k) && (i.position == n)) || among older k n

pub below_later : (images : List Image) (b b' k k' : ℕ) → Below images b k → b ≤ b' → k' ≤ k → Below images b' k'
below_later [] b b' k k' is le le' = tt
below_later (i ∷ older) b b' k k' is le le' = (omega (arith, is.0), omega (arith, is.1), below_later older b b' k k' is.2 le le')

pub top_of_below : (images : List Image) (b k : ℕ) → Below images b k → GoesOnTop images b k
top_of_below [] b k is = tt
top_of_below (i ∷ older) b k is = (is.0, is.1)

-- no image of a state from b on, or on a faster level
pub not_among : (images : List Image) (b k j n : ℕ) → Below images b k → b ≤ n → among images j n ≡ false
not_among [] b k j n is le = refl
not_among (i ∷ older) b k j n is le =
    let other : (i.position == n) ≡ false = ne_eqb i.position n (λ e. absurd (omega (arith, is.0))) in
    ap (λ x. ((i.level == j) && x) || among older j n) other ∙ ap (λ x. x || among older j n) (and_false (i.level == j)) ∙ not_among older b k j n is.2 le
  where
    and_false : (x : Bool) → (x && false) ≡ false
    and_false true = refl
    and_false false = refl

pub none_faster : (images : List Image) (b k j : ℕ) → Below images b k → j < k → on_level j images ≡ 0
none_faster [] b k j is lt = refl
none_faster (i ∷ older) b k j is lt =
    let other : (i.level == j) ≡ false = ne_eqb i.level j (λ e. absurd (omega (arith, is.1))) in
    ap (λ x. cond x 1 0 + on_level j older) other ∙ omega (arith, none_faster older b k j is.2 lt)

pub one_more : (images : List Image) (n k : ℕ) → on_level k (record { position = n; level = k } ∷ images) ≡ 1 + on_level k images
one_more images n k = ap (λ x. cond x 1 0 + on_level k images) (eq-eqb k k refl)
