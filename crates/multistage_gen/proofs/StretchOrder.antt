-- Stretches that stand in the order of their steps, each number of steps once.
use Rattle.std.proofs.Common.{◌≡◌, ◌≢◌, ℕ, zero, suc, ◌<◌, ◌≤◌, List, [], ◌∷◌, ◌++◌, length, take, drop, get_or, set as put, refl, sym, ap, subst, ◌∙◌, arith, inl, inr}
use Rattle.std.proofs.lemmas.Bool.{cases_lt}
use Rattle.std.specs.List.{AllByRecursion, insert}
use Rattle.multistage_gen.specs.declared.numbers.Stretches.{Stretches}
use Rattle.multistage_gen.specs.Numbers.{AreAscending}
use Rattle.multistage_gen.proofs.StretchTraffic.{all_insert, all_put, all_front, all_get}

-- ---- where more steps begin

-- one place before
pub drop_back : (P : Stretches → Type 0) (xs : List Stretches) (j : ℕ) (d : Stretches) → j < length xs → P (get_or xs j d) → AllByRecursion P (drop (suc j) xs) → AllByRecursion P (drop j xs)
drop_back P [] j d within is all = absurd (omega (arith, within))
drop_back P (x ∷ xs) zero d within is all = (is, all)
drop_back P (x ∷ xs) (suc j) d within is all = drop_back P xs j d (omega (arith, within)) is all

pub nothing_behind : (P : Stretches → Type 0) (xs : List Stretches) (i : ℕ) → i ≡ length xs → AllByRecursion P (drop i xs)
nothing_behind P [] zero e = tt
nothing_behind P [] (suc i) e = tt
nothing_behind P (x ∷ xs) zero e = absurd (omega (arith, e))
nothing_behind P (x ∷ xs) (suc i) e = nothing_behind P xs i (omega (arith, e))

-- where the last of the first has no more steps, none of them has
pub none_before : (n : ℕ) (xs : List Stretches) (i : ℕ) (d : Stretches) → i ≤ length xs → AreAscending xs → ((j : ℕ) → i ≡ suc j → (get_or xs j d).steps ≤ n) → AllByRecursion (λ s. s.steps ≤ n) (take i xs)
none_before n xs zero d within up last = tt
none_before n [] (suc i) d within up last = tt
none_before n (x ∷ xs) (suc zero) d within up last = (last zero refl, tt)
none_before n (x ∷ []) (suc (suc i)) d within up last = absurd (omega (arith, within))
none_before n (x ∷ y ∷ xs) (suc (suc i)) d within up last =
    let rest = none_before n (y ∷ xs) (suc i) d (omega (arith, within)) up.1 (λ j e. last (suc j) (ap suc e)) in
    let next = up.0.0 in
    let is = rest.0 in
    (omega (arith, next, is), rest)

-- ---- one more

-- where the last of the first has not as many steps, each of them has fewer
fewer_before : (n : ℕ) (xs : List Stretches) (i : ℕ) (d : Stretches) → i ≤ length xs → AreAscending xs → ((j : ℕ) → i ≡ suc j → (get_or xs j d).steps ≢ n) → AllByRecursion (λ s. s.steps ≤ n) (take i xs) →
    AllByRecursion (λ s. s.steps < n) (take i xs)
fewer_before n xs zero d within up last all = tt
fewer_before n [] (suc i) d within up last all = tt
fewer_before n (x ∷ xs) (suc zero) d within up last all = (below x.steps n all.0 (last zero refl), tt)
  where
    below : (a b : ℕ) → a ≤ b → a ≢ b → a < b
    below a b le ne = elim (cases_lt a b) [ inl h ↦ h | inr h ↦ (let same : a ≡ b = omega (arith, h, le) in absurd (ne same)) ]
fewer_before n (x ∷ []) (suc (suc i)) d within up last all = absurd (omega (arith, within))
fewer_before n (x ∷ y ∷ xs) (suc (suc i)) d within up last all =
    let rest = fewer_before n (y ∷ xs) (suc i) d (omega (arith, within)) up.1 (λ j e. last (suc j) (ap suc e)) all.1 in
    let next = up.0.0 in
    let is = rest.0 in
    (omega (arith, next, is), rest)

put_between : (n : ℕ) (xs : List Stretches) (i : ℕ) (y : Stretches) → i ≤ length xs → y.steps ≡ n → AreAscending xs → AllByRecursion (λ s. s.steps < n) (take i xs) →
    AllByRecursion (λ s. n < s.steps) (drop i xs) → AreAscending (insert xs i y)
put_between n [] zero y within is up before behind = (tt, tt)
put_between n [] (suc i) y within is up before behind = (tt, tt)
put_between n (x ∷ xs) zero y within is up before behind = (subst (λ (k : ℕ). AllByRecursion (λ (s : Stretches). k < s.steps) (x ∷ xs)) (sym is) behind, up)
put_between n (x ∷ xs) (suc i) y within is up before behind =
    let fewer = before.0 in
    (all_insert (λ s. x.steps < s.steps) xs i y up.0 (omega (arith, fewer, is)), put_between n xs i y (omega (arith, within)) is up.1 before.1 behind)

pub ascending_insert : (n : ℕ) (xs : List Stretches) (i : ℕ) (d y : Stretches) → i ≤ length xs → y.steps ≡ n → AreAscending xs → AllByRecursion (λ s. s.steps ≤ n) (take i xs) →
    AllByRecursion (λ s. n < s.steps) (drop i xs) → ((j : ℕ) → i ≡ suc j → (get_or xs j d).steps ≢ n) → AreAscending (insert xs i y)
ascending_insert n xs i d y within is up before behind other = put_between n xs i y within is up (fewer_before n xs i d within up other before) behind

-- others of as many steps are counted there
pub ascending_put : (xs : List Stretches) (i : ℕ) (x y : Stretches) → i < length xs → x ≡ get_or xs i x → y.steps ≡ x.steps → AreAscending xs → AreAscending (put xs i y)
ascending_put [] i x y within at is up = absurd (omega (arith, within))
ascending_put (z ∷ xs) zero x y within at is up =
    let same : z.steps ≡ y.steps = sym (is ∙ ap (λ (s : Stretches). s.steps) at) in
    (subst (λ (k : ℕ). AllByRecursion (λ (s : Stretches). k < s.steps) xs) same up.0, up.1)
ascending_put (z ∷ xs) (suc i) x y within at is up =
    let more = all_get (λ s. z.steps < s.steps) xs i x (omega (arith, within)) up.0 in
    let same = ap (λ (s : Stretches). s.steps) at in
    (all_put (λ s. z.steps < s.steps) xs i y up.0 (omega (arith, is, same, more)), ascending_put xs i x y (omega (arith, within)) at is up.1)

-- ---- one less

pub ascending_front : (xs ys : List Stretches) → AreAscending (xs ++ ys) → AreAscending xs
ascending_front [] ys up = tt
ascending_front (x ∷ xs) ys up = (all_front (λ s. x.steps < s.steps) xs ys up.0, ascending_front xs ys up.1)
