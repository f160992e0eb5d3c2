-- Columns of numbers, and what splits cost that go through them.
use Rattle.std.proofs.Common.{◌≡◌, ℕ, zero, suc, ◌+◌, ◌-◌, ◌*◌, ◌<◌, ◌≤◌, ◌^◌, min, List, [], ◌∷◌, ◌++◌, length, get_or, refl, sym, ap, ◌∙◌, subst, arith, inl, inr}
use Rattle.std.proofs.lemmas.Bool.{cases_lt}
use Rattle.cost_tables.specs.declared.rows.Row.{Row}
use Rattle.cost_tables.specs.Entries.{fresh_in, held_in, least_after, least_of, never_in_memory}
use Rattle.cost_tables.specs.Rows.{partial_in, IsColumn}
use Rattle.cost_tables.proofs.RowExtension.{pushed, All-pushed}

pub column_more : (bound n : ℕ) (number : ℕ → ℕ) (xs zs : List ℕ) (x : ℕ) → IsColumn bound n number xs → zs ≡ xs ++ x ∷ [] → x ≡ number n → x ≤ bound → IsColumn bound (n + 1) number zs
column_more bound n number xs zs x is e here le =
    let p = pushed xs zs x n e is.long in
    record {
      long = p.longer;
      low = All-pushed bound xs zs x e is.low le;
      value = λ i lt.
          let P : ℕ → Type 0 = λ i. get_or zs i 0 ≡ number i in
          elim (cases_lt i n) [
            | inl h ↦ p.before i h ∙ is.value i h
            | inr h ↦ let e : n ≡ i = omega arith in subst P e (p.here ∙ here)
          ];
    }

pub least_same : (f g : ℕ → ℕ) (n : ℕ) → ((i : ℕ) → i < n → f i ≡ g i) → least_of f n ≡ least_of g n
least_same f g zero e = refl
least_same f g (suc n) e =
    let rest = least_same f g n (λ i lt. e i (omega arith)) in
    let one = e n (omega arith) in
    λ t. min (rest t) (one t)

pub least_never : (f : ℕ → ℕ) (n : ℕ) → least_of f n ≤ never_in_memory
least_never f zero = omega arith
least_never f (suc n) = let rest = least_never f n in omega arith

pub least_below : (f : ℕ → ℕ) (n i : ℕ) → i < n → least_of f n ≤ f i
least_below f zero i lt = elim lt [ ]
least_below f (suc n) i lt =
    elim (cases_lt i n) [
      | inl h ↦ let rest = least_below f n i h in omega (arith, rest)
      | inr h ↦
          let e : n ≡ i = omega arith in let one : least_of f (suc n) ≤ f n = omega arith in
          subst (λ i. least_of f (suc n) ≤ f i) e one
    ]

after_least : (forward : ℕ) (fresh held : ℕ → ℕ) (r low n : ℕ) →
    least_after forward fresh held r low n ≡ least_of (λ i. (low + i + 1) * forward + fresh (r - (low + i + 1)) + held (low + i)) n
after_least forward fresh held r low zero = refl
after_least forward fresh held r low (suc n) =
    ap (λ x. min x ((low + n + 1) * forward + fresh (r - (low + n + 1)) + held (low + n))) (after_least forward fresh held r low n)

-- the splits of the row behind q others, by the columns of the filled rows
pub started : (rows : List Row) (forward q m : ℕ) (fresh held : List ℕ) → IsColumn (2 ^ 61) (length rows) (λ i. fresh_in rows (length rows - (i + 1)) m) fresh →
    IsColumn (2 ^ 63) (length rows) (λ i. (i + 1) * forward + held_in rows i m) held →
    least_of (λ i. get_or fresh i 0 + get_or held (q + i) 0) (length held - q) ≡ partial_in rows forward (length rows) (length rows + q) m
started rows forward q m fresh held f h =
    let n = length rows in
    let F : ℕ → ℕ = λ q. fresh_in rows q m in
    let H : ℕ → ℕ = λ q. held_in rows q m in
    let first : q ≡ n + q - n = omega arith in
    let count : length held - q ≡ n - q = ap (λ k. k - q) h.long in
    let one : (i : ℕ) → i < n - q → get_or fresh i 0 + get_or held (q + i) 0 ≡ (q + i + 1) * forward + F (n + q - (q + i + 1)) + H (q + i) = λ i lt.
    let left = f.value i (omega arith) in
    let right = h.value (q + i) (omega arith) in
    let same : F (n - (i + 1)) ≡ F (n + q - (q + i + 1)) = ap F (omega arith) in
    omega arith in
    ap (λ k. least_of (λ i. get_or fresh i 0 + get_or held (q + i) 0) k) count
    ∙ least_same (λ i. get_or fresh i 0 + get_or held (q + i) 0) (λ i. (q + i + 1) * forward + F (n + q - (q + i + 1)) + H (q + i)) (n - q) one
    ∙ sym (after_least forward F H (n + q) q (n - q))
    ∙ ap (λ k. least_after forward F H (n + q) k (n - k)) first
