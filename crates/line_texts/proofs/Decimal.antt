-- A number that is read is spelled so, and a number that is spelled so is read.
use Rattle.std.proofs.Common.{◌≡◌, ℕ, ◌+◌, ◌-◌, ◌*◌, ◌/◌, ◌%◌, ◌^◌, ◌<◌, ◌≤◌, ◌≢◌, Bool, true, false, cond, eqb, ltb, List, [], ◌∷◌, ◌++◌, length, Option, Some, None, refl, sym, ap, subst, ◌∙◌, append_assoc, arith, inl, inr, Bor}
use Rattle.std.specs.Prelude.{decimal, IfSome, IfNone, MatchOption}
use Rattle.std.specs.Char.{is_ascii_digit}
use Rattle.std.specs.List.{AllByRecursion}
use Rattle.std.proofs.lemmas.Bool.{cases_eq, ltb-false, le-ltb, eqb-true, eqb-false, ne_eqb}
use Rattle.std.proofs.lemmas.List.{append-nil}
use Rattle.std.proofs.lemmas.Option.{some_pair_parts, none-some, same_Some}
use Rattle.std.proofs.lemmas.Fmt.{decimal_digit, decimal_step, decimal_by_steps, length-decimal-le}
use Rattle.std.proofs.lemmas.Bool.Decides.{nat_tests}
use Rattle.line_texts.specs.Numbers.{starts_with_digit, IsNumberAt}
use Rattle.line_texts.specs.Parsers.{GivesSome, digits_at, number_at, whole, number_of}
use Rattle.line_texts.proofs.Steps.{chosen, passed, passed_then}

is_digit-range : (c : ℕ) → is_ascii_digit c ≡ true → (48 ≤ c) × (c < 58)
is_digit-range c e = grind (arith, nat_tests)

range-is_digit : (c : ℕ) → 48 ≤ c → c < 58 → is_ascii_digit c ≡ true
range-is_digit c low high = grind (arith, nat_tests)

-- one more digit
decimal_more : (n d : ℕ) → 0 < n → d < 10 → n * 10 + d < 2 ^ 64 → decimal (n * 10 + d) ≡ decimal n ++ (48 + d) ∷ []
decimal_more n d some low small =
    let front : (n * 10 + d) / 10 ≡ n = omega arith in
    let last : (n * 10 + d) % 10 ≡ d = omega arith in
    decimal_step (n * 10 + d) (omega arith) small ∙ rw (front, last) refl

digits_taken : (limit n : ℕ) (bytes : List ℕ) (v : ℕ) (rest : List ℕ) → limit < 2 ^ 64 → 0 < n → n ≤ limit → digits_at limit n bytes ≡ Some (v, rest) → IsNumberAt limit (decimal n ++ bytes) v rest
unfolding digits_at
digits_taken limit n [] v rest wide some small e =
    let parts = some_pair_parts n v [] rest e in
    rw (← parts.0, ← parts.1) (record { small = small; text = refl; whole = refl })
digits_taken limit n (c ∷ cs) v rest wide some small e =
    let next : ℕ = n * 10 + (c - 48) in
    elim (chosen (is_ascii_digit c) (cond (ltb limit next) None (digits_at limit next cs)) (Some (n, c ∷ cs)) (Some (v, rest)) e) [
      | inl h ↦
          let range = is_digit-range c h.0 in
          let below = passed (ltb limit next) (digits_at limit next cs) (v, rest) h.1 in
          let fits : next ≤ limit = ltb-false _ _ below.0 in
          let digit : 48 + (c - 48) ≡ c = omega (arith, range.0) in
          let front : decimal next ≡ decimal n ++ c ∷ [] = subst (λ (x : ℕ). decimal next ≡ decimal n ++ x ∷ []) digit (decimal_more n (c - 48) some (omega (arith, range.1)) (omega arith)) in
          let text : decimal next ++ cs ≡ decimal n ++ c ∷ cs = rw front (append_assoc (decimal n) (c ∷ []) cs) in
          subst (λ (bs : List ℕ). IsNumberAt limit bs v rest) text (digits_taken limit next cs v rest wide (omega arith) fits below.1)
      | inr h ↦
          let parts = some_pair_parts n v (c ∷ cs) rest h.1 in
          rw (← parts.0, ← parts.1) (record { small = small; text = refl; whole = h.0 })
    ]

pub number_taken : (limit : ℕ) (bytes : List ℕ) (v : ℕ) (rest : List ℕ) → limit < 2 ^ 64 → number_at limit bytes ≡ Some (v, rest) → IsNumberAt limit bytes v rest
unfolding number_at digits_at
number_taken limit [] v rest wide e = absurd cc
number_taken limit (c ∷ cs) v rest wide e =
    elim (chosen (eqb c 48) (cond (starts_with_digit cs) None (Some (0, cs))) (cond (is_ascii_digit c) (digits_at limit 0 (c ∷ cs)) None) (Some (v, rest)) e) [
      | inl zero ↦
          let is_zero : c ≡ 48 = eqb-true _ _ zero.0 in
          let whole = passed (starts_with_digit cs) (Some (0, cs)) (v, rest) zero.1 in
          let parts = some_pair_parts 0 v cs rest whole.1 in
          rw (is_zero, ← parts.0, ← parts.1) (record { small = omega arith; text = sym (ap (λ (ds : List ℕ). ds ++ cs) (decimal_digit 0 (omega arith))); whole = whole.0 })
      | inr other ↦
          let digit = passed_then (is_ascii_digit c) (digits_at limit 0 (c ∷ cs)) (v, rest) other.1 in
          let range = is_digit-range c digit.0 in
          let apart : c ≢ 48 = eqb-false _ _ other.0 in
          let first : ℕ = 0 * 10 + (c - 48) in
          let one = elim (chosen (is_ascii_digit c) (cond (ltb limit first) None (digits_at limit first cs)) (Some (0, c ∷ cs)) (Some (v, rest)) digit.1) as (λ _. (ltb limit first ≡ false) × (digits_at limit first cs ≡ Some (v, rest))) [
            | inl h ↦ passed (ltb limit first) (digits_at limit first cs) (v, rest) h.1
            | inr h ↦ absurd cc
          ] in
          let spelled : decimal first ≡ c ∷ [] = decimal_digit first (omega (arith, range.1)) ∙ ap (λ (d : ℕ). d ∷ []) (omega (arith, range.0)) in
          subst (λ (ds : List ℕ). IsNumberAt limit (ds ++ cs) v rest) spelled (digits_taken limit first cs v rest wide (omega (arith, range.0)) (ltb-false _ _ one.0) one.1)
    ]

digit_again : (limit n d next : ℕ) (rest : List ℕ) → d < 10 → n * 10 + d ≡ next → next ≤ limit → digits_at limit n ((48 + d) ∷ rest) ≡ digits_at limit next rest
unfolding digits_at
digit_again limit n d next rest low same fits =
    let value : n * 10 + (48 + d - 48) ≡ next = omega arith in
    rw (range-is_digit (48 + d) (omega arith) (omega arith), value, le-ltb _ _ fits) refl

-- what the digits of n leave to read
digits_again : (limit n : ℕ) (rest : List ℕ) → n < 2 ^ 64 → n ≤ limit → digits_at limit 0 (decimal n ++ rest) ≡ digits_at limit n rest
digits_again limit n rest wide small =
    decimal_by_steps (λ n ds. n ≤ limit → (rest : List ℕ) → digits_at limit 0 (ds ++ rest) ≡ digits_at limit n rest)
    (λ n low fits rest. digit_again limit 0 n n rest low (omega arith) fits)
    (λ n ds high front fits rest.
    rw append_assoc (front (omega arith) ((48 + n % 10) ∷ rest) ∙ digit_again limit (n / 10) (n % 10) n rest (omega arith) (omega arith) fits))
    n wide small rest

-- how the digits of a number that isn't 0 begin
pub record BeginsWell (ds : List ℕ) : Type 0 where
  pub first : ℕ
  pub others : List ℕ
  pub parts : ds ≡ first ∷ others
  pub low : 48 < first
  pub high : first < 58

pub begins_well : (n : ℕ) → 0 < n → n < 2 ^ 64 → BeginsWell (decimal n)
begins_well n some wide =
    decimal_by_steps (λ n ds. 0 < n → BeginsWell ds)
    (λ n low some. record { first = 48 + n; others = []; parts = refl; low = omega arith; high = omega arith })
    (λ n ds high front some.
    let f = front (omega arith) in
    record { first = f.first; others = f.others ++ (48 + n % 10) ∷ []; parts = ap (λ (bs : List ℕ). bs ++ (48 + n % 10) ∷ []) f.parts; low = f.low; high = f.high })
    n wide some

digits_end : (limit n : ℕ) (rest : List ℕ) → starts_with_digit rest ≡ false → digits_at limit n rest ≡ Some (n, rest)
unfolding digits_at
digits_end limit n [] whole = refl
digits_end limit n (c ∷ cs) whole = rw whole refl

pub number_again : (limit n : ℕ) (rest : List ℕ) → limit < 2 ^ 64 → n ≤ limit → starts_with_digit rest ≡ false → number_at limit (decimal n ++ rest) ≡ Some (n, rest)
unfolding number_at
number_again limit n rest wide small whole =
    elim (cases_eq n 0) [
      | inl zero ↦ rw (zero, decimal_digit 0 (omega arith), whole) refl
      | inr some ↦
          let b = begins_well n (omega arith) (omega arith) in
          let apart : eqb b.first 48 ≡ false = ne_eqb _ _ (omega (arith, b.low)) in
          let digit : is_ascii_digit b.first ≡ true = range-is_digit b.first (omega (arith, b.low)) b.high in
          let all : digits_at limit 0 (b.first ∷ (b.others ++ rest)) ≡ Some (n, rest) = rw b.parts at (digits_again limit n rest (omega arith) small) ∙ digits_end limit n rest whole in
          rw (b.parts, apart, digit) all
    ]

pub number_found : (limit : ℕ) (bytes : List ℕ) (r : Option (ℕ × Bor (List ℕ))) → limit < 2 ^ 64 → GivesSome (λ x. (x.0, x.1.now)) r (number_at limit bytes) → IfSome r (λ x. IsNumberAt limit bytes x.0 x.1.now)
number_found limit bytes None wide e = tt
number_found limit bytes (Some x) wide e = number_taken limit bytes x.0 x.1.now wide e

pub number_none : (limit : ℕ) (bytes : List ℕ) (r : Option (ℕ × Bor (List ℕ))) → limit < 2 ^ 64 → GivesSome (λ x. (x.0, x.1.now)) r (number_at limit bytes) → IfNone r ((n : ℕ) (rest : List ℕ) → IsNumberAt limit bytes n rest → ⊥)
number_none limit bytes None wide e = λ n rest h.
    let again = number_again limit n rest wide h.small h.whole in
    absurd (none-some (n, rest) (sym e ∙ ap (number_at limit) h.text ∙ again))
number_none limit bytes (Some x) wide e = tt

-- ---- whole texts

all_behind : (n : ℕ) (rest : List ℕ) → length rest ≡ 0 → decimal n ++ rest ≡ decimal n
all_behind n [] none = append-nil (decimal n)
all_behind n (b ∷ rest) none = absurd (omega arith)

whole_is : (found : Option (ℕ × List ℕ)) (n : ℕ) → whole found ≡ Some n → (rest : List ℕ) × (found ≡ Some (n, rest)) × (length rest ≡ 0)
whole_is None n e = absurd cc
whole_is (Some x) n e =
    let p = passed_then (eqb (length x.1) 0) (Some x.0) n e in
    (x.1, ap (λ (m : ℕ). Some (m, x.1)) (same_Some x.0 n p.1), eqb-true _ _ p.0)

-- a text that is a number is its decimal digits
pub number_is : (limit : ℕ) (text : List ℕ) (n : ℕ) → limit < 2 ^ 64 → number_of limit text ≡ Some n → (n ≤ limit) × (text ≡ decimal n)
unfolding number_of
number_is limit text n wide e =
    let w = whole_is (number_at limit text) n e in
    let is = number_taken limit text n w.0 wide w.1 in
    (is.small, is.text ∙ all_behind n w.0 w.2)

pub decimal_is : (limit n : ℕ) → limit < 2 ^ 64 → n ≤ limit → number_of limit (decimal n) ≡ Some n
unfolding number_of
decimal_is limit n wide small =
    let again : number_at limit (decimal n) ≡ Some (n, []) = ap (number_at limit) (sym (append-nil (decimal n))) ∙ number_again limit n [] wide small refl in
    rw again refl

pub no_number : (limit : ℕ) (text : List ℕ) → limit < 2 ^ 64 → number_of limit text ≡ None → (n : ℕ) → n ≤ limit → text ≡ decimal n → ⊥
no_number limit text wide none n small is = none-some n (sym none ∙ ap (number_of limit) is ∙ decimal_is limit n wide small)

pub numbered : (limit : ℕ) (text : List ℕ) (answer : Option ℕ) → limit < 2 ^ 64 → answer ≡ number_of limit text →
    MatchOption answer ((n : ℕ) → n ≤ limit → text ≡ decimal n → ⊥) (λ n. (n ≤ limit) × (text ≡ decimal n))
numbered limit text None wide is = no_number limit text wide (sym is)
numbered limit text (Some n) wide is = number_is limit text n wide (sym is)

-- ---- the bytes of a number

-- all are of a kind that digits are
pub digits_are : (in_run : ℕ → Bool) → ((b : ℕ) → 48 ≤ b → b < 58 → in_run b ≡ true) → (n : ℕ) → n < 2 ^ 64 → AllByRecursion (λ b. in_run b ≡ true) (decimal n)
digits_are in_run are n small =
    decimal_by_steps (λ n ds. AllByRecursion (λ b. in_run b ≡ true) ds)
    (λ n low. (are (48 + n) (omega arith) (omega arith), tt))
    (λ n ds high front. run_more ds (48 + n % 10) front (are (48 + n % 10) (omega arith) (omega arith)))
    n small
  where
    run_more : (ds : List ℕ) (b : ℕ) → AllByRecursion (λ b. in_run b ≡ true) ds → in_run b ≡ true → AllByRecursion (λ b. in_run b ≡ true) (ds ++ b ∷ [])
    run_more [] b all one = (one, tt)
    run_more (d ∷ ds) b all one = (all.0, run_more ds b all.1 one)

-- a number of the machine has at most twenty digits
pub decimal_is_short : (n : ℕ) → n < 2 ^ 64 → length (decimal n) ≤ 20
decimal_is_short n small = length-decimal-le 20 n (omega arith) (omega arith) small
