-- What the reader of numbers reads is what is spelled.
use Rattle.std.proofs.Common.{◌≡◌, ◌≢◌, ◌≤◌, ◌<◌, ◌+◌, ◌*◌, ◌^◌, ℕ, suc, Bool, true, false, List, [], ◌∷◌, ◌++◌, length, take, drop, get_or, Option, Some, None, is_some, option_map, nat_le, arith, refl, sym, ap, subst, ◌∙◌, inl, inr}
use Rattle.std.specs.Prelude.{unwrap_or, ◌==◌, ◌&&◌, cond}
use Rattle.std.specs.List.{All, AllPass}
use Rattle.std.proofs.Math.Nat.{pow-le-pow_right, pow-suc}
use Rattle.std.proofs.Math.ListN.{drop_of_length-le}
use Rattle.std.proofs.Math.Seq.{drop-cons}
use Rattle.std.proofs.lemmas.Bool.{and_parts, cases_eq, le-leb, leb-true, eq-eqb, eqb-false, ne_eqb}
use Rattle.std.proofs.lemmas.List.Elements.{All-cons, All-head, All-tail, All-nil}
use Rattle.std.proofs.lemmas.List.{take-append-drop}
use Rattle.std.proofs.lemmas.Option.{none-some, same_Some, option_and_then_some, some_pair_parts}
use Rattle.hex.specs.Hex.{hex_digit_value, is_hex_digit}
use Rattle.gdb_wire.specs.Numbers.{hex_value, IsNumber, AreNumbers}
use Rattle.gdb_wire.specs.RequestParser.{number_behind, number_of, fields_of, numbers_of, ◌>>=◌}

-- ---- digits

pub digit_small : (c d : ℕ) → hex_digit_value c ≡ Some d → d < 16
digit_small c d e = grind arith

-- a comma is no digit
not_comma : (c : ℕ) → is_hex_digit c ≡ true → c ≢ 44
not_comma c is e = let bad : false ≡ true = subst (λ x. is_hex_digit x ≡ true) e is in cc

-- ---- the loop over digits

pub next_below : (n d i : ℕ) → n < 16 ^ i → d < 16 → n * 16 + d < 16 ^ (i + 1)
next_below n d i small below =
    let more : 16 ^ (i + 1) ≡ 16 ^ i * 16 = ap (λ k. 16 ^ k) (omega arith) ∙ pow-suc 16 i in
    omega (arith, more)

pub next_fits : (n d i : ℕ) → n < 16 ^ i → i + 1 ≤ 8 → d < 16 → n * 16 + d < 4294967296
next_fits n d i small few below =
    let next = next_below n d i small below in
    let most : 16 ^ (i + 1) ≤ 16 ^ 8 = pow-le-pow_right (omega arith) few in
    omega (arith, next, most)

pub number_step : (n : ℕ) (digits : List ℕ) (i : ℕ) → i < length digits →
    number_behind n (drop i digits) ≡ (hex_digit_value (get_or digits i 0) >>= λ d. number_behind (n * 16 + d) (drop (i + 1) digits))
unfolding number_behind
number_step n digits i within =
    let m : suc i ≡ i + 1 = omega arith in
    ap (number_behind n) (drop-cons digits i 0 within ∙ ap (λ k. get_or digits i 0 ∷ drop k digits) m)

-- ---- a number

with_digit : (n d : ℕ) (cs : List ℕ) →
    Some ((n * 16 + d) * 16 ^ length cs + hex_value cs) ≡ Some (n * 16 ^ suc (length cs) + (d * 16 ^ length cs + hex_value cs))
with_digit n d cs =
    let more : 16 ^ suc (length cs) ≡ 16 ^ length cs * 16 = pow-suc 16 (length cs) in
    rw more (ap Some (omega arith))

value_behind : (n : ℕ) (digits : List ℕ) → AllPass is_hex_digit digits → number_behind n digits ≡ Some (n * 16 ^ length digits + hex_value digits)
unfolding number_behind
value_behind n [] all = ap Some (omega arith)
value_behind n (c ∷ cs) all =
    let P : Option ℕ → Type 0 = λ o. is_some o ≡ true →
    (o >>= λ d. number_behind (n * 16 + d) cs) ≡ Some (n * 16 ^ suc (length cs) + (unwrap_or o 0 * 16 ^ length cs + hex_value cs)) in
    let go : (o : Option ℕ) → P o = λ o. elim o as P [
      | Some d ↦ λ s. value_behind (n * 16 + d) cs (All-tail (λ x. is_hex_digit x ≡ true) c cs all) ∙ with_digit n d cs
      | None ↦ λ s. absurd cc
    ] in
    go (hex_digit_value c) (All-head (λ x. is_hex_digit x ≡ true) c cs all)

digits_behind : (n m : ℕ) (digits : List ℕ) → number_behind n digits ≡ Some m → AllPass is_hex_digit digits
unfolding number_behind
digits_behind n m [] e = All-nil (λ x. is_hex_digit x ≡ true)
digits_behind n m (c ∷ cs) e =
    let P : Option ℕ → Type 0 = λ o. hex_digit_value c ≡ o → (o >>= λ d. number_behind (n * 16 + d) cs) ≡ Some m → AllPass is_hex_digit (c ∷ cs) in
    let go : (o : Option ℕ) → P o = λ o. elim o as P [
      | Some d ↦ λ v s. All-cons (λ x. is_hex_digit x ≡ true) c cs (ap is_some v) (digits_behind (n * 16 + d) m cs s)
      | None ↦ λ v s. absurd (none-some m s)
    ] in
    go (hex_digit_value c) refl e

-- a test that chose something went so
pub taken : {A : Type 0} (b : Bool) (o : Option A) (y : A) → cond b o None ≡ Some y → (b ≡ true) × (o ≡ Some y)
taken true o y e = (refl, e)
taken false o y e = absurd (none-some y e)

-- a text of 1 to 8 bytes is read
pub number_short : (digits : List ℕ) → (length digits == 0) ≡ false → length digits ≤ 8 → number_of digits ≡ number_behind 0 digits
unfolding number_of
number_short digits none few =
    let some : 1 ≤ length digits = omega (arith, eqb-false (length digits) 0 none) in
    let a = le-leb 1 (length digits) some in
    let b = le-leb (length digits) 8 few in
    rw (a, b) refl

-- where no digit is left
pub number_end : (n : ℕ) (digits : List ℕ) (i : ℕ) → length digits ≤ i → number_behind n (drop i digits) ≡ Some n
unfolding number_behind
number_end n digits i past = ap (number_behind n) (drop_of_length-le digits past)

pub number_is : (digits : List ℕ) (n : ℕ) → number_of digits ≡ Some n → IsNumber digits n
unfolding number_of
number_is digits n e =
    let read = taken (nat_le 1 (length digits) && nat_le (length digits) 8) (number_behind 0 digits) n e in
    let size = and_parts (nat_le 1 (length digits)) (nat_le (length digits) 8) read.0 in
    let all = digits_behind 0 n digits read.1 in
    let value : n ≡ 0 * 16 ^ length digits + hex_value digits = same_Some n _ (sym read.1 ∙ value_behind 0 digits all) in
    record {
      some = leb-true 1 (length digits) size.0;
      few = leb-true (length digits) 8 size.1;
      hexadecimal = all;
      value = omega (arith, value);
    }

pub number_again : (digits : List ℕ) (n : ℕ) → IsNumber digits n → number_of digits ≡ Some n
unfolding number_of
number_again digits n is =
    let some = le-leb 1 (length digits) is.some in
    let few = le-leb (length digits) 8 is.few in
    let value : 0 * 16 ^ length digits + hex_value digits ≡ n = omega (arith, is.value) in
    rw (some, few) (value_behind 0 digits is.hexadecimal ∙ ap Some value)

-- ---- two numbers

pub fields_none : (text : List ℕ) → All (λ b. b ≢ 44) text → fields_of text ≡ None
unfolding fields_of
fields_none [] all = refl
fields_none (c ∷ cs) all =
    let miss = ne_eqb c 44 (All-head (λ b. b ≢ 44) c cs all) in
    rw (miss, fields_none cs (All-tail (λ b. b ≢ 44) c cs all)) refl

pub fields_at : (first second : List ℕ) → All (λ b. b ≢ 44) first → fields_of (first ++ 44 ∷ second) ≡ Some (first, second)
unfolding fields_of
fields_at [] second all = refl
fields_at (c ∷ first) second all =
    let miss = ne_eqb c 44 (All-head (λ b. b ≢ 44) c first all) in
    rw (miss, fields_at first second (All-tail (λ b. b ≢ 44) c first all)) refl

abbrev longer : ℕ → List ℕ × List ℕ → List ℕ × List ℕ
longer c fields = (c ∷ fields.0, fields.1)

pub fields_are : (text first second : List ℕ) → fields_of text ≡ Some (first, second) → text ≡ first ++ 44 ∷ second
unfolding fields_of
fields_are [] first second e = absurd (none-some (first, second) e)
fields_are (c ∷ cs) first second e =
    let P : Option (List ℕ × List ℕ) → Type 0 = λ o. fields_of cs ≡ o → option_map (longer c) o ≡ Some (first, second) → c ∷ cs ≡ first ++ 44 ∷ second in
    let go : (o : Option (List ℕ × List ℕ)) → P o = λ o. elim o as P [
      | None ↦ λ is s. absurd (none-some (first, second) s)
      | Some f ↦ λ is s.
          let parts = some_pair_parts (c ∷ f.0) first f.1 second s in
          ap (λ l. c ∷ l) (fields_are cs f.0 f.1 is) ∙ (ap (λ l. l ++ 44 ∷ f.1) parts.0 ∙ ap (λ l. first ++ 44 ∷ l) parts.1)
    ] in
    elim (cases_eq c 44) [
      | inl hit ↦
          let parts = some_pair_parts [] first cs second (rw (eq-eqb c 44 hit) at e) in
          ap (λ x. x ∷ cs) hit ∙ (ap (λ l. l ++ 44 ∷ cs) parts.0 ∙ ap (λ l. first ++ 44 ∷ l) parts.1)
      | inr miss ↦ go (fields_of cs) refl (rw (ne_eqb c 44 miss) at e)
    ]

-- the numbers on both sides of the first comma
pub numbers_at : (text : List ℕ) (k : ℕ) → All (λ b. b ≢ 44) (take k text) → k < length text → get_or text k 0 ≡ 44 →
    numbers_of text ≡ (number_of (take k text) >>= λ a. number_of (drop (k + 1) text) >>= λ b. Some (a, b))
unfolding numbers_of
numbers_at text k before within comma =
    let m : suc k ≡ k + 1 = omega arith in
    let back : drop k text ≡ 44 ∷ drop (k + 1) text = drop-cons text k 0 within ∙ (ap (λ x. x ∷ drop (suc k) text) comma ∙ ap (λ i. 44 ∷ drop i text) m) in
    let split : text ≡ take k text ++ 44 ∷ drop (k + 1) text = sym (take-append-drop k text) ∙ ap (λ l. take k text ++ l) back in
    let fields : fields_of text ≡ Some (take k text, drop (k + 1) text) = ap fields_of split ∙ fields_at (take k text) (drop (k + 1) text) before in
    rw fields refl

pub numbers_none : (text : List ℕ) → All (λ b. b ≢ 44) text → numbers_of text ≡ None
unfolding numbers_of
numbers_none text none = rw (fields_none text none) refl

pub numbers_are : (text : List ℕ) (a b : ℕ) → numbers_of text ≡ Some (a, b) → AreNumbers text a b
unfolding numbers_of
numbers_are text a b e =
    option_and_then_some (λ (f : List ℕ × List ℕ). number_of f.0 >>= λ x. number_of f.1 >>= λ y. Some (x, y)) (fields_of text) (a, b) e (λ f fields e1.
    option_and_then_some (λ x. number_of f.1 >>= λ y. Some (x, y)) (number_of f.0) (a, b) e1 (λ x first e2.
    option_and_then_some (λ y. Some (x, y)) (number_of f.1) (a, b) e2 (λ y second e3.
    let parts = some_pair_parts x a y b e3 in
    record {
      first = f.0;
      second = f.1;
      spelled = fields_are text f.0 f.1 fields;
      first_is = number_is f.0 a (first ∙ ap Some parts.0);
      second_is = number_is f.1 b (second ∙ ap Some parts.1);
    })))

pub numbers_again : (text : List ℕ) (a b : ℕ) → AreNumbers text a b → numbers_of text ≡ Some (a, b)
unfolding numbers_of
numbers_again text a b are =
    let none : All (λ b. b ≢ 44) are.first = λ k d within. not_comma (get_or are.first k d) (are.first_is.hexadecimal k d within) in
    let fields : fields_of text ≡ Some (are.first, are.second) = ap fields_of are.spelled ∙ fields_at are.first are.second none in
    let first = number_again are.first a are.first_is in
    let second = number_again are.second b are.second_is in
    rw (fields, first, second) refl
