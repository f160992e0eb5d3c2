-- An option has one number at most, which is within its bounds or not.
use Rattle.std.proofs.Common.{◌≡◌, ◌∙◌, ◌≤◌, ◌<◌, ◌^◌, ℕ, Option, None, Some, IfSome, IfNone, Result, Ok, Err, sym, subst, arith}
use Rattle.std.specs.Borrow.{Bor}
use Rattle.std.specs.Option.{option_map}
use Rattle.std.specs.Result.{result_ok}
use Rattle.std.specs.Str.Parse.{ParsesUnsigned, digits_value, without_leading_plus}
use Rattle.clap.specs.Words.{Text}
use Rattle.reversal_gdb.specs.OptionValues.{Gives, IsNumberOf}

one_number : (default : ℕ) (text : Option Text) (a b : ℕ) → Gives default text a → Gives default text b → a ≡ b
one_number default None a b h g = h ∙ sym g
one_number default (Some t) a b h g = sym h.1 ∙ g.1

-- the number isn't within its bounds
pub none_outside : (text : Option Text) (default least greatest n : ℕ) → Gives default text n → (least ≤ n → n ≤ greatest → ⊥) → (m : ℕ) → IsNumberOf text default least greatest m → ⊥
none_outside text default least greatest n gives out m is =
    let same = one_number default text n m gives is.gives in
    let low = is.least in
    let high = is.greatest in
    out (omega (arith, same, low)) (omega (arith, same, high))

-- a text as it is parsed
pub parsed : {E : Type 0} (text : Option (Bor Text)) (t : Bor Text) (default : ℕ) (r : Result ℕ E) (o : Option ℕ) → text ≡ Some t → ParsesUnsigned 32 10 t.now r → o ≡ result_ok r → IfSome o (Gives default (option_map (λ t. t.now) text))
parsed {E = E} text t default r o is gives got =
    let P : Option (Bor Text) → Type 0 = λ x. IfSome o (Gives default (option_map (λ t. t.now) x)) in
    let Q : Option ℕ → Type 0 = λ x. IfSome x (Gives default (Some t.now)) in
    subst P (sym is) (subst Q (sym got) (go r gives))
  where
    go : (r : Result ℕ E) → ParsesUnsigned 32 10 t.now r → IfSome (result_ok r) (Gives default (Some t.now))
    go (Ok n) h = (h.0.0, sym h.1)
    go (Err e) h = tt

pub not_parsed : {E : Type 0} (text : Option (Bor Text)) (t : Bor Text) (default : ℕ) (r : Result ℕ E) (o : Option ℕ) → text ≡ Some t → ParsesUnsigned 32 10 t.now r → o ≡ result_ok r →
    IfNone o ((n : ℕ) → n < 2 ^ 32 → Gives default (option_map (λ t. t.now) text) n → ⊥)
not_parsed {E = E} text t default r o is gives got =
    let P : Option (Bor Text) → Type 0 = λ x. IfNone o ((n : ℕ) → n < 2 ^ 32 → Gives default (option_map (λ t. t.now) x) n → ⊥) in
    let Q : Option ℕ → Type 0 = λ x. IfNone x ((n : ℕ) → n < 2 ^ 32 → Gives default (Some t.now) n → ⊥) in
    subst P (sym is) (subst Q (sym got) (go r gives))
  where
    go : (r : Result ℕ E) → ParsesUnsigned 32 10 t.now r → IfNone (result_ok r) ((n : ℕ) → n < 2 ^ 32 → Gives default (Some t.now) n → ⊥)
    go (Ok n) h = tt
    go (Err e) h = λ n few is_n. let value : digits_value 10 (without_leading_plus t.now) ≡ n = is_n.1 in h (is_n.0, omega (arith, value, few))
