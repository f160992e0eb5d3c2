-- What a place of a form takes is spelled so, and what may be spelled is taken.
use Rattle.std.proofs.Common.{◌≡◌, ℕ, ◌^◌, ◌<◌, Bool, true, false, cond, not, List, length, Option, Some, None, refl, sym, ap, subst, ◌∙◌, arith}
use Rattle.std.specs.Prelude.{decimal, codes, ◌==◌}
use Rattle.std.specs.Str.{bytes_eq}
use Rattle.std.proofs.lemmas.Bool.{false≢true}
use Rattle.std.proofs.lemmas.Option.{same_Some}
use Rattle.std.proofs.lemmas.Slice.Eq.{bytes_eq-Decides}
use Rattle.requests.specs.ChoiceParser.{number_of}
use Rattle.requests.specs.Operands.{Schedule, by_name, made, IsName, IsScheduleName, CanBeGiven, MayBeNamed, word_or_dash, schedule_word}
use Rattle.requests.specs.Forms.{Place, fixed, named, named_or_none, schedule_named, scheduled, numbered, addressed, digested, Value, word_at, Allows, is_name, is_schedule_name, name_or_none, schedule_of, taken}
use Rattle.requests.proofs.Addresses.{address_again, address_read, digest_again, digest_read}
use Rattle.line_texts.proofs.Decimal.{decimal_is, number_is}
use Rattle.requests.proofs.Steps.{is_not, and_parts, and_both, empty, other_text, same_text}
use Rattle.line_texts.proofs.Steps.{passed_then}

-- ---- numbers

pub number_of_again : (n : ℕ) → n < 2 ^ 64 → number_of (decimal n) ≡ Some n
number_of_again n small = decimal_is 18446744073709551615 n (omega arith) (omega arith)

pub number_of_read : (word : List ℕ) (n : ℕ) → number_of word ≡ Some n → (word ≡ decimal n) × (n < 2 ^ 64)
number_of_read word n e =
    let is = number_is 18446744073709551615 word n (omega arith) e in
    (is.1, omega (arith, is.0))

-- ---- names

pub name_is : (word : List ℕ) → IsName word → is_name word ≡ true
name_is word h = ap not (is_not (length word == 0) (λ e. h (empty word e)))

pub name_was : (word : List ℕ) → is_name word ≡ true → IsName word
name_was word e is = false≢true (sym (ap is_name is) ∙ e)

pub schedule_name_is : (word : List ℕ) → IsScheduleName word → is_schedule_name word ≡ true
schedule_name_is word h = and_both _ _ (name_is word h.0) (ap not (other_text word (codes "@revolve") h.1))

pub schedule_name_was : (word : List ℕ) → is_schedule_name word ≡ true → IsScheduleName word
schedule_name_was word e =
    let parts = and_parts (is_name word) _ e in
    (name_was word parts.0, λ is. false≢true (sym (ap not (same_text word (codes "@revolve") is)) ∙ parts.1))

-- the name that may be left out, and its word
journal_again : (o : Option (List ℕ)) → MayBeNamed o → (is_name (word_or_dash o) ≡ true) × (name_or_none (word_or_dash o) ≡ o)
journal_again None h = (refl, refl)
journal_again (Some name) h = (name_is name h.0, ap (λ b. cond b None (Some name)) (other_text name (codes "-") h.1))

journal_read : (word : List ℕ) → is_name word ≡ true → (word ≡ word_or_dash (name_or_none word)) × MayBeNamed (name_or_none word)
journal_read word e = by_text (bytes_eq word (codes "-")) refl
  where
    by_text : (b : Bool) → bytes_eq word (codes "-") ≡ b → (word ≡ word_or_dash (name_or_none word)) × MayBeNamed (name_or_none word)
    by_text true f =
        let P : Option (List ℕ) → Type 0 = λ o. (word ≡ word_or_dash o) × MayBeNamed o in
        subst P (sym (ap (λ b. cond b None (Some word)) f)) ((bytes_eq-Decides word (codes "-")).0 f, tt)
    by_text false f =
        let P : Option (List ℕ) → Type 0 = λ o. (word ≡ word_or_dash o) × MayBeNamed o in
        subst P (sym (ap (λ b. cond b None (Some word)) f)) (refl, (name_was word e, λ is. false≢true (sym f ∙ same_text word (codes "-") is)))

-- a schedule that may be made, and its word
schedule_again : (s : Schedule) → CanBeGiven s → (is_name (schedule_word s) ≡ true) × (schedule_of (schedule_word s) ≡ s)
schedule_again made h = (refl, refl)
schedule_again (by_name name) h = (name_is name h.0, ap (λ b. cond b made (by_name name)) (other_text name (codes "@revolve") h.1))

schedule_read : (word : List ℕ) → is_name word ≡ true → (word ≡ schedule_word (schedule_of word)) × CanBeGiven (schedule_of word)
schedule_read word e = by_text (bytes_eq word (codes "@revolve")) refl
  where
    by_text : (b : Bool) → bytes_eq word (codes "@revolve") ≡ b → (word ≡ schedule_word (schedule_of word)) × CanBeGiven (schedule_of word)
    by_text true f =
        let P : Schedule → Type 0 = λ s. (word ≡ schedule_word s) × CanBeGiven s in
        subst P (sym (ap (λ b. cond b made (by_name word)) f)) ((bytes_eq-Decides word (codes "@revolve")).0 f, tt)
    by_text false f =
        let P : Schedule → Type 0 = λ s. (word ≡ schedule_word s) × CanBeGiven s in
        subst P (sym (ap (λ b. cond b made (by_name word)) f)) (refl, (name_was word e, λ is. false≢true (sym f ∙ same_text word (codes "@revolve") is)))

-- ---- places

pub taken_again : (p : Place) (v : Value p) → Allows p v → taken p (word_at p v) ≡ Some v
taken_again (fixed text) v h = ap (λ b. cond b (Some tt) None) (same_text text text refl)
taken_again named v h = ap (λ b. cond b (Some v) None) (name_is v h)
taken_again named_or_none v h =
    let again = journal_again v h in
    ap (λ b. cond b (Some (name_or_none (word_or_dash v))) None) again.0 ∙ ap (λ o. Some o) again.1
taken_again schedule_named v h = ap (λ b. cond b (Some v) None) (schedule_name_is v h)
taken_again scheduled v h =
    let again = schedule_again v h in
    ap (λ b. cond b (Some (schedule_of (schedule_word v))) None) again.0 ∙ ap (λ s. Some s) again.1
taken_again numbered v h = number_of_again v h
taken_again addressed v h = address_again v h
taken_again digested v h = digest_again v h

pub taken_read : (p : Place) (word : List ℕ) (v : Value p) → taken p word ≡ Some v → (word ≡ word_at p v) × Allows p v
taken_read (fixed text) word v e = let is = passed_then (bytes_eq word text) (Some tt) v e in ((bytes_eq-Decides word text).0 is.0, tt)
taken_read named word v e =
    let is = passed_then (is_name word) (Some word) v e in
    let same = same_Some word v is.1 in
    (same, subst IsName same (name_was word is.0))
taken_read named_or_none word v e =
    let is = passed_then (is_name word) (Some (name_or_none word)) v e in
    let read = journal_read word is.0 in
    let same = same_Some (name_or_none word) v is.1 in
    (read.0 ∙ ap word_or_dash same, subst MayBeNamed same read.1)
taken_read schedule_named word v e =
    let is = passed_then (is_schedule_name word) (Some word) v e in
    let same = same_Some word v is.1 in
    (same, subst IsScheduleName same (schedule_name_was word is.0))
taken_read scheduled word v e =
    let is = passed_then (is_name word) (Some (schedule_of word)) v e in
    let read = schedule_read word is.0 in
    let same = same_Some (schedule_of word) v is.1 in
    (read.0 ∙ ap schedule_word same, subst CanBeGiven same read.1)
taken_read numbered word v e = number_of_read word v e
taken_read addressed word v e = address_read word v e
taken_read digested word v e = digest_read word v e
