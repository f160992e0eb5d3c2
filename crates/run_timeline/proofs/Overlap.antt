-- Whether a range has one of so many addresses.
use Rattle.std.specs.Prelude.{nat_lt, position}
use Rattle.std.specs.Bool.{then_some}
use Rattle.std.specs.List.{position_or_len}
use Rattle.std.proofs.Common.{List, [], ◌∷◌, length, Option, None, Some, cond, ◌≡◌, ℕ, zero, suc, ◌+◌, ◌-◌, ◌%◌, ◌≤◌, ◌<◌, Bool, true, false, ◌||◌, refl, sym, ap, subst, ◌∙◌, ◌^◌, arith}
use Rattle.std.proofs.lemmas.Bool.{lt-ltb, le-ltb}
use Rattle.rv_pages.specs.Memory.{wrapped}
use Rattle.rv_machine.specs.StateChanges.{addresses}
use Rattle.run_timeline.specs.declared.ranges.Range.{Range}
use Rattle.run_timeline.specs.Ranges.{is_in, writes_in}

or_true : (b : Bool) → (b || true) ≡ true
or_true true = refl
or_true false = refl

none_of : (r : Range) (n at : ℕ) → ((k : ℕ) → k < n → is_in r (wrapped (at + k)) ≡ false) → writes_in (addresses at n) r ≡ false
none_of r zero at h = refl
none_of r (suc n) at h =
    let P : ℕ → Type 0 = λ a. is_in r (wrapped a) ≡ false in
    let here : at + 0 ≡ at = omega arith in
    let rest : writes_in (addresses (at + 1) n) r ≡ false = none_of r n (at + 1) (λ k l. let more : at + suc k ≡ at + 1 + k = omega arith in subst P more (h (suc k) (omega arith))) in
    ap (λ b. b || writes_in (addresses (at + 1) n) r) (subst P here (h 0 (omega arith))) ∙ rest

some_of : (r : Range) (n at k : ℕ) → k < n → is_in r (wrapped (at + k)) ≡ true → writes_in (addresses at n) r ≡ true
some_of r zero at k l h = absurd (omega arith)
some_of r (suc n) at zero l h =
    let P : ℕ → Type 0 = λ a. is_in r (wrapped a) ≡ true in
    let here : at + 0 ≡ at = omega arith in
    ap (λ b. b || writes_in (addresses (at + 1) n) r) (subst P here h)
some_of r (suc n) at (suc k) l h =
    let P : ℕ → Type 0 = λ a. is_in r (wrapped a) ≡ true in
    let more : at + suc k ≡ at + 1 + k = omega arith in
    ap (λ b. is_in r (wrapped at) || b) (some_of r n (at + 1) k (omega arith) (subst P more h)) ∙ or_true (is_in r (wrapped at))

-- a range without addresses has none of them
pub empty_has_none : (r : Range) (at n : ℕ) → r.length ≡ 0 → writes_in (addresses at n) r ≡ false
empty_has_none r at n h = none_of r n at (λ k l. le-ltb _ _ (omega arith))

-- the first of the addresses is in the range
pub first_in_range : (r : Range) (at n : ℕ) → at < 2 ^ 32 → 0 < n → (at + (4294967296 - r.start)) % 4294967296 < r.length → writes_in (addresses at n) r ≡ true
first_in_range r at n small some h =
    let here : wrapped (at + 0) ≡ at = omega arith in
    let P : ℕ → Type 0 = λ a. is_in r a ≡ true in
    some_of r n at 0 some (subst P (sym here) (lt-ltb _ _ h))

-- the first of the range is one of the addresses
pub start_among : (r : Range) (at n : ℕ) → at < 2 ^ 32 → r.start < 2 ^ 32 → 0 < r.length → (r.start + (4294967296 - at)) % 4294967296 < n → writes_in (addresses at n) r ≡ true
start_among r at n small start some h =
    let k : ℕ = (r.start + (4294967296 - at)) % 4294967296 in
    let here : wrapped (at + k) ≡ r.start = omega arith in
    let P : ℕ → Type 0 = λ a. is_in r a ≡ true in
    some_of r n at k h (subst P (sym here) (lt-ltb _ _ (omega arith)))

-- there is no other way
pub no_other_way : (r : Range) (at n : ℕ) → at < 2 ^ 32 → r.start < 2 ^ 32 → r.length ≤ (at + (4294967296 - r.start)) % 4294967296 → n ≤ (r.start + (4294967296 - at)) % 4294967296 → writes_in (addresses at n) r ≡ false
no_other_way r at n small start far behind = none_of r n at (λ k l. le-ltb _ _ (omega arith))

-- a range has none of no addresses
pub none_has_none : (r : Range) (at n : ℕ) → n ≡ 0 → writes_in (addresses at n) r ≡ false
none_has_none r at n h = none_of r n at (λ k l. absurd (omega arith))

-- a test that nothing passes
none_passes : {X : Type 0} (xs : List X) → position_or_len (λ _. false) xs ≡ length xs
none_passes [] = refl
none_passes (x ∷ xs) = let one : 1 + length xs ≡ suc (length xs) = omega arith in ap (λ (k : ℕ). 1 + k) (none_passes xs) ∙ one

no_position : {X : Type 0} (xs : List X) → position (λ _. false) xs ≡ None
no_position {X} xs =
    ap (λ (k : ℕ). cond (nat_lt k (length xs)) (Some k) None) (none_passes xs)
    ∙ ap (λ (b : Bool). cond b (Some (length xs)) None) (le-ltb (length xs) (length xs) (omega arith))

-- of which range a byte is written first, where so many bytes are written or none
pub written_first : (ranges : List Range) (ws : List ℕ) (at n : ℕ) (m : Bool) → ws ≡ cond m (addresses at n) [] →
    position (writes_in ws) ranges ≡ cond m (position (writes_in (addresses at n)) ranges) None
written_first ranges ws at n true e = ap (λ (xs : List ℕ). position (writes_in xs) ranges) e
written_first ranges ws at n false e = ap (λ (xs : List ℕ). position (writes_in xs) ranges) e ∙ no_position ranges

pub none_either : {X : Type 0} (m : Bool) (o : Option X) → o ≡ None → cond m o None ≡ None
none_either true o e = e
none_either false o e = refl

pub some_or_none : {X : Type 0} (m : Bool) (x : X) (o r : Option X) → o ≡ Some x → r ≡ cond m (Some x) None → r ≡ cond m o None
some_or_none true x o r e f = f ∙ sym e
some_or_none false x o r e f = f

pub then_some_is : {X : Type 0} (b : Bool) (x : X) → then_some b x ≡ cond b (Some x) None
then_some_is true x = refl
then_some_is false x = refl

-- of which range a byte is written first, where no bytes are written
pub nothing_first : (ranges : List Range) (ws : List ℕ) (at n : ℕ) (m : Bool) → ws ≡ cond m (addresses at n) [] → n ≡ 0 → position (writes_in ws) ranges ≡ None
nothing_first ranges ws at n m e none =
    let P : ℕ → Type 0 = λ k. position (writes_in (addresses at k)) ranges ≡ None in
    written_first ranges ws at n m e ∙ none_either m (position (writes_in (addresses at n)) ranges) (subst P (sym none) (no_position ranges))
