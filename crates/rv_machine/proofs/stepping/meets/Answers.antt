-- Which of so many addresses are among four: by differences modulo 2 ^ 32.
use Rattle.std.proofs.Common.{◌≡◌, ℕ, zero, suc, ◌+◌, ◌-◌, ◌%◌, ◌^◌, ◌≤◌, ◌<◌, length, get_or, refl, sym, ap, ◌∙◌, subst, arith}
use Rattle.std.specs.Prelude.{Any}
use Rattle.std.proofs.lemmas.Bool.{lt-ltb, ltb-true}
use Rattle.rv_pages.specs.Memory.{wrapped}
use Rattle.rv_pages.specs.declared.pages.TheConstants.{LAST_WORD}
use Rattle.rv_machine.specs.StateChanges.{addresses}
use Rattle.rv_machine.proofs.stepping.meets.Goals as goal

length-addresses : (at n : ℕ) → length (addresses at n) ≡ n
length-addresses at zero = refl
length-addresses at (suc n) = ap suc (length-addresses (at + 1) n)

get_or-addresses : (n at k d : ℕ) → k < n → get_or (addresses at n) k d ≡ wrapped (at + k)
get_or-addresses zero at k d l = absurd (omega arith)
get_or-addresses (suc n) at zero d l = let here : at ≡ at + 0 = omega arith in ap wrapped here
get_or-addresses (suc n) at (suc k) d l = let next : at + 1 + k ≡ at + suc k = omega arith in get_or-addresses n (at + 1) k d (omega arith) ∙ ap wrapped next

abbrev IsAmong : ℕ → ℕ → Type 0
IsAmong word a = (word ≤ a) × (a < word + 4)

some_address : (at n word k : ℕ) → k < n → IsAmong word (wrapped (at + k)) → Any (IsAmong word) (addresses at n)
some_address at n word k l h = (k, wrapped (at + k), omega (arith, length-addresses at n), get_or-addresses n at k _ l, h)

address_of : (at n word : ℕ) → Any (IsAmong word) (addresses at n) → (k : ℕ) × (k < n) × IsAmong word (wrapped (at + k))
address_of at n word h =
    let inside : h.0 < n = let l = h.2 in omega (arith, length-addresses at n, l) in
    (h.0, inside, subst (IsAmong word) (sym h.3 ∙ get_or-addresses n at h.0 h.1 inside) h.4)

-- the first of the four is among so many
first_of_four : (at n word : ℕ) → word ≤ LAST_WORD → at < 2 ^ 32 → (word + (4294967296 - at)) % 4294967296 < n → Any (IsAmong word) (addresses at n)
first_of_four at n word small fits l =
    let k : ℕ = (word + (4294967296 - at)) % 4294967296 in
    let is : wrapped (at + k) ≡ word = omega arith in
    some_address at n word k l (omega (arith, is), omega (arith, is))

-- the first of so many is among the four
first_of_many : (at n word : ℕ) → word ≤ LAST_WORD → at < 2 ^ 32 → 0 < n → (at + (4294967296 - word)) % 4294967296 < 4 → Any (IsAmong word) (addresses at n)
first_of_many at n word small fits some l =
    let is : wrapped (at + 0) ≡ at = omega arith in
    some_address at n word 0 some (omega (arith, is), omega (arith, is))

-- there is no other way
other_way : (at n word : ℕ) → word ≤ LAST_WORD → at < 2 ^ 32 → n ≤ (word + (4294967296 - at)) % 4294967296 → Any (IsAmong word) (addresses at n) → (at + (4294967296 - word)) % 4294967296 < 4
other_way at n word small fits far h =
    let w = address_of at n word h in
    let k : ℕ = w.0 in
    let inside : k < n = w.1 in
    let low : word ≤ (at + k) % 2 ^ 32 = w.2.0 in
    let high : (at + k) % 2 ^ 32 < word + 4 = w.2.1 in
    omega arith

pub returns-then-word-at : goal.returns-then-word-at
returns-then-word-at c =
    (λ t. first_of_four c.args.at c.args.count c.args.word c.requires c.ranges.at.fits c.if-word-at.true, λ h. lt-ltb _ _ c.if-word-at.true)

pub returns-else-word-at : goal.returns-else-word-at
returns-else-word-at c = (
  λ t. first_of_many c.args.at c.args.count c.args.word c.requires c.ranges.at.fits c.if-count-gt0.true (ltb-true _ _ t),
  λ h. lt-ltb _ _ (other_way c.args.at c.args.count c.args.word c.requires c.ranges.at.fits c.if-word-at.false h),
)
