-- Which segments of a list cross.
use Rattle.std.proofs.Common.{◌≡◌, ℕ, zero, suc, ◌+◌, ◌-◌, ◌<◌, ◌≤◌, inl, inr, List, length, take, drop, sym, ap, subst, ◌∙◌, arith}
use Rattle.std.proofs.lemmas.Bool.{cases_lt, cases_order}
use Rattle.std.proofs.lemmas.List.{get_or-drop, get_or_default, take_all, length-drop}
use Rattle.std.proofs.lemmas.List.Elements.{Contains-get_or}
use Rattle.std.proofs.lemmas.List.Sorted.{Contains-permutation}
use Rattle.std.specs.List.{Contains}
use Rattle.std.specs.List.Sorted.{IsPermutation}
use Rattle.elf_load.specs.declared.segment.Segment.{Segment}
use Rattle.elf_load.specs.HeaderFields.{segment_at, Cross, AreApart, AreFirstToCross}

-- what stands behind a place
pub segments_behind : (segments : List Segment) (n : ℕ) → take (length segments - n) (drop n segments) ≡ drop n segments
segments_behind segments n = take_all (length segments - n) (drop n segments) (omega (arith, length-drop n segments))

-- so many first ones cross no later segment
abbrev pub CrossNone : List Segment → ℕ → Type 0
CrossNone segments n = (c d : ℕ) → c < n → c < d → d < length segments → Cross (segment_at segments c) (segment_at segments d) → ⊥

behind : (segments : List Segment) (n k : ℕ) → segment_at (drop n segments) k ≡ segment_at segments (n + k)
behind segments n k = get_or-drop n segments k _

pub first_pair : (segments rest : List Segment) (a k : ℕ) → rest ≡ drop (a + 1) segments → CrossNone segments a → k < length rest → Cross (segment_at segments a) (segment_at rest k) → ((j : ℕ) → j < k → Cross (segment_at segments a) (segment_at rest j) → ⊥) → AreFirstToCross segments a (a + 1 + k)
first_pair segments rest a k is none inside cross before =
    let long : length rest ≡ length segments - (a + 1) = ap length is ∙ length-drop (a + 1) segments in
    let at : (j : ℕ) → segment_at rest j ≡ segment_at segments (a + 1 + j) = λ j. ap (λ xs. segment_at xs j) is ∙ behind segments (a + 1) j in
    record {
      order = omega arith;
      inside = omega (arith, long, inside);
      cross = subst (Cross (segment_at segments a)) (at k) cross;
      first = λ c d l m x.
          elim (cases_order c a) [
            | inl same ↦ elim (cases_lt d (a + 1 + k)) [
              | inl less ↦
                  let place : a + 1 + (d - (a + 1)) ≡ d = omega arith in
                  let here : Cross (segment_at segments a) (segment_at segments d) = subst (λ i. Cross (segment_at segments i) (segment_at segments d)) same x in
                  absurd (before (d - (a + 1)) (omega arith) (subst (Cross (segment_at segments a)) (sym (at (d - (a + 1)) ∙ ap (segment_at segments) place)) here))
              | inr more ↦ inr (sym same, more)
            ]
            | inr apart ↦ elim apart [ inl less ↦ absurd (none c d less l m x) | inr more ↦ inl more ]
          ];
    }

pub none_more : (segments rest : List Segment) (a : ℕ) → rest ≡ drop (a + 1) segments → CrossNone segments a → ((j : ℕ) → j < length rest → Cross (segment_at segments a) (segment_at rest j) → ⊥) → CrossNone segments (a + 1)
none_more segments rest a is none here c d l m n x =
    let long : length rest ≡ length segments - (a + 1) = ap length is ∙ length-drop (a + 1) segments in
    elim (cases_lt c a) [
      | inl less ↦ none c d less m n x
      | inr more ↦
          let same : c ≡ a = omega arith in
          let place : a + 1 + (d - (a + 1)) ≡ d = omega arith in
          let at : segment_at rest (d - (a + 1)) ≡ segment_at segments d = ap (λ xs. segment_at xs (d - (a + 1))) is ∙ behind segments (a + 1) (d - (a + 1)) ∙ ap (segment_at segments) place in
          let cross : Cross (segment_at segments a) (segment_at segments d) = subst (λ i. Cross (segment_at segments i) (segment_at segments d)) same x in
          here (d - (a + 1)) (omega (arith, long)) (subst (Cross (segment_at segments a)) (sym at) cross)
    ]

-- each segment ends before the next one begins, and so before each later one
abbrev pub EndBefore : List Segment → ℕ → ℕ → Type 0
EndBefore sorted p q = (segment_at sorted p).address + (segment_at sorted p).memory_size ≤ (segment_at sorted q).address

ends_before : (sorted : List Segment) → ((k : ℕ) → k + 1 < length sorted → EndBefore sorted k (k + 1)) → (n p q : ℕ) → q ≡ p + 1 + n → q < length sorted → EndBefore sorted p q
ends_before sorted near zero p q e l = let next : p + 1 ≡ q = omega arith in subst (EndBefore sorted p) next (near p (omega arith))
ends_before sorted near (suc n) p q e l =
    let before : q - 1 + 1 ≡ q = omega arith in
    let far = ends_before sorted near n p (q - 1) (omega arith) (omega arith) in
    let last : EndBefore sorted (q - 1) q = subst (EndBefore sorted (q - 1)) before (near (q - 1) (omega arith)) in
    omega (arith, far, last)

place_of : (sorted : List Segment) (x : Segment) → Contains sorted x → (p : ℕ) × (p < length sorted) × (segment_at sorted p ≡ x)
place_of sorted x h = (h.0, h.1, get_or_default sorted h.0 _ x h.1 ∙ h.2)

not_crossing : (x y : Segment) → x.address + x.memory_size ≤ y.address → Cross x y → ⊥
not_crossing x y l h = let second = h.second in omega arith

not_crossing_back : (x y : Segment) → y.address + y.memory_size ≤ x.address → Cross x y → ⊥
not_crossing_back x y l h = let first = h.first in omega arith

pub apart_by_neighbours : (segments sorted : List Segment) → IsPermutation segments sorted → ((a b : ℕ) → a < b → b < length segments → (segment_at segments a).index < (segment_at segments b).index) → ((k : ℕ) → k + 1 < length sorted → EndBefore sorted k (k + 1)) → AreApart segments
apart_by_neighbours segments sorted same differ near a b l m x =
    let first : Segment = segment_at segments a in
    let second : Segment = segment_at segments b in
    let p = place_of sorted first (Contains-permutation segments sorted first same (Contains-get_or segments a _ (omega arith))) in
    let q = place_of sorted second (Contains-permutation segments sorted second same (Contains-get_or segments b _ m)) in
    elim (cases_order p.0 q.0) [
      | inl e ↦
          let one : first ≡ second = sym p.2 ∙ ap (segment_at sorted) e ∙ q.2 in
          let less = differ a b l m in
          let is : first.index ≡ second.index = ap (λ (s : Segment). s.index) one in
          absurd (omega arith)
      | inr apart ↦ elim apart [
        | inl less ↦
            let before = ends_before sorted near (q.0 - p.0 - 1) p.0 q.0 (omega arith) q.1 in
            absurd (not_crossing first second (subst (λ (s : Segment). s.address + s.memory_size ≤ second.address) p.2 (subst (λ (s : Segment). (segment_at sorted p.0).address + (segment_at sorted p.0).memory_size ≤ s.address) q.2 before)) x)
        | inr more ↦
            let before = ends_before sorted near (p.0 - q.0 - 1) q.0 p.0 (omega arith) p.1 in
            absurd (not_crossing_back first second (subst (λ (s : Segment). s.address + s.memory_size ≤ first.address) q.2 (subst (λ (s : Segment). (segment_at sorted q.0).address + (segment_at sorted q.0).memory_size ≤ s.address) p.2 before)) x)
      ]
    ]
