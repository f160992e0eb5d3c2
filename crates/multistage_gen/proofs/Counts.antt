-- The traffic where one place is written or read once more.
use Rattle.std.proofs.Common.{◌≡◌, ◌==◌, ℕ, zero, suc, ◌+◌, ◌<◌, ◌≤◌, max, cond, List, [], ◌∷◌, ◌++◌, length, get_or, set as put, Some, refl, sym, ap, ◌∙◌, inl, inr, arith, length-set}
use Rattle.std.specs.List.{slice_get}
use Rattle.std.proofs.lemmas.List.Sums.{sum_by-cons, sum_by-append, count_by-le-length}
use Rattle.std.proofs.lemmas.Bool.{cases_eq, cases_lt, ne_eqb, eq-eqb}
use Rattle.multistage_gen.specs.declared.traffic.PlaceTraffic.{PlaceTraffic}
use Rattle.revolve_gen.specs.Stack.{times, enough}
use Rattle.multistage_gen.specs.Traffic.{IsTraffic}

enough_snoc : (xs : List ℕ) (p : ℕ) (ys : List ℕ) → enough ((xs ++ p ∷ []) ++ ys) ≡ max (enough (xs ++ ys)) (p + 1)
enough_snoc [] p ys = omega arith
enough_snoc (x ∷ xs) p ys = let e = enough_snoc xs p ys in omega arith

enough_end : (xs : List ℕ) (p : ℕ) → enough (xs ++ p ∷ []) ≡ max (enough xs) (p + 1)
enough_end [] p = omega arith
enough_end (x ∷ xs) p = let e = enough_end xs p in omega arith

enough_later : (xs ys : List ℕ) (p : ℕ) → enough (xs ++ (ys ++ p ∷ [])) ≡ max (enough (xs ++ ys)) (p + 1)
enough_later [] ys p = enough_end ys p
enough_later (x ∷ xs) ys p = let e = enough_later xs ys p in omega arith

times_snoc : (p q : ℕ) (xs : List ℕ) → times p (xs ++ q ∷ []) ≡ times p xs + cond (q == p) 1 0
times_snoc p q xs = sum_by-append (λ r. cond (r == p) 1 0) xs (q ∷ []) ∙ ap (λ n. times p xs + n) (sum_by-cons (λ r. cond (r == p) 1 0) q [] ∙ omega arith)

times_other : (p q : ℕ) (xs : List ℕ) → (q ≡ p → ⊥) → times p (xs ++ q ∷ []) ≡ times p xs
times_other p q xs ne = times_snoc p q xs ∙ ap (λ b. times p xs + cond b 1 0) (ne_eqb q p ne) ∙ omega arith

-- a place past all is named nowhere
pub times_past : (p : ℕ) (xs : List ℕ) → enough xs ≤ p → times p xs ≡ 0
times_past p [] h = refl
times_past p (x ∷ xs) h =
    let e = times_past p xs (omega arith) in
    sum_by-cons (λ r. cond (r == p) 1 0) x xs ∙ ap (λ b. cond b 1 0 + times p xs) (ne_eqb x p (λ i. absurd (omega arith))) ∙ omega arith

enough_first : (xs ys : List ℕ) → enough xs ≤ enough (xs ++ ys)
enough_first [] ys = omega arith
enough_first (x ∷ xs) ys = let h = enough_first xs ys in omega arith

enough_second : (xs ys : List ℕ) → enough ys ≤ enough (xs ++ ys)
enough_second [] ys = omega arith
enough_second (x ∷ xs) ys = let h = enough_second xs ys in omega arith

-- what stands at each place once a place was reached
pub reached_each : (ws rs : List ℕ) (old new : List PlaceTraffic) (place : ℕ) → IsTraffic ws rs old →
    ((p : ℕ) → p < length old → slice_get new p ≡ slice_get old p) →
    ((p : ℕ) → length old ≤ p → p < length new → (p ≡ place) × (slice_get new p ≡ Some (record { writes = 0; reads = 0 }))) →
    (p : ℕ) → p < length new → slice_get new p ≡ Some (record { writes = times p ws; reads = times p rs })
reached_each ws rs old new place t same fresh p h = elim (cases_lt p (length old)) [
  | inl within ↦ same p within ∙ t.each p within
  | inr past ↦
      let many = t.many in
      let w = times_past p ws (let f = enough_first ws rs in omega arith) in
      let r = times_past p rs (let f = enough_second ws rs in omega arith) in
      (fresh p past h).1 ∙ (λ i. Some (record { writes = sym w i; reads = sym r i }))
]

pub at_get : (xs : List PlaceTraffic) (p : ℕ) (x d : PlaceTraffic) → p < length xs → slice_get xs p ≡ Some x → get_or xs p d ≡ x
at_get [] p x d h e = absurd (omega arith)
at_get (y ∷ xs) zero x d h e = cc
at_get (y ∷ xs) (suc p) x d h e = at_get xs p x d (omega arith) e

put_same : (xs : List PlaceTraffic) (p : ℕ) (x : PlaceTraffic) → p < length xs → slice_get (put xs p x) p ≡ Some x
put_same [] p x h = absurd (omega arith)
put_same (y ∷ xs) zero x h = refl
put_same (y ∷ xs) (suc p) x h = put_same xs p x (omega arith)

put_other : (xs : List PlaceTraffic) (p q : ℕ) (x : PlaceTraffic) → (q ≡ p → ⊥) → slice_get (put xs p x) q ≡ slice_get xs q
put_other [] p q x ne = refl
put_other (y ∷ xs) zero zero x ne = absurd (ne refl)
put_other (y ∷ xs) zero (suc q) x ne = refl
put_other (y ∷ xs) (suc p) zero x ne = refl
put_other (y ∷ xs) (suc p) (suc q) x ne = put_other xs p q x (λ e. ne (ap suc e))

many_more : (ws rs : List ℕ) (old new : List PlaceTraffic) (place : ℕ) → IsTraffic ws rs old → place ≤ length old → place < length new → length old ≤ length new → length new ≤ length old + 1 →
    ((p : ℕ) → length old ≤ p → p < length new → p ≡ place) → length new ≡ max (enough (ws ++ rs)) (place + 1)
many_more ws rs old new place t near there grows few fresh = elim (cases_lt (length old) (length new)) [
  | inl more ↦ (let e = fresh (length old) (omega arith) more in let m = t.many in omega arith)
  | inr same ↦ (let m = t.many in omega arith)
]

pub written_more : (ws rs : List ℕ) (old new : List PlaceTraffic) (place : ℕ) (x : PlaceTraffic) → IsTraffic ws rs old →
    place ≤ length old → place < length new → length old ≤ length new → length new ≤ length old + 1 →
    ((p : ℕ) → p < length old → slice_get new p ≡ slice_get old p) →
    ((p : ℕ) → length old ≤ p → p < length new → (p ≡ place) × (slice_get new p ≡ Some (record { writes = 0; reads = 0 }))) →
    x ≡ get_or new place x →
    IsTraffic (ws ++ place ∷ []) rs (put new place (record { writes = x.writes + 1; reads = x.reads }))
written_more ws rs old new place x t near there grows few same fresh is =
    let each = reached_each ws rs old new place t same fresh in
    let at : x ≡ record { writes = times place ws; reads = times place rs } = is ∙ at_get new place _ x there (each place there) in
    let next : PlaceTraffic = record { writes = x.writes + 1; reads = x.reads } in
    let len = length-set new place next in
    record {
      many = len ∙ many_more ws rs old new place t near there grows few (λ p past h. (fresh p past h).0) ∙ sym (enough_snoc ws place rs);
      each = λ p h. elim (cases_eq p place) [
        | inl e ↦ ap (λ q. slice_get (put new place next) q) e ∙ put_same new place next there
            ∙ (λ i. Some (record { writes = (at i).writes + 1; reads = (at i).reads }))
            ∙ (λ i. Some (record { writes = (sym (times_snoc place place ws ∙ ap (λ b. times place ws + cond b 1 0) (eq-eqb place place refl))) i; reads = times place rs }))
            ∙ ap (λ q. Some (record { writes = times q (ws ++ place ∷ []); reads = times q rs })) (sym e)
        | inr ne ↦ put_other new place p next ne ∙ each p (omega arith)
            ∙ (λ i. Some (record { writes = (sym (times_other p place ws (λ e. ne (sym e)))) i; reads = times p rs }))
      ];
    }

pub read_more : (ws rs : List ℕ) (old new : List PlaceTraffic) (place : ℕ) (x : PlaceTraffic) → IsTraffic ws rs old →
    place ≤ length old → place < length new → length old ≤ length new → length new ≤ length old + 1 →
    ((p : ℕ) → p < length old → slice_get new p ≡ slice_get old p) →
    ((p : ℕ) → length old ≤ p → p < length new → (p ≡ place) × (slice_get new p ≡ Some (record { writes = 0; reads = 0 }))) →
    x ≡ get_or new place x →
    IsTraffic ws (rs ++ place ∷ []) (put new place (record { writes = x.writes; reads = x.reads + 1 }))
read_more ws rs old new place x t near there grows few same fresh is =
    let each = reached_each ws rs old new place t same fresh in
    let at : x ≡ record { writes = times place ws; reads = times place rs } = is ∙ at_get new place _ x there (each place there) in
    let next : PlaceTraffic = record { writes = x.writes; reads = x.reads + 1 } in
    let len = length-set new place next in
    record {
      many = len ∙ many_more ws rs old new place t near there grows few (λ p past h. (fresh p past h).0) ∙ sym (enough_later ws rs place);
      each = λ p h. elim (cases_eq p place) [
        | inl e ↦ ap (λ q. slice_get (put new place next) q) e ∙ put_same new place next there
            ∙ (λ i. Some (record { writes = (at i).writes; reads = (at i).reads + 1 }))
            ∙ (λ i. Some (record { writes = times place ws; reads = (sym (times_snoc place place rs ∙ ap (λ b. times place rs + cond b 1 0) (eq-eqb place place refl))) i }))
            ∙ ap (λ q. Some (record { writes = times q ws; reads = times q (rs ++ place ∷ []) })) (sym e)
        | inr ne ↦ put_other new place p next ne ∙ each p (omega arith)
            ∙ (λ i. Some (record { writes = times p ws; reads = (sym (times_other p place rs (λ e. ne (sym e)))) i }))
      ];
    }

pub writes_small : (ws rs : List ℕ) (old new : List PlaceTraffic) (place : ℕ) (x : PlaceTraffic) → IsTraffic ws rs old → place < length new →
    ((p : ℕ) → p < length old → slice_get new p ≡ slice_get old p) →
    ((p : ℕ) → length old ≤ p → p < length new → (p ≡ place) × (slice_get new p ≡ Some (record { writes = 0; reads = 0 }))) →
    x ≡ get_or new place x → (x.writes ≤ length ws) × (x.reads ≤ length rs)
writes_small ws rs old new place x t there same fresh is =
    let each = reached_each ws rs old new place t same fresh in
    let at : x ≡ record { writes = times place ws; reads = times place rs } = is ∙ at_get new place _ x there (each place there) in
    let w : x.writes ≡ times place ws = ap (λ (y : PlaceTraffic). y.writes) at in
    let r : x.reads ≡ times place rs = ap (λ (y : PlaceTraffic). y.reads) at in
    let m = count_by-le-length (λ q. q == place) ws in
    let n = count_by-le-length (λ q. q == place) rs in
    (omega arith, omega arith)
