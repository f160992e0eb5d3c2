-- What the places of a list save, and their levels by it.
use Rattle.std.proofs.Common.{◌≡◌, ◌==◌, ◌⊎◌, ℕ, zero, suc, ◌+◌, ◌<◌, ◌≤◌, min, true, nat_lt, ◌&&◌, ◌||◌, All, List, [], ◌∷◌, length, length-append, map, get_or, Some, refl, sym, ap, subst, ◌∙◌, inl, inr, arith}
use Rattle.std.specs.List.{slice_get}
use Rattle.std.proofs.lemmas.Bool.{or_cases, and_parts, ltb-true, eqb-true}
use Rattle.std.proofs.lemmas.List.Sums.{count_by-le-length}
use Rattle.std.proofs.lemmas.List.{length-map, get_or-map}
use Rattle.plan_types.specs.declared.action.Action.{Action}
use Rattle.level_book.specs.declared.book.Level.{Level}
use Rattle.revolve_gen.specs.declared.stack.StackStep.{StackStep}
use Rattle.revolve_gen.specs.declared.stack.StackStep.TheVariants.{Push, Read, Pop, Stay}
use Rattle.revolve_gen.specs.Places.{places_on}
use Rattle.revolve_gen.specs.Stack.{stack_step, held_after, place_written, place_read, written, read, times, places_used}
use Rattle.revolve_gen.specs.Multistage.{saving}
use Rattle.multistage_gen.specs.declared.ranking.Rank.{Rank}
use Rattle.multistage_gen.specs.declared.traffic.PlaceTraffic.{PlaceTraffic}
use Rattle.multistage_gen.specs.Traffic.{IsTraffic}
use Rattle.multistage_gen.specs.Threshold.{AreSavings}
use Rattle.multistage_gen.specs.Ranks.{is_before, StandByPlace, AreLevels, rank_of, ranks_from, IsCounted, ArePlanned, saving_of}
use Rattle.multistage_gen.proofs.Counts.{at_get}

-- an action writes and reads one place at most
one_written : (h : ℕ) (s : StackStep) → length (place_written h s) ≤ 1
one_written h Push = omega arith
one_written h Read = omega arith
one_written h Pop = omega arith
one_written h Stay = omega arith

one_read : (h : ℕ) (s : StackStep) → length (place_read h s) ≤ 1
one_read h Push = omega arith
one_read h Read = omega arith
one_read h Pop = omega arith
one_read h Stay = omega arith

pub written_few : (h : ℕ) (list : List Action) → length (written h list) ≤ length list
written_few h [] = omega arith
written_few h (a ∷ rest) =
    let s = stack_step a in
    omega (arith, length-append (place_written h s) (written (held_after h s) rest), one_written h s, written_few (held_after h s) rest)

pub read_few : (h : ℕ) (list : List Action) → length (read h list) ≤ length list
read_few h [] = omega arith
read_few h (a ∷ rest) =
    let s = stack_step a in
    omega (arith, length-append (place_read h s) (read (held_after h s) rest), one_read h s, read_few (held_after h s) rest)

-- the traffic of a place
at_place : (list : List Action) (traffic : List PlaceTraffic) (p : ℕ) (d : PlaceTraffic) → IsTraffic (written 0 list) (read 0 list) traffic → p < length traffic →
    get_or traffic p d ≡ record { writes = times p (written 0 list); reads = times p (read 0 list) }
at_place list traffic p d is h = at_get traffic p _ d h (is.each p h)

pub traffic_counted : (list : List Action) (traffic : List PlaceTraffic) → length list ≤ 16777216 → IsTraffic (written 0 list) (read 0 list) traffic → All IsCounted traffic
traffic_counted list traffic few is p d h =
    let w = count_by-le-length (λ q. q == p) (written 0 list) in
    let r = count_by-le-length (λ q. q == p) (read 0 list) in
    let ws = written_few 0 list in
    let rs = read_few 0 list in
    let t : IsCounted (record { writes = times p (written 0 list); reads = times p (read 0 list) }) = record { writes = omega arith; reads = omega arith } in
    subst IsCounted (sym (at_place list traffic p d is h)) t

pub length_ranks : (fast slow : Level) (p : ℕ) (traffic : List PlaceTraffic) → length (ranks_from fast slow p traffic) ≡ length traffic
length_ranks fast slow p [] = refl
length_ranks fast slow p (t ∷ traffic) = ap suc (length_ranks fast slow (suc p) traffic)

rank_at : (fast slow : Level) (p k : ℕ) (traffic : List PlaceTraffic) (d : Rank) (e : PlaceTraffic) → k < length traffic →
    get_or (ranks_from fast slow p traffic) k d ≡ rank_of fast slow (k + p) (get_or traffic k e)
rank_at fast slow p k [] d e h = absurd (omega arith)
rank_at fast slow p zero (t ∷ traffic) d e h = let z : p ≡ zero + p = omega arith in ap (λ q. rank_of fast slow q t) z
rank_at fast slow p (suc k) (t ∷ traffic) d e h =
    let z : k + suc p ≡ suc k + p = omega arith in
    rank_at fast slow (suc p) k traffic d e (omega arith) ∙ ap (λ q. rank_of fast slow q (get_or traffic k e)) z

no_traffic : PlaceTraffic
no_traffic = record { writes = 0; reads = 0 }

pub by_place : (fast slow : Level) (traffic : List PlaceTraffic) → StandByPlace (ranks_from fast slow 0 traffic)
by_place fast slow traffic p d h =
    let len = length_ranks fast slow 0 traffic in
    ap (λ (r : Rank). r.place) (rank_at fast slow 0 p traffic d no_traffic (omega arith)) ∙ omega arith

-- the rank of a place of a list
list_rank : (list : List Action) (traffic : List PlaceTraffic) (fast slow : Level) (p : ℕ) (d : Rank) → IsTraffic (written 0 list) (read 0 list) traffic → p < length traffic →
    get_or (ranks_from fast slow 0 traffic) p d ≡ record { saving = record { 0 = saving list fast slow p }; place = p }
list_rank list traffic fast slow p d is h =
    let z : p + 0 ≡ p = omega arith in
    rank_at fast slow 0 p traffic d no_traffic h ∙ (λ i. rank_of fast slow (z i) (at_place list traffic p no_traffic is h i))

-- the savings of places with this traffic are those of the list
pub traffic_savings : (list : List Action) (traffic : List PlaceTraffic) (fast slow : Level) → IsTraffic (written 0 list) (read 0 list) traffic → AreSavings list fast slow (map (saving_of fast slow) traffic)
traffic_savings list traffic fast slow is = record {
  count = length-map traffic (saving_of fast slow) ∙ is.many;
  each = λ p h.
      let within : p < length traffic = let many = is.many in omega arith in
      get_or-map (saving_of fast slow) traffic p no_traffic 0 within ∙ ap (saving_of fast slow) (at_place list traffic p no_traffic is within);
}

comes_before : (s t p q : ℕ) → (nat_lt t s || (t == s) && nat_lt p q) ≡ true → (t < s) ⊎ ((t ≡ s) × (p < q))
comes_before s t p q h = elim (or_cases (nat_lt t s) ((t == s) && nat_lt p q) h) [
  | inl less ↦ inl (ltb-true t s less)
  | inr tie ↦ inr (eqb-true t s (and_parts (t == s) (nat_lt p q) tie).0, ltb-true p q (and_parts (t == s) (nat_lt p q) tie).1)
]

no_rank : Rank
no_rank = record { saving = record { 0 = 0 }; place = 0 }

pub levels_planned : (list : List Action) (traffic : List PlaceTraffic) (fast slow : Level) (room : ℕ) (levels : List ℕ) → IsTraffic (written 0 list) (read 0 list) traffic →
    AreLevels (ranks_from fast slow 0 traffic) room levels → ArePlanned room list fast slow levels
levels_planned list traffic fast slow room levels is are =
    let ranks = ranks_from fast slow 0 traffic in
    let count : length ranks ≡ places_used list = length_ranks fast slow 0 traffic ∙ is.many in
    let many = is.many in
    record {
      known = λ p h. are.known p (omega arith);
      many = subst (λ n. places_on (λ p. get_or levels p 0) 0 n ≡ min room n) count are.first;
      order = λ p q hp hq e f.
          let ordered = are.order p q no_rank (omega arith) (omega arith) e f in
          let rp = list_rank list traffic fast slow p no_rank is (omega arith) in
          let rq = list_rank list traffic fast slow q no_rank is (omega arith) in
          comes_before (saving list fast slow p) (saving list fast slow q) p q ((λ i. is_before (sym rp i) (sym rq i)) ∙ ordered);
    }

-- the levels of a book of two
pub level_at_first : (levels : List Level) (fast slow level : Level) → levels ≡ fast ∷ slow ∷ [] → slice_get levels 0 ≡ Some level → level ≡ fast
level_at_first levels fast slow level two at = let e : Some level ≡ Some fast = sym at ∙ ap (λ ls. slice_get ls 0) two in cc

pub level_at_second : (levels : List Level) (fast slow level : Level) → levels ≡ fast ∷ slow ∷ [] → slice_get levels 1 ≡ Some level → level ≡ slow
level_at_second levels fast slow level two at = let e : Some level ≡ Some slow = sym at ∙ ap (λ ls. slice_get ls 1) two in cc
