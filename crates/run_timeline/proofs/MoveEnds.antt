-- Where moves end, and how a walk is seen on their way.
use Rattle.std.proofs.Common.{◌≡◌, ◌⊎◌, ℕ, ◌+◌, ◌-◌, ◌≤◌, ◌<◌, max, Bool, true, false, cond, Option, None, Some, refl, sym, ap, subst, ◌∙◌, arith, inl, inr}
use Rattle.std.specs.Prelude.{◌||◌, not, IfSome, MatchOption}
use Rattle.std.specs.Option.{option_map, option_or}
use Rattle.std.proofs.lemmas.Bool.{cases_lt, both_ways, le-ltb, eq-eqb}
use Rattle.std.proofs.lemmas.Option.{none-some}
use Rattle.rv_machine.specs.StepTable.{is_running}
use Rattle.rv_machine.specs.Watchers.{Ends, GoesOn}
use Rattle.run_timeline.specs.declared.stops.Hit.{Hit}
use Rattle.run_timeline.specs.declared.stops.Hit.TheVariants.{Watch}
use Rattle.run_timeline.specs.Moves.{StopList, Run, state, IsPlace, is_end, broken, watched, ahead, behind, NothingHit, EndsForward, EndsBackward, CameBackward}
use Rattle.run_timeline.specs.StepObservations.{is_hit, seen, IsLastSeen}
use Rattle.run_timeline.specs.WalkState.{WalkState, IsFew}
use Rattle.run_timeline.proofs.StopHits.{NothingSeen, nothing_seen, came_there, seen_near, seen_at, ends_backward, ends_forward, nothing_ahead, nothing_joined}

-- the greatest number is the end
pub last_ends : (r : Run) (m : ℕ) → m ≡ r.most → is_end r m ≡ true
last_ends r m e = ap (λ (b : Bool). b || not (is_running (state r m).status)) (eq-eqb m r.most e)

-- a place before another
pub place_before : (r : Run) (p q : ℕ) → p ≤ q → IsPlace r q → IsPlace r p
place_before r p q le h = ((let most : q ≤ r.most = h.0 in omega (arith, le, most)), λ k l. h.1 k (omega (arith, l, le)))

-- nothing is hit where a move forward begins, if the step from there writes no watched byte
pub nothing_here : (r : Run) (stops : StopList) (p n : ℕ) → watched r stops p ≡ None → n ≡ p + 1 → NothingHit (ahead r stops p) p n
nothing_here r stops p n e is m low high =
    let same : p ≡ m = omega (arith, is, low, high) in
    subst (λ (k : ℕ). ahead r stops p k ≡ None) same (λ i. option_or (cond (le-ltb p p (omega arith) i) (broken r stops p) None) (option_map Watch (e i)))

-- a move forward ends elsewhere, if the run doesn't end where it begins and the step from there writes no watched byte
pub ends_elsewhere : (r : Run) (stops : StopList) (p m : ℕ) (o : Option Hit) → is_end r p ≡ false → watched r stops p ≡ None → EndsForward r stops p m o → p < m
ends_elsewhere r stops p m (Some hit) e w h = elim (cases_lt p m) [
  | inl lt ↦ lt
  | inr ge ↦
      (let same : m ≡ p = omega (arith, ge, h.0) in
      let none : ahead r stops p p ≡ None = nothing_here r stops p (p + 1) w refl p (omega arith) (omega arith) in
      let some : ahead r stops p p ≡ Some hit = subst (λ (k : ℕ). ahead r stops p k ≡ Some hit) same h.1 in
      absurd (none-some hit (sym none ∙ some)))
]
ends_elsewhere r stops p m None e w h = elim (cases_lt p m) [
  | inl lt ↦ lt
  | inr ge ↦ (let same : m ≡ p = omega (arith, ge, h.0) in absurd (both_ways (is_end r p) e (subst (λ (k : ℕ). is_end r k ≡ true) same h.1)))
]

-- nothing was seen on one more stretch
pub unseen_from : (r : Run) (stops : StopList) (from end p n : ℕ) → end ≡ from + n → IsLastSeen (λ k. seen stops r.journal (from + k) (state r (from + k))) n None → NothingSeen r stops end p → NothingSeen r stops from p
unseen_from r stops from end p n is h clear j above below = elim (cases_lt j end) [
  | inl lt ↦
      (let k : ℕ = n - (end - j) in
      let sum : from + k ≡ j = omega (arith, is, lt, above) in
      subst (λ (i : ℕ). seen_at r stops i ≡ None) sum (h k (omega (arith, is, lt, above))))
  | inr ge ↦ clear j ge below
]

-- a move backward ends where something was seen last
pub ends_at_seen : (r : Run) (stops : StopList) (from end p n : ℕ) (x : ℕ × Hit) → IsPlace r p → end ≤ p → end ≡ from + n → IsLastSeen (λ k. seen stops r.journal (from + k) (state r (from + k))) n (Some x) → NothingSeen r stops end p →
    EndsBackward r stops p x.0 (Some x.1)
ends_at_seen r stops from end p n x place le is h clear =
    let k : ℕ = h.0 in
    let inside : k < n = h.1.0 in
    ends_backward r stops p (from + k) x place (omega (arith, le, is, inside)) h.1.1
    (unseen_from r stops (from + k + 1) end p (n - k - 1) (omega (arith, is, inside))
    (λ j below. (let sum : from + (k + 1 + j) ≡ from + k + 1 + j = omega arith in subst (λ (i : ℕ). seen_at r stops i ≡ None) sum (h.1.2 (k + 1 + j) (omega arith) (omega (arith, below, inside))))) clear)

-- a walk goes further
pub further_on : (old mid new : WalkState) → mid ≡ record old { place = mid.place; reached = max old.reached mid.place } → new ≡ record mid { place = new.place; reached = max mid.reached new.place } → mid.place ≤ new.place →
    new ≡ record old { place = new.place; reached = max old.reached new.place }
further_on old mid new e f le =
    let r : mid.reached ≡ max old.reached mid.place = ap (λ (x : WalkState). x.reached) e in
    let reached : max mid.reached new.place ≡ max old.reached new.place = omega (arith, r, le) in
    f ∙ ap (λ (x : WalkState). record x { place = new.place; reached = max mid.reached new.place }) e ∙ ap (λ (n : ℕ). record old { place = new.place; reached = n }) reached

-- the same steps are few of a walk that stands elsewhere
pub few_same : (s t : WalkState) (n place : ℕ) → s ≡ record t { place = place } → IsFew s n → IsFew t n
few_same s t n place is h = subst (λ (x : WalkState). IsFew x n) is h

pub few_max : (t : WalkState) (m n : ℕ) → IsFew t m → IsFew t n → IsFew t (max m n)
few_max t m n h k = elim (cases_lt m n) [
  | inl lt ↦ (let is : n ≡ max m n = omega (arith, lt) in subst (λ (i : ℕ). IsFew t i) is k)
  | inr ge ↦ (let is : m ≡ max m n = omega (arith, ge) in subst (λ (i : ℕ). IsFew t i) is h)
]

-- a run goes on over two stretches
pub goes_on_joined : (r s : Run) (stops : StopList) (from mid m : ℕ) → s ≡ r → ((k : ℕ) → from ≤ k → k < mid → GoesOn (is_hit stops) r.journal (state r k)) →
    ((k : ℕ) → mid ≤ k → k < m → GoesOn (is_hit stops) s.journal (state s k)) → (k : ℕ) → from ≤ k → k < m → GoesOn (is_hit stops) r.journal (state r k)
goes_on_joined r s stops from mid m same h g k low high = elim (cases_lt k mid) [
  | inl lt ↦ h k low lt
  | inr ge ↦ subst (λ (x : Run). GoesOn (is_hit stops) x.journal (state x k)) same (g k ge high)
]

-- a move forward ends behind a stretch over which the run goes on
pub ends_looking : (r : Run) (stops : StopList) (p from m : ℕ) (o : Option Hit) → p < from → from ≤ m → NothingHit (ahead r stops p) p from → ((k : ℕ) → from ≤ k → k < m → GoesOn (is_hit stops) r.journal (state r k)) →
    o ≡ option_or (broken r stops m) (option_map Watch (watched r stops m)) → (is_end r m ≡ true) ⊎ Ends (is_hit stops) r.journal (state r m) → EndsForward r stops p m o
ends_looking r stops p from m o behind order nothing goes is end =
    ends_forward r stops p m o (omega (arith, behind, order)) is (nothing_joined (ahead r stops p) p from m nothing (λ k low high. nothing_ahead r stops p k (goes k low high))) end

-- what was seen last on a stretch is not behind its end, and a move backward goes on before it or ends there
pub found_near : (r : Run) (stops : StopList) (from end n : ℕ) (o : Option (ℕ × Hit)) → end ≡ from + n → IsLastSeen (λ k. seen stops r.journal (from + k) (state r (from + k))) n o →
    IfSome o (λ found. found.0 ≤ end)
found_near r stops from end n None is h = tt
found_near r stops from end n (Some x) is h =
    let near : x.0 ≤ from + h.0 + 1 = seen_near stops r.journal (from + h.0) (state r (from + h.0)) x h.1.1 in
    omega (arith, near, h.1.0, is)

pub goes_back : (r : Run) (stops : StopList) (p from end n : ℕ) (o : Option (ℕ × Hit)) → IsPlace r p → end ≡ from + n → IsLastSeen (λ k. seen stops r.journal (from + k) (state r (from + k))) n o →
    CameBackward r stops p end → MatchOption o (CameBackward r stops p from) (λ found. EndsBackward r stops p found.0 (Some found.1))
goes_back r stops p from end n None place is h came =
    came_there r stops p from place (omega (arith, is, came.0)) (unseen_from r stops from end p n is h (nothing_seen r stops p end place came))
goes_back r stops p from end n (Some x) place is h came = ends_at_seen r stops from end p n x place came.0 is h (nothing_seen r stops p end place came)
