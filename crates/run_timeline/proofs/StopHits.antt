-- Where moves end, by what is seen at single steps.
use Rattle.std.proofs.Common.{◌≡◌, ◌⊎◌, ℕ, zero, suc, ◌+◌, ◌≤◌, ◌<◌, ◌==◌, ◌||◌, Bool, true, false, not, cond, nat_lt, List, Option, None, Some, IfSome, refl, sym, ap, subst, ◌∙◌, arith, inl, inr}
use Rattle.std.specs.Prelude.{is_some}
use Rattle.std.specs.Option.{option_map, option_or}
use Rattle.std.proofs.lemmas.Bool.{cases_lt, false≢true, true≢false, lt-ltb, le-ltb, ne_eqb, or_parts, or_right, not_from_false}
use Rattle.rv_machine.specs.MachineState.{MachineState}
use Rattle.rv_machine.specs.StepTable.{is_running}
use Rattle.rv_machine.specs.Watchers.{Ends, GoesOn}
use Rattle.run_timeline.specs.declared.stops.Hit.{Hit}
use Rattle.run_timeline.specs.declared.stops.Hit.TheVariants.{Break, Watch}
use Rattle.run_timeline.specs.Moves.{StopList, Run, state, IsPlace, is_end, broken, watched, ahead, behind, NothingHit, EndsForward, EndsBackward, CameBackward}
use Rattle.run_timeline.specs.StepObservations.{breaks_at, writes_from, is_hit, seen}

no_some : {X : Type 0} (o : Option X) → is_some o ≡ false → o ≡ None
no_some None h = refl
no_some (Some x) h = absurd (true≢false h)

neither : {X Y : Type 0} (lt e b : Bool) (h : X) (f : Y → X) (o : Option Y) → b ≡ false → o ≡ None → option_or (cond lt (cond b (Some h) None) None) (option_map f (cond e None o)) ≡ None
neither true true b h f o p q = ap (λ (t : Bool). option_or (cond t (Some h) None) None) p
neither true false b h f o p q = (λ i. option_or (cond (p i) (Some h) None) (option_map f (q i)))
neither false true b h f o p q = refl
neither false false b h f o p q = ap (λ t. option_map f t) q

-- a run that goes on hits nothing
pub nothing_ahead : (r : Run) (stops : StopList) (p k : ℕ) → GoesOn (is_hit stops) r.journal (state r k) → ahead r stops p k ≡ None
nothing_ahead r stops p k h =
    let parts = or_parts (breaks_at stops (state r k)) (is_some (writes_from stops r.journal (state r k))) h.1 in
    neither (nat_lt p k) (is_end r k) (breaks_at stops (state r k)) Break Watch (writes_from stops r.journal (state r k)) parts.0 (no_some (writes_from stops r.journal (state r k)) parts.1)

-- what is hit behind the place where a move began
pub hit_behind : (r : Run) (stops : StopList) (p m : ℕ) → p < m → ahead r stops p m ≡ option_or (broken r stops m) (option_map Watch (watched r stops m))
hit_behind r stops p m l = ap (λ (b : Bool). option_or (cond b (broken r stops m) None) (option_map Watch (watched r stops m))) (lt-ltb p m l)

-- nothing is hit at one more place
pub nothing_more : (hit : ℕ → Option Hit) (low n : ℕ) → NothingHit hit low n → hit n ≡ None → NothingHit hit low (n + 1)
nothing_more hit low n h e k above below = elim (cases_lt k n) [
  | inl lt ↦ h k above lt
  | inr ge ↦ let same : k ≡ n = omega arith in subst (λ (i : ℕ). hit i ≡ None) (sym same) e
]

pub nothing_joined : (hit : ℕ → Option Hit) (low mid bound : ℕ) → NothingHit hit low mid → NothingHit hit mid bound → NothingHit hit low bound
nothing_joined hit low mid bound h g k above below = elim (cases_lt k mid) [ inl lt ↦ h k above lt | inr ge ↦ g k ge below ]

-- where nothing is hit, and yet the run is to be stopped, it ends
must_end : (running at_last b : Bool) (o : Option ℕ) → option_or (cond b (Some Break) None) (option_map Watch (cond (at_last || not running) None o)) ≡ None → (b || is_some o) ≡ true → (at_last || not running) ≡ true
must_end running at_last true o none h = absurd (true≢false (ap is_some none))
must_end running at_last false None none h = absurd (false≢true h)
must_end running at_last false (Some i) none h =
    elim (at_last || not running) as (λ (e : Bool). option_or (cond false (Some Break) None) (option_map Watch (cond e None (Some i))) ≡ None → e ≡ true) [
      | true ↦ λ _. refl
      | false ↦ λ n. absurd (true≢false (ap is_some n))
    ] none

pub ends_where : (r : Run) (stops : StopList) (m : ℕ) → option_or (broken r stops m) (option_map Watch (watched r stops m)) ≡ None →
    (is_end r m ≡ true) ⊎ Ends (is_hit stops) r.journal (state r m) → is_end r m ≡ true
ends_where r stops m none h = elim h [
  | inl e ↦ e
  | inr e ↦ elim e [
    | inl stopped ↦ or_right (m == r.most) (not (is_running (state r m).status)) (not_from_false (is_running (state r m).status) stopped)
    | inr hit ↦ must_end (is_running (state r m).status) (m == r.most) (breaks_at stops (state r m)) (writes_from stops r.journal (state r m)) none hit
  ]
]

-- a move forward ends behind the place where it began
pub ends_forward : (r : Run) (stops : StopList) (p m : ℕ) (o : Option Hit) → p < m → o ≡ option_or (broken r stops m) (option_map Watch (watched r stops m)) → NothingHit (ahead r stops p) p m →
    (is_end r m ≡ true) ⊎ Ends (is_hit stops) r.journal (state r m) → EndsForward r stops p m o
ends_forward r stops p m (Some hit) l is nothing end = (omega arith, hit_behind r stops p m l ∙ sym is, nothing)
ends_forward r stops p m None l is nothing end = (omega arith, ends_where r stops m (sym is) end, nothing_more (ahead r stops p) p m nothing (hit_behind r stops p m l ∙ sym is))

-- before a place that is reached no place is the end
not_end : (r : Run) (p k : ℕ) → IsPlace r p → k < p → is_end r k ≡ false
not_end r p k h l =
    let small : p ≤ r.most = h.0 in
    let apart : k ≡ r.most → ⊥ = λ (e : k ≡ r.most). omega arith in
    (λ i. ne_eqb k r.most apart i || not (h.1 k l i))

-- what is seen at a place and the step from it
abbrev pub seen_at : Run → StopList → ℕ → Option (ℕ × Hit)
seen_at r stops k = seen stops r.journal k (state r k)

watched_is : (r : Run) (stops : StopList) (p k : ℕ) → IsPlace r p → k < p → watched r stops k ≡ writes_from stops r.journal (state r k)
watched_is r stops p k h l = ap (λ (e : Bool). cond e None (writes_from stops r.journal (state r k))) (not_end r p k h l)

-- nothing is seen: neither a write nor a breakpoint
unseen : (k : ℕ) (b : Bool) (o : Option ℕ) → option_or {T = ℕ × Hit} (option_map (λ i. (k + 1, Watch i)) o) (cond b (Some (k, Break)) None) ≡ None → (o ≡ None) × (b ≡ false)
unseen k b (Some i) h = absurd (true≢false (ap is_some h))
unseen k true None h = absurd (true≢false (ap is_some h))
unseen k false None h = (refl, refl)

-- At a place, and at the step to it, nothing is hit.
first_unhit : (r : Run) (stops : StopList) (p : ℕ) → (0 < p → breaks_at stops (state r 0) ≡ false) → behind r stops p 0 ≡ None
first_unhit r stops p h = elim (cases_lt 0 p) [
  | inl lt ↦ ap (λ (b : Bool). cond b (broken r stops 0) None) (lt-ltb 0 p lt) ∙ ap (λ (b : Bool). cond b (Some Break) None) (h lt)
  | inr ge ↦ ap (λ (b : Bool). cond b (broken r stops 0) None) (le-ltb 0 p ge)
]

next_unhit : (r : Run) (stops : StopList) (p m : ℕ) → IsPlace r p → m < p → writes_from stops r.journal (state r m) ≡ None → (suc m < p → breaks_at stops (state r (suc m)) ≡ false) → behind r stops p (suc m) ≡ None
next_unhit r stops p m h l none clear = elim (cases_lt (suc m) p) [
  | inl lt ↦ (λ i. option_or (cond (lt-ltb (suc m) p lt i) (cond (clear lt i) (Some Break) None) None) (option_map Watch ((watched_is r stops p m h l ∙ none) i)))
  | inr ge ↦ (λ i. option_or (cond (le-ltb (suc m) p ge i) (broken r stops (suc m)) None) (option_map Watch ((watched_is r stops p m h l ∙ none) i)))
]

-- nothing was seen from one place on and before another
abbrev pub NothingSeen : Run → StopList → ℕ → ℕ → Type 0
NothingSeen r stops low p = (j : ℕ) → low ≤ j → j < p → seen_at r stops j ≡ None

no_write : (r : Run) (stops : StopList) (j : ℕ) → seen_at r stops j ≡ None → writes_from stops r.journal (state r j) ≡ None
no_write r stops j h = (unseen j (breaks_at stops (state r j)) (writes_from stops r.journal (state r j)) h).0

no_break : (r : Run) (stops : StopList) (j : ℕ) → seen_at r stops j ≡ None → breaks_at stops (state r j) ≡ false
no_break r stops j h = (unseen j (breaks_at stops (state r j)) (writes_from stops r.journal (state r j)) h).1

-- behind a step that writes nothing watched nothing is hit, where nothing is seen from there on
unhit_from : (r : Run) (stops : StopList) (p k : ℕ) → IsPlace r p → writes_from stops r.journal (state r k) ≡ None → NothingSeen r stops (k + 1) p → NothingHit (behind r stops p) (k + 1) (p + 1)
unhit_from r stops p k h none clear zero above below = absurd (omega arith)
unhit_from r stops p k h none clear (suc m) above below =
    next_unhit r stops p m h (omega arith)
    (elim (cases_lt k m) [
      | inl lt ↦ no_write r stops m (clear m (omega arith) (omega arith))
      | inr ge ↦ (let same : k ≡ m = omega arith in subst (λ (j : ℕ). writes_from stops r.journal (state r j) ≡ None) same none)
    ])
    (λ lt. no_break r stops (suc m) (clear (suc m) (omega arith) lt))

-- the same behind the place that such a step leads to
unhit_behind : (r : Run) (stops : StopList) (p k : ℕ) → IsPlace r p → NothingSeen r stops (k + 1) p → NothingHit (behind r stops p) (k + 1 + 1) (p + 1)
unhit_behind r stops p k h clear zero above below = absurd (omega arith)
unhit_behind r stops p k h clear (suc m) above below =
    next_unhit r stops p m h (omega arith) (no_write r stops m (clear m (omega arith) (omega arith))) (λ lt. no_break r stops (suc m) (clear (suc m) (omega arith) lt))

-- the step from a place writes a watched byte
hit_write : (r : Run) (stops : StopList) (p k i : ℕ) → IsPlace r p → k < p → writes_from stops r.journal (state r k) ≡ Some i → NothingSeen r stops (k + 1) p → behind r stops p (suc k) ≡ Some (Watch i)
hit_write r stops p k i h l writes clear = elim (cases_lt (suc k) p) [
  | inl lt ↦
      (let quiet = no_break r stops (suc k) (clear (suc k) (omega arith) lt) in
      λ n. option_or (cond (lt-ltb (suc k) p lt n) (cond (quiet n) (Some Break) None) None) (option_map Watch ((watched_is r stops p k h l ∙ writes) n)))
  | inr ge ↦ (λ n. option_or (cond (le-ltb (suc k) p ge n) (broken r stops (suc k)) None) (option_map Watch ((watched_is r stops p k h l ∙ writes) n)))
]

-- a place is at a breakpoint
hit_break : (r : Run) (stops : StopList) (p k : ℕ) → k < p → breaks_at stops (state r k) ≡ true → behind r stops p k ≡ Some Break
hit_break r stops p zero l b = λ n. cond (lt-ltb 0 p l n) (cond (b n) (Some Break) None) None
hit_break r stops p (suc m) l b = λ n. option_or (cond (lt-ltb (suc m) p l n) (cond (b n) (Some Break) None) None) (option_map Watch (watched r stops m))

-- what is seen last ends a move backward
ends_seen : (r : Run) (stops : StopList) (p k : ℕ) (o : Option ℕ) (b : Bool) → IsPlace r p → k < p → writes_from stops r.journal (state r k) ≡ o → breaks_at stops (state r k) ≡ b → NothingSeen r stops (k + 1) p →
    IfSome {T = ℕ × Hit} (option_or (option_map (λ i. (k + 1, Watch i)) o) (cond b (Some (k, Break)) None)) (λ x. EndsBackward r stops p x.0 (Some x.1))
ends_seen r stops p k (Some i) b h l writes breaks clear =
    let next : suc k ≡ k + 1 = omega arith in
    (omega arith, ap (behind r stops p) (sym next) ∙ hit_write r stops p k i h l writes clear, unhit_behind r stops p k h clear)
ends_seen r stops p k None true h l writes breaks clear = (omega arith, hit_break r stops p k l breaks, unhit_from r stops p k h writes clear)
ends_seen r stops p k None false h l writes breaks clear = tt

pub ends_backward : (r : Run) (stops : StopList) (p k : ℕ) (x : ℕ × Hit) → IsPlace r p → k < p → seen_at r stops k ≡ Some x → NothingSeen r stops (k + 1) p → EndsBackward r stops p x.0 (Some x.1)
ends_backward r stops p k x h l saw clear =
    subst (λ (o : Option (ℕ × Hit)). IfSome o (λ y. EndsBackward r stops p y.0 (Some y.1))) saw
    (ends_seen r stops p k (writes_from stops r.journal (state r k)) (breaks_at stops (state r k)) h l refl refl clear)

-- nothing is seen at all
pub ends_at_first : (r : Run) (stops : StopList) (p : ℕ) → IsPlace r p → NothingSeen r stops 0 p → NothingHit (behind r stops p) 0 (p + 1)
ends_at_first r stops p h clear zero above below = first_unhit r stops p (λ some. no_break r stops 0 (clear 0 (omega arith) some))
ends_at_first r stops p h clear (suc m) above below =
    next_unhit r stops p m h (omega arith) (no_write r stops m (clear m (omega arith) (omega arith))) (λ lt. no_break r stops (suc m) (clear (suc m) (omega arith) lt))

-- where something is seen at a place, it is there or at the next one
near : (k : ℕ) (o : Option ℕ) (b : Bool) → IfSome {T = ℕ × Hit} (option_or (option_map (λ i. (k + 1, Watch i)) o) (cond b (Some (k, Break)) None)) (λ y. y.0 ≤ k + 1)
near k (Some i) b = omega arith
near k None true = omega arith
near k None false = tt

pub seen_near : (stops : StopList) (journal : List (List ℕ)) (k : ℕ) (s : MachineState) (x : ℕ × Hit) → seen stops journal k s ≡ Some x → x.0 ≤ k + 1
seen_near stops journal k s x h = subst (λ (o : Option (ℕ × Hit)). IfSome o (λ y. y.0 ≤ k + 1)) h (near k (writes_from stops journal s) (breaks_at stops s))

-- a move backward came to a place just where nothing was seen from there on
seen_none : (k : ℕ) (b : Bool) (o : Option ℕ) → cond b (Some Break) None ≡ None → o ≡ None → option_or {T = ℕ × Hit} (option_map (λ i. (k + 1, Watch i)) o) (cond b (Some (k, Break)) None) ≡ None
seen_none k true o h e = absurd (true≢false (ap is_some h))
seen_none k false o h e = ap (λ (x : Option ℕ). option_or {T = ℕ × Hit} (option_map (λ i. (k + 1, Watch i)) x) None) e

pub nothing_seen : (r : Run) (stops : StopList) (p q : ℕ) → IsPlace r p → CameBackward r stops p q → NothingSeen r stops q p
nothing_seen r stops p q place came k above below =
    let none = came.1 k above below in
    seen_none k (breaks_at stops (state r k)) (writes_from stops r.journal (state r k)) none.0 (sym (watched_is r stops p k place below) ∙ none.1)

pub came_there : (r : Run) (stops : StopList) (p q : ℕ) → IsPlace r p → q ≤ p → NothingSeen r stops q p → CameBackward r stops p q
came_there r stops p q place order clear =
    (order, λ k above below. (ap (λ (b : Bool). cond b (Some Break) None) (no_break r stops k (clear k above below)), watched_is r stops p k place below ∙ no_write r stops k (clear k above below)))
