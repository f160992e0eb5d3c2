-- What an order takes.
use Rattle.std.proofs.Common.{◌≡◌, ◌≢◌, inl, inr, ℕ, ◌+◌, ◌-◌, ◌==◌, ◌<◌, ◌≤◌, Bool, if◌then◌else◌, cond, sum_by, List, [], ◌∷◌, ◌++◌, append-nil, Some, None, Option, unwrap_or, Result, Ok, Err, OnOk, IfOk, IfErr, refl, sym, ◌∙◌, ap, subst, arith, eq-eqb}
use Rattle.std.proofs.lemmas.Bool.{ne_eqb}
use Rattle.std.proofs.lemmas.List.Sums.{sum_by-append, sum_by-cons}
use Rattle.std.proofs.lemmas.Result.{IfErr-at_err}
use Rattle.keepers.specs.Claims.{Images}
use Rattle.rv_machine.specs.MachineState.{MachineState, IsMachineState}
use Rattle.rv_machine.specs.States.{state_number}
use Rattle.reverse_runner.specs.KeepersSeen.{Calls, Called}
use Rattle.reverse_runner.specs.declared.fault.RunFault.{RunFault}
use Rattle.reverse_runner.specs.declared.fault.RunFault.TheVariants.{Keeper, Damaged, Visitor, Memory, Ended}
use Rattle.reverse_console.specs.declared.order.Order.{Order}
use Rattle.reverse_console.specs.declared.order.Order.TheVariants.{Back, Step, Goto, BackTo, RunTo, BackChange, BackWrite}
use Rattle.reverse_console.specs.Answer.{IsFirst, IsGiven}
use Rattle.reverse_console.specs.Costs.{Effort, both, nothing, asking, way, looking, looking_on, effort_of, gets_of, Takes, BreaksLooking, BreaksBack, BreaksAt, IsSeenAt, StopsAt, TookUntil, marks_down}
use Rattle.reverse_console.specs.Refusals.{IsNotGot}
use Rattle.reverse_console.specs.Marks.{MarkPlan, marked, mark_level, mark_of, mark_count, marks_below}
use Rattle.reverse_console.proofs.Numbers.{marks_more}
use Rattle.input_journal.specs.Form.{IsRecorded}
use Rattle.reverse_runner.specs.SessionState.{SamePages}
use Rattle.reverse_runner.specs.declared.desk.Desk.{Desk}
use Rattle.reverse_console.specs.MarkInvariant.{StandAt, source}
use Rattle.reverse_console.specs.StateSources.{Source, ComesFrom}
use Rattle.reverse_console.proofs.MarkStates.{SourceStands, comes_from_run}

-- looking back broke off at the last mark that was asked for
last_back : (p : MarkPlan) (place mark : ℕ) (e : Effort) → BreaksBack p place mark e → (xs : List ℕ) × (e.marks ≡ xs ++ mark ∷ [])
last_back p place mark e b =
    let below = b.below in
    let next : mark + 1 - 1 ≡ mark = omega arith in
    let M : ℕ → Type 0 = λ i. marks_down (marks_below p place) i ≡ marks_down (marks_below p place) (mark + 1) ++ i ∷ [] in
    (marks_down (marks_below p place) (mark + 1), b.marks ∙ subst M next (marks_more (marks_below p place) (mark + 1) (omega arith) (omega (arith, below))))

-- how a place that isn't the end is looked on from
pub looked_on : (p : MarkPlan) (place : ℕ) (answer : Option ℕ) → place < p.count → record { marks = mark_of p place ∷ []; steps = unwrap_or answer p.count - marked p (mark_of p place) } ≡ looking_on p place answer
looked_on p place answer before =
    let e : Effort = record { marks = mark_of p place ∷ []; steps = unwrap_or answer p.count - marked p (mark_of p place) } in
    sym (ap (λ (b : Bool). if b then nothing else e) (ne_eqb place p.count (λ same. absurd (omega (arith, before, same)))))

-- the first behind a place, or the last where there is none, isn't before it
pub first_behind : (P : ℕ → Type 0) (place last : ℕ) (answer : Option ℕ) → place < last → IsFirst P place last answer → place ≤ unwrap_or answer last
first_behind P place last (Some m) before h = let above = h.1 in omega (arith, above)
first_behind P place last None before h = omega (arith, before)

-- a place was looked for, and gone to
pub takes_both : (p : MarkPlan) (e : Effort) (place : ℕ) (order : Order) (n steps mid steps' : ℕ) (calls calls' : Calls) → e ≡ looking p place order (Some n) → mid ≡ steps + e.steps → steps' ≡ mid + way p n n →
    Called (gets_of p (e.marks ++ mark_of p n ∷ [])) calls calls' → Takes p (effort_of p place order (Some n)) steps steps' calls calls'
takes_both p e place order n steps mid steps' calls calls' is looked gone called =
    let T : Effort → Type 0 = λ x. Takes p (both x (record { marks = mark_of p n ∷ []; steps = way p n n })) steps steps' calls calls' in
    subst T is (record { counted = omega (arith, looked, gone); called = called })

-- none was found
pub takes_none : (p : MarkPlan) (e : Effort) (place : ℕ) (order : Order) (steps steps' : ℕ) (calls calls' : Calls) → e ≡ looking p place order None → steps' ≡ steps + e.steps → Called (gets_of p e.marks) calls calls' →
    Takes p (effort_of p place order None) steps steps' calls calls'
takes_none p e place order steps steps' calls calls' is looked called =
    let T : Effort → Type 0 = λ x. Takes p (both x nothing) steps steps' calls calls' in
    let C : List ℕ → Type 0 = λ l. Called (gets_of p l) calls calls' in
    subst T is (record { counted = omega (arith, looked); called = subst C (sym (append-nil e.marks)) called })

-- a mark could not be got while the place was looked for
pub stops_looking : (from : Source) (place : ℕ) (order : Order) (fault : RunFault) (steps steps' : ℕ) (calls calls' : Calls) (e : Effort) → steps' ≡ steps + e.steps → Called (gets_of from.plan e.marks) calls calls' →
    (mark : ℕ) × (BreaksLooking from.plan place order mark e × IsNotGot from mark fault) → StopsAt from place order fault steps steps' calls calls'
stops_looking from place order fault steps steps' calls calls' e counted called b =
    record { mark = b.0; effort = e; at = inl b.1.0; not_got = b.1.1; takes = record { counted = counted; called = called } }

-- or while it was gone to
pub stops_going : (from : Source) (place : ℕ) (order : Order) (fault : RunFault) (n steps mid steps' : ℕ) (calls calls' : Calls) (e : Effort) → IsSeenAt from place order n → e ≡ looking from.plan place order (Some n) → mid ≡ steps + e.steps → steps' ≡ mid →
    Called (gets_of from.plan (e.marks ++ mark_of from.plan n ∷ [])) calls calls' → IsNotGot from (mark_of from.plan n) fault → StopsAt from place order fault steps steps' calls calls'
stops_going from place order fault n steps mid steps' calls calls' e seen is looked idle called missed = record {
  mark = mark_of from.plan n;
  effort = both e (asking (mark_of from.plan n));
  at = inr (n, (seen, record { mark_is = refl; effort_is = ap (λ (x : Effort). both x (asking (mark_of from.plan n))) is }));
  not_got = missed;
  takes = record { counted = omega (arith, looked, idle); called = called };
}

-- the mark at which an order broke off is the last that was asked for
pub last_asked : (IsFound : ℕ → Type 0) (p : MarkPlan) (place : ℕ) (order : Order) (mark : ℕ) (e : Effort) → BreaksAt IsFound p place order mark e → (xs : List ℕ) × (e.marks ≡ xs ++ mark ∷ [])
last_asked IsFound p place order mark e (inr going) =
    let b = going.1.1 in
    let xs = (looking p place order (Some going.0)).marks in
    (xs, ap (λ (x : Effort). x.marks) b.effort_is)
last_asked IsFound p place (Back k) mark e (inl looking) = absurd looking
last_asked IsFound p place (Step k) mark e (inl looking) = absurd looking
last_asked IsFound p place (Goto k) mark e (inl looking) = absurd looking
last_asked IsFound p place (BackTo address) mark e (inl b) = last_back p place mark e b
last_asked IsFound p place (RunTo address) mark e (inl b) = ([], ap (λ (x : Effort). x.marks) b.effort_is)
last_asked IsFound p place (BackChange word) mark e (inl b) = last_back p place mark e b
last_asked IsFound p place (BackWrite word) mark e (inl b) = last_back p place mark e b

-- its level is got from
pub level_asked : (p : MarkPlan) (xs ys : List ℕ) (mark k : ℕ) → ys ≡ xs ++ mark ∷ [] → k ≡ mark_level p mark → 0 < (gets_of p ys).gets k
level_asked p xs ys mark k is at =
    let f : ℕ → ℕ = λ i. cond (mark_level p i == k) 1 0 in
    let all = ap (λ (l : List ℕ). sum_by f l) is ∙ sum_by-append f xs (mark ∷ []) in
    let count : Bool → ℕ = λ b. cond b 1 0 in
    let one : count (mark_level p mark == k) ≡ 1 = ap count (eq-eqb (mark_level p mark) k (sym at)) in
    omega (arith, all, one, sum_by-cons f mark [])

-- what an order took up to a fault
pub took_until : (from : Source) (place : ℕ) (order : Order) (fault : RunFault) (steps steps' : ℕ) (calls calls' : Calls) → (fault ≢ Visitor → StopsAt from place order fault steps steps' calls calls') → TookUntil from place order fault steps steps' calls calls'
took_until from place order (Keeper k) steps steps' calls calls' stops = stops (λ e. cc)
took_until from place order (Damaged k put got) steps steps' calls calls' stops = stops (λ e. cc)
took_until from place order Visitor steps steps' calls calls' stops = tt
took_until from place order Memory steps steps' calls calls' stops = stops (λ e. cc)
took_until from place order Ended steps steps' calls calls' stops = absurd (stops (λ e. cc)).not_got

-- ---- the answer over a run

pub given_of_seen : {V : Type 0} (got : V → ℕ → MachineState → V → Type 0) (first : MachineState) (from : Source) (index : ℕ → ℕ) (stands : SourceStands first from) (answer : Option ℕ) (found : Bool) (place place' : ℕ) (before after : V) →
    IsGiven got (λ n s. ComesFrom from (index n) n s) answer found place place' before after → IsGiven got (λ n s. s ≡ state_number first from.journal n) answer found place place' before after
given_of_seen got first from index stands (Some n) found place place' before after h =
    (h.0, h.1, (h.2.0, (comes_from_run first from (index n) n h.2.0 stands h.2.1.0, h.2.1.1)))
given_of_seen got first from index stands None found place place' before after h = h

pub if_ok_map : {T E : Type 0} (P Q : T → Type 0) (r : Result T E) → ((x : T) → P x → Q x) → IfOk r P → IfOk r Q
if_ok_map P Q (Ok x) f h = f x h
if_ok_map P Q (Err e) f h = tt

pub fault_of : {T : Type 0} (r : Result T RunFault) (P : RunFault → Type 0) (Q : Type 0) (fault : RunFault) → r ≡ Err fault → IfErr r P → (P fault → Q) → Q
fault_of r P Q fault is h f = f (IfErr-at_err P is h)

pub on_ok_always : {T E P : Type 0} (r : Result T E) → P → OnOk r P
on_ok_always (Ok x) q = q
on_ok_always (Err e) q = tt

-- a console whose marks stand for a run is a source that does
pub source_stands : (first : MachineState) (p : MarkPlan) (journal : List (List ℕ)) (desk : Desk) (told : ℕ → Option Images) → IsMachineState first → IsRecorded journal → SamePages desk.work first →
    StandAt first journal p (mark_count p) desk.store told → SourceStands first (source p journal desk told)
source_stands first p journal desk told is recorded machine levels = record { is = is; recorded = recorded; machine = machine; levels = levels }

-- ---- what results say of one another

pub both_ways : {T E : Type 0} (r : Result T E) {x : T} (y : E) → r ≡ Ok x → r ≡ Err y → ⊥
both_ways r y first second = cc

-- a fault that isn't the visitor's is not what a call answered
pub other_fault : {T : Type 0} (r : Result T RunFault) (x y : RunFault) → r ≡ Err x → y ≡ x → y ≢ Visitor → r ≢ Err Visitor
other_fault r x y first same other e = other cc

-- a fault of a call is that which is passed on
pub pass_on : {T U E : Type 0} (r : Result T E) (s : Result U E) (x y z : E) → r ≡ Err x → s ≡ Err y → y ≡ x → r ≡ Err z → s ≡ Err z
pass_on r s x y z first second same last = cc

-- an error is no answer
pub never_done : {T E : Type 0} (P : T → Type 0) (r : Result T E) (x : E) → r ≡ Err x → IfOk r P
never_done P (Ok v) x e = absurd cc
never_done P (Err y) x e = tt
