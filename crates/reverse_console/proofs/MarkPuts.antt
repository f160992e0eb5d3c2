-- Marks that are set one after the other.
use Rattle.std.proofs.Common.{◌≡◌, ℕ, zero, suc, ◌+◌, ◌-◌, ◌==◌, ◌<◌, ◌≤◌, Bool, cond, List, Result, Ok, Err, refl, sym, ◌∙◌, ap, subst, inl, inr, arith, add-one, eq-eqb}
use Rattle.std.proofs.lemmas.Bool.{cases_lt}
use Rattle.std.proofs.lemmas.Result.{IfErr-at_err}
use Rattle.revolve_gen.specs.Places.{places_on}
use Rattle.rv_machine.specs.MachineState.{MachineState}
use Rattle.rv_machine.specs.States.{state_number}
use Rattle.rv_machine.proofs.Runs.{state_number-add}
use Rattle.reverse_runner.specs.KeepersSeen.{Calls, Called, CalledAtMost, RiseBy, RiseByAtMost}
use Rattle.reverse_runner.specs.KeeperCallEffects.{one_put}
use Rattle.reverse_runner.proofs.AllCalls.{called_then, called_same, calls_then}
use Rattle.reverse_runner.specs.declared.fault.RunFault.{RunFault}
use Rattle.reverse_runner.specs.declared.fault.RunFault.TheVariants.{Keeper}
use Rattle.reverse_queries.proofs.Progress.{same_fault}
use Rattle.reverse_console.specs.Costs.{puts_of, PutsMarks}
use Rattle.reverse_console.specs.Marks.{MarkPlan, marked, mark_level, stride}
use Rattle.reverse_console.specs.Refusals.{IsOfPutting}
use Rattle.reverse_console.proofs.MarkGets.{at_ok, err_at, ok_never}
use Rattle.reverse_console.proofs.Numbers.{one_less}

one_more : (level : ℕ → ℕ) (k i : ℕ) → places_on level k i + cond (level i == k) 1 0 ≡ places_on level k (i + 1)
one_more level k i = ap (places_on level k) (sym (add-one i))

-- one mark more was put
pub puts_more : (p : MarkPlan) (i : ℕ) (a b c : Calls) → Called (puts_of p i) a b → Called (one_put (mark_level p i)) b c → Called (puts_of p (i + 1)) a c
puts_more p i a b c first second =
    called_same (calls_then (puts_of p i) (one_put (mark_level p i))) (puts_of p (i + 1)) a c (called_then (puts_of p i) (one_put (mark_level p i)) a b c first second) (λ k. one_more (mark_level p) k i) (λ k. refl) (λ k. refl)

pub puts_none : (p : MarkPlan) (a : Calls) → Called (puts_of p 0) a a
puts_none p a = record { put_calls = λ k. omega arith; get_calls = λ k. omega arith; free_calls = λ k. omega arith }

places_rise : (level : ℕ → ℕ) (k i j : ℕ) → i ≤ j → places_on level k i ≤ places_on level k j
places_rise level k i zero le = let e : i ≡ 0 = omega (arith, le) in let same = ap (places_on level k) e in omega (arith, same)
places_rise level k i (suc j) le = elim (cases_lt j i) [
  | inl lt ↦ (let e : i ≡ suc j = omega (arith, le, lt) in let same = ap (places_on level k) e in omega (arith, same))
  | inr ge ↦ (let before = places_rise level k i j ge in omega (arith, before))
]

within_more : (m n a b : ℕ → ℕ) → ((k : ℕ) → m k ≤ n k) → RiseBy m a b → RiseByAtMost n a b
within_more m n a b le rise k =
    let e = rise k in
    let more = le k in
    (omega (arith, e), omega (arith, e, more))

-- those that were put are no more than all
pub puts_within : (p : MarkPlan) (i count : ℕ) (a b : Calls) → i ≤ count → Called (puts_of p i) a b → CalledAtMost (puts_of p count) a b
puts_within p i count a b le called = record {
  put_calls = within_more (puts_of p i).puts (puts_of p count).puts a.puts b.puts (λ k. places_rise (mark_level p) k i count le) called.put_calls;
  get_calls = within_more (puts_of p i).gets (puts_of p count).gets a.gets b.gets (λ k. omega arith) called.get_calls;
  free_calls = within_more (puts_of p i).frees (puts_of p count).frees a.frees b.frees (λ k. omega arith) called.free_calls;
}

-- the steps from one mark lead to the next
pub next_state : (first : MachineState) (journal : List (List ℕ)) (p : MarkPlan) (i : ℕ) (work work' : MachineState) → 0 < i → work ≡ state_number first journal (marked p (i - 1)) → work' ≡ state_number work journal (stride p) →
    work' ≡ state_number first journal (marked p i)
next_state first journal p i work work' some here there =
    there ∙ ap (λ x. state_number x journal (stride p)) here ∙ sym (state_number-add first journal (marked p (i - 1)) (stride p)) ∙ ap (state_number first journal) (sym (one_less p i some))

less_one : (i : ℕ) → i + 1 - 1 ≡ i
less_one i = omega arith

pub same_mark : (p : MarkPlan) (i : ℕ) → marked p (i + 1 - 1) ≡ marked p i
same_mark p i = ap (marked p) (less_one i)

-- a level on which a mark is put is put on
pub some_place : (level : ℕ → ℕ) (k i count : ℕ) → i < count → level i ≡ k → 0 < places_on level k count
some_place level k i count lt e =
    let one : cond (level i == k) 1 0 ≡ 1 = ap (λ (b : Bool). let n : ℕ = cond b 1 0 in n) (eq-eqb (level i) k e) in
    let here = one_more level k i in
    let rise = places_rise level k (i + 1) count (omega (arith, lt)) in
    omega (arith, one, here, rise)

-- what setting the marks takes, where its fault is passed on, and where it was done
pub puts_marks_err : {T U : Type 0} (p : MarkPlan) (r : Result T RunFault) (s : Result U RunFault) (x y : RunFault) (steps steps' : ℕ) (calls calls' : Calls) → r ≡ Err x → s ≡ Err y → y ≡ x →
    PutsMarks p r steps steps' calls calls' → PutsMarks p s steps steps' calls calls'
puts_marks_err p r s x y steps steps' calls calls' first second same h = record {
  counted = ok_never _ s y second;
  called = ok_never _ s y second;
  counted_at_most = h.counted_at_most;
  called_at_most = h.called_at_most;
  putting = err_at (IsOfPutting p) s y second (subst (IsOfPutting p) (sym same) (IfErr-at_err (IsOfPutting p) first h.putting));
  put_until = λ k e. h.put_until k (same_fault r s x y (Keeper k) first second same e);
}

pub puts_marks_ok : {T U : Type 0} (p : MarkPlan) (r : Result T RunFault) (x : T) (y : U) (steps steps' : ℕ) (calls calls' : Calls) → r ≡ Ok x →
    PutsMarks p r steps steps' calls calls' → PutsMarks {T = U} p (Ok y) steps steps' calls calls'
puts_marks_ok p r x y steps steps' calls calls' first h = record {
  counted = at_ok r x first h.counted;
  called = at_ok r x first h.called;
  counted_at_most = h.counted_at_most;
  called_at_most = h.called_at_most;
  putting = tt;
  put_until = λ k e. absurd cc;
}
