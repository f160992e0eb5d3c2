-- Which calls an action makes of the keepers, and that a fault of a session fits the action that it refused.
use Rattle.std.proofs.Common.{◌≡◌, inl, inr, ℕ, zero, suc, ◌+◌, ◌==◌, ◌<◌, true, List, [], ◌∷◌, take, slice_get, Some, Contains, Result, Err, OnErr, IfErr, Ok, refl, sym, ◌∙◌, ap, subst, arith, add-one, eq-eqb}
use Rattle.std.proofs.lemmas.Bool.{false≢true}
use Rattle.std.proofs.lemmas.Option.{same_Some}
use Rattle.plan_types.specs.declared.action.Keep.TheVariants.{Nothing, Store, Tape}
use Rattle.plan_types.specs.declared.action.Dest.TheVariants.{Work, Level}
use Rattle.plan_types.specs.declared.action.Action.{Action}
use Rattle.plan_types.specs.declared.action.Action.TheVariants.{Forward, Reverse, Copy, Move, EndForward, EndReverse}
use Rattle.level_book.specs.Rules.{levels_named}
use Rattle.reverse_runner.specs.declared.fault.RunFault.{RunFault}
use Rattle.reverse_runner.specs.declared.fault.RunFault.TheVariants.{Keeper, Damaged, Visitor, Memory, Ended}
use Rattle.reverse_runner.specs.ActionEffects.{Holdings}
use Rattle.reverse_runner.specs.KeepersSeen.{calls_of, one_if}
use Rattle.reverse_runner.specs.VisitorCalls.{calls_keepers}
use Rattle.reverse_runner.specs.SessionOfRun.{pair_read, IsDamage}
use Rattle.reverse_queries.specs.ListExecution.{CallsKeeper, FaultFits}
use Rattle.reverse_queries.proofs.ActionLevels.{one_named, two_named, none_named}

-- a test that a number is this one counts one
one_here : (j k : ℕ) → k ≡ j → one_if (j == k) ≡ 1
one_here j k e = ap one_if (eq-eqb j k (sym e))

-- an action calls the keepers of the levels that it names
calls_named : (a : Action) (k : ℕ) → Contains (levels_named a) k → CallsKeeper a k
calls_named (Forward from to Nothing) k h = absurd (none_named k h)
calls_named (Forward from to (Store j)) k h = let e = one_here j k (one_named j k h) in omega (arith, e)
calls_named (Forward from to Tape) k h = absurd (none_named k h)
calls_named (Reverse from to) k h = absurd (none_named k h)
calls_named (Copy n i Work) k h = let e = one_here i k (one_named i k h) in omega (arith, e)
calls_named (Copy n i (Level j)) k h = elim (two_named i j k h) [ inl e ↦ (let o = one_here i k e in omega (arith, o)) | inr e ↦ (let o = one_here j k e in omega (arith, o)) ]
calls_named (Move n i Work) k h = let e = one_here i k (one_named i k h) in omega (arith, e)
calls_named (Move n i (Level j)) k h = elim (two_named i j k h) [ inl e ↦ (let o = one_here i k e in omega (arith, o)) | inr e ↦ (let o = one_here j k e in omega (arith, o)) ]
calls_named EndForward k h = absurd (none_named k h)
calls_named EndReverse k h = absurd (none_named k h)

-- one that calls keepers calls that of some level
calls_one : (a : Action) → calls_keepers a ≡ true → (k : ℕ) × CallsKeeper a k
calls_one (Forward from to Nothing) h = absurd (false≢true h)
calls_one (Forward from to (Store j)) h = (j, (let o = one_here j j refl in omega (arith, o)))
calls_one (Forward from to Tape) h = absurd (false≢true h)
calls_one (Reverse from to) h = absurd (false≢true h)
calls_one (Copy n i dest) h = (i, (let o = one_here i i refl in omega (arith, o)))
calls_one (Move n i dest) h = (i, (let o = one_here i i refl in omega (arith, o)))
calls_one EndForward h = absurd (false≢true h)
calls_one EndReverse h = absurd (false≢true h)

-- one that reads a pair gets an image of its level
pub gets_pair : (a : Action) (n k : ℕ) → pair_read a ≡ Some (n, k) → 0 < (calls_of a).gets k
gets_pair (Forward from to keep) n k e = absurd cc
gets_pair (Reverse from to) n k e = absurd cc
gets_pair (Copy m i dest) n k e = let o = one_here i k (ap (λ (p : ℕ × ℕ). p.1) (sym (same_Some _ _ e))) in omega (arith, o)
gets_pair (Move m i dest) n k e = let o = one_here i k (ap (λ (p : ℕ × ℕ). p.1) (sym (same_Some _ _ e))) in omega (arith, o)
gets_pair EndForward n k e = absurd cc
gets_pair EndReverse n k e = absurd cc

-- the fault of a refused action fits it, by what is known of each fault
pub fault_fits : {T : Type 0} (Misses : Action → Holdings → Type 0) (a : Action) (s : Holdings) (r : Result T RunFault) (fault : RunFault) → r ≡ Err fault →
    ((k : ℕ) → r ≡ Err (Keeper k) → Contains (levels_named a) k) → ((k : ℕ) (put got : List ℕ) → r ≡ Err (Damaged k put got) → IsDamage a s k put got) →
    (r ≡ Err Memory → calls_keepers a ≡ true) → (r ≡ Err Visitor → Misses a s) → (r ≡ Err Ended → ⊥) → FaultFits Misses fault a s
fault_fits Misses a s r (Keeper k) is keeper damaged wants missed over = calls_named a k (keeper k is)
fault_fits Misses a s r (Damaged k put got) is keeper damaged wants missed over = damaged k put got is
fault_fits Misses a s r Visitor is keeper damaged wants missed over = missed is
fault_fits Misses a s r Memory is keeper damaged wants missed over = calls_one a (wants is)
fault_fits Misses a s r Ended is keeper damaged wants missed over = over is

-- the last element of a front of a list stands at that place of the list
get_of_take : {A : Type 0} (xs : List A) (i : ℕ) → slice_get (take (i + 1) xs) i ≡ slice_get xs i
get_of_take xs i = ap (λ n. slice_get (take n xs) i) (add-one i) ∙ by_suc xs i
  where
    by_suc : {A : Type 0} (xs : List A) (i : ℕ) → slice_get (take (suc i) xs) i ≡ slice_get xs i
    by_suc [] i = refl
    by_suc (x ∷ xs) zero = refl
    by_suc (x ∷ xs) (suc i) = by_suc xs i

-- two lists with the same front have the same last element of it
pub same_there : {A : Type 0} (xs ys : List A) (i : ℕ) (a : A) → take (i + 1) ys ≡ take (i + 1) xs → slice_get xs i ≡ Some a → slice_get ys i ≡ Some a
same_there xs ys i a same at = sym (get_of_take ys i) ∙ ap (λ l. slice_get l i) same ∙ get_of_take xs i ∙ at

-- a fact of a fault that is known
pub if_err_at : {T E : Type 0} (P : E → Type 0) (r : Result T E) (fault : E) → r ≡ Err fault → P fault → IfErr r P
if_err_at {T} {E} P r fault is h = let Q : Result T E → Type 0 = λ s. IfErr s P in subst Q (sym is) h

-- a fact of a fault, by three facts of the refusal
pub if_err_three : {T E A B C : Type 0} {P : E → Type 0} (r : Result T E) → ((fault : E) → r ≡ Err fault → A → B → C → P fault) → OnErr r A → OnErr r B → OnErr r C → IfErr r P
if_err_three (Ok x) f a b c = tt
if_err_three (Err e) f a b c = f e refl a b c
