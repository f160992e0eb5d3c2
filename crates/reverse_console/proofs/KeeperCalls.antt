-- How a call of a keeper is refused, and what it leaves.
use Rattle.std.proofs.Common.{◌≡◌, ℕ, ◌<◌, true, false, List, Some, None, Option, Result, Ok, Err, IfErr, refl, sym, ◌∙◌}
use Rattle.std.specs.Option.{is_some}
use Rattle.std.proofs.lemmas.Bool.{false≢true}
use Rattle.keepers.specs.declared.storage.Storage.{Ghosts}
use Rattle.reverse_runner.specs.Desks.{KeepersAre}
use Rattle.reverse_runner.specs.KeeperCallEffects.{IsKeeping, IsFetching}
use Rattle.reverse_runner.proofs.KeeperCalls.{are_as, are_then}
use Rattle.reverse_runner.specs.declared.fault.RunFault.{RunFault}
use Rattle.reverse_runner.specs.declared.fault.RunFault.TheVariants.{Keeper, Damaged, Visitor, Memory, Ended}
use Rattle.reverse_console.specs.Marks.{MarkPlan, mark_level, mark_count}
use Rattle.reverse_console.specs.Refusals.{IsOfPutting, IsNotGot}
use Rattle.reverse_console.specs.StateSources.{Source, IsMarkDamaged}

pub if_err_map : {T E : Type 0} (P Q : E → Type 0) (r : Result T E) → ((e : E) → P e → Q e) → IfErr r P → IfErr r Q
if_err_map P Q (Ok x) f h = tt
if_err_map P Q (Err e) f h = f e h

-- a mark isn't put on its level
pub of_putting : (p : MarkPlan) (i k : ℕ) → i < mark_count p → k ≡ mark_level p i → (fault : RunFault) → IsKeeping k fault → IsOfPutting p fault
of_putting p i k known at (Keeper j) h = (i, (known, h ∙ at))
of_putting p i k known at (Damaged j put got) h = absurd h
of_putting p i k known at Visitor h = absurd h
of_putting p i k known at Memory h = tt
of_putting p i k known at Ended h = absurd h

-- a mark isn't got, where its level can't be fetched from
pub of_fetching : (from : Source) (mark k : ℕ) → k ≡ mark_level from.plan mark → (fault : RunFault) → IsFetching k fault → ((j : ℕ) (put got : List ℕ) → fault ≡ Damaged j put got → IsMarkDamaged from mark j put got) → IsNotGot from mark fault
of_fetching from mark k at (Keeper j) h damaged = h ∙ at
of_fetching from mark k at (Damaged j put got) h damaged = damaged j put got refl
of_fetching from mark k at Visitor h damaged = absurd h
of_fetching from mark k at Memory h damaged = tt
of_fetching from mark k at Ended h damaged = absurd h

-- a test whether there is one
pub none_is_none : {A : Type 0} (o : Option A) → o ≡ None → is_some o ≡ true → ⊥
none_is_none None e h = false≢true h
none_is_none (Some x) e h = absurd cc

pub none_from : {A : Type 0} (o : Option A) → is_some o ≡ false → o ≡ None
none_from None h = refl
none_from (Some x) h = absurd (false≢true (sym h))

-- a call after some that were done
pub are_after : {K B : Type 0} (g : Ghosts K) (T : ℕ → Type 0) (s : Result B RunFault) (ks ls ms : List K) → KeepersAre {A = Unit} g T (Ok tt) ks ls → KeepersAre g T s ls ms → KeepersAre g T s ks ms
are_after g T s ks ls ms = are_then {A = Unit} g T (Ok tt) s ks ls ms (λ k e. absurd cc)

-- the answer of a call that was done was missed
pub are_missed : {K : Type 0} (g : Ghosts K) (T : ℕ → Type 0) (ks ls : List K) → KeepersAre {A = Unit} g T (Ok tt) ks ls → KeepersAre {A = Unit} g T (Err Visitor) ks ls
are_missed g T ks ls = are_as {A = Unit} {B = Unit} g T (Ok tt) (Err Visitor) ks ls (λ k e. absurd cc) (λ k e. absurd cc)
