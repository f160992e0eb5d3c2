-- What an order leaves, where its fault is passed on, and where it was done.
use Rattle.std.proofs.Common.{◌≡◌, ◌≢◌, ℕ, List, length, Option, Result, Ok, Err, IfOk, OnErr, sym, subst}
use Rattle.std.proofs.lemmas.Result.{IfErr-at_err, on_err_weaker}
use Rattle.keepers.specs.declared.storage.Storage.{Ghosts}
use Rattle.reverse_runner.specs.CallOutcome.{FaultsAfter}
use Rattle.reverse_runner.specs.KeepersSeen.{told_by}
use Rattle.reverse_runner.specs.declared.fault.RunFault.{RunFault}
use Rattle.reverse_runner.specs.declared.fault.RunFault.TheVariants.{Damaged, Visitor, Memory, Ended}
use Rattle.reverse_runner.proofs.KeeperCalls.{are_ok, are_err}
use Rattle.reverse_queries.proofs.Progress.{same_fault}
use Rattle.reverse_console.specs.declared.order.Order.{Order}
use Rattle.reverse_console.specs.ConsoleState.{ConsoleState, source_of}
use Rattle.reverse_console.specs.Costs.{TookUntil}
use Rattle.reverse_console.specs.OrderResults.{LeavesConsole, LeavesKeepers, AreSpared}
use Rattle.reverse_console.specs.ScriptAnswers.{Moment, LeavesOrder}
use Rattle.reverse_console.proofs.OrderCosts.{both_ways, pass_on}
use Rattle.reverse_console.proofs.MarkGets.{at_ok, err_at, ok_never}

-- what is said of an answer by two clauses
pub if_ok_both : {T E : Type 0} (P Q R : T → Type 0) (r : Result T E) → ((x : T) → P x → Q x → R x) → IfOk r P → IfOk r Q → IfOk r R
if_ok_both P Q R (Ok x) f p q = f x p q
if_ok_both P Q R (Err e) f p q = tt

-- a refusal is passed on
pub refused_on : {T U E : Type 0} (P : Type 0) (r : Result T E) (s : Result U E) (x : E) → r ≡ Err x → OnErr r P → OnErr s P
refused_on P r (Ok v) x e h = tt
refused_on P (Ok v) (Err y) x e h = absurd cc
refused_on P (Err z) (Err y) x e h = h

pub leaves_err : {T U : Type 0} (r : Result T RunFault) (s : Result U RunFault) (x y : RunFault) (old new : ConsoleState) → r ≡ Err x → s ≡ Err y → LeavesConsole r old new → LeavesConsole s old new
leaves_err r s x y old new first second h = record {
  goes_on = h.goes_on;
  lasts = ok_never _ s y second;
  stays = refused_on _ r s x first h.stays;
}

pub leaves_ok : {T U : Type 0} (r : Result T RunFault) (x : T) (y : U) (old new : ConsoleState) → r ≡ Ok x → LeavesConsole r old new → LeavesConsole {T = U} (Ok y) old new
leaves_ok r x y old new first h = record { goes_on = h.goes_on; lasts = at_ok r x first h.lasts; stays = tt }

pub spared_err : {K T U : Type 0} (seen : Ghosts K) (r : Result T RunFault) (s : Result U RunFault) (x y : RunFault) (console : ConsoleState) (ks : List K) → r ≡ Err x → s ≡ Err y → y ≡ x →
    AreSpared seen console r ks → AreSpared seen console s ks
spared_err seen r s x y console ks first second same h = record {
  not_ended = λ e. h.not_ended (same_fault r s x y Ended first second same e);
  undamaged = λ start is stands k put got e. h.undamaged start is stands k put got (same_fault r s x y (Damaged k put got) first second same e);
  roomy = λ has e. h.roomy has (same_fault r s x y Memory first second same e);
}

pub spared_ok : {K U : Type 0} (seen : Ghosts K) (y : U) (console : ConsoleState) (ks : List K) → AreSpared {T = U} seen console (Ok y) ks
spared_ok seen y console ks = record {
  not_ended = λ e. absurd cc;
  undamaged = λ start is stands k put got e. absurd cc;
  roomy = λ has e. absurd cc;
}

pub spared_missed : {K U : Type 0} (seen : Ghosts K) (console : ConsoleState) (ks : List K) → AreSpared {T = U} seen console (Err Visitor) ks
spared_missed seen console ks = record {
  not_ended = λ e. absurd cc;
  undamaged = λ start is stands k put got e. absurd cc;
  roomy = λ has e. absurd cc;
}

pub faults_err : {V T U : Type 0} (count : V → ℕ) (r : Result T RunFault) (s : Result U RunFault) (x y : RunFault) (old new : V) → r ≡ Err x → s ≡ Err y → y ≡ x →
    FaultsAfter count r old new → FaultsAfter count s old new
faults_err count r s x y old new first second same h = record {
  cause = λ e. h.cause (same_fault r s x y Visitor first second same e);
  quiet = λ ne. h.quiet (λ e. ne (pass_on r s x y Visitor first second same e));
  later = h.later;
}

pub faults_ok : {V T U : Type 0} (count : V → ℕ) (r : Result T RunFault) (x : T) (y : U) (old new : V) → r ≡ Ok x → FaultsAfter count r old new → FaultsAfter {A = U} count (Ok y) old new
faults_ok count r x y old new first h = record {
  cause = λ e. absurd cc;
  quiet = λ ne. h.quiet (λ e. both_ways r Visitor first e);
  later = h.later;
}

-- what an order that writes leaves, where its fault is passed on, and where it was done
pub order_err : {K T U : Type 0} (seen : Ghosts K) (order : Order) (r : Result T RunFault) (s : Result U RunFault) (x y : RunFault) (c c' : ConsoleState) (ks ls : List K) (old new : Moment) (before after : Option (List ℕ)) → r ≡ Err x → s ≡ Err y → y ≡ x →
    LeavesOrder seen order r c c' ks ls old new before after → LeavesOrder seen order s c c' ks ls old new before after
order_err seen order r s x y c c' ks ls old new before after first second same h =
    let Same : Type 0 = (after ≡ before) × (new.writes ≡ old.writes) in
    let F : RunFault → Type 0 = λ fault. TookUntil (source_of c (told_by seen ks)) c.place order fault old.steps new.steps old.calls new.calls in
    record {
      missed = λ e. h.missed (same_fault r s x y Visitor first second same e);
      unwritten = refused_on (s ≢ Err Visitor → Same) r s x first (on_err_weaker r (λ quiet ne. quiet (λ e. ne (pass_on r s x y Visitor first second same e))) h.unwritten);
      took_until = err_at F s y second (subst F (sym same) (IfErr-at_err F first h.took_until));
      leaves = leaves_err r s x y c c' first second h.leaves;
      spared = spared_err seen r s x y c ks first second same h.spared;
      keepers = record { same = h.keepers.same; are = are_err seen _ r s x y ks ls first second same h.keepers.are };
    }

pub order_ok : {K T U : Type 0} (seen : Ghosts K) (order : Order) (r : Result T RunFault) (x : T) (y : U) (c c' : ConsoleState) (ks ls : List K) (old new : Moment) (before after : Option (List ℕ)) → r ≡ Ok x →
    LeavesConsole r c c' → LeavesKeepers seen (length c.plan.slots) r ks ls → LeavesOrder {T = U} seen order (Ok y) c c' ks ls old new before after
order_ok seen order r x y c c' ks ls old new before after first left keepers = record {
  missed = λ e. absurd cc;
  unwritten = tt;
  took_until = tt;
  leaves = leaves_ok r x y c c' first left;
  spared = spared_ok seen y c ks;
  keepers = record { same = keepers.same; are = are_ok seen _ r x y ks ls first keepers.are };
}
