-- What a line tells at last, counts of faults, and which fault it is.
use Rattle.std.proofs.Common.{◌≡◌, ℕ, ◌≤◌, Option, None, Some, Result, Ok, Err, OnOk, OnErr, IfOk, MatchOption, refl, sym, ap, ◌∙◌, subst, arith}
use Rattle.keepers.specs.Counts.{Rose}
use Rattle.keepers.specs.Claims.{Tells, WhereTold}
use Rattle.gdb_session.specs.declared.server.ServeFault.TheVariants as fault
use Rattle.gdb_session.specs.declared.server.TalkFault.{TalkFault}
use Rattle.gdb_session.specs.declared.server.TalkFault.TheVariants as talk
use Rattle.gdb_session.specs.SessionFields.{serve_fault}

-- a fact about what is told at last goes in
pub tells_where : {A : Type 0} (x y : Option A) (P Q : A → A → Type 0) (F : A → Type 0) → ((a b : A) → P a b → F b → Q a b) → Tells x y P → WhereTold y F → Tells x y Q
tells_where None None P Q F f h g = tt
tells_where None (Some b) P Q F f h g = absurd h
tells_where (Some a) None P Q F f h g = absurd h
tells_where (Some a) (Some b) P Q F f h g = f a b h g

pub where_told : {A : Type 0} (x y : Option A) (P : A → A → Type 0) (F : A → Type 0) → ((a b : A) → P a b → F b) → Tells x y P → WhereTold y F
where_told None None P F f h = tt
where_told None (Some b) P F f h = absurd h
where_told (Some a) None P F f h = absurd h
where_told (Some a) (Some b) P F f h = f a b h

-- a count that rose has risen since before
pub rose_since : (a b c : ℕ) → a ≤ b → Rose b c → Rose a c
rose_since a b c later rose = omega (arith, later, rose)

pub where_here : {A : Type 0} (x : Option A) (F : A → Type 0) → ((a : A) → F a) → WhereTold x F
where_here None F f = tt
where_here (Some a) F f = f a

pub where_so : {A : Type 0} (x : Option A) (F G : A → Type 0) → ((a : A) → F a → G a) → WhereTold x F → WhereTold x G
where_so None F G f h = tt
where_so (Some a) F G f h = f a h

-- a fact about what was told goes on to what is told then
pub where_then : {A : Type 0} (x y : Option A) (F : A → Type 0) (P : A → A → Type 0) (G : A → Type 0) → ((a b : A) → F a → P a b → G b) → WhereTold x F → Tells x y P → WhereTold y G
where_then None None F P G f h g = tt
where_then None (Some b) F P G f h g = absurd g
where_then (Some a) None F P G f h g = absurd g
where_then (Some a) (Some b) F P G f h g = f a b h g

-- ---- results

pub at_any_ok : {A E : Type 0} (r : Result A E) (P : Type 0) → P → OnOk r P
at_any_ok (Ok a) P p = p
at_any_ok (Err e) P p = tt

pub at_any_err : {A E : Type 0} (r : Result A E) (P : Type 0) → P → OnErr r P
at_any_err (Ok a) P p = tt
at_any_err (Err e) P p = p

pub if_ok_so : {A E : Type 0} (r : Result A E) (P Q : A → Type 0) → ((a : A) → P a → Q a) → IfOk r P → IfOk r Q
if_ok_so (Ok a) P Q f h = f a h
if_ok_so (Err e) P Q f h = tt

abbrev error_or : {A E : Type 0} → E → Result A E → E
error_or e (Ok a) = e
error_or e (Err f) = f

-- the results of two calls that failed alike
pub fails_alike : {A B E : Type 0} (r : Result A E) (e f : E) → r ≡ Err e → r ≡ Err f → ◌≡◌ {A = Result B E} (Err e) (Err f)
fails_alike r e f first second = ap Err (ap (error_or e) (sym first ∙ second))

-- ---- cases

pub some_case : {A : Type 0} (P : Type 0) (Q : A → Type 0) (o : Option A) (a : A) → o ≡ Some a → MatchOption o P Q → Q a
some_case {A} P Q o a is h = subst (λ (x : Option A). MatchOption x P Q) is h

pub none_case : {A : Type 0} (P : Type 0) (Q : A → Type 0) (o : Option A) → o ≡ None → MatchOption o P Q → P
none_case {A} P Q o is h = subst (λ (x : Option A). MatchOption x P Q) is h

-- ---- which fault it is

pub line_fault : (e : TalkFault) → serve_fault e ≡ fault.Line → e ≡ talk.Line
line_fault talk.Line is = refl
line_fault talk.Memory is = cc

pub never_much : (e : TalkFault) → serve_fault e ≡ fault.TooMuch → ⊥
never_much talk.Line is = cc
never_much talk.Memory is = cc

pub never_long : (e : TalkFault) → serve_fault e ≡ fault.TooLong → ⊥
never_long talk.Line is = cc
never_long talk.Memory is = cc
