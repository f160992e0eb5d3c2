-- What a line tells before and after calls, one after the other.
use Rattle.std.proofs.Common.{◌≡◌, ℕ, zero, suc, ◌+◌, List, [], ◌∷◌, ◌++◌, length, take, Option, None, Some, refl, sym, ap, ◌∙◌, append-nil, append_assoc}
use Rattle.std.proofs.Math.Seq.{take-append-add}
use Rattle.keepers.specs.Claims.{Tells}
use Rattle.gdb_line.specs.Talk.{Talk, Comes, Goes, GoesPartly}
use Rattle.gdb_session.specs.declared.server.Server.{Server}
use Rattle.gdb_session.specs.Conversation.{Passes}
use Rattle.gdb_session.specs.ServerState.{Does, Holds, MayCome, GoesSome}

-- ---- what is told

pub tells_here : {A : Type 0} (x : Option A) (P : A → A → Type 0) → ((a : A) → P a a) → Tells x x P
tells_here None P h = tt
tells_here (Some a) P h = h a

pub tells_so : {A : Type 0} (x y : Option A) (P Q : A → A → Type 0) → ((a b : A) → P a b → Q a b) → Tells x y P → Tells x y Q
tells_so None None P Q f h = tt
tells_so None (Some b) P Q f h = absurd h
tells_so (Some a) None P Q f h = absurd h
tells_so (Some a) (Some b) P Q f h = f a b h

pub tells_then : {A : Type 0} (x y z : Option A) (P Q R : A → A → Type 0) → ((a b c : A) → P a b → Q b c → R a c) → Tells x y P → Tells y z Q → Tells x z R
tells_then None None None P Q R f h g = tt
tells_then None None (Some c) P Q R f h g = absurd g
tells_then None (Some b) z P Q R f h g = absurd h
tells_then (Some a) None z P Q R f h g = absurd h
tells_then (Some a) (Some b) None P Q R f h g = absurd g
tells_then (Some a) (Some b) (Some c) P Q R f h g = f a b c h g

-- ---- what passes

pub passes_none : (a : Talk) → Passes [] [] a a
passes_none a = (refl, sym (append-nil a.came), sym (append-nil a.went))

pub passes_then : (came went later more : List ℕ) (a b c : Talk) → Passes came went a b → Passes later more b c → Passes (came ++ later) (went ++ more) a c
passes_then came went later more a b c p q = (
  p.0 ∙ ap (λ (l : List ℕ). came ++ l) q.0 ∙ sym (append_assoc came later c.left),
  q.1 ∙ ap (λ (l : List ℕ). l ++ later) p.1 ∙ append_assoc a.came came later,
  q.2 ∙ ap (λ (l : List ℕ). l ++ more) p.2 ∙ append_assoc a.went went more,
)

pub comes_passes : (piece : List ℕ) (a b : Talk) → Comes piece a b → Passes piece [] a b
comes_passes piece a b h = (h.0, ap (λ (t : Talk). t.came) h.1, ap (λ (t : Talk). t.went) h.1 ∙ sym (append-nil a.went))

pub goes_passes : (piece : List ℕ) (a b : Talk) → Goes piece a b → Passes [] piece a b
goes_passes piece a b h = (sym (ap (λ (t : Talk). t.left) h), ap (λ (t : Talk). t.came) h ∙ sym (append-nil a.came), ap (λ (t : Talk). t.went) h)

pub passes_goes : (came went piece : List ℕ) (a b c : Talk) → Passes came went a b → Goes piece b c → Passes came (went ++ piece) a c
passes_goes came went piece a b c p goes = (
  p.0 ∙ ap (λ (l : List ℕ). came ++ l) (sym (ap (λ (t : Talk). t.left) goes)),
  ap (λ (t : Talk). t.came) goes ∙ p.1,
  ap (λ (t : Talk). t.went) goes ∙ ap (λ (l : List ℕ). l ++ piece) p.2 ∙ append_assoc a.went went piece,
)

pub none_comes : (a : Talk) → Comes [] a a
none_comes a = (refl, λ i. record a { came = sym (append-nil a.came) i })

pub none_goes : (a : Talk) → Goes [] a a
none_goes a = λ i. record a { went = sym (append-nil a.went) i }

-- ---- prefixes

-- what stands before more is a prefix
pub front_is_taken : (front more : List ℕ) → front ≡ take (length front) (front ++ more)
front_is_taken [] more = refl
front_is_taken (b ∷ front) more = λ i. b ∷ front_is_taken front more i

-- a prefix of a front is a prefix
pub front_taken : (k : ℕ) (bytes more : List ℕ) → (n : ℕ) × (take n (bytes ++ more) ≡ take k bytes)
front_taken zero bytes more = (0, refl)
front_taken (suc k) [] more = (0, refl)
front_taken (suc k) (b ∷ bytes) more = let shorter = front_taken k bytes more in (suc shorter.0, λ i. b ∷ shorter.1 i)

-- a prefix of what stands behind other bytes, with these, is a prefix
pub taken_behind : (went out all more : List ℕ) (k : ℕ) → all ≡ went ++ out → (n : ℕ) × (went ++ take k out ≡ take n (all ++ more))
taken_behind went out all more k e =
    let part = front_taken k out more in
    let whole : all ++ more ≡ went ++ (out ++ more) = ap (λ (l : List ℕ). l ++ more) e ∙ append_assoc went out more in (
      length went + part.0,
      ap (λ (l : List ℕ). went ++ l) (sym part.1) ∙ sym (take-append-add went (out ++ more) part.0) ∙ ap (λ (l : List ℕ). take (length went + part.0) l) (sym whole),
    )

-- ---- what a server does

pub does_adds : (s t : Server) (made : List ℕ) (a : Talk) → t.held.items ≡ s.held.items → t.out.items ≡ s.out.items ++ made → Does s t made a a
does_adds s t made a held out = ([], [], passes_none a, held ∙ sym (append-nil s.held.items), sym out)

pub does_none : (s t : Server) (a : Talk) → t.held.items ≡ s.held.items → t.out.items ≡ s.out.items → Does s t [] a a
does_none s t a held out = does_adds s t [] a held (out ∙ sym (append-nil s.out.items))

pub does_then : (s t u : Server) (made more : List ℕ) (a b c : Talk) → Does s t made a b → Does t u more b c → Does s u (made ++ more) a c
does_then s t u made more a b c p q = (
  p.0 ++ q.0,
  p.1 ++ q.1,
  passes_then p.0 p.1 q.0 q.1 a b c p.2 q.2,
  q.3 ∙ ap (λ (l : List ℕ). l ++ q.0) p.3 ∙ append_assoc s.held.items p.0 q.0,
  sym (append_assoc s.out.items made more) ∙ ap (λ (l : List ℕ). l ++ more) p.4 ∙ append_assoc p.1 t.out.items more ∙ ap (λ (l : List ℕ). p.1 ++ l) q.4 ∙ sym (append_assoc p.1 q.1 u.out.items),
)

-- all that was to go went
pub does_send : (s t : Server) (a b : Talk) → Goes s.out.items a b → t.held.items ≡ s.held.items → t.out.items ≡ [] → Does s t [] a b
does_send s t a b goes held out = (
  [],
  s.out.items,
  goes_passes s.out.items a b goes,
  held ∙ sym (append-nil s.held.items),
  ap (λ (l : List ℕ). s.out.items ++ l) (sym out),
)

-- bytes came
pub does_hold : (s t : Server) (a b : Talk) → Holds s t a b → t.out.items ≡ s.out.items → Does s t [] a b
does_hold s t a b h out = (h.0, [], comes_passes h.0 a b h.1, h.2, append-nil s.out.items ∙ sym out)

pub some_goes : (out : List ℕ) (a b : Talk) → GoesPartly out a b → GoesSome out a b
some_goes out a b h = ([], take h.0 out, h.0, goes_passes (take h.0 out) a b h.1, refl)

pub some_comes : (out : List ℕ) (a b : Talk) → MayCome a b → GoesSome out a b
some_comes out a b h = (h.0, [], 0, comes_passes h.0 a b h.1, refl)

pub none_passes : (out : List ℕ) (a : Talk) → GoesSome out a a
none_passes out a = ([], [], 0, passes_none a, refl)

-- behind what was done already
pub goes_after : (s t : Server) (made more : List ℕ) (a b c : Talk) → Does s t made a b → GoesSome t.out.items b c → GoesSome (s.out.items ++ (made ++ more)) a c
goes_after s t made more a b c p q =
    let n = taken_behind p.1 t.out.items (s.out.items ++ made) more q.2 p.4 in (
      p.0 ++ q.0,
      p.1 ++ q.1,
      n.0,
      passes_then p.0 p.1 q.0 q.1 a b c p.2 q.3,
      ap (λ (l : List ℕ). p.1 ++ l) q.4 ∙ n.1 ∙ ap (λ (l : List ℕ). take n.0 l) (append_assoc s.out.items made more),
    )
