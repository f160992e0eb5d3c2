-- How the calls of the keepers of a session add up.
use Rattle.reverse_runner.proofs.Common.{◌≡◌, ℕ, ◌+◌, ◌*◌, ◌∙◌, false, refl, ap, sym, subst, arith, Forward, Copy, Move, Dest, Work, Level, Keep, Store, is_write, raised, one_put, one_get, Calls, one_if, calls_of, RiseBy, RiseByAtMost, Called, CalledAtMost}

-- these calls and then those
abbrev pub calls_then : Calls → Calls → Calls
calls_then m n = record { puts = λ k. m.puts k + n.puts k; gets = λ k. m.gets k + n.gets k; frees = λ k. m.frees k + n.frees k }

-- numbers rise by so much and then by so much
rise_then : (m n a b c : ℕ → ℕ) → RiseBy m a b → RiseBy n b c → RiseBy (λ k. m k + n k) a c
rise_then m n a b c first second k = (let x = first k in let y = second k in omega (arith, x, y))

-- numbers that rise by so much rise by at most so much
rise_at_most : (m a b : ℕ → ℕ) → RiseBy m a b → RiseByAtMost m a b
rise_at_most m a b rise k = (let e = rise k in (omega (arith, e), omega (arith, e)))

-- numbers that rise by so much rise by as much
rise_same : (m n a b : ℕ → ℕ) → RiseBy m a b → ((k : ℕ) → m k ≡ n k) → RiseBy n a b
rise_same m n a b rise same k = rise k ∙ ap (raised (a k)) (same k)

-- these calls were made and then those
pub called_then : (m n a b c : Calls) → Called m a b → Called n b c → Called (calls_then m n) a c
called_then m n a b c first second = record {
  put_calls = rise_then m.puts n.puts a.puts b.puts c.puts first.put_calls second.put_calls;
  get_calls = rise_then m.gets n.gets a.gets b.gets c.gets first.get_calls second.get_calls;
  free_calls = rise_then m.frees n.frees a.frees b.frees c.frees first.free_calls second.free_calls;
}

-- where these calls were made, some of them were
pub at_most : (m a b : Calls) → Called m a b → CalledAtMost m a b
at_most m a b called = record {
  put_calls = rise_at_most m.puts a.puts b.puts called.put_calls;
  get_calls = rise_at_most m.gets a.gets b.gets called.get_calls;
  free_calls = rise_at_most m.frees a.frees b.frees called.free_calls;
}

-- calls that are the same by their numbers
pub called_same : (m n a b : Calls) → Called m a b → ((k : ℕ) → m.puts k ≡ n.puts k) → ((k : ℕ) → m.gets k ≡ n.gets k) → ((k : ℕ) → m.frees k ≡ n.frees k) → Called n a b
called_same m n a b called puts gets frees = record {
  put_calls = rise_same m.puts n.puts a.puts b.puts called.put_calls puts;
  get_calls = rise_same m.gets n.gets a.gets b.gets called.get_calls gets;
  free_calls = rise_same m.frees n.frees a.frees b.frees called.free_calls frees;
}

-- the calls of a Copy to a level: an image is got and put
pub called_copy : (n k j : ℕ) (a b c : Calls) → Called (one_get k) a b → Called (one_put j) b c → Called (calls_of (Copy n k (Level j))) a c
called_copy n k j a b c got put =
    called_same (calls_then (one_get k) (one_put j)) (calls_of (Copy n k (Level j))) a c (called_then (one_get k) (one_put j) a b c got put)
    (λ i. omega arith) (λ i. omega arith) (λ i. omega arith)

-- some of the calls of a Copy are some of those of the Move
pub some_moved : (n k : ℕ) (to : Dest) (a b : Calls) → CalledAtMost (calls_of (Copy n k to)) a b → CalledAtMost (calls_of (Move n k to)) a b
some_moved n k Work a b called = record { put_calls = called.put_calls; get_calls = called.get_calls; free_calls = λ j. (let f = called.free_calls j in (omega (arith, f), omega (arith, f))) }
some_moved n k (Level i) a b called = record { put_calls = called.put_calls; get_calls = called.get_calls; free_calls = λ j. (let f = called.free_calls j in (omega (arith, f), omega (arith, f))) }

-- an action without machine steps counts none
pub counts_none : (unit steps : ℕ) → steps ≡ steps + unit * 0
counts_none unit steps = omega arith

-- the calls of a Copy into work: an image is got
pub called_into_work : (n k : ℕ) (dest : Dest) (a b : Calls) → dest ≡ Work → Called (one_get k) a b → Called (calls_of (Copy n k dest)) a b
called_into_work n k dest a b is got =
    let P : Dest → Type 0 = λ d. Called (calls_of (Copy n k d)) a b in
    subst P (sym is) (record { put_calls = got.put_calls; get_calls = got.get_calls; free_calls = got.free_calls })

-- a Copy that only got its image made some of its calls
pub some_copied : (n k : ℕ) (dest : Dest) (a b : Calls) → Called (one_get k) a b → CalledAtMost (calls_of (Copy n k dest)) a b
some_copied n k Work a b got = at_most (calls_of (Copy n k Work)) a b (called_into_work n k Work a b refl got)
some_copied n k (Level j) a b got = record {
  put_calls = λ i. (let e = got.put_calls i in (omega (arith, e), omega (arith, e)));
  get_calls = rise_at_most (one_get k).gets a.gets b.gets got.get_calls;
  free_calls = rise_at_most (one_get k).frees a.frees b.frees got.free_calls;
}

-- the calls of a Forward that keeps nothing, or on the tape
pub called_no_keeper : (from to : ℕ) (keep : Keep) (a : Calls) → ((k : ℕ) → is_write k (Forward from to keep) ≡ false) → Called (calls_of (Forward from to keep)) a a
called_no_keeper from to keep a none =
    let same : RiseBy (λ _. 0) a.puts a.puts = λ k. omega arith in
    let rise = rise_same (λ _. 0) (calls_of (Forward from to keep)).puts a.puts a.puts same (λ k. ap one_if (sym (none k))) in
    record { put_calls = rise; get_calls = λ k. omega arith; free_calls = λ k. omega arith }

-- the calls of a Forward that stores: an image is put
pub called_stored : (from to k : ℕ) (keep : Keep) (a b : Calls) → keep ≡ Store k → Called (one_put k) a b → Called (calls_of (Forward from to keep)) a b
called_stored from to k keep a b is put =
    let P : Keep → Type 0 = λ x. Called (calls_of (Forward from to x)) a b in
    subst P (sym is) (record { put_calls = put.put_calls; get_calls = put.get_calls; free_calls = put.free_calls })
