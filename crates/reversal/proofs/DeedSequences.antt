-- What was done of a list of deeds, one after the other.
use Rattle.std.proofs.Common.{◌≡◌, ℕ, zero, suc, ◌+◌, ◌<◌, ◌≤◌, List, [], ◌∷◌, ◌++◌, length, take, append-nil, append_assoc, Option, None, Some, refl, sym, ◌∙◌, ap, subst, arith, slice_get, sum_by}
use Rattle.std.proofs.lemmas.Grind.{flat_map-append}
use Rattle.std.proofs.lemmas.Option.{none-some}
use Rattle.std.proofs.lemmas.List.Sums.{sum_by-append}
use Rattle.keepers.specs.Counts.{raised}
use Rattle.keepers.specs.Claims.{Tells, AddsPrefix}
use Rattle.schedule_rules.proofs.VerdictReasons.{take_one_more}
use Rattle.reverse_runner.specs.KeepersSeen.{Calls, Called, CalledAtMost}
use Rattle.reversal.specs.Output.{Adds}
use Rattle.reversal.specs.Moment.{Moment, NothingFails, KeeperFails, AllTell}
use Rattle.reversal.specs.Deeds.{Deed, CallsLevel, bytes_of, bytes_written, writes_made, calls_made, Did}
use Rattle.reversal.specs.RunTrace.{AllLevels, SparesNext, UnreachedNext}
use Rattle.reversal.specs.Course.{Shown, Course, AddsAndPart, DidUntil, BreaksOff, FailsAt, DamagedAt, Halts}

-- what is told after two calls
pub tells_then : {A : Type 0} (x y z : Option A) (P Q R : A → A → Type 0) → ((a b c : A) → P a b → Q b c → R a c) → Tells x y P → Tells y z Q → Tells x z R
tells_then None None None P Q R f h g = tt
tells_then None None (Some c) P Q R f h g = absurd g
tells_then None (Some b) z P Q R f h g = absurd h
tells_then (Some a) None z P Q R f h g = absurd h
tells_then (Some a) (Some b) None P Q R f h g = absurd g
tells_then (Some a) (Some b) (Some c) P Q R f h g = f a b c h g

pub tells_so : {A : Type 0} (x y : Option A) (P Q : A → A → Type 0) → ((a b : A) → P a b → Q a b) → Tells x y P → Tells x y Q
tells_so None None P Q f h = tt
tells_so None (Some b) P Q f h = absurd h
tells_so (Some a) None P Q f h = absurd h
tells_so (Some a) (Some b) P Q f h = f a b h

-- where nothing was written, nothing was added
pub tells_nothing : (x y : Option (List ℕ)) → y ≡ x → Tells x y (Adds [])
tells_nothing x y e = let P : Option (List ℕ) → Type 0 = λ z. Tells x z (Adds []) in subst P (sym e) (same x)
  where
    same : (x : Option (List ℕ)) → Tells x x (Adds [])
    same None = tt
    same (Some bytes) = sym (append-nil bytes)

-- these bytes were added, and then those
pub adds_then : (x y z : Option (List ℕ)) (front some : List ℕ) → Tells x y (Adds front) → Tells y z (Adds some) → Tells x z (Adds (front ++ some))
adds_then x y z front some =
    tells_then x y z (Adds front) (Adds some) (Adds (front ++ some)) (λ a b c p q. q ∙ ap (λ l. l ++ some) p ∙ append_assoc a front some)

-- and a part of a piece
pub part_then : (x y z : Option (List ℕ)) (front some piece : List ℕ) → Tells x y (Adds front) → Tells y z (AddsAndPart some piece) → Tells x z (AddsAndPart (front ++ some) piece)
part_then x y z front some piece =
    tells_then x y z (Adds front) (AddsAndPart some piece) (AddsAndPart (front ++ some) piece)
    (λ a b c p q. (q.0, q.1 ∙ ap (λ l. l ++ take q.0 piece) (ap (λ l. l ++ some) p ∙ append_assoc a front some)))

-- with nothing before it
pub part_first : (x y : Option (List ℕ)) (piece : List ℕ) → Tells x y (AddsPrefix piece) → Tells x y (AddsAndPart [] piece)
part_first x y piece = tells_so x y (AddsPrefix piece) (AddsAndPart [] piece) (λ a b p. (p.0, p.1 ∙ ap (λ l. l ++ take p.0 piece) (sym (append-nil a))))

-- the front of a longer list
pub get_front : {X : Type 0} (xs ys : List X) (i : ℕ) (x : X) → slice_get xs i ≡ Some x → slice_get (xs ++ ys) i ≡ Some x
get_front [] ys i x e = absurd (none-some x e)
get_front (z ∷ xs) ys zero x e = e
get_front (z ∷ xs) ys (suc i) x e = get_front xs ys i x e

pub take_front : {X : Type 0} (xs ys : List X) (i : ℕ) (x : X) → slice_get xs i ≡ Some x → take i (xs ++ ys) ≡ take i xs
take_front [] ys i x e = absurd (none-some x e)
take_front (z ∷ xs) ys zero x e = refl
take_front (z ∷ xs) ys (suc i) x e = ap (λ l. z ∷ l) (take_front xs ys i x e)

-- counts of calls
pub raised_then : (a b c j k : ℕ) → b ≡ raised a j → c ≡ raised b k → c ≡ raised a (j + k)
raised_then a b c j k e f = omega (arith, e, f)

pub raised_none : (a : ℕ) → a ≡ raised a 0
raised_none a = omega arith

-- at least a part, and at most all
low_part : (a b c j : ℕ) → b ≡ raised a j → b ≤ c → raised a j ≤ c
low_part a b c j e least = omega (arith, e, least)

high_part : (a b c j k : ℕ) → b ≡ raised a j → c ≤ raised b k → c ≤ raised a (j + k)
high_part a b c j k e most = omega (arith, e, most)

-- no deed was done where nothing changed
pub did_none : (a b : Moment) → b.told ≡ a.told → b.writes ≡ a.writes → b.steps ≡ a.steps → b.calls ≡ a.calls → Did [] a b
did_none a b e f g h = record {
  added = tells_nothing a.told b.told e;
  wrote = f ∙ raised_none a.writes;
  counted = omega (arith, g);
  called = record {
    put_calls = λ k. ap (λ (c : Calls). c.puts k) h ∙ raised_none (a.calls.puts k);
    get_calls = λ k. ap (λ (c : Calls). c.gets k) h ∙ raised_none (a.calls.gets k);
    free_calls = λ k. ap (λ (c : Calls). c.frees k) h ∙ raised_none (a.calls.frees k);
  };
}

-- these deeds and then those
pub did_then : (ds es : List Deed) (a b c : Moment) → Did ds a b → Did es b c → Did (ds ++ es) a c
did_then ds es a b c d e = record {
  added = tells_then a.told b.told c.told (Adds (bytes_written ds)) (Adds (bytes_written es)) (Adds (bytes_written (ds ++ es))) (λ x y z p q.
      q ∙ ap (λ l. l ++ bytes_written es) p ∙ append_assoc x (bytes_written ds) (bytes_written es)
      ∙ ap (λ l. x ++ l) (sym (flat_map-append (λ (d : Deed). bytes_of d.pieces) ds es))) d.added e.added;
  wrote =
      raised_then a.writes b.writes c.writes (writes_made ds) (writes_made es) d.wrote e.wrote
      ∙ ap (raised a.writes) (sym (sum_by-append (λ (d : Deed). length d.pieces) ds es));
  counted = let two = sum_by-append (λ (d : Deed). d.steps) ds es in omega (arith, two, d.counted, e.counted);
  called = record {
    put_calls = λ k.
        raised_then (a.calls.puts k) (b.calls.puts k) (c.calls.puts k) ((calls_made ds).puts k) ((calls_made es).puts k) (d.called.put_calls k) (e.called.put_calls k)
        ∙ ap (raised (a.calls.puts k)) (sym (sum_by-append (λ (d : Deed). d.calls.puts k) ds es));
    get_calls = λ k.
        raised_then (a.calls.gets k) (b.calls.gets k) (c.calls.gets k) ((calls_made ds).gets k) ((calls_made es).gets k) (d.called.get_calls k) (e.called.get_calls k)
        ∙ ap (raised (a.calls.gets k)) (sym (sum_by-append (λ (d : Deed). d.calls.gets k) ds es));
    free_calls = λ k.
        raised_then (a.calls.frees k) (b.calls.frees k) (c.calls.frees k) ((calls_made ds).frees k) ((calls_made es).frees k) (d.called.free_calls k) (e.called.free_calls k)
        ∙ ap (raised (a.calls.frees k)) (sym (sum_by-append (λ (d : Deed). d.calls.frees k) ds es));
  };
}

-- a deed that was done, by what was added, how often the sink was called, the steps, and the calls of keepers
pub did_one : (d : Deed) (a b : Moment) (bytes : List ℕ) (writes : ℕ) → bytes_of d.pieces ≡ bytes → length d.pieces ≡ writes →
    Tells a.told b.told (Adds bytes) → b.writes ≡ raised a.writes writes → b.steps ≡ a.steps + d.steps → Called d.calls a.calls b.calls → Did (d ∷ []) a b
did_one d a b bytes writes is_bytes is_writes added wrote counted called = record {
  added =
      let P : List ℕ → Type 0 = λ l. Tells a.told b.told (Adds l) in
      subst P (sym is_bytes ∙ sym (append-nil (bytes_of d.pieces))) added;
  wrote = omega (arith, wrote, is_writes);
  counted = omega (arith, counted);
  called = record {
    put_calls = λ k. let h = called.put_calls k in omega (arith, h);
    get_calls = λ k. let h = called.get_calls k in omega (arith, h);
    free_calls = λ k. let h = called.free_calls k in omega (arith, h);
  };
}

-- and one more
pub did_one_more : (ds : List Deed) (i : ℕ) (d : Deed) (a b c : Moment) → slice_get ds i ≡ Some d → Did (take i ds) a b → Did (d ∷ []) b c → Did (take (i + 1) ds) a c
did_one_more ds i d a b c at before one =
    let P : List Deed → Type 0 = λ es. Did es a c in
    subst P (sym (take_one_more ds i d at)) (did_then (take i ds) (d ∷ []) a b c before one)

-- so many calls by a moment after which none were made
still_called : (m a b c : Calls) → Called m a b → CalledAtMost (record { puts = λ _. 0; gets = λ _. 0; frees = λ _. 0 }) b c → Called m a c
still_called m a b c called none = record {
  put_calls = λ k. let h = called.put_calls k in let n = none.put_calls k in omega (arith, h, n.0, n.1);
  get_calls = λ k. let h = called.get_calls k in let n = none.get_calls k in omega (arith, h, n.0, n.1);
  free_calls = λ k. let h = called.free_calls k in let n = none.free_calls k in omega (arith, h, n.0, n.1);
}

-- of the next deed some pieces were written, and a part of the one behind them
pub is_until : (ds : List Deed) (i : ℕ) (d : Deed) (whole : ℕ) (piece : List ℕ) (a b c : Moment) → slice_get ds i ≡ Some d → slice_get d.pieces whole ≡ Some piece →
    Did (take i ds) a b → Tells b.told c.told (AddsAndPart (bytes_of (take whole d.pieces)) piece) → c.writes ≡ raised b.writes (whole + 1) → c.steps ≡ b.steps →
    CalledAtMost (record { puts = λ _. 0; gets = λ _. 0; frees = λ _. 0 }) b.calls c.calls → DidUntil ds i a c
is_until ds i d whole piece a b c at next before part wrote still uncalled =
    let front = bytes_written (take i ds) in
    let some = bytes_of (take whole d.pieces) in
    record {
      deed = d;
      there = at;
      whole = whole;
      piece = piece;
      next = next;
      added = part_then a.told b.told c.told front some piece before.added part;
      wrote = raised_then a.writes b.writes c.writes (writes_made (take i ds)) (whole + 1) before.wrote wrote;
      counted = omega (arith, before.counted, still);
      called = still_called (calls_made (take i ds)) a.calls b.calls c.calls before.called uncalled;
    }

-- of the first piece a part
pub is_until_first : (ds : List Deed) (i : ℕ) (d : Deed) (piece : List ℕ) (a b c : Moment) → slice_get ds i ≡ Some d → slice_get d.pieces 0 ≡ Some piece →
    Did (take i ds) a b → Tells b.told c.told (AddsPrefix piece) → c.writes ≡ raised b.writes 1 → c.steps ≡ b.steps →
    CalledAtMost (record { puts = λ _. 0; gets = λ _. 0; frees = λ _. 0 }) b.calls c.calls → DidUntil ds i a c
is_until_first ds i d piece a b c at next before part wrote still uncalled =
    is_until ds i d 0 piece a b c at next before (part_first b.told c.told piece part) wrote still uncalled

-- the sum over one deed more
one_more : (f : Deed → ℕ) (ds : List Deed) (i : ℕ) (d : Deed) → slice_get ds i ≡ Some d → sum_by f (take (i + 1) ds) ≡ sum_by f (take i ds) + f d
one_more f ds i d at =
    let whole = ap (sum_by f) (take_one_more ds i d at) in
    let two = sum_by-append f (take i ds) (d ∷ []) in
    omega (arith, whole, two)

-- the deeds before one were done, and that one not, but that it made some of its calls, and took no more steps than it may
pub broke_off_spending : (ds : List Deed) (i : ℕ) (d : Deed) (a b c : Moment) → slice_get ds i ≡ Some d → Did (take i ds) a b → c.told ≡ b.told → c.writes ≡ b.writes → b.steps ≤ c.steps → c.steps ≤ b.steps + d.spent →
    CalledAtMost d.calls b.calls c.calls → (breaks : BreaksOff ds i a c) × (breaks.next ≡ d)
broke_off_spending ds i d a b c at before told writes least spent called =
    let P : Option (List ℕ) → Type 0 = λ o. Tells a.told o (Adds (bytes_written (take i ds))) in
    let most = λ (f : Deed → ℕ). one_more f ds i d at in (
      record {
        next = d;
        there = at;
        added = subst P (sym told) before.added;
        wrote = writes ∙ before.wrote;
        steps_least = omega (arith, before.counted, least);
        steps_most = omega (arith, before.counted, spent);
        called = record {
          put_calls = λ k. (
            low_part (a.calls.puts k) (b.calls.puts k) (c.calls.puts k) ((calls_made (take i ds)).puts k) (before.called.put_calls k) (called.put_calls k).0,
            (let high = high_part (a.calls.puts k) (b.calls.puts k) (c.calls.puts k) ((calls_made (take i ds)).puts k) (d.calls.puts k) (before.called.put_calls k) (called.put_calls k).1 in
                let P : ℕ → Type 0 = λ n. c.calls.puts k ≤ raised (a.calls.puts k) n in subst P (sym (most (λ (e : Deed). e.calls.puts k))) high),
          );
          get_calls = λ k. (
            low_part (a.calls.gets k) (b.calls.gets k) (c.calls.gets k) ((calls_made (take i ds)).gets k) (before.called.get_calls k) (called.get_calls k).0,
            (let high = high_part (a.calls.gets k) (b.calls.gets k) (c.calls.gets k) ((calls_made (take i ds)).gets k) (d.calls.gets k) (before.called.get_calls k) (called.get_calls k).1 in
                let P : ℕ → Type 0 = λ n. c.calls.gets k ≤ raised (a.calls.gets k) n in subst P (sym (most (λ (e : Deed). e.calls.gets k))) high),
          );
          free_calls = λ k. (
            low_part (a.calls.frees k) (b.calls.frees k) (c.calls.frees k) ((calls_made (take i ds)).frees k) (before.called.free_calls k) (called.free_calls k).0,
            (let high = high_part (a.calls.frees k) (b.calls.frees k) (c.calls.frees k) ((calls_made (take i ds)).frees k) (d.calls.frees k) (before.called.free_calls k) (called.free_calls k).1 in
                let P : ℕ → Type 0 = λ n. c.calls.frees k ≤ raised (a.calls.frees k) n in subst P (sym (most (λ (e : Deed). e.calls.frees k))) high),
          );
        };
      },
      refl,
    )

-- and took none
pub broke_off : (ds : List Deed) (i : ℕ) (d : Deed) (a b c : Moment) → slice_get ds i ≡ Some d → Did (take i ds) a b → c.told ≡ b.told → c.writes ≡ b.writes → c.steps ≡ b.steps →
    CalledAtMost d.calls b.calls c.calls → (breaks : BreaksOff ds i a c) × (breaks.next ≡ d)
broke_off ds i d a b c at before told writes steps called = broke_off_spending ds i d a b c at before told writes (omega (arith, steps)) (omega (arith, steps)) called

-- ---- how a course ends in a deed that broke off

module _ (course : Course) (shown : Shown) (i : ℕ) (d : Deed) (a c : Moment) (broke : (breaks : BreaksOff (course.deeds shown) i a c) × (breaks.next ≡ d)) where
  -- the keeper of a level that the deed calls failed there
  pub failed_at : (level : ℕ) → CallsLevel d level → course.holds (UnreachedNext level) shown i a c → course.stops shown i level a c → KeeperFails level a c → FailsAt course shown i level a c
  failed_at level calls held stopped fails =
      let C : Deed → Type 0 = λ e. CallsLevel e level in
      record { breaks = broke.0; calls = subst C (sym broke.1) calls; held = held; stopped_so = stopped; fails = fails }

  -- an image of a level that the deed gets was damaged there
  pub damaged_at : (level : ℕ) (put got : List ℕ) → 0 < d.calls.gets level → course.damage shown i level put got a c → (AllTell course.levels a.images → ⊥) → course.holds AllLevels shown i a c → NothingFails a c → DamagedAt course shown i level put got a c
  damaged_at level put got gets damaged silent held quiet =
      let C : Deed → Type 0 = λ e. 0 < e.calls.gets level in
      record { breaks = broke.0; gets = subst C (sym broke.1) gets; damaged = damaged; silent = silent; held = held; quiet = quiet }

  -- the deed wanted memory
  pub halted_at : course.may_want d → course.holds SparesNext shown i a c → NothingFails a c → Halts course shown i a c
  halted_at wants held quiet = record { breaks = broke.0; wants = subst course.may_want (sym broke.1) wants; held = held; quiet = quiet }
