-- Lines that were added, one after the other.
use Rattle.std.proofs.Common.{◌≡◌, ℕ, zero, suc, ◌+◌, List, [], ◌∷◌, ◌++◌, length, take, Option, None, Some, refl, sym, ap, subst, ◌∙◌, arith, append-nil, append_assoc, length-append, Result, Ok, Err, OnOk, OnErr}
use Rattle.std.specs.List.{concat}
use Rattle.std.proofs.lemmas.List.Folds.{concat-append}
use Rattle.std.proofs.Math.Seq.{take-append-add}
use Rattle.keepers.specs.Counts.{Rose, raised}
use Rattle.keepers.specs.Claims.{Tells, AddsPrefix}
use Rattle.keepers.specs.LineWrites.{Seen, AddsLines, StopsIn}

-- what is told after two calls
tells_then : (x y z : Option (List ℕ)) (P Q R : List ℕ → List ℕ → Type 0) → ((a b c : List ℕ) → P a b → Q b c → R a c) → Tells x y P → Tells y z Q → Tells x z R
tells_then None None None P Q R f h g = tt
tells_then None None (Some c) P Q R f h g = absurd g
tells_then None (Some b) z P Q R f h g = absurd h
tells_then (Some a) None z P Q R f h g = absurd h
tells_then (Some a) (Some b) None P Q R f h g = absurd g
tells_then (Some a) (Some b) (Some c) P Q R f h g = f a b c h g

pub tells_so : (x y : Option (List ℕ)) (P Q : List ℕ → List ℕ → Type 0) → ((a b : List ℕ) → P a b → Q a b) → Tells x y P → Tells x y Q
tells_so None None P Q f h = tt
tells_so None (Some b) P Q f h = absurd h
tells_so (Some a) None P Q f h = absurd h
tells_so (Some a) (Some b) P Q f h = f a b h

-- counts of calls
raised_then : (a b c j k : ℕ) → b ≡ raised a j → c ≡ raised b k → c ≡ raised a (j + k)
raised_then a b c j k e f = omega (arith, e, f)

-- a line that was stopped in
pub one_stopped : (line : List ℕ) (a b : Seen) → Tells a.told b.told (AddsPrefix line) → b.calls ≡ raised a.calls 1 → Rose a.faults b.faults → StopsIn (line ∷ []) a b
one_stopped line a b told calls cause = record {
  before = [];
  line = line;
  after = [];
  in_order = refl;
  told = tells_so a.told b.told (AddsPrefix line) (λ x y. AddsPrefix line (x ++ []) y) (λ x y is. (is.0, is.1 ∙ ap (λ (l : List ℕ). l ++ take is.0 line) (sym (append-nil x)))) told;
  calls = calls;
  cause = cause;
}

-- no line, and one that was added
pub none_added : (a : Seen) → AddsLines [] a a
none_added a = record { told = tells_same a.told; calls = omega arith; quiet = refl }
  where
    tells_same : (x : Option (List ℕ)) → Tells x x (λ a b. b ≡ a ++ concat [])
    tells_same None = tt
    tells_same (Some x) = sym (append-nil x)

pub one_added : (line : List ℕ) (a b : Seen) → Tells a.told b.told (λ x y. y ≡ x ++ line) → b.calls ≡ raised a.calls 1 → b.faults ≡ a.faults → AddsLines (line ∷ []) a b
one_added line a b told calls quiet = record {
  told = tells_so a.told b.told (λ x y. y ≡ x ++ line) (λ x y. y ≡ x ++ concat (line ∷ [])) (λ x y is. is ∙ ap (λ (l : List ℕ). x ++ l) (sym (append-nil line))) told;
  calls = calls;
  quiet = quiet;
}

-- lines behind lines
pub added_then : (xs ys : List (List ℕ)) (a b c : Seen) → AddsLines xs a b → AddsLines ys b c → AddsLines (xs ++ ys) a c
added_then xs ys a b c first second = record {
  told = tells_then a.told b.told c.told (λ x y. y ≡ x ++ concat xs) (λ x y. y ≡ x ++ concat ys) (λ x y. y ≡ x ++ concat (xs ++ ys))
      (λ x y z e f. f ∙ ap (λ (l : List ℕ). l ++ concat ys) e ∙ append_assoc x (concat xs) (concat ys) ∙ ap (λ (l : List ℕ). x ++ l) (sym (concat-append xs ys))) first.told second.told;
  calls = raised_then a.calls b.calls c.calls (length xs) (length ys) first.calls second.calls ∙ ap (raised a.calls) (sym (length-append xs ys));
  quiet = second.quiet ∙ first.quiet;
}

pub stopped_then : (xs ys : List (List ℕ)) (a b c : Seen) → AddsLines xs a b → StopsIn ys b c → StopsIn (xs ++ ys) a c
stopped_then xs ys a b c first stop =
    let more : length xs + (length stop.before + 1) ≡ length (xs ++ stop.before) + 1 = omega (arith, length-append xs stop.before) in
    let P : ℕ → Type 0 = λ n. Rose n c.faults in
    record {
      before = xs ++ stop.before;
      line = stop.line;
      after = stop.after;
      in_order = ap (λ (l : List (List ℕ)). xs ++ l) stop.in_order ∙ sym (append_assoc xs stop.before (stop.line ∷ stop.after));
      told = tells_then a.told b.told c.told (λ x y. y ≡ x ++ concat xs) (λ x y. AddsPrefix stop.line (x ++ concat stop.before) y) (λ x y. AddsPrefix stop.line (x ++ concat (xs ++ stop.before)) y)
          (λ x y z e is. (
            is.0,
            is.1 ∙ ap (λ (l : List ℕ). l ++ take is.0 stop.line)
                (ap (λ (l : List ℕ). l ++ concat stop.before) e ∙ append_assoc x (concat xs) (concat stop.before) ∙ ap (λ (l : List ℕ). x ++ l) (sym (concat-append xs stop.before))),
          )) first.told stop.told;
      calls = raised_then a.calls b.calls c.calls (length xs) (length stop.before + 1) first.calls stop.calls ∙ ap (raised a.calls) more;
      cause = subst P first.quiet stop.cause;
    }

-- the lines behind were not reached
pub stopped_before : (xs ys : List (List ℕ)) (a b : Seen) → StopsIn xs a b → StopsIn (xs ++ ys) a b
stopped_before xs ys a b stop = record {
  before = stop.before;
  line = stop.line;
  after = stop.after ++ ys;
  in_order = ap (λ (l : List (List ℕ)). l ++ ys) stop.in_order ∙ append_assoc stop.before (stop.line ∷ stop.after) ys;
  told = stop.told;
  calls = stop.calls;
  cause = stop.cause;
}

-- a prefix of a front is a prefix
front : (k : ℕ) (line rest : List ℕ) → (n : ℕ) × (take n (line ++ rest) ≡ take k line)
front zero line rest = (0, refl)
front (suc k) [] rest = (0, refl)
front (suc k) (x ∷ line) rest = let shorter = front k line rest in (suc shorter.0, λ i. x ∷ shorter.1 i)

-- a prefix of a line, behind the lines before it, is a prefix of the text
prefix_of_text : (lines before : List (List ℕ)) (line : List ℕ) (after : List (List ℕ)) (x y : List ℕ) → lines ≡ before ++ line ∷ after → AddsPrefix line (x ++ concat before) y → AddsPrefix (concat lines) x y
prefix_of_text lines before line after x y in_order is =
    let part = front is.0 line (concat after) in
    let text : concat before ++ (line ++ concat after) ≡ concat lines = sym (ap concat in_order ∙ concat-append before (line ∷ after)) in (
      length (concat before) + part.0,
      is.1 ∙ append_assoc x (concat before) (take is.0 line) ∙ ap (λ (l : List ℕ). x ++ (concat before ++ l)) (sym part.1)
          ∙ ap (λ (l : List ℕ). x ++ l) (sym (take-append-add (concat before) (line ++ concat after) part.0) ∙ ap (λ (l : List ℕ). take (length (concat before) + part.0) l) text),
    )

pub stopped_prefix : (lines : List (List ℕ)) (a b : Seen) → StopsIn lines a b → Tells a.told b.told (AddsPrefix (concat lines))
stopped_prefix lines a b stop =
    tells_so a.told b.told (λ x y. AddsPrefix stop.line (x ++ concat stop.before) y) (AddsPrefix (concat lines)) (λ x y. prefix_of_text lines stop.before stop.line stop.after x y stop.in_order) stop.told

-- ---- by how a write ended

-- the one write of a line
pub write_stopped : {T E : Type 0} (r : Result T E) (line piece : List ℕ) (a b : Seen) → piece ≡ line → OnErr r (Tells a.told b.told (AddsPrefix piece)) → b.calls ≡ raised a.calls 1 → OnErr r (Rose a.faults b.faults) →
    OnErr r (StopsIn (line ∷ []) a b)
write_stopped (Ok x) line piece a b e refused calls cause = tt
write_stopped (Err f) line piece a b e refused calls cause =
    let P : List ℕ → Type 0 = λ l. Tells a.told b.told (AddsPrefix l) in one_stopped line a b (subst P e refused) calls cause

pub err_always : {T E : Type 0} (r : Result T E) (P : Type 0) → P → OnErr r P
err_always (Ok x) P h = tt
err_always (Err f) P h = h

-- the last lines, behind others
pub last_told : {T E : Type 0} (r : Result T E) (xs ys lines : List (List ℕ)) (a b c : Seen) → xs ++ ys ≡ lines → AddsLines xs a b → OnOk r (AddsLines ys b c) →
    OnOk r (Tells a.told c.told (λ x y. y ≡ x ++ concat lines))
last_told (Ok x) xs ys lines a b c e first second =
    let P : List (List ℕ) → Type 0 = λ l. Tells a.told c.told (λ x y. y ≡ x ++ concat l) in
    let all = added_then xs ys a b c first second in
    subst P e all.told
last_told (Err f) xs ys lines a b c e first second = tt

pub last_stopped : {T E : Type 0} (r : Result T E) (xs ys lines : List (List ℕ)) (a b c : Seen) → xs ++ ys ≡ lines → AddsLines xs a b → OnErr r (StopsIn ys b c) → OnErr r (StopsIn lines a c)
last_stopped (Ok x) xs ys lines a b c e first stop = tt
last_stopped (Err f) xs ys lines a b c e first stop =
    let P : List (List ℕ) → Type 0 = λ l. StopsIn l a c in subst P e (stopped_then xs ys a b c first stop)

pub last_prefix : {T E : Type 0} (r : Result T E) (xs ys lines : List (List ℕ)) (a b c : Seen) → xs ++ ys ≡ lines → AddsLines xs a b → OnErr r (StopsIn ys b c) →
    OnErr r (Tells a.told c.told (AddsPrefix (concat lines)))
last_prefix (Ok x) xs ys lines a b c e first stop = tt
last_prefix (Err f) xs ys lines a b c e first stop =
    let P : List (List ℕ) → Type 0 = λ l. Tells a.told c.told (AddsPrefix (concat l)) in
    subst P e (stopped_prefix (xs ++ ys) a c (stopped_then xs ys a b c first stop))
