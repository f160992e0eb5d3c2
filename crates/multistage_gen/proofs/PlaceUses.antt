-- How often a list of Revolve names a place, by the numbers of its stretches.
use Rattle.std.proofs.Common.{◌≡◌, ◌==◌, ℕ, zero, suc, ◌+◌, ◌-◌, ◌≤◌, Bool, true, false, cond, nat_le, List, [], ◌∷◌, ◌++◌, refl, sym, ap, ◌∙◌, subst, arith, append_assoc}
use Rattle.std.proofs.lemmas.Bool.Decides.{nat_tests}
use Rattle.std.proofs.lemmas.List.Sums.{sum_by-cons, sum_by-append}
use Rattle.plan_types.specs.declared.action.Keep.TheVariants.{Nothing, Store}
use Rattle.plan_types.specs.declared.action.Dest.TheVariants.{Work}
use Rattle.plan_types.specs.declared.action.Action.{Action}
use Rattle.plan_types.specs.declared.action.Action.TheVariants.{Forward, Copy, Move, EndReverse}
use Rattle.binomials.specs.Advances.{split}
use Rattle.binomials.specs.Laws.{IsStretch}
use Rattle.revolve_gen.specs.Stack.{stack_step, held_after, held_at_end, place_written, place_read, written, read, times}
use Rattle.revolve_gen.specs.RevolveList.{one_step, fresh, held, revolve}
use Rattle.revolve_gen.proofs.RevolveRules.{fresh_bound, held_bound, split_of}
use Rattle.multistage_gen.specs.Numbers.{begun_writes, held_writes, begun_visits, held_visits}

-- one list after another
pub written_both : (h : ℕ) (xs ys : List Action) → written h (xs ++ ys) ≡ written h xs ++ written (held_at_end h xs) ys
written_both h [] ys = refl
written_both h (x ∷ xs) ys =
    let s = stack_step x in
    ap (λ r. place_written h s ++ r) (written_both (held_after h s) xs ys) ∙ sym (append_assoc (place_written h s) (written (held_after h s) xs) (written (held_at_end h (x ∷ xs)) ys))

pub read_both : (h : ℕ) (xs ys : List Action) → read h (xs ++ ys) ≡ read h xs ++ read (held_at_end h xs) ys
read_both h [] ys = refl
read_both h (x ∷ xs) ys =
    let s = stack_step x in
    ap (λ r. place_read h s ++ r) (read_both (held_after h s) xs ys) ∙ sym (append_assoc (place_read h s) (read (held_after h s) xs) (read (held_at_end h (x ∷ xs)) ys))

end_both : (h : ℕ) (xs ys : List Action) → held_at_end h (xs ++ ys) ≡ held_at_end (held_at_end h xs) ys
end_both h [] ys = refl
end_both h (x ∷ xs) ys = end_both (held_after h (stack_step x)) xs ys

times_both : (q : ℕ) (xs ys : List ℕ) → times q (xs ++ ys) ≡ times q xs + times q ys
times_both q xs ys = sum_by-append (λ r. cond (r == q) 1 0) xs ys

times_one : (q p : ℕ) → times q (p ∷ []) ≡ cond (p == q) 1 0
times_one q p = sum_by-cons (λ r. cond (r == q) 1 0) p [] ∙ omega arith

-- from a height to another, the list writes place q so often, and writes or reads it so often
record Names (q h end : ℕ) (list : List Action) (writes visits : ℕ) : Type 0 where
  are_written : times q (written h list) ≡ writes
  are_visited : times q (written h list) + times q (read h list) ≡ visits
  ends : held_at_end h list ≡ end

names_both : (q h m end : ℕ) (xs ys : List Action) (w v w' v' : ℕ) → Names q h m xs w v → Names q m end ys w' v' → Names q h end (xs ++ ys) (w + w') (v + v')
names_both q h m end xs ys w v w' v' a b =
    let ws : times q (written h (xs ++ ys)) ≡ times q (written h xs) + times q (written m ys) =
    ap (times q) (written_both h xs ys) ∙ times_both q (written h xs) (written (held_at_end h xs) ys) ∙ ap (λ k. times q (written h xs) + times q (written k ys)) a.ends in
    let rs : times q (read h (xs ++ ys)) ≡ times q (read h xs) + times q (read m ys) =
    ap (times q) (read_both h xs ys) ∙ times_both q (read h xs) (read (held_at_end h xs) ys) ∙ ap (λ k. times q (read h xs) + times q (read k ys)) a.ends in
    let aw = a.are_written in
    let av = a.are_visited in
    let bw = b.are_written in
    let bv = b.are_visited in
    record {
      are_written = omega (arith, ws, aw, bw);
      are_visited = omega (arith, ws, rs, av, bv);
      ends = end_both h xs ys ∙ ap (λ k. held_at_end k ys) a.ends ∙ b.ends;
    }

-- one action, and then a list
names_more : (q h end : ℕ) (a : Action) (rest : List Action) (x y w v : ℕ) → times q (place_written h (stack_step a)) ≡ x → times q (place_read h (stack_step a)) ≡ y →
    Names q (held_after h (stack_step a)) end rest w v → Names q h end (a ∷ rest) (x + w) (x + y + v)
names_more q h end a rest x y w v e f k =
    let s = stack_step a in
    let ws = times_both q (place_written h s) (written (held_after h s) rest) in
    let rs = times_both q (place_read h s) (read (held_after h s) rest) in
    let kw = k.are_written in
    let kv = k.are_visited in
    record {
      are_written = omega (arith, ws, e, kw);
      are_visited = omega (arith, ws, rs, e, f, kv);
      ends = k.ends;
    }

names_as : (q h end : ℕ) (list : List Action) (w v w' v' : ℕ) → w ≡ w' → v ≡ v' → Names q h end list w v → Names q h end list w' v'
names_as q h end list w v w' v' e f k = record { are_written = k.are_written ∙ e; are_visited = k.are_visited ∙ f; ends = k.ends }

step_names : (first : Bool) (q h b : ℕ) → Names q h h (one_step first b) 0 0
step_names true q h b = record { are_written = refl; are_visited = refl; ends = refl }
step_names false q h b = record { are_written = refl; are_visited = refl; ends = refl }

-- with the image of b on top, at place p
move_names : (q b k p : ℕ) → Names q (p + 1) p (Move b k Work ∷ one_step false b) 0 (cond (p == q) 1 0)
move_names q b k p =
    let top : (p + 1) - 1 ≡ p = omega arith in
    let x = cond {A = ℕ} (p == q) 1 0 in
    names_as q (p + 1) p _ (0 + 0) (0 + x + 0) 0 x (omega arith) (omega arith)
    (names_more q (p + 1) p (Move b k Work) (one_step false b) 0 x 0 0 refl (ap (λ t. times q (t ∷ [])) top ∙ times_one q p)
    (subst (λ t. Names q t p (one_step false b) 0 0) (sym top) (step_names false q p b)))

copy_names : (q b j k p : ℕ) (list : List Action) (w v : ℕ) → Names q (p + 1) p list w v → Names q (p + 1) p (Copy b k Work ∷ Forward b j Nothing ∷ list) w (cond (p == q) 1 0 + v)
copy_names q b j k p list w v is =
    let top : (p + 1) - 1 ≡ p = omega arith in
    let x = cond {A = ℕ} (p == q) 1 0 in
    names_as q (p + 1) p _ (0 + (0 + w)) (0 + x + (0 + 0 + v)) w (x + v) (omega arith) (omega arith)
    (names_more q (p + 1) p (Copy b k Work) (Forward b j Nothing ∷ list) 0 x (0 + w) (0 + 0 + v) refl (ap (λ t. times q (t ∷ [])) top ∙ times_one q p)
    (names_more q (p + 1) p (Forward b j Nothing) list 0 0 w v refl refl is))

store_names : (q b j k p : ℕ) (list : List Action) (w v : ℕ) → Names q (p + 1) p list w v → Names q p p (Forward b j (Store k) ∷ list) (cond (p == q) 1 0 + w) (cond (p == q) 1 0 + v)
store_names q b j k p list w v is =
    let x = cond {A = ℕ} (p == q) 1 0 in
    names_as q p p _ (x + w) (x + 0 + v) (x + w) (x + v) refl (omega arith)
    (names_more q p p (Forward b j (Store k)) list x 0 w v (times_one q p) refl is)

-- one of two lists, by the same test
either_names : (q h end : ℕ) (t : Bool) (xs ys : List Action) (w v w' v' : ℕ) → Names q h end xs w v → Names q h end ys w' v' → Names q h end (cond t xs ys) (cond t w w') (cond t v v')
either_names q h end true xs ys w v w' v' a b = a
either_names q h end false xs ys w v w' v' a b = b

moved_test : (t : Bool) (x v : ℕ) → cond t x (x + v) ≡ x + cond t 0 v
moved_test true x v = omega arith
moved_test false x v = refl

record StretchNames (more q : ℕ) (level : ℕ → ℕ) : Type 0 where
  for_fresh : (first : Bool) (b l c p : ℕ) → Names q p p (fresh more level first b l c p) (begun_writes more q l c p) (begun_visits more q l c p)
  for_held : (b l c p : ℕ) → Names q (p + 1) p (held more level b l c p) (held_writes more q l c p) (held_visits more q l c p)

stretch_names : (more q : ℕ) (level : ℕ → ℕ) → StretchNames more q level
unfolding fresh held begun_writes held_writes begun_visits held_visits
stretch_names zero q level = record {
  for_fresh = λ first b l c p. step_names first q p b;
  for_held = λ b l c p. move_names q b (level p) p;
}
stretch_names (suc more) q level =
    let inner = stretch_names more q level in
    let behind = λ (first : Bool) (b l c p : ℕ).
    names_both q (p + 1) (p + 1) p _ _ _ _ _ _ (inner.for_fresh first (b + split l c) (l - split l c) (c - 1) (p + 1)) (inner.for_held b (split l c) c p) in
    record {
      for_fresh = λ first b l c p. either_names q p p (nat_le l 1) _ _ _ _ _ _ (step_names first q p b)
          (store_names q b (b + split l c) (level p) p _ _ _ (behind first b l c p));
      for_held = λ b l c p.
          names_as q (p + 1) p _ _ _ _ _ refl (moved_test (nat_le l 1) (cond (p == q) 1 0) _)
          (either_names q (p + 1) p (nat_le l 1) _ _ _ _ _ _ (names_as q (p + 1) p _ 0 _ _ _ refl refl (move_names q b (level p) p))
          (copy_names q b (b + split l c) (level p) p _ _ _ (behind false b l c p)));
    }

-- a list of Revolve
revolve_names : (level : ℕ → ℕ) (q steps c : ℕ) → Names q 0 0 (revolve level steps c) (begun_writes steps q steps c 0) (begun_visits steps q steps c 0)
unfolding begun_writes begun_visits
revolve_names level q zero c = record { are_written = refl; are_visited = refl; ends = refl }
revolve_names level q (suc n) c =
    names_as q 0 0 _ (begun_writes (suc n) q (suc n) c 0 + 0) (begun_visits (suc n) q (suc n) c 0 + 0) _ _ (omega arith) (omega arith)
    (names_both q 0 0 0 _ (EndReverse ∷ []) _ _ 0 0 ((stretch_names (suc n) q level).for_fresh true 0 (suc n) c 0) (record { are_written = refl; are_visited = refl; ends = refl }))

pub revolve_writes : (level : ℕ → ℕ) (q steps c : ℕ) → times q (written 0 (revolve level steps c)) ≡ begun_writes steps q steps c 0
revolve_writes level q steps c = (revolve_names level q steps c).are_written

pub revolve_visits : (level : ℕ → ℕ) (q steps c : ℕ) → times q (written 0 (revolve level steps c)) + times q (read 0 (revolve level steps c)) ≡ begun_visits steps q steps c 0
revolve_visits level q steps c = (revolve_names level q steps c).are_visited

-- ---- the numbers, with bounds on the recursion that are the steps

module _ (more other q l c p : ℕ) (s : IsStretch l c) (h : l ≤ more) (g : l ≤ other) where
  abbrev level : ℕ → ℕ
  level _ = 0

  as_begun : Names q p p (fresh other level true 0 l c p) (begun_writes more q l c p) (begun_visits more q l c p)
  as_begun =
      subst (λ (list : List Action). Names q p p list (begun_writes more q l c p) (begun_visits more q l c p)) (fresh_bound more other level true 0 l c p s h g)
      ((stretch_names more q level).for_fresh true 0 l c p)

  as_held : Names q (p + 1) p (held other level 0 l c p) (held_writes more q l c p) (held_visits more q l c p)
  as_held =
      subst (λ (list : List Action). Names q (p + 1) p list (held_writes more q l c p) (held_visits more q l c p)) (held_bound more other level 0 l c p s h g)
      ((stretch_names more q level).for_held 0 l c p)

  begun_writes_same : begun_writes more q l c p ≡ begun_writes other q l c p
  begun_writes_same = sym as_begun.are_written ∙ ((stretch_names other q level).for_fresh true 0 l c p).are_written

  begun_visits_same : begun_visits more q l c p ≡ begun_visits other q l c p
  begun_visits_same = sym as_begun.are_visited ∙ ((stretch_names other q level).for_fresh true 0 l c p).are_visited

  held_writes_same : held_writes more q l c p ≡ held_writes other q l c p
  held_writes_same = sym as_held.are_written ∙ ((stretch_names other q level).for_held 0 l c p).are_written

  held_visits_same : held_visits more q l c p ≡ held_visits other q l c p
  held_visits_same = sym as_held.are_visited ∙ ((stretch_names other q level).for_held 0 l c p).are_visited

if_more : (l x y : ℕ) → 2 ≤ l → cond (nat_le l 1) x y ≡ y
if_more l x y two = let no : nat_le l 1 ≡ false = grind (arith, nat_tests) in ap (λ t. cond t x y) no

-- no step, and one alone
pub none_begin : (q c p : ℕ) → begun_writes 0 q 0 c p ≡ 0
unfolding begun_writes
none_begin q c p = refl

pub none_begin_none : (q c p : ℕ) → begun_visits 0 q 0 c p ≡ 0
unfolding begun_visits
none_begin_none q c p = refl

pub one_begins : (q c p : ℕ) → begun_writes 1 q 1 c p ≡ 0
unfolding begun_writes
one_begins q c p = refl

pub one_begins_none : (q c p : ℕ) → begun_visits 1 q 1 c p ≡ 0
unfolding begun_visits
one_begins_none q c p = refl

pub one_writes : (q c p : ℕ) → held_writes 1 q 1 c p ≡ 0
unfolding held_writes
one_writes q c p = refl

pub one_visits : (q c p : ℕ) → held_visits 1 q 1 c p ≡ cond (p == q) 1 0
unfolding held_visits
one_visits q c p = omega arith

-- a stretch of two steps or more is begun with a write
begins : (m q c p : ℕ) → 2 ≤ m → begun_writes m q m c p ≡ cond (p == q) 1 0 + held_writes m q m c p
unfolding begun_writes held_writes
begins zero q c p two = absurd (omega arith)
begins (suc m) q c p two = if_more (suc m) 0 _ two ∙ ap (λ n. cond (p == q) 1 0 + n) (sym (if_more (suc m) 0 _ two))

pub begin_writes : (q l c p : ℕ) → IsStretch l c → 2 ≤ l → begun_writes l q l c p ≡ cond (p == q) 1 0 + held_writes l q l c p
begin_writes q l c p s two = begins l q c p two

visited : (m q c p : ℕ) → 2 ≤ m → begun_visits m q m c p ≡ held_visits m q m c p
unfolding begun_visits held_visits
visited zero q c p two = absurd (omega arith)
visited (suc m) q c p two = if_more (suc m) 0 _ two ∙ ap (λ n. cond (p == q) 1 0 + n) (sym (if_more (suc m) 0 _ two))

pub begin_visits : (q l c p : ℕ) → IsStretch l c → 2 ≤ l → begun_visits l q l c p ≡ held_visits l q l c p
begin_visits q l c p s two = visited l q c p two

-- and split
pub split_writes : (q l c p : ℕ) → IsStretch l c → 2 ≤ l →
    held_writes l q l c p ≡ begun_writes (l - split l c) q (l - split l c) (c - 1) (p + 1) + held_writes (split l c) q (split l c) c p
unfolding held_writes
split_writes q zero c p s two = absurd (omega arith)
split_writes q (suc m) c p s two =
    let l = suc m in
    let j = split l c in
    let is = split_of l c s two in
    if_more l 0 _ two
    ∙ (λ i. begun_writes_same m (l - j) q (l - j) (c - 1) (p + 1) is.after (omega (arith, is.before.some)) (omega arith) i
    + held_writes_same m j q j c p is.before (omega (arith, is.shorter)) (omega arith) i)

pub split_visits : (q l c p : ℕ) → IsStretch l c → 2 ≤ l →
    held_visits l q l c p ≡ cond (p == q) 1 0 + (begun_visits (l - split l c) q (l - split l c) (c - 1) (p + 1) + held_visits (split l c) q (split l c) c p)
unfolding held_visits
split_visits q zero c p s two = absurd (omega arith)
split_visits q (suc m) c p s two =
    let l = suc m in
    let j = split l c in
    let is = split_of l c s two in
    ap (λ n. cond (p == q) 1 0 + n) (if_more l 0 _ two
    ∙ (λ i. begun_visits_same m (l - j) q (l - j) (c - 1) (p + 1) is.after (omega (arith, is.before.some)) (omega arith) i
    + held_visits_same m j q j c p is.before (omega (arith, is.shorter)) (omega arith) i))
