-- Lists as they stand on the stack: how a list of Revolve changes with its levels, and which places it uses.
use Rattle.std.proofs.Common.{◌≡◌, ℕ, zero, suc, ◌+◌, ◌-◌, ◌<◌, ◌≤◌, Bool, true, false, cond, nat_le, List, [], ◌∷◌, ◌++◌, refl, sym, ap, ◌∙◌, subst, inl, inr, arith}
use Rattle.plan_types.specs.declared.action.Keep.TheVariants.{Nothing, Store, Tape}
use Rattle.plan_types.specs.declared.action.Dest.TheVariants.{Work}
use Rattle.plan_types.specs.declared.action.Action.{Action}
use Rattle.plan_types.specs.declared.action.Action.TheVariants.{Forward, Reverse, Copy, Move, EndForward, EndReverse}
use Rattle.binomials.specs.Advances.{split}
use Rattle.binomials.specs.Laws.{IsStretch}
use Rattle.revolve_gen.specs.Stack.{stack_step, held_after, held_at_end, place, place_written, place_read, written, read, enough, places_used, on_level, placed}
use Rattle.revolve_gen.specs.Multistage.{LevelsAreFree, UsesItsSlots}
use Rattle.revolve_gen.specs.RevolveList.{one_step, fresh, held, revolve}
use Rattle.revolve_gen.proofs.RevolveRules.{fresh_one, held_one, fresh_more, held_more, parts, split_of, one_or_more, has_slot, planned}

-- the list with other levels, from a height of the stack
pub placed-append : (level : ℕ → ℕ) (h : ℕ) (xs ys : List Action) → placed level h (xs ++ ys) ≡ placed level h xs ++ placed level (held_at_end h xs) ys
placed-append level h [] ys = refl
placed-append level h (x ∷ xs) ys = ap (λ r. placed level h (x ∷ []) ++ r) (placed-append level (held_after h (stack_step x)) xs ys)

end-append : (h : ℕ) (xs ys : List Action) → held_at_end h (xs ++ ys) ≡ held_at_end (held_at_end h xs) ys
end-append h [] ys = refl
end-append h (x ∷ xs) ys = end-append (held_after h (stack_step x)) xs ys

-- the levels don't matter for which places are written and read
step_same : (k : ℕ) (a : Action) → stack_step (on_level k a) ≡ stack_step a
step_same k (Forward from to Nothing) = refl
step_same k (Forward from to (Store j)) = refl
step_same k (Forward from to Tape) = refl
step_same k (Reverse from to) = refl
step_same k (Copy n from to) = refl
step_same k (Move n from to) = refl
step_same k EndForward = refl
step_same k EndReverse = refl

pub written_same : (level : ℕ → ℕ) (h : ℕ) (list : List Action) → written h (placed level h list) ≡ written h list
written_same level h [] = refl
written_same level h (a ∷ rest) =
    let next = held_after h (stack_step a) in
    let later = placed level next rest in
    let same = step_same (level (place h (stack_step a))) a in
    ap (λ s. place_written h s ++ written (held_after h s) later) same ∙ ap (λ r. place_written h (stack_step a) ++ r) (written_same level next rest)

pub read_same : (level : ℕ → ℕ) (h : ℕ) (list : List Action) → read h (placed level h list) ≡ read h list
read_same level h [] = refl
read_same level h (a ∷ rest) =
    let next = held_after h (stack_step a) in
    let later = placed level next rest in
    let same = step_same (level (place h (stack_step a))) a in
    ap (λ s. place_read h s ++ read (held_after h s) later) same ∙ ap (λ r. place_read h (stack_step a) ++ r) (read_same level next rest)

pub used_same : (level : ℕ → ℕ) (list : List Action) → places_used (placed level 0 list) ≡ places_used list
used_same level list = λ i. enough (written_same level 0 list i ++ read_same level 0 list i)

-- a list that begins at a height, and ends at another, and is another list with these levels
record Becomes (level : ℕ → ℕ) (h end : ℕ) (xs ys : List Action) : Type 0 where
  is : placed level h xs ≡ ys
  ends : held_at_end h xs ≡ end

becomes_both : (level : ℕ → ℕ) (h m end : ℕ) (xs xs' ys ys' : List Action) → Becomes level h m xs xs' → Becomes level m end ys ys' → Becomes level h end (xs ++ ys) (xs' ++ ys')
becomes_both level h m end xs xs' ys ys' a b = record {
  is = placed-append level h xs ys ∙ (λ i. a.is i ++ placed level (a.ends i) ys) ∙ ap (λ r. xs' ++ r) b.is;
  ends = end-append h xs ys ∙ ap (λ k. held_at_end k ys) a.ends ∙ b.ends;
}

step_becomes : (level : ℕ → ℕ) (first : Bool) (h b : ℕ) → Becomes level h h (one_step first b) (one_step first b)
step_becomes level true h b = record { is = refl; ends = refl }
step_becomes level false h b = record { is = refl; ends = refl }

-- with the image of b on top, at place p
move_becomes : (level other : ℕ → ℕ) (b p : ℕ) → Becomes level (p + 1) p (Move b (other p) Work ∷ one_step false b) (Move b (level p) Work ∷ one_step false b)
move_becomes level other b p =
    let top : (p + 1) - 1 ≡ p = omega arith in
    record { is = ap (λ q. Move b (level q) Work ∷ one_step false b) top; ends = top }

copy_becomes : (level other : ℕ → ℕ) (b j p : ℕ) (xs ys : List Action) → Becomes level (p + 1) p xs ys →
    Becomes level (p + 1) p (Copy b (other p) Work ∷ Forward b j Nothing ∷ xs) (Copy b (level p) Work ∷ Forward b j Nothing ∷ ys)
copy_becomes level other b j p xs ys is =
    let top : (p + 1) - 1 ≡ p = omega arith in
    record { is = λ i. Copy b (level (top i)) Work ∷ Forward b j Nothing ∷ is.is i; ends = is.ends }

store_becomes : (level other : ℕ → ℕ) (b j p : ℕ) (xs ys : List Action) → Becomes level (p + 1) p xs ys →
    Becomes level p p (Forward b j (Store (other p)) ∷ xs) (Forward b j (Store (level p)) ∷ ys)
store_becomes level other b j p xs ys is = record { is = ap (λ r. Forward b j (Store (level p)) ∷ r) is.is; ends = is.ends }

-- one of two lists, by the same test
either_becomes : (level : ℕ → ℕ) (h end : ℕ) (t : Bool) (xs xs' ys ys' : List Action) → Becomes level h end xs xs' → Becomes level h end ys ys' → Becomes level h end (cond t xs ys) (cond t xs' ys')
either_becomes level h end true xs xs' ys ys' a b = a
either_becomes level h end false xs xs' ys ys' a b = b

record StretchBecomes (more : ℕ) (level other : ℕ → ℕ) : Type 0 where
  for_fresh : (first : Bool) (b l c p : ℕ) → Becomes level p p (fresh more other first b l c p) (fresh more level first b l c p)
  for_held : (b l c p : ℕ) → Becomes level (p + 1) p (held more other b l c p) (held more level b l c p)

stretch_becomes : (more : ℕ) (level other : ℕ → ℕ) → StretchBecomes more level other
unfolding fresh held
stretch_becomes zero level other = record {
  for_fresh = λ first b l c p. step_becomes level first p b;
  for_held = λ b l c p. move_becomes level other b p;
}
stretch_becomes (suc more) level other =
    let inner = stretch_becomes more level other in
    let behind = λ (first : Bool) (b l c p : ℕ).
    becomes_both level (p + 1) (p + 1) p _ _ _ _ (inner.for_fresh first (b + split l c) (l - split l c) (c - 1) (p + 1)) (inner.for_held b (split l c) c p) in
    record {
      for_fresh = λ first b l c p. either_becomes level p p (nat_le l 1) _ _ _ _ (step_becomes level first p b)
          (store_becomes level other b (b + split l c) p _ _ (behind first b l c p));
      for_held = λ b l c p. either_becomes level (p + 1) p (nat_le l 1) _ _ _ _ (move_becomes level other b p)
          (copy_becomes level other b (b + split l c) p _ _ (behind false b l c p));
    }

pub levels_free : (steps c : ℕ) → LevelsAreFree steps c
levels_free zero c level other = refl
levels_free (suc n) c level other =
    let list = (stretch_becomes (suc n) level other).for_fresh true 0 (suc n) c 0 in
    let end : Becomes level 0 0 (EndReverse ∷ []) (EndReverse ∷ []) = record { is = refl; ends = refl } in
    (becomes_both level 0 0 0 _ _ _ _ list end).is

-- the places that are named in two lists
pub enough_both : (xs ys : List ℕ) (m : ℕ) → enough xs ≤ m → enough ys ≤ m → enough (xs ++ ys) ≤ m
enough_both [] ys m h g = g
enough_both (x ∷ xs) ys m h g = let k = enough_both xs ys m (omega arith) g in omega arith

pub first_of_both : (xs ys : List ℕ) (m : ℕ) → enough (xs ++ ys) ≤ m → enough xs ≤ m
first_of_both [] ys m h = omega arith
first_of_both (x ∷ xs) ys m h = let k = first_of_both xs ys m (omega arith) in omega arith

pub second_of_both : (xs ys : List ℕ) (m : ℕ) → enough (xs ++ ys) ≤ m → enough ys ≤ m
second_of_both [] ys m h = h
second_of_both (x ∷ xs) ys m h = second_of_both xs ys m (omega arith)

-- from a height, the list names places below `top` alone, and ends at a height
pub record Keeps (top h end : ℕ) (list : List Action) : Type 0 where
  pub writes : enough (written h list) ≤ top
  pub reads : enough (read h list) ≤ top
  pub ends : held_at_end h list ≡ end

-- one action, and then the others
keeps_more : (top h end : ℕ) (a : Action) (rest : List Action) → enough (place_written h (stack_step a)) ≤ top → enough (place_read h (stack_step a)) ≤ top →
    Keeps top (held_after h (stack_step a)) end rest → Keeps top h end (a ∷ rest)
keeps_more top h end a rest w r k = record {
  writes = enough_both (place_written h (stack_step a)) (written (held_after h (stack_step a)) rest) top w k.writes;
  reads = enough_both (place_read h (stack_step a)) (read (held_after h (stack_step a)) rest) top r k.reads;
  ends = k.ends;
}

-- one list, and then another
keeps_both : (top h m end : ℕ) (xs ys : List Action) → Keeps top h m xs → Keeps top m end ys → Keeps top h end (xs ++ ys)
keeps_both top h m end [] ys k l = subst (λ q. Keeps top q end ys) (sym k.ends) l
keeps_both top h m end (a ∷ xs) ys k l =
    let s = stack_step a in
    let w = k.writes in
    let r = k.reads in
    keeps_more top h end a (xs ++ ys)
    (first_of_both (place_written h s) (written (held_after h s) xs) top w)
    (first_of_both (place_read h s) (read (held_after h s) xs) top r)
    (keeps_both top (held_after h s) m end xs ys (record {
      writes = second_of_both (place_written h s) (written (held_after h s) xs) top w;
      reads = second_of_both (place_read h s) (read (held_after h s) xs) top r;
      ends = k.ends;
    }) l)

step_keeps : (first : Bool) (top h b : ℕ) → Keeps top h h (one_step first b)
step_keeps true top h b = record { writes = omega arith; reads = omega arith; ends = refl }
step_keeps false top h b = record { writes = omega arith; reads = omega arith; ends = refl }

as_keeps : (top h end : ℕ) (xs ys : List Action) → xs ≡ ys → Keeps top h end ys → Keeps top h end xs
as_keeps top h end xs ys e k =
    let P : List Action → Type 0 = λ list. Keeps top h end list in
    subst P (sym e) k

record StretchKeeps (top : ℕ) (level : ℕ → ℕ) (more l : ℕ) : Type 0 where
  for_fresh : (first : Bool) (b c p : ℕ) → IsStretch l c → p + c ≤ top → Keeps top p p (fresh more level first b l c p)
  for_held : (b c p : ℕ) → IsStretch l c → p < top → p + c ≤ top → Keeps top (p + 1) p (held more level b l c p)

move_keeps : (top b k p : ℕ) → p < top → Keeps top (p + 1) p (Move b k Work ∷ one_step false b)
move_keeps top b k p within =
    let down : p ≡ (p + 1) - 1 = omega arith in
    keeps_more top (p + 1) p (Move b k Work) (one_step false b) (omega arith) (omega arith)
    (subst (λ q. Keeps top q p (one_step false b)) down (step_keeps false top p b))

stretch_keeps : (top : ℕ) (level : ℕ → ℕ) (more l : ℕ) → 1 ≤ l → l ≤ more → StretchKeeps top level more l
stretch_keeps top level zero l some le = absurd (omega arith)
stretch_keeps top level (suc more) l some le = elim (one_or_more l some) [
  | inl one ↦ record {
    for_fresh = λ first b c p s fits. as_keeps top p p _ _ (fresh_one (suc more) level first b l c p one) (step_keeps first top p b);
    for_held = λ b c p s within fits. as_keeps top (p + 1) p _ _ (held_one (suc more) level b l c p one) (move_keeps top b (level p) p within);
  }
  | inr two ↦
      let rest = λ (c : ℕ) (s : IsStretch l c). let is = split_of l c s two in stretch_keeps top level more (l - split l c) is.after.some (omega (arith, is.before.some)) in
      let start = λ (c : ℕ) (s : IsStretch l c). let is = split_of l c s two in stretch_keeps top level more (split l c) is.before.some (omega (arith, is.shorter)) in
      let behind = λ (first : Bool) (b c p : ℕ) (s : IsStretch l c) (fits : p + c ≤ top).
      let is = split_of l c s two in
      let slot = has_slot l c s two in
      let k : Keeps top (p + 1) p (parts more level first b l c p) =
      keeps_both top (p + 1) (p + 1) p _ _
      ((rest c s).for_fresh first (b + split l c) (c - 1) (p + 1) is.after (omega arith))
      ((start c s).for_held b c p is.before (omega arith) fits) in
      k in
      record {
        for_fresh = λ first b c p s fits.
            let slot = has_slot l c s two in
            as_keeps top p p _ _ (fresh_more more level first b l c p two)
            (keeps_more top p p (Forward b (b + split l c) (Store (level p))) _ (omega arith) (omega arith) (behind first b c p s fits));
        for_held = λ b c p s within fits.
            as_keeps top (p + 1) p _ _ (held_more more level b l c p two)
            (keeps_more top (p + 1) p (Copy b (level p) Work) _ (omega arith) (omega arith)
            (keeps_more top (p + 1) p (Forward b (b + split l c) Nothing) _ (omega arith) (omega arith) (behind false b c p s fits)));
      }
]

pub uses_its_slots : (steps c : ℕ) → UsesItsSlots steps c
uses_its_slots zero c level plan = omega arith
uses_its_slots (suc n) c level plan =
    let s = planned (suc n) c plan (omega arith) in
    let list = (stretch_keeps c level (suc n) (suc n) (omega arith) (omega arith)).for_fresh true 0 c 0 s (omega arith) in
    let end : Keeps c 0 0 (EndReverse ∷ []) = record { writes = omega arith; reads = omega arith; ends = refl } in
    let k = keeps_both c 0 0 0 (fresh (suc n) level true 0 (suc n) c 0) (EndReverse ∷ []) list end in
    enough_both (written 0 (revolve level (suc n) c)) (read 0 (revolve level (suc n) c)) c k.writes k.reads
