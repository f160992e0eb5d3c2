-- What is owed, before and after an action.
use Rattle.std.proofs.Common.{◌≡◌, ℕ, zero, suc, ◌+◌, ◌-◌, ◌<◌, ◌≤◌, Bool, true, false, List, [], ◌∷◌, ◌++◌, length, refl, sym, ◌∙◌, ap, subst, arith, append_assoc}
use Rattle.std.proofs.lemmas.List.{length_push, append-nil}
use Rattle.plan_types.specs.declared.action.Keep.TheVariants.{Nothing, Store}
use Rattle.plan_types.specs.declared.action.Dest.TheVariants.{Work}
use Rattle.plan_types.specs.declared.action.Action.{Action}
use Rattle.plan_types.specs.declared.action.Action.TheVariants.{Forward, Copy, Move, EndReverse}
use Rattle.binomials.specs.Advances.{split}
use Rattle.binomials.specs.Laws.{IsStretch, IsSplit}
use Rattle.revolve_gen.specs.declared.stretch.Stretch.{Stretch}
use Rattle.revolve_gen.specs.declared.stretch.Phase.TheVariants.{Fresh, Ahead, Back}
use Rattle.revolve_gen.specs.RevolveList.{fresh, held, one_step, revolve}
use Rattle.revolve_gen.specs.Part.{stretch}
use Rattle.revolve_gen.specs.Plans.{HasPlan}
use Rattle.revolve_gen.specs.Remainder.{owed_held, owed, IsWithin, AreStretches, IsOwing}
use Rattle.revolve_gen.proofs.RevolveRules.{fresh_one, held_one, fresh_next, held_next, planned}

-- what the newest held stretch owes comes first
held_push : (level : ℕ → ℕ) (room p : ℕ) (xs : List Stretch) (s : Stretch) (rest : List Action) (q : ℕ) → p + length xs ≡ q →
    owed_held level room p (xs ++ s ∷ []) rest ≡ held s.steps level s.start s.steps (room - q) q ++ owed_held level room p xs rest
held_push level room p [] s rest q e =
    let same : p ≡ q = omega arith in
    ap (λ p. held s.steps level s.start s.steps (room - p) p ++ rest) same
held_push level room p (x ∷ xs) s rest q e = held_push level room (suc p) xs s (held x.steps level x.start x.steps (room - p) p ++ rest) q (omega arith)

stack_push : (level : ℕ → ℕ) (room : ℕ) (xs : List Stretch) (s : Stretch) →
    owed_held level room 0 (xs ++ s ∷ []) [] ≡ held s.steps level s.start s.steps (room - length xs) (length xs) ++ owed_held level room 0 xs []
stack_push level room xs s = held_push level room 0 xs s [] (length xs) (omega arith)

stretches_push : (room p : ℕ) (xs : List Stretch) (s : Stretch) (q : ℕ) → p + length xs ≡ q → AreStretches room p xs → IsWithin s.start s.steps (room - q) → AreStretches room p (xs ++ s ∷ [])
stretches_push room p [] s q e all h =
    let same : q ≡ p = omega arith in
    let P : ℕ → Type 0 = λ q. IsWithin s.start s.steps (room - q) in
    (subst P same h, tt)
stretches_push room p (x ∷ xs) s q e all h = (all.0, stretches_push room (suc p) xs s q (omega arith) all.1 h)

stretches_pop : (room p : ℕ) (xs : List Stretch) (s : Stretch) (q : ℕ) → p + length xs ≡ q → AreStretches room p (xs ++ s ∷ []) → AreStretches room p xs × IsWithin s.start s.steps (room - q)
stretches_pop room p [] s q e all =
    let same : p ≡ q = omega arith in
    let P : ℕ → Type 0 = λ q. IsWithin s.start s.steps (room - q) in
    (tt, subst P same all.0)
stretches_pop room p (x ∷ xs) s q e all =
    let rest = stretches_pop room (suc p) xs s q (omega arith) all.1 in
    ((all.0, rest.0), rest.1)

-- the slots and the place of what is behind a split
behind : (level : ℕ → ℕ) (first : Bool) (b l c p room : ℕ) → c ≡ room - p → (n : ℕ) → n ≡ p + 1 → fresh l level first b l (c - 1) (p + 1) ≡ fresh l level first b l (room - n) n
behind level first b l c p room e n f =
    let slots : c - 1 ≡ room - n = omega arith in
    ap (λ c. fresh l level first b l c (p + 1)) slots ∙ ap (fresh l level first b l (room - n)) (sym f)

module _ (level : ℕ → ℕ) (room : ℕ) where
  abbrev pub below : List Stretch → List Action
  below xs = owed_held level room 0 xs []

  -- the two parts of a split stretch, before what is below
  parts_owed : (xs items : List Stretch) (first : Bool) (b l m to j : ℕ) → items ≡ xs ++ record { start = b; steps = j } ∷ [] → m ≡ l - j → to ≡ b + j →
      (fresh (l - j) level first (b + j) (l - j) (room - length xs - 1) (length xs + 1) ++ held j level b j (room - length xs) (length xs)) ++ below xs
      ≡ fresh m level first to m (room - length items) (length items) ++ below items
  parts_owed xs items first b l m to j e f g =
      let s : Stretch = record { start = b; steps = j } in
      append_assoc (fresh (l - j) level first (b + j) (l - j) (room - length xs - 1) (length xs + 1)) (held j level b j (room - length xs) (length xs)) (below xs)
      ∙ ap (λ t. fresh (l - j) level first (b + j) (l - j) (room - length xs - 1) (length xs + 1) ++ t) (sym (ap below e ∙ stack_push level room xs s))
      ∙ ap (λ t. t ++ below items) (behind level first (b + j) (l - j) (room - length xs) (length xs) room refl (length items) (ap length e ∙ length_push xs s))
      ∙ ap (λ m. fresh m level first (b + j) m (room - length items) (length items) ++ below items) (sym f)
      ∙ ap (λ b. fresh m level first b m (room - length items) (length items) ++ below items) (sym g)

  pub fresh_one_owed : (xs : List Stretch) (start steps : ℕ) (first : Bool) → steps ≡ 1 → owed level room (Fresh start steps first) xs ≡ one_step first start ++ below xs
  fresh_one_owed xs start steps first one = ap (λ t. t ++ below xs) (fresh_one steps level first start steps (room - length xs) (length xs) one)

  pub fresh_more_owed : (xs items : List Stretch) (start steps j k : ℕ) (first : Bool) → IsStretch steps (room - length xs) → 2 ≤ steps → j ≡ split steps (room - length xs) → k ≡ level (length xs) →
      items ≡ xs ++ record { start = start; steps = j } ∷ [] →
      owed level room (Fresh start steps first) xs ≡ Forward start (start + j) (Store k) ∷ owed level room (Fresh (start + j) (steps - j) first) items
  fresh_more_owed xs items start steps j k first s two is at e =
      ap (λ t. t ++ below xs) (fresh_next level first start steps (room - length xs) (length xs) s two)
      ∙ ap (λ j. (Forward start (start + j) (Store (level (length xs))) ∷ (fresh (steps - j) level first (start + j) (steps - j) (room - length xs - 1) (length xs + 1) ++ held j level start j (room - length xs) (length xs))) ++ below xs) (sym is)
      ∙ ap (λ t. Forward start (start + j) (Store (level (length xs))) ∷ t) (parts_owed xs items first start steps (steps - j) (start + j) j e refl refl)
      ∙ ap (λ k. Forward start (start + j) (Store k) ∷ owed level room (Fresh (start + j) (steps - j) first) items) (sym at)

  pub held_one_owed : (xs items : List Stretch) (s : Stretch) (k : ℕ) → items ≡ xs ++ s ∷ [] → s.steps ≡ 1 → k ≡ level (length xs) →
      owed level room Back items ≡ Move s.start k Work ∷ owed level room (Fresh s.start 1 false) xs
  held_one_owed xs items s k e one at =
      ap below e ∙ stack_push level room xs s
      ∙ ap (λ t. t ++ below xs) (held_one s.steps level s.start s.steps (room - length xs) (length xs) one)
      ∙ ap (λ t. Move s.start (level (length xs)) Work ∷ t) (sym (fresh_one_owed xs s.start 1 false refl))
      ∙ ap (λ k. Move s.start k Work ∷ owed level room (Fresh s.start 1 false) xs) (sym at)

  pub held_more_owed : (xs items more : List Stretch) (s : Stretch) (j k : ℕ) → items ≡ xs ++ s ∷ [] → IsStretch s.steps (room - length xs) → 2 ≤ s.steps → j ≡ split s.steps (room - length xs) → k ≡ level (length xs) →
      more ≡ xs ++ record { start = s.start; steps = j } ∷ [] →
      owed level room Back items ≡ Copy s.start k Work ∷ owed level room (Ahead s.start (s.start + j) (s.start + s.steps)) more
  held_more_owed xs items more s j k e is two split_is at f =
      ap below e ∙ stack_push level room xs s
      ∙ ap (λ t. t ++ below xs) (held_next level s.start s.steps (room - length xs) (length xs) is two)
      ∙ ap (λ j. (Copy s.start (level (length xs)) Work ∷ Forward s.start (s.start + j) Nothing ∷ (fresh (s.steps - j) level false (s.start + j) (s.steps - j) (room - length xs - 1) (length xs + 1) ++ held j level s.start j (room - length xs) (length xs))) ++ below xs) (sym split_is)
      ∙ ap (λ t. Copy s.start (level (length xs)) Work ∷ Forward s.start (s.start + j) Nothing ∷ t) (parts_owed xs more false s.start s.steps (s.start + s.steps - (s.start + j)) (s.start + j) j f (omega arith) refl)
      ∙ ap (λ k. Copy s.start k Work ∷ owed level room (Ahead s.start (s.start + j) (s.start + s.steps)) more) (sym at)

-- a split stretch leaves two that are owed
pub fresh_owing : (room : ℕ) (xs items : List Stretch) (start steps j : ℕ) (first : Bool) → IsOwing room (Fresh start steps first) xs → IsSplit steps (room - length xs) j → length xs < room →
    items ≡ xs ++ record { start = start; steps = j } ∷ [] → IsOwing room (Fresh (start + j) (steps - j) first) items
fresh_owing room xs items start steps j first is at within e =
    let s : Stretch = record { start = start; steps = j } in
    let long : length items ≡ length xs + 1 = ap length e ∙ length_push xs s in
    let P : List Stretch → Type 0 = AreStretches room 0 in
    let slots : room - length xs - 1 ≡ room - length items = omega arith in
    let whole = is.next.within in
    let shorter = at.shorter in
    record {
      few = omega arith;
      small = is.small;
      stretches = subst P (sym e) (stretches_push room 0 xs s (length xs) (omega arith) is.stretches (record { stretch = at.before; within = omega arith }));
      next = record { stretch = subst (IsStretch (steps - j)) slots at.after; within = omega arith };
    }

pub held_taken : (room : ℕ) (xs items : List Stretch) (s : Stretch) → IsOwing room Back items → items ≡ xs ++ s ∷ [] → IsWithin s.start s.steps (room - length xs) × (length xs < room) × AreStretches room 0 xs
held_taken room xs items s is e =
    let P : List Stretch → Type 0 = AreStretches room 0 in
    let all = stretches_pop room 0 xs s (length xs) (omega arith) (subst P e is.stretches) in
    let long : length items ≡ length xs + 1 = ap length e ∙ length_push xs s in
    (all.1, omega (arith, is.few), all.0)

pub held_owing : (room : ℕ) (xs more : List Stretch) (start steps j : ℕ) → room ≤ 1000000 → IsWithin start steps (room - length xs) → length xs < room → AreStretches room 0 xs → IsSplit steps (room - length xs) j →
    more ≡ xs ++ record { start = start; steps = j } ∷ [] → IsOwing room (Ahead start (start + j) (start + steps)) more
held_owing room xs more start steps j small is within all at e =
    let s : Stretch = record { start = start; steps = j } in
    let long : length more ≡ length xs + 1 = ap length e ∙ length_push xs s in
    let P : List Stretch → Type 0 = AreStretches room 0 in
    let slots : room - length xs - 1 ≡ room - length more = omega arith in
    let whole = is.within in
    let shorter = at.shorter in
    let some = at.before.some in
    let left : steps - j ≡ start + steps - (start + j) = omega arith in
    record {
      few = omega arith;
      small = small;
      stretches = subst P (sym e) (stretches_push room 0 xs s (length xs) (omega arith) all (record { stretch = at.before; within = omega arith }));
      next = (
        omega arith,
        omega arith,
        record { stretch = subst (λ n. IsStretch n (room - length more)) left (subst (IsStretch (steps - j)) slots at.after); within = omega arith },
      );
    }

-- a list is one stretch and the end
pub whole_stretch : (level : ℕ → ℕ) (steps c : ℕ) → stretch level true 0 steps c ++ EndReverse ∷ [] ≡ revolve level steps c
whole_stretch level zero c = refl
whole_stretch level (suc n) c = refl

-- a stretch that begins where nothing is held
pub fresh_begun : (level : ℕ → ℕ) (room start steps : ℕ) (first : Bool) → 0 < steps → owed level room (Fresh start steps first) [] ≡ stretch level first start steps room
fresh_begun level room start zero first some = absurd (omega arith)
fresh_begun level room start (suc n) first some =
    let all : room - 0 ≡ room = omega arith in
    append-nil (fresh (suc n) level first start (suc n) (room - 0) 0) ∙ ap (λ c. fresh (suc n) level first start (suc n) c 0) all

pub begun_owing : (room start steps : ℕ) (first : Bool) → 0 < steps → start + steps ≤ 1000000 → room ≤ 1000000 → HasPlan steps room → IsOwing room (Fresh start steps first) []
begun_owing room start steps first some short small plan =
    let all : room ≡ room - 0 = omega arith in
    record {
      few = omega arith;
      small = small;
      stretches = tt;
      next = record { stretch = subst (IsStretch steps) all (planned steps room plan (omega arith)); within = short };
    }
