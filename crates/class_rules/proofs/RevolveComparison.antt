-- A list beside the list of Revolve, action by action.
use Rattle.std.proofs.Common.{◌≡◌, ◌↔◌, ℕ, ◌+◌, ◌-◌, ◌<◌, ◌≤◌, max, List, [], ◌∷◌, ◌++◌, drop, length, get_or, refl, sym, ap, subst, ◌∙◌, arith}
use Rattle.std.proofs.lemmas.List.{drop_all, drop_more, length-drop}
use Rattle.plan_types.specs.declared.action.Keep.TheVariants.{Nothing, Store, Tape}
use Rattle.plan_types.specs.declared.action.Action.{Action}
use Rattle.plan_types.specs.declared.action.Action.TheVariants.{Forward, Reverse, Copy, Move, EndForward, EndReverse}
use Rattle.revolve_gen.specs.declared.stack.StackStep.{StackStep}
use Rattle.revolve_gen.specs.declared.stack.StackStep.TheVariants.{Push, Read, Pop, Stay}
use Rattle.revolve_gen.specs.Stack.{stack_step, held_after, place, place_written, place_read, written, read, enough, places_used, on_level, placed}
use Rattle.class_rules.specs.LevelInference.{level_named, Agrees, AreTheLevels}

-- After the first i actions: the list is the base with levels of its places exactly where the places so far have these levels,
-- and the actions that are left are those of the base.
pub record Walked (base list : List Action) (i held : ℕ) (rest : List Action) (levels : List ℕ) : Type 0 where
  pub same : (of : ℕ → ℕ) → (list ≡ placed of 0 base) ↔ (Agrees levels of × (drop i list ≡ placed of held rest))
  pub many : places_used base ≡ max (length levels) (max (enough (written held rest)) (enough (read held rest)))
  pub near : held ≤ length levels
  pub few : held ≤ i

enough-append : (xs ys : List ℕ) → enough (xs ++ ys) ≡ max (enough xs) (enough ys)
enough-append [] ys = omega arith
enough-append (x ∷ xs) ys = let e = enough-append xs ys in omega arith

-- an action and its level
named_again : (k : ℕ) (e : Action) → on_level (level_named (on_level k e)) e ≡ on_level k e
named_again k (Forward from to Nothing) = refl
named_again k (Forward from to (Store j)) = refl
named_again k (Forward from to Tape) = refl
named_again k (Reverse from to) = refl
named_again k (Copy n from to) = refl
named_again k (Move n from to) = refl
named_again k EndForward = refl
named_again k EndReverse = refl

named : (k : ℕ) (e : Action) → (stack_step e ≡ Stay → ⊥) → level_named (on_level k e) ≡ k
named k (Forward from to Nothing) moves = absurd (moves refl)
named k (Forward from to (Store j)) moves = refl
named k (Forward from to Tape) moves = absurd (moves refl)
named k (Reverse from to) moves = absurd (moves refl)
named k (Copy n from to) moves = refl
named k (Move n from to) moves = refl
named k EndForward moves = absurd (moves refl)
named k EndReverse moves = absurd (moves refl)

no_level : (j k : ℕ) (e : Action) → stack_step e ≡ Stay → on_level j e ≡ on_level k e
no_level j k (Forward from to Nothing) stays = refl
no_level j k (Forward from to (Store i)) stays = cc
no_level j k (Forward from to Tape) stays = refl
no_level j k (Reverse from to) stays = refl
no_level j k (Copy n from to) stays = cc
no_level j k (Move n from to) stays = cc
no_level j k EndForward stays = refl
no_level j k EndReverse stays = refl

-- what a step does with the number of places
named_places : (h : ℕ) (s : StackStep) → (s ≡ Stay → ⊥) → max (enough (place_written h s)) (enough (place_read h s)) ≡ place h s + 1
named_places h Push moves = omega arith
named_places h Read moves = omega arith
named_places h Pop moves = omega arith
named_places h Stay moves = absurd (moves refl)

after_near : (h n : ℕ) (s : StackStep) → h ≤ n → held_after h s ≤ max n (place h s + 1)
after_near h n Push near = omega arith
after_near h n Read near = omega arith
after_near h n Pop near = omega arith
after_near h n Stay near = omega arith

after_few : (h : ℕ) (s : StackStep) → held_after h s ≤ h + 1
after_few h Push = omega arith
after_few h Read = omega arith
after_few h Pop = omega arith
after_few h Stay = omega arith

pub walk_start : (base list : List Action) (levels : List ℕ) → levels ≡ [] → Walked base list 0 0 base levels
walk_start base list levels none =
    let W : List ℕ → Type 0 = λ levels. Walked base list 0 0 base levels in
    subst W (sym none) (record {
      same = λ of. ((λ e. ((λ p h. absurd (omega arith)), e)), λ x. x.1);
      many = enough-append (written 0 base) (read 0 base) ∙ omega arith;
      near = omega arith;
      few = omega arith;
    })

heads : (a b : Action) (xs ys : List Action) → a ∷ xs ≡ b ∷ ys → a ≡ b
heads a b xs ys e = cc

tails : (a b : Action) (xs ys : List Action) → a ∷ xs ≡ b ∷ ys → xs ≡ ys
tails a b xs ys e = cc

-- the base has no more actions, or the list has none
pub too_long : (base list : List Action) (i held : ℕ) (rest : List Action) (levels : List ℕ) → Walked base list i held rest levels → rest ≡ [] → i < length list → (of : ℕ → ℕ) → list ≡ placed of 0 base → ⊥
too_long base list i held rest levels w none within of e =
    let left : drop i list ≡ placed of held [] = ((w.same of).0 e).1 ∙ ap (placed of held) none in
    let len = ap length left in
    omega (arith, length-drop i list)

pub too_short : (base list : List Action) (i held : ℕ) (rest later : List Action) (m : Action) (levels : List ℕ) → Walked base list i held rest levels → rest ≡ m ∷ later → length list ≤ i → (of : ℕ → ℕ) → list ≡ placed of 0 base → ⊥
too_short base list i held rest later m levels w some past of e =
    let left : drop i list ≡ placed of held (m ∷ later) = ((w.same of).0 e).1 ∙ ap (placed of held) some in
    let len = ap length left in
    omega (arith, length-drop i list)

pub walk_end : (base list : List Action) (i held : ℕ) (rest : List Action) (levels : List ℕ) → Walked base list i held rest levels → rest ≡ [] → length list ≤ i → AreTheLevels base list levels
walk_end base list i held rest levels w none past =
    let all : drop i list ≡ [] = drop_all i list past in
    let many = w.many in
    let we = ap (λ r. enough (written held r)) none in
    let re = ap (λ r. enough (read held r)) none in
    record {
      same = λ of. ((λ e. ((w.same of).0 e).0), (λ agrees. (w.same of).1 (agrees, all ∙ ap (placed of held) (sym none))));
      many = omega arith;
    }

-- one action more, beside one of the base
module _ (base list : List Action) (i held : ℕ) (rest later : List Action) (a m : Action) (levels : List ℕ) (w : Walked base list i held rest levels) (some : rest ≡ m ∷ later)
    (within : i < length list) (at : a ≡ get_or list i a) where
  left : drop i list ≡ a ∷ drop (i + 1) list
  left = drop_more list i a within ∙ ap (λ x. x ∷ drop (i + 1) list) (sym at)

  -- where the list is the base with levels, the action is that of the base with its level
  both : (of : ℕ → ℕ) → list ≡ placed of 0 base → a ∷ drop (i + 1) list ≡ on_level (of (place held (stack_step m))) m ∷ placed of (held_after held (stack_step m)) later
  both of e = sym left ∙ ((w.same of).0 e).1 ∙ ap (placed of held) some

  pub other_action : (on_level (level_named a) m ≡ a → ⊥) → (of : ℕ → ℕ) → list ≡ placed of 0 base → ⊥
  other_action differs of e =
      let k = of (place held (stack_step m)) in
      let is : on_level k m ≡ a = sym (heads _ _ _ _ (both of e)) in
      let P : Action → Type 0 = λ x. on_level (level_named x) m ≡ x in
      differs (subst P is (named_again k m))

  pub level_is : on_level (level_named a) m ≡ a → (stack_step m ≡ Stay → ⊥) → (of : ℕ → ℕ) → list ≡ placed of 0 base → of (place held (stack_step m)) ≡ level_named a
  level_is same moves of e =
      let k = of (place held (stack_step m)) in
      sym (named k m moves) ∙ ap level_named (sym (heads _ _ _ _ (both of e)))

  pub other_level : on_level (level_named a) m ≡ a → (stack_step m ≡ Stay → ⊥) → ((of : ℕ → ℕ) → Agrees levels of → of (place held (stack_step m)) ≡ level_named a → ⊥) → (of : ℕ → ℕ) → list ≡ placed of 0 base → ⊥
  other_level same moves differs of e = differs of ((w.same of).0 e).0 (level_is same moves of e)

  counts : (n : ℕ) → n ≡ max (length levels) (max (enough (place_written held (stack_step m))) (enough (place_read held (stack_step m)))) →
      places_used base ≡ max n (max (enough (written (held_after held (stack_step m)) later)) (enough (read (held_after held (stack_step m)) later)))
  counts n is =
      let s = stack_step m in
      let ws = ap (λ r. enough (written held r)) some ∙ enough-append (place_written held s) (written (held_after held s) later) in
      let rs = ap (λ r. enough (read held r)) some ∙ enough-append (place_read held s) (read (held_after held s) later) in
      let many = w.many in
      omega arith

  pub walk_noted : (next : List ℕ) → on_level (level_named a) m ≡ a → (stack_step m ≡ Stay → ⊥) → length next ≡ max (length levels) (place held (stack_step m) + 1) →
      ((of : ℕ → ℕ) → Agrees next of ↔ (Agrees levels of × (of (place held (stack_step m)) ≡ level_named a))) → Walked base list (i + 1) (held_after held (stack_step m)) later next
  walk_noted next same moves longer agree =
      let s = stack_step m in
      let near = w.near in
      let few = w.few in
      let after = after_near held (length levels) s near in
      let step = after_few held s in
      record {
        same = λ of. (
          (λ e. ((agree of).1 (((w.same of).0 e).0, level_is same moves of e), tails _ _ _ _ (both of e))),
          (λ x.
              let old = (agree of).0 x.0 in
              let here : a ≡ on_level (of (place held s)) m = sym same ∙ ap (λ k. on_level k m) (sym old.1) in
              (w.same of).1 (old.0, left ∙ (λ j. here j ∷ x.1 j) ∙ ap (placed of held) (sym some))),
        );
        many = counts (length next) (longer ∙ ap (max (length levels)) (sym (named_places held s moves)));
        near = omega arith;
        few = omega arith;
      }

  pub walk_stayed : on_level (level_named a) m ≡ a → stack_step m ≡ Stay → Walked base list (i + 1) (held_after held (stack_step m)) later levels
  walk_stayed same stays =
      let s = stack_step m in
      let near = w.near in
      let few = w.few in
      let height : held_after held s ≡ held = ap (held_after held) stays in
      let none : length levels ≡ max (length levels) (max (enough (place_written held s)) (enough (place_read held s))) =
      omega (arith, ap (λ s. enough (place_written held s)) stays, ap (λ s. enough (place_read held s)) stays) in
      record {
        same = λ of. (
          (λ e. (((w.same of).0 e).0, tails _ _ _ _ (both of e))),
          (λ x.
              let here : a ≡ on_level (of (place held s)) m = sym same ∙ no_level (level_named a) (of (place held s)) m stays in
              (w.same of).1 (x.0, left ∙ (λ j. here j ∷ x.1 j) ∙ ap (placed of held) (sym some))),
        );
        many = counts (length levels) none;
        near = omega arith;
        few = omega arith;
      }
