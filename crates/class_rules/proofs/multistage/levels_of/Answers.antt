use Rattle.std.proofs.Common.{◌≡◌, ◌↔◌, ◌+◌, true, false, Option, Some, None, MatchOption, Vec, Global, ℕ, sym, ap, subst, ◌∙◌, arith, true≢false}
use Rattle.std.specs.Option.{is_some}
use Rattle.std.proofs.lemmas.List.{get_or_default}
use Rattle.plan_types.specs.declared.action.Action.{Action}
use Rattle.revolve_gen.specs.declared.stack.StackStep.TheVariants.{Stay}
use Rattle.revolve_gen.specs.Stack.{stack_step, held_after, place, on_level}
use Rattle.class_rules.specs.LevelInference.{Agrees}
use Rattle.class_rules.proofs.RevolveComparison.{Walked, walk_start, too_long, walk_end, walk_noted, walk_stayed}
use Rattle.class_rules.proofs.multistage.levels_of.Goals.{else-not-stays-via-then-not-stays+in_ok-note+else-not-branch, else-not-stays-via-else-not-stays}
use Rattle.class_rules.proofs.multistage.levels_of.Goals as goal

pub loop-action-init : goal.loop-action-init
loop-action-init c = walk_start c.args.expected c.args.list.now c.new-levels.result.items c.new-levels.ensures.items

pub returns-in_default : goal.returns-in_default
returns-in_default c =
    too_long c.args.expected c.args.list.now c.loop-action.action-index c.loop-action.held c.loop-action.expected c.loop-action.levels.items c.loop-action.invariant c.in_default.ensures.0 c.loop-action-test.true

none_left : (o : Option Action) (P : Type 0) (Q : Action → Type 0) → MatchOption o P Q → is_some o ≡ false → P
none_left None P Q m e = m
none_left (Some a) P Q m e = absurd (true≢false e)

pub loop-action-preserved : goal.loop-action-preserved
loop-action-preserved c =
    let base = c.args.expected in
    let list = c.args.list.now in
    let i = c.loop-action.action-index in
    let held = c.loop-action.held in
    let m = c.in-Some.model in
    let later = c.next.new.self in
    let old = c.loop-action.levels in
    let some = c.in-Some.ensures in
    let within = c.loop-action-test.true in
    let named = c.level_named-level.ensures in
    let same = ap (λ k. on_level k m) (sym named) ∙ sym c.on_level.ensures ∙ c.is_same.ensures.0 c.if-not-is_same.false in
    let step = c.of-step.ensures in
    let height : held_after held (stack_step m) ≡ c.held_after-held.result = ap (held_after held) (sym step) ∙ sym c.held_after-held.ensures in
    elim c.else-not-stays.branch [
      | else-not-stays-via-then-not-stays+in_ok-note+else-not-branch w ↦
          let moves : stack_step m ≡ Stay → ⊥ = λ e. true≢false (sym (c.stays.ensures.1 (step ∙ e)) ∙ w.if-not-stays.true) in
          let spot : w.place.result ≡ place held (stack_step m) = w.place.ensures ∙ ap (place held) step in
          let next = w.note.new.levels in
          let longer = w.in_ok-note.ensures.many w.if-not-branch.false in
          subst (λ h. Walked base list (i + 1) h later c.else-not-stays.levels.items) height
          (subst (λ (v : Vec ℕ Global). Walked base list (i + 1) (held_after held (stack_step m)) later v.items) (sym w.levels-is)
          (walk_noted base list i held c.loop-action.expected later _ m old.items c.loop-action.invariant some within (get_or_default list i _ _ within)
          next.items same moves (omega (arith, longer, spot, old.ok, next.ok))
          (λ of. subst (λ p. Agrees next.items of ↔ (Agrees old.items of × (of p ≡ _))) spot
          (subst (λ k. Agrees next.items of ↔ (Agrees old.items of × (of w.place.result ≡ k))) named (w.in_ok-note.ensures.same w.if-not-branch.false of)))))
      | else-not-stays-via-else-not-stays w ↦
          let stays : stack_step m ≡ Stay = sym step ∙ c.stays.ensures.0 w.if-not-stays.false in
          subst (λ h. Walked base list (i + 1) h later c.else-not-stays.levels.items) height
          (subst (λ (v : Vec ℕ Global). Walked base list (i + 1) (held_after held (stack_step m)) later v.items) (sym w.levels-is)
          (walk_stayed base list i held c.loop-action.expected later _ m old.items c.loop-action.invariant some within (get_or_default list i _ _ within) same stays))
    ]

pub returns : goal.returns
returns c =
    walk_end c.args.expected c.args.list.now c.loop-action.action-index c.loop-action.held c.loop-action.expected c.loop-action.levels.items c.loop-action.invariant
    (none_left c.next-2.result _ _ c.next-2.ensures (sym c.is_some.ensures ∙ c.if-is_some.false)).0 c.loop-action-test.false
