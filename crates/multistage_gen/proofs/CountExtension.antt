-- The actions that were counted, and one action more.
use Rattle.std.proofs.Common.{◌≡◌, ℕ, ◌+◌, ◌-◌, ◌<◌, ◌≤◌, subst, List, [], ◌∷◌, ◌++◌, length, refl, sym, ap, ◌∙◌, arith, append_assoc}
use Rattle.std.proofs.lemmas.List.{append-nil}
use Rattle.plan_types.specs.declared.action.Action.{Action}
use Rattle.revolve_gen.specs.declared.stack.StackStep.{StackStep}
use Rattle.revolve_gen.specs.declared.stack.StackStep.TheVariants.{Push, Read, Pop, Stay}
use Rattle.revolve_gen.specs.Stack.{stack_step, held_after, held_at_end, place_written, place_read, written, read}
use Rattle.multistage_gen.specs.declared.traffic.PlaceTraffic.{PlaceTraffic}
use Rattle.multistage_gen.specs.Traffic.{IsTraffic}
use Rattle.multistage_gen.specs.TrafficCount.{HasCounted}

written_end : (h : ℕ) (xs : List Action) (a : Action) → written h (xs ++ a ∷ []) ≡ written h xs ++ place_written (held_at_end h xs) (stack_step a)
written_end h [] a = append-nil (place_written h (stack_step a))
written_end h (x ∷ xs) a =
    let s = stack_step x in
    ap (λ r. place_written h s ++ r) (written_end (held_after h s) xs a) ∙ sym (append_assoc (place_written h s) (written (held_after h s) xs) (place_written (held_at_end h (x ∷ xs)) (stack_step a)))

read_end : (h : ℕ) (xs : List Action) (a : Action) → read h (xs ++ a ∷ []) ≡ read h xs ++ place_read (held_at_end h xs) (stack_step a)
read_end h [] a = append-nil (place_read h (stack_step a))
read_end h (x ∷ xs) a =
    let s = stack_step x in
    ap (λ r. place_read h s ++ r) (read_end (held_after h s) xs a) ∙ sym (append_assoc (place_read h s) (read (held_after h s) xs) (place_read (held_at_end h (x ∷ xs)) (stack_step a)))

end_end : (h : ℕ) (xs : List Action) (a : Action) → held_at_end h (xs ++ a ∷ []) ≡ held_after (held_at_end h xs) (stack_step a)
end_end h [] a = refl
end_end h (x ∷ xs) a = end_end (held_after h (stack_step x)) xs a

-- no action was counted
pub none_counted : (items : List PlaceTraffic) → items ≡ [] → HasCounted [] 0 items
none_counted items none = subst (HasCounted [] 0) (sym none) (record {
  traffic = record { many = refl; each = λ p h. absurd (omega (arith, h)) };
  held_is = refl;
  near = omega arith;
})

-- one action more, which does this with the stack
more : (front : List Action) (held : ℕ) (items next : List PlaceTraffic) (a : Action) (s : StackStep) →
    HasCounted front held items → stack_step a ≡ s → held_after held s ≤ length next →
    IsTraffic (written 0 front ++ place_written held s) (read 0 front ++ place_read held s) next → HasCounted (front ++ a ∷ []) (held_after held s) next
more front held items next a s is step near t =
    let we : written 0 (front ++ a ∷ []) ≡ written 0 front ++ place_written held s =
    written_end 0 front a ∙ (λ j. written 0 front ++ place_written (sym is.held_is j) (step j)) in
    let re : read 0 (front ++ a ∷ []) ≡ read 0 front ++ place_read held s =
    read_end 0 front a ∙ (λ j. read 0 front ++ place_read (sym is.held_is j) (step j)) in
    record {
      traffic = subst (λ x. IsTraffic x (read 0 (front ++ a ∷ [])) next) (sym we) (subst (λ x. IsTraffic (written 0 front ++ place_written held s) x next) (sym re) t);
      held_is = sym (end_end 0 front a ∙ (λ j. held_after (sym is.held_is j) (step j)));
      near = near;
    }

no_read : (ws rs : List ℕ) (items : List PlaceTraffic) → IsTraffic ws rs items → IsTraffic ws (rs ++ []) items
no_read ws rs items t = subst (λ x. IsTraffic ws x items) (sym (append-nil rs)) t

no_write : (ws rs : List ℕ) (items : List PlaceTraffic) → IsTraffic ws rs items → IsTraffic (ws ++ []) rs items
no_write ws rs items t = subst (λ x. IsTraffic x rs items) (sym (append-nil ws)) t

pub pushed : (front : List Action) (held : ℕ) (items next : List PlaceTraffic) (a : Action) → HasCounted front held items →
    stack_step a ≡ Push → held < length next → IsTraffic (written 0 front ++ held ∷ []) (read 0 front) next → HasCounted (front ++ a ∷ []) (held + 1) next
pushed front held items next a is step near t = more front held items next a Push is step (omega arith) (no_read _ _ next t)

-- the place that is read, where it is the newest
at_top : (front : List Action) (held spot : ℕ) (next : List PlaceTraffic) → spot ≡ held - 1 → IsTraffic (written 0 front) (read 0 front ++ spot ∷ []) next →
    IsTraffic (written 0 front ++ []) (read 0 front ++ (held - 1) ∷ []) next
at_top front held spot next down t = no_write _ _ next (subst (λ k. IsTraffic (written 0 front) (read 0 front ++ k ∷ []) next) down t)

pub got : (front : List Action) (held spot : ℕ) (items next : List PlaceTraffic) (a : Action) → HasCounted front held items →
    stack_step a ≡ Read → length items ≤ length next → spot ≡ held - 1 → IsTraffic (written 0 front) (read 0 front ++ spot ∷ []) next → HasCounted (front ++ a ∷ []) held next
got front held spot items next a is step grows down t =
    let near = is.near in
    more front held items next a Read is step (omega arith) (at_top front held spot next down t)

pub popped : (front : List Action) (held spot : ℕ) (items next : List PlaceTraffic) (a : Action) → HasCounted front held items →
    stack_step a ≡ Pop → length items ≤ length next → spot ≡ held - 1 → IsTraffic (written 0 front) (read 0 front ++ spot ∷ []) next → HasCounted (front ++ a ∷ []) spot next
popped front held spot items next a is step grows down t =
    let near = is.near in
    subst (λ k. HasCounted (front ++ a ∷ []) k next) (sym down) (more front held items next a Pop is step (omega arith) (at_top front held spot next down t))

pub stayed : (front : List Action) (held : ℕ) (items : List PlaceTraffic) (a : Action) → HasCounted front held items → stack_step a ≡ Stay → HasCounted (front ++ a ∷ []) held items
stayed front held items a is step = more front held items items a Stay is step is.near (no_write _ _ items (no_read _ _ items is.traffic))
