-- The front of a list up to a state, action by action.
use Rattle.std.proofs.Common.{◌≡◌, ℕ, zero, suc, ◌+◌, ◌<◌, true, false, cond, List, [], ◌∷◌, ◌++◌, length, take, drop, Some, slice_get, refl, sym, ◌∙◌, ap, arith, add-one, append_assoc, length-append}
use Rattle.std.proofs.lemmas.List.{length-take-le}
use Rattle.std.proofs.lemmas.Option.{same_Some, none-some}
use Rattle.plan_types.specs.declared.action.Action.{Action}
use Rattle.schedule_rules.proofs.VerdictReasons.{take_one_more}
use Rattle.reverse_queries.specs.Queries.{hands_out, front_to}

drop_at : {A : Type 0} (xs : List A) (i : ℕ) (a : A) → slice_get xs i ≡ Some a → drop i xs ≡ a ∷ drop (i + 1) xs
drop_at xs i a h = by_suc xs i a h ∙ ap (λ n. a ∷ drop n xs) (sym (add-one i))
  where
    by_suc : {A : Type 0} (xs : List A) (i : ℕ) (a : A) → slice_get xs i ≡ Some a → drop i xs ≡ a ∷ drop (suc i) xs
    by_suc [] i a h = absurd (none-some a h)
    by_suc (x ∷ xs) zero a h = ap (λ y. y ∷ xs) (same_Some x a h)
    by_suc (x ∷ xs) (suc i) a h = by_suc xs i a h

-- an element stands within the list
pub is_within : {A : Type 0} (xs : List A) (i : ℕ) (a : A) → slice_get xs i ≡ Some a → i < length xs
is_within [] i a h = absurd (none-some a h)
is_within (x ∷ xs) zero a h = omega arith
is_within (x ∷ xs) (suc i) a h = let rest = is_within xs i a h in omega (arith, rest)

-- past an action that doesn't hand out the state
pub front_past : (unit steps n : ℕ) (list : List Action) (i : ℕ) (a : Action) → slice_get list i ≡ Some a → hands_out unit steps n a ≡ false →
    front_to unit steps n list ≡ take i list ++ front_to unit steps n (drop i list) → front_to unit steps n list ≡ take (i + 1) list ++ front_to unit steps n (drop (i + 1) list)
front_past unit steps n list i a at none so_far =
    let rest = front_to unit steps n (drop (i + 1) list) in
    so_far
    ∙ ap (λ l. take i list ++ front_to unit steps n l) (drop_at list i a at)
    ∙ ap (λ b. take i list ++ (a ∷ cond b [] rest)) none
    ∙ sym (append_assoc (take i list) (a ∷ []) rest)
    ∙ ap (λ l. l ++ rest) (sym (take_one_more list i a at))

-- at the action that hands it out
pub front_ends : (unit steps n : ℕ) (list : List Action) (i : ℕ) (a : Action) → slice_get list i ≡ Some a → hands_out unit steps n a ≡ true →
    front_to unit steps n list ≡ take i list ++ front_to unit steps n (drop i list) → front_to unit steps n list ≡ take (i + 1) list
front_ends unit steps n list i a at hands so_far =
    let rest = front_to unit steps n (drop (i + 1) list) in
    so_far
    ∙ ap (λ l. take i list ++ front_to unit steps n l) (drop_at list i a at)
    ∙ ap (λ b. take i list ++ (a ∷ cond b [] rest)) hands
    ∙ sym (take_one_more list i a at)

-- a list that another follows
front_of : {A : Type 0} (xs ys : List A) (n : ℕ) → length xs ≡ n → take n (xs ++ ys) ≡ xs
front_of [] ys zero e = refl
front_of [] ys (suc n) e = absurd (omega (arith, e))
front_of (x ∷ xs) ys zero e = absurd (omega (arith, e))
front_of (x ∷ xs) ys (suc n) e = ap (λ l. x ∷ l) (front_of xs ys n (omega (arith, e)))

-- the actions up to one on the way to the state are those of the front
pub front_takes : (unit steps n : ℕ) (list : List Action) (i : ℕ) (a : Action) → slice_get list i ≡ Some a → front_to unit steps n list ≡ take i list ++ front_to unit steps n (drop i list) →
    (take i (front_to unit steps n list) ≡ take i list) × (take (i + 1) (front_to unit steps n list) ≡ take (i + 1) list) × (i < length (front_to unit steps n list))
front_takes unit steps n list i a at so_far =
    let rest = cond (hands_out unit steps n a) [] (front_to unit steps n (drop (i + 1) list)) in
    let within = is_within list i a at in
    let one : front_to unit steps n list ≡ take i list ++ (a ∷ rest) = so_far ∙ ap (λ l. take i list ++ front_to unit steps n l) (drop_at list i a at) in
    let two : front_to unit steps n list ≡ take (i + 1) list ++ rest = one ∙ sym (append_assoc (take i list) (a ∷ []) rest) ∙ ap (λ l. l ++ rest) (sym (take_one_more list i a at)) in
    let here : length (take i list) ≡ i = length-take-le i list (omega (arith, within)) in
    let there : length (take (i + 1) list) ≡ i + 1 = length-take-le (i + 1) list (omega (arith, within)) in
    let whole : length (front_to unit steps n list) ≡ length (take (i + 1) list) + length rest = ap length two ∙ length-append (take (i + 1) list) rest in (
      ap (take i) one ∙ front_of (take i list) (a ∷ rest) i here,
      ap (take (i + 1)) two ∙ front_of (take (i + 1) list) rest (i + 1) there,
      omega (arith, whole, there),
    )
