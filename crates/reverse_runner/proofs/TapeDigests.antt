-- Digests that are known of states, and of those on a tape.
use Rattle.reverse_runner.proofs.Common.{◌≡◌, ℕ, ◌∙◌, refl, ap, sym, subst, arith, List, Option, Some, None, [], length, ◌<◌, slice_get, ◌∷◌, zero, suc, ◌++◌, reverse, IfSome, length-reverse, same_Some, none-some, sha256, MachineState, state_number, image, length-states_below, gone_states, length-led_back, UndoState, states_below, led_back, states_of, AreDigests}
use Rattle.std.proofs.lemmas.Grind.{reverse_onto}
use Rattle.unit_undo.specs.Entry.{Entry, undone}
use Rattle.unit_digests.proofs.DigestWalks.{its_number}
use Rattle.reverse_runner.specs.KnownDigests.{IsDigestOf}

get_front : {X : Type 0} (xs ys : List X) (k : ℕ) (x : X) → slice_get xs k ≡ Some x → slice_get (xs ++ ys) k ≡ Some x
get_front [] ys k x is = absurd cc
get_front (y ∷ xs) ys zero x is = is
get_front (y ∷ xs) ys (suc k) x is = get_front xs ys k x is

-- of fewer states the digests are known too
known_fewer : (known : List (Option (List ℕ))) (s : MachineState) (states : List MachineState) → AreDigests known (reverse (s ∷ states)) → AreDigests known (reverse states)
known_fewer known s states h = λ k t digest there. h k t digest (ap (λ ts. slice_get ts k) (reverse_onto states s []) ∙ get_front (reverse states) (s ∷ []) k t there)

-- where the last entry was taken away
pub known_behind : (known : List (Option (List ℕ))) (u v : UndoState) (e : Entry) (s t : MachineState) → u ≡ record v { entries = e ∷ v.entries } → t ≡ undone e s → AreDigests known (states_of u.entries s) → AreDigests known (states_of v.entries t)
known_behind known u v e s t is at h = known_fewer known t (led_back v.entries t) (subst (λ (ts : List MachineState). AreDigests known (reverse ts)) (gone_states u v e s t is at) h)

-- what is found at the number of the state that is reached is its digest
pub known_here : (known : List (Option (List ℕ))) (found : Option (List ℕ)) (number : ℕ) (u v : UndoState) (e : Entry) (s t : MachineState) → number ≡ length v.entries → u ≡ record v { entries = e ∷ v.entries } → t ≡ undone e s →
    AreDigests known (states_of u.entries s) → IfSome found (λ digest. slice_get known number ≡ Some (Some digest)) → IsDigestOf found t
known_here known None number u v e s t count is at h found = tt
known_here known (Some digest) number u v e s t count is at h found =
    subst (λ (ts : List MachineState). AreDigests known (reverse ts)) (gone_states u v e s t is at) h (length v.entries) t digest
    (its_number (t ∷ led_back v.entries t) [] t (led_back v.entries t) (length v.entries) refl (length-led_back v.entries t)) (ap (slice_get known) (sym count) ∙ found)

get_first : {X : Type 0} (xs ys : List X) → 0 < length xs → slice_get (xs ++ ys) 0 ≡ slice_get xs 0
get_first [] ys some = absurd (omega (arith, some))
get_first (x ∷ xs) ys some = refl

-- the first of the states of a run, where there is one
first_of_run : (first : MachineState) (journal : List (List ℕ)) (n : ℕ) (s : MachineState) → slice_get (reverse (states_below first journal n)) 0 ≡ Some s → s ≡ first
first_of_run first journal zero s is = absurd (none-some _ is)
first_of_run first journal (suc zero) s is = sym (same_Some _ _ is)
first_of_run first journal (suc (suc n)) s is =
    let before = states_below first journal (suc n) in
    let size : length (reverse before) ≡ suc n = length-reverse before ∙ length-states_below first journal (suc n) in
    let split : reverse (states_below first journal (suc (suc n))) ≡ reverse before ++ state_number first journal (suc n) ∷ [] = reverse_onto before (state_number first journal (suc n)) [] in
    first_of_run first journal (suc n) s (sym (get_first (reverse before) (state_number first journal (suc n) ∷ []) (omega (arith, size))) ∙ ap (λ ts. slice_get ts 0) (sym split) ∙ is)

-- the digest of the state before the steps of a unit is that of the first state on its tape
pub known_on_tape : (known : Option (List ℕ)) (first : MachineState) (journal : List (List ℕ)) (n : ℕ) (states : List MachineState) → states ≡ states_below first journal n → IsDigestOf known first → AreDigests (known ∷ []) (reverse states)
known_on_tape (Some digest) first journal n states same h zero s other there found =
    sym (same_Some _ _ (same_Some _ _ found)) ∙ h ∙ ap (λ (t : MachineState). sha256 (image t)) (sym (first_of_run first journal n s (ap (λ ts. slice_get (reverse ts) 0) (sym same) ∙ there)))
known_on_tape None first journal n states same h zero s other there found = absurd (none-some _ (same_Some _ _ found))
known_on_tape known first journal n states same h (suc k) s other there found = absurd (none-some _ found)
