-- Walks back over undo lists, and the digests that are taken on them.
use Rattle.std.proofs.Common.{◌≡◌, ℕ, zero, suc, ◌<◌, inl, inr, ◌⊎◌, List, [], ◌∷◌, ◌++◌, length, reverse, Option, Some, None, refl, sym, ap, subst, ◌∙◌, append_assoc, arith, slice_get, get_or}
use Rattle.std.proofs.lemmas.List.{reverse-append, length-reverse}
use Rattle.std.specs.List.{AllByRecursion}
use Rattle.rv_machine.specs.MachineState.{MachineState}
use Rattle.sha2.specs.Sha256.{sha256}
use Rattle.state_image.specs.Image.{image}
use Rattle.unit_undo.specs.Entry.{Entry, undone}
use Rattle.unit_undo.specs.UndoTrail.{led_back}
use Rattle.unit_undo.proofs.UndoTrail.{walked_states}
use Rattle.unit_digests.specs.declared.sharing.Taken.{Taken}
use Rattle.unit_digests.specs.Digests.{AreDigests}
use Rattle.unit_digests.specs.WorkDivision.{IsTaken}

-- The state was one of these, and those to which the entries lead back are behind it. So it is after one step more.
pub passed_more : (all front : List MachineState) (old new : List Entry) (e : Entry) (s t : MachineState) → all ≡ front ++ s ∷ led_back old s → old ≡ e ∷ new → t ≡ undone e s →
    all ≡ (front ++ s ∷ []) ++ t ∷ led_back new t
passed_more all front old new e s t passed is there = passed ∙ ap (λ states. front ++ s ∷ states) (walked_states old new e s t is there) ∙ sym (append_assoc front (s ∷ []) (t ∷ led_back new t))

same_rest : {X : Type 0} (x y : X) (xs ys : List X) → x ∷ xs ≡ y ∷ ys → xs ≡ ys
same_rest x y xs ys e = cc

-- where fewer are left than there were, the state is not the first one
pub fell_behind : (front : List MachineState) (first s : MachineState) (xs ys : List MachineState) → first ∷ xs ≡ front ++ s ∷ ys → length ys < length xs → (behind : List MachineState) × (xs ≡ behind ++ s ∷ ys)
fell_behind [] first s xs ys is fewer = (let same = ap length (same_rest first s xs ys is) in absurd (omega (arith, same, fewer)))
fell_behind (x ∷ front) first s xs ys is fewer = (front, same_rest first x xs (front ++ s ∷ ys) is)

-- states before those that are passed next
pub joined : (all front rest behind : List MachineState) (s : MachineState) (left : List MachineState) → all ≡ front ++ rest → rest ≡ behind ++ s ∷ left → all ≡ (front ++ behind) ++ s ∷ left
joined all front rest behind s left is next = is ∙ ap (λ (xs : List MachineState). front ++ xs) next ∙ sym (append_assoc front behind (s ∷ left))

at_seam : {X : Type 0} (xs : List X) (y : X) (ys : List X) → slice_get (xs ++ y ∷ ys) (length xs) ≡ Some y
at_seam [] y ys = refl
at_seam (x ∷ xs) y ys = at_seam xs y ys

turned : {X : Type 0} (xs : List X) (y : X) (ys : List X) → reverse (xs ++ y ∷ ys) ≡ reverse ys ++ y ∷ reverse xs
turned xs y ys = reverse-append xs (y ∷ ys) ∙ ap (λ l. l ++ reverse xs) (reverse-append (y ∷ []) ys) ∙ append_assoc (reverse ys) (y ∷ []) (reverse xs)

-- a state has the number of those that are left behind it
pub its_number : (all front : List MachineState) (s : MachineState) (rest : List MachineState) (number : ℕ) → all ≡ front ++ s ∷ rest → length rest ≡ number → slice_get (reverse all) number ≡ Some s
its_number all front s rest number is count =
    ap (λ (xs : List MachineState). slice_get (reverse xs) number) is
    ∙ ap (λ (xs : List MachineState). slice_get xs number) (turned front s rest)
    ∙ ap (λ (k : ℕ). slice_get (reverse rest ++ s ∷ reverse front) k) (sym count ∙ sym (length-reverse rest))
    ∙ at_seam (reverse rest) s (reverse front)

same_state : (s t : MachineState) (o : Option MachineState) → o ≡ Some s → o ≡ Some t → s ≡ t
same_state s t o e f = cc

-- so its digest is that of the state with the number
pub is_taken : (all front : List MachineState) (s : MachineState) (rest : List MachineState) (t : Taken) → all ≡ front ++ s ∷ rest → length rest ≡ t.number → t.digest ≡ sha256 (image s) → IsTaken (reverse all) t
is_taken all front s rest t is count digest u there =
    digest ∙ ap (λ (x : MachineState). sha256 (image x)) (same_state s u (slice_get (reverse all) t.number) (its_number all front s rest t.number is count) there)

pub all_push : {X : Type 0} (P : X → Type 0) (xs : List X) (y : X) → AllByRecursion P xs → P y → AllByRecursion P (xs ++ y ∷ [])
all_push P [] y all is = (is, tt)
all_push P (x ∷ xs) y all is = (all.0, all_push P xs y all.1 is)

pub all_item : {X : Type 0} (P : X → Type 0) (xs : List X) (k : ℕ) (x : X) → AllByRecursion P xs → k < length xs → x ≡ get_or xs k x → P x
all_item P [] k x all inside is = absurd (omega (arith, inside))
all_item P (y ∷ xs) zero x all inside is = subst P (sym is) all.0
all_item P (y ∷ xs) (suc k) x all inside is = all_item P xs k x all.1 (omega (arith, inside)) is

after_push : {X : Type 0} (xs : List X) (k : ℕ) (y z : X) → slice_get (xs ++ y ∷ []) k ≡ Some z → (y ≡ z) ⊎ (slice_get xs k ≡ Some z)
after_push [] zero y z there = inl cc
after_push [] (suc k) y z there = inr there
after_push (x ∷ xs) zero y z there = inr there
after_push (x ∷ xs) (suc k) y z there = after_push xs k y z there

none_is_some : {X : Type 0} (x : X) → None ≡ Some x → ⊥
none_is_some x e = cc

-- one more place, whose digest is unknown
pub unknown_comes : (known : List (Option (List ℕ))) (states : List MachineState) → AreDigests known states → AreDigests (known ++ None ∷ []) states
unknown_comes known states are k s digest state there =
    elim (after_push known k None (Some digest) there) [ inl p ↦ absurd (none_is_some digest p) | inr p ↦ are k s digest state p ]
