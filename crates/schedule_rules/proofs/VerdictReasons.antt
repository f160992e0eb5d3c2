-- Why a list is broken where the first action breaks a rule, and where it ends unfinished.
use Rattle.std.proofs.Common.{◌≡◌, ℕ, zero, suc, ◌+◌, ◌-◌, ◌<◌, false, List, [], ◌∷◌, ◌++◌, length, take, refl, sym, ◌∙◌, ap, subst, arith, Option, Some, true≢false, add-one}
use Rattle.std.specs.List.{slice_get}
use Rattle.std.proofs.lemmas.List.{take_all}
use Rattle.std.proofs.lemmas.Option.{slice_get_past}
use Rattle.plan_types.specs.declared.action.Action.{Action}
use Rattle.level_book.specs.declared.book.Slots.{Slots}
use Rattle.level_book.specs.Configuration.{Configuration, start}
use Rattle.level_book.specs.Moves.{Goes}
use Rattle.level_book.specs.Rules.{rule, level_refused}
use Rattle.level_book.specs.Valid.{Leads, BreaksRule}
use Rattle.schedule_rules.specs.declared.whole_list.Verdict.{Verdict}
use Rattle.schedule_rules.specs.declared.whole_list.Verdict.TheVariants.{Broken}
use Rattle.schedule_rules.specs.declared.config.Broken.{Broken as Refusal}
use Rattle.schedule_rules.specs.declared.config.Broken.TheVariants.{Rule}
use Rattle.schedule_rules.specs.Situation.{Situation}
use Rattle.schedule_rules.specs.Verdicts.{refusal}
use Rattle.schedule_rules.specs.VerdictMeaning.{Judges}
use Rattle.schedule_rules.proofs.MovesByRules.{unbroken}
use Rattle.schedule_rules.proofs.Reachability.{leads_unique, leads_apart, leads_more, sound_on, sound_start}

some_is : {X : Type 0} (x y : X) → Some x ≡ Some y → x ≡ y
some_is x y e = cc

-- a list is its front, an element, and what follows
around : {X : Type 0} (xs : List X) (i : ℕ) (x : X) → slice_get xs i ≡ Some x → (rest : List X) × (xs ≡ take i xs ++ x ∷ rest)
around [] i x e = absurd (cc)
around (y ∷ ys) zero x e = (ys, ap (λ z. z ∷ ys) (some_is y x e))
around (y ∷ ys) (suc i) x e = let r = around ys i x e in (r.0, ap (λ zs. y ∷ zs) r.1)

pub take_one_more : {X : Type 0} (xs : List X) (i : ℕ) (x : X) → slice_get xs i ≡ Some x → take (i + 1) xs ≡ take i xs ++ x ∷ []
take_one_more xs i x e = ap (λ n. take n xs) (add-one i) ∙ by_suc xs i x e
  where
    by_suc : {X : Type 0} (xs : List X) (i : ℕ) (x : X) → slice_get xs i ≡ Some x → take (suc i) xs ≡ take i xs ++ x ∷ []
    by_suc [] i x e = absurd (cc)
    by_suc (y ∷ ys) zero x e = ap (λ z. z ∷ []) (some_is y x e)
    by_suc (y ∷ ys) (suc i) x e = ap (λ zs. y ∷ zs) (by_suc ys i x e)

-- no rule is broken by an action that a list takes on its way
pub kept_on_the_way : (steps : ℕ) (slots : List Slots) (list : List Action) (i : ℕ) (c : Configuration) (a : Action) (last : Configuration) → slice_get list i ≡ Some a →
    Leads steps slots (start steps slots) (take i list) c → Leads steps slots (start steps slots) list last → rule steps slots c a ≡ 0
kept_on_the_way steps slots list i c a last at leads whole =
    let parts = around list i a at in
    let P : List Action → Type 0 = λ xs. Leads steps slots (start steps slots) xs last in
    let apart = leads_apart steps slots (start steps slots) (take i list) (a ∷ parts.0) last (subst P parts.1 whole) in
    let same = leads_unique steps slots (start steps slots) (take i list) apart.0 c apart.1 leads in
    let Q : Configuration → Type 0 = λ m. Goes steps slots m a apart.2.0 in
    unbroken steps slots c a apart.2.0 (sound_on steps slots (start steps slots) (take i list) c (sound_start steps slots) leads).within (subst Q same apart.2.1)

-- the first action that breaks a rule is where the list is broken
pub broken_here : (steps : ℕ) (slots : List Slots) (list : List Action) (i : ℕ) (c : Configuration) (a : Action) → i < length list → slice_get list i ≡ Some a →
    Leads steps slots (start steps slots) (take i list) c → 0 < rule steps slots c a →
    Judges steps slots list (Broken (i + 1) (rule steps slots c a) (level_refused (rule steps slots c a) a))
broken_here steps slots list i c a within at leads breaks =
    let place : i ≡ i + 1 - 1 = omega arith in
    let P : ℕ → Type 0 = λ k. Leads steps slots (start steps slots) (take k list) c in
    let Q : Option Action → Type 0 = λ o. BreaksRule steps slots c o (rule steps slots c a) (level_refused (rule steps slots c a) a) in (
      record {
        from_one = omega arith;
        within = omega arith;
        before = c;
        leads = subst P place leads;
        breaks = subst Q (sym at ∙ ap (slice_get list) place) (refl, breaks, refl);
      },
      λ valid. absurd (omega (arith, kept_on_the_way steps slots list i c a valid.0 at leads valid.1)),
    )

-- a list that ends without EndReverse is broken one past its end
pub unfinished_here : (steps : ℕ) (slots : List Slots) (list : List Action) (c : Configuration) → Leads steps slots (start steps slots) list c → c.ended ≡ false →
    Judges steps slots list (Broken (length list + 1) 16 0)
unfinished_here steps slots list c leads open_ =
    let place : length list ≡ length list + 1 - 1 = omega arith in
    let P : List Action → Type 0 = λ xs. Leads steps slots (start steps slots) xs c in
    let Q : Option Action → Type 0 = λ o. BreaksRule steps slots c o 16 0 in (
      record {
        from_one = omega arith;
        within = omega arith;
        before = c;
        leads = subst P (sym (take_all (length list) list (omega arith)) ∙ ap (λ k. take k list) place) leads;
        breaks = subst Q (sym (slice_get_past list (length list) (omega arith)) ∙ ap (slice_get list) place) (open_, refl, refl);
      },
      λ valid. true≢false (sym valid.2 ∙ ap (λ (d : Configuration). d.ended) (leads_unique steps slots (start steps slots) list valid.0 c valid.1 leads) ∙ open_),
    )

-- the same, where what is judged for is known by equations
pub broken_so : (steps : ℕ) (slots : List Slots) (list : List Action) (i : ℕ) (s : Situation) (a : Action) (broken : Refusal) (verdict : Verdict) →
    s.steps ≡ steps → s.slots ≡ slots → i < length list → slice_get list i ≡ Some a →
    Leads steps slots (start steps slots) (take i list) s.at → 0 < rule s.steps s.slots s.at a → broken ≡ refusal s.steps s.slots s.at a →
    ((number level : ℕ) → broken ≡ Rule number level → verdict ≡ Broken (i + 1) number level) → Judges steps slots list verdict
broken_so steps slots list i s a broken verdict same_steps same_slots within at leads breaks refused gives =
    let same : rule s.steps s.slots s.at a ≡ rule steps slots s.at a = λ j. rule (same_steps j) (same_slots j) s.at a in
    let P : ℕ → Type 0 = λ n. 0 < n in
    subst (Judges steps slots list) (sym (gives _ _ (refused ∙ ap (λ n. Rule n (level_refused n a)) same)))
    (broken_here steps slots list i s.at a within at leads (subst P same breaks))

-- the actions so far and one that may be done
pub goes_on : (steps : ℕ) (slots : List Slots) (list : List Action) (i : ℕ) (s : Situation) (a : Action) (d : Configuration) →
    s.steps ≡ steps → s.slots ≡ slots → slice_get list i ≡ Some a →
    Leads steps slots (start steps slots) (take i list) s.at → Goes s.steps s.slots s.at a d → Leads steps slots (start steps slots) (take (i + 1) list) d
goes_on steps slots list i s a d same_steps same_slots at leads goes =
    let P : List Action → Type 0 = λ xs. Leads steps slots (start steps slots) xs d in
    let R : ℕ → Type 0 = λ n. Goes n s.slots s.at a d in
    let T : List Slots → Type 0 = λ ss. Goes steps ss s.at a d in
    let go = subst T same_slots (subst R same_steps goes) in
    subst P (sym (take_one_more list i a at)) (leads_more steps slots (start steps slots) (take i list) s.at a d leads go)
