-- The actions of a valid list have a spelling: their numbers are those of states, and their levels are there.
use Rattle.std.proofs.Common.{◌≡◌, inl, inr, ℕ, ◌≤◌, true, false, List, [], ◌∷◌, length, map, refl, sym, ◌∙◌, ◌||◌, ap, subst, arith}
use Rattle.std.specs.List.{AllByRecursion, list_any}
use Rattle.std.specs.FinSet as set
use Rattle.std.specs.Ordering.{nat_cmp}
use Rattle.std.proofs.lemmas.Bool.{false≢true}
use Rattle.plan_types.specs.declared.action.Keep.TheVariants.{Nothing, Store, Tape}
use Rattle.plan_types.specs.declared.action.Dest.TheVariants.{Work, Level}
use Rattle.plan_types.specs.declared.action.Action.{Action}
use Rattle.plan_types.specs.declared.action.Action.TheVariants.{Forward, Reverse, Copy, Move, EndForward, EndReverse}
use Rattle.level_book.specs.declared.book.Slots.{Slots}
use Rattle.level_book.specs.Configuration.{Configuration, start, with_held, without_held}
use Rattle.level_book.specs.Moves.{MayAdvance, IsHeld, Goes}
use Rattle.level_book.specs.Valid.{Leads, Valid}
use Rattle.action_text.specs.Canonical.{HasSpelling}
use Rattle.pebble_bound.proofs.ConfigurationMeasures.{is_held}
use Rattle.pebble_bound.proofs.HeldPositions.{on_level, held_more, held_less}

-- all states that a configuration knows of are among the first so many
record IsLow (steps : ℕ) (c : Configuration) : Type 0 where
  work : c.work ≤ steps
  reverse : c.reverse ≤ steps
  held : (n : ℕ) → is_held c n ≡ true → n ≤ steps

none_at_start : (steps : ℕ) (slots : List Slots) (n : ℕ) → is_held (start steps slots) n ≡ true → n ≤ steps
none_at_start steps slots n h = absurd (false≢true (sym (none slots) ∙ h))
  where
    none : (slots : List Slots) → list_any (λ (images : set.FinSet nat_cmp). set.contains images n) (map (λ (_ : Slots). set.empty {R = nat_cmp}) slots) ≡ false
    none [] = refl
    none (s ∷ slots) = ap (λ b. b || list_any (λ images. set.contains images n) (map (λ (_ : Slots). set.empty {R = nat_cmp}) slots)) (set.contains-empty nat_cmp n) ∙ none slots

low_at_start : (steps : ℕ) (slots : List Slots) → IsLow steps (start steps slots)
low_at_start steps slots = record { work = omega arith; reverse = omega arith; held = none_at_start steps slots }

-- an image is taken up, and let go
low_with : (steps : ℕ) (c : Configuration) (n k : ℕ) → n ≤ steps → IsLow steps c → IsLow steps (with_held c n k)
low_with steps c n k small low = record {
  work = low.work;
  reverse = low.reverse;
  held = λ i h. elim (held_more c n k i h) [ inl before ↦ low.held i before | inr same ↦ omega (arith, small, same) ];
}

low_without : (steps : ℕ) (c : Configuration) (n k : ℕ) → IsLow steps c → IsLow steps (without_held c n k)
low_without steps c n k low = record { work = low.work; reverse = low.reverse; held = λ i h. low.held i (held_less c n k i h) }

low_work : (steps : ℕ) (c : Configuration) (n : ℕ) → n ≤ steps → IsLow steps c → IsLow steps (record c { work = n })
low_work steps c n small low = record { work = small; reverse = low.reverse; held = low.held }

low_same : (steps : ℕ) (c d : Configuration) → d ≡ c → IsLow steps c → IsLow steps d
low_same steps c d e low = subst (IsLow steps) (sym e) low

ahead_small : (steps : ℕ) (c : Configuration) (from to : ℕ) → IsLow steps c → MayAdvance c from to → to ≤ steps
ahead_small steps c from to low may = omega (arith, low.reverse, may.within)

held_small : (steps : ℕ) (slots : List Slots) (c : Configuration) (n k : ℕ) → IsLow steps c → IsHeld slots c n k → n ≤ steps
held_small steps slots c n k low is = low.held n (on_level c k n is.there)

spelled_step : (steps : ℕ) (slots : List Slots) (names : List (List ℕ)) (c : Configuration) (a : Action) (d : Configuration) → steps ≤ 1000000 → length slots ≤ length names → IsLow steps c → Goes steps slots c a d → HasSpelling names a × IsLow steps d
spelled_step steps slots names c (Forward from to Nothing) d short named low g =
    let small = ahead_small steps c from to low g.1 in
    ((omega (arith, g.1.ahead, small, short), omega (arith, small, short), tt), low_same steps _ d g.2 (low_work steps c to small low))
spelled_step steps slots names c (Forward from to (Store k)) d short named low g =
    let small = ahead_small steps c from to low g.1 in
    let start : from ≤ steps = omega (arith, g.1.ahead, small) in
    ((omega (arith, g.1.ahead, small, short), omega (arith, small, short), omega (arith, g.2.level, named)), low_same steps _ d g.3 (low_work steps (with_held c from k) to small (low_with steps c from k start low)))
spelled_step steps slots names c (Forward from to Tape) d short named low g =
    let small = ahead_small steps c from to low g.1 in
    ((omega (arith, g.1.ahead, small, short), omega (arith, small, short), g.2), low_same steps _ d g.5 (record { work = small; reverse = low.reverse; held = low.held }))
spelled_step steps slots names c (Reverse from to) d short named low g =
    let small : from ≤ steps = omega (arith, low.reverse, g.3) in
    ((omega (arith, small, short), omega (arith, small, short, g.4), sym g.4), low_same steps _ d g.5 (record { work = low.work; reverse = omega (arith, small, g.4); held = low.held }))
spelled_step steps slots names c (Copy n k Work) d short named low g =
    let small = held_small steps slots c n k low g.1 in
    ((omega (arith, small, short), omega (arith, g.1.level, named), tt), low_same steps _ d g.2 (low_work steps c n small low))
spelled_step steps slots names c (Copy n k (Level j)) d short named low g =
    let small = held_small steps slots c n k low g.1 in
    ((omega (arith, small, short), omega (arith, g.1.level, named), omega (arith, g.3.level, named)), low_same steps _ d g.4 (low_with steps c n j small low))
spelled_step steps slots names c (Move n k Work) d short named low g =
    let small = held_small steps slots c n k low g.1 in
    ((omega (arith, small, short), omega (arith, g.1.level, named), tt), low_same steps _ d g.2 (low_work steps (without_held c n k) n small (low_without steps c n k low)))
spelled_step steps slots names c (Move n k (Level j)) d short named low g =
    let small = held_small steps slots c n k low g.1 in
    ((omega (arith, small, short), omega (arith, g.1.level, named), omega (arith, g.3.level, named)), low_same steps _ d g.4 (low_with steps (without_held c n k) n j small (low_without steps c n k low)))
spelled_step steps slots names c EndForward d short named low g = (tt, low_same steps _ d g.3 (record { work = low.work; reverse = low.reverse; held = low.held }))
spelled_step steps slots names c EndReverse d short named low g = (tt, low_same steps _ d g.3 (record { work = low.work; reverse = low.reverse; held = low.held }))

spelled_from : (steps : ℕ) (slots : List Slots) (names : List (List ℕ)) (list : List Action) (c d : Configuration) → steps ≤ 1000000 → length slots ≤ length names → IsLow steps c → Leads steps slots c list d → AllByRecursion (HasSpelling names) list
spelled_from steps slots names [] c d short named low h = tt
spelled_from steps slots names (a ∷ list) c d short named low h =
    let one = spelled_step steps slots names c a h.0 short named low h.1 in
    (one.0, spelled_from steps slots names list h.0 d short named one.1 h.2)

pub valid_spelled : (steps : ℕ) (slots : List Slots) (names : List (List ℕ)) (list : List Action) → steps ≤ 1000000 → length slots ≤ length names → Valid steps slots list → AllByRecursion (HasSpelling names) list
valid_spelled steps slots names list short named valid = spelled_from steps slots names list (start steps slots) valid.0 short named (low_at_start steps slots) valid.1
