-- A list that leads to an end hands out the numbers that are left, each once, downward.
use Rattle.reverse_runner.proofs.Common.{◌≡◌, ℕ, ◌+◌, ◌*◌, ◌∙◌, false, refl, ap, sym, arith, inl, inr, List, [], true, cond, ◌∷◌, add-zero, zero, suc, true≢false, ◌++◌, add-suc, mul-zero, cases_Bool, Action, Forward, Copy, Move, Reverse, EndForward, EndReverse, Work, Level, Store, Nothing, Tape, Configuration, start, Goes, Slots, numbers_from, handed_by, handed, countdown}
use Rattle.level_book.specs.Valid.{Leads, Valid}

-- the numbers below n, downward
abbrev below : ℕ → List ℕ
below zero = []
below (suc n) = countdown n

countdown_is : (n : ℕ) → countdown n ≡ n ∷ below n
countdown_is zero = refl
countdown_is (suc n) = refl

-- those of so many more
below_more : (from n : ℕ) → below (from + n) ≡ numbers_from from n ++ below from
below_more from zero = ap below (add-zero from)
below_more from (suc n) = ap below (add-suc from n) ∙ countdown_is (from + n) ∙ ap (λ l. (from + n) ∷ l) (below_more from n)

below_unit : (unit n : ℕ) → below (unit * (n + 1)) ≡ numbers_from (unit * n) unit ++ below (unit * n)
below_unit unit n = let more : unit * (n + 1) ≡ unit * n + unit = omega arith in ap below more ∙ below_more (unit * n) unit

-- what is still to be handed out at a configuration
abbrev remaining : ℕ → ℕ → Configuration → List ℕ
remaining unit steps c = cond c.forward_ended (below (unit * c.reverse)) (countdown (unit * steps))

-- before EndForward nothing was reversed
abbrev Whole : ℕ → Configuration → Type 0
Whole steps c = c.forward_ended ≡ false → c.reverse ≡ steps

-- what an action changes of all that
record Hands (unit steps : ℕ) (c : Configuration) (a : Action) (m : Configuration) : Type 0 where
  whole : Whole steps m
  hands : remaining unit steps c ≡ handed_by unit steps a ++ remaining unit steps m

-- an action that ends and reverses nothing hands nothing out
passes : (unit steps : ℕ) (c m e : Configuration) → m ≡ e → e.forward_ended ≡ c.forward_ended → e.reverse ≡ c.reverse → Whole steps c →
    Whole steps m × (remaining unit steps c ≡ remaining unit steps m)
passes unit steps c m e is ended reverse whole = (
  λ h. ap (λ (x : Configuration). x.reverse) is ∙ reverse ∙ whole (sym ended ∙ sym (ap (λ (x : Configuration). x.forward_ended) is) ∙ h),
  (λ i. cond (sym ended i) (below (unit * sym reverse i)) (countdown (unit * steps))) ∙ ap (remaining unit steps) (sym is),
)

as_passes : (unit steps : ℕ) (c : Configuration) (a : Action) (m : Configuration) → handed_by unit steps a ≡ [] → Whole steps m × (remaining unit steps c ≡ remaining unit steps m) → Hands unit steps c a m
as_passes unit steps c a m none p = record { whole = p.0; hands = p.1 ∙ ap (λ l. l ++ remaining unit steps m) (sym none) }

hand_step : (unit steps : ℕ) (slots : List Slots) (c : Configuration) (a : Action) (m : Configuration) → Goes steps slots c a m → Whole steps c → Hands unit steps c a m
hand_step unit steps slots c (Forward from to Nothing) m g whole = as_passes unit steps c _ m refl (passes unit steps c m _ g.2 refl refl whole)
hand_step unit steps slots c (Forward from to (Store k)) m g whole = as_passes unit steps c _ m refl (passes unit steps c m _ g.3 refl refl whole)
hand_step unit steps slots c (Forward from to Tape) m g whole = as_passes unit steps c _ m refl (passes unit steps c m _ g.5 refl refl whole)
hand_step unit steps slots c (Copy n k Work) m g whole = as_passes unit steps c _ m refl (passes unit steps c m _ g.2 refl refl whole)
hand_step unit steps slots c (Copy n k (Level j)) m g whole = as_passes unit steps c _ m refl (passes unit steps c m _ g.4 refl refl whole)
hand_step unit steps slots c (Move n k Work) m g whole = as_passes unit steps c _ m refl (passes unit steps c m _ g.2 refl refl whole)
hand_step unit steps slots c (Move n k (Level j)) m g whole = as_passes unit steps c _ m refl (passes unit steps c m _ g.4 refl refl whole)
hand_step unit steps slots c EndReverse m g whole = as_passes unit steps c _ m refl (passes unit steps c m _ g.3 refl refl whole)
hand_step unit steps slots c (Reverse from to) m g whole = record {
  whole = λ h. absurd (true≢false (sym g.1 ∙ sym (ap (λ (x : Configuration). x.forward_ended) g.5) ∙ h));
  hands =
      (λ i. cond (g.1 i) (below (unit * c.reverse)) (countdown (unit * steps)))
      ∙ ap (λ n. below (unit * n)) (sym g.3 ∙ sym g.4) ∙ below_unit unit to
      ∙ ap (λ l. numbers_from (unit * to) unit ++ l) (sym (ap (remaining unit steps) g.5 ∙ (λ i. cond (g.1 i) (below (unit * to)) (countdown (unit * steps)))));
}
hand_step unit steps slots c EndForward m g whole = record {
  whole = λ h. absurd (true≢false (sym (ap (λ (x : Configuration). x.forward_ended) g.3) ∙ h));
  hands =
      (λ i. cond (g.1 i) (below (unit * c.reverse)) (countdown (unit * steps)))
      ∙ countdown_is (unit * steps)
      ∙ ap (λ n. (unit * steps) ∷ below (unit * n)) (sym (whole g.1))
      ∙ ap (λ l. (unit * steps) ∷ l) (sym (ap (remaining unit steps) g.3));
}

-- at an end nothing is left to be handed out
nothing_left : (steps : ℕ) (slots : List Slots) (c : Configuration) (list : List Action) (d : Configuration) → Leads steps slots c list d → c.ended ≡ true → list ≡ []
nothing_left steps slots c [] d leads ended = refl
nothing_left steps slots c (a ∷ rest) d leads ended = absurd (true≢false (sym ended ∙ open_before a leads.0 leads.1))
  where
    open_before : (a : Action) (m : Configuration) → Goes steps slots c a m → c.ended ≡ false
    open_before (Forward from to Nothing) m g = g.0
    open_before (Forward from to (Store k)) m g = g.0
    open_before (Forward from to Tape) m g = g.0
    open_before (Reverse from to) m g = g.0
    open_before (Copy n k Work) m g = g.0
    open_before (Copy n k (Level j)) m g = g.0
    open_before (Move n k Work) m g = g.0
    open_before (Move n k (Level j)) m g = g.0
    open_before EndForward m g = g.0
    open_before EndReverse m g = g.0

still_open : (m e : Configuration) → m ≡ e → e.ended ≡ false → m.ended ≡ true → ⊥
still_open m e is open_ ended = true≢false (sym ended ∙ ap (λ (x : Configuration). x.ended) is ∙ open_)

-- only EndReverse ends, and nothing is left then
left_at_end : (unit steps : ℕ) (slots : List Slots) (c : Configuration) (a : Action) (m : Configuration) → Goes steps slots c a m → m.ended ≡ true → remaining unit steps m ≡ []
left_at_end unit steps slots c (Forward from to Nothing) m g ended = absurd (still_open m _ g.2 g.0 ended)
left_at_end unit steps slots c (Forward from to (Store k)) m g ended = absurd (still_open m _ g.3 g.0 ended)
left_at_end unit steps slots c (Forward from to Tape) m g ended = absurd (still_open m _ g.5 g.0 ended)
left_at_end unit steps slots c (Reverse from to) m g ended = absurd (still_open m _ g.5 g.0 ended)
left_at_end unit steps slots c (Copy n k Work) m g ended = absurd (still_open m _ g.2 g.0 ended)
left_at_end unit steps slots c (Copy n k (Level j)) m g ended = absurd (still_open m _ g.4 g.0 ended)
left_at_end unit steps slots c (Move n k Work) m g ended = absurd (still_open m _ g.2 g.0 ended)
left_at_end unit steps slots c (Move n k (Level j)) m g ended = absurd (still_open m _ g.4 g.0 ended)
left_at_end unit steps slots c EndForward m g ended = absurd (still_open m _ g.3 g.0 ended)
left_at_end unit steps slots c EndReverse m g ended =
    ap (remaining unit steps) g.3 ∙ (λ i. cond (g.1 i) (below (unit * c.reverse)) (countdown (unit * steps))) ∙ ap (λ n. below (unit * n)) g.2 ∙ ap below (mul-zero unit)

hands : (unit steps : ℕ) (slots : List Slots) (c : Configuration) (list : List Action) (d : Configuration) → Leads steps slots c list d → d.ended ≡ true → c.ended ≡ false → Whole steps c →
    handed unit steps list ≡ remaining unit steps c
hands unit steps slots c [] d leads ended open_ whole = absurd (still_open d c leads open_ ended)
hands unit steps slots c (a ∷ rest) d leads ended open_ whole =
    let m = leads.0 in
    let step = hand_step unit steps slots c a m leads.1 whole in
    ap (λ l. handed_by unit steps a ++ l) (elim (cases_Bool m.ended) [
      | inl e ↦ ap (handed unit steps) (nothing_left steps slots m rest d leads.2 e) ∙ sym (left_at_end unit steps slots c a m leads.1 e)
      | inr e ↦ hands unit steps slots m rest d leads.2 ended e step.whole
    ])
    ∙ sym step.hands

-- a valid list hands out all the numbers from that of the last state to 0
pub valid_hands : (unit steps : ℕ) (slots : List Slots) (list : List Action) → Valid steps slots list → handed unit steps list ≡ countdown (unit * steps)
valid_hands unit steps slots list valid = hands unit steps slots (start steps slots) list valid.0 valid.1 valid.2 refl (λ _. refl)
