-- Which levels an action names, and that it leaves the pages of the state in work as they are.
use Rattle.std.proofs.Common.{◌≡◌, ℕ, zero, suc, ◌-◌, ◌*◌, ◌<◌, ◌≤◌, ◌⊎◌, inl, inr, List, [], ◌∷◌, length, get_or, Contains, sym, ◌∙◌, ap, arith}
use Rattle.plan_types.specs.declared.action.Keep.TheVariants.{Nothing, Store, Tape}
use Rattle.plan_types.specs.declared.action.Dest.TheVariants.{Work, Level}
use Rattle.plan_types.specs.declared.action.Action.{Action}
use Rattle.plan_types.specs.declared.action.Action.TheVariants.{Forward, Reverse, Copy, Move, EndForward, EndReverse}
use Rattle.level_book.specs.declared.book.Slots.{Slots}
use Rattle.level_book.specs.Configuration.{Configuration}
use Rattle.level_book.specs.Moves.{Goes}
use Rattle.level_book.specs.Rules.{levels_named}
use Rattle.rv_pages.specs.Memory.{page_numbers}
use Rattle.rv_machine.specs.MachineState.{MachineState}
use Rattle.rv_machine.proofs.Runs.{state_number_keeps_pages}
use Rattle.reverse_runner.specs.ActionEffects.{Holdings, Acts}
use Rattle.reverse_runner.specs.SessionState.{SamePages}

pub one_named : (j k : ℕ) → Contains (j ∷ []) k → k ≡ j
one_named j k h = at h.0 h.1 h.2
  where
    at : (m : ℕ) → m < 1 → get_or (j ∷ []) m k ≡ k → k ≡ j
    at zero lt e = sym e
    at (suc m) lt e = absurd (omega (arith, lt))

pub two_named : (i j k : ℕ) → Contains (i ∷ j ∷ []) k → (k ≡ i) ⊎ (k ≡ j)
two_named i j k h = at h.0 h.1 h.2
  where
    at : (m : ℕ) → m < 2 → get_or (i ∷ j ∷ []) m k ≡ k → (k ≡ i) ⊎ (k ≡ j)
    at zero lt e = inl (sym e)
    at (suc zero) lt e = inr (sym e)
    at (suc (suc m)) lt e = absurd (omega (arith, lt))

pub none_named : (k : ℕ) → Contains [] k → ⊥
none_named k h = let lt = h.1 in absurd (omega (arith, lt))

-- an action that may be done names levels of the book alone
names_levels : (steps : ℕ) (slots : List Slots) (c : Configuration) (a : Action) (d : Configuration) → Goes steps slots c a d → (k : ℕ) → Contains (levels_named a) k → k < length slots
names_levels steps slots c (Forward from to Nothing) d g k h = absurd (none_named k h)
names_levels steps slots c (Forward from to (Store j)) d g k h = let e = one_named j k h in omega (arith, e, g.2.level)
names_levels steps slots c (Forward from to Tape) d g k h = absurd (none_named k h)
names_levels steps slots c (Reverse from to) d g k h = absurd (none_named k h)
names_levels steps slots c (Copy n i Work) d g k h = let e = one_named i k h in omega (arith, e, g.1.level)
names_levels steps slots c (Copy n i (Level j)) d g k h = elim (two_named i j k h) [ inl e ↦ omega (arith, e, g.1.level) | inr e ↦ omega (arith, e, g.3.level) ]
names_levels steps slots c (Move n i Work) d g k h = let e = one_named i k h in omega (arith, e, g.1.level)
names_levels steps slots c (Move n i (Level j)) d g k h = elim (two_named i j k h) [ inl e ↦ omega (arith, e, g.1.level) | inr e ↦ omega (arith, e, g.3.level) ]
names_levels steps slots c EndForward d g k h = absurd (none_named k h)
names_levels steps slots c EndReverse d g k h = absurd (none_named k h)

-- a level past those of the book isn't named
pub past_is_unnamed : (steps : ℕ) (slots : List Slots) (c : Configuration) (a : Action) (d : Configuration) (k : ℕ) → Goes steps slots c a d → length slots ≤ k → Contains (levels_named a) k → ⊥
past_is_unnamed steps slots c a d k g past named = let within = names_levels steps slots c a d g k named in absurd (omega (arith, past, within))

-- an action leaves the pages of the state in work as they are
pub acts_keep_pages : (unit : ℕ) (journal : List (List ℕ)) (a : Action) (old new : Holdings) → Acts unit journal a old new → SamePages new.work old.work
acts_keep_pages unit journal (Forward from to Nothing) old new h = ap (λ (s : MachineState). page_numbers s.memory) h.does.0 ∙ state_number_keeps_pages old.work journal (unit * (to - from))
acts_keep_pages unit journal (Forward from to (Store k)) old new h = ap (λ (s : MachineState). page_numbers s.memory) h.does.0 ∙ state_number_keeps_pages old.work journal (unit * (to - from))
acts_keep_pages unit journal (Forward from to Tape) old new h = ap (λ (s : MachineState). page_numbers s.memory) h.does.0 ∙ state_number_keeps_pages old.work journal (unit * (to - from))
acts_keep_pages unit journal (Reverse from to) old new h = ap (λ (s : MachineState). page_numbers s.memory) h.does.0
acts_keep_pages unit journal (Copy n k Work) old new h = h.does.0.1.1.2
acts_keep_pages unit journal (Copy n k (Level j)) old new h = ap (λ (s : MachineState). page_numbers s.memory) h.does.0
acts_keep_pages unit journal (Move n k Work) old new h = h.does.0.1.1.2
acts_keep_pages unit journal (Move n k (Level j)) old new h = ap (λ (s : MachineState). page_numbers s.memory) h.does.0
acts_keep_pages unit journal EndForward old new h = ap (λ (s : MachineState). page_numbers s.memory) h.does.0
acts_keep_pages unit journal EndReverse old new h = ap (λ (s : MachineState). page_numbers s.memory) h.does.0
