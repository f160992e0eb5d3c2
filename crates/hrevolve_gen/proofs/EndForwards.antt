-- EndForward stands behind the first taped step of a list, and nowhere else.
use Rattle.std.proofs.Common.{◌≡◌, ℕ, zero, suc, ◌+◌, ◌-◌, ◌<◌, ◌≤◌, cond, Bool, true, false, List, [], ◌∷◌, ◌++◌, length, sym, subst, arith, append_assoc, eq-eqb}
use Rattle.std.proofs.lemmas.Bool.{ne_eqb}
use Rattle.plan_types.specs.declared.action.Keep.TheVariants.{Tape}
use Rattle.plan_types.specs.declared.action.Action.{Action}
use Rattle.plan_types.specs.declared.action.Action.TheVariants.{Forward, Reverse, EndForward, EndReverse}
use Rattle.level_book.specs.BookCosts.{BookCosts, room}
use Rattle.level_book.specs.UnderTable.{Tables}
use Rattle.hrevolve_gen.specs.HRevolveList.{Part, one, faster, split, actions, Reads, IsWritten}
use Rattle.hrevolve_gen.specs.Laws.{HasNoEndForward, EndsForwardAtTape}

module _ (steps : ℕ) (book : BookCosts) (t : Tables) where
  -- a stretch before the last step has none
  pub none_before : (p : Part) (held : Bool) (k b l m : ℕ) (rest : List Action) → Reads steps book t held k l m p → b + l < steps → HasNoEndForward rest → HasNoEndForward (actions steps held k b p ++ rest)
  none_before one false k b l m rest is lt none =
      let P : Bool → Type 0 = λ x. HasNoEndForward (cond x (Forward b (b + 1) Tape ∷ EndForward ∷ Reverse (b + 1) b ∷ []) (Forward b (b + 1) Tape ∷ Reverse (b + 1) b ∷ []) ++ rest) in
      subst P (sym (ne_eqb (b + 1) steps (λ e. absurd (omega (arith, is.0))))) none
  none_before one true k b l m rest is lt none = none
  none_before (faster p) held zero b l m rest is lt none = absurd is
  none_before (faster p) false (suc k) b l m rest is lt none = none_before p false k b l (room book k steps) rest is.2 lt none
  none_before (faster p) true (suc k) b l m rest is lt none = none_before p false k b l (room book k steps) rest is.2 lt none
  none_before (split j p q) false k b l zero rest is lt none = absurd is
  none_before (split j p q) false k b l (suc m) rest is lt none =
      let behind = none_before q true k b j m rest is.4 (omega (arith, is.1)) none in
      subst HasNoEndForward (sym (append_assoc (actions steps false k (b + j) p) (actions steps true k b q) rest))
      (none_before p false k (b + j) (l - j) m (actions steps true k b q ++ rest) is.3 (omega (arith, is.1)) behind)
  none_before (split j p q) true k b l m rest is lt none =
      let behind = none_before q true k b j m rest is.4 (omega (arith, is.1)) none in
      subst HasNoEndForward (sym (append_assoc (actions steps false k (b + j) p) (actions steps true k b q) rest))
      (none_before p false k (b + j) (l - j) m (actions steps true k b q ++ rest) is.3 (omega (arith, is.1)) behind)

  -- a stretch up to the last step has it at its first taped step, which is the last
  pub at_tape : (p : Part) (k b l m : ℕ) (rest : List Action) → Reads steps book t false k l m p → b + l ≡ steps → HasNoEndForward rest → EndsForwardAtTape (actions steps false k b p ++ rest)
  at_tape one k b l m rest is e none =
      let P : Bool → Type 0 = λ x. EndsForwardAtTape (cond x (Forward b (b + 1) Tape ∷ EndForward ∷ Reverse (b + 1) b ∷ []) (Forward b (b + 1) Tape ∷ Reverse (b + 1) b ∷ []) ++ rest) in
      subst P (sym (eq-eqb (b + 1) steps (omega (arith, is.0)))) none
  at_tape (faster p) zero b l m rest is e none = absurd is
  at_tape (faster p) (suc k) b l m rest is e none = at_tape p k b l (room book k steps) rest is.2 e none
  at_tape (split j p q) k b l zero rest is e none = absurd is
  at_tape (split j p q) k b l (suc m) rest is e none =
      let behind = none_before q true k b j m rest is.4 (omega (arith, is.1)) none in
      subst EndsForwardAtTape (sym (append_assoc (actions steps false k (b + j) p) (actions steps true k b q) rest))
      (at_tape p k (b + j) (l - j) m (actions steps true k b q ++ rest) is.3 (omega (arith, is.1)) behind)

pub ends_forward : (steps : ℕ) (book : BookCosts) (t : Tables) (list : List Action) → 1 ≤ steps → IsWritten steps book t list → EndsForwardAtTape list
ends_forward zero book t list some is = absurd (omega arith)
ends_forward (suc n) book t list some is =
    subst EndsForwardAtTape (sym is.2) (at_tape (suc n) book t is.0 (length book.levels - 1) 0 (suc n) (room book (length book.levels - 1) (suc n)) (EndReverse ∷ []) is.1 (omega arith) tt)
