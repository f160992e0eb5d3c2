-- What a part costs.
use Rattle.std.proofs.Common.{◌≡◌, ◌==◌, ℕ, zero, suc, ◌+◌, ◌-◌, ◌*◌, cond, Bool, true, false, List, [], ◌∷◌, ◌++◌, refl, sym, ap, ◌∙◌, arith, inl, inr, append_assoc}
use Rattle.std.proofs.lemmas.Bool.{cases_Bool}
use Rattle.plan_types.specs.declared.action.Keep.TheVariants.{Nothing, Tape}
use Rattle.plan_types.specs.declared.action.Action.{Action}
use Rattle.plan_types.specs.declared.action.Action.TheVariants.{Forward, Reverse, EndForward}
use Rattle.level_book.specs.BookCosts.{BookCosts, room}
use Rattle.level_book.specs.CostFold.{cost}
use Rattle.level_book.specs.UnderTable.{Tables, sum_of, write_cost, read_cost, Entry, number, never}
use Rattle.hrevolve_gen.specs.HRevolveList.{Part, one, faster, split, actions, Reads}
use Rattle.hrevolve_gen.proofs.Costs.{cost_forward, cost_tape, cost_store, cost_reverse, cost_copy, cost_move, cost_end_forward}

-- a sum that is a is_number is one of numbers
pub record IsSum (a b : Entry) (n v : ℕ) : Type 0 where
  pub x : ℕ
  pub y : ℕ
  pub first : a ≡ number x
  pub second : b ≡ number y
  pub value : v ≡ n + x + y

pub sum_some : (a b : Entry) (n v : ℕ) → sum_of n a b ≡ number v → IsSum a b n v
sum_some (number x) (number y) n v e = record { x = x; y = y; first = refl; second = refl; value = let same : n + x + y ≡ v = cc in sym same }
sum_some (number x) never n v e = cc
sum_some never b n v e = cc

one_step : (b u r v c : ℕ) → v ≡ u + r → (b + 1 - b) * u + (r + c) ≡ v + c
one_step b u r v c e = let one : b + 1 - b ≡ 1 = omega arith in ap (λ n. n * u + (r + c)) one ∙ omega arith

steps_on : (b j u n x y v c : ℕ) → v ≡ n + j * u + x + y → n + (b + j - b) * u + (x + (y + c)) ≡ v + c
steps_on b j u n x y v c e = let on : b + j - b ≡ j = omega arith in ap (λ i. n + i * u + (x + (y + c))) on ∙ omega arith

module _ (steps : ℕ) (book : BookCosts) (t : Tables) where
  -- the two parts of a split
  both : (k b j l m x y : ℕ) (p q : Part) (rest : List Action) →
      ((rest : List Action) → cost (actions steps false k (b + j) p ++ rest) book ≡ x + cost rest book) →
      ((rest : List Action) → cost (actions steps true k b q ++ rest) book ≡ y + cost rest book) →
      cost ((actions steps false k (b + j) p ++ actions steps true k b q) ++ rest) book ≡ x + (y + cost rest book)
  both k b j l m x y p q rest first second =
      ap (λ (list : List Action). cost list book) (append_assoc (actions steps false k (b + j) p) (actions steps true k b q) rest)
      ∙ first (actions steps true k b q ++ rest) ∙ ap (λ n. x + n) (second rest)

  pub part_cost : (p : Part) (held : Bool) (k b l m v : ℕ) (rest : List Action) → Reads steps book t held k l m p → (cond held (t.held k l m) (t.fresh k l m)) ≡ number v →
      cost (actions steps held k b p ++ rest) book ≡ v + cost rest book
  part_cost one false k b l m v rest reads is =
      let value : v ≡ book.forward + book.reverse = let e = sym is ∙ reads.1 in cc in
      let reversed = cost_reverse (b + 1) b rest book in
      elim (cases_Bool (b + 1 == steps)) [
        | inl e ↦ ap (λ c. cost (cond c (Forward b (b + 1) Tape ∷ EndForward ∷ Reverse (b + 1) b ∷ []) (Forward b (b + 1) Tape ∷ Reverse (b + 1) b ∷ []) ++ rest) book) e
            ∙ cost_tape b (b + 1) (EndForward ∷ Reverse (b + 1) b ∷ rest) book ∙ ap (λ n. (b + 1 - b) * book.forward + n) (cost_end_forward (Reverse (b + 1) b ∷ rest) book ∙ reversed)
            ∙ one_step b book.forward book.reverse v (cost rest book) value
        | inr e ↦ ap (λ c. cost (cond c (Forward b (b + 1) Tape ∷ EndForward ∷ Reverse (b + 1) b ∷ []) (Forward b (b + 1) Tape ∷ Reverse (b + 1) b ∷ []) ++ rest) book) e
            ∙ cost_tape b (b + 1) (Reverse (b + 1) b ∷ rest) book ∙ ap (λ n. (b + 1 - b) * book.forward + n) reversed
            ∙ one_step b book.forward book.reverse v (cost rest book) value
      ]
  part_cost one true k b l m v rest reads is =
      let value : v ≡ read_cost book k + book.forward + book.reverse = let e = sym is ∙ reads.1 in cc in
      cost_move b k (Forward b (b + 1) Tape ∷ Reverse (b + 1) b ∷ rest) book
      ∙ ap (λ n. read_cost book k + n) (cost_tape b (b + 1) (Reverse (b + 1) b ∷ rest) book ∙ ap (λ n. (b + 1 - b) * book.forward + n) (cost_reverse (b + 1) b rest book)
      ∙ one_step b book.forward book.reverse (book.forward + book.reverse) (cost rest book) refl)
      ∙ regroup (read_cost book k) book.forward book.reverse v (cost rest book) value
    where
      regroup : (r u x v c : ℕ) → v ≡ r + u + x → r + (u + x + c) ≡ v + c
      regroup r u x v c e = omega arith
  part_cost (faster p) held zero b l m v rest reads is = absurd reads
  part_cost (faster p) false (suc k) b l m v rest reads is = part_cost p false k b l (room book k steps) v rest reads.2 (sym reads.1 ∙ is)
  part_cost (faster p) true (suc k) b l m v rest reads is =
      let s = sum_some (number 0) (t.fresh k l (room book k steps)) (read_cost book (suc k)) v (sym reads.1 ∙ is) in
      let zero_first : s.x ≡ 0 = let e = s.first in cc in
      cost_move b (suc k) (actions steps false k b p ++ rest) book ∙ ap (λ n. read_cost book (suc k) + n) (part_cost p false k b l (room book k steps) s.y rest reads.2 s.second)
      ∙ regroup (read_cost book (suc k)) s.x s.y v (cost rest book) s.value zero_first
    where
      regroup : (r x y v c : ℕ) → v ≡ r + x + y → x ≡ 0 → r + (y + c) ≡ v + c
      regroup r x y v c e f = omega arith
  part_cost (split j p q) false k b l zero v rest reads is = absurd reads
  part_cost (split j p q) false k b l (suc m) v rest reads is =
      let s = sum_some (t.fresh k (l - j) m) (t.held k j m) (write_cost book k + j * book.forward) v (sym reads.2 ∙ is) in
      cost_store b (b + j) k ((actions steps false k (b + j) p ++ actions steps true k b q) ++ rest) book
      ∙ ap (λ n. write_cost book k + (b + j - b) * book.forward + n) (both k b j l m s.x s.y p q rest
      (λ rest. part_cost p false k (b + j) (l - j) m s.x rest reads.3 s.first) (λ rest. part_cost q true k b j m s.y rest reads.4 s.second))
      ∙ steps_on b j book.forward (write_cost book k) s.x s.y v (cost rest book) s.value
  part_cost (split j p q) true k b l m v rest reads is =
      let s = sum_some (t.fresh k (l - j) m) (t.held k j m) (read_cost book k + j * book.forward) v (sym reads.2 ∙ is) in
      cost_copy b k (Forward b (b + j) Nothing ∷ ((actions steps false k (b + j) p ++ actions steps true k b q) ++ rest)) book
      ∙ ap (λ n. read_cost book k + n) (cost_forward b (b + j) ((actions steps false k (b + j) p ++ actions steps true k b q) ++ rest) book
      ∙ ap (λ n. (b + j - b) * book.forward + n) (both k b j l m s.x s.y p q rest
      (λ rest. part_cost p false k (b + j) (l - j) m s.x rest reads.3 s.first) (λ rest. part_cost q true k b j m s.y rest reads.4 s.second)))
      ∙ (let e = steps_on b j book.forward (read_cost book k) s.x s.y v (cost rest book) s.value in omega arith)
