use Rattle.std.proofs.Common.{◌≡◌, ℕ, ◌==◌, ◌&&◌, inl, inr, get_or, ap, sym, ◌∙◌, arith, bit_or}
use Rattle.std.proofs.lemmas.Bool.{cases_eq, ne_eqb}
use Rattle.std.proofs.lemmas.List.Folds.{list_all_more}
use Rattle.std.proofs.lemmas.Nat.{le_or_l, le_or_r}
use Rattle.state_image.proofs.image.is_zero_piece.Goals as goal

-- two numbers share no bit with 0 exactly if both are 0
or_zero : (a b : ℕ) → (bit_or a b == 0) ≡ ((a == 0) && (b == 0))
or_zero a b =
    elim (cases_eq a 0) [
      | inl ea ↦ elim (cases_eq b 0) [
        | inl eb ↦ (λ i. bit_or (ea i) (eb i) == 0) ∙ sym (λ i. (ea i == 0) && (eb i == 0))
        | inr nb ↦ ne_eqb (bit_or a b) 0 (λ z. nb (omega (arith, z, le_or_r a b))) ∙ sym ((λ i. (ea i == 0) && (b == 0)) ∙ ne_eqb b 0 nb)
      ]
      | inr na ↦ ne_eqb (bit_or a b) 0 (λ z. na (omega (arith, z, le_or_l a b))) ∙ sym (ap (λ t. t && (b == 0)) (ne_eqb a 0 na))
    ]

pub loop-byte-preserved : goal.loop-byte-preserved
loop-byte-preserved c =
    or_zero c.loop-byte.seen (get_or c.args.bytes.now c.loop-byte.byte-index 0)
    ∙ ap (λ t. t && (get_or c.args.bytes.now c.loop-byte.byte-index 0 == 0)) c.loop-byte.invariant
    ∙ sym (list_all_more (λ b. b == 0) c.args.bytes.now c.loop-byte.byte-index 0 c.loop-byte-test.true)
