use Rattle.std.proofs.Common.{◌≡◌, ◌≢◌, ◌≤◌, ◌+◌, ◌++◌, ◌∷◌, [], ◌⊎◌, length, drop, get_or, arith, sym, ap, ◌∙◌, append_assoc, inl, inr}
use Rattle.std.proofs.lemmas.Grind.{common_steps}
use Rattle.gdb_wire.specs.Escapes.{unescaped}
use Rattle.gdb_wire.proofs.UnescapedBodies.{plain}
use Rattle.gdb_wire.proofs.escapes.push_unescaped.Goals as goal
use Rattle.gdb_wire.proofs.escapes.push_unescaped.Goals.{else-at-body-via-then-at-body+else-body-at-eq125, else-at-body-via-else-at-body}

pub loop-at-preserved : goal.loop-at-preserved
loop-at-preserved c =
    let body = c.args.body.now in
    let at = c.loop-at.at in
    let byte = get_or body at 0 in
    let pushed : c.push-else-at-body.new.self.items ≡ c.loop-at.out.items ++ byte ∷ [] = grind (arith, common_steps) in
    let why : (length body ≤ at + 1) ⊎ (byte ≢ 125) = elim c.else-at-body.branch [
      | else-at-body-via-then-at-body+else-body-at-eq125 w ↦ inr w.if-body-at-eq125.false
      | else-at-body-via-else-at-body w ↦ inl w.if-at-body.false
    ] in
    let step = ap (λ l. c.loop-at.out.items ++ l) (sym (plain body at c.loop-at-test.true why)) in
    rw pushed (append_assoc c.loop-at.out.items (byte ∷ []) (unescaped (drop (at + 1) body)) ∙ (step ∙ c.loop-at.invariant))
