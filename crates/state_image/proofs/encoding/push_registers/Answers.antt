use Rattle.std.proofs.Common.{◌≡◌, ◌++◌, List, ℕ, take, drop, ap, ◌∙◌, arith}
use Rattle.std.proofs.lemmas.List.{take_all, length-drop}
use Rattle.std.specs.List.{flat_map}
use Rattle.std.specs.Int.{to_le_bytes, w32}
use borrow.Rule.Slice.PartMut.{mid_of}
use Rattle.state_image.proofs.encoding.push_registers.Goals as goal

pub returns-clause-items : goal.returns-clause-items
returns-clause-items c =
    let all : take c.loop-word.word-index (mid_of 1 31 c.args.x.now) ≡ drop 1 c.args.x.now =
    take_all c.loop-word.word-index _ c.loop-word-test.false ∙ take_all 31 (drop 1 c.args.x.now) (omega (arith, length-drop 1 c.args.x.now)) in
    c.loop-word.invariant.items ∙ ap (λ (xs : List ℕ). c.args.into.now.items ++ flat_map (to_le_bytes w32) xs) all
