use Rattle.std.proofs.Common.{◌≡◌, ◌++◌, List, ℕ, take, drop, subst, ◌∙◌, arith}
use Rattle.std.proofs.lemmas.List.{take_all, length-drop}
use Rattle.std.specs.List.{flat_map}
use Rattle.std.specs.Int.{to_le_bytes, w32}
use Rattle.sha2.specs.Hashers.{Holds256}
use borrow.Rule.Slice.PartMut.{mid_of}
use Rattle.state_image.proofs.image.feed_registers.Goals as goal

pub returns : goal.returns
returns c =
    let all : take c.loop-word.word-index (mid_of 1 31 c.args.x.now) ≡ drop 1 c.args.x.now =
    take_all c.loop-word.word-index _ c.loop-word-test.false ∙ take_all 31 (drop 1 c.args.x.now) (omega (arith, length-drop 1 c.args.x.now)) in
    λ held h. subst (λ (xs : List ℕ). Holds256 c.loop-word.hasher (held ++ flat_map (to_le_bytes w32) xs)) all (c.loop-word.invariant held h)
