use Rattle.std.proofs.Common.{◌≡◌, ◌++◌, take, drop, ap, ◌∙◌, arith}
use Rattle.std.specs.Prelude.{codes}
use Rattle.std.proofs.lemmas.List.{take_all, length-drop}
use Rattle.std.specs.List.{flat_map}
use borrow.Rule.Slice.PartMut.{mid_of}
use Rattle.state_image.specs.Line.{hex_word}
use Rattle.state_image.proofs.text.push_registers.Goals as goal

pub returns-clause-text : goal.returns-clause-text
returns-clause-text c =
    let all : take c.loop-word.word-index (mid_of 1 31 c.args.x.now) ≡ drop 1 c.args.x.now =
    take_all c.loop-word.word-index _ c.loop-word-test.false ∙ take_all 31 (drop 1 c.args.x.now) (omega (arith, length-drop 1 c.args.x.now)) in
    c.loop-word.invariant.text ∙ ap (λ xs. c.args.text.now ++ flat_map (λ word. codes " " ++ hex_word word) xs) all
