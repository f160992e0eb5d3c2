use Rattle.std.proofs.Common.{◌≡◌, ◌+◌, ◌*◌, ◌++◌, take, length}
use Rattle.std.specs.Prelude.{codes}
use Rattle.std.specs.List.{flat_map}
use Rattle.state_image.specs.Line.{hex_word}
use Rattle.state_image.proofs.text.push_registers.Given as goal

abbrev pub invariant-loop-word : goal.invariant-loop-word
invariant-loop-word l = record {
  text : l.text ≡ l.initial.text ++ flat_map (λ word. codes " " ++ hex_word word) (take l.word-index l.word-items);
  room : length l.text ≡ length l.initial.text + 9 * l.word-index;
}
