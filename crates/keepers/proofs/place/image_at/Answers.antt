use Rattle.std.proofs.Common.{None, Some, cond, sym, ◌∙◌, ap}
use Rattle.std.specs.Option.{option_map}
use Rattle.keepers.proofs.Images.{image_there, image_past}
use Rattle.keepers.proofs.place.image_at.Goals as goal

pub returns-in_err-place : goal.returns-in_err-place
returns-in_err-place c = ap (option_map (λ image. image.now)) c.from_residual.ensures ∙ sym (image_past c.args.places.now c.args.slot c.in_err-place.ensures.lookup.3)

pub returns-then-place : goal.returns-then-place
returns-then-place c =
    let place = c.in_ok-place.place.now in
    let there = c.in_ok-place.ensures.lookup.3 in
    ap Some c.as_slice.ensures.value
    ∙ sym (image_there c.args.places.now c.args.slot place there.0 ∙ ap (λ p. cond p.filled (Some p.bytes.items) None) (sym (there.1 place)) ∙ ap (λ b. cond b (Some place.bytes.items) None) c.if-place.true)

pub returns-else-place : goal.returns-else-place
returns-else-place c =
    let place = c.in_ok-place.place.now in
    let there = c.in_ok-place.ensures.lookup.3 in
    sym (image_there c.args.places.now c.args.slot place there.0 ∙ ap (λ p. cond p.filled (Some p.bytes.items) None) (sym (there.1 place)) ∙ ap (λ b. cond b (Some place.bytes.items) None) c.if-place.false)
