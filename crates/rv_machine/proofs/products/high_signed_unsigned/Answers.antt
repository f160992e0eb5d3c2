use Rattle.std.proofs.Common.{◌∙◌, ◌*ℤ◌, pos}
use Rattle.rv_machine.specs.Products.{as_word, upper_part}
use Rattle.rv_machine.proofs.UpperWords.{mixed_product_cast}
use Rattle.rv_machine.proofs.products.high_signed_unsigned.Goals as goal

pub returns : goal.returns
returns c =
    c.upper_word.ensures
    ∙ (λ i. as_word (upper_part (mixed_product_cast c.cast_signed.result c.args.b (record { sfits = c.cast_signed.type_inv }) c.ranges.b.fits i)))
    ∙ (λ i. as_word (upper_part (c.cast_signed.ensures i *ℤ pos c.args.b)))
