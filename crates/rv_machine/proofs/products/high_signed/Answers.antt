use Rattle.std.proofs.Common.{◌∙◌, ◌*ℤ◌}
use Rattle.rv_machine.specs.Products.{as_word, upper_part}
use Rattle.rv_machine.proofs.UpperWords.{product_cast}
use Rattle.rv_machine.proofs.products.high_signed.Goals as goal

pub returns : goal.returns
returns c =
    c.upper_word.ensures
    ∙ (λ i. as_word (upper_part (product_cast c.cast_signed.result c.cast_signed-2.result (record { sfits = c.cast_signed.type_inv }) (record { sfits = c.cast_signed-2.type_inv }) i)))
    ∙ (λ i. as_word (upper_part (c.cast_signed.ensures i *ℤ c.cast_signed-2.ensures i)))
