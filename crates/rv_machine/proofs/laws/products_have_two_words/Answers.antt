use Rattle.rv_machine.proofs.ProductWords.{products}
use Rattle.rv_machine.proofs.laws.products_have_two_words.Goals as goal

pub returns : goal.returns
returns c = products
