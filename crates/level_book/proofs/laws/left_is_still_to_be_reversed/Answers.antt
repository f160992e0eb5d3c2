use Rattle.level_book.proofs.NestedPrefixes.{left_is}
use Rattle.level_book.proofs.laws.left_is_still_to_be_reversed.Goals as goal

pub returns : goal.returns
returns c = left_is
