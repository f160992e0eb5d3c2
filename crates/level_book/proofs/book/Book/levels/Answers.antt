use Rattle.std.proofs.Common.{sym, ◌∙◌, ap, length}
use Rattle.std.proofs.lemmas.List.{length-take-le}
use Rattle.level_book.specs.BookCosts.{BookCosts}
use Rattle.level_book.proofs.book.Book.levels.Goals as goal

-- the levels that are seen are the first ones of the array
pub returns-clause-value : goal.returns-clause-value
returns-clause-value c =
    sym (length-take-le c.self.inside.count c.self.inside.levels c.self.invariant.2)
    ∙ ap (λ (b : BookCosts). length b.levels) c.self.view_is
