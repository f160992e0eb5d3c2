use Rattle.std.proofs.Common.{ℕ, List, ◌≡◌, subst}
use Rattle.std.specs.List.{AllByRecursion}
use Rattle.library_tests.proofs.tape_tests.goes.Goals as goal

pub returns-in-Ok-clause-pages : goal.returns-in-Ok-clause-pages
returns-in-Ok-clause-pages g c digesters have =
    let P : List ℕ → Type 0 = λ ps. AllByRecursion (λ (qs : List ℕ). qs ≡ ps) digesters in
    subst P c.perform.ensures.session.pages have
