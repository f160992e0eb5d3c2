use Rattle.std.proofs.Common.{sym, ap, ◌∙◌, ◌∷◌, List, Option}
use Rattle.level_book.specs.NestedClass.{Image}
use Rattle.class_rules.specs.declared.stack.Held.{Held}
use Rattle.class_rules.specs.Stacks.{held_images, on_top}
use Rattle.class_rules.proofs.StackOperations.{pushed}
use Rattle.class_rules.proofs.stack.Stack.push.Goals as goal

pub returns-in-Some-clause-images : goal.returns-in-Some-clause-images
returns-in-Some-clause-images c =
    let top : Image = record { position = c.args.n; level = c.args.k } in
    ap (λ (xs : List Image). top ∷ xs) (ap held_images c.in_ok-push.ensures.items ∙ pushed c.args.self.now.older.items c.in-Some.newest)
    ∙ ap (λ (o : Option Held). top ∷ on_top (held_images c.args.self.now.older.items) o) (sym c.in-Some.is)
