use Rattle.level_book.specs.BookCosts.{names_of}
use Rattle.std.proofs.Common.{sym, subst, List, ℕ}
use Rattle.std.proofs.lemmas.Option.{IfSome_then}
use Rattle.action_text.specs.CanonicalPrefix.{IsActionAt}
use Rattle.action_text.proofs.canonical.action_at.Goals as goal

pub returns-in-Some : goal.returns-in-Some
returns-in-Some c = IfSome_then c.forward_at.result c.forward_at.ensures (λ x p. subst (λ (bs : List ℕ). IsActionAt (names_of c.args.book.now) bs x.0 x.1.now) (sym c.in-Some.ensures) p)

pub returns-in-Some-behind_eight : goal.returns-in-Some-behind_eight
returns-in-Some-behind_eight c = IfSome_then c.reverse_at.result c.reverse_at.ensures (λ x p. subst (λ (bs : List ℕ). IsActionAt (names_of c.args.book.now) bs x.0 x.1.now) (sym c.in-Some-behind_eight.ensures) (p (names_of c.args.book.now)))
