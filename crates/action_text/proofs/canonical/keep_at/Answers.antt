use Rattle.level_book.specs.BookCosts.{names_of}
use Rattle.std.proofs.lemmas.Option.{IfSome_then}
use Rattle.action_text.proofs.CanonicalSpelling.{tape_written, nothing_written}
use Rattle.action_text.proofs.canonical.keep_at.Goals as goal

pub returns-in_default : goal.returns-in_default
returns-in_default c = IfSome_then c.store_at.result c.store_at.ensures (λ x p. p c.args.from c.args.to)

pub returns-in-Some-behind_eight : goal.returns-in-Some-behind_eight
returns-in-Some-behind_eight c = tape_written (names_of c.args.book.now) c.args.bytes.now c.in-Some.second.now c.in-Some-behind_eight.third.now c.in_ok-rest.rest.now c.args.from c.args.to c.in-Some.ensures c.in-Some-behind_eight.ensures c.in_ok-rest.ensures c.if-to-from.false

pub returns : goal.returns
returns c = nothing_written (names_of c.args.book.now) c.args.bytes.now c.in-Some.second.now c.in_ok-third.third.now c.in_ok-last.last.now c.in_ok-rest-2.rest.now c.args.from c.args.to c.in-Some.ensures c.in_ok-third.ensures c.in_ok-last.ensures c.in_ok-rest-2.ensures
