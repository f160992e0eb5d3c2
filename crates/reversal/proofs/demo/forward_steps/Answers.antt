use Rattle.std.proofs.Common.{◌≡◌, ◌+◌, sym, ◌∙◌, inl, inr, arith, ap}
use Rattle.std.proofs.lemmas.Bool.{cases_lt}
use Rattle.std.proofs.lemmas.Option.{same_Some}
use Rattle.level_book.specs.BookCosts.{BookCosts, plain, total_room}
use Rattle.binomials.specs.Advances.{least_advances}
use Rattle.revolve_gen.proofs.Books.{book_right}
use Rattle.reversal.proofs.demo.forward_steps.Goals as goal

pub returns : goal.returns
returns c =
    let steps = c.args.steps in
    let counted = (book_right steps (plain c.args.slots) c.requires.plan).1 in
    let room : c.total_room-room.result ≡ total_room (plain c.args.slots) steps =
    c.total_room-room.ensures ∙ ap (λ (b : BookCosts). total_room b steps) c.plain.ensures in
    elim (cases_lt 1 steps) [
      | inl more ↦
          same_Some _ _ (sym c.unwrap.ensures ∙ c.least_forward.ensures.value (omega (arith, more)) (omega (arith, room, c.requires.plan (omega (arith, more)))))
          ∙ ap (λ n. steps + least_advances steps n) room ∙ sym (counted.forward_steps (omega (arith, more)))
      | inr one ↦ same_Some _ _ (sym c.unwrap.ensures ∙ c.least_forward.ensures.at_most_one one) ∙ sym (counted.at_most_one one)
    ]
