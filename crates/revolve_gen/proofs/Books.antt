-- The lists of books.
use Rattle.std.proofs.Common.{ℕ}
use Rattle.level_book.specs.BookCosts.{BookCosts, slots_of, total_room}
use Rattle.revolve_gen.specs.Places.{level_at}
use Rattle.revolve_gen.specs.Laws.{BookListIsRight}
use Rattle.revolve_gen.proofs.RevolveRules.{revolve_counted}
use Rattle.revolve_gen.proofs.RevolveValidity.{revolve_valid}
use Rattle.revolve_gen.proofs.SlotPlaces.{book_roomy}

pub book_right : (steps : ℕ) (book : BookCosts) → BookListIsRight steps book
book_right steps book plan =
    let slots = slots_of book in
    let c = total_room book steps in
    (revolve_valid steps slots (level_at slots) c (book_roomy steps book) plan, revolve_counted (level_at slots) steps c plan)
