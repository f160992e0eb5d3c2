use Rattle.std.proofs.Common.{ap, map, sym, ◌∙◌, Some, Option}
use Rattle.std.specs.Option.{option_map, option_and_then}
use Rattle.serde_json.specs.Data.{Data}
use Rattle.serde_json.specs.Find.{as_array}
use Rattle.serde_json.specs.View.{view}
use Rattle.level_book.specs.BookText.{list_of}
use Rattle.level_book.proofs.BookLists.{list_of-items_of}
use Rattle.level_book.proofs.fields.list.Goals as goal

pub returns-in-Some-as_array : goal.returns-in-Some-as_array
returns-in-Some-as_array c =
    ap Some (ap (map view) c.as_slice.ensures.value ∙ sym (list_of-items_of (map view c.in-Some-as_array.list.now.items)))
    ∙ ap (option_map list_of) c.in-Some-as_array.ensures
    ∙ ap (λ (o : Option Data). option_map list_of (option_and_then as_array o)) c.in-Some.ensures
