use Rattle.std.proofs.Common.{◌≡◌, ◌∙◌, ℕ, ◌-◌, List, map, length, drop, Vec, Global, Some, sym, ap}
use Rattle.std.specs.Prelude.{min, slice_get}
use Rattle.std.specs.Option.{option_map}
use Rattle.std.proofs.lemmas.Option.{slice_get-get_or}
use Rattle.requests.specs.Request.{words_of}
use Rattle.requests.specs.Places.{folder_at}
use Rattle.requests.proofs.Lists.{get_map}
use Rattle.requests.proofs.FolderPlaces.{end_of}
use Rattle.requests.proofs.places.KeepAt.folder.Goals as goal

pub returns-in_ok-option-in-Folder : goal.returns-in_ok-option-in-Folder
returns-in_ok-option-in-Folder c =
    let found = c.in_ok-option-in-Folder.ensures.lookup in
    let option : Vec ℕ Global = c.in_ok-option-in-Folder.option.now in
    let text : List ℕ = c.deref-in-Folder.result.now in
    let there : slice_get c.deref.result.now c.saturating_sub.result ≡ Some option =
    slice_get-get_or c.deref.result.now c.saturating_sub.result option (found.3).0 ∙ ap (λ x. Some x) (sym found.1) in
    let words : slice_get (words_of c.args.words.now) (c.in-Folder.word - 1) ≡ Some option.items =
    ap (slice_get (words_of c.args.words.now)) (sym c.saturating_sub.ensures)
    ∙ ap (λ l. slice_get (map (λ (w : Vec ℕ Global). w.items) l) c.saturating_sub.result) (sym c.deref.ensures.value)
    ∙ get_map (λ (w : Vec ℕ Global). w.items) c.deref.result.now c.saturating_sub.result option there in
    let least : c.min.result ≡ min (length text) c.in-Folder.start =
    c.min.ensures ∙ ap (λ n. min n c.in-Folder.start) (c.len.ensures ∙ sym c.deref-in-Folder.ensures.len) in
    ap (λ l. Some l) (end_of text c.min.result c.in-Folder.start least)
    ∙ ap (λ l. Some (drop c.in-Folder.start l)) c.deref-in-Folder.ensures.value
    ∙ ap (option_map (drop c.in-Folder.start)) (sym words)
    ∙ ap (folder_at (words_of c.args.words.now)) (sym c.in-Folder.is)
