-- What is written of a list for a book: its text and its certificate, which read as both. Also the tables for reading
-- some lists.
use Rattle.std.specs.Prelude.{ℕ, suc, zero, List, [], ◌∷◌, ◌++◌, length, map, take, drop, cond, nat_le, ◌+◌}
use Rattle.std.specs.List.{flat_map}
use Rattle.plan_types.specs.declared.action.Action.{Action}
use Rattle.level_book.specs.BookCosts.{BookCosts, names_of, total_room}
use Rattle.action_text.specs.Canonical.{canonical}
use Rattle.binomials.specs.Advances.{repeats, least_advances}
use Rattle.revolve_gen.specs.RevolveList.{revolve_list}
use Rattle.cert_text.specs.declared.certificate.Certificate.{Certificate}
use Rattle.cert_text.specs.declared.certificate.Certificate.TheVariants.{Revolve}
use Rattle.cert_text.specs.Canonical as certificate
use Rattle.cost_tables.specs.Shapes.{AreShaped}
use Rattle.cost_tables.specs.TableRows.{TableRows, AreFor}
use Rattle.disk_gen.specs.DiskRows.{DiskRows, AreDiskSized}
use Rattle.disk_gen.specs.DiskShapes.{AreDiskShaped}

-- The certificate of Revolve's list: its number of repeats, and its forward steps. No steps and one step need no number
-- of repeats.
abbrev pub certificate_of : ℕ → BookCosts → Certificate
certificate_of steps book =
    cond (nat_le steps 1) (Revolve 0 steps) (Revolve (repeats steps (total_room book steps)) (steps + least_advances steps (total_room book steps)))

-- the spelling of an action and a line end
abbrev pub line_of_action : List (List ℕ) → Action → List ℕ
line_of_action names action = canonical names action ++ 10 ∷ []

-- The lines of a list in pieces of sixty-four, each one write. The last may have fewer. The number is at least that of
-- the lines, and only bounds the recursion.
abbrev pub in_pieces : ℕ → List (List ℕ) → List (List ℕ)
in_pieces zero lines = []
in_pieces (suc more) [] = []
in_pieces (suc more) (line ∷ lines) = flat_map (λ l. l) (take 64 (line ∷ lines)) ∷ in_pieces more (drop 64 (line ∷ lines))

abbrev pub list_pieces : List (List ℕ) → List Action → List (List ℕ)
list_pieces names list = in_pieces (length list) (map (line_of_action names) list)

-- the writes of a plan: the text of the list, and that of its certificate
abbrev pub plan_pieces : ℕ → BookCosts → List (List ℕ)
plan_pieces steps book = list_pieces (names_of book) (revolve_list steps book) ++ certificate.pieces (certificate_of steps book)

-- tables for so many steps and a book, in whole rows, with nothing else in them
abbrev pub AreTablesFor : ℕ → BookCosts → TableRows → Type 0
AreTablesFor steps book t = AreFor steps book t × AreShaped t

-- disk tables for so many steps and a book, in whole rows, with nothing else in them
abbrev pub AreDiskTablesFor : ℕ → BookCosts → DiskRows → Type 0
AreDiskTablesFor steps book t = AreDiskSized steps book t × AreDiskShaped t
