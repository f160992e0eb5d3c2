-- No public clause cites this file. The page that instructions are fetched from.
use Rattle.std.specs.Prelude.{ℕ, ◌^◌, ◌<◌, List, Some}
use Rattle.rv_pages.specs.Memory.{IsPlaceOf}
use Rattle.rv_machine.specs.declared.code_page.CodePage.{CodePage}

-- it is at its index among the mapped pages, or is no page
abbrev pub IsFound : List ℕ → CodePage → Type 0
IsFound numbers c = c.number < 2 ^ 20 → IsPlaceOf numbers c.number (Some c.index)
