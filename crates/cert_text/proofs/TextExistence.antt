-- Tables of the right sizes have a text.
use Rattle.std.proofs.Common.{ℕ, ◌<◌, length, ◌∙◌, arith}
use Rattle.cost_tables.specs.TableRows.{TableRows}
use Rattle.cost_tables.specs.Shapes.{AreShaped, AreShort}
use Rattle.disk_gen.specs.DiskRows.{DiskRows}
use Rattle.disk_gen.specs.DiskShapes.{AreDiskShaped, AreDiskShort}
use Rattle.cert_text.specs.Meaning.{HaveWords}
use Rattle.cert_text.specs.Laws.{SizedHasText, DiskSizedHasText}

-- each entry of a level has a word
words : (t : TableRows) → AreShort t → (k : ℕ) → k < length t.rooms → HaveWords t k
words t short k known = record {
  fresh = λ m l free one le. short.fresh k l m known one le free;
  held = λ m l free one le. short.held k l m known one le free;
}

pub sized_has_text : (t : TableRows) → AreShaped t → AreShort t → SizedHasText t
sized_has_text t shaped short steps book fits sized = record { fit = fits; tables = record { sized = sized; shaped = shaped; words = words t short } }

pub disk_sized_has_text : (t : DiskRows) → AreDiskShaped t → AreDiskShort t → DiskSizedHasText t
disk_sized_has_text t shaped short steps book fits sized = record {
  fit = fits;
  fast = record { sized = sized; shaped = shaped.fast; words = words t.fast short.fast };
  fresh_long = shaped.fresh_long ∙ sized.steps_are;
  held_long = shaped.held_long ∙ sized.steps_are;
  fresh = λ l one le. short.fresh l one (let same = sized.steps_are in omega arith);
  held = λ l one le. short.held l one (let same = sized.steps_are in omega arith);
}
