-- The greatest tables have a text.
use Rattle.std.proofs.Common.{◌≡◌, ℕ, ◌<◌, ◌^◌, length, refl, ◌∙◌, subst, arith}
use Rattle.level_book.specs.BookCosts.{BookCosts, IsWithinLimits}
use Rattle.level_book.specs.UnderTable.{Entry, number, never, IsGreatest}
use Rattle.level_book.specs.DiskUnderTable.{IsGreatestDisk}
use Rattle.cost_tables.specs.TableRows.{TableRows, AreFor, TablesFit, FastestTablesFit, fastest, tables_in}
use Rattle.cost_tables.specs.Shapes.{AreShaped}
use Rattle.cost_tables.proofs.Recurrences.{greatest_low}
use Rattle.cost_tables.proofs.FastestLevel.{first_only}
use Rattle.hrevolve_gen.proofs.PartReads.{few_steps}
use Rattle.disk_gen.specs.DiskRows.{DiskRows, AreDiskFor, disk_tables_in}
use Rattle.disk_gen.specs.DiskShapes.{AreDiskShaped}
use Rattle.disk_gen.proofs.DiskEntryBounds.{fast_low, disk_low}
use Rattle.cert_text.specs.declared.certificate.Certificate.TheVariants.{Nested, Disk}
use Rattle.cert_text.specs.Meaning.{HasWord, HaveWords, HasText}

-- an entry that is Never or a low number has a word
low_word : (e : Entry) → ((v : ℕ) → e ≡ number v → v < 2 ^ 61) → HasWord e
low_word (number v) low = omega (arith, low v refl)
low_word never low = tt

pub nested_has_text : (steps : ℕ) (book : BookCosts) (t : TableRows) → IsWithinLimits book → TablesFit steps book → AreFor steps book t → AreShaped t → IsGreatest steps book (tables_in t) → HasText steps book (Nested t)
nested_has_text steps book t limits fits sized shaped greatest =
    let low = greatest_low steps book (tables_in t) (few_steps steps fits.few) limits greatest in
    record {
      fit = fits;
      tables = record {
        sized = sized;
        shaped = shaped;
        words = λ k known.
            let here : k < length book.levels = omega (arith, known, sized.level_count) in
            record {
              fresh = λ m l free one le. low_word _ (λ v is. low.fresh k l m v here one (omega (arith, le, sized.steps_are)) (omega (arith, free, sized.rooms_are k here)) is);
              held = λ m l free one le. low_word _ (λ v is. low.held k l m v here one (omega (arith, le, sized.steps_are)) (omega (arith, free, sized.rooms_are k here)) is);
            };
      };
    }

pub disk_has_text : (steps : ℕ) (book : BookCosts) (t : DiskRows) → IsWithinLimits book → FastestTablesFit steps book → AreDiskFor steps book t → AreDiskShaped t → IsGreatestDisk steps book (disk_tables_in t) → HasText steps book (Disk t)
disk_has_text steps book t limits fits are shaped greatest =
    let low = fast_low steps book (disk_tables_in t) are.plan greatest fits.few limits in
    let over = disk_low steps book (disk_tables_in t) greatest.under fits.few limits in
    let sized = are.sized in
    let at : (k : ℕ) → k < length t.fast.rooms → HaveWords t.fast k = λ k known.
    let here : k < length (fastest book).levels = omega (arith, known, sized.level_count) in
    let first : 0 ≡ k = first_only book k here in
    let zero_here : 0 < length (fastest book).levels = omega (arith, here) in
    subst (HaveWords t.fast) first (record {
      fresh = λ m l free one le. low_word _ (λ v is. low.fresh 0 l m v zero_here one (omega (arith, le, sized.steps_are)) (omega (arith, free, sized.rooms_are 0 zero_here)) is);
      held = λ m l free one le. low_word _ (λ v is. low.held 0 l m v zero_here one (omega (arith, le, sized.steps_are)) (omega (arith, free, sized.rooms_are 0 zero_here)) is);
    }) in
    record {
      fit = fits;
      fast = record { sized = sized; shaped = shaped.fast; words = at };
      fresh_long = shaped.fresh_long ∙ sized.steps_are;
      held_long = shaped.held_long ∙ sized.steps_are;
      fresh = λ l one le. low_word _ (λ v is. over.fresh l v one le is);
      held = λ l one le. low_word _ (λ v is. over.held l v one le is);
    }
