-- The text of a certificate can stand behind a schedule: it is lines that begin with `#!`.
use Rattle.std.proofs.Common.{◌≡◌, ℕ, List, [], ◌∷◌, ◌++◌, append_assoc, map, refl, sym, ap, ◌∙◌}
use Rattle.std.specs.List.{AllByRecursion, flat_map}
use Rattle.level_book.specs.BookCosts.{BookCosts}
use Rattle.action_text.specs.Laws.{certificate_line, HasOneEnd}
use Rattle.cert_text.specs.declared.certificate.Certificate.{Certificate}
use Rattle.cert_text.specs.WordLines.{word_lines}
use Rattle.cert_text.specs.Meaning.{HasText}
use Rattle.cert_text.specs.Canonical.{canonical}
use Rattle.cert_text.proofs.CanonicalRoundTrip.{ArePlain, spelled, all_spelled, spelled_no_end, canonical_bytes, plain_lines}

are_lines : (more : List (List (List ℕ))) → all_spelled more ≡ flat_map certificate_line (map spelled more)
are_lines [] = refl
are_lines (ws ∷ more) =
    ap (λ (l : List ℕ). (35 ∷ 33 ∷ spelled ws) ++ 10 ∷ l) (are_lines more)
    ∙ ap (λ (l : List ℕ). 35 ∷ 33 ∷ l) (sym (append_assoc (spelled ws) (10 ∷ []) (flat_map certificate_line (map spelled more))))

one_ends : (more : List (List (List ℕ))) → ArePlain more → AllByRecursion HasOneEnd (map spelled more)
one_ends [] all = tt
one_ends (ws ∷ more) all = (spelled_no_end ws all.0, one_ends more all.1)

pub stands_behind : (steps : ℕ) (book : BookCosts) (certificate : Certificate) → HasText steps book certificate →
    (texts : List (List ℕ)) × (canonical certificate ≡ flat_map certificate_line texts) × AllByRecursion HasOneEnd texts
stands_behind steps book certificate has =
    (map spelled (word_lines certificate), canonical_bytes (word_lines certificate) ∙ are_lines (word_lines certificate), one_ends (word_lines certificate) (plain_lines steps book certificate has))
