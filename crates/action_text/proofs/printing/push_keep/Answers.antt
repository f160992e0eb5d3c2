use Rattle.std.proofs.Common.{◌≡◌, ℕ, List, [], ◌∷◌, ◌++◌, ap, ◌∙◌, append_assoc}
use Rattle.std.specs.Prelude.{codes}
use Rattle.level_book.specs.BookCosts.{names_of}
use Rattle.action_text.specs.Canonical.{name_of}
use Rattle.action_text.proofs.printing.push_keep.Goals as goal

regrouped : (line words name close : List ℕ) → ((line ++ words) ++ name) ++ close ≡ line ++ ((words ++ name) ++ close)
regrouped line words name close = simp append_assoc

pub returns-in-Store-clause-text : goal.returns-in-Store-clause-text
returns-in-Store-clause-text c =
    rw c.in-Store.is
    (c.push-in-Store.ensures
    ∙ ap (λ (text : List ℕ). text ++ 41 ∷ []) c.push_name.ensures.text
    ∙ regrouped c.args.line.now (codes ", True, False, ") (name_of (names_of c.args.book.now) c.in-Store.k) (41 ∷ []))

pub returns-in-Tape-clause-text : goal.returns-in-Tape-clause-text
returns-in-Tape-clause-text c = rw c.in-Tape.is c.push-in-Tape.ensures
