use Rattle.std.proofs.Common.{◌≡◌, ◌++◌, [], ◌∷◌, List, ℕ, ap, subst, ◌∙◌, arith, rules}
use Rattle.reversal.proofs.WordLists.{is_word_line}
use Rattle.reversal.proofs.listing.push_line.Goals as goal

pub returns-clause-text : goal.returns-clause-text
returns-clause-text c =
    let line = is_word_line c.args.word c.disassemble.new.line (omega arith) c.disassemble.ensures.canonical in
    let P : List ℕ → Type 0 = λ l. c.extend_from_slice.new.self.items ≡ c.args.piece.now.items ++ l in
    subst P (c.bytes.ensures.value ∙ c.push.ensures ∙ ap (λ (l : List ℕ). l ++ 10 ∷ []) line) (search rules)
