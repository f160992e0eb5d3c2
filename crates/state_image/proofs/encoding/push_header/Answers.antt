use Rattle.std.proofs.Common.{◌≡◌, ◌∙◌, ◌++◌, List, ℕ, ap, sym, append-nil, append_assoc, rules}
use Rattle.state_image.proofs.encoding.push_header.Goals as goal

-- one piece more stands behind what there was
behind : (a b p x y : List ℕ) → x ≡ a ++ b → y ≡ x ++ p → y ≡ a ++ (b ++ p)
behind a b p x y before added = added ∙ ap (λ xs. xs ++ p) before ∙ append_assoc a b p

pub returns-clause-items : goal.returns-clause-items
returns-clause-items c =
    let a = c.args.into.now.items in
    let mark = behind a _ _ _ _ (sym (append-nil a)) c.push.ensures.items in
    let version = behind a _ _ _ _ mark c.push_word.ensures.items in
    let pc = behind a _ _ _ _ version c.push_word-2.ensures.items in
    let registers = behind a _ _ _ _ pc c.push_registers.ensures.items in
    let kind = behind a _ _ _ _ registers c.push_word-3.ensures.items in
    let value = behind a _ _ _ _ kind c.push_word-4.ensures.items in
    let item = behind a _ _ _ _ value c.push_word-5.ensures.items in
    let offset = behind a _ _ _ _ item c.push_word-6.ensures.items in
    let written = behind a _ _ _ _ offset c.push-2.ensures.items in
    let all = behind a _ _ _ _ written c.push_word-7.ensures.items in
    all ∙ ap (λ xs. a ++ xs) (search rules)
