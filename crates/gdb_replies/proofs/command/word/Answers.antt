use Rattle.std.proofs.Common.{rules, ◌≡◌, ◌∙◌, ℕ, ◌≤◌, ◌<◌, suc, length, drop, List, [], ◌∷◌, codes, slice_index_or, arith}
use Rattle.std.proofs.Math.Seq.{drop-cons}
use Rattle.std.proofs.lemmas.List.{drop_all}
use Rattle.gdb_replies.proofs.command.word.Goals as goal

-- one byte, and then the rest of a text
byte : (l rest : List ℕ) (n b : ℕ) → n < length l → slice_index_or l n 0 ≡ b → drop (suc n) l ≡ rest → drop n l ≡ b ∷ rest
byte l rest n b within is behind = drop-cons l n 0 within ∙ (λ i. is i ∷ behind i)

pub returns-in-113-2 : goal.returns-in-113-2
returns-in-113-2 c =
    let l : List ℕ = c.args.text.now in
    let some : 9 ≤ length l = c.in-113-2.len_at_least in
    let end : drop 9 l ≡ [] = drop_all 9 l (search rules) in
    let off : drop 6 l ≡ codes "off" = search (rules, byte, end) in
    let word : drop 3 l ≡ codes "et off" = search (rules, byte, off) in
    byte l _ 0 _ (omega (arith, some)) (search rules) (search (rules, byte, word))
