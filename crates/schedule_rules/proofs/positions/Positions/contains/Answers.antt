use Rattle.std.proofs.Common.{◌==◌, ◌/◌, ◌%◌, sym, ◌∙◌, ap, get_or, arith}
use Rattle.std.proofs.lemmas.Nat.Bits.{shr_and_one}
use Rattle.std.specs.Int.{bit_at}
use Rattle.schedule_rules.proofs.BitsLemmas.{contains-set_of, past_end}
use Rattle.schedule_rules.proofs.positions.Positions.contains.Goals as goal

pub returns-in-Some : goal.returns-in-Some
returns-in-Some c =
    let word = c.in-Some.ensures.lookup.3.1 0 ∙ ap (λ ws. get_or ws (c.args.n / 64) 0) c.deref.ensures.value in
    ap (λ b. b == 1) (shr_and_one c.in-Some.word.now (c.args.n % 64))
    ∙ ap (λ w. bit_at w (c.args.n % 64) == 1) word
    ∙ sym (contains-set_of c.args.self.now.words.items c.args.n)

pub returns-in-None : goal.returns-in-None
returns-in-None c =
    sym (contains-set_of c.args.self.now.words.items c.args.n
    ∙ past_end c.args.self.now.words.items c.args.n (omega (arith, c.in-None.ensures.lookup.3, c.deref.ensures.len)))
