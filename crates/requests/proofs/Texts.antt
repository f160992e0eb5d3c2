-- The bytes after a text.
use Rattle.std.proofs.Common.{◌≡◌, ◌≢◌, ℕ, eqb, List, [], ◌∷◌, ◌++◌, Option, Some, None, refl, ap, ◌∙◌, Bor}
use Rattle.std.specs.Prelude.{MatchOption}
use Rattle.std.proofs.lemmas.Bool.{eqb-true, eq-eqb}
use Rattle.std.proofs.lemmas.Option.{same_Some}
use Rattle.requests.specs.ParserSteps.{after_of}
use Rattle.line_texts.specs.Parsers.{GivesSome}
use Rattle.line_texts.proofs.Steps.{passed_then}

pub after_again : (text rest : List ℕ) → after_of text (text ++ rest) ≡ Some rest
unfolding after_of
after_again [] rest = refl
after_again (t ∷ ts) rest = rw (eq-eqb t t refl) (after_again ts rest)

pub after_taken : (text bytes rest : List ℕ) → after_of text bytes ≡ Some rest → bytes ≡ text ++ rest
unfolding after_of
after_taken [] bytes rest e = same_Some bytes rest e
after_taken (t ∷ ts) [] rest e = absurd cc
after_taken (t ∷ ts) (b ∷ bs) rest e =
    let p = passed_then (eqb t b) (after_of ts bs) rest e in
    let first : t ≡ b = eqb-true _ _ p.0 in
    rw (first, after_taken ts bs rest p.1) refl

after_none : (text bytes : List ℕ) (read : Option (List ℕ)) → after_of text bytes ≡ read → ((rest : List ℕ) → bytes ≢ text ++ rest) → read ≡ None
after_none text bytes None e h = refl
after_none text bytes (Some rest) e h = absurd (h rest (after_taken text bytes rest e))

pub after_gives : (text bytes : List ℕ) (r : Option (Bor (List ℕ))) → MatchOption r ((rest : List ℕ) → bytes ≢ text ++ rest) (λ x. bytes ≡ text ++ x.now) → GivesSome (λ (x : Bor (List ℕ)). x.now) r (after_of text bytes)
after_gives text bytes None h = after_none text bytes (after_of text bytes) refl h
after_gives text bytes (Some x) h = ap (after_of text) h ∙ after_again text x.now
