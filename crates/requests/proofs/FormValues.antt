-- What the places of a form take one after the other, the form takes.
use Rattle.std.proofs.Common.{◌≡◌, ℕ, ◌∙◌, refl, sym, ap, subst, List, [], ◌∷◌, Option, Some, None}
use Rattle.std.specs.Option.{option_or}
use Rattle.requests.specs.declared.request.Command as in_memory
use Rattle.requests.specs.ParserSteps.{◌>>=◌}
use Rattle.line_texts.specs.Parsers.{GivesSome}
use Rattle.requests.specs.Request.{Command}
use Rattle.requests.specs.Forms.{Place, Value, Values, all_taken, Takes, TakesAll, finished, Form, form_taken}
use Rattle.requests.specs.RequestModel.{as_command}

pub takes_none : (last : Option (List (List ℕ))) → TakesAll [] last tt last
takes_none None = refl
takes_none (Some []) = refl
takes_none (Some (word ∷ words)) = refl

-- one value more
abbrev pub with_value : (p : Place) (ps : List Place) → Value p → Values ps → Option (Values (p ∷ ps))
with_value p ps v ws = Some (v, ws)

-- where nothing was taken any more, nothing was taken
finished_more : (p : Place) (ps : List Place) (v : Value p) (vs : Values ps) (last : Option (List (List ℕ))) → (finished last vs >>= with_value p ps v) ≡ finished {A = Values (p ∷ ps)} last (v, vs)
finished_more p ps v vs None = refl
finished_more p ps v vs (Some []) = refl
finished_more p ps v vs (Some (word ∷ words)) = refl

pub takes_more : (p : Place) (ps : List Place) (old mid last : Option (List (List ℕ))) (v : Value p) (vs : Values ps) →
    Takes p old v mid → TakesAll ps mid vs last → TakesAll (p ∷ ps) old (v, vs) last
takes_more p ps None mid last v vs first rest =
    ap (λ o. o >>= with_value p ps v) (sym (ap (λ o. o >>= all_taken ps) first) ∙ rest) ∙ finished_more p ps v vs last
takes_more p ps (Some words) None last v vs first rest =
    let all : Value p × List (List ℕ) → Option (Values (p ∷ ps)) = λ x. all_taken ps x.1 >>= with_value p ps x.0 in
    ap (λ o. o >>= all) first ∙ ap (λ o. o >>= with_value p ps v) rest ∙ finished_more p ps v vs last
takes_more p ps (Some words) (Some behind) last v vs first rest =
    let all : Value p × List (List ℕ) → Option (Values (p ∷ ps)) = λ x. all_taken ps x.1 >>= with_value p ps x.0 in
    ap (λ o. o >>= all) first ∙ ap (λ o. o >>= with_value p ps v) rest ∙ finished_more p ps v vs last

-- a command that was made of the values is what the form takes
pub form_gives : (f : Form) (words : List (List ℕ)) (start last : Option (List (List ℕ))) (vs : Values f.places) (command : in_memory.Command) (result : Option in_memory.Command) →
    start ≡ Some words → TakesAll f.places start vs last → result ≡ finished last command → f.make vs ≡ as_command command → GivesSome as_command result (form_taken f words)
form_gives f words start last vs command result begins takes is same =
    by_last last (ap (λ o. o >>= all_taken f.places) (sym begins) ∙ takes) result is
  where
    by_last : (last : Option (List (List ℕ))) → all_taken f.places words ≡ finished last vs → (result : Option in_memory.Command) → result ≡ finished last command → GivesSome as_command result (form_taken f words)
    by_last None e None i = ap (λ x. x >>= λ ws. Some (f.make ws)) e
    by_last None e (Some x) i = absurd cc
    by_last (Some []) e None i = absurd cc
    by_last (Some []) e (Some x) i =
        let is : x ≡ command = cc in
        ap (λ x. x >>= λ ws. Some (f.make ws)) e ∙ ap (λ y. Some y) same ∙ ap (λ y. Some (as_command y)) (sym is)
    by_last (Some (word ∷ rest)) e None i = ap (λ x. x >>= λ ws. Some (f.make ws)) e
    by_last (Some (word ∷ rest)) e (Some x) i = absurd cc

-- two commands, of which the first is tried before the other
pub gives_or : (x y : Option in_memory.Command) (a b : Option Command) → GivesSome as_command x a → GivesSome as_command y b → GivesSome as_command (option_or x y) (option_or a b)
gives_or None y a b h g = subst (λ (o : Option Command). GivesSome as_command y (option_or o b)) (sym h) g
gives_or (Some x) y a b h g = ap (λ o. option_or o b) h

pub gives_then : (x y r : Option in_memory.Command) (a b : Option Command) → r ≡ option_or x y → GivesSome as_command x a → GivesSome as_command y b → GivesSome as_command r (option_or a b)
gives_then x y r a b e h g = subst (λ (o : Option in_memory.Command). GivesSome as_command o (option_or a b)) (sym e) (gives_or x y a b h g)
