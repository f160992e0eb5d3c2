-- A request is refused by its numbers in one way or not at all, and words that say it are refused as it is.
use Rattle.std.proofs.Common.{◌≡◌, inl, inr, ℕ, List, [], ◌∷◌, sym, ◌∙◌, ap, subst, arith}
use Rattle.std.specs.List.{AllByRecursion}
use Rattle.endings.specs.declared.outcome.Outcome.{Outcome}
use Rattle.endings.specs.Endings.{status_of}
use Rattle.requests.specs.declared.bounds.Bounded.{Bounded}
use Rattle.requests.specs.Request.{Request, Says}
use Rattle.requests.specs.Bounds.{numbers, IsWithin, RefusesFirst, RefusesWords, Asks}
use Rattle.requests.proofs.Requests.{one_request}

one_within : (ns : List Bounded) (e : Outcome) → AllByRecursion IsWithin ns → RefusesFirst ns e → ⊥
one_within [] e within refuses = refuses
one_within (n ∷ ns) e within refuses = elim refuses [ inl x ↦ x.0 within.0 | inr y ↦ one_within ns e within.1 y.1 ]

one_refusal : (ns : List Bounded) (e f : Outcome) → RefusesFirst ns e → RefusesFirst ns f → e ≡ f
one_refusal [] e f h g = absurd h
one_refusal (n ∷ ns) e f h g = elim h [
  | inl x ↦ elim g [ inl y ↦ x.1 ∙ sym y.1 | inr y ↦ absurd (x.0 y.0) ]
  | inr x ↦ elim g [ inl y ↦ absurd (y.0 x.0) | inr y ↦ one_refusal ns e f x.1 y.1 ]
]

-- a number outside its bounds has a status of its own
pub refuses_number : (ns : List Bounded) (e : Outcome) → RefusesFirst ns e → status_of e ≡ 10
refuses_number [] e h = absurd h
refuses_number (n ∷ ns) e h = elim h [ inl x ↦ ap status_of x.1 | inr y ↦ refuses_number ns e y.1 ]

-- a request that is refused by a number isn't asked for
pub not_asked : (words : List (List ℕ)) (q r : Request) (e : Outcome) → Says words q → RefusesFirst (numbers q) e → Asks words r → ⊥
not_asked words q r e says refuses asks =
    let P : Request → Type 0 = λ x. RefusesFirst (numbers x) e in
    one_within (numbers r) e asks.within (subst P (one_request words q r says asks.says) refuses)

-- words that say a request whose numbers are within their bounds aren't refused
pub not_refused : (words : List (List ℕ)) (q : Request) (e : Outcome) → Says words q → AllByRecursion IsWithin (numbers q) → RefusesWords words e → ⊥
not_refused words q e says within refuses = elim refuses [
  | inl none ↦ none.0 q says
  | inr some ↦ not_asked words some.0 q e some.1 some.2 (record { says = says; within = within })
]

-- and those that are refused are refused in one way
pub refused_so : (words : List (List ℕ)) (q : Request) (e f : Outcome) → Says words q → RefusesFirst (numbers q) e → RefusesWords words f → e ≡ f
refused_so words q e f says refuses other = elim other [
  | inl none ↦ absurd (none.0 q says)
  | inr some ↦ let P : Request → Type 0 = λ x. RefusesFirst (numbers x) f in one_refusal (numbers q) e f refuses (subst P (one_request words some.0 q some.1 says) some.2)
]

pub refused_not_two : (q : Request) (e : Outcome) → RefusesFirst (numbers q) e → status_of e ≡ 2 → ⊥
refused_not_two q e h two = let is = refuses_number (numbers q) e h in absurd (omega (arith, is, two))
