-- A line of the first pass.
use Rattle.std.proofs.Common.{◌≡◌, ℕ, ◌+◌, Bool, List, [], ◌∷◌, ◌++◌, Option, Some, None, refl, sym, ap, ◌∙◌, inl, inr}
use Rattle.std.specs.Str.{bytes_eq}
use Rattle.std.specs.Map.{lookup}
use Rattle.std.specs.Option.{option_or}
use Rattle.rv_asm.specs.declared.label.Label.{Label}
use Rattle.rv_asm.specs.Tokens.{tokens}
use Rattle.line_texts.specs.Lines.{lines}
use Rattle.rv_asm.specs.Source.{label_in, words_in, labels_of, names_in}
use Rattle.rv_asm.specs.Encoder.{code_table}
use Rattle.line_texts.proofs.Steps.{which}

or_none : (o : Option Label) → option_or o None ≡ o
or_none None = refl
or_none (Some l) = refl

or_or : (o p q : Option Label) → option_or (option_or o p) q ≡ option_or o (option_or p q)
or_or None p q = refl
or_or (Some l) p q = refl

lookup_append : (test : List ℕ → Bool) (xs ys : List (List ℕ × Label)) → lookup test (xs ++ ys) ≡ option_or (lookup test xs) (lookup test ys)
lookup_append test [] ys = refl
lookup_append test (x ∷ xs) ys = elim (which (test x.0)) [
  | inl hit ↦ rw hit refl
  | inr miss ↦ rw miss (lookup_append test xs ys)
]

pub start_labels : (text : List ℕ) (ls : List (List ℕ)) (o : Option Label) (name : List ℕ) → o ≡ None → ls ≡ lines text →
    option_or o (lookup (bytes_eq name) (labels_of code_table 1 0 ls)) ≡ names_in code_table text name
unfolding names_in
start_labels text ls o name none is =
    ap (λ (x : Option Label). option_or x (lookup (bytes_eq name) (labels_of code_table 1 0 ls))) none
    ∙ ap (λ (ys : List (List ℕ)). lookup (bytes_eq name) (labels_of code_table 1 0 ys)) is

no_labels : (n p : ℕ) → labels_of code_table n p [] ≡ []
unfolding labels_of
no_labels n p = refl

pub end_labels : (n p : ℕ) (ls : List (List ℕ)) (o : Option Label) (name : List ℕ) → ls ≡ [] → o ≡ option_or o (lookup (bytes_eq name) (labels_of code_table n p ls))
end_labels n p ls o name is =
    sym (or_none o)
    ∙ sym (ap (λ (xs : List (List ℕ × Label)). option_or o (lookup (bytes_eq name) xs)) (ap (labels_of code_table n p) is ∙ no_labels n p))

pub label_step : (n p k : ℕ) (bytes : List ℕ) (ls : List (List ℕ)) (old new : Option Label) (name : List ℕ) → k ≡ words_in code_table (tokens 1 bytes) → new ≡ option_or old (lookup (bytes_eq name) (label_in n p (tokens 1 bytes))) →
    option_or new (lookup (bytes_eq name) (labels_of code_table (n + 1) (p + k) ls)) ≡ option_or old (lookup (bytes_eq name) (labels_of code_table n p (bytes ∷ ls)))
unfolding labels_of
label_step n p k bytes ls old new name k_is new_is =
    let more : List (List ℕ × Label) = labels_of code_table (n + 1) (p + words_in code_table (tokens 1 bytes)) ls in
    let here : List (List ℕ × Label) = label_in n p (tokens 1 bytes) in
    ap (λ (x : Option Label). option_or x (lookup (bytes_eq name) (labels_of code_table (n + 1) (p + k) ls))) new_is
    ∙ ap (λ (j : ℕ). option_or (option_or old (lookup (bytes_eq name) here)) (lookup (bytes_eq name) (labels_of code_table (n + 1) (p + j) ls))) k_is
    ∙ or_or old (lookup (bytes_eq name) here) (lookup (bytes_eq name) more)
    ∙ ap (option_or old) (sym (lookup_append (bytes_eq name) here more))

pub line_labels : (n p : ℕ) (bytes : List ℕ) (ls all : List (List ℕ)) (old : Option Label) (name : List ℕ) → all ≡ bytes ∷ ls →
    option_or old (lookup (bytes_eq name) (labels_of code_table n p (bytes ∷ ls))) ≡ option_or old (lookup (bytes_eq name) (labels_of code_table n p all))
line_labels n p bytes ls all old name is = ap (λ (xs : List (List ℕ)). option_or old (lookup (bytes_eq name) (labels_of code_table n p xs))) (sym is)
