-- What the definitions imply.
use Rattle.std.specs.Prelude.{◌≡◌, ◌⊎◌, ◌≤◌, ◌<◌, ◌^◌, ℕ, List, [], ◌∷◌, ◌++◌, length}
use Rattle.std.specs.List.{flat_map}
use Rattle.line_texts.specs.declared.fault.Fault.{Fault}
use Rattle.rv_asm.specs.Source.{Means, HasFault}
use Rattle.rv_asm.specs.Canonical.{IsCanonical}

-- a text means one list of words at most
abbrev pub OneMeaning : Type 0
OneMeaning = (text a b : List ℕ) → Means text a → Means text b → a ≡ b

-- it has one fault at most, and none where it means some words
abbrev pub OneFault : Type 0
OneFault = (text : List ℕ) (a b : Fault) → HasFault text a → HasFault text b → a ≡ b

abbrev pub MeaningsHaveNoFault : Type 0
MeaningsHaveNoFault = (text words : List ℕ) (fault : Fault) → Means text words → HasFault text fault → ⊥

-- each text means some words or has a fault
abbrev pub MeaningOrFault : Type 0
MeaningOrFault = (text : List ℕ) → ((words : List ℕ) × Means text words) ⊎ ((fault : Fault) × HasFault text fault)

-- a word has one canonical line at most, and a word of 32 bits has one
abbrev pub OneLine : Type 0
OneLine = (word : ℕ) (a b : List ℕ) → IsCanonical word a → IsCanonical word b → a ≡ b

abbrev pub SomeLine : Type 0
SomeLine = (word : ℕ) → word < 2 ^ 32 → (line : List ℕ) × IsCanonical word line

-- lines that are the canonical ones of words, one by one
abbrev pub AreCanonical : List ℕ → List (List ℕ) → Type 0
AreCanonical [] [] = Unit {0}
AreCanonical [] (l ∷ ls) = ⊥
AreCanonical (w ∷ ws) [] = ⊥
AreCanonical (w ∷ ws) (l ∷ ls) = (w < 2 ^ 32) × IsCanonical w l × AreCanonical ws ls

-- the canonical lines of 1 to 1,048,576 words, byte 10 after each, mean these words
abbrev pub ended : List (List ℕ) → List ℕ
ended ls = flat_map (λ l. l ++ 10 ∷ []) ls

abbrev pub CanonicalIsAssembled : Type 0
CanonicalIsAssembled =
    (words : List ℕ) (ls : List (List ℕ)) → 1 ≤ length words → length words ≤ 1048576 → AreCanonical words ls → Means (ended ls) words
