-- A value's fault refuses the bytes that it was read from.
use Rattle.std.proofs.Common.{◌≡◌, ◌≢◌, ℕ, ◌+◌, ◌*◌, Bool, true, false, List, [], ◌∷◌, map, Option, Some, None, Result, Ok, Err, refl, sym, ◌∙◌, ap}
use Rattle.std.specs.Prelude.{MatchResult, IfErr, codes, unwrap_or, is_some, nat_lt, nat_le, length, min, ◌&&◌}
use Rattle.std.specs.List.{enumerate_from, AllByRecursion}
use Rattle.std.specs.Option.{option_map}
use Rattle.serde_json.specs.Data.{Data}
use Rattle.serde_json.specs.Find.{as_object}
use Rattle.level_book.specs.declared.fault.BookFault.{BookFault}
use Rattle.level_book.specs.declared.fault.BookFault.TheVariants.{NotJson, Shape, Levels, Name, CostRange, SlotRange, CostOrder, Memory}
use Rattle.level_book.specs.BookCosts.{BookCosts}
use Rattle.level_book.specs.BookText.{IsTextOf, SaysBook, number_in, list_in}
use Rattle.level_book.specs.BookFaults.{unless, first_of, number_of, missing_in, shape_fault, name_fault, cost_fault, slot_fault, order_fault, faults_in, fault_in, IsRefused}

-- whether the fault is one of bytes, and not of a value
is_of_bytes : Option BookFault → Bool
is_of_bytes (Some NotJson) = true
is_of_bytes (Some Memory) = true
is_of_bytes _ = false

-- the first of some faults is one of them
first_is_other : (faults : List (Option BookFault)) → AllByRecursion (λ fault. is_of_bytes fault ≡ false) faults → is_of_bytes (first_of faults) ≡ false
unfolding is_of_bytes
first_is_other [] all = refl
first_is_other (None ∷ rest) all = first_is_other rest all.1
first_is_other (Some fault ∷ rest) all = all.0

unless_other : (holds : Bool) (fault : BookFault) → is_of_bytes (Some fault) ≡ false → is_of_bytes (unless holds fault) ≡ false
unfolding is_of_bytes
unless_other true fault other = refl
unless_other false fault other = other

each_other_from : (f : ℕ → Data → Option BookFault) (n : ℕ) (ds : List Data) → ((k : ℕ) (d : Data) → is_of_bytes (f k d) ≡ false) →
    is_of_bytes (first_of (map (λ entry. f entry.0 entry.1) (enumerate_from n ds))) ≡ false
unfolding is_of_bytes
each_other_from f n ds other = first_is_other (map (λ entry. f entry.0 entry.1) (enumerate_from n ds)) (all n ds)
  where
    all : (m : ℕ) (es : List Data) → AllByRecursion (λ fault. is_of_bytes fault ≡ false) (map (λ entry. f entry.0 entry.1) (enumerate_from m es))
    all m [] = tt
    all m (d ∷ es) = (other m d, all (m + 1) es)

shape_other : (k : ℕ) (missing : Option ℕ) → is_of_bytes (option_map (λ field. Shape (4 + 4 * k + field)) missing) ≡ false
unfolding is_of_bytes
shape_other k None = refl
shape_other k (Some field) = refl

-- a value has no such fault
fault_is_other : (d : Data) → is_of_bytes (fault_in d) ≡ false
unfolding is_of_bytes
fault_is_other d =
    let entries = unwrap_or (list_in (codes "levels") d) [] in
    first_is_other (faults_in d) (
      unless_other (is_some (as_object d)) (Shape 0) refl,
      (
        unless_other (is_some (number_in (codes "forward") d)) (Shape 1) refl,
        (
          unless_other (is_some (number_in (codes "reverse") d)) (Shape 2) refl,
          (
            unless_other (is_some (list_in (codes "levels") d)) (Shape 3) refl,
            (
              unless_other (nat_lt 0 (length entries) && nat_le (length entries) 4) (Levels (min (length entries) 4294967295)) refl,
              (
                each_other_from shape_fault 0 entries (λ k e. shape_other k (missing_in e)),
                (
                  each_other_from (name_fault entries) 0 entries (λ k e. unless_other _ (Name k) refl),
                  (
                    each_other_from cost_fault 0 entries (λ k e. unless_other _ (CostRange k) refl),
                    (
                      unless_other (nat_le (number_of (codes "forward") d) 1000000) (CostRange 254) refl,
                      (
                        unless_other (nat_le (number_of (codes "reverse") d) 1000000) (CostRange 255) refl,
                        (
                          each_other_from slot_fault 0 entries (λ k e. unless_other _ (SlotRange k) refl),
                          (
                            each_other_from (order_fault entries) 0 entries (λ k e. unless_other _ (CostOrder k) refl),
                            tt,
                          ),
                        ),
                      ),
                    ),
                  ),
                ),
              ),
            ),
          ),
        ),
      ),
    )

-- so it isn't want of memory
pub not_memory : (d : Data) (fault : BookFault) → fault_in d ≡ Some fault → fault ≢ Memory
unfolding is_of_bytes
not_memory d fault is memory =
    let other = ap is_of_bytes (sym (is ∙ ap Some memory)) ∙ fault_is_other d in
    absurd (cc other)

-- what a value's fault says of the bytes
pub refuses : (bytes : List ℕ) (d : Data) (fault : BookFault) → IsTextOf bytes d → fault_in d ≡ Some fault → IsRefused bytes fault
unfolding is_of_bytes
refuses bytes d NotJson text is = let other = ap is_of_bytes (sym is) ∙ fault_is_other d in absurd (cc other)
refuses bytes d Memory text is =
    let other = ap is_of_bytes (sym is) ∙ fault_is_other d in
    absurd (cc other)
refuses bytes d (Shape n) text is = (d, text, is)
refuses bytes d (Levels n) text is = (d, text, is)
refuses bytes d (Name n) text is = (d, text, is)
refuses bytes d (CostRange n) text is = (d, text, is)
refuses bytes d (SlotRange n) text is = (d, text, is)
refuses bytes d (CostOrder n) text is = (d, text, is)

-- what was answered of a value refuses its bytes
pub refused_by : (answer : Result BookCosts BookFault) (bytes : List ℕ) (d : Data) → IsTextOf bytes d →
    MatchResult answer (λ book. SaysBook d book × (fault_in d ≡ None)) (λ fault. fault_in d ≡ Some fault) → IfErr answer (IsRefused bytes)
refused_by (Ok book) bytes d text is = tt
refused_by (Err fault) bytes d text is = refuses bytes d fault text is
