-- The first fault of a list of tests, in a loop that makes them one by one.
use Rattle.std.proofs.Common.{◌≡◌, ℕ, zero, suc, ◌+◌, ◌<◌, ◌≤◌, List, [], ◌∷◌, length, map, take, Bool, true, false, Option, Some, None, slice_get, refl, sym, ◌∙◌, ap, subst, arith, add-one, ◌||◌, ◌&&◌, not}
use Rattle.std.specs.List.{enumerate_from, list_any, take-map}
use Rattle.std.specs.Str.{bytes_eq}
use Rattle.std.proofs.lemmas.List.FromFn.{length-enumerate_from}
use Rattle.std.specs.Option.{option_map}
use Rattle.std.proofs.lemmas.List.{take_all, length-map}
use Rattle.std.proofs.lemmas.Option.{slice_get-map}
use Rattle.serde_json.specs.Data.{Data}
use Rattle.serde_json.specs.View.{view}
use Rattle.serde_json.specs.declared.value.Value.{Value}
use Rattle.level_book.specs.declared.fault.BookFault.{BookFault}
use Rattle.level_book.specs.Names.{is_name}
use Rattle.level_book.specs.BookFaults.{first_of, each, unless, name_of}

-- a test that holds has no fault, and one that doesn't has its own
pub unless_holds : (holds : Bool) (fault : BookFault) → holds ≡ true → unless holds fault ≡ None
unless_holds holds fault h = rw h refl

pub unless_fails : (holds : Bool) (fault : BookFault) → holds ≡ false → unless holds fault ≡ Some fault
unless_fails holds fault h = rw h refl

-- where the first tests have no fault, and the next has none, one more has none
goes_on : (faults : List (Option BookFault)) (k : ℕ) → slice_get faults k ≡ Some None → first_of (take k faults) ≡ None → first_of (take (suc k) faults) ≡ None
goes_on [] k here before = refl
goes_on (None ∷ rest) zero here before = refl
goes_on (Some fault ∷ rest) zero here before = cc
goes_on (None ∷ rest) (suc k) here before = goes_on rest k here before
goes_on (Some fault ∷ rest) (suc k) here before = cc

-- where the first tests have no fault, the next one's is the first
stops : (faults : List (Option BookFault)) (k : ℕ) (fault : BookFault) → slice_get faults k ≡ Some (Some fault) → first_of (take k faults) ≡ None → first_of faults ≡ Some fault
stops [] k fault here before = cc
stops (None ∷ rest) zero fault here before = cc
stops (Some other ∷ rest) zero fault here before = cc
stops (None ∷ rest) (suc k) fault here before = stops rest k fault here before
stops (Some other ∷ rest) (suc k) fault here before = cc

-- what is found at an entry
pub each_from : (f : ℕ → Data → Option BookFault) (n : ℕ) (ds : List Data) (k : ℕ) (d : Data) (j : ℕ) → slice_get ds k ≡ Some d → j ≡ n + k →
    slice_get (map (λ entry. f entry.0 entry.1) (enumerate_from n ds)) k ≡ Some (f j d)
each_from f n [] k d j here at = cc
each_from f n (first ∷ rest) zero d j here at =
    let same : first ≡ d = cc in
    let place : n ≡ j = omega arith in
    ap_two f place same
  where
    ap_two : (g : ℕ → Data → Option BookFault) {a b : ℕ} {x y : Data} → a ≡ b → x ≡ y → ◌≡◌ {A = Option (Option BookFault)} (Some (g a x)) (Some (g b y))
    ap_two g {b = b} {x = x} numbers entries = ap (λ m. Some (g m x)) numbers ∙ ap (λ y. Some (g b y)) entries
each_from f n (first ∷ rest) (suc k) d j here at = each_from f (n + 1) rest k d j here (omega arith)

at_entry : (f : ℕ → Data → Option BookFault) (list : List Value) (k : ℕ) (entry : Value) → slice_get list k ≡ Some entry →
    slice_get (each f (map view list)) k ≡ Some (f k (view entry))
at_entry f list k entry here = each_from f 0 (map view list) k (view entry) k (slice_get-map view list k ∙ ap (option_map view) here) (omega arith)

-- the entries before number k have no fault
abbrev pub NoneBefore : (ℕ → Data → Option BookFault) → List Value → ℕ → Type 0
NoneBefore f list k = first_of (take k (each f (map view list))) ≡ None

-- an element below the length of a list is there
some_at : {A : Type 0} (xs : List A) (k : ℕ) → k < length xs → (x : A) × (slice_get xs k ≡ Some x)
some_at [] k within = absurd (omega arith)
some_at (x ∷ xs) zero within = (x, refl)
some_at (x ∷ xs) (suc k) within = some_at xs k (omega arith)

-- nor have those up to it, where it has none
pub each_goes_on : (f : ℕ → Data → Option BookFault) (list : List Value) (k : ℕ) → k < length list →
    ((entry : Value) → slice_get list k ≡ Some entry → None ≡ f k (view entry)) → NoneBefore f list k → NoneBefore f list (k + 1)
each_goes_on f list k within none before =
    let entry = some_at list k within in
    rw add-one (goes_on (each f (map view list)) k (at_entry f list k entry.0 entry.1 ∙ ap Some (sym (none entry.0 entry.1))) before)

-- its fault is the first, where it has one
pub each_stops : (f : ℕ → Data → Option BookFault) (list : List Value) (k : ℕ) (fault : BookFault) → k < length list →
    ((entry : Value) → slice_get list k ≡ Some entry → Some fault ≡ f k (view entry)) → NoneBefore f list k → first_of (each f (map view list)) ≡ Some fault
each_stops f list k fault within found before =
    let entry = some_at list k within in
    stops (each f (map view list)) k fault (at_entry f list k entry.0 entry.1 ∙ ap Some (sym (found entry.0 entry.1))) before

-- after the last entry there is none
pub each_ends : (f : ℕ → Data → Option BookFault) (list : List Value) (k : ℕ) → length list ≤ k → NoneBefore f list k → first_of (each f (map view list)) ≡ None
each_ends f list k past before =
    let P : List (Option BookFault) → Type 0 = λ faults. first_of faults ≡ None in
    subst P (take_all k (each f (map view list)) (rw length-map (rw length-enumerate_from (rw length-map past)))) before

-- whether a test finds an element of a list that is mapped
pub list_any-map : {A B : Type 0} (p : B → Bool) (f : A → B) (xs : List A) → list_any p (map f xs) ≡ list_any (λ x. p (f x)) xs
list_any-map p f [] = refl
list_any-map p f (x ∷ xs) = ap (λ rest. p (f x) || rest) (list_any-map p f xs)

-- whether the test of a name holds
pub name_fault_is : (list : List Value) (k : ℕ) (d : Data) (named taken : Bool) → named ≡ is_name (name_of d) →
    taken ≡ list_any (λ entry. bytes_eq (name_of (view entry)) (name_of d)) (take k list) →
    (named && not taken) ≡ (is_name (name_of d) && not (list_any (λ earlier. bytes_eq (name_of earlier) (name_of d)) (take k (map view list))))
name_fault_is list k d named taken is_named is_taken =
    let mapped = list_any-map (λ earlier. bytes_eq (name_of earlier) (name_of d)) view (take k list) in
    rw (take-map view k list, mapped, is_named, is_taken) refl
