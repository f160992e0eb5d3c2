-- What the program writes on a way, and the pieces in which gdb shows it.
use Rattle.std.proofs.Common.{◌≡◌, ℕ, zero, suc, ◌+◌, ◌-◌, ◌*◌, ◌^◌, ◌%◌, ◌==◌, ◌≤◌, ◌<◌, Bool, true, false, cond, List, [], ◌∷◌, ◌++◌, length, take, drop, map, Option, None, Some, refl, sym, ap, subst, ◌∙◌, arith, append-nil, append_assoc, length-append, length-drop}
use Rattle.std.specs.Prelude.{unwrap_or}
use Rattle.std.specs.Option.{option_and_then}
use Rattle.std.specs.List.{flat_map}
use Rattle.std.proofs.lemmas.List.Elements.{All-nil, All-cons, All-append, All-head}
use Rattle.rv_pages.specs.Memory.{Memory, byte_at, bytes_at, followed_by, word_at}
use Rattle.rv_decode.specs.declared.instruction.Inst.{Inst}
use Rattle.rv_decode.specs.declared.instruction.Inst.TheVariants.{Ecall}
use Rattle.rv_decode.specs.Rows.{decoded}
use Rattle.input_journal.specs.Form.{IsRecorded}
use Rattle.rv_machine.specs.MachineState.{MachineState, IsMachineState}
use Rattle.rv_machine.specs.SystemCalls.{argument}
use Rattle.rv_machine.specs.StepTable.{effect_in, effect_at_pc, is_running}
use Rattle.rv_machine.specs.States.{state_number}
use Rattle.rv_machine.specs.Output.{output_of_call, output_by, output, outputs}
use Rattle.rv_machine.proofs.Runs.{state_number-add}
use Rattle.rv_machine.proofs.StateInvariant.{number_is_state}
use Rattle.rv_machine.proofs.OutputCount.{written_is}
use Rattle.run_timeline.specs.Moves.{Run, state}
use Rattle.gdb_session.specs.Moves.{ArePieces, Shows, console_text, output_from}

-- ---- output

outputs_joined : (s : MachineState) (journal : List (List ℕ)) (m n : ℕ) → outputs s journal (m + n) ≡ outputs s journal m ++ outputs (state_number s journal m) journal n
outputs_joined s journal m zero =
    let same : m + 0 ≡ m = omega arith in
    ap (outputs s journal) same ∙ sym (append-nil (outputs s journal m))
outputs_joined s journal m (suc n) =
    let next : m + suc n ≡ suc (m + n) = omega arith in
    let t : MachineState = state_number s journal m in
    ap (outputs s journal) next
    ∙ ap (λ (l : List ℕ). l ++ output (state_number s journal (m + n))) (outputs_joined s journal m n)
    ∙ ap (λ (x : MachineState). (outputs s journal m ++ outputs t journal n) ++ output x) (state_number-add s journal m n)
    ∙ append_assoc (outputs s journal m) (outputs t journal n) (output (state_number t journal n))

-- on two ways, one after the other
pub output_joined : (r : Run) (p q a b : ℕ) → q ≡ p + a → output_from r p (a + b) ≡ output_from r p a ++ output_from r q b
output_joined r p q a b e =
    let there : state_number (state r p) r.journal a ≡ state r q = sym (state_number-add r.first r.journal p a) ∙ ap (state r) (sym e) in
    outputs_joined (state r p) r.journal a b ∙ ap (λ (s : MachineState). output_from r p a ++ outputs s r.journal b) there

-- ---- how much there may be

followed : (o : Option ℕ) (p : Option (List ℕ)) (n : ℕ) → length (unwrap_or p []) ≤ n → length (unwrap_or (followed_by o p) []) ≤ suc n
followed None p n h = omega arith
followed (Some b) None n h = omega arith
followed (Some b) (Some bytes) n h = omega (arith, h)

length-bytes : (m : Memory) (n at : ℕ) → length (unwrap_or (bytes_at m at n) []) ≤ n
length-bytes m zero at = omega arith
length-bytes m (suc n) at = followed (byte_at m at) (bytes_at m (at + 1) n) n (length-bytes m n (at + 1))

either : (b : Bool) (bytes : List ℕ) (n : ℕ) → length bytes ≤ n → length (cond b bytes []) ≤ n
either true bytes n h = h
either false bytes n h = omega arith

few_in : (s : MachineState) (inst : Inst) (n : ℕ) → length (output_of_call s) ≤ n → length (output_by s (Some (effect_in s inst))) ≤ n
few_in s Ecall n h = h
few_in s _ n h = omega arith

few_said : (s : MachineState) (o : Option Inst) (n : ℕ) → length (output_of_call s) ≤ n → length (output_by s (option_and_then (λ inst. Some (effect_in s inst)) o)) ≤ n
few_said s None n h = omega arith
few_said s (Some inst) n h = few_in s inst n h

few_read : (s : MachineState) (o : Option ℕ) (n : ℕ) → length (output_of_call s) ≤ n →
    length (output_by s (option_and_then (λ w. option_and_then (λ inst. Some (effect_in s inst)) (decoded w)) o)) ≤ n
few_read s None n h = omega arith
few_read s (Some w) n h = few_said s (decoded w) n h

-- a step writes fewer than 2 ^ 32 bytes
few_written : (s : MachineState) → IsMachineState s → length (output s) < 2 ^ 32
few_written s is =
    let long : 12 < length s.registers = let e = is.registers in omega (arith, e) in
    let word : argument s 2 < 2 ^ 32 = is.words 12 0 long in
    let call : length (output_of_call s) ≤ argument s 2 = either (argument s 7 == 64) (unwrap_or (bytes_at s.memory (argument s 1) (argument s 2)) []) (argument s 2) (length-bytes s.memory (argument s 2) (argument s 1)) in
    let few : length (output s) ≤ argument s 2 = either (is_running s.status) (output_by s (effect_at_pc s)) (argument s 2) (few_read s (word_at s.memory s.pc) (argument s 2) call) in
    omega (arith, word, few)

few_from : (s : MachineState) (journal : List (List ℕ)) (n : ℕ) → IsMachineState s → IsRecorded journal → length (outputs s journal n) ≤ n * (2 ^ 32 - 1)
few_from s journal zero is recorded = omega arith
few_from s journal (suc n) is recorded =
    let before = few_from s journal n is recorded in
    let here = few_written (state_number s journal n) (number_is_state s journal n is recorded) in
    let long = length-append (outputs s journal n) (output (state_number s journal n)) in
    omega (arith, before, here, long)

empty : (bytes : List ℕ) → length bytes ≡ 0 → bytes ≡ []
empty [] e = refl
empty (b ∷ bytes) e = absurd (omega (arith, e))

-- the counts, in numbers
none_more : (w l n : ℕ) → w < 2 ^ 64 → n < 2 ^ 32 → l ≤ n * (2 ^ 32 - 1) → w ≡ (w + l) % 2 ^ 64 → l ≡ 0
none_more w l n small few most e = omega (arith, small, few, most, e)

-- where the count of what was written is the same again, nothing was written
pub none_written : (s : MachineState) (journal : List (List ℕ)) (n : ℕ) → IsMachineState s → IsRecorded journal → n < 2 ^ 32 → (state_number s journal n).written ≡ s.written → outputs s journal n ≡ []
none_written s journal n is recorded few same =
    empty (outputs s journal n) (none_more s.written (length (outputs s journal n)) n is.written few (few_from s journal n is recorded) (sym same ∙ written_is s journal n is.written))

-- ---- pieces

pub flat_joined : {X : Type 0} (f : X → List ℕ) (xs ys : List X) → flat_map f (xs ++ ys) ≡ flat_map f xs ++ flat_map f ys
flat_joined f [] ys = refl
flat_joined f (x ∷ xs) ys = ap (λ (l : List ℕ). f x ++ l) (flat_joined f xs ys) ∙ sym (append_assoc (f x) (flat_map f xs) (flat_map f ys))

abbrev is_some : List ℕ → Type 0
is_some piece = 0 < length piece

abbrev is_few : List ℕ → Type 0
is_few piece = length piece ≤ 4096

pub no_pieces : ArePieces [] []
no_pieces = record { whole = refl; some = All-nil is_some; few = All-nil is_few }

-- what is shown of no bytes
pub none_of_none : (pieces : List (List ℕ)) → ArePieces [] pieces → map console_text pieces ≡ []
none_of_none [] h = refl
none_of_none (piece ∷ pieces) h =
    let some = All-head is_some piece pieces h.some in
    let size : 0 ≡ length piece + length (flat_map (λ p. p) pieces) = ap length h.whole ∙ length-append piece (flat_map (λ p. p) pieces) in
    absurd (omega (arith, some, size))

pub one_piece : (piece : List ℕ) → 0 < length piece → length piece ≤ 4096 → ArePieces piece (piece ∷ [])
one_piece piece some few = record { whole = sym (append-nil piece); some = All-cons is_some piece [] some (All-nil is_some); few = All-cons is_few piece [] few (All-nil is_few) }

pub pieces_joined : (a b : List ℕ) (xs ys : List (List ℕ)) → ArePieces a xs → ArePieces b ys → ArePieces (a ++ b) (xs ++ ys)
pieces_joined a b xs ys h g = record {
  whole = ap (λ (l : List ℕ). l ++ b) h.whole ∙ ap (λ (l : List ℕ). flat_map (λ piece. piece) xs ++ l) g.whole ∙ sym (flat_joined (λ piece. piece) xs ys);
  some = All-append is_some xs ys h.some g.some;
  few = All-append is_few xs ys h.few g.few;
}

short_front : (k : ℕ) (bytes : List ℕ) → length (take k bytes) ≤ k
short_front zero bytes = omega arith
short_front (suc k) [] = omega arith
short_front (suc k) (b ∷ bytes) = let h = short_front k bytes in omega (arith, h)

pub front_back : (k : ℕ) (bytes : List ℕ) → take k bytes ++ drop k bytes ≡ bytes
front_back zero bytes = refl
front_back (suc k) [] = refl
front_back (suc k) (b ∷ bytes) = λ i. b ∷ front_back k bytes i

shorter : (k : ℕ) (bytes : List ℕ) (n : ℕ) → length bytes ≤ suc n → length (drop (suc k) bytes) ≤ n
shorter k [] n h = omega arith
shorter k (b ∷ bytes) n h = let e = length-drop k bytes in omega (arith, e, h)

pub some_pieces : (n : ℕ) (text : List ℕ) → length text ≤ n → (pieces : List (List ℕ)) × ArePieces text pieces
some_pieces n [] h = ([], no_pieces)
some_pieces zero (b ∷ text) h = absurd (omega (arith, h))
some_pieces (suc n) (b ∷ text) h =
    let k : ℕ = 4095 in
    let back : List ℕ = drop k text in
    let front : List ℕ = b ∷ take k text in
    let later = some_pieces n back (shorter k (b ∷ text) n h) in
    let few = short_front k text in
    let both = pieces_joined front back (front ∷ []) later.0 (one_piece front (omega arith) (omega (arith, few))) later.1 in
    (front ∷ later.0, subst (λ (l : List ℕ). ArePieces l (front ∷ later.0)) (λ i. b ∷ front_back k text i) both)

-- ---- what gdb is shown

pub map_joined : {X Y : Type 0} (f : X → Y) (xs ys : List X) → map f (xs ++ ys) ≡ map f xs ++ map f ys
map_joined f [] ys = refl
map_joined f (x ∷ xs) ys = λ i. f x ∷ map_joined f xs ys i

pub shows_pieces : (r : Run) (p m n : ℕ) (pieces : List (List ℕ)) → m ≡ p + n → ArePieces (output_from r p n) pieces → Shows false r p m (map console_text pieces)
shows_pieces r p m n pieces e h count is =
    let same : n ≡ count = omega (arith, e, is) in
    (pieces, subst (λ (k : ℕ). ArePieces (output_from r p k) pieces) same h, refl)

-- where it writes nothing
pub shows_nothing : (quiet : Bool) (r : Run) (p m n : ℕ) → m ≡ p + n → output_from r p n ≡ [] → Shows quiet r p m []
shows_nothing true r p m n e none = refl
shows_nothing false r p m n e none = shows_pieces r p m n [] e (subst (λ (l : List ℕ). ArePieces l []) (sym none) no_pieces)

pub shows_none : (quiet : Bool) (r : Run) (p : ℕ) → Shows quiet r p p []
shows_none quiet r p = shows_nothing quiet r p p 0 (omega arith) refl

pub some_shows : (quiet : Bool) (r : Run) (p m : ℕ) → p ≤ m → (texts : List (List ℕ)) × Shows quiet r p m texts
some_shows true r p m le = ([], refl)
some_shows false r p m le =
    let n : ℕ = m - p in
    let pieces = some_pieces (length (output_from r p n)) (output_from r p n) (omega arith) in
    (map console_text pieces.0, shows_pieces r p m n pieces.0 (omega (arith, le)) pieces.1)

pub shows_joined : (quiet : Bool) (r : Run) (p q m : ℕ) (xs ys : List (List ℕ)) → p ≤ q → q ≤ m → Shows quiet r p q xs → Shows quiet r q m ys → Shows quiet r p m (xs ++ ys)
shows_joined true r p q m xs ys one two h g = ap (λ (l : List (List ℕ)). l ++ ys) h ∙ g
shows_joined false r p q m xs ys one two h g =
    let a : ℕ = q - p in
    let b : ℕ = m - q in
    let front = h a (omega (arith, one)) in
    let back = g b (omega (arith, two)) in
    let whole : output_from r p (a + b) ≡ output_from r p a ++ output_from r q b = output_joined r p q a b (omega (arith, one)) in
    let both = subst (λ (l : List ℕ). ArePieces l (front.0 ++ back.0)) (sym whole) (pieces_joined (output_from r p a) (output_from r q b) front.0 back.0 front.1 back.1) in
    let texts : map console_text (front.0 ++ back.0) ≡ xs ++ ys =
    map_joined console_text front.0 back.0 ∙ ap (λ (l : List (List ℕ)). l ++ map console_text back.0) (sym front.2) ∙ ap (λ (l : List (List ℕ)). xs ++ l) (sym back.2) in
    subst (λ (l : List (List ℕ)). Shows false r p m l) texts (shows_pieces r p m (a + b) (front.0 ++ back.0) (omega (arith, one, two)) both)

-- a way that doesn't lead forward shows nothing
pub shows_back : (quiet : Bool) (r : Run) (p m : ℕ) → m ≤ p → Shows quiet r p m []
shows_back true r p m le = refl
shows_back false r p m le = λ count is.
    let none : 0 ≡ count = omega (arith, le, is) in
    ([], subst (λ (n : ℕ). ArePieces (output_from r p n) []) none no_pieces, refl)
