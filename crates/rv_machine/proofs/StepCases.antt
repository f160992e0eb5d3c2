-- What a step changes, and what it leaves as it was: by the cases of the step table.
use Rattle.std.proofs.Common.{◌≡◌, ℕ, zero, suc, ◌+◌, ◌-◌, ◌*◌, ◌%◌, ◌^◌, ◌≤◌, ◌==◌, ◌||◌, Bool, true, false, cond, nat_le, List, [], ◌∷◌, length, drop, get_or, set, slice_get, refl, sym, ap, subst, ◌∙◌, arith, Option, Some, None, IsSome, is_some}
use Rattle.std.proofs.Math.Seq.{drop-cons}
use Rattle.std.proofs.lemmas.List.{set-get_or, length-take, length-drop}
use Rattle.std.proofs.lemmas.List.Sums.{sum_by-cons, sum_by-take-drop}
use Rattle.std.proofs.lemmas.Option.{slice_get_within, get_or_from_slice_get}
use Rattle.std.specs.List.{slice_index, slice_set, sum_by}
use Rattle.std.specs.Option.{option_map_or, option_and_then}
use Rattle.std.specs.FinMap.{get}
use Rattle.rv_pages.specs.Memory.{Memory, wrapped, bytes_at, number_at, word_at, low_bytes, with_bytes, with_number, IsMapped}
use Rattle.rv_pages.proofs.MemoryReads.{some_mapped}
use Rattle.rv_pages.proofs.MemoryWrites.{some_with_bytes}
use Rattle.rv_decode.specs.declared.instruction.Inst.{Inst}
use Rattle.rv_decode.specs.Formats.{sign_extended}
use Rattle.rv_decode.specs.Rows.{decoded}
use Rattle.rv_machine.specs.declared.effect.Effect.{Effect}
use Rattle.rv_machine.specs.declared.effect.Effect.TheVariants.{Put, Jump, Branch, Load, Store, Nothing, Call, Break}
use Rattle.rv_machine.specs.declared.effect.Width.{Width}
use Rattle.rv_machine.specs.declared.effect.Width.TheVariants.{Byte, Half, Word}
use Rattle.rv_machine.specs.Effects.{bytes_of}
use Rattle.rv_machine.specs.MachineState.{MachineState}
use Rattle.rv_machine.specs.StateChanges.{with_register, trapped, gone_on, put, addresses}
use Rattle.rv_machine.specs.SystemCalls.{argument, not_mapped, no_such_call, bytes_read, received, read_from, sent, exited, called, written_by_read, written_by_call}
use Rattle.rv_machine.specs.StepTable.{jumped, loaded, applied, effect_in, said, executed, is_running, next, register_of, register_changed, written_by, written}
use Rattle.rv_machine.specs.StepChanges.{IsOutside, left_of, IsStep}
use Rattle.rv_machine.proofs.MemoryWrites.{inside_mapped, number_mapped, length-addresses, length-low_bytes, elsewhere}

-- a register that gets its old value back
set_back : (xs : List ℕ) (i v : ℕ) → set (set xs i v) i (get_or xs i 0) ≡ xs
set_back [] i v = refl
set_back (x ∷ xs) zero v = refl
set_back (x ∷ xs) (suc i) v = ap (λ ys. x ∷ ys) (set_back xs i v)

put_back : (xs : List ℕ) (n v : ℕ) → with_register (with_register xs n v) n (slice_index xs n) ≡ xs
put_back xs n v =
    elim (n == 0) as (λ b. cond b (cond b xs (slice_set xs n v)) (slice_set (cond b xs (slice_set xs n v)) n (slice_index xs n)) ≡ xs) [
      | true ↦ refl
      | false ↦ set_back xs n v
    ]

kept_back : (xs : List ℕ) (n : ℕ) → with_register xs n (slice_index xs n) ≡ xs
kept_back xs n =
    elim (n == 0) as (λ b. cond b xs (slice_set xs n (slice_index xs n)) ≡ xs) [
      | true ↦ refl
      | false ↦ set-get_or xs n 0
    ]

-- steps that write no memory and read no input: one register gets a value, or none
module _ (s t : MachineState) (n v : ℕ) (journal : List (List ℕ)) (m : t.memory ≡ s.memory) (i : t.item ≡ s.item) (o : t.offset ≡ s.offset) where
  quiet : with_register t.registers n (slice_index s.registers n) ≡ s.registers → IsStep s t n [] journal
  quiet r = record {
    registers = r;
    memory = λ a _. ap (λ k. get k a) m;
    there = λ a h. absurd (cc);
    mapped = λ a h. subst (λ (k : Memory). IsSome (get k a)) (sym m) h;
    bytes = let same : left_of (drop t.item journal) t.offset ≡ left_of (drop s.item journal) s.offset = λ k. left_of (drop (i k) journal) (o k) in omega (arith, same);
  }

  puts : t.registers ≡ with_register s.registers n v → IsStep s t n [] journal
  puts r = quiet (ap (λ xs. with_register xs n (slice_index s.registers n)) r ∙ put_back s.registers n v)

  stays : t.registers ≡ s.registers → IsStep s t n [] journal
  stays r = quiet (ap (λ xs. with_register xs n (slice_index s.registers n)) r ∙ kept_back s.registers n)

either : (b : Bool) (s t u : MachineState) (n : ℕ) (ws : List ℕ) (journal : List (List ℕ)) → IsStep s t n ws journal → IsStep s u n ws journal → IsStep s (cond b t u) n ws journal
either true s t u n ws journal p q = p
either false s t u n ws journal p q = q

jumps : (s : MachineState) (rd target : ℕ) (journal : List (List ℕ)) → IsStep s (jumped s rd target) rd [] journal
jumps s rd target journal =
    let t : MachineState = record s { pc = target; registers = with_register s.registers rd (wrapped (s.pc + 4)) } in
    either (target % 4 == 0) s t (trapped s 0) rd [] journal
    (puts s t rd (wrapped (s.pc + 4)) journal refl refl refl refl)
    (stays s (trapped s 0) rd 0 journal refl refl refl refl)

loads : (s : MachineState) (rd : ℕ) (width : Width) (with_sign : Bool) (o : Option ℕ) (journal : List (List ℕ)) → IsStep s (loaded s rd width with_sign o) rd [] journal
loads s rd width with_sign None journal = stays s (trapped s 5) rd 0 journal refl refl refl refl
loads s rd width with_sign (Some n) journal =
    let value : ℕ = cond with_sign (sign_extended (8 * bytes_of width) n) n in
    puts s (put s rd value) rd value journal refl refl refl refl

four : (width : Width) → bytes_of width ≤ 4
four Byte = omega arith
four Half = omega arith
four Word = omega arith

stores : (b : Bool) (s : MachineState) (at n value : ℕ) (journal : List (List ℕ)) → n ≤ 4 → is_some (number_at s.memory at n) ≡ b →
    IsStep s (cond b (record s { pc = wrapped (s.pc + 4); memory = with_number s.memory at n value }) (trapped s 7)) 0 (cond b (addresses at n) []) journal
stores true s at n value journal few some = record {
  registers = refl;
  memory = λ a h. elsewhere s.memory at (low_bytes n value) a (subst (λ k. IsOutside (addresses at k) a) (sym (length-low_bytes n value)) h);
  there = inside_mapped s.memory at n (number_mapped s.memory at n some);
  mapped = λ a h. some_with_bytes s.memory at (low_bytes n value) a h;
  bytes = omega (arith, length-addresses at n);
}
stores false s at n value journal few some = stays s (trapped s 7) 0 0 journal refl refl refl refl

-- the item that is read, and those behind it
split_at : (xs : List (List ℕ)) (n : ℕ) (x : List ℕ) → slice_get xs n ≡ Some x → drop n xs ≡ x ∷ drop (n + 1) xs
split_at xs n x h =
    let next : suc n ≡ n + 1 = omega arith in
    drop-cons xs n x (slice_get_within xs n x h)
    ∙ (λ i. get_or_from_slice_get xs n x x h i ∷ drop (next i) xs)

left_start : (xs : List (List ℕ)) → left_of xs 0 ≡ sum_by length xs
left_start [] = refl
left_start (x ∷ xs) = omega (arith, sum_by-cons length x xs)

left_within : (xs : List (List ℕ)) (offset : ℕ) → left_of xs offset ≤ sum_by length xs
left_within [] offset = omega arith
left_within (x ∷ xs) offset = omega (arith, sum_by-cons length x xs)

-- no more is left than there is
pub left_at_most : (journal : List (List ℕ)) (item offset : ℕ) → left_of (drop item journal) offset ≤ sum_by length journal
left_at_most journal item offset = omega (arith, left_within (drop item journal) offset, sum_by-take-drop length journal item)

-- bytes of an item are stored, and the place moves behind them
receives : (b : Bool) (s : MachineState) (item bytes : List ℕ) (journal : List (List ℕ)) → slice_get journal s.item ≡ Some item → length bytes ≤ length item - s.offset → IsMapped s.memory (argument s 1) (length bytes) →
    let t : MachineState = record s { memory = with_bytes s.memory (argument s 1) bytes } in
    IsStep s (put (cond b (record t { item = s.item + 1; offset = 0 }) (record t { offset = s.offset + length bytes })) 10 (length bytes)) 10 (addresses (argument s 1) (length bytes)) journal
receives true s item bytes journal at few all = record {
  registers = put_back s.registers 10 (length bytes);
  memory = λ a h. elsewhere s.memory (argument s 1) bytes a h;
  there = inside_mapped s.memory (argument s 1) (length bytes) all;
  mapped = λ a h. some_with_bytes s.memory (argument s 1) bytes a h;
  bytes =
      let count : length (addresses (argument s 1) (length bytes)) ≡ length bytes = length-addresses (argument s 1) (length bytes) in
      let before : left_of (drop s.item journal) s.offset ≡ length item - s.offset + sum_by length (drop (s.item + 1) journal) = ap (λ xs. left_of xs s.offset) (split_at journal s.item item at) in
      let after : left_of (drop (s.item + 1) journal) 0 ≡ sum_by length (drop (s.item + 1) journal) = left_start (drop (s.item + 1) journal) in
      omega (arith, count, before, after, few);
}
receives false s item bytes journal at few all = record {
  registers = put_back s.registers 10 (length bytes);
  memory = λ a h. elsewhere s.memory (argument s 1) bytes a h;
  there = inside_mapped s.memory (argument s 1) (length bytes) all;
  mapped = λ a h. some_with_bytes s.memory (argument s 1) bytes a h;
  bytes =
      let count : length (addresses (argument s 1) (length bytes)) ≡ length bytes = length-addresses (argument s 1) (length bytes) in
      let before : left_of (drop s.item journal) s.offset ≡ length item - s.offset + sum_by length (drop (s.item + 1) journal) = ap (λ xs. left_of xs s.offset) (split_at journal s.item item at) in
      let after : left_of (drop s.item journal) (s.offset + length bytes) ≡ length item - (s.offset + length bytes) + sum_by length (drop (s.item + 1) journal) = ap (λ xs. left_of xs (s.offset + length bytes)) (split_at journal s.item item at) in
      omega (arith, count, before, after, few);
}

reads_item : (b : Bool) (s : MachineState) (item bytes : List ℕ) (journal : List (List ℕ)) → slice_get journal s.item ≡ Some item → length bytes ≤ length item - s.offset → is_some (bytes_at s.memory (argument s 1) (length bytes)) ≡ b →
    IsStep s (cond b (received s item bytes) (put s 10 not_mapped)) 10 (cond b (addresses (argument s 1) (length bytes)) []) journal
reads_item true s item bytes journal at few some = receives (nat_le (length item) (s.offset + length bytes)) s item bytes journal at few (some_mapped s.memory (length bytes) (argument s 1) some)
reads_item false s item bytes journal at few some = puts s (put s 10 not_mapped) 10 not_mapped journal refl refl refl refl

reads : (s : MachineState) (journal : List (List ℕ)) (o : Option (List ℕ)) → slice_get journal s.item ≡ o → IsStep s (read_from s o) 10 (written_by_read s o) journal
reads s journal None at = puts s (put s 10 0) 10 0 journal refl refl refl refl
reads s journal (Some item) at =
    let few : length (bytes_read s item) ≤ length item - s.offset = omega (arith, length-take (argument s 2) (drop s.offset item), length-drop s.offset item) in
    reads_item _ s item (bytes_read s item) journal at few refl

sends : (s : MachineState) (journal : List (List ℕ)) → IsStep s (sent s) 10 [] journal
sends s journal =
    let t : MachineState = put (record s { written = (s.written + argument s 2) % 2 ^ 64 }) 10 (argument s 2) in
    either (is_some (bytes_at s.memory (argument s 1) (argument s 2))) s t (put s 10 not_mapped) 10 [] journal
    (puts s t 10 (argument s 2) journal refl refl refl refl)
    (puts s (put s 10 not_mapped) 10 not_mapped journal refl refl refl refl)

calls : (s : MachineState) (journal : List (List ℕ)) → IsStep s (called s journal) 10 (written_by_call s journal) journal
calls s journal =
    let other : MachineState = cond (argument s 7 == 64) (sent s) (cond (argument s 7 == 93 || argument s 7 == 94) (exited s) (put s 10 no_such_call)) in
    let no_read : IsStep s other 10 [] journal =
    either (argument s 7 == 64) s (sent s) (cond (argument s 7 == 93 || argument s 7 == 94) (exited s) (put s 10 no_such_call)) 10 [] journal (sends s journal)
    (either (argument s 7 == 93 || argument s 7 == 94) s (exited s) (put s 10 no_such_call) 10 [] journal
    (stays s (exited s) 10 0 journal refl refl refl refl)
    (puts s (put s 10 no_such_call) 10 no_such_call journal refl refl refl refl))
    in
    elim (argument s 7 == 63) as (λ b. IsStep s (cond b (read_from s (slice_get journal s.item)) other) 10 (cond b (written_by_read s (slice_get journal s.item)) []) journal) [
      | true ↦ reads s journal (slice_get journal s.item) refl
      | false ↦ no_read
    ]

applies : (s : MachineState) (journal : List (List ℕ)) (effect : Effect) → IsStep s (applied s journal effect) (register_of effect) (written_by s journal (Some effect)) journal
applies s journal (Put rd value) = puts s (put s rd value) rd value journal refl refl refl refl
applies s journal (Jump rd target) = jumps s rd target journal
applies s journal (Branch taken target) = either taken s (jumped s 0 target) (gone_on s) 0 [] journal (jumps s 0 target journal) (stays s (gone_on s) 0 0 journal refl refl refl refl)
applies s journal (Load rd at width with_sign) = loads s rd width with_sign _ journal
applies s journal (Store at width value) = stores _ s at (bytes_of width) value journal (four width) refl
applies s journal Nothing = stays s (gone_on s) 0 0 journal refl refl refl refl
applies s journal Call = calls s journal
applies s journal Break = stays s (trapped s 3) 0 0 journal refl refl refl refl

abbrev effect_of_inst : MachineState → Option Inst → Option Effect
effect_of_inst s o = option_and_then (λ inst. Some (effect_in s inst)) o

says : (s : MachineState) (journal : List (List ℕ)) (o : Option Inst) → IsStep s (said s journal o) (option_map_or register_of (effect_of_inst s o) 0) (written_by s journal (effect_of_inst s o)) journal
says s journal None = stays s (trapped s 2) 0 0 journal refl refl refl refl
says s journal (Some inst) = applies s journal (effect_in s inst)

abbrev effect_of_word : MachineState → Option ℕ → Option Effect
effect_of_word s o = option_and_then (λ w. effect_of_inst s (decoded w)) o

executes : (s : MachineState) (journal : List (List ℕ)) (o : Option ℕ) → IsStep s (executed s journal o) (option_map_or register_of (effect_of_word s o) 0) (written_by s journal (effect_of_word s o)) journal
executes s journal None = stays s (trapped s 1) 0 0 journal refl refl refl refl
executes s journal (Some w) = says s journal (decoded w)

runs : (b : Bool) (s t : MachineState) (n : ℕ) (ws : List ℕ) (journal : List (List ℕ)) → IsStep s t n ws journal → IsStep s (cond b t s) (cond b n 0) (cond b ws []) journal
runs true s t n ws journal h = h
runs false s t n ws journal h = stays s s 0 0 journal refl refl refl refl

pub steps : (s : MachineState) (journal : List (List ℕ)) → IsStep s (next s journal) (register_changed s) (written s journal) journal
steps s journal = runs (is_running s.status) s _ _ _ journal (executes s journal (word_at s.memory s.pc))
