-- That a step leads from a state that a machine can be in to another one.
use Rattle.std.proofs.Common.{◌≡◌, ◌≢◌, ℕ, suc, zero, ◌+◌, ◌-◌, ◌*◌, ◌%◌, ◌^◌, ◌<◌, ◌≤◌, ◌==◌, inl, inr, Bool, true, false, cond, ◌||◌, nat_le, List, [], ◌∷◌, length, get_or, drop, slice_get, refl, sym, ap, subst, ◌∙◌, arith, ℤ, pos, negsuc, pow_pos, Option, Some, None, IfSome, is_some}
use Rattle.std.proofs.lemmas.Bool.{eqb-true, leb-false}
use Rattle.std.proofs.lemmas.Bool.Decides.{eqb_tells}
use Rattle.std.proofs.lemmas.Int.{of_z-to_z}
use Rattle.std.proofs.lemmas.List.{length-set, length-take, get_or-set_other}
use Rattle.std.proofs.lemmas.List.Elements.{All-set, All-take, All-drop}
use Rattle.std.proofs.lemmas.Option.{slice_get_cases, get_or_from_slice_get}
use Rattle.std.proofs.lemmas.Nat.{xor_lt, or_lt}
use Rattle.std.proofs.Math.Nat.{div-le_self, mod-le}
use Rattle.std.specs.Int.{w32, cast_unsigned}
use lib.Signed.{shr_z}
use Rattle.std.specs.Int.Bits.{and_lt}
use Rattle.std.specs.List.{All, slice_index, slice_set}
use Rattle.input_journal.specs.Form.{IsShort, IsRecorded}
use Rattle.rv_pages.specs.Memory.{wrapped, bytes_at, number_at, word_at, with_bytes, with_number}
use Rattle.rv_pages.proofs.MemoryReads.{some_mapped}
use Rattle.rv_pages.proofs.Stores.{with_bytes_memory}
use Rattle.rv_pages.proofs.MemoryInvariant.{word_below, number_below}
use Rattle.rv_decode.specs.declared.instruction.Inst.{Inst}
use Rattle.rv_decode.specs.declared.instruction.Inst.TheVariants.{Lui, Auipc, Jal, Jalr, Beq, Bne, Blt, Bge, Bltu, Bgeu, Lb, Lh, Lw, Lbu, Lhu, Sb, Sh, Sw, Addi, Slti, Sltiu, Xori, Ori, Andi, Slli, Srli, Srai, Add, Sub, Sll, Slt, Sltu, Xor, Srl, Sra, Or, And, Mul, Mulh, Mulhsu, Mulhu, Div, Divu, Rem, Remu, Fence, Ecall, Ebreak}
use Rattle.rv_decode.specs.Formats.{sign_extended}
use Rattle.rv_decode.specs.Ranges.{HasRanges, IsSigned}
use Rattle.rv_decode.specs.Rows.{decoded}
use Rattle.rv_decode.proofs.WordFields.{sign_cases}
use Rattle.rv_decode.proofs.FieldRanges.{decoded_ranges}
use Rattle.rv_machine.specs.declared.effect.Effect.{Effect}
use Rattle.rv_machine.specs.declared.effect.Effect.TheVariants.{Put, Jump, Branch, Load, Store, Nothing, Call, Break}
use Rattle.rv_machine.specs.declared.effect.Width.{Width}
use Rattle.rv_machine.specs.declared.effect.Width.TheVariants.{Byte, Half, Word}
use Rattle.rv_machine.specs.declared.status.Status.TheVariants.{Trapped}
use Rattle.rv_machine.specs.Numbers.{signed, shifted_right_signed, one_if}
use Rattle.rv_machine.specs.Effects.{effect_of, bytes_of}
use Rattle.rv_machine.specs.MachineState.{MachineState, IsMachineState, IsStatus}
use Rattle.rv_machine.specs.StateChanges.{with_register, trapped, gone_on, put}
use Rattle.rv_machine.specs.SystemCalls.{argument, not_mapped, no_such_call, bytes_read, moved, received, read_from, sent, exited, called}
use Rattle.rv_machine.specs.StepTable.{jumped, loaded, applied, effect_in, said, executed, is_running, next}
use Rattle.rv_machine.specs.States.{state_number}
use Rattle.rv_machine.proofs.UpperWords.{as_word_small, high_unsigned_small}
use Rattle.rv_machine.proofs.Stores.{with_number_memory}

-- the register with a number is a word; past the end there is a 0
word : (xs : List ℕ) (k : ℕ) → All (λ x. x < 2 ^ 32) xs → slice_index xs k < 2 ^ 32
word [] k h = omega arith
word (x ∷ xs) zero h = h 0 0 (omega arith)
word (x ∷ xs) (suc k) h = word xs k (λ i d l. h (suc i) d (omega arith))

-- immediates and answers are words
signed_word : (width n : ℕ) → 2 ^ (width - 1) < 2 ^ 32 → IsSigned width n → n < 2 ^ 32
signed_word width n small h = elim h [ inl l ↦ omega (arith, l, small) | inr r ↦ r.1 ]

one_word : (b : Bool) → one_if b < 2 ^ 32
one_word true = omega arith
one_word false = omega arith

shifted_z : (z : ℤ) (p : ℕ) → 0 < p → cast_unsigned w32 z < 2 ^ 32 → cast_unsigned w32 (shr_z z p) < 2 ^ 32
shifted_z (pos n) p some h = omega (arith, div-le_self n p, h)
shifted_z (negsuc n) p some h = omega arith

shifted_word : (a places : ℕ) → a < 2 ^ 32 → shifted_right_signed a places < 2 ^ 32
shifted_word a places h = shifted_z (signed a) (2 ^ places) (pow_pos places) (subst (λ n. n < 2 ^ 32) (sym (of_z-to_z w32 a h)) h)

-- one of two words
one_of_two : (b : Bool) (m n : ℕ) → m < 2 ^ 32 → n < 2 ^ 32 → cond b m n < 2 ^ 32
one_of_two true m n p q = p
one_of_two false m n p q = q

-- what an effect puts somewhere is a word
abbrev HasWords : Effect → Type 0
HasWords (Put rd value) = value < 2 ^ 32
HasWords (Jump rd target) = target < 2 ^ 32
HasWords (Branch taken target) = target < 2 ^ 32
HasWords _ = Unit {0}

words : (x : ℕ → ℕ) (pc : ℕ) → ((n : ℕ) → x n < 2 ^ 32) → (inst : Inst) → HasRanges inst → HasWords (effect_of x pc inst)
words x pc small (Lui rd imm) h = h.1
words x pc small (Auipc rd imm) h = omega arith
words x pc small (Jal rd imm) h = omega arith
words x pc small (Jalr rd rs1 imm) h = omega arith
words x pc small (Beq rs1 rs2 imm) h = omega arith
words x pc small (Bne rs1 rs2 imm) h = omega arith
words x pc small (Blt rs1 rs2 imm) h = omega arith
words x pc small (Bge rs1 rs2 imm) h = omega arith
words x pc small (Bltu rs1 rs2 imm) h = omega arith
words x pc small (Bgeu rs1 rs2 imm) h = omega arith
words x pc small (Lb rd rs1 imm) h = tt
words x pc small (Lh rd rs1 imm) h = tt
words x pc small (Lw rd rs1 imm) h = tt
words x pc small (Lbu rd rs1 imm) h = tt
words x pc small (Lhu rd rs1 imm) h = tt
words x pc small (Sb rs1 rs2 imm) h = tt
words x pc small (Sh rs1 rs2 imm) h = tt
words x pc small (Sw rs1 rs2 imm) h = tt
words x pc small (Addi rd rs1 imm) h = omega arith
words x pc small (Slti rd rs1 imm) h = one_word _
words x pc small (Sltiu rd rs1 imm) h = one_word _
words x pc small (Xori rd rs1 imm) h = xor_lt 32 (x rs1) imm (small rs1) (signed_word 12 imm (omega arith) h.2)
words x pc small (Ori rd rs1 imm) h = or_lt 32 (x rs1) imm (small rs1) (signed_word 12 imm (omega arith) h.2)
words x pc small (Andi rd rs1 imm) h = and_lt 32 (x rs1) imm (small rs1) (signed_word 12 imm (omega arith) h.2)
words x pc small (Slli rd rs1 imm) h = omega arith
words x pc small (Srli rd rs1 imm) h = omega (arith, div-le_self (x rs1) (2 ^ imm), small rs1)
words x pc small (Srai rd rs1 imm) h = shifted_word (x rs1) imm (small rs1)
words x pc small (Add rd rs1 rs2) h = omega arith
words x pc small (Sub rd rs1 rs2) h = omega arith
words x pc small (Sll rd rs1 rs2) h = omega arith
words x pc small (Slt rd rs1 rs2) h = one_word _
words x pc small (Sltu rd rs1 rs2) h = one_word _
words x pc small (Xor rd rs1 rs2) h = xor_lt 32 (x rs1) (x rs2) (small rs1) (small rs2)
words x pc small (Srl rd rs1 rs2) h = omega (arith, div-le_self (x rs1) (2 ^ (x rs2 % 32)), small rs1)
words x pc small (Sra rd rs1 rs2) h = shifted_word (x rs1) (x rs2 % 32) (small rs1)
words x pc small (Or rd rs1 rs2) h = or_lt 32 (x rs1) (x rs2) (small rs1) (small rs2)
words x pc small (And rd rs1 rs2) h = and_lt 32 (x rs1) (x rs2) (small rs1) (small rs2)
words x pc small (Mul rd rs1 rs2) h = omega arith
words x pc small (Mulh rd rs1 rs2) h = as_word_small _
words x pc small (Mulhsu rd rs1 rs2) h = as_word_small _
words x pc small (Mulhu rd rs1 rs2) h = high_unsigned_small (x rs1) (x rs2)
words x pc small (Div rd rs1 rs2) h = one_of_two (x rs2 == 0) _ _ (omega arith) (as_word_small _)
words x pc small (Divu rd rs1 rs2) h = one_of_two (x rs2 == 0) _ _ (omega arith) (omega (arith, div-le_self (x rs1) (x rs2), small rs1))
words x pc small (Rem rd rs1 rs2) h = one_of_two (x rs2 == 0) _ _ (small rs1) (as_word_small _)
words x pc small (Remu rd rs1 rs2) h = one_of_two (x rs2 == 0) _ _ (small rs1) (omega (arith, mod-le (x rs1) (x rs2), small rs1))
words x pc small (Fence word) h = tt
words x pc small Ecall h = tt
words x pc small Ebreak h = tt

-- registers with a word in one of them
record AreRegisters (xs : List ℕ) : Type 0 where
  count : length xs ≡ 32
  words : All (λ x. x < 2 ^ 32) xs
  zero : slice_index xs 0 ≡ 0

written : (xs : List ℕ) (n v : ℕ) → AreRegisters xs → v < 2 ^ 32 → n ≢ 0 → AreRegisters (slice_set xs n v)
written xs n v h l other = record {
  count = length-set xs n v ∙ h.count;
  words = All-set (λ x. x < 2 ^ 32) xs n v l h.words;
  zero = get_or-set_other xs n 0 v 0 (λ (e : 0 ≡ n). other (sym e)) ∙ h.zero;
}

registers_stay : (xs : List ℕ) (n v : ℕ) → AreRegisters xs → v < 2 ^ 32 → AreRegisters (with_register xs n v)
registers_stay xs n v h l =
    elim (eqb_tells n 0) [
      | inl same ↦ subst AreRegisters (sym (ap (λ b. cond b xs (slice_set xs n v)) same.0)) h
      | inr other ↦ subst AreRegisters (sym (ap (λ b. cond b xs (slice_set xs n v)) other.0)) (written xs n v h l other.1)
    ]

registers_after : (s : MachineState) (n v : ℕ) → IsMachineState s → v < 2 ^ 32 → AreRegisters (with_register s.registers n v)
registers_after s n v h l = registers_stay s.registers n v (record { count = h.registers; words = h.words; zero = h.zero }) l

-- what an effect makes of a state
traps : (s : MachineState) (cause : ℕ) → IsStatus (Trapped cause) → IsMachineState s → IsMachineState (trapped s cause)
traps s cause below h = record { pc = h.pc; aligned = h.aligned; registers = h.registers; words = h.words; zero = h.zero; status = below; item = h.item; offset = h.offset; written = h.written; memory = h.memory }

goes_on : (s : MachineState) → IsMachineState s → IsMachineState (gone_on s)
goes_on s h = record { pc = omega arith; aligned = omega (arith, h.aligned); registers = h.registers; words = h.words; zero = h.zero; status = h.status; item = h.item; offset = h.offset; written = h.written; memory = h.memory }

puts : (s : MachineState) (n value : ℕ) → value < 2 ^ 32 → IsMachineState s → IsMachineState (put s n value)
puts s n value small h =
    let are = registers_after s n value h small in
    record { pc = omega arith; aligned = omega (arith, h.aligned); registers = are.count; words = are.words; zero = are.zero; status = h.status; item = h.item; offset = h.offset; written = h.written; memory = h.memory }

jumps_by : (s : MachineState) (rd target : ℕ) (b : Bool) → (target % 4 == 0) ≡ b → target < 2 ^ 32 → IsMachineState s → IsMachineState (cond b (record s { pc = target; registers = with_register s.registers rd (wrapped (s.pc + 4)) }) (trapped s 0))
jumps_by s rd target true e small h =
    let are = registers_after s rd (wrapped (s.pc + 4)) h (omega arith) in
    record { pc = small; aligned = eqb-true (target % 4) 0 e; registers = are.count; words = are.words; zero = are.zero; status = h.status; item = h.item; offset = h.offset; written = h.written; memory = h.memory }
jumps_by s rd target false e small h = traps s 0 refl h

jumps : (s : MachineState) (rd target : ℕ) → target < 2 ^ 32 → IsMachineState s → IsMachineState (jumped s rd target)
jumps s rd target small h = jumps_by s rd target (target % 4 == 0) refl small h

branches : (s : MachineState) (taken : Bool) (target : ℕ) → target < 2 ^ 32 → IsMachineState s → IsMachineState (cond taken (jumped s 0 target) (gone_on s))
branches s true target small h = jumps s 0 target small h
branches s false target small h = goes_on s h

-- a number from memory with its sign or without it is a word
extended_word : (bits n : ℕ) → 0 < bits → 2 ^ bits ≤ 2 ^ 32 → n < 2 ^ bits → sign_extended bits n < 2 ^ 32
extended_word bits n some small h = elim (sign_cases bits n) [ inl p ↦ omega (arith, p.0, p.1, h, small) | inr p ↦ omega (arith, p.0, p.1, h, small) ]

extended : (width : Width) (n : ℕ) → n < 2 ^ (8 * bytes_of width) → (sign_extended (8 * bytes_of width) n < 2 ^ 32) × (n < 2 ^ 32)
extended Byte n h = (extended_word 8 n (omega arith) (omega arith) h, omega arith)
extended Half n h = (extended_word 16 n (omega arith) (omega arith) h, omega arith)
extended Word n h = (extended_word 32 n (omega arith) (omega arith) h, omega arith)

loads : (s : MachineState) (rd : ℕ) (width : Width) (with_sign : Bool) (o : Option ℕ) → IfSome o (λ n. n < 2 ^ (8 * bytes_of width)) → IsMachineState s → IsMachineState (loaded s rd width with_sign o)
loads s rd width with_sign None small h = traps s 5 refl h
loads s rd width with_sign (Some n) small h =
    let p = extended width n small in
    puts s rd _ (one_of_two with_sign (sign_extended (8 * bytes_of width) n) n p.0 p.1) h

stores_by : (s : MachineState) (at : ℕ) (width : Width) (value : ℕ) (b : Bool) → is_some (number_at s.memory at (bytes_of width)) ≡ b → IsMachineState s → IsMachineState (cond b (record s { pc = wrapped (s.pc + 4); memory = with_number s.memory at (bytes_of width) value }) (trapped s 7))
stores_by s at width value true e h =
    record { pc = omega arith; aligned = omega (arith, h.aligned); registers = h.registers; words = h.words; zero = h.zero; status = h.status; item = h.item; offset = h.offset; written = h.written; memory = with_number_memory s.memory at (bytes_of width) value h.memory e }
stores_by s at width value false e h = traps s 7 refl h

-- what a system call does
chosen : (b : Bool) (s t : MachineState) → IsMachineState s → IsMachineState t → IsMachineState (cond b s t)
chosen true s t h g = h
chosen false s t h g = g

moves_by : (s : MachineState) (item : List ℕ) (n : ℕ) (b : Bool) → nat_le (length item) (s.offset + n) ≡ b → s.item < 65536 → IsShort item → IsMachineState s → IsMachineState (cond b (record s { item = s.item + 1; offset = 0 }) (record s { offset = s.offset + n }))
moves_by s item n true e few short h =
    record { pc = h.pc; aligned = h.aligned; registers = h.registers; words = h.words; zero = h.zero; status = h.status; item = omega arith; offset = omega arith; written = h.written; memory = h.memory }
moves_by s item n false e few short h =
    let inside : s.offset + n < length item = leb-false _ _ e in
    record { pc = h.pc; aligned = h.aligned; registers = h.registers; words = h.words; zero = h.zero; status = h.status; item = h.item; offset = omega (arith, inside, short); written = h.written; memory = h.memory }

stored_state : (s : MachineState) (at : ℕ) (bytes : List ℕ) → is_some (bytes_at s.memory at (length bytes)) ≡ true → All (λ b. b < 256) bytes → IsMachineState s → IsMachineState (record s { memory = with_bytes s.memory at bytes })
stored_state s at bytes e small h =
    record { pc = h.pc; aligned = h.aligned; registers = h.registers; words = h.words; zero = h.zero; status = h.status; item = h.item; offset = h.offset; written = h.written; memory = with_bytes_memory s.memory at bytes h.memory (some_mapped s.memory (length bytes) at e) small }

reads_by : (s : MachineState) (item bytes : List ℕ) (b : Bool) → is_some (bytes_at s.memory (argument s 1) (length bytes)) ≡ b → s.item < 65536 → IsShort item → length bytes < 2 ^ 32 → All (λ b. b < 256) bytes → IsMachineState s → IsMachineState (cond b (received s item bytes) (put s 10 not_mapped))
reads_by s item bytes true e few short fits small h =
    let t : MachineState = record s { memory = with_bytes s.memory (argument s 1) bytes } in
    puts (moved t item (length bytes)) 10 (length bytes) fits (moves_by t item (length bytes) _ refl few short (stored_state s (argument s 1) bytes e small h))
reads_by s item bytes false e few short fits small h = puts s 10 not_mapped (omega arith) h

-- an item of recorded input
recorded_item : (journal : List (List ℕ)) (index : ℕ) (item : List ℕ) → IsRecorded journal → slice_get journal index ≡ Some item → (index < 65536) × IsShort item × All (λ b. b < 256) item
recorded_item journal index item h e =
    elim (slice_get_cases journal index).1 [
      | inl w ↦
          let inside : index < length journal = w.1 in
          let is : get_or journal index [] ≡ item = get_or_from_slice_get journal index item [] e in
          (omega (arith, h.few), subst IsShort is (h.short index [] inside), subst (λ (xs : List ℕ). All (λ b. b < 256) xs) is (h.bytes index [] inside))
      | inr w ↦ absurd (let none : slice_get journal index ≡ None = w.1 in cc)
    ]

reads : (s : MachineState) (journal : List (List ℕ)) (o : Option (List ℕ)) → slice_get journal s.item ≡ o → IsRecorded journal → IsMachineState s → IsMachineState (read_from s o)
reads s journal None e recorded h = puts s 10 0 (omega arith) h
reads s journal (Some item) e recorded h =
    let parts = recorded_item journal s.item item recorded e in
    let limit : argument s 2 < 2 ^ 32 = word s.registers 12 h.words in
    reads_by s item (bytes_read s item) _ refl parts.0 parts.1 (omega (arith, length-take (argument s 2) (drop s.offset item), limit))
    (All-take (λ b. b < 256) (argument s 2) (drop s.offset item) (All-drop (λ b. b < 256) s.offset item parts.2)) h

sends : (s : MachineState) → IsMachineState s → IsMachineState (sent s)
sends s h =
    let count : argument s 2 < 2 ^ 32 = word s.registers 12 h.words in
    let t : MachineState = record s { written = (s.written + argument s 2) % 2 ^ 64 } in
    let is : IsMachineState t = record { pc = h.pc; aligned = h.aligned; registers = h.registers; words = h.words; zero = h.zero; status = h.status; item = h.item; offset = h.offset; written = omega arith; memory = h.memory } in
    chosen (is_some (bytes_at s.memory (argument s 1) (argument s 2))) (put t 10 (argument s 2)) (put s 10 not_mapped) (puts t 10 (argument s 2) count is) (puts s 10 not_mapped (omega arith) h)

exits : (s : MachineState) → IsMachineState s → IsMachineState (exited s)
exits s h =
    record { pc = h.pc; aligned = h.aligned; registers = h.registers; words = h.words; zero = h.zero; status = omega arith; item = h.item; offset = h.offset; written = h.written; memory = h.memory }

calls : (s : MachineState) (journal : List (List ℕ)) → IsRecorded journal → IsMachineState s → IsMachineState (called s journal)
calls s journal recorded h =
    chosen (argument s 7 == 63) _ _ (reads s journal (slice_get journal s.item) refl recorded h)
    (chosen (argument s 7 == 64) _ _ (sends s h)
    (chosen (argument s 7 == 93 || argument s 7 == 94) _ _ (exits s h) (puts s 10 no_such_call (omega arith) h)))

applies : (s : MachineState) (journal : List (List ℕ)) (effect : Effect) → HasWords effect → IsRecorded journal → IsMachineState s → IsMachineState (applied s journal effect)
applies s journal (Put rd value) small recorded h = puts s rd value small h
applies s journal (Jump rd target) small recorded h = jumps s rd target small h
applies s journal (Branch taken target) small recorded h = branches s taken target small h
applies s journal (Load rd at width with_sign) small recorded h = loads s rd width with_sign _ (number_below s.memory h.memory at (bytes_of width)) h
applies s journal (Store at width value) small recorded h = stores_by s at width value _ refl h
applies s journal Nothing small recorded h = goes_on s h
applies s journal Call small recorded h = calls s journal recorded h
applies s journal Break small recorded h = traps s 3 refl h

says : (s : MachineState) (journal : List (List ℕ)) (o : Option Inst) → IfSome o HasRanges → IsRecorded journal → IsMachineState s → IsMachineState (said s journal o)
says s journal None ranges recorded h = traps s 2 refl h
says s journal (Some inst) ranges recorded h = applies s journal (effect_in s inst) (words (λ n. slice_index s.registers n) s.pc (λ n. word s.registers n h.words) inst ranges) recorded h

executes : (s : MachineState) (journal : List (List ℕ)) (w : Option ℕ) → IfSome w (λ v. v < 2 ^ 32) → IsRecorded journal → IsMachineState s → IsMachineState (executed s journal w)
executes s journal None small recorded h = traps s 1 refl h
executes s journal (Some w) small recorded h = says s journal (decoded w) (decoded_ranges w small) recorded h

pub next_is_state : (s : MachineState) (journal : List (List ℕ)) → IsRecorded journal → IsMachineState s → IsMachineState (next s journal)
next_is_state s journal recorded h = chosen (is_running s.status) _ s (executes s journal (word_at s.memory s.pc) (word_below s.memory h.memory s.pc) recorded h) h

pub number_is_state : (s : MachineState) (journal : List (List ℕ)) (n : ℕ) → IsMachineState s → IsRecorded journal → IsMachineState (state_number s journal n)
number_is_state s journal zero h recorded = h
number_is_state s journal (suc n) h recorded = next_is_state (state_number s journal n) journal recorded (number_is_state s journal n h recorded)
