-- A run counts the bytes that it writes to the output.
use Rattle.std.proofs.Common.{◌≡◌, ℕ, zero, suc, ◌+◌, ◌%◌, ◌^◌, ◌<◌, ◌==◌, ◌||◌, inl, inr, Bool, true, false, cond, nat_le, List, [], ◌++◌, length, refl, sym, ap, subst, arith, length-append, slice_get, Option, Some, None, IfSome, is_some}
use Rattle.std.proofs.lemmas.Bool.Decides.{eqb_tells}
use Rattle.std.specs.Prelude.{unwrap_or}
use Rattle.std.specs.Option.{option_and_then}
use Rattle.rv_pages.specs.Memory.{Memory, wrapped, byte_at, bytes_at, followed_by, number_at, word_at, with_bytes, with_number}
use Rattle.rv_decode.specs.declared.instruction.Inst.{Inst}
use Rattle.rv_decode.specs.Rows.{decoded}
use Rattle.rv_machine.specs.declared.effect.Effect.{Effect}
use Rattle.rv_machine.specs.declared.effect.Effect.TheVariants.{Put, Jump, Branch, Load, Store, Nothing, Call, Break}
use Rattle.rv_machine.specs.declared.effect.Width.{Width}
use Rattle.rv_machine.specs.Effects.{bytes_of}
use Rattle.rv_machine.specs.MachineState.{MachineState}
use Rattle.rv_machine.specs.StateChanges.{with_register, trapped, gone_on, put}
use Rattle.rv_machine.specs.SystemCalls.{argument, not_mapped, no_such_call, are_mapped, bytes_read, received, read_from, sent, exited, called}
use Rattle.rv_machine.specs.StepTable.{jumped, loaded, applied, effect_in, effect_at_pc, said, executed, is_running, next}
use Rattle.rv_machine.specs.States.{state_number}
use Rattle.rv_machine.specs.Output.{output_of_call, output_by, output, outputs}

-- a count is another one and so many bytes, modulo 2 ^ 64
abbrev Counts : ℕ → ℕ → List ℕ → Type 0
Counts old new bytes = old < 2 ^ 64 → new ≡ (old + length bytes) % 2 ^ 64

stays : (n : ℕ) → Counts n n []
stays n small = omega arith

either : (b : Bool) (n : ℕ) (t u : MachineState) (bytes : List ℕ) → Counts n t.written bytes → Counts n u.written bytes → Counts n (cond b t u).written bytes
either true n t u bytes p q = p
either false n t u bytes p q = q

loads : (s : MachineState) (rd : ℕ) (width : Width) (with_sign : Bool) (o : Option ℕ) → Counts s.written (loaded s rd width with_sign o).written []
loads s rd width with_sign None = stays s.written
loads s rd width with_sign (Some n) = stays s.written

reads : (s : MachineState) (o : Option (List ℕ)) → Counts s.written (read_from s o).written []
reads s None = stays s.written
reads s (Some item) =
    let bytes : List ℕ = bytes_read s item in
    let t : MachineState = record s { memory = with_bytes s.memory (argument s 1) bytes } in
    let n : ℕ = length bytes in
    either (are_mapped s.memory (argument s 1) n) s.written (received s item bytes) (put s 10 not_mapped) []
    (either (nat_le (length item) (t.offset + n)) s.written (record t { item = t.item + 1; offset = 0 }) (record t { offset = t.offset + n }) [] (stays s.written) (stays s.written))
    (stays s.written)

-- there are as many bytes as are asked for
followed : (o : Option ℕ) (p : Option (List ℕ)) (n : ℕ) → IfSome p (λ bs. length bs ≡ n) → IfSome (followed_by o p) (λ bs. length bs ≡ suc n)
followed None p n h = tt
followed (Some b) None n h = tt
followed (Some b) (Some bs) n h = ap suc h

length-bytes_at : (m : Memory) (n at : ℕ) → IfSome (bytes_at m at n) (λ bs. length bs ≡ n)
length-bytes_at m zero at = refl
length-bytes_at m (suc n) at = followed (byte_at m at) (bytes_at m (at + 1) n) n (length-bytes_at m n (at + 1))

sends : (s : MachineState) (o : Option (List ℕ)) → IfSome o (λ bs. length bs ≡ argument s 2) →
    Counts s.written (cond (is_some o) (put (record s { written = (s.written + argument s 2) % 2 ^ 64 }) 10 (argument s 2)) (put s 10 not_mapped)).written (unwrap_or o [])
sends s None h = stays s.written
sends s (Some bytes) h = λ small. ap (λ k. (s.written + k) % 2 ^ 64) (sym h)

-- of the calls only 64 writes
sends_or_not : (is other : Bool) (n : ℕ) (t u v : MachineState) (bytes : List ℕ) → Counts n t.written bytes → Counts n u.written [] → Counts n v.written [] →
    Counts n (cond is t (cond other u v)).written (cond is bytes [])
sends_or_not true other n t u v bytes p q r = p
sends_or_not false other n t u v bytes p q r = either other n u v [] q r

by_number : (call n : ℕ) (s t u v : MachineState) (bytes : List ℕ) → Counts n s.written [] → Counts n t.written bytes → Counts n u.written [] → Counts n v.written [] →
    Counts n (cond (call == 63) s (cond (call == 64) t (cond (call == 93 || call == 94) u v))).written (cond (call == 64) bytes [])
by_number call n s t u v bytes o p q r =
    elim (eqb_tells call 63) [
      | inl is ↦ subst (λ k. Counts n (cond (k == 63) s (cond (k == 64) t (cond (k == 93 || k == 94) u v))).written (cond (k == 64) bytes [])) (sym is.1) o
      | inr other ↦ subst (λ b. Counts n (cond b s (cond (call == 64) t (cond (call == 93 || call == 94) u v))).written (cond (call == 64) bytes [])) (sym other.0)
          (sends_or_not (call == 64) (call == 93 || call == 94) n t u v bytes p q r)
    ]

calls : (s : MachineState) (journal : List (List ℕ)) → Counts s.written (called s journal).written (output_of_call s)
calls s journal =
    by_number (argument s 7) s.written (read_from s (slice_get journal s.item)) (sent s) (exited s) (put s 10 no_such_call) _ (reads s (slice_get journal s.item))
    (sends s (bytes_at s.memory (argument s 1) (argument s 2)) (length-bytes_at s.memory (argument s 2) (argument s 1))) (stays s.written) (stays s.written)

jumps : (s : MachineState) (rd target : ℕ) → Counts s.written (jumped s rd target).written []
jumps s rd target = either (target % 4 == 0) s.written (record s { pc = target; registers = with_register s.registers rd (wrapped (s.pc + 4)) }) (trapped s 0) [] (stays s.written) (stays s.written)

stores : (b : Bool) (s t : MachineState) → t.written ≡ s.written → Counts s.written (cond b t (trapped s 7)).written []
stores true s t e small = omega (arith, e)
stores false s t e small = omega arith

applies : (s : MachineState) (journal : List (List ℕ)) (e : Effect) → Counts s.written (applied s journal e).written (output_by s (Some e))
applies s journal (Put rd value) = stays s.written
applies s journal (Jump rd target) = jumps s rd target
applies s journal (Branch taken target) = either taken s.written (jumped s 0 target) (gone_on s) [] (jumps s 0 target) (stays s.written)
applies s journal (Load rd at width with_sign) = loads s rd width with_sign (number_at s.memory at (bytes_of width))
applies s journal (Store at width value) = stores (is_some (number_at s.memory at (bytes_of width))) s (record s { pc = wrapped (s.pc + 4); memory = with_number s.memory at (bytes_of width) value }) refl
applies s journal Nothing = stays s.written
applies s journal Call = calls s journal
applies s journal Break = stays s.written

says : (s : MachineState) (journal : List (List ℕ)) (o : Option Inst) → Counts s.written (said s journal o).written (output_by s (option_and_then (λ inst. Some (effect_in s inst)) o))
says s journal None = stays s.written
says s journal (Some inst) = applies s journal (effect_in s inst)

executes : (s : MachineState) (journal : List (List ℕ)) (o : Option ℕ) →
    Counts s.written (executed s journal o).written (output_by s (option_and_then (λ w. option_and_then (λ inst. Some (effect_in s inst)) (decoded w)) o))
executes s journal None = stays s.written
executes s journal (Some w) = says s journal (decoded w)

runs : (b : Bool) (s t : MachineState) (o : Option Effect) → Counts s.written t.written (output_by s o) → Counts s.written (cond b t s).written (cond b (output_by s o) [])
runs true s t o h = h
runs false s t o h = stays s.written

step_counts : (s : MachineState) (journal : List (List ℕ)) → Counts s.written (next s journal).written (output s)
step_counts s journal = runs (is_running s.status) s (executed s journal (word_at s.memory s.pc)) (effect_at_pc s) (executes s journal (word_at s.memory s.pc))

pub written_is : (first : MachineState) (journal : List (List ℕ)) (n : ℕ) → first.written < 2 ^ 64 →
    (state_number first journal n).written ≡ (first.written + length (outputs first journal n)) % 2 ^ 64
written_is first journal zero small = omega arith
written_is first journal (suc n) small =
    let before : (state_number first journal n).written ≡ (first.written + length (outputs first journal n)) % 2 ^ 64 = written_is first journal n small in
    let fits : (state_number first journal n).written < 2 ^ 64 = omega (arith, before) in
    let more : (next (state_number first journal n) journal).written ≡ ((state_number first journal n).written + length (output (state_number first journal n))) % 2 ^ 64 = step_counts (state_number first journal n) journal fits in
    let long : length (outputs first journal n ++ output (state_number first journal n)) ≡ length (outputs first journal n) + length (output (state_number first journal n)) = length-append (outputs first journal n) (output (state_number first journal n)) in
    omega (arith, before, more, long)
