-- The program of a demonstration, as it is made: one instruction after the other, with those that are still to be drawn.
use Rattle.std.proofs.Common.{◌≡◌, ℕ, suc, ◌+◌, ◌-◌, ◌*◌, ◌<◌, List, [], ◌∷◌, ◌++◌, length, take, append-nil, append_assoc, sym, ◌∙◌, ap, arith}
use Rattle.std.specs.Prelude.{replicate}
use Rattle.std.specs.List.{flat_map}
use Rattle.std.specs.Int.{w32, to_le_bytes}
use Rattle.std.proofs.lemmas.Grind.{flat_map-append}
use Rattle.std.proofs.lemmas.List.{length-append, take_all}
use Rattle.rv_decode.specs.declared.instruction.Inst.{Inst}
use Rattle.rv_decode.specs.declared.instruction.Inst.TheVariants.{Lui, Jal}
use Rattle.rv_decode.specs.Words.{word_of}
use Rattle.reversal.specs.Demo.{drawn, instruction_of, drawn_from}

-- the bytes of an instruction, and of some
abbrev pub bytes_of : Inst → List ℕ
bytes_of i = to_le_bytes w32 (word_of i)

abbrev pub all_bytes : List Inst → List ℕ
all_bytes is = flat_map bytes_of is

-- The bytes are those of the first instruction and of so many draws behind a number; what is still to be drawn of `count`
-- is drawn behind v.
pub record HasDrawn (count done number v : ℕ) (bytes : List ℕ) : Type 0 where
  pub so_far : bytes ++ all_bytes (drawn_from (count - done) v) ≡ all_bytes (Lui 5 0x11000 ∷ drawn_from count number)
  pub size : length bytes ≡ 4 + 4 * done

pub first_drawn : (count number : ℕ) (bytes : List ℕ) → bytes ≡ [] ++ bytes_of (Lui 5 0x11000) → HasDrawn count 0 number number bytes
first_drawn count number bytes e =
    let all : count - 0 ≡ count = omega arith in
    record {
      so_far = ap (λ n. bytes ++ all_bytes (drawn_from n number)) all ∙ ap (λ l. l ++ all_bytes (drawn_from count number)) e;
      size = ap length e;
    }

pub next_drawn : (count done number v next : ℕ) (inst : Inst) (bytes more : List ℕ) → done < count → HasDrawn count done number v bytes → next ≡ drawn v → inst ≡ instruction_of next →
    more ≡ bytes ++ bytes_of inst → HasDrawn count (done + 1) number next more
next_drawn count done number v next inst bytes more within h is_next is_inst e =
    let left : count - done ≡ suc (count - (done + 1)) = omega (arith, within) in
    let here = bytes_of inst in
    let there = bytes_of (instruction_of (drawn v)) in
    let same : here ≡ there = ap bytes_of (is_inst ∙ ap instruction_of is_next) in
    let rest : ℕ → List ℕ = λ n. all_bytes (drawn_from (count - (done + 1)) n) in
    record {
      so_far =
          (λ i. e i ++ rest (is_next i)) ∙ append_assoc bytes here (rest (drawn v)) ∙ ap (λ l. bytes ++ (l ++ rest (drawn v))) same
          ∙ ap (λ n. bytes ++ all_bytes (drawn_from n v)) (sym left) ∙ h.so_far;
      size = let l = length-append bytes here in omega (arith, ap length e, l, h.size);
    }

-- the last instruction was added, and as many zeros as there is room for
pub last_drawn : (count done number v : ℕ) (bytes more all : List ℕ) (zeros size len : ℕ) → done ≡ count → HasDrawn count done number v bytes → more ≡ bytes ++ bytes_of (Jal 0 0xffffff08) →
    size ≡ 8 + 4 * count + zeros → len ≡ length more → all ≡ take size more ++ replicate (size - len) 0 → all ≡ all_bytes (Lui 5 0x11000 ∷ (drawn_from count number ++ Jal 0 0xffffff08 ∷ [])) ++ replicate zeros 0
last_drawn count done number v bytes more all zeros size len end h e s counted f =
    let none : count - done ≡ 0 = omega (arith, end) in
    let jump = bytes_of (Jal 0 0xffffff08) in
    let l = length-append bytes jump in
    let left : size - len ≡ zeros = omega (arith, ap length e, l, h.size, s, counted, end) in
    let whole : bytes ≡ all_bytes (Lui 5 0x11000 ∷ drawn_from count number) = sym (append-nil bytes) ∙ ap (λ n. bytes ++ all_bytes (drawn_from n v)) (sym none) ∙ h.so_far in
    f ∙ (λ i. take_all size more (omega (arith, ap length e, l, h.size, s, end)) i ++ replicate (left i) 0)
    ∙ ap (λ l. l ++ replicate zeros 0) (e ∙ ap (λ l. l ++ jump) whole ∙ sym (flat_map-append bytes_of (Lui 5 0x11000 ∷ drawn_from count number) (Jal 0 0xffffff08 ∷ [])))
