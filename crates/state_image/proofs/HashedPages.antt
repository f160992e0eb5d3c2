-- The pages that go into a hash, one more at a time.
use Rattle.std.proofs.Common.{◌≡◌, ℕ, zero, suc, ◌+◌, ◌-◌, ◌<◌, ◌≤◌, ◌==◌, not, refl, arith, Bool, true, false, cond, List, [], ◌∷◌, ◌++◌, length, get_or, replicate, take, filter, ap, sym, ◌∙◌}
use Rattle.std.proofs.lemmas.List.{append_assoc, append-nil, flat_map_more}
use Rattle.std.proofs.lemmas.List.Elements.{filter_more}
use Rattle.std.proofs.lemmas.Bool.{eq-eqb, and_from}
use Rattle.std.specs.List.{All, flat_map, list_all}
use Rattle.rv_pages.specs.Memory.{Memory, page_numbers, page_bytes, IsZeroPage}
use Rattle.state_image.specs.Image.{is_stored}

-- the next page is stored: its number goes in, and then its bytes
pub one_more : (number_field bytes_field : ℕ → List ℕ) (p : ℕ → Bool) (ns : List ℕ) (i : ℕ) (held : List ℕ) → i < length ns → p (get_or ns i 0) ≡ true →
    let field = λ (n : ℕ). number_field n ++ bytes_field n in
    held ++ flat_map field (filter p (take i ns)) ++ number_field (get_or ns i 0) ++ bytes_field (get_or ns i 0) ≡ held ++ flat_map field (filter p (take (i + 1) ns))
one_more f g p ns i held below is =
    let n = get_or ns i 0 in
    append_assoc (held ++ flat_map (λ n. f n ++ g n) (filter p (take i ns))) (f n) (g n)
    ∙ flat_map_more (λ n. f n ++ g n) held (filter p (take i ns)) n
    ∙ ap (λ xs. held ++ flat_map (λ n. f n ++ g n) xs) (sym (filter_more p ns i 0 below ∙ ap (λ b. filter p (take i ns) ++ cond b (n ∷ []) []) is))

-- the next page is left out
pub left_out : (p : ℕ → Bool) (ns : List ℕ) (i : ℕ) → i < length ns → p (get_or ns i 0) ≡ false → filter p (take i ns) ≡ filter p (take (i + 1) ns)
left_out p ns i below is = sym (filter_more p ns i 0 below ∙ ap (λ b. filter p (take i ns) ++ cond b (get_or ns i 0 ∷ []) []) is ∙ append-nil (filter p (take i ns)))

-- pages that are all zero are left out
no_byte : (xs : List ℕ) → All (λ b. b ≡ 0) xs → list_all (λ b. b == 0) xs ≡ true
no_byte [] h = refl
no_byte (x ∷ xs) h = and_from (x == 0) (list_all (λ b. b == 0) xs) (eq-eqb x 0 (h 0 0 (omega arith))) (no_byte xs (λ k d l. h (suc k) d (omega arith)))

pub zero_not_stored : (m : Memory) (page : ℕ) → IsZeroPage m page → is_stored m page ≡ false
zero_not_stored m page h = ap not (no_byte (page_bytes m page) h)

pub none_between : (p : ℕ → Bool) (ns : List ℕ) (from gap to : ℕ) → to ≡ from + gap → to ≤ length ns → ((k : ℕ) → from ≤ k → k < to → p (get_or ns k 0) ≡ false) → filter p (take from ns) ≡ filter p (take to ns)
none_between p ns from zero to e inside none = let same : from ≡ to = omega arith in ap (λ k. filter p (take k ns)) same
none_between p ns from (suc gap) to e inside none =
    let last : from + gap + 1 ≡ to = omega arith in
    none_between p ns from gap (from + gap) refl (omega arith) (λ k a b. none k a (omega arith))
    ∙ left_out p ns (from + gap) (omega arith) (none (from + gap) (omega arith) (omega arith))
    ∙ ap (λ k. filter p (take k ns)) last

-- the pages from an index on are left out, up to one that may be stored, or all
pub skipped : (m : Memory) (from to : ℕ) → from ≤ to → to ≤ length (page_numbers m) → ((k : ℕ) → from ≤ k → k < to → IsZeroPage m (get_or (page_numbers m) k 0)) → filter (is_stored m) (take from (page_numbers m)) ≡ filter (is_stored m) (take to (page_numbers m))
skipped m from to order inside are = none_between (is_stored m) (page_numbers m) from (to - from) to (omega arith) inside (λ k a b. zero_not_stored m (get_or (page_numbers m) k 0) (are k a b))

-- no mark is set at first
pub no_marks : (size k : ℕ) → get_or (replicate size false) k false ≡ false
no_marks zero k = refl
no_marks (suc size) zero = refl
no_marks (suc size) (suc k) = no_marks size k
