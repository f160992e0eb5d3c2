-- Pieces of a row, one after the other, and the splits of a row, some at a time.
use Rattle.std.proofs.Common.{◌≡◌, ℕ, zero, suc, ◌+◌, ◌-◌, ◌*◌, ◌/◌, ◌<◌, ◌≤◌, ◌^◌, min, List, [], ◌∷◌, ◌++◌, length, get_or, refl, sym, ap, ◌∙◌, map, subst, arith, inl, inr, length-append, Vec, Global}
use Rattle.std.proofs.Math.Nat.{div-mul-le_self, mul-div_cancel_left, mul-le-mul}
use Rattle.std.proofs.lemmas.Nat.{le-div}
use Rattle.std.proofs.Math.ListN.{get_or-append}
use Rattle.std.proofs.Math.Seq.{get_or-append_right}
use Rattle.std.proofs.lemmas.List.{length-map, get_or-map}
use Rattle.std.proofs.lemmas.List.Elements.{All-append}
use Rattle.std.proofs.lemmas.Bool.{cases_lt}
use Rattle.cost_tables.specs.declared.rows.Row.{Row}
use Rattle.cost_tables.specs.Entries.{never_in_memory, fresh_in, held_in, least_split, least_after}
use Rattle.cost_tables.specs.Rows.{partial_in, row_in, IsPiece, AreStarted}
use Rattle.cost_tables.proofs.Splits.{split_never}
use Rattle.cost_tables.proofs.RowExtension.{fresh_before, held_before, low_in}

pub pieces_joined : (cost : ℕ → ℕ) (a b c : ℕ) (xs ys zs : List ℕ) → IsPiece cost a b xs → IsPiece cost b c ys → a ≤ b → b ≤ c → zs ≡ xs ++ ys → IsPiece cost a c zs
pieces_joined cost a b c xs ys zs first second ab bc e =
    let P : List ℕ → Type 0 = λ zs. IsPiece cost a c zs in
    subst P (sym e) (record {
      wide = length-append xs ys ∙ omega (arith, first.wide, second.wide);
      small = All-append (λ n. n ≤ 2 ^ 61) xs ys first.small second.small;
      value = λ i lt. elim (cases_lt i (length xs)) [
        | inl h ↦ get_or-append xs ys 0 i h ∙ first.value i (omega (arith, first.wide))
        | inr h ↦
            let same : b + (i - length xs) ≡ a + i = omega (arith, first.wide) in
            get_or-append_right xs ys i 0 h ∙ second.value (i - length xs) (omega (arith, first.wide)) ∙ ap cost same
      ];
    })

pub piece_more : (cost : ℕ → ℕ) (low m x : ℕ) (xs zs : List ℕ) → IsPiece cost low m xs → low ≤ m → x ≡ cost m → x ≤ 2 ^ 61 → zs ≡ xs ++ x ∷ [] → IsPiece cost low (m + 1) zs
piece_more cost low m x xs zs is le e few more =
    pieces_joined cost low m (m + 1) xs (x ∷ []) zs is (record { wide = one m; small = small; value = λ i lt. value i (omega arith) }) le (omega arith) more
  where
    one : (m : ℕ) → 1 ≡ m + 1 - m
    one m = omega arith

    small : (k d : ℕ) → k < 1 → get_or (x ∷ []) k d ≤ 2 ^ 61
    small zero d h = few
    small (suc k) d h = absurd (omega arith)

    value : (i : ℕ) → i < 1 → get_or (x ∷ []) i 0 ≡ cost (m + i)
    value zero h = let same : m ≡ m + 0 = omega arith in e ∙ ap cost same
    value (suc i) h = absurd (omega arith)

-- the same numbers stand for what costs the same
pub piece_same : (cost other : ℕ → ℕ) (low high : ℕ) (xs : List ℕ) → ((m : ℕ) → cost m ≡ other m) → IsPiece cost low high xs → IsPiece other low high xs
piece_same cost other low high xs e is = record { wide = is.wide; small = is.small; value = λ i lt. is.value i lt ∙ e (low + i) }

pub cut_next : (room pieces i : ℕ) → 1 ≤ pieces → i * room / pieces ≤ (i + 1) * room / pieces
cut_next room pieces i some =
    let whole = div-mul-le_self (i * room) pieces in
    let more : i * room ≤ (i + 1) * room = mul-le-mul {n₁ = i} {m₁ = room} {n₂ = i + 1} {m₂ = room} (omega arith) (omega arith) in
    le-div (i * room / pieces) ((i + 1) * room) pieces some (omega arith)

pub cut_end : (room pieces i : ℕ) → 1 ≤ pieces → i ≡ pieces → i * room / pieces ≡ room
cut_end room pieces i some e = ap (λ n. n * room / pieces) e ∙ mul-div_cancel_left room some

-- ---- some of the splits

pub after_never : (forward : ℕ) (fresh held : ℕ → ℕ) (r low n : ℕ) → least_after forward fresh held r low n ≤ never_in_memory
after_never forward fresh held r low zero = omega arith
after_never forward fresh held r low (suc n) = let rest = after_never forward fresh held r low n in omega arith

-- one split more
pub after_more : (forward : ℕ) (fresh held : ℕ → ℕ) (r low i : ℕ) → low ≤ i →
    least_after forward fresh held r low (i + 1 - low) ≡ min (least_after forward fresh held r low (i - low)) ((i + 1) * forward + fresh (r - (i + 1)) + held i)
after_more forward fresh held r low i le =
    let e : i + 1 - low ≡ suc (i - low) = omega arith in
    let same : low + (i - low) ≡ i = omega arith in
    ap (λ n. least_after forward fresh held r low n) e
    ∙ ap (λ k. min (least_after forward fresh held r low (i - low)) ((k + 1) * forward + fresh (r - (k + 1)) + held k)) same

-- the splits before one, and n from it on
after_join : (forward : ℕ) (fresh held : ℕ → ℕ) (r low n : ℕ) → least_split forward fresh held r (low + n) ≡ min (least_split forward fresh held r low) (least_after forward fresh held r low n)
after_join forward fresh held r low zero =
    let e : low + 0 ≡ low = omega arith in
    let le = split_never forward fresh held r low in
    ap (λ n. least_split forward fresh held r n) e ∙ omega arith
after_join forward fresh held r low (suc n) =
    let e : low + suc n ≡ suc (low + n) = omega arith in
    let rest = after_join forward fresh held r low n in
    ap (λ n. least_split forward fresh held r n) e ∙ omega arith

-- all splits, in three parts
pub three_parts : (forward : ℕ) (fresh held : ℕ → ℕ) (r a b x y z : ℕ) → a ≤ b → b ≤ r → x ≡ least_after forward fresh held r 0 a → y ≡ least_after forward fresh held r a (b - a) → z ≡ least_after forward fresh held r b (r - b) →
    min (min x y) z ≡ least_split forward fresh held r r
three_parts forward fresh held r a b x y z ab br ex ey ez =
    let first = after_join forward fresh held r 0 a in
    let le = after_never forward fresh held r 0 a in
    let second = after_join forward fresh held r a (b - a) in
    let third = after_join forward fresh held r b (r - b) in
    let one : least_split forward fresh held r a ≡ least_split forward fresh held r (0 + a) = ap (λ n. least_split forward fresh held r n) (omega arith) in
    let two : least_split forward fresh held r b ≡ least_split forward fresh held r (a + (b - a)) = ap (λ n. least_split forward fresh held r n) (omega arith) in
    let three : least_split forward fresh held r r ≡ least_split forward fresh held r (b + (r - b)) = ap (λ n. least_split forward fresh held r n) (omega arith) in
    omega arith

-- splits that read the same numbers
after_same : (forward : ℕ) (f f' h h' : ℕ → ℕ) (r low n : ℕ) → ((i : ℕ) → low ≤ i → i < low + n → (f (r - (i + 1)) ≡ f' (r - (i + 1))) × (h i ≡ h' i)) →
    least_after forward f h r low n ≡ least_after forward f' h' r low n
after_same forward f f' h h' r low zero e = refl
after_same forward f f' h h' r low (suc n) e =
    let rest = after_same forward f f' h h' r low n (λ i le lt. e i le (omega arith)) in
    let one = e (low + n) (omega arith) (omega arith) in
    λ t. min (rest t) ((low + n + 1) * forward + one.0 t + one.1 t)

-- what stands on the first rows alone stays as it is
pub partial_same : (rows more : List Row) (forward r m : ℕ) → length rows ≤ r → partial_in rows forward (length rows) r m ≡ partial_in (rows ++ more) forward (length rows) r m
partial_same rows more forward r m le =
    let n = length rows in
    after_same forward (λ q. fresh_in rows q m) (λ q. fresh_in (rows ++ more) q m) (λ q. held_in rows q m) (λ q. held_in (rows ++ more) q m) r (r - n) (n - (r - n))
    (λ i low high. (sym (fresh_before rows more (r - (i + 1)) m (omega arith)), sym (held_before rows more i m (omega arith))))

-- what a piece has of one row
some_slot : (i : ℕ) (pieces : List (Vec ℕ Global)) → i < length pieces → Vec ℕ Global × Unit {0}
some_slot i [] h = absurd (omega arith)
some_slot i (slot ∷ pieces) h = (slot, tt)

pub piece_of_row : (rows : List Row) (forward count low high q : ℕ) (pieces : List (Vec ℕ Global)) → AreStarted rows forward count low high pieces → q < count →
    IsPiece (partial_in rows forward (length rows) (length rows + q)) low high (row_in q pieces)
piece_of_row rows forward count low high q pieces are lt =
    let of : Vec ℕ Global → ℕ = λ slot. get_or slot.items q 0 in
    let long : length (map of pieces) ≡ high - low = length-map pieces of ∙ are.wide in
    record {
      wide = long;
      small = λ i d h.
          let own = (some_slot i pieces (omega (arith, are.wide))).0 in
          let e : get_or (map of pieces) i d ≡ of (get_or pieces i own) = get_or-map of pieces i own d (omega (arith, are.wide)) in
          let low = low_in (2 ^ 61) (get_or pieces i own).items q (are.each i own (omega arith)).low in
          omega arith;
      value = λ i h.
          let own = (some_slot i pieces (omega (arith, are.wide))).0 in
          get_or-map of pieces i own 0 (omega (arith, are.wide)) ∙ (are.each i own h).value q lt;
    }
