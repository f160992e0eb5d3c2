-- Lines of entries: those that fit what is wanted say some entries, and those that say entries fit.
use Rattle.std.proofs.Common.{◌≡◌, ℕ, zero, suc, ◌+◌, ◌-◌, ◌%◌, ◌^◌, ◌<◌, ◌≤◌, Bool, true, false, cond, eqb, List, [], ◌∷◌, ◌++◌, length, map, get_or, refl, sym, ap, subst, ◌∙◌, inl, inr, arith, append_assoc}
use Rattle.std.specs.Prelude.{codes, decimal, replicate}
use Rattle.std.specs.List.{range_with_len, flat_map, AllByRecursion}
use Rattle.std.proofs.lemmas.Bool.{ne_eqb, eq-eqb}
use Rattle.std.proofs.lemmas.List.{append_cancel_left}
use Rattle.std.proofs.lemmas.List.FromFn.{length-map-range_with_len}
use Rattle.std.proofs.lemmas.Fmt.{decimal_by_steps, decimal_injective}
use Rattle.level_book.specs.UnderTable.{Entry, number, never}
use Rattle.line_texts.specs.Tokens.{Token}
use Rattle.cert_text.specs.MarkedLines.{CertificateLine}
use Rattle.cert_text.specs.Words.{words_of, texts_of}
use Rattle.cert_text.specs.WordLines.{entry_word, row_line, row_lines}
use Rattle.cert_text.specs.Meaning.{HasWord}
use Rattle.cert_text.specs.Grammar.{Want, this_word, an_entry, TakesWord, row_wants, rows_wants}
use Rattle.cert_text.specs.Faults.{FitAll}
use Rattle.cert_text.specs.ReaderState.{texts}
use Rattle.cert_text.proofs.LineOutcomes.{FitLines}
use Rattle.cert_text.proofs.Ranges.{map_same, flat_same, mapped_same}

-- ---- an entry

digits_high : (n : ℕ) → n < 2 ^ 64 → AllByRecursion (λ b. 48 ≤ b) (decimal n)
digits_high n small =
    decimal_by_steps (λ n ds. AllByRecursion (λ b. 48 ≤ b) ds)
    (λ n low. (omega arith, tt))
    (λ n ds high front. more ds (48 + n % 10) front (omega arith))
    n small
  where
    more : (ds : List ℕ) (b : ℕ) → AllByRecursion (λ b. 48 ≤ b) ds → 48 ≤ b → AllByRecursion (λ b. 48 ≤ b) (ds ++ b ∷ [])
    more [] b all one = (one, tt)
    more (d ∷ ds) b all one = (all.0, more ds b all.1 one)

-- no number has the word of Never
never_apart : (n : ℕ) → n < 2 ^ 64 → decimal n ≡ codes "-" → ⊥
never_apart n small e =
    let P : List ℕ → Type 0 = λ ds. AllByRecursion (λ b. 48 ≤ b) ds in
    let high : P (codes "-") = subst P e (digits_high n small) in
    omega (arith, high.0)

-- a word is of one entry at most
pub one_entry : (x y : Entry) → HasWord x → HasWord y → entry_word x ≡ entry_word y → x ≡ y
one_entry (number n) (number m) a b e = ap number (decimal_injective n m a b e)
one_entry (number n) never a b e = absurd (never_apart n a e)
one_entry never (number m) a b e = absurd (never_apart m b (sym e))
one_entry never never a b e = refl

some_entry : (text : List ℕ) → TakesWord an_entry text → (x : Entry) × HasWord x × (text ≡ entry_word x)
some_entry text (inl none) = (never, tt, none)
some_entry text (inr some) = (number some.0, some.1, some.2)

pub entry_fits : (x : Entry) → HasWord x → TakesWord an_entry (entry_word x)
entry_fits (number n) has = inr (n, has, refl)
entry_fits never has = inl refl

-- ---- a line

entries_said : (steps : ℕ) (ws : List Token) → FitAll (replicate steps an_entry) ws → (es : List Entry) × (length es ≡ steps) × AllByRecursion HasWord es × (texts ws ≡ map entry_word es)
entries_said zero [] f = ([], refl, tt, refl)
entries_said zero (w ∷ ws) f = absurd f
entries_said (suc steps) [] f = absurd f
entries_said (suc steps) (w ∷ ws) f =
    let first = some_entry w.text f.0 in
    let rest = entries_said steps ws f.1 in
    (first.0 ∷ rest.0, ap suc rest.1, (first.1, rest.2), (λ i. first.2 i ∷ rest.3 i))

head_said : (head : List (List ℕ)) (more : List Want) (ws : List Token) → FitAll (map this_word head ++ more) ws → (rest : List Token) × FitAll more rest × (texts ws ≡ head ++ texts rest)
head_said [] more ws f = (ws, f, refl)
head_said (word ∷ head) more [] f = absurd f
head_said (word ∷ head) more (w ∷ ws) f =
    let rest = head_said head more ws f.1 in
    (rest.0, rest.1, (λ i. f.0 i ∷ rest.2 i))

-- the words of listed entries
pub listed : (steps a : ℕ) (f : ℕ → Entry) (es : List Entry) → length es ≡ steps → ((i : ℕ) → i < steps → f (a + i) ≡ get_or es i never) → map (λ l. entry_word (f l)) (range_with_len a steps) ≡ map entry_word es
listed zero a f [] long same = refl
listed zero a f (e ∷ es) long same = absurd (omega arith)
listed (suc steps) a f [] long same = absurd (omega arith)
listed (suc steps) a f (e ∷ es) long same =
    let at : a ≡ a + 0 = omega arith in
    let here : f a ≡ e = ap f at ∙ same 0 (omega arith) in
    let size : length es ≡ steps = omega arith in
    let later = listed steps (a + 1) f es size (λ i low. let there : (a + 1) + i ≡ a + suc i = omega arith in ap f there ∙ same (suc i) (omega arith)) in
    λ i. entry_word (here i) ∷ later i

all_at : (es : List Entry) (i : ℕ) → AllByRecursion HasWord es → HasWord (get_or es i never)
all_at [] i all = tt
all_at (e ∷ es) zero all = all.0
all_at (e ∷ es) (suc i) all = all_at es i all.1

pub line_said : (head : List (List ℕ)) (steps : ℕ) (ws : List Token) → FitAll (row_wants head steps) ws → (e : ℕ → Entry) × ((l : ℕ) → HasWord (e l)) × (texts ws ≡ row_line head steps e)
line_said head steps ws f =
    let behind = head_said head (replicate steps an_entry) ws f in
    let some = entries_said steps behind.0 behind.1 in
    let is = listed steps 1 (λ l. get_or some.0 (l - 1) never) some.0 some.1 (λ i low. let there : (1 + i) - 1 ≡ i = omega arith in ap (λ (j : ℕ). get_or some.0 j never) there) in
    ((λ l. get_or some.0 (l - 1) never), (λ l. all_at some.0 (l - 1) some.2), behind.2 ∙ ap (λ (ts : List (List ℕ)). head ++ ts) (some.3 ∙ sym is))

-- ---- lines

abbrev lines_from : List ℕ → ℕ → ℕ → ℕ → ℕ → (ℕ → ℕ → Entry) → List (List (List ℕ))
lines_from letter k steps a n e = map (λ m. row_line (letter ∷ decimal k ∷ decimal m ∷ []) steps (e m)) (range_with_len a n)

abbrev wants_from : List ℕ → ℕ → ℕ → ℕ → ℕ → List (List Want)
wants_from letter k steps a n = map (λ m. row_wants (letter ∷ decimal k ∷ decimal m ∷ []) steps) (range_with_len a n)

lines_said : (letter : List ℕ) (k steps a n : ℕ) (ls : List CertificateLine) → FitLines (wants_from letter k steps a n) ls →
    (e : ℕ → ℕ → Entry) × ((m l : ℕ) → HasWord (e m l)) × (map texts_of ls ≡ lines_from letter k steps a n e)
lines_said letter k steps a zero [] f = ((λ m l. never), (λ m l. tt), refl)
lines_said letter k steps a zero (next ∷ others) f = absurd f
lines_said letter k steps a (suc n) [] f = absurd f
lines_said letter k steps a (suc n) (next ∷ others) f =
    let first = line_said (letter ∷ decimal k ∷ decimal a ∷ []) steps (words_of next) f.0 in
    let rest = lines_said letter k steps (a + 1) n others f.1 in
    let e : ℕ → ℕ → Entry = λ m. cond (eqb m a) first.0 (rest.0 m) in
    let here : e a ≡ first.0 = rw (eq-eqb a a refl) refl in
    let later = map_same (λ m. row_line (letter ∷ decimal k ∷ decimal m ∷ []) steps (rest.0 m)) (λ m. row_line (letter ∷ decimal k ∷ decimal m ∷ []) steps (e m)) (a + 1) n
    (λ m low high. let other : m ≡ a → ⊥ = λ is. omega arith in ap (row_line (letter ∷ decimal k ∷ decimal m ∷ []) steps) (sym (not_here m a first.0 (rest.0 m) other))) in (
      e,
      (λ m l. cond_words (eqb m a) first.0 (rest.0 m) first.1 (rest.1 m) l),
      (λ i. (first.2 ∙ ap (row_line (letter ∷ decimal k ∷ decimal a ∷ []) steps) (sym here)) i ∷ (rest.2 ∙ later) i),
    )
  where
    not_here : (m a : ℕ) (x y : ℕ → Entry) → (m ≡ a → ⊥) → cond (eqb m a) x y ≡ y
    not_here m a x y other = rw (ne_eqb m a other) refl

    cond_words : (b : Bool) (x y : ℕ → Entry) → ((l : ℕ) → HasWord (x l)) → ((l : ℕ) → HasWord (y l)) → (l : ℕ) → HasWord (cond b x y l)
    cond_words true x y xs ys = xs
    cond_words false x y xs ys = ys

pub rows_said : (letter : List ℕ) (k steps n : ℕ) (ls : List CertificateLine) → FitLines (rows_wants letter k steps n) ls →
    (e : ℕ → ℕ → Entry) × ((m l : ℕ) → HasWord (e m l)) × (map texts_of ls ≡ row_lines letter k steps n e)
unfolding rows_wants row_lines
rows_said letter k steps n ls f = lines_said letter k steps 0 n ls f

pub fit_parts : (x y : List (List Want)) (ls : List CertificateLine) → FitLines (x ++ y) ls →
    (p : List CertificateLine) × (q : List CertificateLine) × FitLines x p × FitLines y q × (map texts_of ls ≡ map texts_of p ++ map texts_of q)
fit_parts [] y ls f = ([], ls, tt, f, refl)
fit_parts (wants ∷ x) y [] f = absurd f
fit_parts (wants ∷ x) y (next ∷ others) f =
    let rest = fit_parts x y others f.1 in
    (next ∷ rest.0, rest.1, (f.0, rest.2), rest.3, ap (λ (l : List (List (List ℕ))). texts_of next ∷ l) rest.4)

-- ---- levels

pub both_parts : {E A : Type 0} (f h : E → List A) (a b c d : E) → a ≡ b → c ≡ d → f a ++ h c ≡ f b ++ h d
both_parts f h a b c d e g = λ i. f (e i) ++ h (g i)

abbrev pub some_wants : ℕ → (ℕ → ℕ) → ℕ → List (List Want)
some_wants steps room k = rows_wants (codes "F") k steps (room k + 1) ++ rows_wants (codes "H") k steps (room k)

abbrev pub some_lines : ℕ → (ℕ → ℕ) → (ℕ → ℕ → ℕ → Entry) → (ℕ → ℕ → ℕ → Entry) → ℕ → List (List (List ℕ))
some_lines steps room fresh held k = row_lines (codes "F") k steps (room k + 1) (fresh k) ++ row_lines (codes "H") k steps (room k) (held k)

pub levels_said : (steps : ℕ) (room : ℕ → ℕ) (a n : ℕ) (more : List (List Want)) (ls : List CertificateLine) → FitLines (flat_map (some_wants steps room) (range_with_len a n) ++ more) ls →
    (fresh : ℕ → ℕ → ℕ → Entry) × (held : ℕ → ℕ → ℕ → Entry) × ((k m l : ℕ) → HasWord (fresh k m l)) × ((k m l : ℕ) → HasWord (held k m l))
    × (rest : List CertificateLine) × FitLines more rest × (map texts_of ls ≡ flat_map (some_lines steps room fresh held) (range_with_len a n) ++ map texts_of rest)
levels_said steps room a zero more ls f = ((λ k m l. never), (λ k m l. never), (λ k m l. tt), (λ k m l. tt), ls, f, refl)
levels_said steps room a (suc n) more ls f =
    let f' = subst (λ (w : List (List Want)). FitLines w ls) (append_assoc (some_wants steps room a) (flat_map (some_wants steps room) (range_with_len (a + 1) n)) more) f in
    let parts = fit_parts (some_wants steps room a) (flat_map (some_wants steps room) (range_with_len (a + 1) n) ++ more) ls f' in
    let here = fit_parts (rows_wants (codes "F") a steps (room a + 1)) (rows_wants (codes "H") a steps (room a)) parts.0 parts.2 in
    let f_said = rows_said (codes "F") a steps (room a + 1) here.0 here.2 in
    let h_said = rows_said (codes "H") a steps (room a) here.1 here.3 in
    let rest = levels_said steps room (a + 1) n more parts.1 parts.3 in
    joined steps room a n more ls parts.0 here.0 here.1 parts.1 f_said h_said rest parts.4 here.4
  where
    at_other : {A : Type 0} (k a : ℕ) (x y : A) → (k ≡ a → ⊥) → cond (eqb k a) x y ≡ y
    at_other k a x y other = rw (ne_eqb k a other) refl

    at_here : {A : Type 0} (a : ℕ) (x y : A) → cond (eqb a a) x y ≡ x
    at_here a x y = rw (eq-eqb a a refl) refl

    have_words : (b : Bool) (x y : ℕ → ℕ → Entry) → ((m l : ℕ) → HasWord (x m l)) → ((m l : ℕ) → HasWord (y m l)) → (m l : ℕ) → HasWord (cond b x y m l)
    have_words true x y xs ys = xs
    have_words false x y xs ys = ys

    joined : (steps : ℕ) (room : ℕ → ℕ) (a n : ℕ) (more : List (List Want)) (ls here one two later : List CertificateLine) →
        ((e : ℕ → ℕ → Entry) × ((m l : ℕ) → HasWord (e m l)) × (map texts_of one ≡ row_lines (codes "F") a steps (room a + 1) e)) →
        ((e : ℕ → ℕ → Entry) × ((m l : ℕ) → HasWord (e m l)) × (map texts_of two ≡ row_lines (codes "H") a steps (room a) e)) →
        ((fresh : ℕ → ℕ → ℕ → Entry) × (held : ℕ → ℕ → ℕ → Entry) × ((k m l : ℕ) → HasWord (fresh k m l)) × ((k m l : ℕ) → HasWord (held k m l))
        × (rest : List CertificateLine) × FitLines more rest × (map texts_of later ≡ flat_map (some_lines steps room fresh held) (range_with_len (a + 1) n) ++ map texts_of rest)) →
        map texts_of ls ≡ map texts_of here ++ map texts_of later → map texts_of here ≡ map texts_of one ++ map texts_of two →
        (fresh : ℕ → ℕ → ℕ → Entry) × (held : ℕ → ℕ → ℕ → Entry) × ((k m l : ℕ) → HasWord (fresh k m l)) × ((k m l : ℕ) → HasWord (held k m l))
        × (rest : List CertificateLine) × FitLines more rest × (map texts_of ls ≡ flat_map (some_lines steps room fresh held) (range_with_len a (suc n)) ++ map texts_of rest)
    joined steps room a n more ls here one two later f h rest both parts =
        let fresh : ℕ → ℕ → ℕ → Entry = λ k. cond (eqb k a) f.0 (rest.0 k) in
        let held : ℕ → ℕ → ℕ → Entry = λ k. cond (eqb k a) h.0 (rest.1 k) in
        let first : row_lines (codes "F") a steps (room a + 1) f.0 ++ row_lines (codes "H") a steps (room a) h.0 ≡ some_lines steps room fresh held a =
        sym (both_parts (row_lines (codes "F") a steps (room a + 1)) (row_lines (codes "H") a steps (room a)) (fresh a) f.0 (held a) h.0 (at_here a f.0 (rest.0 a)) (at_here a h.0 (rest.1 a))) in
        let others = flat_same (some_lines steps room rest.0 rest.1) (some_lines steps room fresh held) (a + 1) n
        (λ k low high. let other : k ≡ a → ⊥ = λ is. omega arith in
        sym (both_parts (row_lines (codes "F") k steps (room k + 1)) (row_lines (codes "H") k steps (room k)) (fresh k) (rest.0 k) (held k) (rest.1 k) (at_other k a f.0 (rest.0 k) other) (at_other k a h.0 (rest.1 k) other))) in (
          fresh,
          held,
          (λ k. have_words (eqb k a) f.0 (rest.0 k) f.1 (rest.2 k)),
          (λ k. have_words (eqb k a) h.0 (rest.1 k) h.1 (rest.3 k)),
          rest.4,
          rest.5,
          both
              ∙ (λ i. (parts ∙ (λ j. f.2 j ++ h.2 j) ∙ first) i ++ (rest.6 ∙ ap (λ (l : List (List (List ℕ))). l ++ map texts_of rest.4) others) i)
              ∙ sym (append_assoc (some_lines steps room fresh held a) (flat_map (some_lines steps room fresh held) (range_with_len (a + 1) n)) (map texts_of rest.4)),
        )

-- ---- what says entries fits

abbrev pub FitTexts : List Want → List (List ℕ) → Type 0
FitTexts [] [] = Unit {0}
FitTexts [] (w ∷ ws) = ⊥
FitTexts (want ∷ wants) [] = ⊥
FitTexts (want ∷ wants) (w ∷ ws) = TakesWord want w × FitTexts wants ws

abbrev pub FitRows : List (List Want) → List (List (List ℕ)) → Type 0
FitRows [] [] = Unit {0}
FitRows [] (ws ∷ rows) = ⊥
FitRows (wants ∷ more) [] = ⊥
FitRows (wants ∷ more) (ws ∷ rows) = FitTexts wants ws × FitRows more rows

texts_fit : (wants : List Want) (ws : List Token) → FitTexts wants (texts ws) → FitAll wants ws
texts_fit [] [] f = tt
texts_fit [] (w ∷ ws) f = f
texts_fit (want ∷ wants) [] f = f
texts_fit (want ∷ wants) (w ∷ ws) f = (f.0, texts_fit wants ws f.1)

pub rows_fit : (more : List (List Want)) (ls : List CertificateLine) → FitRows more (map texts_of ls) → FitLines more ls
rows_fit [] [] f = tt
rows_fit [] (next ∷ others) f = f
rows_fit (wants ∷ more) [] f = f
rows_fit (wants ∷ more) (next ∷ others) f = (texts_fit wants (words_of next) f.0, rows_fit more others f.1)

pub fit_joined : (x y : List (List Want)) (p q : List (List (List ℕ))) → FitRows x p → FitRows y q → FitRows (x ++ y) (p ++ q)
fit_joined [] y [] q f g = g
fit_joined [] y (ws ∷ p) q f g = absurd f
fit_joined (wants ∷ x) y [] q f g = absurd f
fit_joined (wants ∷ x) y (ws ∷ p) q f g = (f.0, fit_joined x y p q f.1 g)

entries_fit : (a steps : ℕ) (e : ℕ → Entry) → ((l : ℕ) → a ≤ l → l < a + steps → HasWord (e l)) → FitTexts (replicate steps an_entry) (map (λ l. entry_word (e l)) (range_with_len a steps))
entries_fit a zero e has = tt
entries_fit a (suc steps) e has = (entry_fits (e a) (has a (omega arith) (omega arith)), entries_fit (a + 1) steps e (λ l low high. has l (omega arith) (omega arith)))

pub line_fits : (head : List (List ℕ)) (steps : ℕ) (e : ℕ → Entry) → ((l : ℕ) → 1 ≤ l → l ≤ steps → HasWord (e l)) → FitTexts (row_wants head steps) (row_line head steps e)
line_fits [] steps e has = entries_fit 1 steps e (λ l low high. has l low (omega arith))
line_fits (word ∷ head) steps e has = (refl, line_fits head steps e has)

lines_fit : (letter : List ℕ) (k steps a n : ℕ) (e : ℕ → ℕ → Entry) → ((m l : ℕ) → a ≤ m → m < a + n → 1 ≤ l → l ≤ steps → HasWord (e m l)) → FitRows (wants_from letter k steps a n) (lines_from letter k steps a n e)
lines_fit letter k steps a zero e has = tt
lines_fit letter k steps a (suc n) e has = (
  line_fits (letter ∷ decimal k ∷ decimal a ∷ []) steps (e a) (λ l low high. has a l (omega arith) (omega arith) low high),
  lines_fit letter k steps (a + 1) n e (λ m l low high. has m l (omega arith) (omega arith)),
)

pub said_fit : (letter : List ℕ) (k steps n : ℕ) (e : ℕ → ℕ → Entry) → ((m l : ℕ) → m < n → 1 ≤ l → l ≤ steps → HasWord (e m l)) → FitRows (rows_wants letter k steps n) (row_lines letter k steps n e)
unfolding rows_wants row_lines
said_fit letter k steps n e has = lines_fit letter k steps 0 n e (λ m l low high. has m l (omega arith))

pub levels_fit : (steps : ℕ) (room : ℕ → ℕ) (fresh held : ℕ → ℕ → ℕ → Entry) (a n : ℕ) →
    ((k m l : ℕ) → k < a + n → m ≤ room k → 1 ≤ l → l ≤ steps → HasWord (fresh k m l)) → ((k m l : ℕ) → k < a + n → m < room k → 1 ≤ l → l ≤ steps → HasWord (held k m l)) →
    FitRows (flat_map (some_wants steps room) (range_with_len a n)) (flat_map (some_lines steps room fresh held) (range_with_len a n))
levels_fit steps room fresh held a zero fs hs = tt
levels_fit steps room fresh held a (suc n) fs hs =
    fit_joined (some_wants steps room a) (flat_map (some_wants steps room) (range_with_len (a + 1) n)) (some_lines steps room fresh held a) (flat_map (some_lines steps room fresh held) (range_with_len (a + 1) n))
    (fit_joined (rows_wants (codes "F") a steps (room a + 1)) (rows_wants (codes "H") a steps (room a)) (row_lines (codes "F") a steps (room a + 1) (fresh a)) (row_lines (codes "H") a steps (room a) (held a))
    (said_fit (codes "F") a steps (room a + 1) (fresh a) (λ m l low. fs a m l (omega arith) (omega arith)))
    (said_fit (codes "H") a steps (room a) (held a) (λ m l low. hs a m l (omega arith) low)))
    (levels_fit steps room fresh held (a + 1) n (λ k m l low. fs k m l (omega arith)) (λ k m l low. hs k m l (omega arith)))

-- ---- the same entries say the same, and no others do

pub same_rows : (letter : List ℕ) (k steps n : ℕ) (e d : ℕ → ℕ → Entry) → ((m l : ℕ) → m < n → 1 ≤ l → l ≤ steps → e m l ≡ d m l) → row_lines letter k steps n e ≡ row_lines letter k steps n d
unfolding row_lines
same_rows letter k steps n e d same =
    map_same (λ m. row_line (letter ∷ decimal k ∷ decimal m ∷ []) steps (e m)) (λ m. row_line (letter ∷ decimal k ∷ decimal m ∷ []) steps (d m)) 0 n
    (λ m low high. ap (λ (ts : List (List ℕ)). (letter ∷ decimal k ∷ decimal m ∷ []) ++ ts)
    (map_same (λ l. entry_word (e m l)) (λ l. entry_word (d m l)) 1 steps (λ l least most. ap entry_word (same m l (omega arith) least (omega arith)))))

pub one_rows : (letter : List ℕ) (k steps n m l : ℕ) (e d : ℕ → ℕ → Entry) → row_lines letter k steps n e ≡ row_lines letter k steps n d → m < n → 1 ≤ l → l ≤ steps → HasWord (e m l) → HasWord (d m l) → e m l ≡ d m l
unfolding row_lines
one_rows letter k steps n m l e d same high low most a b =
    let line = mapped_same (λ m. row_line (letter ∷ decimal k ∷ decimal m ∷ []) steps (e m)) (λ m. row_line (letter ∷ decimal k ∷ decimal m ∷ []) steps (d m)) 0 n m same (omega arith) (omega arith) in
    let words = append_cancel_left (letter ∷ decimal k ∷ decimal m ∷ []) (map (λ l. entry_word (e m l)) (range_with_len 1 steps)) (map (λ l. entry_word (d m l)) (range_with_len 1 steps)) line in
    one_entry (e m l) (d m l) a b (mapped_same (λ l. entry_word (e m l)) (λ l. entry_word (d m l)) 1 steps l words low (omega arith))

pub rows_long : (letter : List ℕ) (k steps n : ℕ) (e : ℕ → ℕ → Entry) → length (row_lines letter k steps n e) ≡ n
unfolding row_lines
rows_long letter k steps n e = length-map-range_with_len (λ m. row_line (letter ∷ decimal k ∷ decimal m ∷ []) steps (e m)) 0 n

-- one word
pub says_word : (word : List ℕ) (ws : List Token) → texts ws ≡ word ∷ [] → FitAll (this_word word ∷ []) ws
says_word word ws e = texts_fit (this_word word ∷ []) ws (subst (λ (ts : List (List ℕ)). FitTexts (this_word word ∷ []) ts) (sym e) (refl, tt))

pub one_word : (word : List ℕ) (ws : List Token) → FitAll (this_word word ∷ []) ws → texts ws ≡ word ∷ []
one_word word [] f = absurd f
one_word word (w ∷ []) f = ap (λ (t : List ℕ). t ∷ []) f.0
one_word word (w ∷ v ∷ ws) f = absurd f.1
