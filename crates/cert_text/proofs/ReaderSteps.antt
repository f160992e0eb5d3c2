-- Words and lines that are gone past, some after others.
use Rattle.std.proofs.Common.{Result, Ok, Err, ◌≡◌, ℕ, zero, suc, ◌+◌, ◌-◌, ◌<◌, ◌≤◌, List, [], ◌∷◌, ◌++◌, length, map, get_or, take, set, refl, sym, ap, subst, ◌∙◌, inl, inr, arith, append-nil, append_assoc, get_or-set_same, get_or-set_other}
use Rattle.std.specs.Prelude.{replicate, MatchResult}
use Rattle.std.proofs.lemmas.Bool.{cases_lt}
use Rattle.std.proofs.lemmas.List.{replicate_more, map-append}
use Rattle.line_texts.specs.Tokens.{Token, words}
use Rattle.cost_tables.specs.declared.cost.Cost.{Cost}
use Rattle.cost_tables.specs.declared.cost.Cost.TheVariants.{Never}
use Rattle.cost_tables.specs.TableRows.{value_of}
use Rattle.cert_text.specs.MarkedLines.{CertificateLine}
use Rattle.cert_text.specs.Words.{texts_of}
use Rattle.cert_text.specs.declared.fault.Rule.{Rule}
use Rattle.line_texts.specs.declared.fault.LineFault.{LineFault}
use Rattle.line_texts.specs.declared.fault.Fault.{Fault}
use Rattle.line_texts.specs.declared.fault.Fault.TheVariants.{At, Memory}
use Rattle.cert_text.specs.Meaning.{HasWord}
use Rattle.cert_text.specs.Grammar.{Want, an_entry, TakesWord}
use Rattle.cert_text.specs.Faults.{FitAll, IsWordFault, IsLineFault}
use Rattle.cert_text.specs.ReaderState.{Left, Takes, Goes, texts, number_of_rule, Unread, left, IsAt}
use Rattle.cert_text.specs.Rows.{Reads, cost_word}
use Rattle.cert_text.proofs.TextMeaning.{wrong_later, fit_later, taken_text}

take-all : {A : Type 0} (k : ℕ) (l : List A) → length l ≤ k → take k l ≡ l
take-all zero [] low = refl
take-all zero (x ∷ l) low = absurd (omega arith)
take-all (suc k) [] low = refl
take-all (suc k) (x ∷ l) low = ap (λ (m : List _). x ∷ m) (take-all k l (omega arith))

-- ---- words

pub goes_none : (a : Left) → Goes [] a a
goes_none a = record { fault = λ more rule column is. is; fits = λ more is. is }

pub goes_one : (want : Want) (text : List ℕ) (a b : Left) → Takes text a b → TakesWord want text → Goes (want ∷ []) a b
goes_one want text a b taken fits = record {
  fault = λ more rule column is. wrong_later want more text a b rule column taken fits is;
  fits = λ more is. fit_later want more text a b taken fits is;
}

pub goes_then : (x y : List Want) (a b c : Left) → Goes x a b → Goes y b c → Goes (x ++ y) a c
goes_then x y a b c first second = record {
  fault = λ more rule column is.
      subst (λ (w : List Want). IsWordFault w a.words a.end rule column) (sym (append_assoc x y more)) (first.fault (y ++ more) rule column (second.fault more rule column is));
  fits = λ more is. subst (λ (w : List Want). FitAll w a.words) (sym (append_assoc x y more)) (first.fits (y ++ more) (second.fits more is));
}

pub goes_all : (x : List Want) (a b : Left) → Goes x a b → b.words ≡ [] → FitAll x a.words
goes_all x a b goes none =
    subst (λ (w : List Want). FitAll w a.words) (append-nil x) (goes.fits [] (subst (λ (ws : List Token). FitAll [] ws) (sym none) tt))

pub goes_wrong : (x : List Want) (a b : Left) (rule column : ℕ) → Goes x a b → IsWordFault [] b.words b.end rule column → IsWordFault x a.words a.end rule column
goes_wrong x a b rule column goes wrong = subst (λ (w : List Want). IsWordFault w a.words a.end rule column) (append-nil x) (goes.fault [] rule column wrong)

-- ---- entries

-- the first of so many is gone past, so many are left
repeated : {A : Type 0} (x : A) (i n : ℕ) → i < n → replicate i x ++ x ∷ replicate (n - (i + 1)) x ≡ replicate n x
repeated x i zero low = absurd (omega arith)
repeated x zero (suc n) low = let e : suc n - (0 + 1) ≡ n = omega arith in ap (λ (k : ℕ). x ∷ replicate k x) e
repeated x (suc i) (suc n) low =
    let e : suc n - (suc i + 1) ≡ n - (i + 1) = omega arith in
    ap (λ (k : ℕ). x ∷ (replicate i x ++ x ∷ replicate k x)) e ∙ ap (λ (l : List _). x ∷ l) (repeated x i n (omega arith))

pub entry_wrong : (i n : ℕ) (a b : Left) (rule column : ℕ) → i < n → Goes (replicate i an_entry) a b → ((more : List Want) → IsWordFault (an_entry ∷ more) b.words b.end rule column) → IsWordFault (replicate n an_entry) a.words a.end rule column
entry_wrong i n a b rule column low goes wrong =
    subst (λ (w : List Want). IsWordFault w a.words a.end rule column) (repeated an_entry i n low)
    (goes.fault (an_entry ∷ replicate (n - (i + 1)) an_entry) rule column (wrong (replicate (n - (i + 1)) an_entry)))

-- what is read so far
pub record ReadsEntries (i : ℕ) (row : List Cost) (a b : Left) : Type 0 where
  pub goes : Goes (replicate i an_entry) a b
  pub says : texts a.words ≡ map cost_word (take i row) ++ texts b.words
  pub words : (j : ℕ) → j < i → HasWord (value_of (get_or row j Never))

pub no_entry : (row : List Cost) (a : Left) → ReadsEntries 0 row a a
no_entry row a = record { goes = goes_none a; says = refl; words = λ j low. absurd (omega arith) }

one_more : (row : List Cost) (i : ℕ) (c : Cost) → i < length row → take (i + 1) (set row i c) ≡ take i row ++ c ∷ []
one_more [] i c low = absurd (omega arith)
one_more (x ∷ row) zero c low = refl
one_more (x ∷ row) (suc i) c low =
    let e : suc i + 1 ≡ suc (i + 1) = omega arith in
    ap (λ (k : ℕ). take k (x ∷ set row i c)) e ∙ ap (λ (l : List Cost). x ∷ l) (one_more row i c (omega arith))

pub entry_more : (i : ℕ) (row : List Cost) (cost : Cost) (a b c : Left) → i < length row → ReadsEntries i row a b → HasWord (value_of cost) → Takes (cost_word cost) b c → TakesWord an_entry (cost_word cost) →
    ReadsEntries (i + 1) (set row i cost) a c
entry_more i row cost a b c low so has taken fits = record {
  goes = subst (λ (w : List Want). Goes w a c) (replicate_more i an_entry) (goes_then (replicate i an_entry) (an_entry ∷ []) a b c so.goes (goes_one an_entry (cost_word cost) b c taken fits));
  says =
      so.says
      ∙ ap (λ (ts : List (List ℕ)). map cost_word (take i row) ++ ts) (taken_text (cost_word cost) b c taken)
      ∙ sym (append_assoc (map cost_word (take i row)) (cost_word cost ∷ []) (texts c.words))
      ∙ ap (λ (ts : List (List ℕ)). ts ++ texts c.words) (sym (map-append cost_word (take i row) (cost ∷ [])) ∙ ap (map cost_word) (sym (one_more row i cost low)));
  words = λ j most. elim (cases_lt j i) [
    | inl before ↦ let other : j ≡ i → ⊥ = λ is. omega arith in subst (λ (x : Cost). HasWord (value_of x)) (sym (get_or-set_other row i j cost Never other)) (so.words j before)
    | inr at ↦ let is : i ≡ j = omega arith in subst (λ (k : ℕ). HasWord (value_of (get_or (set row i cost) k Never))) is (subst (λ (x : Cost). HasWord (value_of x)) (sym (get_or-set_same row i cost Never low)) has)
  ];
}

-- ---- lines

pub reads_none : (a : Unread) → Reads [] [] a a
reads_none a = record { passes = record { count = refl; fault = λ more rule line column is. is }; says = refl }

pub reads_then : (x y : List (List Want)) (s t : List (List (List ℕ))) (a b c : Unread) → Reads x s a b → Reads y t b c → Reads (x ++ y) (s ++ t) a c
reads_then x y s t a b c first second = record {
  passes = record {
    count = second.passes.count ∙ first.passes.count;
    fault = λ more rule line column is.
        subst (λ (w : List (List Want)). IsLineFault w a.lines a.count rule line column) (sym (append_assoc x y more))
        (first.passes.fault (y ++ more) rule line column (second.passes.fault more rule line column is));
  };
  says = first.says ∙ ap (λ (l : List (List (List ℕ))). s ++ l) second.says ∙ sym (append_assoc s t (map texts_of c.lines));
}

-- all entries were read, by how the line went on
pub entries_end : {T : Type 0} (answer : Result T (LineFault Rule)) (i : ℕ) (row : List Cost) (n : ℕ) (a b : Left) → i ≡ n → length row ≡ n → ReadsEntries i row a b →
    MatchResult answer (λ _. b.words ≡ []) (λ fault. IsWordFault [] b.words b.end (number_of_rule fault.rule) fault.column) →
    MatchResult answer (λ _. (texts a.words ≡ map cost_word row) × FitAll (replicate n an_entry) a.words × ((j : ℕ) → j < n → HasWord (value_of (get_or row j Never))))
    (λ fault. IsWordFault (replicate n an_entry) a.words a.end (number_of_rule fault.rule) fault.column)
entries_end (Ok x) i row n a b all long so none =
    let goes = subst (λ (k : ℕ). Goes (replicate k an_entry) a b) all so.goes in
    let whole : take i row ≡ row = take-all i row (omega arith) in (
      so.says ∙ (λ j. map cost_word (whole j) ++ texts (none j)) ∙ append-nil (map cost_word row),
      goes_all (replicate n an_entry) a b goes none,
      λ j low. so.words j (omega arith),
    )
entries_end (Err fault) i row n a b all long so wrong =
    goes_wrong (replicate n an_entry) a b (number_of_rule fault.rule) fault.column (subst (λ (k : ℕ). Goes (replicate k an_entry) a b) all so.goes) wrong

-- ---- a line

words_at : (number : ℕ) (text : List ℕ) (all : Left) (W : List Token → ℕ → Type 0) → all ≡ left 3 text → W all.words all.end → W (words 3 text) (3 + length text)
unfolding left
words_at number text all W is wrong = subst (λ (a : Left). W a.words a.end) is wrong

-- its words fit and say this
pub line_done : (wants : List Want) (said : List (List ℕ)) (number : ℕ) (text : List ℕ) (all : Left) (old new : Unread) → old.lines ≡ record { number = number; text = text } ∷ new.lines → new.count ≡ old.count →
    all ≡ left 3 text → texts all.words ≡ said → FitAll wants all.words → Reads (wants ∷ []) (said ∷ []) old new
line_done wants said number text all old new is counted words_is says fits = record {
  passes = record {
    count = counted;
    fault = λ more rule line column wrong.
        let P : List CertificateLine → Type 0 = λ ls. IsLineFault (wants ∷ more) ls old.count rule line column in
        let N : ℕ → Type 0 = λ n. IsLineFault more new.lines n rule line column in
        subst P (sym is) (inr (words_at number text all (λ ws end. FitAll wants ws) words_is fits, subst N counted wrong));
  };
  says =
      ap (map texts_of) is
      ∙ ap (λ (ts : List (List ℕ)). ts ∷ map texts_of new.lines) (words_at number text all (λ ws end. texts ws ≡ said) words_is says);
}

-- its words have a fault
pub line_wrong : (wants : List Want) (more : List (List Want)) (number rule column : ℕ) (text : List ℕ) (all : Left) (others : List CertificateLine) (old : Unread) (fault : Fault) → old.lines ≡ record { number = number; text = text } ∷ others →
    all ≡ left 3 text → IsWordFault wants all.words all.end rule column → fault ≡ At rule number column → IsAt (IsLineFault (wants ∷ more) old.lines old.count) fault
line_wrong wants more number rule column text all others old fault is words_is wrong fault_is =
    let P : List CertificateLine → Type 0 = λ ls. IsLineFault (wants ∷ more) ls old.count rule number column in
    let F : Fault → Type 0 = λ f. IsAt (IsLineFault (wants ∷ more) old.lines old.count) f in
    subst F (sym fault_is) (subst P (sym is) (inl (words_at number text all (λ ws end. IsWordFault wants ws end rule column) words_is wrong, refl)))

-- the lines behind one that was gone past
pub behind_line : {T : Type 0} (answer : Result T Fault) (wants : List Want) (said : List (List ℕ)) (old new : Unread) → Reads (wants ∷ []) (said ∷ []) old new →
    MatchResult answer (λ _. new.lines ≡ []) (λ fault. IsAt (IsLineFault [] new.lines new.count) fault) →
    MatchResult answer (λ _. map texts_of old.lines ≡ said ∷ []) (λ fault. IsAt (IsLineFault (wants ∷ []) old.lines old.count) fault)
behind_line (Ok x) wants said old new reads none = reads.says ∙ ap (λ (ls : List CertificateLine). said ∷ map texts_of ls) none
behind_line (Err (At r l c)) wants said old new reads wrong = reads.passes.fault [] r l c wrong
behind_line (Err Memory) wants said old new reads wrong = absurd wrong
