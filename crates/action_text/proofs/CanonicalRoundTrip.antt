-- The canonical text of a list is read as that list.
use Rattle.std.proofs.Common.{◌≡◌, ℕ, zero, suc, ◌+◌, ◌≤◌, Bool, true, false, eqb, not, ◌&&◌, List, [], ◌∷◌, ◌++◌, map, Some, slice_get, refl, sym, ap, subst, ◌∙◌, arith, inl, inr, append_assoc}
use Rattle.std.specs.Prelude.{codes, decimal}
use Rattle.std.specs.List.{AllByRecursion, list_all, flat_map}
use Rattle.std.proofs.lemmas.Bool.{ne_eqb}
use Rattle.level_book.specs.Names.{AreNames}
use Rattle.plan_types.specs.declared.action.Keep.TheVariants.{Nothing, Store, Tape}
use Rattle.plan_types.specs.declared.action.Dest.{Dest}
use Rattle.plan_types.specs.declared.action.Dest.TheVariants.{Work, Level}
use Rattle.plan_types.specs.declared.action.Action.{Action}
use Rattle.plan_types.specs.declared.action.Action.TheVariants.{Forward, Reverse, Copy, Move, EndForward, EndReverse}
use Rattle.action_text.specs.Tokens.{is_run_byte, starts_run, tokens}
use Rattle.line_texts.specs.Tokens.{Token, is_blank, longer, tokens as line_tokens}
use Rattle.action_text.specs.Meaning.{call, NamesDest, Says, IsPassed}
use Rattle.action_text.specs.ScheduleText.{texts, LinesSay}
use Rattle.line_texts.specs.Lines.{lines, longer_line}
use Rattle.action_text.specs.Canonical.{two_numbers, one_number, name_of, keep_text, dest_text, copy_text, canonical, IsLevelOf, IsDestOf, HasSpelling, text_of}
use Rattle.action_text.specs.Laws.{certificate_line, HasOneEnd, CanonicalIsRead, OneSpelling}
use Rattle.line_texts.proofs.Steps.{both}
use Rattle.action_text.proofs.Decimal.{IsRun, decimal_is_run}
use Rattle.action_text.proofs.NextToken.{run_is_no_blank, run_is_no_end}
use Rattle.action_text.proofs.LevelWords.{level_is_name, name_is_run}
use Rattle.action_text.proofs.ArgumentMeaning.{one_action}

abbrev texts_of : List Token → List (List ℕ)
texts_of ts = map (λ (t : Token). t.text) ts

-- the texts of the tokens of bytes, wherever they begin
abbrev TextsAre : List ℕ → List (List ℕ) → Type 0
TextsAre bs xs = (column : ℕ) → texts_of (tokens column bs) ≡ xs

no_texts : TextsAre [] []
unfolding line_tokens
no_texts column = refl

after_blank : (b : ℕ) (bs : List ℕ) (xs : List (List ℕ)) → is_blank b ≡ true → TextsAre bs xs → TextsAre (b ∷ bs) xs
unfolding line_tokens
after_blank b bs xs blank are column = rw blank (are (column + 1))

after_mark : (b : ℕ) (bs : List ℕ) (xs : List (List ℕ)) → is_blank b ≡ false → is_run_byte b ≡ false → TextsAre bs xs → TextsAre (b ∷ bs) ((b ∷ []) ∷ xs)
unfolding line_tokens
after_mark b bs xs blank run are column = rw (blank, run) (ap (λ (ys : List (List ℕ)). (b ∷ []) ∷ ys) (are (column + 1)))

texts_longer : (column b : ℕ) (ts : List Token) (x : List ℕ) (xs : List (List ℕ)) → texts_of ts ≡ x ∷ xs → texts_of (longer column b ts) ≡ (b ∷ x) ∷ xs
texts_longer column b [] x xs is = cc
texts_longer column b (t ∷ ts) x xs is =
    let first : t.text ≡ x = cc is in
    let rest : texts_of ts ≡ xs = cc is in
    ap (λ (y : List ℕ). (b ∷ y) ∷ texts_of ts) first ∙ ap (λ (ys : List (List ℕ)). (b ∷ x) ∷ ys) rest

abbrev AllRun : List ℕ → Type 0
AllRun text = AllByRecursion (λ b. is_run_byte b ≡ true) text

run_of : (b : ℕ) (more bs : List ℕ) (xs : List (List ℕ)) → AllRun (b ∷ more) → starts_run bs ≡ false → TextsAre bs xs → TextsAre ((b ∷ more) ++ bs) ((b ∷ more) ∷ xs)
unfolding line_tokens
run_of b [] bs xs run ends are column =
    let alone : (is_run_byte b && starts_run bs) ≡ false = rw (ends, run.0) refl in
    rw (run_is_no_blank b run.0, alone) (ap (λ (ys : List (List ℕ)). (b ∷ []) ∷ ys) (are (column + 1)))
run_of b (c ∷ more) bs xs run ends are column =
    let goes_on : (is_run_byte b && starts_run ((c ∷ more) ++ bs)) ≡ true = rw (run.0, run.1.0) refl in
    rw (run_is_no_blank b run.0, goes_on) (texts_longer column b (tokens (column + 1) ((c ∷ more) ++ bs)) (c ∷ more) xs (run_of c more bs xs run.1 ends are (column + 1)))

-- a word, with something behind it that isn't of a run
after_run : (text bs : List ℕ) (xs : List (List ℕ)) → IsRun text → starts_run bs ≡ false → TextsAre bs xs → TextsAre (text ++ bs) (text ∷ xs)
after_run [] bs xs run ends are = absurd (cc run.some)
after_run (b ∷ more) bs xs run ends are = run_of b more bs xs run.each ends are

all_of_test : (p : ℕ → Bool) (text : List ℕ) → list_all p text ≡ true → AllByRecursion (λ b. p b ≡ true) text
all_of_test p [] all = tt
all_of_test p (b ∷ bs) all = let q = both (p b) (list_all p bs) all in (q.0, all_of_test p bs q.1)

word : (text : List ℕ) → starts_run text ≡ true → list_all is_run_byte text ≡ true → IsRun text
word text some all = record { some = some; each = all_of_test is_run_byte text all }

-- ---- marks

closed : TextsAre (codes ")") (codes ")" ∷ [])
closed = after_mark 41 [] [] refl refl no_texts

after_comma : (bs : List ℕ) (xs : List (List ℕ)) → TextsAre bs xs → TextsAre (44 ∷ 32 ∷ bs) (codes "," ∷ xs)
after_comma bs xs are = after_mark 44 (32 ∷ bs) xs refl refl (after_blank 32 bs xs refl are)

opened : (name bs : List ℕ) (xs : List (List ℕ)) → IsRun name → TextsAre bs xs → TextsAre (name ++ 40 ∷ bs) (name ∷ codes "(" ∷ xs)
opened name bs xs run are = after_run name (40 ∷ bs) (codes "(" ∷ xs) run refl (after_mark 40 bs xs refl refl are)

-- an argument with a comma behind it, and the last one
argument : (text bs : List ℕ) (xs : List (List ℕ)) → IsRun text → TextsAre bs xs → TextsAre (text ++ 44 ∷ 32 ∷ bs) (text ∷ codes "," ∷ xs)
argument text bs xs run are = after_run text (44 ∷ 32 ∷ bs) (codes "," ∷ xs) run refl (after_comma bs xs are)

last_one : (text : List ℕ) → IsRun text → TextsAre (text ++ codes ")") (text ∷ codes ")" ∷ [])
last_one text run = after_run text (codes ")") (codes ")" ∷ []) run refl closed

-- ---- the levels of an action

level_at : (names : List (List ℕ)) (k : ℕ) → IsLevelOf names k → slice_get names k ≡ Some (name_of names k)
level_at [] k within = absurd (omega arith)
level_at (name ∷ names) zero within = refl
level_at (name ∷ names) (suc k) within = level_at names k (omega arith)

level_run : (names : List (List ℕ)) (k : ℕ) → AreNames names → IsLevelOf names k → IsRun (name_of names k)
level_run names k are within = name_is_run (name_of names k) (level_is_name names k (name_of names k) are (level_at names k within))

dest_run : (names : List (List ℕ)) (d : Dest) → AreNames names → IsDestOf names d → IsRun (dest_text names d)
dest_run names Work are is = word (codes "WORK") refl refl
dest_run names (Level k) are is = level_run names k are is

dest_named : (names : List (List ℕ)) (d : Dest) → IsDestOf names d → NamesDest names d (dest_text names d)
dest_named names Work is = refl
dest_named names (Level k) is = level_at names k is

-- ---- the texts of a canonical spelling

regroup_two : (before n between m after : List ℕ) → (((before ++ n) ++ between) ++ m) ++ after ≡ before ++ (n ++ (between ++ (m ++ after)))
regroup_two before n between m after = simp append_assoc

regroup_one : (before n after : List ℕ) → (before ++ n) ++ after ≡ before ++ (n ++ after)
regroup_one before n after = append_assoc before n after

regroup_copy : (comma name between dest close : List ℕ) → (((comma ++ name) ++ between) ++ dest) ++ close ≡ comma ++ (name ++ (between ++ (dest ++ close)))
regroup_copy comma name between dest close = simp append_assoc

texts_along : (text bs : List ℕ) (xs : List (List ℕ)) → text ≡ bs → TextsAre bs xs → TextsAre text xs
texts_along text bs xs same are column = ap (λ (ys : List ℕ). texts_of (tokens column ys)) same ∙ are column

true_word : IsRun (codes "True")
true_word = word (codes "True") refl refl

false_word : IsRun (codes "False")
false_word = word (codes "False") refl refl

-- a Forward, whose last arguments begin behind a comma
forward_texts : (n m : ℕ) (keep : List ℕ) (xs : List (List ℕ)) → n ≤ 1000000 → m ≤ 1000000 → TextsAre keep xs →
    TextsAre (two_numbers (codes "Forward(") n m (44 ∷ 32 ∷ keep)) (codes "Forward" ∷ codes "(" ∷ decimal n ∷ codes "," ∷ decimal m ∷ codes "," ∷ xs)
forward_texts n m keep xs low high are =
    texts_along (two_numbers (codes "Forward(") n m (44 ∷ 32 ∷ keep)) (codes "Forward" ++ 40 ∷ (decimal n ++ 44 ∷ 32 ∷ (decimal m ++ 44 ∷ 32 ∷ keep))) _
    (regroup_two (codes "Forward(") (decimal n) (codes ", ") (decimal m) (44 ∷ 32 ∷ keep))
    (opened (codes "Forward") _ _ (word (codes "Forward") refl refl) (argument (decimal n) _ _ (decimal_is_run n low) (argument (decimal m) _ _ (decimal_is_run m high) are)))

store_texts : (name : List ℕ) → IsRun name → TextsAre (codes "True, False, " ++ (name ++ codes ")")) (codes "True" ∷ codes "," ∷ codes "False" ∷ codes "," ∷ name ∷ codes ")" ∷ [])
store_texts name run = argument (codes "True") (codes "False, " ++ (name ++ codes ")")) _ true_word (argument (codes "False") (name ++ codes ")") _ false_word (last_one name run))

copy_texts : (names : List (List ℕ)) (head : List ℕ) (n k : ℕ) (d : Dest) → IsRun head → n ≤ 1000000 → AreNames names → IsLevelOf names k → IsDestOf names d →
    TextsAre (one_number (head ++ codes "(") n (copy_text names k d)) (call head (decimal n ∷ name_of names k ∷ dest_text names d ∷ []))
copy_texts names head n k d run low are level dest =
    texts_along (one_number (head ++ codes "(") n (copy_text names k d)) (head ++ 40 ∷ (decimal n ++ 44 ∷ 32 ∷ (name_of names k ++ 44 ∷ 32 ∷ (dest_text names d ++ codes ")")))) _
    (regroup_one (head ++ codes "(") (decimal n) (copy_text names k d)
    ∙ append_assoc head (codes "(") (decimal n ++ copy_text names k d)
    ∙ ap (λ (ys : List ℕ). head ++ 40 ∷ (decimal n ++ ys)) (regroup_copy (codes ", ") (name_of names k) (codes ", ") (dest_text names d) (codes ")")))
    (opened head _ _ run (argument (decimal n) _ _ (decimal_is_run n low) (argument (name_of names k) _ _ (level_run names k are level) (last_one (dest_text names d) (dest_run names d are dest)))))

pub canonical_says : (names : List (List ℕ)) (a : Action) → AreNames names → HasSpelling names a → Says names (texts (canonical names a)) a
canonical_says names (Forward n m Nothing) are (low, high, keeps) =
    let ends : TextsAre (codes "False, False, NONE)") (codes "False" ∷ codes "," ∷ codes "False" ∷ codes "," ∷ codes "NONE" ∷ codes ")" ∷ []) =
    argument (codes "False") (codes "False, NONE)") _ false_word (argument (codes "False") (codes "NONE)") _ false_word (last_one (codes "NONE") (word (codes "NONE") refl refl))) in
    (low, high, inl (forward_texts n m (codes "False, False, NONE)") _ low high ends 1))
canonical_says names (Forward n m (Store k)) are (low, high, keeps) =
    let name = name_of names k in
    let same : canonical names (Forward n m (Store k)) ≡ two_numbers (codes "Forward(") n m (44 ∷ 32 ∷ (codes "True, False, " ++ (name ++ codes ")"))) =
    ap (two_numbers (codes "Forward(") n m) (append_assoc (codes ", True, False, ") name (codes ")")) in
    (low, high, name, level_at names k keeps, texts_along _ _ _ same (forward_texts n m _ _ low high (store_texts name (level_run names k are keeps))) 1)
canonical_says names (Forward n m Tape) are (low, high, keeps) =
    let ends : TextsAre (codes "False, True, WORK)") (codes "False" ∷ codes "," ∷ codes "True" ∷ codes "," ∷ codes "WORK" ∷ codes ")" ∷ []) =
    argument (codes "False") (codes "True, WORK)") _ false_word (argument (codes "True") (codes "WORK)") _ true_word (last_one (codes "WORK") (word (codes "WORK") refl refl))) in
    (low, high, keeps, forward_texts n m (codes "False, True, WORK)") _ low high ends 1)
canonical_says names (Reverse n m) are (low, high, one) =
    let same = regroup_two (codes "Reverse(") (decimal n) (codes ", ") (decimal m) (codes ", True)") in (
      low,
      high,
      one,
      texts_along (canonical names (Reverse n m)) (codes "Reverse" ++ 40 ∷ (decimal n ++ 44 ∷ 32 ∷ (decimal m ++ 44 ∷ 32 ∷ codes "True)"))) _ same
          (opened (codes "Reverse") _ _ (word (codes "Reverse") refl refl) (argument (decimal n) _ _ (decimal_is_run n low) (argument (decimal m) _ _ (decimal_is_run m high) (last_one (codes "True") true_word)))) 1,
    )
canonical_says names (Copy n k d) are (low, level, dest) =
    (low, name_of names k, level_at names k level, dest_text names d, dest_named names d dest, copy_texts names (codes "Copy") n k d (word (codes "Copy") refl refl) low are level dest 1)
canonical_says names (Move n k d) are (low, level, dest) =
    (low, name_of names k, level_at names k level, dest_text names d, dest_named names d dest, copy_texts names (codes "Move") n k d (word (codes "Move") refl refl) low are level dest 1)
canonical_says names EndForward are spells = opened (codes "EndForward") (codes ")") _ (word (codes "EndForward") refl refl) closed 1
canonical_says names EndReverse are spells = opened (codes "EndReverse") (codes ")") _ (word (codes "EndReverse") refl refl) closed 1

pub one_spelling : OneSpelling
one_spelling names are a b spells also same =
    one_action names (texts (canonical names b)) a b are
    (subst (λ (bs : List ℕ). Says names (texts bs) a) same (canonical_says names a are spells))
    (canonical_says names b are also)

-- ---- lines

abbrev pub HasNoEnd : List ℕ → Type 0
HasNoEnd bs = AllByRecursion (λ b. eqb b 10 ≡ false) bs

both_parts : (xs ys : List ℕ) → HasNoEnd xs → HasNoEnd ys → HasNoEnd (xs ++ ys)
both_parts [] ys all also = also
both_parts (x ∷ xs) ys all also = (all.0, both_parts xs ys all.1 also)

run_endless : (text : List ℕ) → AllRun text → HasNoEnd text
run_endless [] run = tt
run_endless (b ∷ bs) run = (run_is_no_end b run.0, run_endless bs run.1)

is_false : (b : Bool) → not b ≡ true → b ≡ false
is_false true h = cc
is_false false h = refl

literal : (text : List ℕ) → list_all (λ b. not (eqb b 10)) text ≡ true → HasNoEnd text
literal [] all = tt
literal (b ∷ bs) all = let q = both (not (eqb b 10)) (list_all (λ b. not (eqb b 10)) bs) all in (is_false (eqb b 10) q.0, literal bs q.1)

two_endless : (before : List ℕ) (n m : ℕ) (after : List ℕ) → n ≤ 1000000 → m ≤ 1000000 → HasNoEnd before → HasNoEnd after → HasNoEnd (two_numbers before n m after)
two_endless before n m after low high front back =
    both_parts (((before ++ decimal n) ++ codes ", ") ++ decimal m) after
    (both_parts ((before ++ decimal n) ++ codes ", ") (decimal m)
    (both_parts (before ++ decimal n) (codes ", ") (both_parts before (decimal n) front (run_endless (decimal n) (decimal_is_run n low).each)) (literal (codes ", ") refl))
    (run_endless (decimal m) (decimal_is_run m high).each))
    back

copy_endless : (names : List (List ℕ)) (before : List ℕ) (n k : ℕ) (d : Dest) → AreNames names → n ≤ 1000000 → IsLevelOf names k → IsDestOf names d → HasNoEnd before → HasNoEnd (one_number before n (copy_text names k d))
copy_endless names before n k d are low level dest front =
    both_parts (before ++ decimal n) (copy_text names k d)
    (both_parts before (decimal n) front (run_endless (decimal n) (decimal_is_run n low).each))
    (both_parts (((codes ", " ++ name_of names k) ++ codes ", ") ++ dest_text names d) (codes ")")
    (both_parts ((codes ", " ++ name_of names k) ++ codes ", ") (dest_text names d)
    (both_parts (codes ", " ++ name_of names k) (codes ", ")
    (both_parts (codes ", ") (name_of names k) (literal (codes ", ") refl) (run_endless (name_of names k) (level_run names k are level).each))
    (literal (codes ", ") refl))
    (run_endless (dest_text names d) (dest_run names d are dest).each))
    (literal (codes ")") refl))

pub endless : (names : List (List ℕ)) (a : Action) → AreNames names → HasSpelling names a → HasNoEnd (canonical names a)
endless names (Forward n m Nothing) are (low, high, keeps) = two_endless (codes "Forward(") n m (codes ", False, False, NONE)") low high (literal (codes "Forward(") refl) (literal (codes ", False, False, NONE)") refl)
endless names (Forward n m (Store k)) are (low, high, keeps) =
    two_endless (codes "Forward(") n m (keep_text names (Store k)) low high (literal (codes "Forward(") refl)
    (both_parts (codes ", True, False, " ++ name_of names k) (codes ")")
    (both_parts (codes ", True, False, ") (name_of names k) (literal (codes ", True, False, ") refl) (run_endless (name_of names k) (level_run names k are keeps).each))
    (literal (codes ")") refl))
endless names (Forward n m Tape) are (low, high, keeps) = two_endless (codes "Forward(") n m (codes ", False, True, WORK)") low high (literal (codes "Forward(") refl) (literal (codes ", False, True, WORK)") refl)
endless names (Reverse n m) are (low, high, one) = two_endless (codes "Reverse(") n m (codes ", True)") low high (literal (codes "Reverse(") refl) (literal (codes ", True)") refl)
endless names (Copy n k d) are (low, level, dest) = copy_endless names (codes "Copy(") n k d are low level dest (literal (codes "Copy(") refl)
endless names (Move n k d) are (low, level, dest) = copy_endless names (codes "Move(") n k d are low level dest (literal (codes "Move(") refl)
endless names EndForward are spells = literal (codes "EndForward()") refl
endless names EndReverse are spells = literal (codes "EndReverse()") refl

line_first : (line rest : List ℕ) → HasNoEnd line → lines (line ++ 10 ∷ rest) ≡ line ∷ lines rest
unfolding lines
line_first [] rest all = refl
line_first (b ∷ bs) rest all = rw all.0 (ap (longer_line b) (line_first bs rest all.1))

-- the lines of a certificate say nothing
comment_passed : (text : List ℕ) → IsPassed (35 ∷ 33 ∷ text)
unfolding line_tokens
comment_passed text = refl

one_end : (text : List ℕ) → HasOneEnd text → HasNoEnd text
one_end [] all = tt
one_end (b ∷ bs) all = (ne_eqb b 10 all.0, one_end bs all.1)

nothing_left : (names : List (List ℕ)) → LinesSay names (lines []) []
unfolding lines line_tokens
nothing_left names = (tt, tt)

certificate_passed : (names : List (List ℕ)) (ts : List (List ℕ)) → AllByRecursion HasOneEnd ts → LinesSay names (lines (flat_map certificate_line ts)) []
certificate_passed names [] all = nothing_left names
certificate_passed names (t ∷ ts) all =
    let line : List ℕ = 35 ∷ 33 ∷ t in
    let rest : List ℕ = flat_map certificate_line ts in
    let first : lines ((line ++ 10 ∷ []) ++ rest) ≡ line ∷ lines rest =
    ap lines (append_assoc line (10 ∷ []) rest) ∙ line_first line rest (refl, (refl, one_end t all.0)) in
    subst (λ (ls : List (List ℕ)). LinesSay names ls []) (sym first) (comment_passed t, certificate_passed names ts all.1)

canonical_lines : (names : List (List ℕ)) (list : List Action) (rest : List ℕ) → AreNames names → AllByRecursion (HasSpelling names) list → LinesSay names (lines rest) [] → LinesSay names (lines (text_of names list ++ rest)) list
canonical_lines names [] rest are spells passed = passed
canonical_lines names (a ∷ list) rest are spells passed =
    let line : List ℕ = canonical names a in
    let parts : ((line ++ 10 ∷ []) ++ text_of names list) ++ rest ≡ line ++ 10 ∷ (text_of names list ++ rest) =
    append_assoc (line ++ 10 ∷ []) (text_of names list) rest ∙ append_assoc line (10 ∷ []) (text_of names list ++ rest) in
    let first : lines (text_of names (a ∷ list) ++ rest) ≡ line ∷ lines (text_of names list ++ rest) =
    ap lines parts ∙ line_first line (text_of names list ++ rest) (endless names a are spells.0) in
    subst (λ (ls : List (List ℕ)). LinesSay names ls (a ∷ list)) (sym first) (inr (canonical_says names a are spells.0, canonical_lines names list rest are spells.1 passed))

pub canonical_read : CanonicalIsRead
canonical_read names are list few spells ts all = record { few = few; says = canonical_lines names list (flat_map certificate_line ts) are spells (certificate_passed names ts all) }
