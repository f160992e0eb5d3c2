-- Texts that are written one after the other, and the pieces of a list's text.
use Rattle.std.proofs.Common.{◌≡◌, ◌≢◌, ◌==◌, ℕ, zero, suc, ◌+◌, ◌≤◌, ◌++◌, ◌<◌, true, false, inl, inr, List, [], ◌∷◌, length, map, take, drop, append_assoc, append-nil, Option, Some, None, refl, sym, ◌∙◌, ap, subst, arith, add-zero, slice_get}
use Rattle.std.specs.List.{flat_map, concat, AllByRecursion}
use Rattle.std.proofs.lemmas.List.Concat.{concat_is}
use Rattle.std.proofs.lemmas.Bool.{false≢true, eqb-true}
use Rattle.action_text.specs.Canonical.{HasSpelling}
use Rattle.std.specs.FinMap as finmap
use Rattle.std.proofs.lemmas.Grind.{flat_map-append}
use Rattle.std.proofs.lemmas.List.{length-drop, length-append, take_all, take-append-drop}
use Rattle.plan_types.specs.declared.action.Action.{Action}
use Rattle.keepers.specs.Counts.{raised}
use Rattle.keepers.specs.Claims.{Tells, AddsPrefix}
use Rattle.rv_machine.specs.declared.status.Status.TheVariants.{Running}
use Rattle.reverse_runner.specs.KeepersSeen.{Calls, Called}
use Rattle.endings.specs.declared.outcome.Outcome.{Outcome}
use Rattle.endings.specs.Outcomes.{done, stopped}
use Rattle.schedule_rules.proofs.VerdictReasons.{take_one_more}
use Rattle.requests.proofs.Lists.{get_map, none_left}
use Rattle.reversal.specs.Job.{write}
use Rattle.reversal.specs.Output.{Adds}
use Rattle.reversal.specs.Moment.{Moment, NothingFails, SinkFails}
use Rattle.reversal.specs.Deeds.{no_calls, writing, bytes_of}
use Rattle.reversal.specs.Course.{Shown, AddsAndPart, DidUntil, EndsShowing}
use Rattle.reversal.specs.Decision.{course_of}
use Rattle.reversal.specs.Plans.{in_pieces}
use Rattle.reversal.proofs.DeedSequences.{tells_then, tells_nothing, raised_then, raised_none, did_one}

-- a text shows no states
abbrev pub nothing_shown : Shown
nothing_shown = record { states = λ n. record { pc = 0; registers = []; status = Running; item = 0; offset = 0; written = 0; memory = finmap.empty }; answer = None; orders = [] }

-- no keeper was called
pub not_called : (calls : Calls) → Called no_calls calls calls
not_called calls = record { put_calls = λ k. raised_none (calls.puts k); get_calls = λ k. raised_none (calls.gets k); free_calls = λ k. raised_none (calls.frees k) }

-- a moment beside another, where no keeper was called and no step taken
pub record IsBeside (a c : Moment) : Type 0 where
  pub steps : c.steps ≡ a.steps
  pub calls : c.calls ≡ a.calls

uncalled : (a c : Moment) → IsBeside a c → Called no_calls a.calls c.calls
uncalled a c is = subst (Called no_calls a.calls) (sym is.calls) (not_called a.calls)

-- all texts were written
pub texts_done : (texts : List (List ℕ)) (e : Outcome) (a c : Moment) → IsBeside a c → NothingFails a c → e ≡ done → Tells a.told c.told (Adds (bytes_of texts)) → c.writes ≡ raised a.writes (length texts) →
    EndsShowing (course_of (write texts)) e a c
texts_done texts e a c beside quiet is added wrote =
    let still = beside.steps ∙ sym (add-zero a.steps) in (
      nothing_shown,
      (
        tt,
        inl (
          is,
          record {
            did = did_one (writing texts) a c (bytes_of texts) (length texts) refl refl added wrote still (uncalled a c beside);
            output_whole = added;
            stepped = still;
            answered = tt;
            held = tt;
            quiet = quiet;
          },
        ),
      ),
    )

-- behind the first texts
get_behind : {A : Type 0} (xs ys : List A) (y : A) → slice_get (xs ++ y ∷ ys) (length xs) ≡ Some y
get_behind [] ys y = refl
get_behind (x ∷ xs) ys y = get_behind xs ys y

take_front : {A : Type 0} (xs ys : List A) → take (length xs) (xs ++ ys) ≡ xs
take_front [] [] = refl
take_front [] (y ∷ ys) = refl
take_front (x ∷ xs) ys = ap (λ l. x ∷ l) (take_front xs ys)

-- some texts were written, and the next in part
pub texts_cut : (front : List (List ℕ)) (piece : List ℕ) (rest texts : List (List ℕ)) (e : Outcome) (a c : Moment) → IsBeside a c → SinkFails a c → texts ≡ front ++ piece ∷ rest → e ≡ stopped 0 →
    Tells a.told c.told (AddsAndPart (bytes_of front) piece) → c.writes ≡ raised a.writes (length front + 1) → EndsShowing (course_of (write texts)) e a c
texts_cut front piece rest texts e a c beside fails are is added wrote =
    let before : take (length front) texts ≡ front = ap (take (length front)) are ∙ take_front front (piece ∷ rest) in
    let P : List (List ℕ) → Type 0 = λ l. Tells a.told c.told (AddsAndPart (bytes_of l) piece) in
    let until : DidUntil (writing texts ∷ []) 0 a c = record {
      deed = writing texts;
      there = refl;
      whole = length front;
      piece = piece;
      next = ap (λ l. slice_get l (length front)) are ∙ get_behind front rest piece;
      added = subst P (sym before) added;
      wrote = let all = wrote in omega (arith, all);
      counted = beside.steps ∙ sym (add-zero a.steps);
      called = uncalled a c beside;
    } in
    (nothing_shown, (tt, inr (inl (0, is, record { until = until; answered = tt; held = tt; fails = fails }))))

-- the same in two parts
pub texts_stopped : (front : List (List ℕ)) (piece : List ℕ) (rest texts : List (List ℕ)) (e : Outcome) (mid : Option (List ℕ)) (u : ℕ) (a c : Moment) → IsBeside a c → SinkFails a c → texts ≡ front ++ piece ∷ rest → e ≡ stopped 0 →
    Tells a.told mid (Adds (bytes_of front)) → u ≡ raised a.writes (length front) → Tells mid c.told (AddsPrefix piece) → c.writes ≡ raised u 1 → EndsShowing (course_of (write texts)) e a c
texts_stopped front piece rest texts e mid u a c beside fails are is added wrote part once =
    texts_cut front piece rest texts e a c beside fails are is
    (tells_then a.told mid c.told (Adds (bytes_of front)) (AddsPrefix piece) (AddsAndPart (bytes_of front) piece) (λ x y z p q. (q.0, q.1 ∙ ap (λ l. l ++ take q.0 piece) p)) added part)
    (let all = raised_then a.writes u c.writes (length front) 1 wrote once in omega (arith, all))

-- one text more
pub text_more : (front : List (List ℕ)) (piece : List ℕ) (old mid new : Option (List ℕ)) → Tells old mid (Adds (bytes_of front)) → Tells mid new (Adds piece) → Tells old new (Adds (bytes_of (front ++ piece ∷ [])))
text_more front piece old mid new = tells_then old mid new (Adds (bytes_of front)) (Adds piece) (Adds (bytes_of (front ++ piece ∷ []))) (λ a b c p q.
    q ∙ ap (λ l. l ++ piece) p ∙ append_assoc a (bytes_of front) piece ∙ ap (λ l. a ++ l) (ap (λ l. bytes_of front ++ l) (sym (append-nil piece)) ∙ sym (flat_map-append (λ l. l) front (piece ∷ []))))

-- ---- pieces

-- the bound on the recursion doesn't matter
pub drop_map : {A B : Type 0} (f : A → B) (n : ℕ) (xs : List A) → drop n (map f xs) ≡ map f (drop n xs)
drop_map f zero [] = refl
drop_map f zero (x ∷ xs) = refl
drop_map f (suc n) [] = refl
drop_map f (suc n) (x ∷ xs) = drop_map f n xs

no_piece : (n : ℕ) → in_pieces n [] ≡ []
no_piece zero = refl
no_piece (suc n) = refl

-- the first piece, and the pieces of what is left
pub record Begins {A : Type 0} (f : A → List ℕ) (n : ℕ) (rest : List A) : Type 0 where
  pub left : ℕ
  pub enough : length (drop 64 rest) ≤ left
  pub pieces : in_pieces n (map f rest) ≡ flat_map (λ l. l) (take 64 (map f rest)) ∷ in_pieces left (map f (drop 64 rest))

pub piece_begins : {A : Type 0} (f : A → List ℕ) (n : ℕ) (rest : List A) → rest ≢ [] → length rest ≤ n → Begins f n rest
piece_begins f n [] some enough = absurd (some refl)
piece_begins f zero (a ∷ rest) some enough = absurd (omega (arith, enough))
piece_begins f (suc m) (a ∷ rest) some enough = record {
  left = m;
  enough = let short = length-drop 64 (a ∷ rest) in omega (arith, short, enough);
  pieces = ap (λ l. flat_map (λ x. x) (take 64 (f a ∷ map f rest)) ∷ in_pieces m l) (drop_map f 64 (a ∷ rest));
}

pub pieces_end : {A : Type 0} (f : A → List ℕ) (n : ℕ) (rest : List A) → rest ≡ [] → in_pieces n (map f rest) ≡ []
pieces_end f n rest none = ap (λ l. in_pieces n (map f l)) none ∙ no_piece n

-- the pieces are the lines
pub pieces_bytes : (n : ℕ) (lines : List (List ℕ)) → length lines ≤ n → bytes_of (in_pieces n lines) ≡ bytes_of lines
pieces_bytes zero [] enough = refl
pieces_bytes zero (l ∷ lines) enough = absurd (omega (arith, enough))
pieces_bytes (suc n) [] enough = refl
pieces_bytes (suc n) (l ∷ lines) enough =
    let short = length-drop 64 (l ∷ lines) in
    ap (λ b. bytes_of (take 64 (l ∷ lines)) ++ b) (pieces_bytes n (drop 64 (l ∷ lines)) (omega (arith, short, enough)))
    ∙ sym (flat_map-append (λ x. x) (take 64 (l ∷ lines)) (drop 64 (l ∷ lines)))
    ∙ ap bytes_of (take-append-drop 64 (l ∷ lines))

-- one line more
pub piece_more : {A : Type 0} (f : A → List ℕ) (list : List A) (i : ℕ) (a : A) (old new : List ℕ) → slice_get list i ≡ Some a → old ≡ bytes_of (take i (map f list)) → new ≡ old ++ f a → new ≡ bytes_of (take (i + 1) (map f list))
piece_more f list i a old new at is more =
    more ∙ ap (λ l. l ++ f a) is ∙ ap (λ l. bytes_of (take i (map f list)) ++ l) (sym (append-nil (f a)))
    ∙ sym (flat_map-append (λ l. l) (take i (map f list)) (f a ∷ [])) ∙ ap bytes_of (sym (take_one_more (map f list) i (f a) (get_map f list i a at)))

-- where nothing is left behind the first i, of 64 at most, these are the first 64
pub all_taken : {A : Type 0} (list : List A) (i : ℕ) → drop i list ≡ [] → i ≤ 64 → (take i list ≡ take 64 list) × (drop 64 list ≡ [])
all_taken list i none few =
    let short = none_left list i none in
    (take_all i list short ∙ sym (take_all 64 list (omega (arith, short, few))), drop_past list 64 (omega (arith, short, few)))
  where
    drop_past : {A : Type 0} (list : List A) (n : ℕ) → length list ≤ n → drop n list ≡ []
    drop_past [] zero h = refl
    drop_past [] (suc n) h = refl
    drop_past (x ∷ list) zero h = absurd (omega (arith, h))
    drop_past (x ∷ list) (suc n) h = drop_past list n (omega (arith, h))

-- Some of all texts were written: those of the first lines. Behind them stand those of the lines that are left, and the last
-- ones.
pub record IsWritten {A : Type 0} (f : A → List ℕ) (all : List (List ℕ)) (last : List (List ℕ)) (rest : List A) (old now : Option (List ℕ)) (w v : ℕ) : Type 0 where
  pub front : List (List ℕ)
  pub left : ℕ
  pub enough : length rest ≤ left
  pub pieces : all ≡ front ++ (in_pieces left (map f rest) ++ last)
  pub told : Tells old now (Adds (bytes_of front))
  pub writes : v ≡ raised w (length front)

pub written_none : {A : Type 0} (f : A → List ℕ) (last : List (List ℕ)) (list : List A) (old : Option (List ℕ)) (w : ℕ) → IsWritten f (in_pieces (length list) (map f list) ++ last) last list old old w w
written_none f last list old w = record { front = []; left = length list; enough = omega arith; pieces = refl; told = tells_nothing old old refl; writes = raised_none w }

-- the same where no last ones stand behind them
pub written_none_alone : {A : Type 0} (f : A → List ℕ) (list : List A) (old : Option (List ℕ)) (w : ℕ) → IsWritten f (in_pieces (length list) (map f list)) [] list old old w w
written_none_alone f list old w =
    let P : List (List ℕ) → Type 0 = λ all. IsWritten f all [] list old old w w in
    subst P (append-nil (in_pieces (length list) (map f list))) (written_none f [] list old w)

pub written_more : {A : Type 0} (f : A → List ℕ) (all : List (List ℕ)) (last : List (List ℕ)) (rest after : List A) (piece : List ℕ) (old mid new : Option (List ℕ)) (w u v : ℕ) → IsWritten f all last rest old mid w u → rest ≢ [] → after ≡ drop 64 rest →
    piece ≡ bytes_of (take 64 (map f rest)) → Tells mid new (Adds piece) → v ≡ raised u 1 → IsWritten f all last after old new w v
written_more f all last rest after piece old mid new w u v so_far some behind is added once =
    let begins = piece_begins f so_far.left rest some so_far.enough in
    record {
      front = so_far.front ++ piece ∷ [];
      left = begins.left;
      enough = let short = ap length behind in omega (arith, short, begins.enough);
      pieces =
          so_far.pieces
          ∙ ap (λ l. so_far.front ++ (l ++ last)) (begins.pieces ∙ ap (λ p. p ∷ in_pieces begins.left (map f (drop 64 rest))) (sym is) ∙ ap (λ l. piece ∷ in_pieces begins.left (map f l)) (sym behind))
          ∙ sym (append_assoc so_far.front (piece ∷ []) (in_pieces begins.left (map f after) ++ last));
      told = text_more so_far.front piece old mid new so_far.told added;
      writes = let longer = length-append so_far.front (piece ∷ []) in let all_writes = raised_then w u v (length so_far.front) 1 so_far.writes once in all_writes ∙ ap (raised w) (sym longer);
    }

-- texts more
texts_more : (front last : List (List ℕ)) (old mid new : Option (List ℕ)) → Tells old mid (Adds (bytes_of front)) → Tells mid new (Adds (concat last)) → Tells old new (Adds (bytes_of (front ++ last)))
texts_more front last old mid new = tells_then old mid new (Adds (bytes_of front)) (Adds (concat last)) (Adds (bytes_of (front ++ last))) (λ a b c p q.
    q ∙ (λ i. p i ++ concat_is last i) ∙ append_assoc a (bytes_of front) (bytes_of last) ∙ ap (λ l. a ++ l) (sym (flat_map-append (λ l. l) front last)))

-- How the texts come to their end, from a moment before all of them to one after it, by what was told and written between.
module _ {A : Type 0} (f : A → List ℕ) (all last : List (List ℕ)) (rest : List A) (e : Outcome) (mid : Option (List ℕ)) (u : ℕ) (a c : Moment) (beside : IsBeside a c) (so_far : IsWritten f all last rest a.told mid a.writes u) where
  pub written_stopped : (piece : List ℕ) → SinkFails a c → rest ≢ [] → piece ≡ bytes_of (take 64 (map f rest)) → e ≡ stopped 0 → Tells mid c.told (AddsPrefix piece) → c.writes ≡ raised u 1 → EndsShowing (course_of (write all)) e a c
  written_stopped piece fails some is ended part once =
      let begins = piece_begins f so_far.left rest some so_far.enough in
      texts_stopped so_far.front piece (in_pieces begins.left (map f (drop 64 rest)) ++ last) all e mid u a c beside fails
      (so_far.pieces ∙ ap (λ l. so_far.front ++ (l ++ last)) (begins.pieces ∙ ap (λ p. p ∷ in_pieces begins.left (map f (drop 64 rest))) (sym is)))
      ended so_far.told so_far.writes part once

  -- the last texts
  last_are : rest ≡ [] → all ≡ so_far.front ++ last
  last_are none = so_far.pieces ∙ ap (λ l. so_far.front ++ (l ++ last)) (pieces_end f so_far.left rest none)

  pub written_whole : NothingFails a c → rest ≡ [] → last ≡ [] → e ≡ done → c.told ≡ mid → c.writes ≡ u → EndsShowing (course_of (write all)) e a c
  written_whole quiet none no_last ended told wrote =
      let is = last_are none ∙ ap (λ l. so_far.front ++ l) no_last ∙ append-nil so_far.front in
      let P : List (List ℕ) → Type 0 = λ l. Tells a.told mid (Adds (bytes_of l)) in
      let T : Option (List ℕ) → Type 0 = λ o. Tells a.told o (Adds (bytes_of all)) in
      texts_done all e a c beside quiet ended (subst T (sym told) (subst P (sym is) so_far.told)) (wrote ∙ so_far.writes ∙ ap (raised a.writes) (sym (ap length is)))

  pub written_all : (texts : List (List ℕ)) → NothingFails a c → rest ≡ [] → last ≡ texts → e ≡ done → Tells mid c.told (Adds (concat texts)) → c.writes ≡ raised u (length texts) → EndsShowing (course_of (write all)) e a c
  written_all texts quiet none one ended added once =
      let is = last_are none ∙ ap (λ l. so_far.front ++ l) one in
      let P : List (List ℕ) → Type 0 = λ l. Tells a.told c.told (Adds (bytes_of l)) in
      let longer = length-append so_far.front texts in
      let all_writes = raised_then a.writes u c.writes (length so_far.front) (length texts) so_far.writes once in
      texts_done all e a c beside quiet ended (subst P (sym is) (texts_more so_far.front texts a.told mid c.told so_far.told added)) (all_writes ∙ ap (raised a.writes) (sym longer ∙ sym (ap length is)))

  -- the last texts were written but for one of them and those behind it
  pub written_but_some : (before : List (List ℕ)) (piece : List ℕ) (after : List (List ℕ)) → SinkFails a c → rest ≡ [] → last ≡ before ++ piece ∷ after →
      e ≡ stopped 0 → Tells mid c.told (λ x y. AddsPrefix piece (x ++ concat before) y) → c.writes ≡ raised u (length before + 1) → EndsShowing (course_of (write all)) e a c
  written_but_some before piece after fails none some ended part once =
      let front = so_far.front in
      let are = last_are none ∙ ap (λ l. front ++ l) some ∙ sym (append_assoc front before (piece ∷ after)) in
      let longer = length-append front before in
      let told : Tells a.told c.told (AddsAndPart (bytes_of (front ++ before)) piece) =
      tells_then a.told mid c.told (Adds (bytes_of front)) (λ x y. AddsPrefix piece (x ++ concat before) y) (AddsAndPart (bytes_of (front ++ before)) piece) (λ x y z p q.
      (q.0, q.1 ∙ ap (λ l. l ++ take q.0 piece) ((λ i. p i ++ concat_is before i) ∙ append_assoc x (bytes_of front) (bytes_of before) ∙ ap (λ l. x ++ l) (sym (flat_map-append (λ l. l) front before))))) so_far.told part in
      texts_cut (front ++ before) piece after all e a c beside fails are ended told
      (let all_writes = raised_then a.writes u c.writes (length front) (length before + 1) so_far.writes once in all_writes ∙ ap (raised a.writes) (omega (arith, longer)))

-- ---- what is left

-- a list is tested for having any element
pub some_left : {A : Type 0} (rest : List A) → (length rest == 0) ≡ false → rest ≢ []
some_left rest test none = false≢true (sym test ∙ ap (λ l. length l == 0) none)

pub none_left_of : {A : Type 0} (rest : List A) → (length rest == 0) ≡ true → rest ≡ []
none_left_of [] test = refl
none_left_of (a ∷ rest) test = absurd (omega (arith, eqb-true (length (a ∷ rest)) 0 test))

-- a list that can't have an element has none
pub none_behind : {A : Type 0} (rest : List A) → ((rest ≢ []) → false ≡ true) → rest ≡ []
none_behind [] h = refl
none_behind (a ∷ rest) h = absurd (false≢true (h (λ e. absurd cc)))

pub fewer_left : {A : Type 0} (rest after : List A) → rest ≢ [] → after ≡ drop 64 rest → length after < length rest
fewer_left [] after some behind = absurd (some refl)
fewer_left (a ∷ rest) after some behind = let short = length-drop 64 (a ∷ rest) in let same = ap length behind in omega (arith, short, same)

pub spelled_behind : (names : List (List ℕ)) (rest after : List Action) → after ≡ drop 64 rest → AllByRecursion (HasSpelling names) rest → AllByRecursion (HasSpelling names) after
spelled_behind names rest after behind spelled = let P : List Action → Type 0 = λ l. AllByRecursion (HasSpelling names) l in subst P (sym behind) (dropped 64 rest spelled)
  where
    dropped : (n : ℕ) (l : List Action) → AllByRecursion (HasSpelling names) l → AllByRecursion (HasSpelling names) (drop n l)
    dropped zero l h = h
    dropped (suc n) [] h = tt
    dropped (suc n) (a ∷ l) h = dropped n l h.1
