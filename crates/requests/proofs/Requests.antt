-- What words say: the options at their front, and the command behind them, are read in one way.
use Rattle.std.proofs.Common.{◌≡◌, ◌≢◌, ℕ, ◌^◌, ◌<◌, ◌≤◌, ◌+◌, ◌++◌, inl, inr, Bool, true, false, cond, not, ◌||◌, List, [], ◌∷◌, map, length, Option, Some, None, refl, sym, ap, subst, ◌∙◌, arith, append_assoc, zero-add}
use Rattle.std.specs.Prelude.{IfSome, IfNone, decimal, codes, count_by, ◌==◌}
use Rattle.std.specs.List.{AllByRecursion, list_any}
use Rattle.std.specs.Str.{bytes_eq}
use Rattle.std.proofs.lemmas.Bool.{eqb-true, eq-eqb, false≢true}
use Rattle.std.proofs.lemmas.Option.{same_Some, none-some, some_pair_parts}
use Rattle.std.proofs.lemmas.List.Sums.{sum_by-append}
use Rattle.std.proofs.lemmas.Slice.Eq.{bytes_eq-Decides}
use Rattle.requests.specs.declared.request.Request as in_memory
use Rattle.requests.specs.ParserSteps.{◌>>=◌, with_or, after_of}
use Rattle.line_texts.specs.Parsers.{GivesSome, number_at}
use Rattle.requests.specs.Request.{Choice, raw, stack, workers, units, files, files_front, option_word, is_raw, is_stack, is_workers, is_units, is_files, FitsWord, AreOptions, Command, run, plan, plan_periodic, check, certify, cost, ask, find, asm, disasm, console, demo, command_words, Request, Says}
use Rattle.requests.specs.ChoiceParser.{number_of, stack_of, workers_of, unit_of, files_of, choice_of, first_choice, options_at, behind_options, is_like, are_single}
use Rattle.requests.specs.Forms.{command_of}
use Rattle.requests.specs.RequestModel.{request_read, request_of}
use Rattle.requests.proofs.Commands.{command_again, command_read}
use Rattle.line_texts.proofs.Decimal.{number_again, number_taken}
use Rattle.requests.proofs.Steps.{bind_some, is_not, and_parts, and_both, none_so, empty}
use Rattle.line_texts.proofs.Steps.{passed, passed_then, chosen}
use Rattle.requests.proofs.PlaceWords.{number_of_again, number_of_read}
use Rattle.requests.proofs.Texts.{after_again, after_taken}

-- ---- options

-- the word of a level's files, behind the text that it begins with
behind_files : (level : ℕ) (folder : List ℕ) → files_front level ++ folder ≡ codes "--files=" ++ (decimal level ++ (codes ":" ++ folder))
behind_files level folder =
    append_assoc (codes "--files=" ++ decimal level) (codes ":") folder ∙ append_assoc (codes "--files=") (decimal level) (codes ":" ++ folder)

files_again : (level : ℕ) (folder : List ℕ) → level < 2 ^ 64 → folder ≢ [] → files_of (decimal level ++ (codes ":" ++ folder)) ≡ Some (files level folder)
files_again level folder small named =
    ap (λ o. o >>= λ read. after_of (codes ":") read.1 >>= λ name. cond (length name == 0) None (Some (files read.0 name))) (number_again 18446744073709551615 level (codes ":" ++ folder) (omega arith) (omega arith) refl)
    ∙ ap (λ o. o >>= λ name. cond (length name == 0) None (Some (files level name))) (after_again (codes ":") folder)
    ∙ ap (λ b. cond b None (Some (files level folder))) (is_not (length folder == 0) (λ e. named (empty folder e)))

-- what an option is that isn't that of workers, and that isn't that of the stack
abbrev behind_workers : List ℕ → Option Choice
behind_workers word = with_or (after_of (codes "--unit=") word) unit_of (after_of (codes "--files=") word >>= files_of)

abbrev behind_stack : List ℕ → Option Choice
behind_stack word = with_or (after_of (codes "--workers=") word) workers_of (behind_workers word)

pub choice_again : (c : Choice) → FitsWord c → choice_of (option_word c) ≡ Some c
unfolding choice_of after_of
choice_again raw h = refl
choice_again (stack pages) h =
    let rest = after_again (codes "--stack=") (decimal pages) in
    ap (λ o. with_or o stack_of (behind_stack (codes "--stack=" ++ decimal pages))) rest
    ∙ ap (λ o. o >>= λ pages. Some (stack pages)) (number_of_again pages h)
choice_again (workers count) h =
    let rest = after_again (codes "--workers=") (decimal count) in
    ap (λ o. with_or o workers_of (behind_workers (codes "--workers=" ++ decimal count))) rest
    ∙ ap (λ o. o >>= λ count. Some (workers count)) (number_of_again count h)
choice_again (units count) h =
    let rest = after_again (codes "--unit=") (decimal count) in
    ap (λ o. with_or o unit_of (after_of (codes "--files=") (codes "--unit=" ++ decimal count) >>= files_of)) rest
    ∙ ap (λ o. o >>= λ count. Some (units count)) (number_of_again count h)
choice_again (files level folder) h =
    ap choice_of (behind_files level folder)
    ∙ ap (λ o. o >>= files_of) (after_again (codes "--files=") (decimal level ++ (codes ":" ++ folder)))
    ∙ files_again level folder h.0 h.1

-- the word is that of this option
abbrev IsWordOf : List ℕ → Choice → Type 0
IsWordOf word c = (word ≡ option_word c) × FitsWord c

stack_read : (word text : List ℕ) (c : Choice) → after_of (codes "--stack=") word ≡ Some text → stack_of text ≡ Some c → IsWordOf word c
stack_read word text c e is =
    let number = bind_some (number_of text) _ c is in
    let same = same_Some (stack number.0) c number.2 in
    let said = number_of_read text number.0 number.1 in
    let P : Choice → Type 0 = λ x. IsWordOf word x in
    subst P same (after_taken (codes "--stack=") word text e ∙ ap (λ r. codes "--stack=" ++ r) said.0, said.1)

workers_read : (word text : List ℕ) (c : Choice) → after_of (codes "--workers=") word ≡ Some text → workers_of text ≡ Some c → IsWordOf word c
workers_read word text c e is =
    let number = bind_some (number_of text) _ c is in
    let same = same_Some (workers number.0) c number.2 in
    let said = number_of_read text number.0 number.1 in
    let P : Choice → Type 0 = λ x. IsWordOf word x in
    subst P same (after_taken (codes "--workers=") word text e ∙ ap (λ r. codes "--workers=" ++ r) said.0, said.1)

unit_read : (word text : List ℕ) (c : Choice) → after_of (codes "--unit=") word ≡ Some text → unit_of text ≡ Some c → IsWordOf word c
unit_read word text c e is =
    let number = bind_some (number_of text) _ c is in
    let same = same_Some (units number.0) c number.2 in
    let said = number_of_read text number.0 number.1 in
    let P : Choice → Type 0 = λ x. IsWordOf word x in
    subst P same (after_taken (codes "--unit=") word text e ∙ ap (λ r. codes "--unit=" ++ r) said.0, said.1)

files_read : (word text : List ℕ) (c : Choice) → after_of (codes "--files=") word ≡ Some text → files_of text ≡ Some c → IsWordOf word c
files_read word text c e is =
    let number = bind_some (number_at 18446744073709551615 text) _ c is in
    let level = (number.0).0 in
    let name = bind_some (after_of (codes ":") (number.0).1) _ c number.2 in
    let folder = name.0 in
    let some = passed (length folder == 0) (Some (files level folder)) c name.2 in
    let said = number_taken 18446744073709551615 text level (number.0).1 (omega arith) number.1 in
    let behind = said.text ∙ ap (λ r. decimal level ++ r) (after_taken (codes ":") (number.0).1 folder name.1) in
    let P : Choice → Type 0 = λ x. IsWordOf word x in
    subst P (same_Some (files level folder) c some.1) (
      after_taken (codes "--files=") word text e ∙ ap (λ r. codes "--files=" ++ r) behind ∙ sym (behind_files level folder),
      (omega (arith, said.small), λ none. false≢true (sym some.0 ∙ ap (λ l. length l == 0) none)),
    )

last_read : (word : List ℕ) (c : Choice) (o : Option (List ℕ)) → after_of (codes "--unit=") word ≡ o → with_or o unit_of (after_of (codes "--files=") word >>= files_of) ≡ Some c → IsWordOf word c
last_read word c (Some text) e is = unit_read word text c e is
last_read word c None e is = let step = bind_some (after_of (codes "--files=") word) files_of c is in files_read word step.0 c step.1 step.2

later_read : (word : List ℕ) (c : Choice) (o : Option (List ℕ)) → after_of (codes "--workers=") word ≡ o → with_or o workers_of (behind_workers word) ≡ Some c → IsWordOf word c
later_read word c (Some text) e is = workers_read word text c e is
later_read word c None e is = last_read word c (after_of (codes "--unit=") word) refl is

other_read : (word : List ℕ) (c : Choice) (o : Option (List ℕ)) → after_of (codes "--stack=") word ≡ o → with_or o stack_of (behind_stack word) ≡ Some c → IsWordOf word c
other_read word c (Some text) e is = stack_read word text c e is
other_read word c None e is = later_read word c (after_of (codes "--workers=") word) refl is

pub choice_read : (word : List ℕ) (c : Choice) → choice_of word ≡ Some c → IsWordOf word c
unfolding choice_of
choice_read word c e =
    elim (chosen (bytes_eq word (codes "--raw")) _ _ _ e) [
      | inl r ↦ let P : Choice → Type 0 = λ x. IsWordOf word x in subst P (same_Some raw c r.1) ((bytes_eq-Decides word (codes "--raw")).0 r.0, tt)
      | inr s ↦ other_read word c (after_of (codes "--stack=") word) refl s.1
    ]

-- how an option counts
once : (p : Choice → Bool) (x : Choice) (b : Bool) → p x ≡ b → cond {A = ℕ} (p x) 1 0 ≡ cond b 1 0
once p x b f = ap (λ t. cond t 1 0) f

pub counted : (p : Choice → Bool) (x : Choice) (xs : List Choice) → count_by p (x ∷ xs) ≡ cond (p x) 1 0 + count_by p xs
counted p x xs = sum_by-append (λ y. cond (p y) 1 0) (x ∷ []) xs ∙ ap (λ n. n + count_by p xs) (zero-add (cond (p x) 1 0))

-- the first of some options, and the others
first_counts : (p : Choice → Bool) (x : Choice) (xs : List Choice) (b : Bool) → p x ≡ b → (list_any p xs ≡ true → 1 ≤ count_by p xs) → (p x || list_any p xs) ≡ true → 1 ≤ count_by p (x ∷ xs)
first_counts p x xs true f rest e = omega (arith, counted p x xs, once p x true f)
first_counts p x xs false f rest e =
    let more = rest (sym (ap (λ b. b || list_any p xs) f) ∙ e) in
    omega (arith, counted p x xs, more)

any_counts : (p : Choice → Bool) (xs : List Choice) → list_any p xs ≡ true → 1 ≤ count_by p xs
any_counts p [] e = absurd (false≢true e)
any_counts p (x ∷ xs) e = first_counts p x xs (p x) refl (any_counts p xs) e

first_counts_none : (p : Choice → Bool) (x : Choice) (xs : List Choice) (b : Bool) → p x ≡ b → (list_any p xs ≡ false → count_by p xs ≡ 0) → (p x || list_any p xs) ≡ false → count_by p (x ∷ xs) ≡ 0
first_counts_none p x xs true f rest e = absurd (false≢true (sym e ∙ ap (λ b. b || list_any p xs) f))
first_counts_none p x xs false f rest e =
    let none = rest (sym (ap (λ b. b || list_any p xs) f) ∙ e) in
    omega (arith, counted p x xs, none, once p x false f)

none_counts : (p : Choice → Bool) (xs : List Choice) → list_any p xs ≡ false → count_by p xs ≡ 0
none_counts p [] e = refl
none_counts p (x ∷ xs) e = first_counts_none p x xs (p x) refl (none_counts p xs) e

-- a kind of options, of which one may stand
abbrev IsKind : (Choice → Bool) → Type 0
IsKind p = (c : Choice) → p c ≡ true → is_like c ≡ p

raw_kind : IsKind is_raw
raw_kind raw e = refl
raw_kind (stack pages) e = absurd (false≢true e)
raw_kind (workers count) e = absurd (false≢true e)
raw_kind (units count) e = absurd (false≢true e)
raw_kind (files level folder) e = absurd (false≢true e)

stack_kind : IsKind is_stack
stack_kind raw e = absurd (false≢true e)
stack_kind (stack pages) e = refl
stack_kind (workers count) e = absurd (false≢true e)
stack_kind (units count) e = absurd (false≢true e)
stack_kind (files level folder) e = absurd (false≢true e)

workers_kind : IsKind is_workers
workers_kind raw e = absurd (false≢true e)
workers_kind (stack pages) e = absurd (false≢true e)
workers_kind (workers count) e = refl
workers_kind (units count) e = absurd (false≢true e)
workers_kind (files level folder) e = absurd (false≢true e)

unit_kind : IsKind is_units
unit_kind raw e = absurd (false≢true e)
unit_kind (stack pages) e = absurd (false≢true e)
unit_kind (workers count) e = absurd (false≢true e)
unit_kind (units count) e = refl
unit_kind (files level folder) e = absurd (false≢true e)

files_kind : (level : ℕ) → IsKind (is_files level)
files_kind level raw e = absurd (false≢true e)
files_kind level (stack pages) e = absurd (false≢true e)
files_kind level (workers count) e = absurd (false≢true e)
files_kind level (units count) e = absurd (false≢true e)
files_kind level (files k folder) e = ap is_files (sym (eqb-true level k e))

-- where each option is single, a kind stands at most once
single_counts : (p : Choice → Bool) → IsKind p → (options : List Choice) → are_single options ≡ true → count_by p options ≤ 1
single_counts p kind [] e = omega arith
single_counts p kind (c ∷ options) e = by_own (single_counts p kind options (and_parts _ _ e).1) (p c) refl
  where
    by_own : count_by p options ≤ 1 → (b : Bool) → p c ≡ b → count_by p (c ∷ options) ≤ 1
    by_own rest true own =
        let none = sym (ap (λ q. list_any q options) (kind c own)) ∙ none_so _ (and_parts _ _ e).0 in
        omega (arith, counted p c options, once p c true own, none_counts p options none)
    by_own rest false own = omega (arith, counted p c options, once p c false own, rest)

-- and the other way round
alone : (p : Choice → Bool) (c : Choice) (options : List Choice) → p c ≡ true → count_by p (c ∷ options) ≤ 1 → list_any p options ≡ false
alone p c options own h = is_not (list_any p options) (λ any. absurd (omega (arith, any_counts p options any, counted p c options, once p c true own, h)))

first_alone : (c : Choice) (options : List Choice) → AreOptions (c ∷ options) → list_any (is_like c) options ≡ false
first_alone raw options h = alone is_raw raw options refl h.one_raw
first_alone (stack pages) options h = alone is_stack (stack pages) options refl h.one_stack
first_alone (workers count) options h = alone is_workers (workers count) options refl h.one_workers
first_alone (units count) options h = alone is_units (units count) options refl h.one_units
first_alone (files level folder) options h = alone (is_files level) (files level folder) options (eq-eqb level level refl) (h.one_folder level)

others : (c : Choice) (options : List Choice) → AreOptions (c ∷ options) → AreOptions options
others c options h = record {
  one_raw = omega (arith, counted is_raw c options, h.one_raw);
  one_stack = omega (arith, counted is_stack c options, h.one_stack);
  one_workers = omega (arith, counted is_workers c options, h.one_workers);
  one_units = omega (arith, counted is_units c options, h.one_units);
  one_folder = λ level. omega (arith, counted (is_files level) c options, h.one_folder level);
  fit = h.fit.1;
}

options_single : (options : List Choice) → AreOptions options → are_single options ≡ true
options_single [] h = refl
options_single (c ∷ options) h = and_both _ _ (ap not (first_alone c options h)) (options_single options (others c options h))

single_options : (options : List Choice) → are_single options ≡ true → AllByRecursion FitsWord options → AreOptions options
single_options options e fit = record {
  one_raw = single_counts is_raw raw_kind options e;
  one_stack = single_counts is_stack stack_kind options e;
  one_workers = single_counts is_workers workers_kind options e;
  one_units = single_counts is_units unit_kind options e;
  one_folder = λ level. single_counts (is_files level) (files_kind level) options e;
  fit = fit;
}

pub all_both : {A : Type 0} (P : A → Type 0) (xs ys : List A) → AllByRecursion P xs → AllByRecursion P ys → AllByRecursion P (xs ++ ys)
all_both P [] ys h g = g
all_both P (x ∷ xs) ys h g = (h.0, all_both P xs ys h.1 g)

-- reading, option by option
pub record OneMore (words : List (List ℕ)) (c : Choice) (behind : List (List ℕ)) : Type 0 where
  pub options : options_at words ≡ c ∷ options_at behind
  pub rest : behind_options words ≡ behind_options behind
  pub shorter : length behind < length words

pub one_more : (words : List (List ℕ)) (c : Choice) (behind : List (List ℕ)) → first_choice words ≡ Some (c, behind) → OneMore words c behind
unfolding options_at behind_options
one_more [] c behind e = absurd (none-some (c, behind) e)
one_more (word ∷ words) c behind e =
    let step = bind_some (choice_of word) _ (c, behind) e in
    let same = some_pair_parts step.0 c words behind step.2 in
    let is = step.1 ∙ ap (λ x. Some x) same.0 in
    record {
      options = ap (λ o. with_or o (λ choice. choice ∷ options_at words) []) is ∙ ap (λ ws. c ∷ options_at ws) same.1;
      rest = ap (λ o. with_or o (λ choice. behind_options words) (word ∷ words)) is ∙ ap behind_options same.1;
      shorter = omega (arith, ap length same.1);
    }

pub record NoMore (words : List (List ℕ)) : Type 0 where
  pub options : options_at words ≡ []
  pub rest : behind_options words ≡ words

pub no_more : (words : List (List ℕ)) → first_choice words ≡ None → NoMore words
unfolding options_at behind_options
no_more [] e = record { options = refl; rest = refl }
no_more (word ∷ words) e = by_choice (choice_of word) refl
  where
    by_choice : (o : Option Choice) → choice_of word ≡ o → NoMore (word ∷ words)
    by_choice None f = record {
      options = ap (λ o. with_or o (λ choice. choice ∷ options_at words) []) f;
      rest = ap (λ o. with_or o (λ choice. behind_options words) (word ∷ words)) f;
    }
    by_choice (Some c) f = absurd (none-some (c, words) (sym e ∙ ap (λ o. o >>= λ choice. Some (choice, words)) f))

-- the options of a request are read again, before words that begin with none
options_again : (options : List Choice) (word : List ℕ) (words : List (List ℕ)) → AllByRecursion FitsWord options → choice_of word ≡ None →
    (options_at (map option_word options ++ word ∷ words) ≡ options) × (behind_options (map option_word options ++ word ∷ words) ≡ word ∷ words)
unfolding options_at behind_options
options_again [] word words h none =
    (ap (λ o. with_or o (λ choice. choice ∷ options_at words) []) none, ap (λ o. with_or o (λ choice. behind_options words) (word ∷ words)) none)
options_again (c ∷ options) word words h none =
    let all = map option_word options ++ word ∷ words in
    let first = choice_again c h.0 in
    let rest = options_again options word words h.1 none in (
      ap (λ o. with_or o (λ choice. choice ∷ options_at all) []) first ∙ ap (λ l. c ∷ l) rest.0,
      ap (λ o. with_or o (λ choice. behind_options all) (option_word c ∷ all)) first ∙ rest.1,
    )

-- what is read are options, and the words are theirs and those behind
pub record IsFront (words : List (List ℕ)) (options : List Choice) (behind : List (List ℕ)) : Type 0 where
  pub spelled : words ≡ map option_word options ++ behind
  pub fit : AllByRecursion FitsWord options

front_read : (word : List ℕ) (words : List (List ℕ)) → IsFront words (options_at words) (behind_options words) → (o : Option Choice) → choice_of word ≡ o →
    IsFront (word ∷ words) (with_or o (λ choice. choice ∷ options_at words) []) (with_or o (λ choice. behind_options words) (word ∷ words))
front_read word words rest None e = record { spelled = refl; fit = tt }
front_read word words rest (Some c) e =
    let said = choice_read word c e in
    record { spelled = ap (λ w. w ∷ words) said.0 ∙ ap (λ ws. option_word c ∷ ws) rest.spelled; fit = (said.1, rest.fit) }

pub options_read : (words : List (List ℕ)) → IsFront words (options_at words) (behind_options words)
unfolding options_at behind_options
options_read [] = record { spelled = refl; fit = tt }
options_read (word ∷ words) = front_read word words (options_read words) (choice_of word) refl

-- ---- requests

-- a command begins with no option
no_option : (c : Command) → (word : List ℕ) × (words : List (List ℕ)) × (command_words c ≡ word ∷ words) × (choice_of word ≡ None)
unfolding choice_of after_of
no_option (run c) = (codes "run", _, refl, refl)
no_option (check c) = (codes "check", _, refl, refl)
no_option (certify c) = (codes "certify", _, refl, refl)
no_option (cost c) = (codes "cost", _, refl, refl)
no_option (ask c) = (codes "ask", _, refl, refl)
no_option (plan c) = (codes "plan", _, refl, refl)
no_option (plan_periodic c) = (codes "plan", _, refl, refl)
no_option (find c) = (codes "ask", _, refl, refl)
no_option (asm c) = (codes "asm", _, refl, refl)
no_option (disasm c) = (codes "disasm", _, refl, refl)
no_option (console c) = (codes "console", _, refl, refl)
no_option (demo c) = (codes "demo", _, refl, refl)

pub said_is_read : (words : List (List ℕ)) (r : Request) → Says words r → request_read words ≡ Some r
unfolding request_read
said_is_read words r h =
    let first = no_option r.command in
    let spelled = h.spelled ∙ ap (λ ws. map option_word r.options ++ ws) first.2 in
    let read = options_again r.options first.0 first.1 h.options.fit first.3 in
    let options = ap options_at spelled ∙ read.0 in
    let behind = ap behind_options spelled ∙ read.1 ∙ sym first.2 in
    ap (λ l. cond (are_single l) (command_of (behind_options words) >>= λ command. Some (record { options = l; command = command })) None) options
    ∙ ap (λ b. cond b (command_of (behind_options words) >>= λ command. Some (record { options = r.options; command = command })) None) (options_single r.options h.options)
    ∙ ap (λ ws. command_of ws >>= λ command. Some (record { options = r.options; command = command })) behind
    ∙ ap (λ o. o >>= λ command. Some (record { options = r.options; command = command })) (command_again r.command h.allowed)

pub read_is_said : (words : List (List ℕ)) (r : Request) → request_read words ≡ Some r → Says words r
unfolding request_read
read_is_said words r e =
    let single = passed_then (are_single (options_at words)) _ r e in
    let step = bind_some (command_of (behind_options words)) _ r single.1 in
    let options = options_read words in
    let command = command_read (behind_options words) step.0 step.1 in
    let P : Request → Type 0 = λ x. Says words x in
    subst P (same_Some _ r step.2) (record {
      spelled = options.spelled ∙ ap (λ ws. map option_word (options_at words) ++ ws) command.spelled;
      options = single_options (options_at words) single.0 options.fit;
      allowed = command.allowed;
    })

-- words say one request at most
pub one_request : (words : List (List ℕ)) (r s : Request) → Says words r → Says words s → r ≡ s
one_request words r s h g = same_Some r s (sym (said_is_read words r h) ∙ said_is_read words s g)

pub found_said : (words : List (List ℕ)) (o : Option in_memory.Request) → GivesSome request_of o (request_read words) → IfSome o (λ r. Says words (request_of r))
found_said words None e = tt
found_said words (Some r) e = read_is_said words (request_of r) e

pub none_said : (words : List (List ℕ)) (o : Option in_memory.Request) → GivesSome request_of o (request_read words) → IfNone o ((r : Request) → Says words r → ⊥)
none_said words None e = λ r h. none-some r (sym e ∙ said_is_read words r h)
none_said words (Some r) e = tt
