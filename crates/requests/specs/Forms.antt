-- No public clause cites this file. What the reader of a command's words computes. A form says what is allowed at each
-- place. The first form that takes all words is the command's.
use Rattle.std.specs.Prelude.{◌≡◌, ℕ, ◌==◌, Bool, not, ◌&&◌, if◌then◌else◌, List, [], ◌∷◌, length, codes, decimal, Option, None, Some}
use Rattle.std.specs.Option.{option_or}
use Rattle.std.specs.Result.{result_ok}
use Rattle.std.specs.Str.{bytes_eq}
use Rattle.hex.specs.Hex.{encode_lower, decode_sized}
use Rattle.requests.specs.declared.kind.PlanKind.{PlanKind}
use Rattle.requests.specs.declared.kind.PlanKind.TheVariants.{Revolve, Multistage, Disk, Hrevolve}
use Rattle.requests.specs.declared.question.Question.{Question}
use Rattle.requests.specs.declared.question.Question.TheVariants.{State, LastWrite, LastChange}
use Rattle.requests.specs.ParserSteps.{◌>>=◌}
use Rattle.line_texts.specs.Parsers as texts
use Rattle.requests.specs.ChoiceParser.{number_of}
use Rattle.requests.specs.Operands.{Schedule, by_name, made, IsName, IsScheduleName, CanBeGiven, MayBeNamed, IsNumber, IsAddress, IsDigest, word_or_dash, schedule_word}
use Rattle.line_texts.specs.Numbers.{address_word}
use Rattle.requests.specs.Request.{Command, run, plan, plan_periodic, check, certify, cost, ask, find, asm, disasm, console, demo, kind_word}

-- ---- places

-- What is allowed at a place of a form: a fixed word, a name, an optional name, or a schedule's name. Or a schedule or
-- `@revolve`, a number, an address or a digest.
pub data Place : Type 0 where
  fixed : List ℕ → Place
  named : Place
  named_or_none : Place
  schedule_named : Place
  scheduled : Place
  numbered : Place
  addressed : Place
  digested : Place

abbrev pub Value : Place → Type 0
Value (fixed text) = Unit {0}
Value named = List ℕ
Value named_or_none = Option (List ℕ)
Value schedule_named = List ℕ
Value scheduled = Schedule
Value numbered = ℕ
Value addressed = ℕ
Value digested = List ℕ

abbrev pub word_at : (p : Place) → Value p → List ℕ
word_at (fixed text) v = text
word_at named v = v
word_at named_or_none v = word_or_dash v
word_at schedule_named v = v
word_at scheduled v = schedule_word v
word_at numbered v = decimal v
word_at addressed v = address_word v
word_at digested v = encode_lower v

abbrev pub Allows : (p : Place) → Value p → Type 0
Allows (fixed text) v = Unit {0}
Allows named v = IsName v
Allows named_or_none v = MayBeNamed v
Allows schedule_named v = IsScheduleName v
Allows scheduled v = CanBeGiven v
Allows numbered v = IsNumber v
Allows addressed v = IsAddress v
Allows digested v = IsDigest v

-- ---- what a place takes

abbrev pub is_name : List ℕ → Bool
is_name word = not (length word == 0)

abbrev pub is_schedule_name : List ℕ → Bool
is_schedule_name word = is_name word && not (bytes_eq word (codes "@revolve"))

-- the name that a word is, unless it is the word for none
abbrev pub name_or_none : List ℕ → Option (List ℕ)
name_or_none word = if bytes_eq word (codes "-") then None else Some word

-- the schedule that a word names
abbrev pub schedule_of : List ℕ → Schedule
schedule_of word = if bytes_eq word (codes "@revolve") then made else by_name word

-- the address that a word is
abbrev pub address_of : List ℕ → Option ℕ
address_of word = texts.address_of word

-- the digest that a word is, which is spelled so
unfoldable pub digest_of : List ℕ → Option (List ℕ)
digest_of word = result_ok (decode_sized word 32) >>= λ bytes. if bytes_eq (encode_lower bytes) word then Some bytes else None

abbrev pub taken : (p : Place) → List ℕ → Option (Value p)
taken (fixed text) word = if bytes_eq word text then Some tt else None
taken named word = if is_name word then Some word else None
taken named_or_none word = if is_name word then Some (name_or_none word) else None
taken schedule_named word = if is_schedule_name word then Some word else None
taken scheduled word = if is_name word then Some (schedule_of word) else None
taken numbered word = number_of word
taken addressed word = address_of word
taken digested word = digest_of word

-- what a place takes of the first word, and the words after it
unfoldable pub front_taken : (p : Place) → List (List ℕ) → Option (Value p × List (List ℕ))
front_taken p [] = None
front_taken p (word ∷ words) = taken p word >>= λ v. Some (v, words)

-- ---- forms

abbrev pub Values : List Place → Type 0
Values [] = Unit {0}
Values (p ∷ ps) = Value p × Values ps

abbrev pub words_at : (ps : List Place) → Values ps → List (List ℕ)
words_at [] vs = []
words_at (p ∷ ps) vs = word_at p vs.0 ∷ words_at ps vs.1

abbrev pub AllAllowed : (ps : List Place) → Values ps → Type 0
AllAllowed [] vs = Unit {0}
AllAllowed (p ∷ ps) vs = Allows p vs.0 × AllAllowed ps vs.1

abbrev pub all_taken : (ps : List Place) → List (List ℕ) → Option (Values ps)
all_taken [] [] = Some tt
all_taken [] (word ∷ words) = None
all_taken (p ∷ ps) words = front_taken p words >>= λ x. all_taken ps x.1 >>= λ vs. Some (x.0, vs)

-- A place took this value, from the first of the remaining words. Without words nothing is taken, and nothing after a
-- place took nothing.
abbrev pub Takes : (p : Place) → Option (List (List ℕ)) → Value p → Option (List (List ℕ)) → Type 0
Takes p None v rest = rest ≡ None
Takes p (Some words) v rest = front_taken p words ≡ (rest >>= λ behind. Some (v, behind))

-- what was taken, if nothing is left after it
abbrev pub finished : {A : Type 0} → Option (List (List ℕ)) → A → Option A
finished None x = None
finished (Some []) x = Some x
finished (Some (word ∷ words)) x = None

-- these places took these values; that was all if nothing is left
abbrev pub TakesAll : (ps : List Place) → Option (List (List ℕ)) → Values ps → Option (List (List ℕ)) → Type 0
TakesAll ps old vs last = (old >>= all_taken ps) ≡ finished last vs

-- a form, and the command that its values are
pub record Form : Type 0 where
  pub places : List Place
  pub make : Values places → Command

abbrev pub form_taken : Form → List (List ℕ) → Option Command
form_taken f words = all_taken f.places words >>= λ vs. Some (f.make vs)

-- ---- the forms

abbrev pub run_form : Form
run_form = record {
  places = fixed (codes "run") ∷ named ∷ named_or_none ∷ named ∷ scheduled ∷ numbered ∷ [];
  make = λ v. run (record {
    run = record { program = v.1.0; journal = v.1.1.0; book = v.1.1.1.0; steps = v.1.1.1.1.1.0 };
    schedule = v.1.1.1.1.0;
  });
}

abbrev pub plan_form : PlanKind → Form
plan_form kind = record {
  places = fixed (codes "plan") ∷ fixed (kind_word kind) ∷ named ∷ numbered ∷ [];
  make = λ v. plan (record { kind = kind; book = v.1.1.0; steps = v.1.1.1.0 });
}

abbrev pub periodic_form : Form
periodic_form = record {
  places = fixed (codes "plan") ∷ fixed (codes "periodic") ∷ named ∷ numbered ∷ numbered ∷ [];
  make = λ v. plan_periodic (record { book = v.1.1.0; steps = v.1.1.1.0; period = v.1.1.1.1.0 });
}

abbrev pub check_form : Form
check_form = record {
  places = fixed (codes "check") ∷ named ∷ schedule_named ∷ numbered ∷ [];
  make = λ v. check (record { book = v.1.0; schedule = v.1.1.0; steps = v.1.1.1.0 });
}

abbrev pub certify_form : Form
certify_form = record {
  places = fixed (codes "certify") ∷ named ∷ schedule_named ∷ named ∷ numbered ∷ [];
  make = λ v. certify (record { book = v.1.0; schedule = v.1.1.0; certificate = v.1.1.1.0; steps = v.1.1.1.1.0 });
}

abbrev pub cost_form : Form
cost_form = record {
  places = fixed (codes "cost") ∷ named ∷ schedule_named ∷ numbered ∷ [];
  make = λ v. cost (record { book = v.1.0; schedule = v.1.1.0; steps = v.1.1.1.0 });
}

-- a question by its word, and its last operand
abbrev pub ask_places : List ℕ → Place → List Place
ask_places word p = fixed (codes "ask") ∷ fixed word ∷ named ∷ named_or_none ∷ named ∷ schedule_named ∷ numbered ∷ p ∷ []

abbrev pub ask_form : List ℕ → (p : Place) → (Value p → Question) → Form
ask_form word p question = record {
  places = ask_places word p;
  make = λ v. ask (record {
    question = question v.1.1.1.1.1.1.1.0;
    run = record { program = v.1.1.0; journal = v.1.1.1.0; book = v.1.1.1.1.0; steps = v.1.1.1.1.1.1.0 };
    schedule = v.1.1.1.1.1.0;
  });
}

abbrev pub find_form : Form
find_form = record {
  places = fixed (codes "ask") ∷ fixed (codes "find") ∷ named ∷ named_or_none ∷ numbered ∷ digested ∷ [];
  make = λ v. find (record { program = v.1.1.0; journal = v.1.1.1.0; steps = v.1.1.1.1.0; digest = v.1.1.1.1.1.0 });
}

abbrev pub asm_form : Form
asm_form = record { places = fixed (codes "asm") ∷ named ∷ []; make = λ v. asm (record { source = v.1.0 }) }

abbrev pub disasm_form : Form
disasm_form = record { places = fixed (codes "disasm") ∷ named ∷ []; make = λ v. disasm (record { program = v.1.0 }) }

abbrev pub console_form : Form
console_form = record {
  places = fixed (codes "console") ∷ named ∷ named_or_none ∷ named ∷ named ∷ numbered ∷ [];
  make = λ v. console (record { program = v.1.0; journal = v.1.1.0; book = v.1.1.1.0; script = v.1.1.1.1.0; steps = v.1.1.1.1.1.0 });
}

abbrev pub demo_form : Form
demo_form = record {
  places = fixed (codes "demo") ∷ numbered ∷ numbered ∷ numbered ∷ [];
  make = λ v. demo (record { number = v.1.0; steps = v.1.1.0; slots = v.1.1.1.0 });
}

abbrev pub forms : List Form
forms =
    run_form ∷ plan_form Revolve ∷ plan_form Multistage ∷ plan_form Disk ∷ plan_form Hrevolve ∷ periodic_form
    ∷ check_form ∷ certify_form ∷ cost_form ∷ ask_form (codes "state") numbered State ∷ ask_form (codes "last-write") addressed LastWrite
    ∷ ask_form (codes "last-change") addressed LastChange ∷ find_form ∷ asm_form ∷ disasm_form ∷ console_form ∷ demo_form ∷ []

-- the command found before, or that of the first form that takes all words
abbrev pub first_of : Option Command → List Form → List (List ℕ) → Option Command
first_of found [] words = found
first_of found (f ∷ fs) words = first_of (option_or found (form_taken f words)) fs words

-- the command that the words are
unfoldable pub command_of : List (List ℕ) → Option Command
command_of words = first_of None forms words
