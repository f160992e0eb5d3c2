-- What the reader of requests reads is asked for, and nothing else is.
use Rattle.std.proofs.Common.{◌≡◌, ◌⊎◌, ℕ, Bool, true, false, List, [], ◌∷◌, ◌++◌, length, take, drop, Option, Some, None, Result, Ok, Err, refl, sym, ap, subst, ◌∙◌, inl, inr}
use Rattle.std.specs.Prelude.{codes, cond, nat_eq, ◌==◌, ◌||◌}
use Rattle.std.specs.List.{starts_with}
use Rattle.std.specs.Str.{bytes_eq}
use Rattle.std.proofs.lemmas.Bool.{cases_Bool, eqb-true, or_cases}
use Rattle.std.proofs.lemmas.List.{take-append-drop}
use Rattle.std.proofs.lemmas.Option.{none-some, option_and_then_some, same_Some}
use Rattle.std.proofs.lemmas.Slice.Eq.{bytes_eq-Decides, starts_is}
use Rattle.std.proofs.lemmas.Bool.Decides.{Decides-eqb}
use Rattle.hex.specs.Hex.{decode_of}
use Rattle.hex.specs.declared.error.FromHexError.{FromHexError}
use Rattle.gdb_wire.specs.Numbers.{AreNumbers}
use Rattle.gdb_wire.specs.Requests.{IsKind, IsStop, Asks, IsRequest}
use Rattle.gdb_wire.specs.RequestParser.{number_of, numbers_of, behind, or_other, kind_of, stop_of, register_of, memory_of, inserted, insert_of, removed, remove_of, whole_of, query_with, query_of, plain_of, decoded, command_of, request_with, request_of, ◌>>=◌}
use Rattle.gdb_wire.specs.declared.request.Motion.TheVariants.{Step, Continue, StepBack, ContinueBack}
use Rattle.gdb_wire.specs.declared.request.Request.{Request}
use Rattle.gdb_wire.specs.declared.request.Request.TheVariants.{Supported, Features, NoAcks, Why, Registers, Register, Memory, Insert, Remove, Move, Monitor, Write, Attached, SetThread, Detach, Kill, Other}
use Rattle.gdb_wire.specs.declared.request.StopKind.{StopKind}
use Rattle.gdb_wire.specs.declared.request.StopKind.TheVariants.{Breakpoint, WriteWatch}
use Rattle.gdb_wire.proofs.Numbers.{taken, number_is, number_again, numbers_are, numbers_again}

-- ---- what is asked for is read

stop_again : (kind : StopKind) (digit rest : List ℕ) (at len : ℕ) → IsKind kind digit → AreNumbers rest at len →
    stop_of (digit ++ codes "," ++ rest) ≡ Some (kind, at, len)
unfolding stop_of
stop_again Breakpoint digit rest at len (inl is) are = rw (is, numbers_again rest at len are) refl
stop_again Breakpoint digit rest at len (inr is) are = rw (is, numbers_again rest at len are) refl
stop_again WriteWatch digit rest at len is are = rw (is, numbers_again rest at len are) refl

pub read_again : (text : List ℕ) (request : Request) → Asks text request → request_of text ≡ request
unfolding request_of plain_of query_of whole_of command_of
read_again text Supported (inl is) = ap request_of is
read_again text Supported (inr is) = ap request_of is.1
read_again text (Features from len) is = ap request_of is.1 ∙ ap (or_other (λ (p : ℕ × ℕ). Features p.0 p.1)) (numbers_again is.0 from len is.2)
read_again text NoAcks is = ap request_of is
read_again text Why is = ap request_of is
read_again text Registers is = ap request_of is
read_again text (Register n) is = ap request_of is.1 ∙ ap (or_other Register) (number_again is.0 n is.2)
read_again text (Memory at len) is = ap request_of is.1 ∙ ap (or_other (λ (p : ℕ × ℕ). Memory p.0 p.1)) (numbers_again is.0 at len is.2)
read_again text (Insert kind at len) is =
    ap request_of is.2.1 ∙ ap (or_other inserted) (stop_again kind is.0 is.2.0 at len is.1 is.2.2)
read_again text (Remove kind at len) is =
    ap request_of is.2.1 ∙ ap (or_other removed) (stop_again kind is.0 is.2.0 at len is.1 is.2.2)
read_again text (Move Step) is = ap request_of is
read_again text (Move Continue) is = ap request_of is
read_again text (Move StepBack) is = ap request_of is
read_again text (Move ContinueBack) is = ap request_of is
read_again text (Monitor command) is = ap request_of is.1 ∙ ap decoded is.2
read_again text Write (inl (inl is)) = ap request_of is.1
read_again text Write (inl (inr is)) = ap request_of is.1
read_again text Write (inr (inl is)) = ap request_of is.1
read_again text Write (inr (inr is)) = ap request_of is.1
read_again text Attached is = ap request_of is
read_again text SetThread is = ap request_of is.1
read_again text Detach is = ap request_of is
read_again text Kill is = ap request_of is
read_again text Other is = absurd is

-- ---- what is read is asked for

-- the request is Other, or the text asks for it
record Fits (text : List ℕ) (request : Request) : Type 0 where
  is : (request ≡ Other) ⊎ Asks text request

other : (text : List ℕ) → Fits text Other
other text = record { is = inl refl }

asks : (text : List ℕ) (request : Request) → Asks text request → Fits text request
asks text request is = record { is = inr is }

pick : (text : List ℕ) (b : Bool) (x y : Request) → (b ≡ true → Fits text x) → Fits text y → Fits text (cond b x y)
pick text true x y f g = f refl
pick text false x y f g = g

pick_letter : (c k : ℕ) (rest : List ℕ) (x y : Request) → Fits (k ∷ rest) x → Fits (c ∷ rest) y → Fits (c ∷ rest) (cond (c == k) x y)
pick_letter c k rest x y f g = pick (c ∷ rest) (c == k) x y (λ e. subst (λ l. Fits (l ∷ rest) x) (sym (eqb-true c k e)) f) g

-- a text that is spelled in one way
pick_text : (text word : List ℕ) (x y : Request) → Asks word x → Fits text y → Fits text (cond (bytes_eq text word) x y)
pick_text text word x y f g = pick text (bytes_eq text word) x y (λ e. asks text x (subst (λ t. Asks t x) (sym ((bytes_eq-Decides text word).0 e)) f)) g

whole_fits : (text : List ℕ) → Fits text (whole_of text)
unfolding whole_of
whole_fits text =
    pick_text text (codes "?") Why _ refl
    (pick_text text (codes "g") Registers _ refl
    (pick_text text (codes "s") (Move Step) _ refl
    (pick_text text (codes "c") (Move Continue) _ refl
    (pick_text text (codes "bs") (Move StepBack) _ refl
    (pick_text text (codes "bc") (Move ContinueBack) _ refl
    (pick_text text (codes "D") Detach _ refl
    (pick_text text (codes "k") Kill _ refl
    (pick_text text (codes "qAttached") Attached _ refl
    (pick_text text (codes "qSupported") Supported _ (inl refl)
    (pick_text text (codes "QStartNoAckMode") NoAcks _ refl (other text)))))))))))

-- what stands behind letters
behind_is : (letters text rest : List ℕ) → behind letters text ≡ Some rest → text ≡ letters ++ rest
behind_is letters text rest e =
    let n = length letters in
    let read = taken (bytes_eq (take n text) letters) (Some (drop n text)) rest e in
    let front = (bytes_eq-Decides (take n text) letters).0 read.0 in
    let back = same_Some (drop n text) rest read.1 in
    sym (take-append-drop n text) ∙ (ap (λ l. l ++ drop n text) front ∙ ap (λ l. letters ++ l) back)

numbers_fit : (text fields : List ℕ) (f : ℕ × ℕ → Request) → ((a b : ℕ) → AreNumbers fields a b → Asks text (f (a, b))) →
    Fits text (or_other f (numbers_of fields))
numbers_fit text fields f is =
    let P : Option (ℕ × ℕ) → Type 0 = λ o. numbers_of fields ≡ o → Fits text (or_other f o) in
    let go : (o : Option (ℕ × ℕ)) → P o = λ o. elim o as P [
      | Some p ↦ λ e. asks text (f p) (is p.0 p.1 (numbers_are fields p.0 p.1 e))
      | None ↦ λ e. other text
    ] in
    go (numbers_of fields) refl

register_fits : (digits : List ℕ) → Fits (112 ∷ digits) (register_of digits)
register_fits digits =
    let P : Option ℕ → Type 0 = λ o. number_of digits ≡ o → Fits (112 ∷ digits) (or_other Register o) in
    let go : (o : Option ℕ) → P o = λ o. elim o as P [
      | Some n ↦ λ e. asks (112 ∷ digits) (Register n) (digits, refl, number_is digits n e)
      | None ↦ λ e. other (112 ∷ digits)
    ] in
    go (number_of digits) refl

command_fits : (text digits : List ℕ) → text ≡ codes "qRcmd," ++ digits → Fits text (command_of digits)
unfolding command_of
command_fits text digits is =
    let P : Result (List ℕ) FromHexError → Type 0 = λ r. decode_of digits ≡ r → Fits text (decoded r) in
    let go : (r : Result (List ℕ) FromHexError) → P r = λ r. elim r as P [
      | Ok command ↦ λ e. asks text (Monitor command) (digits, is, e)
      | Err fault ↦ λ e. other text
    ] in
    go (decode_of digits) refl

-- ---- stops

kind_is : (c : ℕ) (kind : StopKind) → kind_of c ≡ Some kind → IsKind kind (c ∷ [])
kind_is c kind e = elim (cases_Bool (c == 48 || c == 49)) [
  | inl hit ↦
      let same : Breakpoint ≡ kind = same_Some Breakpoint kind (rw hit at e) in
      subst (λ k. IsKind k (c ∷ [])) same (elim (or_cases (c == 48) (c == 49) hit) [
        | inl is ↦ inl (ap (λ x. x ∷ []) (eqb-true c 48 is))
        | inr is ↦ inr (ap (λ x. x ∷ []) (eqb-true c 49 is))
      ])
  | inr miss ↦ elim (cases_Bool (c == 50)) [
    | inl hit ↦
        let same : WriteWatch ≡ kind = same_Some WriteWatch kind (rw (miss, hit) at e) in
        subst (λ k. IsKind k (c ∷ [])) same (ap (λ x. x ∷ []) (eqb-true c 50 hit))
    | inr none ↦ absurd (none-some kind (rw (miss, none) at e))
  ]
]

stop_is : (letter : ℕ) (rest : List ℕ) (kind : StopKind) (at len : ℕ) → stop_of rest ≡ Some (kind, at, len) →
    IsStop (letter ∷ rest) (letter ∷ []) kind at len
unfolding stop_of
stop_is letter [] kind at len e = absurd (none-some (kind, at, len) e)
stop_is letter (c ∷ []) kind at len e = absurd (none-some (kind, at, len) e)
stop_is letter (c ∷ d ∷ fields) kind at len e =
    let read = taken (d == 44) (kind_of c >>= λ k. numbers_of fields >>= λ p. Some (k, p.0, p.1)) (kind, at, len) e in
    let comma = eqb-true d 44 read.0 in
    option_and_then_some (λ k. numbers_of fields >>= λ p. Some (k, p.0, p.1)) (kind_of c) (kind, at, len) read.1 (λ k known e1.
    option_and_then_some (λ (p : ℕ × ℕ). Some (k, p.0, p.1)) (numbers_of fields) (kind, at, len) e1 (λ p numbers e2.
    let same = same_Some (k, p.0, p.1) (kind, at, len) e2 in (
      c ∷ [],
      subst (λ k. IsKind k (c ∷ [])) (ap (λ (s : StopKind × ℕ × ℕ). s.0) same) (kind_is c k known),
      (fields, ap (λ x. letter ∷ c ∷ x ∷ fields) comma, numbers_are fields at len (numbers ∙ ap (λ (s : StopKind × ℕ × ℕ). Some (s.1, s.2)) same)),
    )))

insert_fits : (rest : List ℕ) → Fits (90 ∷ rest) (insert_of rest)
insert_fits rest =
    let P : Option (StopKind × ℕ × ℕ) → Type 0 = λ o. stop_of rest ≡ o → Fits (90 ∷ rest) (or_other inserted o) in
    let go : (o : Option (StopKind × ℕ × ℕ)) → P o = λ o. elim o as P [
      | Some stop ↦ λ e. asks (90 ∷ rest) (inserted stop) (stop_is 90 rest stop.0 stop.1 stop.2 e)
      | None ↦ λ e. other (90 ∷ rest)
    ] in
    go (stop_of rest) refl

remove_fits : (rest : List ℕ) → Fits (122 ∷ rest) (remove_of rest)
remove_fits rest =
    let P : Option (StopKind × ℕ × ℕ) → Type 0 = λ o. stop_of rest ≡ o → Fits (122 ∷ rest) (or_other removed o) in
    let go : (o : Option (StopKind × ℕ × ℕ)) → P o = λ o. elim o as P [
      | Some stop ↦ λ e. asks (122 ∷ rest) (removed stop) (stop_is 122 rest stop.0 stop.1 stop.2 e)
      | None ↦ λ e. other (122 ∷ rest)
    ] in
    go (stop_of rest) refl

-- ---- all requests

query_fits : (text : List ℕ) → Fits text (query_of text)
unfolding query_of
query_fits text =
    let letters = codes "qXfer:features:read:target.xml:" in
    let P : Option (List ℕ) → Type 0 = λ o. behind letters text ≡ o → Fits text (query_with text o) in
    let go : (o : Option (List ℕ)) → P o = λ o. elim o as P [
      | Some fields ↦ λ e. numbers_fit text fields (λ (p : ℕ × ℕ). Features p.0 p.1) (λ a b are. (fields, behind_is letters text fields e, are))
      | None ↦ λ e. whole_fits text
    ] in
    pick text (starts_with nat_eq text (codes "qSupported:")) Supported _ (λ e.
    asks text Supported (inr (drop 11 text, (starts_is Decides-eqb text (codes "qSupported:") (starts_with nat_eq text (codes "qSupported:")) refl).0 e)))
    (go (behind letters text) refl)

write_fits : (c : ℕ) (rest : List ℕ) → (c == 71 || c == 80 || c == 77 || c == 88) ≡ true → Asks (c ∷ rest) Write
write_fits c rest e = elim (or_cases (c == 71 || c == 80 || c == 77) (c == 88) e) [
  | inl e1 ↦ elim (or_cases (c == 71 || c == 80) (c == 77) e1) [
    | inl e2 ↦ elim (or_cases (c == 71) (c == 80) e2) [
      | inl is ↦ inl (inl (rest, ap (λ l. l ∷ rest) (eqb-true c 71 is)))
      | inr is ↦ inl (inr (rest, ap (λ l. l ∷ rest) (eqb-true c 80 is)))
    ]
    | inr is ↦ inr (inl (rest, ap (λ l. l ∷ rest) (eqb-true c 77 is)))
  ]
  | inr is ↦ inr (inr (rest, ap (λ l. l ∷ rest) (eqb-true c 88 is)))
]

plain_fits : (text : List ℕ) → Fits text (plain_of text)
unfolding plain_of
plain_fits [] = other []
plain_fits (c ∷ rest) =
    pick (c ∷ rest) (c == 113) (query_of (c ∷ rest)) _ (λ e. query_fits (c ∷ rest))
    (pick_letter c 109 rest (memory_of rest) _ (numbers_fit (109 ∷ rest) rest (λ (p : ℕ × ℕ). Memory p.0 p.1) (λ a b are. (rest, refl, are)))
    (pick_letter c 112 rest (register_of rest) _ (register_fits rest)
    (pick_letter c 90 rest (insert_of rest) _ (insert_fits rest)
    (pick_letter c 122 rest (remove_of rest) _ (remove_fits rest)
    (pick_letter c 72 rest SetThread _ (asks (72 ∷ rest) SetThread (rest, refl))
    (pick (c ∷ rest) (c == 71 || c == 80 || c == 77 || c == 88) Write _ (λ e. asks (c ∷ rest) Write (write_fits c rest e))
    (whole_fits (c ∷ rest))))))))

request_fits : (text : List ℕ) → Fits text (request_of text)
unfolding request_of
request_fits text =
    let P : Option (List ℕ) → Type 0 = λ o. behind (codes "qRcmd,") text ≡ o → Fits text (request_with text o) in
    let go : (o : Option (List ℕ)) → P o = λ o. elim o as P [
      | Some digits ↦ λ e. command_fits text digits (behind_is (codes "qRcmd,") text digits e)
      | None ↦ λ e. plain_fits text
    ] in
    go (behind (codes "qRcmd,") text) refl

-- ---- one request

-- the request of a text that asks for something
asked_is : (text : List ℕ) (request : Request) → Asks text request → IsRequest text request
asked_is text Other is = absurd is
asked_is text request is = is

other_is : (text : List ℕ) → request_of text ≡ Other → IsRequest text Other
other_is text none request is =
    let same : Other ≡ request = sym none ∙ read_again text request is in
    subst (Asks text) (sym same) is

pub request_is : (text : List ℕ) → IsRequest text (request_of text)
request_is text = elim ((request_fits text).is) [
  | inl none ↦ subst (IsRequest text) (sym none) (other_is text none)
  | inr is ↦ asked_is text (request_of text) is
]

one_is : (text : List ℕ) (request : Request) → IsRequest text request → request_of text ≡ request
one_is text Other none = elim ((request_fits text).is) [
  | inl is ↦ is
  | inr is ↦ absurd (none (request_of text) is)
]
one_is text request is = read_again text request is

pub one_request : (text : List ℕ) (a b : Request) → IsRequest text a → IsRequest text b → a ≡ b
one_request text a b is is' = sym (one_is text a is) ∙ one_is text b is'

pub some_request : (text : List ℕ) → (request : Request) × IsRequest text request
some_request text = (request_of text, request_is text)
