-- No public clause cites this file. What the reader of requests computes, as functions on lists. It equals the
-- definitions of `Requests`.
use Rattle.std.specs.Prelude.{ℕ, ◌+◌, ◌*◌, ◌==◌, ◌&&◌, ◌||◌, List, [], ◌∷◌, length, take, drop, Option, Some, None, option_map, Result, Ok, Err, nat_eq, nat_le, codes, if◌then◌else◌}
use Rattle.std.specs.Option.{option_and_then}
use Rattle.std.specs.List.{starts_with}
use Rattle.std.specs.Str.{bytes_eq}
use Rattle.hex.specs.Hex.{decode_of, hex_digit_value}
use Rattle.hex.specs.declared.error.FromHexError.{FromHexError}
use Rattle.gdb_wire.specs.declared.request.Motion.TheVariants.{Step, Continue, StepBack, ContinueBack}
use Rattle.gdb_wire.specs.declared.request.Request.{Request}
use Rattle.gdb_wire.specs.declared.request.Request.TheVariants.{Supported, Features, NoAcks, Why, Registers, Register, Memory, Insert, Remove, Move, Monitor, Write, Attached, SetThread, Detach, Kill, Other}
use Rattle.gdb_wire.specs.declared.request.StopKind.{StopKind}
use Rattle.gdb_wire.specs.declared.request.StopKind.TheVariants.{Breakpoint, WriteWatch}

-- ---- numbers

infixl 10 ◌>>=◌
abbrev pub ◌>>=◌ : {A B : Type 0} → Option A → (A → Option B) → Option B
o >>= f = option_and_then f o

-- the number of the digits of n followed by these
unfoldable pub number_behind : ℕ → List ℕ → Option ℕ
number_behind n [] = Some n
number_behind n (c ∷ cs) = do
  digit ← hex_digit_value c
  number_behind (n * 16 + digit) cs

unfoldable pub number_of : List ℕ → Option ℕ
number_of digits = if nat_le 1 (length digits) && nat_le (length digits) 8 then number_behind 0 digits else None

-- what comes before the first comma, and after it
unfoldable pub fields_of : List ℕ → Option (List ℕ × List ℕ)
fields_of [] = None
fields_of (c ∷ cs) = if c == 44 then Some ([], cs) else option_map (λ (fields : List ℕ × List ℕ). (c ∷ fields.0, fields.1)) (fields_of cs)

unfoldable pub numbers_of : List ℕ → Option (ℕ × ℕ)
numbers_of text = do
  fields ← fields_of text
  a ← number_of fields.0
  b ← number_of fields.1
  Some (a, b)

-- ---- requests

-- what comes after these letters, if the text begins with them
abbrev pub behind : List ℕ → List ℕ → Option (List ℕ)
behind letters text = if bytes_eq (take (length letters) text) letters then Some (drop (length letters) text) else None

-- the request of what was read
abbrev pub or_other : {A : Type 0} → (A → Request) → Option A → Request
or_other f None = Other
or_other f (Some x) = f x

abbrev pub register_of : List ℕ → Request
register_of digits = or_other Register (number_of digits)

abbrev pub memory_of : List ℕ → Request
memory_of fields = or_other (λ (p : ℕ × ℕ). Memory p.0 p.1) (numbers_of fields)

abbrev pub features_of : List ℕ → Request
features_of fields = or_other (λ (p : ℕ × ℕ). Features p.0 p.1) (numbers_of fields)

abbrev pub kind_of : ℕ → Option StopKind
kind_of c = if c == 48 || c == 49 then Some Breakpoint else (if c == 50 then Some WriteWatch else None)

-- the kind after `Z` or `z`, and the numbers after its comma
unfoldable pub stop_of : List ℕ → Option (StopKind × ℕ × ℕ)
stop_of [] = None
stop_of (c ∷ []) = None
stop_of (c ∷ d ∷ fields) =
    if d == 44 then (kind_of c >>= λ kind. numbers_of fields >>= λ p. Some (kind, p.0, p.1)) else None

abbrev pub inserted : StopKind × ℕ × ℕ → Request
inserted stop = Insert stop.0 stop.1 stop.2

abbrev pub insert_of : List ℕ → Request
insert_of rest = or_other inserted (stop_of rest)

abbrev pub removed : StopKind × ℕ × ℕ → Request
removed stop = Remove stop.0 stop.1 stop.2

abbrev pub remove_of : List ℕ → Request
remove_of rest = or_other removed (stop_of rest)

-- a request that is spelled in one way
unfoldable pub whole_of : List ℕ → Request
whole_of text =
    if bytes_eq text (codes "?") then Why
    else (if bytes_eq text (codes "g") then Registers
    else (if bytes_eq text (codes "s") then Move Step
    else (if bytes_eq text (codes "c") then Move Continue
    else (if bytes_eq text (codes "bs") then Move StepBack
    else (if bytes_eq text (codes "bc") then Move ContinueBack
    else (if bytes_eq text (codes "D") then Detach
    else (if bytes_eq text (codes "k") then Kill
    else (if bytes_eq text (codes "qAttached") then Attached
    else (if bytes_eq text (codes "qSupported") then Supported
    else (if bytes_eq text (codes "QStartNoAckMode") then NoAcks
    else Other))))))))))

-- a request that begins with `q`, without a command
abbrev pub query_with : List ℕ → Option (List ℕ) → Request
query_with text (Some fields) = features_of fields
query_with text None = whole_of text

unfoldable pub query_of : List ℕ → Request
query_of text =
    if starts_with nat_eq text (codes "qSupported:") then Supported
    else query_with text (behind (codes "qXfer:features:read:target.xml:") text)

-- a request without a command
unfoldable pub plain_of : List ℕ → Request
plain_of [] = Other
plain_of (c ∷ rest) =
    if c == 113 then query_of (c ∷ rest)
    else (if c == 109 then memory_of rest
    else (if c == 112 then register_of rest
    else (if c == 90 then insert_of rest
    else (if c == 122 then remove_of rest
    else (if c == 72 then SetThread
    else (if c == 71 || c == 80 || c == 77 || c == 88 then Write
    else whole_of (c ∷ rest)))))))

-- the command that digits spell
abbrev pub decoded : Result (List ℕ) FromHexError → Request
decoded (Ok command) = Monitor command
decoded (Err fault) = Other

unfoldable pub command_of : List ℕ → Request
command_of digits = decoded (decode_of digits)

abbrev pub request_with : List ℕ → Option (List ℕ) → Request
request_with text (Some digits) = command_of digits
request_with text None = plain_of text

unfoldable pub request_of : List ℕ → Request
request_of text = request_with text (behind (codes "qRcmd,") text)
