-- What is written of a plan is read again, as a schedule and as a certificate.
use Rattle.std.proofs.Common.{◌≡◌, ◌≢◌, ℕ, zero, suc, ◌+◌, ◌*◌, ◌<◌, ◌≤◌, ◌++◌, Bool, true, false, cond, nat_le, List, [], ◌∷◌, length, map, refl, sym, ◌∙◌, subst, arith}
use Rattle.std.specs.List.{AllByRecursion}
use Rattle.std.proofs.lemmas.Bool.{leb-false, eq-eqb, false≢true}
use Rattle.std.proofs.lemmas.Grind.{flat_map-append}
use Rattle.std.proofs.lemmas.List.{length-map}
use Rattle.std.proofs.lemmas.List.Folds.{flat_map-map}
use Rattle.std.proofs.Math.Nat.{mul-le-mul}
use Rattle.plan_types.specs.declared.action.Action.{Action}
use Rattle.plan_types.specs.declared.action.Action.TheVariants.{Forward, Reverse, Copy, Move, EndForward, EndReverse}
use Rattle.level_book.specs.BookCosts.{BookCosts, slots_of, names_of, total_room}
use Rattle.level_book.specs.Valid.{Valid}
use Rattle.level_book.specs.BookFaults.{IsBookText}
use Rattle.level_book.specs.Names.{AreNames}
use Rattle.level_book.proofs.OneBook.{text_names}
use Rattle.action_text.specs.Canonical.{canonical, HasSpelling, text_of}
use Rattle.action_text.specs.ScheduleText.{IsSchedule}
use Rattle.action_text.proofs.CanonicalRoundTrip.{HasNoEnd, endless, canonical_read}
use Rattle.binomials.specs.Binomials.{beta}
use Rattle.binomials.specs.Advances.{IsRepeats, repeats, least_advances}
use Rattle.binomials.proofs.LeastAdvances.{repeats_found}
use Rattle.binomials.proofs.Ratio.{repeats_short}
use Rattle.cert_text.specs.declared.certificate.Certificate.{Certificate}
use Rattle.cert_text.specs.declared.certificate.Certificate.TheVariants.{Revolve}
use Rattle.cert_text.specs.Canonical as certificate
use Rattle.cert_text.specs.Meaning as meaning
use Rattle.std.proofs.lemmas.List.Concat.{concat_is}
use Rattle.cert_text.specs.Laws.{IsOtherLine}
use Rattle.cert_text.specs.MarkedLines.{is_marked}
use Rattle.cert_text.specs.Meaning.{IsCertificateText}
use Rattle.bound_cert.proofs.Numbers.{at_repeats}
use Rattle.cert_text.proofs.CanonicalRoundTrip.{canonical_read as certificate_read, joined as certificate_joined}
use Rattle.cert_text.proofs.ScheduleSuffix.{stands_behind}
use Rattle.revolve_gen.specs.Plans.{HasPlan}
use Rattle.revolve_gen.specs.RevolveList.{revolve_list}
use Rattle.reversal.specs.Plans.{certificate_of, line_of_action, list_pieces, plan_pieces}
use Rattle.reversal.specs.Deeds.{bytes_of}
use Rattle.reversal.proofs.Pieces.{pieces_bytes}
use Rattle.reversal.proofs.RevolvePlan.{plan_few, plan_valid, as_many}
use Rattle.reversal.proofs.ActionSpelling.{valid_spelled}

-- ---- the text of a list and of a certificate

pub list_text_is : (names : List (List ℕ)) (list : List Action) → bytes_of (list_pieces names list) ≡ text_of names list
list_text_is names list =
    let many = length-map list (line_of_action names) in
    pieces_bytes (length list) (map (line_of_action names) list) (omega (arith, many)) ∙ flat_map-map (λ l. l) (line_of_action names) list

plan_text_is : (names : List (List ℕ)) (list : List Action) (c : Certificate) → bytes_of (list_pieces names list ++ certificate.pieces c) ≡ text_of names list ++ certificate.canonical c
plan_text_is names list c =
    let pieces = certificate.pieces c in
    flat_map-append (λ l. l) (list_pieces names list) pieces
    ∙ (λ i. list_text_is names list i ++ (sym (concat_is pieces) ∙ certificate_joined c) i)

-- ---- its numbers

few_repeats : (l c r : ℕ) → 0 < c → 1 ≤ l → IsRepeats l c r → r ≤ l
few_repeats l c zero some long is = omega arith
few_repeats l c (suc k) some long is = let short = repeats_short c k (beta c k) l some refl is.above in omega (arith, short)

many_have_text : (steps c : ℕ) (b : BookCosts) → 1 < steps → steps ≤ 1000000 → 1 ≤ c → meaning.HasText steps b (Revolve (repeats steps c) (steps + least_advances steps c))
many_have_text steps c b more short some =
    let r = repeats steps c in
    let found = repeats_found steps c (record { some = omega (arith, more); slots = λ none. absurd (omega (arith, none, some)) }) in
    let few = few_repeats steps c r (omega (arith, some)) (omega (arith, more)) found in
    let value = at_repeats steps c (omega (arith, more)) some in
    let small : r ≤ 1000000 = omega (arith, few, short) in
    let product : r * steps ≤ 1000000 * 1000000 = mul-le-mul small short in
    (omega (arith, few, short), omega (arith, value, product, short))

has_text_by : (steps : ℕ) (b : BookCosts) (t : Bool) → nat_le steps 1 ≡ t → steps ≤ 1000000 → HasPlan steps (total_room b steps) →
    meaning.HasText steps b (cond t (Revolve 0 steps) (Revolve (repeats steps (total_room b steps)) (steps + least_advances steps (total_room b steps))))
has_text_by steps b true e short plan = (omega arith, omega (arith, short))
has_text_by steps b false e short plan =
    let above = leb-false steps 1 e in
    many_have_text steps (total_room b steps) b (omega (arith, above)) short (plan (omega (arith, above)))

has_text : (steps : ℕ) (b : BookCosts) → steps ≤ 1000000 → HasPlan steps (total_room b steps) → meaning.HasText steps b (certificate_of steps b)
has_text steps b short plan = has_text_by steps b (nat_le steps 1) refl short plan

-- ---- as a schedule

-- the certificate's one line stands behind the list
read_as_schedule : (names : List (List ℕ)) (list : List Action) (steps : ℕ) (b : BookCosts) (c : Certificate) → AreNames names → length list ≤ 16777216 → AllByRecursion (HasSpelling names) list → meaning.HasText steps b c → IsSchedule names (text_of names list ++ certificate.canonical c) list
read_as_schedule names list steps b c are few spelled has =
    let behind = stands_behind steps b c has in
    let P : List ℕ → Type 0 = λ l. IsSchedule names (text_of names list ++ l) list in
    subst P (sym behind.1) (canonical_read names are list few spelled behind.0 behind.2)

-- ---- as a certificate

no_tens : (l : List ℕ) → HasNoEnd l → AllByRecursion (λ b. b ≢ 10) l
no_tens [] h = tt
no_tens (b ∷ l) h = ((λ e. false≢true (sym h.0 ∙ eq-eqb b 10 e)), no_tens l h.1)

unmarked : (names : List (List ℕ)) (a : Action) → is_marked (canonical names a) ≡ false
unmarked names (Forward from to keep) = refl
unmarked names (Reverse from to) = refl
unmarked names (Copy n k dest) = refl
unmarked names (Move n k dest) = refl
unmarked names EndForward = refl
unmarked names EndReverse = refl

others_pass : (names : List (List ℕ)) (list : List Action) → AreNames names → AllByRecursion (HasSpelling names) list → AllByRecursion IsOtherLine (map (canonical names) list)
others_pass names [] are spelled = tt
others_pass names (a ∷ list) are spelled = (record { unmarked = unmarked names a; one_end = no_tens (canonical names a) (endless names a are spelled.0) }, others_pass names list are spelled.1)

read_as_certificate : (names : List (List ℕ)) (list : List Action) (steps : ℕ) (b : BookCosts) (c : Certificate) → AreNames names → AllByRecursion (HasSpelling names) list → meaning.HasText steps b c → IsCertificateText steps b (text_of names list ++ certificate.canonical c) c
read_as_certificate names list steps b c are spelled has =
    let P : List ℕ → Type 0 = λ l. IsCertificateText steps b (l ++ certificate.canonical c) c in
    subst P (flat_map-map (λ line. line ++ 10 ∷ []) (canonical names) list) (certificate_read steps b c has (map (canonical names) list) (others_pass names list are spelled))

-- ---- both

pub read_again : (steps : ℕ) (book : List ℕ) (b : BookCosts) (list : List Action) (c : Certificate) → steps ≤ 1000000 → IsBookText book b → length list ≤ 16777216 → Valid steps (slots_of b) list → meaning.HasText steps b c →
    IsSchedule (names_of b) (bytes_of (list_pieces (names_of b) list ++ certificate.pieces c)) list × IsCertificateText steps b (bytes_of (list_pieces (names_of b) list ++ certificate.pieces c)) c
read_again steps book b list c short is few valid has =
    let names = names_of b in
    let are = text_names book b is in
    let spelled = valid_spelled steps (slots_of b) names list short (as_many b) valid in
    let S : List ℕ → Type 0 = λ l. IsSchedule names l list in
    let C : List ℕ → Type 0 = λ l. IsCertificateText steps b l c in (
      subst S (sym (plan_text_is names list c)) (read_as_schedule names list steps b c are few spelled has),
      subst C (sym (plan_text_is names list c)) (read_as_certificate names list steps b c are spelled has),
    )

pub plan_read_again : (steps : ℕ) (book : List ℕ) (b : BookCosts) → steps ≤ 1000000 → IsBookText book b → HasPlan steps (total_room b steps) →
    IsSchedule (names_of b) (bytes_of (plan_pieces steps b)) (revolve_list steps b) × IsCertificateText steps b (bytes_of (plan_pieces steps b)) (certificate_of steps b)
plan_read_again steps book b short is plan =
    read_again steps book b (revolve_list steps b) (certificate_of steps b) short is (plan_few steps b short plan) (plan_valid steps b plan) (has_text steps b short plan)
