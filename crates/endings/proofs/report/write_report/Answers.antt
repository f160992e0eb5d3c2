use Rattle.std.proofs.Common.{◌≡◌, ℕ, ◌++◌, Bool, cond, List, [], ◌∷◌, append_assoc, Option, None, Some, Result, Ok, Err, OnOk, sym, ◌∙◌, ap}
use Rattle.std.specs.Io.KnownBytes.{Appends}
use Rattle.std.proofs.lemmas.Bool.{ne_eqb}
use Rattle.endings.specs.Texts.{text_of_ended}
use Rattle.endings.specs.Texts.{report_of}
use Rattle.endings.proofs.report.write_report.Goals as goal

-- what was appended by two writes
appends_then : (old mid new : Option (List ℕ)) (x y z : List ℕ) → x ++ y ≡ z → Appends old mid x → Appends mid new y → Appends old new z
appends_then None mid new x y z e h g = tt
appends_then (Some a) None new x y z e h g = absurd h
appends_then (Some a) (Some b) None x y z e h g = absurd g
appends_then (Some a) (Some b) (Some c) x y z e h g = g ∙ ap (λ l. l ++ y) h ∙ append_assoc a x y ∙ ap (λ l. a ++ l) e

on_ok : {T E : Type 0} (r : Result T E) (P Q : Type 0) → (P → Q) → OnOk r P → OnOk r Q
on_ok (Ok x) P Q f h = f h
on_ok (Err e) P Q f h = tt

pub returns : goal.returns
returns g c =
    let whole : c.bytes.result.now ++ 10 ∷ [] ≡ report_of c.args.ended.now =
    ap (λ l. l ++ 10 ∷ []) (c.bytes.ensures.value ∙ c.ended_text.ensures) ∙ sym (ap (λ (b : Bool). cond b [] (text_of_ended c.args.ended.now ++ 10 ∷ [])) (ne_eqb c.args.ended.now.status 0 c.if-ended-eq0.false)) in
    on_ok c.write_all-2.result _ _ (appends_then _ _ _ _ _ _ whole c.in_ok-write_all.ensures.bytes) c.write_all-2.ensures.bytes
