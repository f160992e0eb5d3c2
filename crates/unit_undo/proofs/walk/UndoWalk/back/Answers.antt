use Rattle.std.proofs.Common.{◌≡◌, ℕ, ◌-◌, ◌+◌, List, [], ◌∷◌, ◌++◌, length, take, drop, refl, ap, sym, subst, ◌∙◌, arith}
use Rattle.std.proofs.lemmas.List.{take_all, length-drop}
use Rattle.std.proofs.lemmas.Option.{MatchOption-at_some}
use Rattle.std.proofs.lemmas.List.Sums.{sum_by_push}
use Rattle.std.specs.List.{AllByRecursion, IsLastAndRest}
use Rattle.unit_undo.specs.declared.saved.Saved.{Saved}
use Rattle.unit_undo.specs.Entry.{Entry}
use Rattle.unit_undo.specs.UndoState.{CanGoBack}
use Rattle.unit_undo.specs.UndoFields.{entry_of, entries_kept, IsSaved}
use Rattle.unit_undo.proofs.EntryStack.{counted, popped, all_left}
use Rattle.unit_undo.proofs.walk.UndoWalk.back.Goals as goal

-- how many old bytes are left
counted_left : (all saved : List Saved) (s : Saved) (n : ℕ) → all ≡ saved ++ s ∷ [] → counted all ≡ n → counted saved ≡ n - s.count
counted_left all saved s n is total =
    let sum : counted saved + s.count ≡ n = sym (sum_by_push (λ (s : Saved). s.count) saved s) ∙ ap counted (sym is) ∙ total in
    omega (arith, sum)

-- the last entry, where the bytes are cut in two
cut : (all saved : List Saved) (s : Saved) (bytes front back : List ℕ) → all ≡ saved ++ s ∷ [] → counted all ≡ length bytes → front ≡ take (length bytes - s.count) bytes →
    back ≡ drop (length bytes - s.count) bytes → entries_kept all bytes [] ≡ entry_of s back ∷ entries_kept saved front []
cut all saved s bytes front back is total here rest =
    let start : ℕ = length bytes - s.count in
    popped all saved s bytes back front start is total refl (rest ∙ sym (take_all (length bytes - start) (drop start bytes) (omega (arith, length-drop start bytes)))) here

pub put_back-requires-clause-mapped : goal.put_back-requires-clause-mapped
put_back-requires-clause-mapped c =
    let last = (MatchOption-at_some _ (λ p. IsLastAndRest c.self.inside.entries.now p.0.now p.1.now) c.unwrap.result c.unwrap.ensures c.split_last.ensures.cases).0 in
    let entries = cut c.self.inside.entries.now c.unwrap.result.1.now c.unwrap.result.0.now c.self.inside.bytes.now c.split_at.result.0.now c.split_at.result.1.now last c.self.invariant.whole c.split_at.ensures.front
    c.split_at.ensures.back in
    subst (λ (es : List Entry). CanGoBack es c.args.state.now) (sym c.self.view_is ∙ entries) c.requires

pub invariant_of-self : goal.invariant_of-self
invariant_of-self c =
    let last = MatchOption-at_some _ (λ p. IsLastAndRest c.self.inside.entries.now p.0.now p.1.now) c.unwrap.result c.unwrap.ensures c.split_last.ensures.cases in
    record {
      whole = counted_left c.self.inside.entries.now c.unwrap.result.1.now c.unwrap.result.0.now (length c.self.inside.bytes.now) last.0 c.self.invariant.whole ∙ sym c.split_at.ensures.front_len;
      saved = (all_left IsSaved c.unwrap.result.1.now c.unwrap.result.0.now (subst (AllByRecursion IsSaved) last.0 c.self.invariant.saved)).0;
      few_entries = omega (arith, c.self.invariant.few_entries, last.1);
      few_bytes = omega (arith, c.self.invariant.few_bytes, c.split_at.ensures.front_len, c.split_at.ensures.back_len);
    }

pub returns-clause-back : goal.returns-clause-back
returns-clause-back c =
    let last = (MatchOption-at_some _ (λ p. IsLastAndRest c.self.inside.entries.now p.0.now p.1.now) c.unwrap.result c.unwrap.ensures c.split_last.ensures.cases).0 in
    let entries = cut c.self.inside.entries.now c.unwrap.result.1.now c.unwrap.result.0.now c.self.inside.bytes.now c.split_at.result.0.now c.split_at.result.1.now last c.self.invariant.whole c.split_at.ensures.front
    c.split_at.ensures.back in (entry_of c.unwrap.result.0.now c.split_at.result.1.now, (sym c.self.view_is ∙ entries, c.put_back.ensures.state))
