use Rattle.std.proofs.Common.{List, [], Option, Some, get_or, slice_set, inl, inr, sym, ap, subst, ◌∙◌, arith, Vec, Global}
use Rattle.std.specs.Vec.{vec_len, vec_capacity}
use Rattle.unit_digests.specs.declared.sharing.Taken.{Taken}
use Rattle.unit_digests.specs.Digests.{AreDigests, IsKnown}
use Rattle.unit_digests.specs.WorkDivision.{IsTaken}
use Rattle.unit_digests.proofs.WorkDivision.{put_right, put_known, still_known, all_at, item_at, get_inside}
use Rattle.unit_digests.proofs.sharing.put_each.Goals.{then-digest-len, else-digest-len}
use Rattle.unit_digests.proofs.sharing.put_each.Goals as goal

pub loop-digest-preserved : goal.loop-digest-preserved
loop-digest-preserved c =
    let h = c.loop-digest.invariant in
    let none : Taken = record { number = 0; digest = [] } in
    let t = get_or c.args.taken.now c.loop-digest.digest-index none in
    elim c.if-digest-len.branch [
      | then-digest-len w ↦
          let items = ap (λ (v : Vec (Option (List _)) Global). v.items) w.known-is in
          record {
            known = λ states are taken.
                subst (λ known. AreDigests known states) (sym items)
                (put_right c.loop-digest.known.items states t (h.known states are taken) (all_at (IsTaken states) c.args.taken.now c.loop-digest.digest-index none taken c.loop-digest-test.true));
            still = λ n is. subst (λ known. IsKnown known n) (sym items) (still_known c.loop-digest.known.items t.number n t.digest (h.still n is));
            put = λ k u lt there below.
                subst (λ known. IsKnown known u.number) (sym items)
                (elim (item_at c.args.taken.now k c.loop-digest.digest-index u none there lt) [
                  | inl before ↦ still_known c.loop-digest.known.items t.number u.number t.digest (h.put k u before there below)
                  | inr same ↦
                      subst (λ (v : Taken). IsKnown (slice_set c.loop-digest.known.items t.number (Some t.digest)) v.number) same
                      (put_known c.loop-digest.known.items t.number t.digest (omega (arith, w.if-digest-len.true, c.len.ensures, c.loop-digest.known.ok.0)))
                ]);
            len = ap vec_len w.known-is ∙ h.len;
            reserved = let same = ap vec_capacity w.known-is in omega (arith, same, h.reserved);
          }
      | else-digest-len w ↦
          let items = ap (λ (v : Vec (Option (List _)) Global). v.items) w.known-is in
          record {
            known = λ states are taken. subst (λ known. AreDigests known states) (sym items) (h.known states are taken);
            still = λ n is. subst (λ known. IsKnown known n) (sym items) (h.still n is);
            put = λ k u lt there below.
                subst (λ known. IsKnown known u.number) (sym items)
                (elim (item_at c.args.taken.now k c.loop-digest.digest-index u none there lt) [
                  | inl before ↦ h.put k u before there below
                  | inr same ↦ let number = ap (λ (v : Taken). v.number) same in absurd (omega (arith, w.if-digest-len.false, c.len.ensures, h.len, below, number))
                ]);
            len = ap vec_len w.known-is ∙ h.len;
            reserved = let same = ap vec_capacity w.known-is in omega (arith, same, h.reserved);
          }
    ]

pub returns-clause-put : goal.returns-clause-put
returns-clause-put c k t there below =
    c.loop-digest.invariant.put k t (let inside = get_inside c.args.taken.now k t there in omega (arith, inside, c.loop-digest-test.false)) there below
