use Rattle.std.proofs.Common.{◌≡◌, Some, slice_get, inl, inr, subst, sym, ap, ◌∙◌, arith}
use Rattle.std.specs.List.{AllByRecursion}
use Rattle.unit_digests.specs.declared.sharing.Digester.{Digester}
use Rattle.unit_digests.specs.WorkDivision.{IsTaken, HasTaken}
use Rattle.unit_digests.proofs.DigestWalks.{all_item}
use Rattle.unit_digests.proofs.WorkDivision.{item_at, get_inside}
use Rattle.unit_digests.proofs.sharing.put_digests.Goals as goal

pub loop-digester-preserved : goal.loop-digester-preserved
loop-digester-preserved c =
    let h = c.loop-digester.invariant in
    let its = c.put_each.ensures in
    record {
      known = λ states are taken.
          let has = all_item (HasTaken states) c.args.digesters.now c.loop-digester.digester-index c.digester-item.result taken c.loop-digester-test.true c.digester-item.is in
          its.known states (h.known states are taken) (subst (AllByRecursion (IsTaken states)) (sym c.as_slice.ensures.value) has);
      still = λ n is. its.still n (h.still n is);
      put = λ i k d t lt at there below.
          elim (item_at c.args.digesters.now i c.loop-digester.digester-index d c.digester-item.result at lt) [
            | inl before ↦ its.still t.number (h.put i k d t before at there below)
            | inr same ↦
                let here : c.digester-item.result ≡ d = c.digester-item.is ∙ same in
                let items = c.as_slice.ensures.value ∙ ap (λ (x : Digester). x.taken.items) here in
                its.put k t (subst (λ taken. slice_get taken k ≡ Some t) (sym items) there) (omega (arith, below, h.len))
          ];
      len = its.len ∙ h.len;
      reserved = omega (arith, h.reserved, its.reserved);
    }

pub returns-clause-put : goal.returns-clause-put
returns-clause-put c i k d t at there below =
    c.loop-digester.invariant.put i k d t (let inside = get_inside c.args.digesters.now i d at in omega (arith, inside, c.loop-digester-test.false)) at there below
