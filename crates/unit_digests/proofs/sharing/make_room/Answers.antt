use Rattle.std.proofs.Common.{◌≡◌, [], ◌∷◌, ◌++◌, None, Some, subst, sym, rules}
use Rattle.unit_digests.specs.Digests.{AreDigests, IsKnown}
use Rattle.unit_digests.proofs.WorkDivision.{get_front}
use Rattle.unit_digests.proofs.DigestWalks.{unknown_comes}
use Rattle.unit_digests.proofs.sharing.make_room.Goals as goal

pub loop-preserved : goal.loop-preserved
loop-preserved c =
    let pushed : c.push.new.self.items ≡ c.loop.known.items ++ None ∷ [] = search rules in
    record {
      count = search rules;
      room = search rules;
      known = λ states are. subst (λ items. AreDigests items states) (sym pushed) (unknown_comes c.loop.known.items states (c.loop.invariant.known states are));
      still = λ n is. subst (λ items. IsKnown items n) (sym pushed) (let before = c.loop.invariant.still n is in (before.0, get_front c.loop.known.items (None ∷ []) n (Some before.0) before.1));
      reserved = search rules;
    }
