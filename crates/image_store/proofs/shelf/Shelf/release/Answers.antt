use Rattle.image_store.proofs.Common.{◌≡◌, ℕ, ◌<◌, List, length, set, Option, Some, sym, ◌∙◌, ap, subst, ◌+◌, ◌^◌, length-set, without_pair, IsFreed, pair_at, ShelfState, pairs_in, SharesOut, IsShelf, KeepsAs, IsToldAnd, Alone, LevelStands, LevelAlone}
use Rattle.image_store.specs.declared.shelf.Kept.{Kept}
use Rattle.image_store.specs.declared.shelf.Fingerprint.{Fingerprint}
use Rattle.std.specs.FinMap as finmap
use Rattle.image_store.proofs.SlotAllocation.{shares_less}
use Rattle.image_store.proofs.Places.{pairs_less}
use Rattle.image_store.proofs.LevelImages.{level_less, level_alone_less, remains_as}
use Rattle.image_store.proofs.shelf.Shelf.release.Goals as goal

shelf_less : (prints : List Fingerprint) (places free : List ℕ) (count n : ℕ) (kept : Kept) → IsShelf prints places free count → pair_at (pairs_in prints places) n ≡ Some kept →
    IsShelf prints (set places n 0) (set free count kept.slot) (count + 1)
shelf_less prints places free count n kept shelf is =
    let long : length (set free count kept.slot) ≡ length free = length-set free count kept.slot in
    record {
      shares = subst (λ ps. SharesOut ps (set free count kept.slot) (count + 1)) (sym (pairs_less prints places n)) (shares_less (pairs_in prints places) free count n kept shelf.shares is);
      each = shelf.each ∙ sym long;
      small = subst (λ q. q < 2 ^ 32) (sym long) shelf.small;
    }

pub invariant_of-self : goal.invariant_of-self
invariant_of-self g c =
    let is = ap (λ (s : ShelfState). pair_at s.pairs c.args.n) c.self.view_is ∙ c.kept-kept.ensures.value in
    shelf_less _ _ _ _ c.args.n c.kept-kept.result c.self.invariant is

pub returns : goal.returns
returns g c =
    let prints = c.self.inside.fingerprints.items in
    let places = c.self.inside.places.items in
    let less = pairs_less prints places c.args.n in
    let long = length-set c.self.inside.free.items c.self.inside.count c.kept-kept.result.slot in
    let changed : ◌≡◌ {A = ShelfState} (record { pairs = pairs_in prints (set places c.args.n 0); room = length (set c.self.inside.free.items c.self.inside.count c.kept-kept.result.slot) }) (without_pair (record { pairs = pairs_in prints places; room = length c.self.inside.free.items }) c.args.n) =
    λ i. record { pairs = less i; room = long i } in
    record {
      ok = changed ∙ ap (λ (s : ShelfState). without_pair s c.args.n) c.self.view_is;
      freed = λ kept at.
          let same : c.kept-kept.result ≡ kept = cc (c.kept-kept.ensures.value, at) in
          subst (λ (k : Kept). IsFreed k (g.K.Storage.told c.args.keeper.now) (g.K.Storage.told c.free.new.self)) same c.in-Ok.ensures.frees.ok;
      stands = λ bytes stands.
          let is = ap (λ (s : ShelfState). pair_at s.pairs c.args.n) c.self.view_is ∙ c.kept-kept.ensures.value in
          let before = subst (λ (s : ShelfState). LevelStands s (g.K.Storage.told c.args.keeper.now) bytes) (sym c.self.view_is) stands in
          let after = level_less (pairs_in c.self.inside.fingerprints.items c.self.inside.places.items) bytes (g.K.Storage.told c.args.keeper.now) (g.K.Storage.told c.free.new.self) c.args.n c.kept-kept.result is c.in-Ok.ensures.frees.ok before in
          subst (λ (ps : List (Option Kept)). IsToldAnd (g.K.Storage.told c.free.new.self) (KeepsAs ps (finmap.remove bytes c.args.n))) (sym (pairs_less c.self.inside.fingerprints.items c.self.inside.places.items c.args.n)) after;
      alone = λ alone.
          let is = ap (λ (s : ShelfState). pair_at s.pairs c.args.n) c.self.view_is ∙ c.kept-kept.ensures.value in
          let before = subst (λ (s : ShelfState). LevelAlone s (g.K.Storage.told c.args.keeper.now)) (sym c.self.view_is) alone in
          let after = level_alone_less (pairs_in c.self.inside.fingerprints.items c.self.inside.places.items) (g.K.Storage.told c.args.keeper.now) (g.K.Storage.told c.free.new.self) c.args.n c.kept-kept.result is c.in-Ok.ensures.frees.ok before in
          subst (λ (ps : List (Option Kept)). IsToldAnd (g.K.Storage.told c.free.new.self) (Alone ps)) (sym (pairs_less c.self.inside.fingerprints.items c.self.inside.places.items c.args.n)) after;
      refused = tt;
      left = tt;
      whole = λ put got is. absurd cc;
      counted = c.in-Ok.ensures.frees.counted;
      rest = remains_as g.K.Storage c.args.keeper.now c.free.new.self (λ e. absurd cc) (λ e. absurd cc) c.in-Ok.ensures.frees.rest;
      roomy = λ room has is. absurd cc;
    }
