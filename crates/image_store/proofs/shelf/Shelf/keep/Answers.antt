use Rattle.image_store.proofs.Common.{◌≡◌, ℕ, ◌<◌, List, length, set, Option, Some, None, sym, ◌∙◌, ap, subst, ◌+◌, get_or, arith, ◌-◌, length-set, sha256, kept_in, with_pair, pair_at, IsFreeSlot, held, ShelfState, pairs_in, SharesOut, IsShelf, KeepsAs, IsToldAnd, Alone, LevelStands, LevelAlone}
use Rattle.std.specs.FinMap as finmap
use Rattle.image_store.specs.declared.shelf.Kept.{Kept}
use Rattle.image_store.specs.declared.shelf.Fingerprint.{Fingerprint}
use Rattle.image_store.proofs.SlotAllocation.{shares_more, last_free}
use Rattle.image_store.proofs.Places.{pairs_more}
use Rattle.image_store.proofs.LevelImages.{level_more, level_alone_more, remains_as}
use Rattle.image_store.proofs.shelf.Shelf.keep.Goals as goal

-- where fewer pairs are held than there is room for, a slot is free
some_free : (pairs : List (Option Kept)) (free : List ℕ) (count : ℕ) (s : ShelfState) → SharesOut pairs free count → held pairs ≡ held s.pairs → length free ≡ s.room → held s.pairs < s.room → 0 < count
some_free pairs free count s shares few long asked = let counted = shares.counted in omega (arith, counted, few, long, asked)

-- what is known of the slot that is taken, from what is stored
pub record Taken (prints : List Fingerprint) (places free : List ℕ) (count n slot : ℕ) : Type 0 where
  pub some : 0 < count
  pub within : n < length (pairs_in prints places)
  pub none : pair_at (pairs_in prints places) n ≡ None
  pub last : slot ≡ get_or free (count - 1) 0
  pub unused : IsFreeSlot (pairs_in prints places) slot
  pub low : slot < length free

taken : (prints : List Fingerprint) (places free : List ℕ) (count n slot : ℕ) (s : ShelfState) → IsShelf prints places free count →
    (record { pairs = pairs_in prints places; room = length free }) ≡ s → n < length s.pairs → pair_at s.pairs n ≡ None → held s.pairs < s.room →
    slot ≡ get_or free (count - 1) slot → Taken prints places free count n slot
taken prints places free count n slot s shelf is low none few at =
    let room : length free ≡ s.room = ap (λ (s : ShelfState). s.room) is in
    let as_few : held (pairs_in prints places) ≡ held s.pairs = ap (λ (s : ShelfState). held s.pairs) is in
    let some = some_free _ free count s shelf.shares as_few room few in
    let last = last_free _ free count slot shelf.shares some at in
    let below : count - 1 < count = omega (arith, some) in
    record {
      some = some;
      within = subst (λ (s : ShelfState). n < length s.pairs) (sym is) low;
      none = ap (λ (s : ShelfState). pair_at s.pairs n) is ∙ none;
      last = last.0;
      unused = last.1;
      low = subst (λ q. q < length free) (sym last.0) (shelf.shares.within (count - 1) below);
    }

-- the level with the new pair
more : (prints : List Fingerprint) (places free : List ℕ) (count n slot : ℕ) (image digest : List ℕ) → IsShelf prints places free count → Taken prints places free count n slot → digest ≡ sha256 image →
    pairs_in (set prints slot (record { length = length image; digest = digest })) (set places n (slot + 1)) ≡ set (pairs_in prints places) n (Some (kept_in slot image))
more prints places free count n slot image digest shelf t is =
    pairs_more prints places n slot image digest (let low = t.low in let each = shelf.each in omega (arith, low, each)) t.unused is

shelf_more : (prints : List Fingerprint) (places free : List ℕ) (count n slot : ℕ) (image digest : List ℕ) → IsShelf prints places free count → Taken prints places free count n slot → digest ≡ sha256 image →
    IsShelf (set prints slot (record { length = length image; digest = digest })) (set places n (slot + 1)) free (count - 1)
shelf_more prints places free count n slot image digest shelf t is = record {
  shares = subst (λ ps. SharesOut ps free (count - 1)) (sym (more prints places free count n slot image digest shelf t is))
      (shares_more (pairs_in prints places) free count n (kept_in slot image) shelf.shares t.some t.within t.none t.last);
  each = length-set prints slot _ ∙ shelf.each;
  small = shelf.small;
}

pub invariant_of-self : goal.invariant_of-self
invariant_of-self g c =
    let t = taken _ _ _ _ c.args.n c.index-slot.result.now c.args.self.now c.self.invariant c.self.view_is c.requires.number c.requires.new c.requires.room c.index-slot.ensures in
    shelf_more _ _ _ _ c.args.n c.index-slot.result.now c.args.image.now c.args.digest.now c.self.invariant t c.requires.sum

pub returns : goal.returns
returns g c =
    let slot = c.index-slot.result.now in
    let t = taken _ _ _ _ c.args.n c.index-slot.result.now c.args.self.now c.self.invariant c.self.view_is c.requires.number c.requires.new c.requires.room c.index-slot.ensures in
    let e = more _ _ _ _ c.args.n slot c.args.image.now c.args.digest.now c.self.invariant t c.requires.sum in
    let changed : ◌≡◌ {A = ShelfState} (record { pairs = pairs_in (set c.self.inside.fingerprints.items slot (record { length = length c.args.image.now; digest = c.args.digest.now })) (set c.self.inside.places.items c.args.n (slot + 1)); room = length c.self.inside.free.items }) (with_pair (record { pairs = pairs_in c.self.inside.fingerprints.items c.self.inside.places.items; room = length c.self.inside.free.items }) c.args.n (kept_in slot c.args.image.now)) =
    λ i. record { pairs = e i; room = length c.self.inside.free.items } in
    record {
      ok = record {
        slot = slot;
        within = subst (λ (s : ShelfState). slot < s.room) c.self.view_is t.low;
        unused = subst (λ (s : ShelfState). IsFreeSlot s.pairs slot) c.self.view_is t.unused;
        pairs = changed ∙ ap (λ (s : ShelfState). with_pair s c.args.n (kept_in slot c.args.image.now)) c.self.view_is;
        told = c.in-Ok.ensures.puts.ok;
      };
      stands = λ bytes stands.
          let before = subst (λ (s : ShelfState). LevelStands s (g.K.Storage.told c.args.keeper.now) bytes) (sym c.self.view_is) stands in
          let after = level_more (pairs_in c.self.inside.fingerprints.items c.self.inside.places.items) bytes (g.K.Storage.told c.args.keeper.now) (g.K.Storage.told c.put.new.self) c.args.n slot c.args.image.now t.within t.unused c.in-Ok.ensures.puts.ok before in
          subst (λ (ps : List (Option Kept)). IsToldAnd (g.K.Storage.told c.put.new.self) (KeepsAs ps (finmap.insert bytes c.args.n c.args.image.now))) (sym e) after;
      alone = λ alone.
          let before = subst (λ (s : ShelfState). LevelAlone s (g.K.Storage.told c.args.keeper.now)) (sym c.self.view_is) alone in
          let after = level_alone_more (pairs_in c.self.inside.fingerprints.items c.self.inside.places.items) (g.K.Storage.told c.args.keeper.now) (g.K.Storage.told c.put.new.self) c.args.n slot c.args.image.now t.within t.none c.in-Ok.ensures.puts.ok before in
          subst (λ (ps : List (Option Kept)). IsToldAnd (g.K.Storage.told c.put.new.self) (Alone ps)) (sym e) after;
      refused = tt;
      still = λ bytes stands. tt;
      left = tt;
      whole = λ put got is. absurd cc;
      counted = c.in-Ok.ensures.puts.counted;
      rest = remains_as g.K.Storage c.args.keeper.now c.put.new.self (λ e. absurd cc) (λ e. absurd cc) c.in-Ok.ensures.puts.rest;
      roomy = λ room has few is. absurd cc;
    }

pub overflow_add-slot : goal.overflow_add-slot
overflow_add-slot g c =
    let t = taken _ _ _ _ c.args.n c.index-slot.result.now c.args.self.now c.self.invariant c.self.view_is c.requires.number c.requires.new c.requires.room c.index-slot.ensures in
    let low = t.low in
    let small = c.self.invariant.small in
    omega (arith, low, small)
