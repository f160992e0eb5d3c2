-- The names that this crate's proofs cite, passed on from one place. Declares nothing.
pub use Rattle.std.proofs.Common.{◌≡◌, ◌≢◌, ℕ, ◌<◌, inl, inr, List, [], length, take, set, Option, Some, None, IsSome, cond, true, false, refl, sym, ◌∙◌, ap, subst, unwrap_or, eq-eqb, true≢false, ◌≤◌, ◌+◌, zero, suc, ◌++◌, ◌∷◌, get_or, arith, ◌-◌, replicate, add-one, ◌⊎◌, rules, ◌^◌}
pub use Rattle.std.proofs.lemmas.Bool.{cases_eq, ne_eqb, cases_lt}
pub use Rattle.std.proofs.lemmas.List.{get_or-set_same, get_or-set_other, get_or_default, take_more, take_all, get_or-map, length-map, map-set, get_or_past, length-set}
pub use Rattle.std.proofs.lemmas.Option.{none-some, same_Some}
pub use Rattle.std.specs.Ordering.{nat_cmp, eq_by_cmp}
pub use Rattle.sha2.specs.Sha256.{sha256}
pub use Rattle.level_book.specs.BookCosts.{BookCosts, slots_of, least, room}
pub use Rattle.keepers.specs.Claims.{Images, Tells, SameButAt}
pub use Rattle.image_store.specs.Calls.{kept_in, IsGot, with_pair, without_pair, IsFreed}
pub use Rattle.image_store.specs.Pairs.{pair_at, IsFreeSlot, held, HaveOwnSlots}
pub use Rattle.image_store.specs.Shelves.{ShelfState, level_of, no_pairs, no_pairs_on}
pub use Rattle.image_store.specs.SlotAllocation.{fingerprint_at, pair_in, pairs_in, SharesOut, IsShelf}
pub use Rattle.image_store.specs.StoredImages.{IsKeptAs, KeepsAs, IsToldAnd, Alone, LevelStands, LevelAlone, at_level}
