-- The names that this crate's proofs cite, passed on from one place. Declares nothing.
pub use Rattle.std.proofs.Common.{◌≡◌, ℕ, ◌+◌, ◌*◌, ◌∙◌, false, refl, ap, sym, subst, arith, ◌≢◌, ◌⊎◌, inl, inr, List, get_or, set, Option, Some, None, vec_len, IfOk, [], length, Vec, Result, Ok, Err, IsSome, IfErr, OnOk, OnErr, ◌<◌, Bool, true, cond, ◌≤◌, slice_get, IsTrue, Contains, ◌-◌, ◌^◌, ◌∷◌, map, add-zero, zero-add, not, ◌||◌, ◌&&◌, eq-eqb, ◌==◌, zero, suc, true≢false, slice_set, ◌++◌, MatchOption, add-suc, reverse, IfSome, rules, ◌↔◌, append_assoc}
pub use Rattle.std.proofs.Math.ListN.{length-set}
pub use Rattle.std.proofs.Math.Nat.{mul-zero}
pub use Rattle.std.proofs.lemmas.Bool.{cases_eq, cases_Bool, false≢true, cases_lt, ne_eqb, eqb-true, eqb-false}
pub use Rattle.std.proofs.lemmas.List.{get_or-set_same, get_or-set_other, set-get_or, get_or-map, length-map, get_or_past, length-replicate, length-reverse}
pub use Rattle.std.proofs.lemmas.Option.{same_Some, none-some, slice_get-get_or, slice_get_past}
pub use Rattle.std.proofs.lemmas.Result.{IfErr-at_err, err_from_is_err_and, on_ok_weaker, on_err_weaker}
pub use Rattle.std.specs.Option.{option_map_or, is_some}
pub use Rattle.std.specs.Ordering.{nat_cmp}
pub use Rattle.std.specs.Vec.{vec_capacity}
pub use Rattle.sha2.specs.Sha256.{sha256}
pub use Rattle.plan_types.specs.declared.action.Action.{Action}
pub use Rattle.plan_types.specs.declared.action.Action.TheVariants.{Forward, Copy, Move, Reverse, EndForward, EndReverse}
pub use Rattle.plan_types.specs.declared.action.Dest.{Dest}
pub use Rattle.plan_types.specs.declared.action.Dest.TheVariants.{Work, Level}
pub use Rattle.plan_types.specs.declared.action.Keep.{Keep}
pub use Rattle.plan_types.specs.declared.action.Keep.TheVariants.{Store, Nothing, Tape}
pub use Rattle.level_book.specs.BookCosts.{least, slots_of}
pub use Rattle.level_book.specs.Configuration.{Configuration, start, held_on, without_held}
pub use Rattle.level_book.specs.CostFold.{is_write}
pub use Rattle.level_book.specs.Moves.{Goes, IsFree, IsHeld, HasRoom, MayAdvance}
pub use Rattle.level_book.specs.Rules.{levels_named, rule}
pub use Rattle.level_book.specs.declared.book.Slots.{Slots}
pub use Rattle.level_book.specs.declared.book.Slots.TheVariants.{Count, Unlimited}
pub use Rattle.schedule_rules.specs.Reachability.{IsSound}
pub use Rattle.rv_pages.specs.Memory.{page_numbers}
pub use Rattle.input_journal.specs.Form.{IsRecorded}
pub use Rattle.rv_machine.proofs.Runs.{state_number_keeps_pages, state_number-add}
pub use Rattle.rv_machine.proofs.StateInvariant.{number_is_state}
pub use Rattle.rv_machine.specs.MachineState.{MachineState, IsMachineState}
pub use Rattle.rv_machine.specs.States.{state_number}
pub use Rattle.state_image.proofs.ImageInjectivity.{image_tells}
pub use Rattle.state_image.specs.Image.{image}
pub use Rattle.keepers.specs.Claims.{Images, Location, Tells, SameButAt, AddsPrefix}
pub use Rattle.keepers.specs.Counts.{raised, Rose}
pub use Rattle.keepers.specs.declared.storage.Storage.{Ghosts}
pub use Rattle.image_store.proofs.LevelImages.{tied, not_tied, found, inserted, not_inserted, removed, not_removed, level_more, level_less, level_alone_more, level_alone_less, got_is, stands_still, stands_less, alone_less}
pub use Rattle.image_store.proofs.Levels.{none_at, stands_empty, alone_empty}
pub use Rattle.image_store.proofs.SlotAllocation.{is_within, held_more, held_less, no_pair, none_held}
pub use Rattle.image_store.specs.Calls.{kept_in, IsKept, IsNotKept, IsGot, IsFreed, IsNotFreed, without_pair, with_pair}
pub use Rattle.image_store.specs.Pairs.{pair_at, held, IsFreeSlot}
pub use Rattle.image_store.specs.Shelves.{ShelfState, level_of, kept_at, no_pairs, no_pairs_on}
pub use Rattle.image_store.specs.StoreCalls.{KeepsPair, FetchesPair, ReleasesPair}
pub use Rattle.image_store.specs.StoredImages.{LevelStands, IsKeptAs, KeepsAs, IsToldAnd, Alone, LevelAlone}
pub use Rattle.image_store.specs.declared.shelf.Kept.{Kept}
pub use Rattle.image_store.specs.declared.shelf.StoreFault.{StoreFault}
pub use Rattle.unit_undo.proofs.UndoTrail.{one_each, length-states_below, gone_states, length-led_back, led, leads_there, can_note, noted, gone}
pub use Rattle.unit_undo.specs.UndoState.{UndoState}
pub use Rattle.unit_undo.specs.UndoTrail.{states_below, LeadsBack, IsMadeFor, led_back}
pub use Rattle.unit_digests.specs.Digests.{states_of, AreDigests}
pub use Rattle.reverse_runner.specs.ActionEffects.{Holdings, IsDecoded, Acts, TapeState, IsFetched, Levels, IsAsBefore, Keeps, Releases, Does}
pub use Rattle.reverse_runner.specs.ActionOutcome.{HasReason, IsSafe}
pub use Rattle.reverse_runner.specs.Collision.{KeepsDigests, StandsByDigests, taken_in, Collides}
pub use Rattle.reverse_runner.specs.DeskGives.{KeepGives, FetchGives, ReleaseGives, IsOnLevel, MayKeep}
pub use Rattle.reverse_runner.specs.Desks.{answer_on, CallsAt, KeepersAre}
pub use Rattle.reverse_runner.specs.HoldingsOfRun.{IsLaidOut, Numbers, AreImages, HoldingsStandAt, AreAlone, LevelStandsAt, IsLevelLaidOut, IsUnit}
pub use Rattle.reverse_runner.specs.KeeperCallEffects.{one_put, one_get, fault_on, IsKeeping, IsFetching, one_free, IsOther, Remain, OthersRemain}
pub use Rattle.reverse_runner.specs.KeeperContents.{HoldsJust}
pub use Rattle.reverse_runner.specs.KeepersSeen.{Calls, one_if, calls_of, RiseBy, RiseByAtMost, Called, CalledAtMost, by_number, told_by, calls_to, HaveRoom, is_release}
pub use Rattle.reverse_runner.specs.RefusalResidue.{NotReached, Spares, MayLeave, HoldsBesides, HoldsAllBut}
pub use Rattle.reverse_runner.specs.Rooms.{image_room, IsRoomy, AreRoomy, SameRooms, AreShort, rooms_by}
pub use Rattle.reverse_runner.specs.SessionOfRun.{begun, pair_read, IsDamage, IsNoImage, StandsAt}
pub use Rattle.reverse_runner.specs.SessionState.{holdings_of, SamePages, SessionState, levels_of}
pub use Rattle.reverse_runner.specs.StateOrder.{numbers_from, handed_by, handed, countdown}
pub use Rattle.reverse_runner.specs.Units.{unit_states}
pub use Rattle.reverse_runner.specs.VisitorCalls.{calls_keepers, GetsAll, MissesOne}
pub use Rattle.reverse_runner.specs.Workspaces.{HasUnits, IsInOrder, holdings_in, Ends, levels_in, tape_in}
