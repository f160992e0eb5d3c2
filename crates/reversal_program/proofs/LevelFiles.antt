-- What the files of a level hold when a run is done.
use Rattle.std.proofs.Common.{◌≡◌, ℕ, zero, suc, ◌+◌, ◌<◌, ◌≤◌, Bool, true, false, cond, List, [], ◌∷◌, length, map, take, slice_get, Option, None, Some, refl, ap, sym, subst, ◌∙◌, zero-add, arith}
use Rattle.std.specs.Prelude.{nat_lt, IsSome}
use Rattle.std.specs.FinMap as finmap
use Rattle.std.specs.Option.{option_map, option_map_or}
use Rattle.std.proofs.lemmas.Bool.Decides.{nat_tests}
use Rattle.std.proofs.lemmas.List.{length-map, take_all}
use Rattle.std.proofs.lemmas.Option.{slice_get-map, same_Some}
use Rattle.plan_types.specs.declared.action.Action.{Action}
use Rattle.plan_types.specs.declared.limits.TheConstants.{MOST_SLOTS}
use Rattle.keepers.specs.Claims.{Images, Files}
use Rattle.keepers.specs.AnyKeeper.{AnyKeeper, told_of, slots_of, place_of}
use Rattle.keepers.specs.SlotFiles.{slot_path, level_images, disk_of}
use Rattle.keepers.specs.declared.either_keeper.EitherKeeper.TheVariants.{First, Second}
use Rattle.keepers.specs.declared.file_keeper.FileKeeper.{FileKeeper}
use Rattle.keepers.proofs.SlotImages.{get_level, get_there}
use Rattle.level_book.specs.Configuration.{start, held_on}
use Rattle.level_book.specs.Valid.{Leads, Valid}
use Rattle.rv_machine.specs.MachineState.{MachineState}
use Rattle.image_store.specs.StoredImages.{IsToldAnd}
use Rattle.reverse_runner.specs.KeeperContents.{HoldsJust}
use Rattle.reverse_runner.specs.KeepersSeen.{by_number}
use Rattle.reverse_runner.specs.HoldingsOfRun.{Numbers}
use Rattle.reversal.specs.CommandRun.{performing}
use Rattle.reversal.specs.Course.{Shown, Done}
use Rattle.reversal.specs.Decision.{StayInPlace}
use Rattle.reversal.specs.Deeds.{deed_of}
use Rattle.reversal.specs.Job.{Run, unit_state}
use Rattle.reversal.specs.Moment.{Moment, AllEmpty}
use Rattle.reversal_program.specs.LevelStart.{IsKeeperOf, AllBegin, HaveNoFiles}
use Rattle.reversal_program.specs.Files.{FilesHoldJust, LevelHoldsJust}
use Rattle.reversal_program.proofs.Levels.{begin_empty}

-- there is a keeper for each folder that is said or isn't
pub as_many : {D : Type 0} (told : D → Option Files) (level : ℕ) (folders : List (Option (List ℕ))) (disks : List D) (ks : List (AnyKeeper D)) → AllBegin told level folders disks ks → length ks ≡ length folders
as_many told level [] [] [] begin = refl
as_many told level [] [] (k ∷ ks) begin = absurd begin
as_many told level [] (d ∷ ds) [] begin = absurd begin
as_many told level [] (d ∷ ds) (k ∷ ks) begin = absurd begin
as_many told level (f ∷ fs) [] [] begin = absurd begin
as_many told level (f ∷ fs) [] (k ∷ ks) begin = absurd begin
as_many told level (f ∷ fs) (d ∷ ds) [] begin = absurd begin
as_many told level (f ∷ fs) (d ∷ ds) (k ∷ ks) begin = (let rest = as_many told (level + 1) fs ds ks begin.1 in omega (arith, rest))

-- a keeper that has its images in the files of a folder, and its slots
pub record IsSaid {D : Type 0} (folder : List ℕ) (level : ℕ) (o : Option (AnyKeeper D)) : Type 0 where
  pub place : option_map place_of o ≡ Some (Some (folder, level))
  pub slots : option_map slots_of o ≡ Some MOST_SLOTS

kept_in : {D : Type 0} (level : ℕ) (folder : List ℕ) (disk : D) (k : AnyKeeper D) → IsKeeperOf level (Some folder) disk k → place_of k ≡ Some (folder, level)
kept_in level folder disk (First k) is = absurd is
kept_in level folder disk (Second k) is = λ i. Some (is.0 i, is.1 i)

-- the keeper of a level for which a folder is said
said_at : {D : Type 0} (told : D → Option Files) (level : ℕ) (folders : List (Option (List ℕ))) (disks : List D) (ks : List (AnyKeeper D)) → AllBegin told level folders disks ks →
    (i : ℕ) (folder : List ℕ) → slice_get folders i ≡ Some (Some folder) → IsSaid folder (level + i) (slice_get ks i)
said_at told level [] disks ks begin i folder at = absurd cc
said_at told level (f ∷ fs) [] [] begin i folder at = absurd begin
said_at told level (f ∷ fs) [] (k ∷ ks) begin i folder at = absurd begin
said_at told level (f ∷ fs) (d ∷ ds) [] begin i folder at = absurd begin
said_at told level (f ∷ fs) (d ∷ ds) (k ∷ ks) begin zero folder at =
    let said : f ≡ Some folder = same_Some f (Some folder) at in
    let K : Option (List ℕ) → Type 0 = λ o. IsKeeperOf level o d k in
    let there = kept_in level folder d k (subst K said begin.0.kind) in
    let N : ℕ → Type 0 = λ n. IsSaid folder n (Some k) in
    subst N (omega arith) (record { place = ap Some there; slots = ap Some begin.0.slots })
said_at told level (f ∷ fs) (d ∷ ds) (k ∷ ks) begin (suc i) folder at =
    let N : ℕ → Type 0 = λ n. IsSaid folder n (slice_get ks i) in
    subst N (omega arith) (said_at told (level + 1) fs ds ks begin.1 i folder at)

-- it has them there when the run is done
stays_at : {D : Type 0} (folder : List ℕ) (level : ℕ) (before after : List (AnyKeeper D)) → StayInPlace slots_of place_of before after → IsSaid folder level (slice_get before level) → IsSaid folder level (slice_get after level)
stays_at folder level before after stay said = record {
  place = sym (slice_get-map place_of after level) ∙ ap (λ l. slice_get l level) stay.places_same ∙ slice_get-map place_of before level ∙ said.place;
  slots = sym (slice_get-map slots_of after level) ∙ ap (λ l. slice_get l level) stay.slots_same ∙ slice_get-map slots_of before level ∙ said.slots;
}

-- images that are told of a level's files say what these hold
module _ (states : ℕ → MachineState) (numbers : Numbers) (folder : List ℕ) (level : ℕ) (files : Files) where
  inside : (slot : ℕ) (image : List ℕ) → finmap.get (level_images folder level MOST_SLOTS files) slot ≡ Some image → slot < MOST_SLOTS
  inside slot image e = by (nat_lt slot MOST_SLOTS) refl
    where
      by : (b : Bool) → nat_lt slot MOST_SLOTS ≡ b → slot < MOST_SLOTS
      by true lt = grind (arith, nat_tests)
      by false ge = absurd (no_image (ap (λ t. cond t (finmap.get files (slot_path folder level slot)) None) (sym ge) ∙ sym (get_level folder level MOST_SLOTS files slot) ∙ e))
        where
          no_image : None ≡ Some image → ⊥
          no_image n = cc

  files_hold : HoldsJust states numbers (level_images folder level MOST_SLOTS files) → FilesHoldJust states numbers folder level files
  files_hold just = record {
    slot_of = just.slot_of;
    own = just.own;
    within = λ n has. inside (just.slot_of n) _ (just.each n has);
    each = λ n has. sym (get_there folder level MOST_SLOTS files (just.slot_of n) (inside (just.slot_of n) _ (just.each n has))) ∙ just.each n has;
    only = λ slot lt some. just.only slot (subst IsSome (sym (get_there folder level MOST_SLOTS files slot lt)) some);
  }

-- what the keeper tells is of the files of its folder
module _ {D : Type 0} (told : D → Option Files) (states : ℕ → MachineState) (numbers : Numbers) (folder : List ℕ) (level : ℕ) (after : List (AnyKeeper D)) where
  of_files : (k : FileKeeper D) → slice_get after level ≡ Some (Second k) → (files : Option Files) → told (disk_of k) ≡ files →
      IsToldAnd (option_map (level_images folder level MOST_SLOTS) files) (HoldsJust states numbers) → LevelHoldsJust told states numbers folder level after
  of_files k there None tells just = absurd just
  of_files k there (Some files) tells just = record { keeper = k; there = there; files = files; tells = tells; hold = files_hold states numbers folder level files just }

  of_keeper : (o : Option (AnyKeeper D)) → slice_get after level ≡ o → IsSaid folder level o → IsToldAnd (option_map_or (told_of told) o None) (HoldsJust states numbers) → LevelHoldsJust told states numbers folder level after
  of_keeper None there said just = absurd just
  of_keeper (Some (First k)) there said just = absurd (in_memory (folder, level) (same_Some _ _ said.place))
    where
      in_memory : (place : List ℕ × ℕ) → None ≡ Some place → ⊥
      in_memory place e = cc
  of_keeper (Some (Second k)) there said just =
      let place = same_Some _ _ (same_Some _ _ said.place) in
      let slots = same_Some _ _ said.slots in
      let J : Option Images → Type 0 = λ t. IsToldAnd t (HoldsJust states numbers) in
      of_files k there (told (disk_of k)) refl
      (subst J (λ i. option_map (level_images ((place i).0) ((place i).1) (slots i)) (told (disk_of k))) just)

-- a run that was done
pub leaves_images : {D : Type 0} (told : D → Option Files) (folders : List (Option (List ℕ))) (disks : List D) (before after : List (AnyKeeper D)) (run : Run) (shown : Shown) (old new : Moment) →
    AllBegin told 0 folders disks before → HaveNoFiles told 0 folders disks → StayInPlace slots_of place_of before after →
    old.images ≡ by_number None (told_of told) before → new.images ≡ by_number None (told_of told) after → Done (performing run) shown old new →
    (valid : Valid run.steps run.slots run.list) → length run.slots ≤ length folders →
    (level : ℕ) (folder : List ℕ) → level < length run.slots → slice_get folders level ≡ Some (Some folder) →
    LevelHoldsJust told (unit_state run) (held_on valid.0 level) folder level after
leaves_images told folders disks before after run shown old new begin none stay was is done valid few level folder below at =
    let many = as_many told 0 folders disks before begin in
    let count = length (map (deed_of shown.states run.unit run.steps) run.list) in
    let whole : take count run.list ≡ run.list = take_all count run.list (omega (arith, length-map run.list (deed_of shown.states run.unit run.steps))) in
    let L : List Action → Type 0 = λ l. Leads run.steps run.slots (start run.steps run.slots) l valid.0 in
    let empty : AllEmpty (length run.slots) old.images = λ k lt. ap (λ images. images k) was ∙ begin_empty told 0 folders disks before begin none k (omega (arith, lt, few, many)) in
    let just = done.held.just empty valid.0 (subst L (sym whole) valid.1) level below tt in
    let N : ℕ → Type 0 = λ n. IsSaid folder n (slice_get before level) in
    let T : (ℕ → Option Images) → Type 0 = λ images. IsToldAnd (images level) (HoldsJust (unit_state run) (held_on valid.0 level)) in
    of_keeper told (unit_state run) (held_on valid.0 level) folder level after (slice_get after level) refl
    (stays_at folder level before after stay (subst N (zero-add level) (said_at told 0 folders disks before begin level folder at)))
    (subst T is just)
