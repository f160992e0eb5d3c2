-- The places of the levels' folders: there are few options, and the folders stand there.
use Rattle.std.proofs.Common.{◌≡◌, ℕ, zero, suc, ◌+◌, ◌-◌, ◌<◌, ◌≤◌, ◌++◌, Bool, true, false, cond, nat_le, take, List, [], ◌∷◌, map, length, drop, Some, refl, sym, ap, ◌∙◌, arith, append_assoc}
use Rattle.std.specs.Prelude.{codes, min, count_by, slice_get, ◌==◌}
use Rattle.std.specs.List.{AllByRecursion, flat_map}
use Rattle.std.specs.Option.{option_map}
use Rattle.std.proofs.Math.Seq.{drop-append_seam}
use Rattle.std.proofs.Math.ListN.{drop_of_length-le}
use Rattle.std.proofs.lemmas.Bool.{eqb-true, leb-true, leb-false}
use Rattle.std.proofs.lemmas.Fmt.{decimal_digit}
use Rattle.std.proofs.lemmas.List.{length-append, length-drop, take_all}
use Rattle.requests.specs.declared.places.KeepAt.TheVariants.{Folder}
use Rattle.requests.specs.Request.{Choice, raw, stack, workers, units, files, files_front, option_word, is_raw, is_stack, is_workers, is_units, is_files, AreOptions, command_words, Request, Says}
use Rattle.requests.specs.Bounds.{option_numbers, IsWithin}
use Rattle.requests.specs.Places.{levels, place_from, places_of, folder_said, folder_at}
use Rattle.requests.proofs.Requests.{counted}

-- ---- how many options there are

level_counts : (k : ℕ) → k ≤ 3 → cond {A = ℕ} (0 == k) 1 0 + cond (1 == k) 1 0 + cond (2 == k) 1 0 + cond (3 == k) 1 0 ≡ 1
level_counts zero h = refl
level_counts (suc zero) h = refl
level_counts (suc (suc zero)) h = refl
level_counts (suc (suc (suc zero))) h = refl
level_counts (suc (suc (suc (suc k)))) h = absurd (omega arith)

-- options with levels within their bounds are of eight kinds
kinds : (options : List Choice) → AllByRecursion IsWithin (flat_map option_numbers options) →
    length options ≡ count_by is_raw options + count_by is_stack options + count_by is_workers options + count_by is_units options
    + count_by (is_files 0) options + count_by (is_files 1) options + count_by (is_files 2) options + count_by (is_files 3) options
kinds [] h = refl
kinds (raw ∷ options) h =
    omega (arith, kinds options h, counted is_raw raw options, counted is_stack raw options, counted is_workers raw options, counted is_units raw options, counted (is_files 0) raw options, counted (is_files 1) raw options, counted (is_files 2) raw options, counted (is_files 3) raw options)
kinds (stack n ∷ options) h =
    omega (arith, kinds options h.1, counted is_raw (stack n) options, counted is_stack (stack n) options, counted is_workers (stack n) options, counted is_units (stack n) options, counted (is_files 0) (stack n) options, counted (is_files 1) (stack n) options, counted (is_files 2) (stack n) options, counted (is_files 3) (stack n) options)
kinds (workers n ∷ options) h =
    omega (arith, kinds options h.1, counted is_raw (workers n) options, counted is_stack (workers n) options, counted is_workers (workers n) options, counted is_units (workers n) options, counted (is_files 0) (workers n) options, counted (is_files 1) (workers n) options, counted (is_files 2) (workers n) options, counted (is_files 3) (workers n) options)
kinds (units n ∷ options) h =
    omega (arith, kinds options h.1, counted is_raw (units n) options, counted is_stack (units n) options, counted is_workers (units n) options, counted is_units (units n) options, counted (is_files 0) (units n) options, counted (is_files 1) (units n) options, counted (is_files 2) (units n) options, counted (is_files 3) (units n) options)
kinds (files k folder ∷ options) h =
    omega (arith, kinds options h.1, level_counts k (h.0).1, counted is_raw (files k folder) options, counted is_stack (files k folder) options, counted is_workers (files k folder) options, counted is_units (files k folder) options, counted (is_files 0) (files k folder) options, counted (is_files 1) (files k folder) options, counted (is_files 2) (files k folder) options, counted (is_files 3) (files k folder) options)

pub few_options : (options : List Choice) → AreOptions options → AllByRecursion IsWithin (flat_map option_numbers options) → length options ≤ 8
few_options options are within =
    omega (arith, kinds options within, are.one_raw, are.one_stack, are.one_workers, are.one_units, are.one_folder 0, are.one_folder 1, are.one_folder 2, are.one_folder 3)

-- ---- where a folder's name begins

pub front_length : (level : ℕ) → level < 4 → length (files_front level) ≡ 10
front_length level h = ap (λ l. length (codes "--files=" ++ l ++ codes ":")) (decimal_digit level (omega arith))

-- ---- one option

-- the option of the level's files is the place
pub here : (level word : ℕ) (c : Choice) (options : List Choice) → is_files level c ≡ true → place_from level word (c ∷ options) ≡ Folder word (length (files_front level))
here level word raw options e = absurd cc
here level word (stack pages) options e = absurd cc
here level word (workers count) options e = absurd cc
here level word (units count) options e = absurd cc
here level word (files k folder) options e = ap (λ b. cond b (Folder word (length (files_front level))) (place_from level (word + 1) options)) e

-- and another is passed over
pub further : (level word : ℕ) (c : Choice) (options : List Choice) → is_files level c ≡ false → place_from level word (c ∷ options) ≡ place_from level (word + 1) options
further level word raw options e = refl
further level word (stack pages) options e = refl
further level word (workers count) options e = refl
further level word (units count) options e = refl
further level word (files k folder) options e = ap (λ b. cond b (Folder word (length (files_front level))) (place_from level (word + 1) options)) e

-- ---- the folders stand there

get_seam : (front : List (List ℕ)) (w : List ℕ) (behind : List (List ℕ)) → slice_get (front ++ w ∷ behind) (length front) ≡ Some w
get_seam [] w behind = refl
get_seam (x ∷ front) w behind = get_seam front w behind

-- the folder of this option stands behind the option's front
folder_here : (level k : ℕ) (folder : List ℕ) (front behind : List (List ℕ)) → (level == k) ≡ true →
    folder_at (front ++ option_word (files k folder) ∷ behind) (Folder (length front + 1) (length (files_front level))) ≡ Some folder
folder_here level k folder front behind e =
    let same = eqb-true level k e in
    let index : length front + 1 - 1 ≡ length front = omega arith in
    ap (λ i. option_map (drop (length (files_front level))) (slice_get (front ++ option_word (files k folder) ∷ behind) i)) index
    ∙ ap (option_map (drop (length (files_front level)))) (get_seam front (option_word (files k folder)) behind)
    ∙ ap (λ n. Some (drop (length (files_front n)) (files_front k ++ folder))) same
    ∙ ap (λ l. Some l) (drop-append_seam (files_front k) folder)

-- one word further
one_further : (level : ℕ) (c : Choice) (options : List Choice) (front behind : List (List ℕ)) →
    ((front : List (List ℕ)) → folder_at (front ++ (map option_word options ++ behind)) (place_from level (length front + 1) options) ≡ folder_said level options) →
    folder_at (front ++ (option_word c ∷ (map option_word options ++ behind))) (place_from level (length front + 1 + 1) options) ≡ folder_said level options
one_further level c options front behind rest =
    ap (λ ws. folder_at ws (place_from level (length front + 1 + 1) options)) (sym (append_assoc front (option_word c ∷ []) (map option_word options ++ behind)))
    ∙ ap (λ n. folder_at ((front ++ option_word c ∷ []) ++ (map option_word options ++ behind)) (place_from level (n + 1) options)) (sym (length-append front (option_word c ∷ [])))
    ∙ rest (front ++ option_word c ∷ [])

by_level : (level k : ℕ) (folder : List ℕ) (options : List Choice) (front behind : List (List ℕ)) →
    ((front : List (List ℕ)) → folder_at (front ++ (map option_word options ++ behind)) (place_from level (length front + 1) options) ≡ folder_said level options) →
    (b : Bool) → (level == k) ≡ b →
    folder_at (front ++ (option_word (files k folder) ∷ (map option_word options ++ behind))) (cond b (Folder (length front + 1) (length (files_front level))) (place_from level (length front + 1 + 1) options))
    ≡ cond b (Some folder) (folder_said level options)
by_level level k folder options front behind rest true e = folder_here level k folder front (map option_word options ++ behind) e
by_level level k folder options front behind rest false e = one_further level (files k folder) options front behind rest

-- the places of options behind other words
folder_behind : (level : ℕ) (options : List Choice) (front behind : List (List ℕ)) →
    folder_at (front ++ (map option_word options ++ behind)) (place_from level (length front + 1) options) ≡ folder_said level options
folder_behind level [] front behind = refl
folder_behind level (raw ∷ options) front behind = one_further level raw options front behind (λ f. folder_behind level options f behind)
folder_behind level (stack pages ∷ options) front behind = one_further level (stack pages) options front behind (λ f. folder_behind level options f behind)
folder_behind level (workers count ∷ options) front behind = one_further level (workers count) options front behind (λ f. folder_behind level options f behind)
folder_behind level (units count ∷ options) front behind = one_further level (units count) options front behind (λ f. folder_behind level options f behind)
folder_behind level (files k folder ∷ options) front behind = by_level level k folder options front behind (λ f. folder_behind level options f behind) (level == k) refl

pub folders_said : (words : List (List ℕ)) (r : Request) → Says words r → map (folder_at words) (places_of r.options) ≡ map (λ level. folder_said level r.options) levels
folders_said words r says =
    let at : (level : ℕ) → folder_at words (place_from level 1 r.options) ≡ folder_said level r.options =
    λ level. ap (λ ws. folder_at ws (place_from level 1 r.options)) says.spelled ∙ folder_behind level r.options [] (command_words r.command) in
    λ i. at 0 i ∷ at 1 i ∷ at 2 i ∷ at 3 i ∷ []

-- ---- what stands at a place

-- a part that ends with its list
pub end_of : (l : List ℕ) (m s : ℕ) → m ≡ min (length l) s → take (length l - m) (drop m l) ≡ drop s l
end_of l m s e = take_all (length l - m) (drop m l) (omega (arith, length-drop m l)) ∙ by_test (nat_le s (length l)) refl
  where
    by_test : (b : Bool) → nat_le s (length l) ≡ b → drop m l ≡ drop s l
    by_test true f = let same : m ≡ s = omega (arith, e, leb-true s (length l) f) in ap (λ n. drop n l) same
    by_test false f =
        let past = leb-false s (length l) f in
        drop_of_length-le l (omega (arith, e, past)) ∙ sym (drop_of_length-le l (omega (arith, past)))
