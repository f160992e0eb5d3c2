-- The images in the files of a level's slots, after a file changes.
use Rattle.std.proofs.Common.{◌≡◌, ◌≢◌, ℕ, zero, suc, ◌^◌, ◌<◌, ◌≤◌, Bool, true, false, cond, List, [], ◌++◌, take, Option, Some, None, inl, inr, refl, ap, sym, subst, ◌∙◌, arith}
use Rattle.std.specs.Prelude.{codes, decimal, unwrap_or, nat_lt, ◌⊎◌}
use Rattle.std.specs.Ordering.{nat_cmp, eq_by_cmp}
use Rattle.std.specs.Cmp.{nat_cmp_total, eq_by_cmp_equiv}
use Rattle.std.specs.Cmp.Lexicographic.{slice_cmp, nat_list_cmp_total}
use Rattle.std.specs.Option.{option_map}
use Rattle.std.proofs.lemmas.Bool.{false≢true}
use Rattle.std.proofs.lemmas.Bool.Decides.{nat_tests}
use Rattle.std.proofs.lemmas.Fmt.{decimal_injective}
use Rattle.std.proofs.lemmas.List.{append_cancel_left, append_cancel_right}
use Rattle.std.proofs.lemmas.Map.Lookups.{exact_unsigned}
use Rattle.std.proofs.lemmas.Map.Views.{tells_apart}
use Rattle.std.specs.FinMap as finmap
use Rattle.std.specs.FinMap.{find, get-from_entries, get-insert, get-remove, get-empty, same_map, nat_cmp-IsAntisymmetric, slice_cmp-IsAntisymmetric}
use Rattle.keepers.specs.Claims.{Images, Files, Tells, WhereTold, SameButAt, SameButNamed, image_in, bytes_in}
use Rattle.keepers.specs.SlotFiles.{slot_path, path_of, folder_of, level_of, images_told, with_image, images_in_files, level_images}
use Rattle.keepers.specs.declared.file_keeper.FileKeeper.{FileKeeper}
use Rattle.keepers.proofs.Images.{not_at}
use Rattle.keepers.proofs.Paths.{one_path}

is_at : (k : ℕ) → eq_by_cmp nat_cmp k k ≡ true
is_at k = (eq_by_cmp_equiv nat_cmp_total).refl k

-- names that the order of files doesn't tell apart are one
same_name : (a b : List ℕ) → eq_by_cmp (slice_cmp nat_cmp) a b ≡ true → a ≡ b
same_name a b e = tells_apart {R = slice_cmp nat_cmp} (slice_cmp-IsAntisymmetric nat_cmp-IsAntisymmetric) a b e

name_at : (a : List ℕ) → eq_by_cmp (slice_cmp nat_cmp) a a ≡ true
name_at a = (eq_by_cmp_equiv nat_list_cmp_total).refl a

-- the paths of two slots of a level are two
pub one_slot : (folder : List ℕ) (level a b : ℕ) → a < 2 ^ 64 → b < 2 ^ 64 → slot_path folder level a ≡ slot_path folder level b → a ≡ b
one_slot folder level a b few also same =
    let front = folder ++ codes "/level" ++ decimal level ++ codes "-slot" in
    let numbers = append_cancel_right (front ++ decimal a) (front ++ decimal b) (codes ".img") same in
    decimal_injective a b few also (append_cancel_left front (decimal a) (decimal b) numbers)

-- the file of a slot, where it is below the number of slots
abbrev seen : List ℕ → ℕ → ℕ → Files → ℕ → Option (List ℕ)
seen folder level slots files slot = cond (nat_lt slot slots) (finmap.get files (slot_path folder level slot)) None

with_other : (slot q : ℕ) (o : Option (List ℕ)) (rest : List (ℕ × List ℕ)) → q ≢ slot → find nat_cmp q (with_image slot o rest) ≡ find nat_cmp q rest
with_other slot q None rest apart = refl
with_other slot q (Some x) rest apart = ap (λ b. cond b (Some x) (find nat_cmp q rest)) (not_at slot q apart)

with_this : (slot : ℕ) (o : Option (List ℕ)) (rest : List (ℕ × List ℕ)) → find nat_cmp slot rest ≡ None → find nat_cmp slot (with_image slot o rest) ≡ o
with_this slot None rest none = none
with_this slot (Some x) rest none = ap (λ b. cond b (Some x) (find nat_cmp slot rest)) (is_at slot)

-- by whether a number is the last below a bound
by_last : (P : Type 0) (q n : ℕ) → (q ≡ n → P) → (q ≢ n → P) → P
by_last P q n f g = elim (eq_by_cmp nat_cmp q n) as (λ b. eq_by_cmp nat_cmp q n ≡ b → P) [
  | true ↦ λ e. f (tells_apart {R = nat_cmp} exact_unsigned q n e)
  | false ↦ λ e. g (λ same. false≢true (sym e ∙ ap (λ k. eq_by_cmp nat_cmp k n) same ∙ is_at n))
] refl

below_more : (q n : ℕ) → q ≢ n → nat_lt q (suc n) ≡ nat_lt q n
below_more q n apart = grind (arith, nat_tests)

below_last : (n : ℕ) → nat_lt n (suc n) ≡ true
below_last n = grind (arith, nat_tests)

not_below : (n : ℕ) → nat_lt n n ≡ false
not_below n = grind (arith, nat_tests)

none_below : (q : ℕ) → nat_lt q 0 ≡ false
none_below q = grind (arith, nat_tests)

is_below : (q n : ℕ) → q < n → nat_lt q n ≡ true
is_below q n h = grind (arith, nat_tests)

find_in_files : (folder : List ℕ) (level slots : ℕ) (files : Files) (q : ℕ) → find nat_cmp q (images_in_files folder level slots files) ≡ seen folder level slots files q
unfolding images_in_files
find_in_files folder level zero files q = sym (ap (λ b. cond b (finmap.get files (slot_path folder level q)) None) (none_below q))
find_in_files folder level (suc n) files q =
    let file = finmap.get files (slot_path folder level n) in
    let rest = images_in_files folder level n files in
    let before = find_in_files folder level n files q in
    by_last (find nat_cmp q (with_image n file rest) ≡ seen folder level (suc n) files q) q n
    (λ same.
    let F : ℕ → Type 0 = λ k. find nat_cmp k (with_image n file rest) ≡ seen folder level (suc n) files k in
    let none : find nat_cmp n rest ≡ None = find_in_files folder level n files n ∙ ap (λ b. cond b file None) (not_below n) in
    subst F (sym same) (with_this n file rest none ∙ sym (ap (λ b. cond b file None) (below_last n))))
    (λ apart. with_other n q file rest apart ∙ before ∙ sym (ap (λ b. cond b (finmap.get files (slot_path folder level q)) None) (below_more q n apart)))

-- the image of a slot of a level
pub get_level : (folder : List ℕ) (level slots : ℕ) (files : Files) (q : ℕ) → finmap.get (level_images folder level slots files) q ≡ seen folder level slots files q
get_level folder level slots files q = get-from_entries nat_cmp_total _ q ∙ find_in_files folder level slots files q

pub get_there : (folder : List ℕ) (level slots : ℕ) (files : Files) (q : ℕ) → q < slots → finmap.get (level_images folder level slots files) q ≡ finmap.get files (slot_path folder level q)
get_there folder level slots files q h = get_level folder level slots files q ∙ ap (λ b. cond b (finmap.get files (slot_path folder level q)) None) (is_below q slots h)

-- a level whose files change at the path of one slot
module _ (folder : List ℕ) (level slots slot : ℕ) (few : slots ≤ 2 ^ 64) (inside : slot < slots) where
  abbrev path : ℕ → List ℕ
  path q = slot_path folder level q

  abbrev held : Files → Images
  held files = level_images folder level slots files

  path_else : (q : ℕ) → q < slots → q ≢ slot → path q ≢ path slot
  path_else q h apart same = apart (one_slot folder level q slot (omega (arith, few, h)) (omega (arith, few, inside)) same)

  -- the name is at the path of the slot just where its slot is the slot
  tie : (q : ℕ) → q < slots → eq_by_cmp (slice_cmp nat_cmp) (path q) (path slot) ≡ eq_by_cmp nat_cmp q slot
  tie q h = by_last (eq_by_cmp (slice_cmp nat_cmp) (path q) (path slot) ≡ eq_by_cmp nat_cmp q slot) q slot
      (λ same. ap (λ k. eq_by_cmp (slice_cmp nat_cmp) (path k) (path slot)) same ∙ name_at (path slot) ∙ sym (ap (λ k. eq_by_cmp nat_cmp k slot) same ∙ is_at slot))
      (λ apart. not_name (path q) (path slot) (path_else q h apart) ∙ sym (not_at slot q apart))
    where
      not_so : (b : Bool) → b ≢ true → b ≡ false
      not_so true h = absurd (h refl)
      not_so false h = refl

      not_name : (a b : List ℕ) → a ≢ b → eq_by_cmp (slice_cmp nat_cmp) a b ≡ false
      not_name a b apart = not_so (eq_by_cmp (slice_cmp nat_cmp) a b) (λ e. apart (same_name a b e))

  -- by whether a slot is one of the level's
  by_bound : (P : Type 0) (q : ℕ) → (q < slots → P) → (nat_lt q slots ≡ false → q ≢ slot → P) → P
  by_bound P q f g = elim (nat_lt q slots) as (λ b. nat_lt q slots ≡ b → P) [
    | true ↦ λ e. f (is_so q e)
    | false ↦ λ e. g e (λ same. false≢true (sym e ∙ is_below q slots (subst (λ k. k < slots) (sym same) inside)))
  ] refl
    where
      is_so : (q : ℕ) → nat_lt q slots ≡ true → q < slots
      is_so q e = grind (arith, nat_tests)

  -- what one change of the files does to the image of each slot
  at_each : (files files' : Files) (image : Option (List ℕ)) → ((q : List ℕ) → finmap.get files' q ≡ cond (eq_by_cmp (slice_cmp nat_cmp) q (path slot)) image (finmap.get files q)) →
      (q : ℕ) → finmap.get (held files') q ≡ cond (eq_by_cmp nat_cmp q slot) image (finmap.get (held files) q)
  at_each files files' image is q = by_bound (finmap.get (held files') q ≡ cond (eq_by_cmp nat_cmp q slot) image (finmap.get (held files) q)) q
      (λ h. get_there folder level slots files' q h ∙ is (path q) ∙ ap (λ b. cond b image (finmap.get files (path q))) (tie q h)
      ∙ ap (λ o. cond (eq_by_cmp nat_cmp q slot) image o) (sym (get_there folder level slots files q h)))
      (λ past apart. get_level folder level slots files' q ∙ ap (λ b. cond b (finmap.get files' (path q)) None) past
      ∙ sym (ap (λ b. cond b image (finmap.get (held files) q)) (not_at slot q apart) ∙ get_level folder level slots files q ∙ ap (λ b. cond b (finmap.get files (path q)) None) past))

  pub level_put : (files : Files) (image : List ℕ) → held (finmap.insert files (path slot) image) ≡ finmap.insert (held files) slot image
  level_put files image = same_map nat_cmp_total nat_cmp-IsAntisymmetric _ _
      (λ q. at_each files (finmap.insert files (path slot) image) (Some image) (λ p. get-insert nat_list_cmp_total files (path slot) image p) q
      ∙ sym (get-insert nat_cmp_total (held files) slot image q))

  pub level_freed : (files : Files) → held (finmap.remove files (path slot)) ≡ finmap.remove (held files) slot
  level_freed files = same_map nat_cmp_total nat_cmp-IsAntisymmetric _ _
      (λ q. at_each files (finmap.remove files (path slot)) None (λ p. get-remove nat_list_cmp_total files (path slot) p) q
      ∙ sym (get-remove nat_cmp_total (held files) slot q))

  pub level_others : (files files' : Files) → SameButNamed (path slot) files files' → SameButAt slot (held files) (held files')
  level_others files files' others q apart = by_bound (finmap.get (held files') q ≡ finmap.get (held files) q) q
      (λ h. get_there folder level slots files' q h ∙ others (path q) (path_else q h apart) ∙ sym (get_there folder level slots files q h))
      (λ past _. get_level folder level slots files' q ∙ ap (λ b. cond b (finmap.get files' (path q)) None) past
      ∙ sym (get_level folder level slots files q ∙ ap (λ b. cond b (finmap.get files (path q)) None) past))

  pub level_image : (files : Files) → image_in (held files) slot ≡ bytes_in files (path slot)
  level_image files = ap (λ o. unwrap_or o []) (get_there folder level slots files slot inside)

  -- the same of what a disk tells
  pub told_so : (P : Files → Files → Type 0) (Q : Images → Images → Type 0) → ((a b : Files) → P a b → Q (held a) (held b)) → (old new : Option Files) →
      Tells old new P → Tells (option_map held old) (option_map held new) Q
  told_so P Q f None None h = tt
  told_so P Q f None (Some b) h = absurd h
  told_so P Q f (Some a) None h = absurd h
  told_so P Q f (Some a) (Some b) h = f a b h

  pub told_put : (image : List ℕ) (old new : Option Files) → Tells old new (λ a b. b ≡ finmap.insert a (path slot) image) →
      Tells (option_map held old) (option_map held new) (λ a b. b ≡ finmap.insert a slot image)
  told_put image old new = told_so _ _ (λ a b is. ap held is ∙ level_put a image) old new

  pub told_others : (old new : Option Files) → Tells old new (SameButNamed (path slot)) → Tells (option_map held old) (option_map held new) (SameButAt slot)
  told_others old new = told_so _ _ level_others old new

  pub told_freed : (old new : Option Files) → Tells old new (λ a b. b ≡ finmap.remove a (path slot)) →
      Tells (option_map held old) (option_map held new) (λ a b. b ≡ finmap.remove a slot)
  told_freed old new = told_so _ _ (λ a b is. ap held is ∙ level_freed a) old new

  pub told_left : (old new : Option Files) → Tells old new (λ a b. (b ≡ a) ⊎ (b ≡ finmap.remove a (path slot))) →
      Tells (option_map held old) (option_map held new) (λ a b. (b ≡ a) ⊎ (b ≡ finmap.remove a slot))
  told_left old new = told_so _ _ (λ a b. elim [ inl is ↦ inl (ap held is) | inr is ↦ inr (ap held is ∙ level_freed a) ]) old new

  pub told_bytes : (len : ℕ) (bytes : List ℕ) (told : Option Files) → WhereTold told (λ files. bytes ≡ take len (bytes_in files (path slot))) →
      WhereTold (option_map held told) (λ images. bytes ≡ take len (image_in images slot))
  told_bytes len bytes None h = tt
  told_bytes len bytes (Some files) h = h ∙ ap (take len) (sym (level_image files))

-- the same of a keeper whose disk changes at the path of one of its slots
module _ {D : Type 0} (told : D → Option Files) (slot : ℕ) (old new : FileKeeper D) (few : old.slots ≤ 2 ^ 64) (inside : slot < old.slots) where
  abbrev level_held : Files → Images
  level_held files = level_images (folder_of old) (level_of old) old.slots files

  pub keeper_put : (image : List ℕ) → images_told told new ≡ option_map level_held (told new.disk) → Tells (told old.disk) (told new.disk) (λ a b. b ≡ finmap.insert a (path_of old slot) image) →
      Tells (images_told told old) (images_told told new) (λ a b. b ≡ finmap.insert a slot image)
  keeper_put image same h =
      let P : Option Images → Type 0 = λ o. Tells (images_told told old) o (λ a b. b ≡ finmap.insert a slot image) in
      subst P (sym same) (told_put (folder_of old) (level_of old) old.slots slot few inside image (told old.disk) (told new.disk) h)

  pub keeper_others : images_told told new ≡ option_map level_held (told new.disk) → Tells (told old.disk) (told new.disk) (SameButNamed (path_of old slot)) →
      Tells (images_told told old) (images_told told new) (SameButAt slot)
  keeper_others same h =
      let P : Option Images → Type 0 = λ o. Tells (images_told told old) o (SameButAt slot) in
      subst P (sym same) (told_others (folder_of old) (level_of old) old.slots slot few inside (told old.disk) (told new.disk) h)

  pub keeper_freed : images_told told new ≡ option_map level_held (told new.disk) → Tells (told old.disk) (told new.disk) (λ a b. b ≡ finmap.remove a (path_of old slot)) →
      Tells (images_told told old) (images_told told new) (λ a b. b ≡ finmap.remove a slot)
  keeper_freed same h =
      let P : Option Images → Type 0 = λ o. Tells (images_told told old) o (λ a b. b ≡ finmap.remove a slot) in
      subst P (sym same) (told_freed (folder_of old) (level_of old) old.slots slot few inside (told old.disk) (told new.disk) h)

  pub keeper_left : images_told told new ≡ option_map level_held (told new.disk) → Tells (told old.disk) (told new.disk) (λ a b. (b ≡ a) ⊎ (b ≡ finmap.remove a (path_of old slot))) →
      Tells (images_told told old) (images_told told new) (λ a b. (b ≡ a) ⊎ (b ≡ finmap.remove a slot))
  keeper_left same h =
      let P : Option Images → Type 0 = λ o. Tells (images_told told old) o (λ a b. (b ≡ a) ⊎ (b ≡ finmap.remove a slot)) in
      subst P (sym same) (told_left (folder_of old) (level_of old) old.slots slot few inside (told old.disk) (told new.disk) h)

  pub keeper_bytes : (len : ℕ) (bytes : List ℕ) → WhereTold (told old.disk) (λ files. bytes ≡ take len (bytes_in files (path_of old slot))) →
      WhereTold (images_told told old) (λ images. bytes ≡ take len (image_in images slot))
  keeper_bytes len bytes h = told_bytes (folder_of old) (level_of old) old.slots slot few inside len bytes (told old.disk) h

-- a file of another level makes no difference
pub levels_apart : (folder other : List ℕ) (level its_level slot slots : ℕ) (files files' : Files) → level < 2 ^ 64 → its_level < 2 ^ 64 → slot < 2 ^ 64 → slots ≤ 2 ^ 64 → its_level ≢ level →
    SameButNamed (slot_path folder level slot) files files' → level_images other its_level slots files' ≡ level_images other its_level slots files
levels_apart folder other level its_level slot slots files files' a b s few apart same = same_map nat_cmp_total nat_cmp-IsAntisymmetric _ _
    (λ q. by_test (finmap.get (level_images other its_level slots files') q ≡ finmap.get (level_images other its_level slots files) q) q slots
    (λ h. get_there other its_level slots files' q h
    ∙ same (slot_path other its_level q) (λ e. apart (one_path other folder its_level level q slot b a (omega (arith, h, few)) s e).1)
    ∙ sym (get_there other its_level slots files q h))
    (λ past. get_level other its_level slots files' q ∙ ap (λ b. cond b (finmap.get files' (slot_path other its_level q)) None) past
    ∙ sym (get_level other its_level slots files q ∙ ap (λ b. cond b (finmap.get files (slot_path other its_level q)) None) past)))
  where
    is_so : (q n : ℕ) → nat_lt q n ≡ true → q < n
    is_so q n e = grind (arith, nat_tests)

    by_test : (P : Type 0) (q n : ℕ) → (q < n → P) → (nat_lt q n ≡ false → P) → P
    by_test P q n f g = elim (nat_lt q n) as (λ b. nat_lt q n ≡ b → P) [
      | true ↦ λ e. f (is_so q n e)
      | false ↦ λ e. g e
    ] refl

-- a level without files of its slots
pub level_empty : (folder : List ℕ) (level slots : ℕ) (files : Files) → ((slot : ℕ) → slot < slots → finmap.get files (slot_path folder level slot) ≡ None) → level_images folder level slots files ≡ finmap.empty
level_empty folder level slots files none = same_map nat_cmp_total nat_cmp-IsAntisymmetric _ _
    (λ q. get_level folder level slots files q ∙ no_file (nat_lt q slots) q refl ∙ sym (get-empty nat_cmp q))
  where
    is_so : (q n : ℕ) → nat_lt q n ≡ true → q < n
    is_so q n e = grind (arith, nat_tests)

    no_file : (b : Bool) (q : ℕ) → nat_lt q slots ≡ b → cond b (finmap.get files (slot_path folder level q)) None ≡ None
    no_file true q e = none q (is_so q slots e)
    no_file false q e = refl
