-- Files in memory, as a search from the newest change finds them.
use Rattle.std.proofs.Common.{Vec, Global, ◌≡◌, ℕ, suc, ◌+◌, ◌<◌, true, false, cond, List, ◌∷◌, drop, length, get_or, Option, Some, None, nat_eq, ap, sym, ◌∙◌, add-one}
use Rattle.std.proofs.Math.Seq.{drop-cons}
use Rattle.std.specs.Ordering.{nat_cmp, eq_by_cmp}
use Rattle.std.specs.Cmp.Lexicographic.{slice_cmp, pointwise, texts_ties, nat_list_eq_equiv, nat_list_cmp_total}
use Rattle.std.specs.FinMap as finmap
use Rattle.std.specs.FinMap.{get-insert, get-remove}
use Rattle.keepers.specs.Claims.{Files}
use Rattle.memory_disk.specs.Changes.{after_change, files_after}
use Rattle.memory_disk.specs.declared.Change.{Change}

abbrev pub bytes_of : Option (Vec ℕ Global) → Option (List ℕ)
bytes_of None = None
bytes_of (Some bytes) = Some bytes.items

get_after : (name : List ℕ) (bytes : Option (Vec ℕ Global)) (files : Files) (q : List ℕ) → finmap.get (after_change name bytes files) q ≡ cond (eq_by_cmp (slice_cmp nat_cmp) q name) (bytes_of bytes) (finmap.get files q)
get_after name None files q = get-remove nat_list_cmp_total files name q
get_after name (Some bytes) files q = get-insert nat_list_cmp_total files name bytes.items q

tie : (name key : List ℕ) → eq_by_cmp (slice_cmp nat_cmp) name key ≡ pointwise nat_eq key name
tie name key = sym (texts_ties name key) ∙ nat_list_eq_equiv.symm name key

-- the change at i
module _ (name : List ℕ) (changes : List Change) (i : ℕ) (change : Change) (inside : i < length changes) (is : change ≡ get_or changes i change) where
  at : finmap.get (files_after (drop i changes)) name ≡ cond (pointwise nat_eq change.name.items name) (bytes_of change.bytes) (finmap.get (files_after (drop (suc i) changes)) name)
  at = ap (λ cs. finmap.get (files_after cs) name) (drop-cons changes i change inside ∙ ap (λ c. c ∷ drop (suc i) changes) (sym is))
      ∙ get_after change.name.items change.bytes (files_after (drop (suc i) changes)) name
      ∙ ap (λ b. cond b (bytes_of change.bytes) (finmap.get (files_after (drop (suc i) changes)) name)) (tie name change.name.items)

  pub found_here : pointwise nat_eq change.name.items name ≡ true → finmap.get (files_after (drop i changes)) name ≡ bytes_of change.bytes
  found_here same = at ∙ ap (λ b. cond b (bytes_of change.bytes) (finmap.get (files_after (drop (suc i) changes)) name)) same

  pub found_later : pointwise nat_eq change.name.items name ≡ false → finmap.get (files_after (drop i changes)) name ≡ finmap.get (files_after (drop (i + 1) changes)) name
  found_later other = at ∙ ap (λ b. cond b (bytes_of change.bytes) (finmap.get (files_after (drop (suc i) changes)) name)) other
      ∙ ap (λ n. finmap.get (files_after (drop n changes)) name) (sym (add-one i))
