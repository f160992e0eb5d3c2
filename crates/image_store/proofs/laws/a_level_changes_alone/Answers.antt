use Rattle.image_store.proofs.Common.{◌≡◌, ℕ, ◌<◌, inl, inr, length, set, Option, cond, sym, ◌∙◌, ap, subst, eq-eqb, cases_eq, ne_eqb, get_or-set_same, get_or-set_other, length-set, Images, ShelfState, level_of, LevelStands, LevelAlone, at_level}
use Rattle.image_store.proofs.laws.a_level_changes_alone.Goals as goal

changed : {A : Type 0} (f : ℕ → A) (k j : ℕ) (x : A) → j ≡ k → at_level f k x j ≡ x
changed f k j x e = ap (λ b. cond b x (f j)) (eq-eqb j k e)

kept : {A : Type 0} (f : ℕ → A) (k j : ℕ) (x : A) → (j ≡ k → ⊥) → at_level f k x j ≡ f j
kept f k j x ne = ap (λ b. cond b x (f j)) (ne_eqb j k ne)

pub returns-clause-stands : goal.returns-clause-stands
returns-clause-stands c = λ store told bytes k shelf after now within stands level j low. elim (cases_eq j k) [
  | inl e ↦
      let here : level_of (set store k shelf) j ≡ shelf = ap (level_of (set store k shelf)) e ∙ get_or-set_same store k shelf _ within in
      subst (λ (s : ShelfState). LevelStands s (at_level told k after j) (at_level bytes k now j)) (sym here)
      (subst (λ (t : Option Images). LevelStands shelf t (at_level bytes k now j)) (sym (changed told k j after e))
      (subst (λ (b : Images). LevelStands shelf after b) (sym (changed bytes k j now e)) level))
  | inr ne ↦
      let there : level_of (set store k shelf) j ≡ level_of store j = get_or-set_other store k j shelf _ ne in
      let low' : j < length store = subst (λ (n : ℕ). j < n) (length-set store k shelf) low in
      subst (λ (s : ShelfState). LevelStands s (at_level told k after j) (at_level bytes k now j)) (sym there)
      (subst (λ (t : Option Images). LevelStands (level_of store j) t (at_level bytes k now j)) (sym (kept told k j after ne))
      (subst (λ (b : Images). LevelStands (level_of store j) (told j) b) (sym (kept bytes k j now ne)) (stands j low')))
]

pub returns-clause-alone : goal.returns-clause-alone
returns-clause-alone c = λ store told k shelf after within alone level j low. elim (cases_eq j k) [
  | inl e ↦
      let here : level_of (set store k shelf) j ≡ shelf = ap (level_of (set store k shelf)) e ∙ get_or-set_same store k shelf _ within in
      subst (λ (s : ShelfState). LevelAlone s (at_level told k after j)) (sym here)
      (subst (λ (t : Option Images). LevelAlone shelf t) (sym (changed told k j after e)) level)
  | inr ne ↦
      let there : level_of (set store k shelf) j ≡ level_of store j = get_or-set_other store k j shelf _ ne in
      let low' : j < length store = subst (λ (n : ℕ). j < n) (length-set store k shelf) low in
      subst (λ (s : ShelfState). LevelAlone s (at_level told k after j)) (sym there)
      (subst (λ (t : Option Images). LevelAlone (level_of store j) t) (sym (kept told k j after ne)) (alone j low'))
]
