-- What is held at each place of the stack.
use Rattle.std.proofs.Common.{◌≡◌, ◌≢◌, ℕ, suc, ◌+◌, ◌<◌, ◌≤◌, Bool, true, false, not, cond, ◌&&◌, ◌||◌, List, length, get_or, set as put, refl, sym, ◌∙◌, ap, subst, inl, inr, arith, add-one}
use Rattle.std.specs.FinSet as set
use Rattle.std.specs.Ordering.{nat_cmp, eq_by_cmp}
use Rattle.std.specs.Cmp.{nat_cmp_total, unsigned_tied}
use Rattle.std.proofs.lemmas.Bool.{eqb-true, eq-eqb, ne_eqb, cases_eq}
use Rattle.std.proofs.lemmas.List.{get_or-set_same, get_or-set_other, set-set, set-get_or, length-set}
use Rattle.level_book.specs.declared.book.Slots.{Slots}
use Rattle.level_book.specs.declared.book.Slots.TheVariants.{Count, Unlimited}
use Rattle.level_book.specs.Moves.{HasRoom}
use Rattle.revolve_gen.specs.Places.{places_on, HasMore, IsRoomy}

abbrev pub Images : Type 0
Images = List (set.FinSet nat_cmp)

-- the images of level k
abbrev pub on : Images → ℕ → set.FinSet nat_cmp
on h k = get_or h k set.empty

-- the image of state n stands on level k as well
abbrev pub stored : Images → ℕ → ℕ → Images
stored h n k = put h k (set.insert (on h k) n)

-- the first p places are held, no state from b on is
pub record Holds (slots : List Slots) (level : ℕ → ℕ) (p : ℕ) (h : Images) (b : ℕ) : Type 0 where
  pub count : length h ≡ length slots
  pub few : (k : ℕ) → set.len (on h k) ≤ places_on level k p
  pub none : (k n : ℕ) → b ≤ n → set.contains (on h k) n ≡ false

pub there : (s : set.FinSet nat_cmp) (n : ℕ) → set.contains (set.insert s n) n ≡ true
there s n = set.contains-insert nat_cmp_total s n n ∙ ap (λ b. b || set.contains s n) (unsigned_tied n n ∙ eq-eqb n n refl)

other : (s : set.FinSet nat_cmp) (n q : ℕ) → q ≢ n → set.contains (set.insert s n) q ≡ set.contains s q
other s n q h = set.contains-insert nat_cmp_total s n q ∙ ap (λ b. b || set.contains s q) (unsigned_tied q n ∙ ne_eqb q n h)

taken : (t c : Bool) → (t ≡ true → c ≡ false) → (not t && (t || c)) ≡ c
taken true c h = sym (h refl)
taken false c h = refl

-- what was put in is taken out again
back : (s : set.FinSet nat_cmp) (n : ℕ) → set.contains s n ≡ false → set.remove (set.insert s n) n ≡ s
back s n new = set.same_set nat_cmp_total set.nat_cmp-IsAntisymmetric _ _ (λ q.
    set.contains-remove nat_cmp_total (set.insert s n) n q
    ∙ ap (λ b. not (eq_by_cmp nat_cmp q n) && b) (set.contains-insert nat_cmp_total s n q)
    ∙ taken (eq_by_cmp nat_cmp q n) (set.contains s q) (λ e. ap (set.contains s) (eqb-true q n (sym (unsigned_tied q n) ∙ e)) ∙ new))

pub on_stored : (h : Images) (n k : ℕ) → k < length h → on (stored h n k) k ≡ set.insert (on h k) n
on_stored h n k within = get_or-set_same h k (set.insert (on h k) n) set.empty within

pub released : (h : Images) (n k : ℕ) → k < length h → set.contains (on h k) n ≡ false → put (stored h n k) k (set.remove (on (stored h n k) k) n) ≡ h
released h n k within new =
    ap (λ s. put (stored h n k) k (set.remove s n)) (on_stored h n k within)
    ∙ ap (put (stored h n k) k) (back (on h k) n new)
    ∙ set-set h k (set.insert (on h k) n) (on h k)
    ∙ set-get_or h k set.empty

abbrev one_if : Bool → ℕ
one_if t = cond t 1 0

-- one place more
holds_next : (slots : List Slots) (level : ℕ → ℕ) (p : ℕ) (h : Images) (b to : ℕ) → Holds slots level p h b → level p < length slots → b < to → Holds slots level (suc p) (stored h b (level p)) to
holds_next slots level p h b to is known ahead =
    let k = level p in
    let within : k < length h = omega (arith, is.count) in
    let new = is.none k b (omega arith) in
    record {
      count = length-set h k (set.insert (on h k) b) ∙ is.count;
      few = λ j. elim (cases_eq j k) [
        | inl e ↦
            let same : on (stored h b k) j ≡ set.insert (on h k) b = ap (on (stored h b k)) e ∙ on_stored h b k within in
            let one = set.len-insert nat_cmp_total (on h k) b ∙ ap (λ t. cond t (set.len (on h k)) (set.len (on h k) + 1)) new in
            let here = ap one_if (eq-eqb k j (sym e)) in
            omega (arith, is.few j, ap (λ j. set.len (on h j)) e, ap set.len same, one, here)
        | inr ne ↦
            let same : on (stored h b k) j ≡ on h j = get_or-set_other h k j (set.insert (on h k) b) set.empty ne in
            omega (arith, is.few j, ap set.len same)
      ];
      none = λ j n past. elim (cases_eq j k) [
        | inl e ↦
            let same : on (stored h b k) j ≡ set.insert (on h k) b = ap (on (stored h b k)) e ∙ on_stored h b k within in
            ap (λ s. set.contains s n) same ∙ other (on h k) b n (λ e. omega (arith, e)) ∙ is.none k n (omega arith)
        | inr ne ↦
            let same : on (stored h b k) j ≡ on h j = get_or-set_other h k j (set.insert (on h k) b) set.empty ne in
            ap (λ s. set.contains s n) same ∙ is.none j n (omega arith)
      ];
    }

pub holds_more : (slots : List Slots) (level : ℕ → ℕ) (p : ℕ) (h : Images) (b to : ℕ) → Holds slots level p h b → level p < length slots → b < to → Holds slots level (p + 1) (stored h b (level p)) to
holds_more slots level p h b to is known ahead =
    let P : ℕ → Type 0 = λ q. Holds slots level q (stored h b (level p)) to in
    subst P (sym (add-one p)) (holds_next slots level p h b to is known ahead)

-- a level with a place left has a slot free
has_room : (slots : Slots) (images : set.FinSet nat_cmp) (n : ℕ) → set.len images ≤ n → HasMore slots n → HasRoom slots images
has_room (Count s) images n few more = omega (arith, more)
has_room Unlimited images n few more = tt

pub room_at : (slots : List Slots) (level : ℕ → ℕ) (room p : ℕ) (h : Images) (b : ℕ) → IsRoomy slots level room → p < room → Holds slots level p h b →
    HasRoom (get_or slots (level p) (Count 0)) (on h (level p))
room_at slots level room p h b roomy within is = has_room (get_or slots (level p) (Count 0)) (on h (level p)) (places_on level (level p) p) (is.few (level p)) (roomy.more p within)
