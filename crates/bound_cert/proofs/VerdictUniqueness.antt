-- What is accepted, and for what reason another certificate isn't, are told apart.
use Rattle.std.proofs.Common.{◌≡◌, ◌↔◌, ℕ, ◌<◌, ◌≤◌, List, [], ◌∷◌, length, refl, sym, ◌∙◌, ap, subst, inl, inr, arith}
use Rattle.std.specs.List.{slice_get}
use Rattle.plan_types.specs.declared.action.Action.{Action}
use Rattle.level_book.specs.declared.book.Level.{Level}
use Rattle.level_book.specs.BookCosts.{BookCosts, slots_of, total_room, CostsRise}
use Rattle.level_book.specs.Valid.{Valid}
use Rattle.level_book.specs.CostFold.{forward, cost}
use Rattle.level_book.specs.NestedClass.{Nested as IsNested}
use Rattle.level_book.specs.DiskClass.{Disk as IsDisk}
use Rattle.cost_tables.specs.TableRows.{tables_in}
use Rattle.disk_gen.specs.DiskRows.{disk_tables_in}
use Rattle.class_bounds.proofs.NestedCosts.{nested_least}
use Rattle.class_bounds.proofs.DiskCosts.{disk_least}
use Rattle.pebble_bound.proofs.BoundLaws.{forward_bounded}
use Rattle.revolve_gen.specs.Multistage.{IsMultistage}
use Rattle.multistage_gen.proofs.Exchange.{multistage_least}
use Rattle.cert_text.specs.declared.certificate.Certificate.{Certificate}
use Rattle.cert_text.specs.declared.certificate.Certificate.TheVariants.{Revolve, Places, Nested, Disk}
use Rattle.bound_cert.specs.declared.verdict.Class.{Class}
use Rattle.bound_cert.specs.declared.verdict.Class.TheVariants as class
use Rattle.bound_cert.specs.declared.verdict.CertVerdict.{CertVerdict}
use Rattle.bound_cert.specs.declared.verdict.CertVerdict.TheVariants.{Least, Not}
use Rattle.bound_cert.specs.declared.verdict.Reason.{Reason}
use Rattle.bound_cert.specs.declared.verdict.Reason.TheVariants.{Invalid, WrongShape, OutsideClass, Inequality, ValueDiffers}
use Rattle.bound_cert.specs.Acceptance.{IsNumberOf, IsNegative, IsTold, class_of, IsAccepted, IsFirstReason, IsLeastOf, Differs}
use Rattle.bound_cert.specs.Verdicts.{IsVerdict, IsComparison}
use Rattle.bound_cert.proofs.TestOutcomes.{nested_apart, one_nested_reason, disk_apart, one_disk_reason}
use Rattle.bound_cert.proofs.ThresholdFit.{one_misfit, fits_or_misfits, fits_in_class, misfits_in_class}

-- what is accepted isn't refused
pub apart : (list : List Action) (steps : ℕ) (book : BookCosts) (certificate : Certificate) (reason : Reason) → IsFirstReason list steps book certificate reason → IsAccepted list steps book certificate → ⊥
apart list steps book (Revolve k value) Invalid is accepted = is accepted.0
apart list steps book (Revolve k value) WrongShape is accepted = is
apart list steps book (Revolve k value) OutsideClass is accepted = is
apart list steps book (Revolve k value) (Inequality entry) is accepted = is
apart list steps book (Revolve k value) (ValueDiffers cost other) is accepted = elim is.2 [
  | inl value_differs ↦ value_differs.0 (is.1 ∙ accepted.1)
  | inr number_differs ↦ number_differs.1 accepted.2
]
apart list steps book (Places threshold) Invalid is accepted = is accepted.0
apart list steps book (Places threshold) WrongShape is accepted = is
apart list steps book (Places threshold) OutsideClass is accepted = is.1 (fits_in_class threshold steps book list accepted.1)
apart list steps book (Places threshold) (Inequality entry) is accepted = fits_or_misfits threshold steps book list accepted.1 entry is.1
apart list steps book (Places threshold) (ValueDiffers cost other) is accepted = is
apart list steps book (Nested t) reason is accepted = nested_apart list steps book t reason is accepted
apart list steps book (Disk t) reason is accepted = disk_apart list steps book t reason is accepted

-- of the number of a k one thing is told
one_told : (steps c k a b : ℕ) → IsTold steps c k a → IsTold steps c k b → a ≡ b
one_told steps c k a b (inl x) (inl y) = omega (arith, x, y)
one_told steps c k a b (inl x) (inr y) = absurd (omega (arith, x, y.0))
one_told steps c k a b (inr x) (inl y) = absurd (omega (arith, x.0, y))
one_told steps c k a b (inr x) (inr y) = x.1 ∙ sym y.1

one_value : (steps c k cost value a b : ℕ) → Differs steps c k cost value a → Differs steps c k cost value b → a ≡ b
one_value steps c k cost value a b (inl x) (inl y) = x.1 ∙ sym y.1
one_value steps c k cost value a b (inl x) (inr y) = absurd (x.0 y.0)
one_value steps c k cost value a b (inr x) (inl y) = absurd (y.0 x.0)
one_value steps c k cost value a b (inr x) (inr y) = one_told steps c k a b x.2 y.2

-- there is one first reason at most
pub one_reason : (list : List Action) (steps : ℕ) (book : BookCosts) (certificate : Certificate) (a b : Reason) → IsFirstReason list steps book certificate a → IsFirstReason list steps book certificate b → a ≡ b
one_reason list steps book (Revolve k value) Invalid Invalid x y = refl
one_reason list steps book (Revolve k value) Invalid WrongShape x y = absurd y
one_reason list steps book (Revolve k value) Invalid OutsideClass x y = absurd y
one_reason list steps book (Revolve k value) Invalid (Inequality b) x y = absurd y
one_reason list steps book (Revolve k value) Invalid (ValueDiffers cost other) x y = absurd (x y.0)
one_reason list steps book (Revolve k value) WrongShape b x y = absurd x
one_reason list steps book (Revolve k value) OutsideClass b x y = absurd x
one_reason list steps book (Revolve k value) (Inequality a) b x y = absurd x
one_reason list steps book (Revolve k value) (ValueDiffers cost other) Invalid x y = absurd (y x.0)
one_reason list steps book (Revolve k value) (ValueDiffers cost other) WrongShape x y = absurd y
one_reason list steps book (Revolve k value) (ValueDiffers cost other) OutsideClass x y = absurd y
one_reason list steps book (Revolve k value) (ValueDiffers cost other) (Inequality b) x y = absurd y
one_reason list steps book (Revolve k value) (ValueDiffers cost other) (ValueDiffers cost' other') x y =
    let costs : cost ≡ cost' = x.1 ∙ sym y.1 in
    let same = one_value steps (total_room book steps) k cost value other other' x.2 (subst (λ (c : ℕ). Differs steps (total_room book steps) k c value other') (sym costs) y.2) in
    ap (λ (c : ℕ). ValueDiffers c other) costs ∙ ap (ValueDiffers cost') same
one_reason list steps book (Places threshold) Invalid Invalid x y = refl
one_reason list steps book (Places threshold) Invalid WrongShape x y = absurd y
one_reason list steps book (Places threshold) Invalid OutsideClass x y = absurd (x y.0)
one_reason list steps book (Places threshold) Invalid (Inequality b) x y = absurd (x y.0)
one_reason list steps book (Places threshold) Invalid (ValueDiffers cost other) x y = absurd y
one_reason list steps book (Places threshold) WrongShape b x y = absurd x
one_reason list steps book (Places threshold) OutsideClass Invalid x y = absurd (y x.0)
one_reason list steps book (Places threshold) OutsideClass WrongShape x y = absurd y
one_reason list steps book (Places threshold) OutsideClass OutsideClass x y = refl
one_reason list steps book (Places threshold) OutsideClass (Inequality b) x y = absurd (x.1 (misfits_in_class threshold steps book list b y.1))
one_reason list steps book (Places threshold) OutsideClass (ValueDiffers cost other) x y = absurd y
one_reason list steps book (Places threshold) (Inequality a) Invalid x y = absurd (y x.0)
one_reason list steps book (Places threshold) (Inequality a) WrongShape x y = absurd y
one_reason list steps book (Places threshold) (Inequality a) OutsideClass x y = absurd (y.1 (misfits_in_class threshold steps book list a x.1))
one_reason list steps book (Places threshold) (Inequality a) (Inequality b) x y = ap Inequality (one_misfit threshold steps book list a b x.1 y.1)
one_reason list steps book (Places threshold) (Inequality a) (ValueDiffers cost other) x y = absurd y
one_reason list steps book (Places threshold) (ValueDiffers cost other) b x y = absurd x
one_reason list steps book (Nested t) a b x y = one_nested_reason list steps book t a b x y
one_reason list steps book (Disk t) a b x y = one_disk_reason list steps book t a b x y

-- a verdict is Least of a class exactly where the certificate is one of that class, and accepted
pub least_exactly : (list : List Action) (steps : ℕ) (book : BookCosts) (certificate : Certificate) (v : CertVerdict) → IsVerdict list steps book certificate v →
    (c : Class) → (v ≡ Least c) ↔ ((c ≡ class_of certificate) × IsAccepted list steps book certificate)
least_exactly list steps book certificate (Least other) is c = (
  λ e. let same : other ≡ c = cc in (sym same ∙ is.0, is.1),
  λ accepted. ap Least (is.0 ∙ sym accepted.0),
)
least_exactly list steps book certificate (Not reason) is c = (λ e. absurd cc, λ accepted. absurd (apart list steps book certificate reason is accepted.1))

-- and Not for a reason exactly where that is the first
pub not_exactly : (list : List Action) (steps : ℕ) (book : BookCosts) (certificate : Certificate) (v : CertVerdict) → IsVerdict list steps book certificate v → (reason : Reason) → (v ≡ Not reason) ↔ IsFirstReason list steps book certificate reason
not_exactly list steps book certificate (Least c) is reason = (λ e. absurd cc, λ first. absurd (apart list steps book certificate reason first is.1))
not_exactly list steps book certificate (Not other) is reason = (
  λ e. let same : other ≡ reason = cc in subst (IsFirstReason list steps book certificate) same is,
  λ first. ap Not (one_reason list steps book certificate other reason is first),
)

-- what the forward steps and the value come to, by the number of the k or that it is negative
module _ (steps slots k cost value : ℕ) where
  pub other_value : (cost ≡ value → ⊥) → IsComparison steps slots k cost value (Not (ValueDiffers cost value))
  other_value differs = (refl, inl (differs, refl))

  pub no_number : cost ≡ value → IsNegative steps slots k → IsComparison steps slots k cost value (Not (ValueDiffers cost 0))
  no_number same negative = (refl, inr (same, (λ is. absurd (omega (arith, is, negative))), inr (negative, refl)))

  pub other_number : (n : ℕ) → cost ≡ value → (value ≡ n → ⊥) → IsNumberOf steps slots k n → IsComparison steps slots k cost value (Not (ValueDiffers cost n))
  other_number n same differs number = (refl, inr (same, (λ is. differs (omega (arith, is, number))), inl number))

  pub its_number : (n : ℕ) → cost ≡ value → value ≡ n → IsNumberOf steps slots k n → IsComparison steps slots k cost value (Least class.Valid)
  its_number n same is number = (same, subst (λ (v : ℕ). IsNumberOf steps slots k v) (sym is) number)

-- what they come to is the verdict on the certificate of Revolve
pub compared : (list : List Action) (steps : ℕ) (book : BookCosts) (k value : ℕ) (v : CertVerdict) → Valid steps (slots_of book) list →
    IsComparison steps (total_room book steps) k (forward list) value v → IsVerdict list steps book (Revolve k value) v
compared list steps book k value (Least class.Valid) valid is = (refl, (valid, is.0, is.1))
compared list steps book k value (Least class.Multistage) valid is = absurd is
compared list steps book k value (Least class.Nested) valid is = absurd is
compared list steps book k value (Least class.Disk) valid is = absurd is
compared list steps book k value (Not Invalid) valid is = absurd is
compared list steps book k value (Not WrongShape) valid is = absurd is
compared list steps book k value (Not OutsideClass) valid is = absurd is
compared list steps book k value (Not (Inequality entry)) valid is = absurd is
compared list steps book k value (Not (ValueDiffers cost other)) valid is =
    (valid, is.0, subst (λ (c : ℕ). Differs steps (total_room book steps) k c value other) (sym is.0) is.1)

-- ---- what an accepted certificate shows

-- no valid list takes fewer forward steps
pub none_fewer : (list : List Action) (steps : ℕ) (book : BookCosts) (certificate : Certificate) → class.Valid ≡ class_of certificate → IsAccepted list steps book certificate →
    (other : List Action) → Valid steps (slots_of book) other → forward list ≤ forward other
none_fewer list steps book (Revolve k value) of accepted other valid =
    let bounded = forward_bounded steps book (total_room book steps) other (record { valid = valid; room = omega arith }) k in
    omega (arith, accepted.1, accepted.2, bounded)
none_fewer list steps book (Places threshold) of accepted other valid = absurd cc
none_fewer list steps book (Nested t) of accepted other valid = absurd cc
none_fewer list steps book (Disk t) of accepted other valid = absurd cc

-- no list of the multistage class costs less
pub none_cheaper : (list : List Action) (steps : ℕ) (book : BookCosts) (certificate : Certificate) → class.Multistage ≡ class_of certificate → IsAccepted list steps book certificate →
    (fast slow : Level) → book.levels ≡ fast ∷ slow ∷ [] → fast.write ≤ slow.write → fast.read ≤ slow.read → (other : List Action) → IsMultistage steps book other → cost list book ≤ cost other book
none_cheaper list steps book (Revolve k value) of accepted fast slow two write read other member = absurd cc
none_cheaper list steps book (Nested t) of accepted fast slow two write read other member = absurd cc
none_cheaper list steps book (Disk t) of accepted fast slow two write read other member = absurd cc
none_cheaper list steps book (Places threshold) of accepted fast slow two write read other member =
    let fits = accepted.1 in
    let e : fast ∷ slow ∷ [] ≡ fits.fast ∷ fits.slow ∷ [] = sym two ∙ fits.are_on.two in
    let f : fast ≡ fits.fast = cc in
    let s : slow ≡ fits.slow = cc in
    let dearer_write : fits.fast.write ≤ fits.slow.write = let a = ap (λ (l : Level). l.write) f in let b = ap (λ (l : Level). l.write) s in omega arith in
    let dearer_read : fits.fast.read ≤ fits.slow.read = let a = ap (λ (l : Level). l.read) f in let b = ap (λ (l : Level). l.read) s in omega arith in
    multistage_least steps book threshold fits.fast fits.slow _ list other fits.are_on.two dearer_write dearer_read fits.are_on.has.placed fits.meets member

-- no list of the nested class costs less
pub none_nested : (list : List Action) (steps : ℕ) (book : BookCosts) (certificate : Certificate) → class.Nested ≡ class_of certificate → IsAccepted list steps book certificate →
    0 < length book.levels → (other : List Action) → IsNested steps (slots_of book) other → cost list book ≤ cost other book
none_nested list steps book (Revolve k value) of accepted some other member = absurd cc
none_nested list steps book (Places threshold) of accepted some other member = absurd cc
none_nested list steps book (Nested t) of accepted some other member = nested_least steps book (tables_in t) list other some accepted.3 accepted.4 member
none_nested list steps book (Disk t) of accepted some other member = absurd cc

-- no list of the disk class costs less
pub none_disk : (list : List Action) (steps : ℕ) (book : BookCosts) (certificate : Certificate) → class.Disk ≡ class_of certificate → IsAccepted list steps book certificate →
    (other : List Action) → IsDisk steps (slots_of book) other → cost list book ≤ cost other book
none_disk list steps book (Revolve k value) of accepted other member = absurd cc
none_disk list steps book (Places threshold) of accepted other member = absurd cc
none_disk list steps book (Nested t) of accepted other member = absurd cc
none_disk list steps book (Disk t) of accepted other member = disk_least steps book (disk_tables_in t) list other accepted.3 accepted.4 member

-- over a book of some levels, whose costs rise, the list is the least of its class
pub accepted_least : (list : List Action) (steps : ℕ) (book : BookCosts) (certificate : Certificate) → 0 < length book.levels →
    ((fast slow : Level) → book.levels ≡ fast ∷ slow ∷ [] → (fast.write ≤ slow.write) × (fast.read ≤ slow.read)) → IsAccepted list steps book certificate → IsLeastOf (class_of certificate) steps book list
accepted_least list steps book (Revolve k value) some rise accepted = none_fewer list steps book (Revolve k value) refl accepted
accepted_least list steps book (Nested t) some rise accepted = none_nested list steps book (Nested t) refl accepted some
accepted_least list steps book (Disk t) some rise accepted = none_disk list steps book (Disk t) refl accepted
accepted_least list steps book (Places threshold) some rise accepted = λ other member.
    let fits = accepted.1 in
    let rises = rise fits.fast fits.slow fits.are_on.two in
    none_cheaper list steps book (Places threshold) refl accepted fits.fast fits.slow fits.are_on.two rises.0 rises.1 other member

pub least_is_least : (list : List Action) (steps : ℕ) (book : BookCosts) (certificate : Certificate) (v : CertVerdict) → IsVerdict list steps book certificate v → v ≡ Least class.Valid →
    (other : List Action) → Valid steps (slots_of book) other → forward list ≤ forward other
least_is_least list steps book certificate v is e =
    let accepted = (least_exactly list steps book certificate v is class.Valid).0 e in
    none_fewer list steps book certificate accepted.0 accepted.1

-- the two levels of a book
rising : (book : BookCosts) → CostsRise book → (fast slow : Level) → book.levels ≡ fast ∷ slow ∷ [] → (fast.write ≤ slow.write) × (fast.read ≤ slow.read)
rising book rise fast slow two =
    let no_less = rise 0 fast slow (ap (λ (ls : List Level). slice_get ls 0) two) (ap (λ (ls : List Level). slice_get ls 1) two) in
    (no_less.write, no_less.read)

pub least_is_cheapest : (list : List Action) (steps : ℕ) (book : BookCosts) (certificate : Certificate) (v : CertVerdict) → IsVerdict list steps book certificate v → 0 < length book.levels → CostsRise book → v ≡ Least class.Multistage →
    (other : List Action) → IsMultistage steps book other → cost list book ≤ cost other book
least_is_cheapest list steps book certificate v is some rise e =
    let accepted = (least_exactly list steps book certificate v is class.Multistage).0 e in
    subst (λ (c : Class). IsLeastOf c steps book list) (sym accepted.0) (accepted_least list steps book certificate some (rising book rise) accepted.1)

pub least_is_nested : (list : List Action) (steps : ℕ) (book : BookCosts) (certificate : Certificate) (v : CertVerdict) → IsVerdict list steps book certificate v → 0 < length book.levels → v ≡ Least class.Nested →
    (other : List Action) → IsNested steps (slots_of book) other → cost list book ≤ cost other book
least_is_nested list steps book certificate v is some e =
    let accepted = (least_exactly list steps book certificate v is class.Nested).0 e in
    none_nested list steps book certificate accepted.0 accepted.1 some

pub least_is_disk : (list : List Action) (steps : ℕ) (book : BookCosts) (certificate : Certificate) (v : CertVerdict) → IsVerdict list steps book certificate v → v ≡ Least class.Disk →
    (other : List Action) → IsDisk steps (slots_of book) other → cost list book ≤ cost other book
least_is_disk list steps book certificate v is e =
    let accepted = (least_exactly list steps book certificate v is class.Disk).0 e in
    none_disk list steps book certificate accepted.0 accepted.1
