-- Which certificate is accepted for a list, and why another isn't.
use Rattle.std.specs.Prelude.{◌≡◌, ◌≢◌, ◌⊎◌, ℕ, ◌+◌, ◌*◌, ◌<◌, ◌≤◌, List}
use Rattle.plan_types.specs.declared.action.Action.{Action}
use Rattle.level_book.specs.BookCosts.{BookCosts, slots_of, total_room}
use Rattle.level_book.specs.Valid.{Valid}
use Rattle.level_book.specs.CostFold.{forward, cost}
use Rattle.level_book.specs.NestedClass.{Nested as IsNested}
use Rattle.level_book.specs.DiskClass.{Disk as IsDisk}
use Rattle.binomials.specs.Binomials.{beta_before}
use Rattle.revolve_gen.specs.Multistage.{IsMultistage}
use Rattle.cert_text.specs.declared.certificate.Certificate.{Certificate}
use Rattle.cert_text.specs.declared.certificate.Certificate.TheVariants.{Revolve, Places, Nested, Disk}
use Rattle.bound_cert.specs.declared.verdict.Class.{Class}
use Rattle.bound_cert.specs.declared.verdict.Class.TheVariants as class
use Rattle.bound_cert.specs.declared.verdict.Reason.{Reason}
use Rattle.bound_cert.specs.declared.verdict.Reason.TheVariants.{Invalid, WrongShape, OutsideClass, Inequality, ValueDiffers}
use Rattle.bound_cert.specs.Thresholds.{FitsThreshold, IsFirstMisfit}
use Rattle.bound_cert.specs.TableTests.{Passes, FailsFirst, nested_tests, disk_tests}

-- The value is the bound of k, N + k · N - β(c + 1, k - 1). It is stated as a sum, so no value fits a negative bound.
-- For every k a valid list for N steps and c slots takes at least that many forward steps.
abbrev pub IsNumberOf : ℕ → ℕ → ℕ → ℕ → Type 0
IsNumberOf steps c k value = value + beta_before (c + 1) k ≡ steps + k * steps

-- the number of k is negative
abbrev pub IsNegative : ℕ → ℕ → ℕ → Type 0
IsNegative steps c k = steps + k * steps < beta_before (c + 1) k

-- the bound of k as a fault reports it: 0 where it is negative
abbrev pub IsTold : ℕ → ℕ → ℕ → ℕ → Type 0
IsTold steps c k told = IsNumberOf steps c k told ⊎ (IsNegative steps c k × (told ≡ 0))

-- the class in which an accepted certificate shows a list least
abbrev pub class_of : Certificate → Class
class_of (Revolve k value) = class.Valid
class_of (Places threshold) = class.Multistage
class_of (Nested t) = class.Nested
class_of (Disk t) = class.Disk

-- The list is valid. A certificate of Revolve has its forward steps as its value, which is the bound of its k. A
-- threshold fits the places of a list of the multistage class. Tables are for so many steps and the book, and are an
-- under-table. Their top entry is the cost of the list, which is in the nested or the disk class.
abbrev pub IsAccepted : List Action → ℕ → BookCosts → Certificate → Type 0
IsAccepted list steps book (Revolve k value) =
    Valid steps (slots_of book) list × (forward list ≡ value) × IsNumberOf steps (total_room book steps) k value
IsAccepted list steps book (Places threshold) = Valid steps (slots_of book) list × FitsThreshold threshold steps book list
IsAccepted list steps book (Nested t) = Passes (nested_tests list steps book t)
IsAccepted list steps book (Disk t) = Passes (disk_tests list steps book t)

-- What differs from the forward steps of a list, the cost: its certificate's value. If they are equal, it is the bound
-- of its k, as a fault reports it.
abbrev pub Differs : ℕ → ℕ → ℕ → ℕ → ℕ → ℕ → Type 0
Differs steps c k cost value other =
    ((cost ≢ value) × (other ≡ value)) ⊎ ((cost ≡ value) × (IsNumberOf steps c k value → ⊥) × IsTold steps c k other)

-- why the certificate isn't accepted: the first test that fails
abbrev pub IsFirstReason : List Action → ℕ → BookCosts → Certificate → Reason → Type 0
IsFirstReason list steps book (Revolve k value) Invalid = Valid steps (slots_of book) list → ⊥
IsFirstReason list steps book (Revolve k value) WrongShape = ⊥
IsFirstReason list steps book (Revolve k value) OutsideClass = ⊥
IsFirstReason list steps book (Revolve k value) (Inequality entry) = ⊥
IsFirstReason list steps book (Revolve k value) (ValueDiffers cost other) =
    Valid steps (slots_of book) list × (cost ≡ forward list) × Differs steps (total_room book steps) k cost value other
IsFirstReason list steps book (Places threshold) Invalid = Valid steps (slots_of book) list → ⊥
IsFirstReason list steps book (Places threshold) WrongShape = ⊥
IsFirstReason list steps book (Places threshold) OutsideClass = Valid steps (slots_of book) list × (IsMultistage steps book list → ⊥)
IsFirstReason list steps book (Places threshold) (Inequality entry) = Valid steps (slots_of book) list × IsFirstMisfit threshold steps book list entry
IsFirstReason list steps book (Places threshold) (ValueDiffers cost other) = ⊥
IsFirstReason list steps book (Nested t) reason = FailsFirst (nested_tests list steps book t) reason
IsFirstReason list steps book (Disk t) reason = FailsFirst (disk_tests list steps book t) reason

-- a certificate is a threshold, and this holds of it
abbrev pub IsPlaces : (ℕ → Type 0) → Certificate → Type 0
IsPlaces Holds (Revolve k value) = ⊥
IsPlaces Holds (Places threshold) = Holds threshold
IsPlaces Holds (Nested t) = ⊥
IsPlaces Holds (Disk t) = ⊥

-- The list is the least of a class. No valid list takes fewer forward steps, or no list of the class costs less.
abbrev pub IsLeastOf : Class → ℕ → BookCosts → List Action → Type 0
IsLeastOf class.Valid steps book list = (other : List Action) → Valid steps (slots_of book) other → forward list ≤ forward other
IsLeastOf class.Nested steps book list = (other : List Action) → IsNested steps (slots_of book) other → cost list book ≤ cost other book
IsLeastOf class.Disk steps book list = (other : List Action) → IsDisk steps (slots_of book) other → cost list book ≤ cost other book
IsLeastOf class.Multistage steps book list = (other : List Action) → IsMultistage steps book other → cost list book ≤ cost other book
