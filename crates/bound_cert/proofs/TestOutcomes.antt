-- What tables come to by their five tests is told apart, and is one thing.
use Rattle.std.proofs.Common.{◌≡◌, ◌⊎◌, ℕ, List, refl, sym, ◌∙◌, ap, inl, inr}
use Rattle.std.proofs.lemmas.Bool.{cases_order}
use Rattle.plan_types.specs.declared.action.Action.{Action}
use Rattle.level_book.specs.BookCosts.{BookCosts, slots_of}
use Rattle.level_book.specs.Valid.{Valid}
use Rattle.level_book.specs.CostFold.{cost}
use Rattle.level_book.specs.NestedClass.{Nested}
use Rattle.level_book.specs.DiskClass.{Disk}
use Rattle.level_book.specs.UnderTable.{IsUnderTable, top_entry}
use Rattle.level_book.specs.DiskUnderTable.{IsDiskUnderTable, disk_top_entry}
use Rattle.cost_tables.specs.TableRows.{TableRows, tables_in}
use Rattle.disk_gen.specs.DiskRows.{DiskRows, disk_tables_in}
use Rattle.table_clauses.specs.declared.entry.Entry.{Entry as Place}
use Rattle.table_clauses.specs.ClauseFailures.{ComesBefore, IsFirst, Breaks, DiskBreaks}
use Rattle.table_clauses.proofs.NoFailures.{under_where_none}
use Rattle.table_clauses.proofs.DiskNoFailures.{disk_under_where_none}
use Rattle.cert_text.specs.declared.certificate.Certificate.TheVariants as certificate
use Rattle.bound_cert.specs.declared.verdict.Class.TheVariants as class
use Rattle.bound_cert.specs.declared.verdict.CertVerdict.{CertVerdict}
use Rattle.bound_cert.specs.declared.verdict.CertVerdict.TheVariants.{Least, Not}
use Rattle.bound_cert.specs.declared.verdict.Reason.{Reason}
use Rattle.bound_cert.specs.declared.verdict.Reason.TheVariants.{Invalid, WrongShape, OutsideClass, Inequality, ValueDiffers}
use Rattle.bound_cert.specs.TableTests.{FiveTests, Passes, FailsFirst, AreSized, AreSizedDisk, nested_tests, disk_tests}
use Rattle.bound_cert.specs.Verdicts.{IsVerdict, IsTopVerdict}

-- of two places one comes first, or they are the same
either_first : (p q : Place) → ComesBefore p q ⊎ (ComesBefore q p ⊎ (p ≡ q))
either_first p q = elim (cases_order p.table q.table) [
  | inr (inl less) ↦ inl (inl less)
  | inr (inr more) ↦ inr (inl (inl more))
  | inl table ↦ elim (cases_order p.level q.level) [
    | inr (inl less) ↦ inl (inr (table, inl less))
    | inr (inr more) ↦ inr (inl (inr (sym table, inl more)))
    | inl level ↦ elim (cases_order p.free q.free) [
      | inr (inl less) ↦ inl (inr (table, inr (level, inl less)))
      | inr (inr more) ↦ inr (inl (inr (sym table, inr (sym level, inl more))))
      | inl free ↦ elim (cases_order p.steps q.steps) [
        | inr (inl less) ↦ inl (inr (table, inr (level, inr (free, inl less))))
        | inr (inr more) ↦ inr (inl (inr (sym table, inr (sym level, inr (sym free, inl more)))))
        | inl steps ↦ elim (cases_order p.clause q.clause) [
          | inr (inl less) ↦ inl (inr (table, inr (level, inr (free, inr (steps, less)))))
          | inr (inr more) ↦ inr (inl (inr (sym table, inr (sym level, inr (sym free, inr (sym steps, more))))))
          | inl clause ↦ inr (inr (λ i. record { table = table i; level = level i; free = free i; steps = steps i; clause = clause i }))
        ]
      ]
    ]
  ]
]

-- there is one first place at most
pub one_place : (Broken : Place → Type 0) (p q : Place) → IsFirst Broken p → IsFirst Broken q → p ≡ q
one_place Broken p q x y = elim (either_first p q) [
  | inl before ↦ absurd (y.none_before p before x.broken)
  | inr (inl behind) ↦ absurd (x.none_before q behind y.broken)
  | inr (inr same) ↦ same
]

module _ (tests : FiveTests) where
  -- tables that pass fail no test
  pub passed_apart : (tests.Under → (p : Place) → tests.BreaksFirst p → ⊥) → (reason : Reason) → FailsFirst tests reason → Passes tests → ⊥
  passed_apart whole Invalid f p = f p.0
  passed_apart whole WrongShape f p = f.1 p.1
  passed_apart whole OutsideClass f p = f.2 p.2
  passed_apart whole (Inequality place) f p = whole p.3 place f.3
  passed_apart whole (ValueDiffers c v) f p = f.4 p.4

  -- one test at most fails first
  pub one_test : (tests.Under → (p : Place) → tests.BreaksFirst p → ⊥) → ((p q : Place) → tests.BreaksFirst p → tests.BreaksFirst q → p ≡ q) → (a b : Reason) →
      FailsFirst tests a → FailsFirst tests b → a ≡ b
  one_test whole one Invalid Invalid x y = refl
  one_test whole one Invalid WrongShape x y = absurd (x y.0)
  one_test whole one Invalid OutsideClass x y = absurd (x y.0)
  one_test whole one Invalid (Inequality q) x y = absurd (x y.0)
  one_test whole one Invalid (ValueDiffers c v) x y = absurd (x y.0)
  one_test whole one WrongShape Invalid x y = absurd (y x.0)
  one_test whole one WrongShape WrongShape x y = refl
  one_test whole one WrongShape OutsideClass x y = absurd (x.1 y.1)
  one_test whole one WrongShape (Inequality q) x y = absurd (x.1 y.1)
  one_test whole one WrongShape (ValueDiffers c v) x y = absurd (x.1 y.1)
  one_test whole one OutsideClass Invalid x y = absurd (y x.0)
  one_test whole one OutsideClass WrongShape x y = absurd (y.1 x.1)
  one_test whole one OutsideClass OutsideClass x y = refl
  one_test whole one OutsideClass (Inequality q) x y = absurd (x.2 y.2)
  one_test whole one OutsideClass (ValueDiffers c v) x y = absurd (x.2 y.2)
  one_test whole one (Inequality p) Invalid x y = absurd (y x.0)
  one_test whole one (Inequality p) WrongShape x y = absurd (y.1 x.1)
  one_test whole one (Inequality p) OutsideClass x y = absurd (y.2 x.2)
  one_test whole one (Inequality p) (Inequality q) x y = ap Inequality (one p q x.3 y.3)
  one_test whole one (Inequality p) (ValueDiffers c v) x y = absurd (whole y.3 p x.3)
  one_test whole one (ValueDiffers c v) Invalid x y = absurd (y x.0)
  one_test whole one (ValueDiffers c v) WrongShape x y = absurd (y.1 x.1)
  one_test whole one (ValueDiffers c v) OutsideClass x y = absurd (y.2 x.2)
  one_test whole one (ValueDiffers c v) (Inequality q) x y = absurd (whole x.3 q y.3)
  one_test whole one (ValueDiffers c v) (ValueDiffers c' v') x y = λ i. ValueDiffers ((x.5 ∙ sym y.5) i) ((x.6 ∙ sym y.6) i)

-- ---- of tables for the nested class, and of those for the disk class

module _ (list : List Action) (steps : ℕ) (book : BookCosts) where
  whole_nested : (t : TableRows) → IsUnderTable steps book (tables_in t) → (p : Place) → IsFirst (Breaks steps book (tables_in t)) p → ⊥
  whole_nested t under p first = (under_where_none steps book (tables_in t)).0 under p first.broken

  pub nested_apart : (t : TableRows) (reason : Reason) → FailsFirst (nested_tests list steps book t) reason → Passes (nested_tests list steps book t) → ⊥
  nested_apart t = passed_apart (nested_tests list steps book t) (whole_nested t)

  pub one_nested_reason : (t : TableRows) (a b : Reason) → FailsFirst (nested_tests list steps book t) a → FailsFirst (nested_tests list steps book t) b → a ≡ b
  one_nested_reason t = one_test (nested_tests list steps book t) (whole_nested t) (one_place (Breaks steps book (tables_in t)))

  whole_disk : (t : DiskRows) → IsDiskUnderTable steps book (disk_tables_in t) → (p : Place) → IsFirst (DiskBreaks steps book (disk_tables_in t)) p → ⊥
  whole_disk t under p first = (disk_under_where_none steps book (disk_tables_in t)).0 under p first.broken

  pub disk_apart : (t : DiskRows) (reason : Reason) → FailsFirst (disk_tests list steps book t) reason → Passes (disk_tests list steps book t) → ⊥
  disk_apart t = passed_apart (disk_tests list steps book t) (whole_disk t)

  pub one_disk_reason : (t : DiskRows) (a b : Reason) → FailsFirst (disk_tests list steps book t) a → FailsFirst (disk_tests list steps book t) b → a ≡ b
  one_disk_reason t = one_test (disk_tests list steps book t) (whole_disk t) (one_place (DiskBreaks steps book (disk_tables_in t)))

-- ---- what the cost of a list and a top entry come to is the verdict where the other tests are passed

pub top_nested : (list : List Action) (steps : ℕ) (book : BookCosts) (t : TableRows) (v : CertVerdict) → Valid steps (slots_of book) list → AreSized steps book t →
    Nested steps (slots_of book) list → IsUnderTable steps book (tables_in t) → IsTopVerdict class.Nested (cost list book) (top_entry steps book (tables_in t)) v →
    IsVerdict list steps book (certificate.Nested t) v
top_nested list steps book t (Least c) right sized member under is = (is.0, (right, sized, member, under, is.1))
top_nested list steps book t (Not Invalid) right sized member under is = absurd is
top_nested list steps book t (Not WrongShape) right sized member under is = absurd is
top_nested list steps book t (Not OutsideClass) right sized member under is = absurd is
top_nested list steps book t (Not (Inequality place)) right sized member under is = absurd is
top_nested list steps book t (Not (ValueDiffers c v)) right sized member under is = (right, sized, member, under, is.0, is.1, is.2)

pub top_disk : (list : List Action) (steps : ℕ) (book : BookCosts) (t : DiskRows) (v : CertVerdict) → Valid steps (slots_of book) list → AreSizedDisk steps book t →
    Disk steps (slots_of book) list → IsDiskUnderTable steps book (disk_tables_in t) → IsTopVerdict class.Disk (cost list book) (disk_top_entry steps (disk_tables_in t)) v →
    IsVerdict list steps book (certificate.Disk t) v
top_disk list steps book t (Least c) right sized member under is = (is.0, (right, sized, member, under, is.1))
top_disk list steps book t (Not Invalid) right sized member under is = absurd is
top_disk list steps book t (Not WrongShape) right sized member under is = absurd is
top_disk list steps book t (Not OutsideClass) right sized member under is = absurd is
top_disk list steps book t (Not (Inequality place)) right sized member under is = absurd is
top_disk list steps book t (Not (ValueDiffers c v)) right sized member under is = (right, sized, member, under, is.0, is.1, is.2)
