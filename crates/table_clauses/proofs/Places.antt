-- Which place comes first.
use Rattle.std.proofs.Common.{◌≡◌, ℕ, ◌+◌, ◌<◌, ◌≤◌, arith, inl, inr, sym, ◌∙◌, subst}
use Rattle.std.proofs.lemmas.Bool.{cases_lt}
use Rattle.table_clauses.specs.declared.entry.Entry.{Entry as Place}
use Rattle.table_clauses.specs.ClauseFailures.{ComesBefore, IsFirst}
use Rattle.table_clauses.specs.Columns.{InTable, InLevel, InColumn}

pub before_table : (p q : Place) → ComesBefore p q → p.table ≤ q.table
before_table p q h = elim h [ inl lt ↦ omega arith | inr w ↦ omega (arith, w.0) ]

before_level : (p q : Place) → ComesBefore p q → p.table ≡ q.table → p.level ≤ q.level
before_level p q h table = elim h [
  | inl lt ↦ absurd (omega arith)
  | inr w ↦ elim w.1 [ inl lt ↦ omega arith | inr v ↦ omega (arith, v.0) ]
]

before_free : (p q : Place) → ComesBefore p q → p.table ≡ q.table → p.level ≡ q.level → p.free ≤ q.free
before_free p q h table level = elim h [
  | inl lt ↦ absurd (omega arith)
  | inr w ↦ elim w.1 [
    | inl lt ↦ absurd (omega arith)
    | inr v ↦ elim v.1 [ inl lt ↦ omega arith | inr u ↦ omega (arith, u.0) ]
  ]
]

before_steps : (p q : Place) → ComesBefore p q → p.table ≡ q.table → p.level ≡ q.level → p.free ≡ q.free → p.steps ≤ q.steps
before_steps p q h table level free = elim h [
  | inl lt ↦ absurd (omega arith)
  | inr w ↦ elim w.1 [
    | inl lt ↦ absurd (omega arith)
    | inr v ↦ elim v.1 [
      | inl lt ↦ absurd (omega arith)
      | inr u ↦ elim u.1 [ inl lt ↦ omega arith | inr x ↦ omega (arith, x.0) ]
    ]
  ]
]

before_clause : (p q : Place) → ComesBefore p q → p.table ≡ q.table → p.level ≡ q.level → p.free ≡ q.free → p.steps ≡ q.steps → p.clause < q.clause
before_clause p q h table level free steps = elim h [
  | inl lt ↦ absurd (omega arith)
  | inr w ↦ elim w.1 [
    | inl lt ↦ absurd (omega arith)
    | inr v ↦ elim v.1 [
      | inl lt ↦ absurd (omega arith)
      | inr u ↦ elim u.1 [ inl lt ↦ absurd (omega arith) | inr x ↦ x.1 ]
    ]
  ]
]

-- what is first in a part is first in the whole, if what comes before it is in the part
pub widen : (Q R : Place → Type 0) (e : Place) → IsFirst Q e → R e → ((q : Place) → ComesBefore q e → R q → Q q) → IsFirst R e
widen Q R e is here inside = record { broken = here; none_before = λ q before broken. is.none_before q before (inside q before broken) }

-- ---- tables

pub table_next : (B : Place → Type 0) (table : ℕ) (e : Place) → ((q : Place) → q.table < table → B q → ⊥) → IsFirst (InTable table B) e → IsFirst B e
table_next B table e none is =
    widen (InTable table B) B e is is.broken.1
    (λ q before broken. elim (cases_lt q.table table) [
      | inl lt ↦ absurd (none q lt broken)
      | inr ge ↦ let le = before_table q e before in let here = is.broken.0 in (omega arith, broken)
    ])

-- ---- levels

pub level_next : (B : Place → Type 0) (table k : ℕ) (e : Place) → ((q : Place) → q.table ≡ table → q.level < k → B q → ⊥) → IsFirst (InLevel table k B) e → IsFirst (InTable table B) e
level_next B table k e none is =
    widen (InLevel table k B) (InTable table B) e is (is.broken.0, is.broken.2)
    (λ q before broken. elim (cases_lt q.level k) [
      | inl lt ↦ absurd (none q broken.0 lt broken.1)
      | inr ge ↦
          let le = before_level q e before (broken.0 ∙ sym is.broken.0) in
          let here = is.broken.1 in (broken.0, omega arith, broken.1)
    ])

pub level_more : (B : Place → Type 0) (table k : ℕ) → ((q : Place) → q.table ≡ table → q.level < k → B q → ⊥) → ((q : Place) → InLevel table k B q → ⊥) →
    (q : Place) → q.table ≡ table → q.level < k + 1 → B q → ⊥
level_more B table k none here q table_is lt broken = elim (cases_lt q.level k) [
  | inl before ↦ none q table_is before broken
  | inr ge ↦ here q (table_is, omega arith, broken)
]

-- ---- columns

pub column_next : (B : Place → Type 0) (table k m steps : ℕ) (Fails : ℕ → ℕ → Type 0) (e : Place) → ((q : Place) → q.table ≡ table → q.level ≡ k → q.free < m → B q → ⊥) →
    ((q : Place) → InColumn table k m steps Fails q → B q) → ((q : Place) → q.table ≡ table → q.level ≡ k → q.free ≡ m → B q → InColumn table k m steps Fails q) →
    IsFirst (InColumn table k m steps Fails) e → IsFirst (InLevel table k B) e
column_next B table k m steps Fails e none out into is =
    widen (InColumn table k m steps Fails) (InLevel table k B) e is (is.broken.table_is, is.broken.level_is, out e is.broken)
    (λ q before broken. elim (cases_lt q.free m) [
      | inl lt ↦ absurd (none q broken.0 broken.1 lt broken.2)
      | inr ge ↦
          let le = before_free q e before (broken.0 ∙ sym is.broken.table_is) (broken.1 ∙ sym is.broken.level_is) in
          let here = is.broken.free_is in into q broken.0 broken.1 (omega arith) broken.2
    ])

pub column_more : (B : Place → Type 0) (table k m steps : ℕ) (Fails : ℕ → ℕ → Type 0) → ((q : Place) → q.table ≡ table → q.level ≡ k → q.free < m → B q → ⊥) →
    ((q : Place) → q.table ≡ table → q.level ≡ k → q.free ≡ m → B q → InColumn table k m steps Fails q) → ((q : Place) → InColumn table k m steps Fails q → ⊥) →
    (q : Place) → q.table ≡ table → q.level ≡ k → q.free < m + 1 → B q → ⊥
column_more B table k m steps Fails none into here q table_is level_is lt broken = elim (cases_lt q.free m) [
  | inl before ↦ none q table_is level_is before broken
  | inr ge ↦ here q (into q table_is level_is (omega arith) broken)
]

-- ---- entries of a column

pub entry_next : (table k m steps l clause : ℕ) (Fails : ℕ → ℕ → Type 0) → 1 ≤ l → l ≤ steps → ((q : Place) → InColumn table k m steps Fails q → q.steps < l → ⊥) →
    Fails l clause → ((d : ℕ) → d < clause → Fails l d → ⊥) →
    (e : Place) → e.table ≡ table → e.level ≡ k → e.free ≡ m → e.steps ≡ l → e.clause ≡ clause → IsFirst (InColumn table k m steps Fails) e
entry_next table k m steps l clause Fails some within none fails first e table_is level_is free_is steps_is clause_is =
    let P : ℕ → Type 0 = λ l. Fails l e.clause in let R : ℕ → Type 0 = λ c. Fails l c in
    record {
      broken = record {
        table_is = table_is;
        level_is = level_is;
        free_is = free_is;
        some = omega arith;
        within = omega arith;
        fails = subst P (sym steps_is) (subst R (sym clause_is) fails);
      };
      none_before = λ q before broken. elim (cases_lt q.steps l) [
        | inl lt ↦ none q broken lt
        | inr ge ↦
            let a = broken.table_is ∙ sym table_is in let b = broken.level_is ∙ sym level_is in let c = broken.free_is ∙ sym free_is in
            let le = before_steps q e before a b c in
            let same : q.steps ≡ l = omega arith in
            let lt = before_clause q e before a b c (same ∙ sym steps_is) in
            let Q : ℕ → Type 0 = λ l. Fails l q.clause in
            first q.clause (omega arith) (subst Q same broken.fails)
      ];
    }

pub entry_more : (table k m steps l : ℕ) (Fails : ℕ → ℕ → Type 0) → ((q : Place) → InColumn table k m steps Fails q → q.steps < l → ⊥) → ((c : ℕ) → Fails l c → ⊥) →
    (q : Place) → InColumn table k m steps Fails q → q.steps < l + 1 → ⊥
entry_more table k m steps l Fails none here q broken lt = elim (cases_lt q.steps l) [
  | inl before ↦ none q broken before
  | inr ge ↦ let same : q.steps ≡ l = omega arith in let Q : ℕ → Type 0 = λ l. Fails l q.clause in here q.clause (subst Q same broken.fails)
]
