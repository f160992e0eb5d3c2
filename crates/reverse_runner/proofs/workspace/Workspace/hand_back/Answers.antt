use Rattle.reverse_runner.proofs.Common.{◌≡◌, ℕ, ◌+◌, ◌∙◌, ap, sym, subst, arith, List, Option, [], length, ◌∷◌, suc, ◌++◌, rules, append_assoc, gone_states, gone, UndoState, led_back, states_of, AreDigests, numbers_from, MissesOne}
use Rattle.reverse_runner.proofs.TapeDigests.{known_behind}
use Rattle.reverse_runner.proofs.SessionTape.{gets_more, misses_next}
use Rattle.reverse_runner.proofs.workspace.Workspace.hand_back.Goals as goal

-- one number and one state less are left
fewer : (numbers : List ℕ) (first long short : ℕ) (all : List ℕ) → numbers ++ numbers_from first long ≡ all → long ≡ suc short → numbers ++ (first + short) ∷ numbers_from first short ≡ all
fewer numbers first long short all is one = ap (λ n. numbers ++ numbers_from first n) (sym one) ∙ is

joined : {A : Type 0} (xs : List A) (x : A) (ys : List A) (all : List A) → xs ++ x ∷ ys ≡ all → (xs ++ x ∷ []) ++ ys ≡ all
joined xs x ys all is = append_assoc xs (x ∷ []) ys ∙ is

pub loop-self-preserved : goal.loop-self-preserved
loop-self-preserved g c =
    let h = c.loop-self.invariant in
    let p = c.back.ensures.back in
    let old = c.loop-self.self.undo in
    let new = c.back.new.undo in
    let tape = c.back.new.self in
    let one : length c.loop-self.self.undo.entries ≡ suc (length c.back.new.undo.entries) = ap (λ (u : UndoState). length u.entries) p.1.0 in
    let number : c.args.first + c.count-in-loop-self.result ≡ c.args.first + length c.back.new.undo.entries = ap (λ n. c.args.first + n) c.count-in-loop-self.ensures in
    let states = gone_states c.loop-self.self.undo c.back.new.undo p.0 c.loop-self.self.tape c.back.new.self p.1.0 p.1.1 in
    let n : ℕ = c.args.first + c.count-in-loop-self.result in
    let numbers_left = fewer h.got.0 c.args.first (length c.loop-self.self.undo.entries) (length c.back.new.undo.entries) _ h.got.3 one in
    let states_left = ap (λ xs. h.got.1 ++ xs) (sym states) ∙ h.got.4 in
    record {
      few = (let few = h.few in omega (arith, few, one));
      known = known_behind c.loop-self.self.known.items c.loop-self.self.undo c.back.new.undo p.0 c.loop-self.self.tape c.back.new.self p.1.0 p.1.1 h.known;
      same = h.same;
      leads = gone c.loop-self.self.undo c.back.new.undo p.0 c.loop-self.self.tape c.back.new.self p.1.0 p.1.1 h.leads;
      got = (
        h.got.0 ++ n ∷ [],
        h.got.1 ++ c.back.new.self ∷ [],
        gets_more g.V.Visitor.got c.args.journal.now h.got.0 h.got.1 n c.back.new.self _ _ _ h.got.2 c.in_ok-hand_out.ensures.got,
        joined h.got.0 n _ _ (ap (λ m. h.got.0 ++ m ∷ numbers_from c.args.first (length c.back.new.undo.entries)) number ∙ numbers_left),
        joined h.got.1 c.back.new.self _ _ states_left,
      );
      unit = sym (ap (λ (u : UndoState). u.unit) p.1.0) ∙ h.unit;
      room = sym (ap (λ (u : UndoState). u.room) p.1.0) ∙ h.room;
      pages = c.back.ensures.pages ∙ h.pages;
      work = h.work;
      store = h.store;
      buffer = h.buffer;
      quiet = c.in_ok-hand_out.ensures.quiet ∙ h.quiet;
    }

pub returns-in_err-hand_out-clause-hands : goal.returns-in_err-hand_out-clause-hands
returns-in_err-hand_out-clause-hands g c =
    let h = c.loop-self.invariant in
    let p = c.back.ensures.back in
    let one : length c.loop-self.self.undo.entries ≡ suc (length c.back.new.undo.entries) = ap (λ (u : UndoState). length u.entries) p.1.0 in
    let number : c.args.first + c.count-in-loop-self.result ≡ c.args.first + length c.back.new.undo.entries = ap (λ n. c.args.first + n) c.count-in-loop-self.ensures in
    let states = gone_states c.loop-self.self.undo c.back.new.undo p.0 c.loop-self.self.tape c.back.new.self p.1.0 p.1.1 in
    let n : ℕ = c.args.first + c.count-in-loop-self.result in
    let numbers_left = fewer h.got.0 c.args.first (length c.loop-self.self.undo.entries) (length c.back.new.undo.entries) _ h.got.3 one in
    let states_left = ap (λ xs. h.got.1 ++ xs) (sym states) ∙ h.got.4 in
    let misses = misses_next g.V.Visitor.got g.V.Visitor.missed c.args.journal.now h.got.0 (numbers_from c.args.first (length c.back.new.undo.entries)) h.got.1 (led_back c.back.new.undo.entries c.back.new.self) n c.back.new.self _ _ _ h.got.2 c.in_err-hand_out.ensures.missed in
    record {
      gets = search rules;
      misses = λ _.
          (subst (λ ms. MissesOne g.V.Visitor.got g.V.Visitor.missed c.args.journal.now ms (led_back c.args.self.now.undo.entries c.args.self.now.tape) c.args.visitor.now c.hand_out.new.visitor)
          (ap (λ m. h.got.0 ++ m ∷ numbers_from c.args.first (length c.back.new.undo.entries)) number ∙ numbers_left)
          (subst (λ ts. MissesOne g.V.Visitor.got g.V.Visitor.missed c.args.journal.now (h.got.0 ++ n ∷ numbers_from c.args.first (length c.back.new.undo.entries)) ts c.args.visitor.now c.hand_out.new.visitor) states_left misses));
    }

pub back-requires-clause-known : goal.back-requires-clause-known
back-requires-clause-known g c = subst (λ (known : List (Option (List ℕ))). AreDigests known (states_of c.loop-self.self.undo.entries c.loop-self.self.tape)) (sym c.as_slice.ensures.value) c.loop-self.invariant.known

pub returns-in_err-hand_out-clause-tape : goal.returns-in_err-hand_out-clause-tape
returns-in_err-hand_out-clause-tape g c =
    let p = c.back.ensures.back in
    record {
      back = gone c.loop-self.self.undo c.back.new.undo p.0 c.loop-self.self.tape c.back.new.self p.1.0 p.1.1 c.loop-self.invariant.leads;
      known = known_behind c.loop-self.self.known.items c.loop-self.self.undo c.back.new.undo p.0 c.loop-self.self.tape c.back.new.self p.1.0 p.1.1 c.loop-self.invariant.known;
    }
