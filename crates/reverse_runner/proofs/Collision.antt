-- Over any keepers the holdings of a session stand by the digests of the levels after every action as before it, or the images of two
-- states collide.
use Rattle.reverse_runner.proofs.Common.{◌≡◌, ℕ, ◌∙◌, refl, ap, sym, ◌≢◌, ◌⊎◌, inl, inr, List, get_or, set as put, Option, Some, None, mul-zero, cases_eq, cases_Bool, get_or-set_same, get_or-set_other, same_Some, none-some, sha256, Action, Configuration, start, held_on, Goes, Slots, Count, IsSound, IsRecorded, MachineState, IsMachineState, state_number, image, Images, none_at, is_within, kept_in, pair_at, ShelfState, Kept, Holdings, Acts, KeepsDigests, StandsByDigests, taken_in, Collides, IsLaidOut, begun, holdings_of, unit_states}
use Rattle.std.specs.Str.{bytes_eq}
use Rattle.std.proofs.lemmas.Bool.Decides.{not_from_Decides}
use Rattle.std.proofs.lemmas.Slice.Eq.{bytes_eq-Decides}
use Rattle.reverse_runner.proofs.RoomLeft.{has_place}
use Rattle.reverse_runner.proofs.LevelFacts.{LevelFact, Gains, Loses, StoredAreGood, FetchedAreGood, levels_follow}
use Rattle.reverse_runner.proofs.LevelsInvariant.{LaidOut, laid_gains, laid_loses, fetched_within}
use Rattle.reverse_runner.proofs.HoldingsInvariant.{stored_are, taken_is, work_after, tape_after}

-- two lists of bytes are one, or two
same_bytes : (xs ys : List ℕ) → (xs ≡ ys) ⊎ (xs ≢ ys)
same_bytes xs ys = elim (cases_Bool (bytes_eq xs ys)) [
  | inl e ↦ inl ((bytes_eq-Decides xs ys).0 e)
  | inr e ↦ inr (not_from_Decides (bytes_eq xs ys) (bytes_eq-Decides xs ys) e)
]

-- bytes have the digest of the image of the state with this number
abbrev HasDigest : (ℕ → MachineState) → ℕ → List ℕ → Type 0
HasDigest states n bytes = sha256 bytes ≡ sha256 (image (states n))

-- of each pair of a level the digest is that of the image of its state
abbrev AreDigests : (ℕ → MachineState) → ShelfState → Type 0
AreDigests states level = (n : ℕ) (kept : Kept) → pair_at level.pairs n ≡ Some kept → kept.digest ≡ sha256 (image (states n))

-- a level is laid out, and keeps the digests
abbrev Digests : (ℕ → MachineState) → ℕ → List Slots → LevelFact
Digests states steps slots k numbers level told = LaidOut steps slots k numbers level told × AreDigests states level

-- a level that gets bytes with the digest of an image keeps the digests
digests_gain : (states : ℕ → MachineState) (steps : ℕ) (slots : List Slots) → Gains (Digests states steps slots) (HasDigest states) steps
digests_gain states steps slots k s level level' before after n bytes has most new good is =
    let within = has_place steps (get_or slots k (Count 0)) s level n has.0 most in
    let pair = kept_in is.slot bytes in (
      laid_gains (HasDigest states) steps slots k s level level' before after n bytes has.0 most new good is,
      λ q kept at.
          let there : pair_at (put level.pairs n (Some pair)) q ≡ Some kept = sym (ap (λ (x : ShelfState). pair_at x.pairs q) is.pairs) ∙ at in
          elim (cases_eq q n) [
            | inl e ↦
                let here : Some pair ≡ Some kept =
                sym (get_or-set_same level.pairs n (Some pair) None within) ∙ ap (λ i. pair_at (put level.pairs n (Some pair)) i) (sym e) ∙ there in
                sym (ap (λ (x : Kept). x.digest) (same_Some pair kept here)) ∙ good ∙ ap (λ i. sha256 (image (states i))) (sym e)
            | inr ne ↦ has.1 q kept (sym (get_or-set_other level.pairs n q (Some pair) None ne) ∙ there)
          ],
    )

-- so does one that loses a pair
digests_lose : (states : ℕ → MachineState) (steps : ℕ) (slots : List Slots) → Loses (Digests states steps slots)
digests_lose states steps slots k s level level' before after n old has is gone freed =
    let within = is_within level.pairs n old is in (
      laid_loses steps slots k s level level' before after n old has.0 is gone freed,
      λ q kept at.
          let there : pair_at (put level.pairs n None) q ≡ Some kept = sym (ap (λ (x : ShelfState). pair_at x.pairs q) gone) ∙ at in
          elim (cases_eq q n) [
            | inl e ↦ absurd (none-some kept (sym (get_or-set_same level.pairs n None None within) ∙ ap (λ i. pair_at (put level.pairs n None) i) (sym e) ∙ there))
            | inr ne ↦ has.1 q kept (sym (get_or-set_other level.pairs n q None None ne) ∙ there)
          ],
    )

-- bytes that are stored are the image of the state in work
stored_have : (first : MachineState) (journal : List (List ℕ)) (unit steps : ℕ) (slots : List Slots) (c : Configuration) (a : Action) (d : Configuration) (s : Holdings) → Goes steps slots c a d →
    s.work ≡ unit_states first journal unit c.work → StoredAreGood (HasDigest (unit_states first journal unit)) a s
stored_have first journal unit steps slots c a d s g here from to k e = ap sha256 (stored_are first journal unit steps slots c a d s g here from to k e)

-- bytes that are fetched have the digest that is kept
fetched_have : (states : ℕ → MachineState) (steps : ℕ) (slots : List Slots) (c : Configuration) (s : Holdings) → IsLaidOut steps slots c s.levels.store →
    KeepsDigests states s.levels.store → FetchedAreGood (HasDigest states) steps c s
fetched_have states steps slots c s laid keeps n k got within there fetched = (
  fetched.4 ∙ keeps k n fetched.0 within fetched.1,
  fetched_within steps (get_or slots k (Count 0)) (held_on c k) s.levels k n got (laid.each k within) fetched,
)

-- the levels keep the digests after an action
digests_after : (first : MachineState) (journal : List (List ℕ)) (unit steps : ℕ) (slots : List Slots) (c : Configuration) (a : Action) (d : Configuration) (old new : Holdings) →
    IsSound steps slots c → Goes steps slots c a d → Acts unit journal a old new → IsLaidOut steps slots c old.levels.store →
    StandsByDigests first journal unit c old → KeepsDigests (unit_states first journal unit) new.levels.store
digests_after first journal unit steps slots c a d old new sound g acts laid stands k n kept within at =
    let states = unit_states first journal unit in
    (levels_follow (Digests states steps slots) (HasDigest states) journal unit steps slots c a d old new (digests_gain states steps slots) (digests_lose states steps slots)
    sound laid.levels g acts (stored_have first journal unit steps slots c a d old g stands.work) (fetched_have states steps slots c old laid stands.digests)
    (λ j lt. (laid.each j lt, λ m kept at. stands.digests j m kept lt at)) k within).1 n kept at

-- no state was taken in, or its image is that of the run's, or the two collide
right_or_collides : (states : ℕ → MachineState) (a : Action) (work : MachineState) (taken : Option ℕ) → taken_in a ≡ taken → ((n : ℕ) → taken_in a ≡ Some n → HasDigest states n (image work)) →
    ((n : ℕ) → taken_in a ≡ Some n → image work ≡ image (states n)) ⊎ Collides states a work
right_or_collides states a work None none has = inl (λ n takes. absurd (none-some n (sym none ∙ takes)))
right_or_collides states a work (Some m) some has = elim (same_bytes (image work) (image (states m))) [
  | inl e ↦ inl (λ n takes. e ∙ ap (λ i. image (states i)) (same_Some m n (sym some ∙ takes)))
  | inr ne ↦ inr (record { number = m; takes = some; other = ne; one_digest = has m some })
]

-- over any keepers holdings that stand by the digests do so after an action, or two images collide
pub stand_or_collide : (first : MachineState) (journal : List (List ℕ)) (unit steps : ℕ) (slots : List Slots) (c : Configuration) (a : Action) (d : Configuration) (old new : Holdings) →
    IsMachineState first → IsRecorded journal → IsSound steps slots c → Goes steps slots c a d → Acts unit journal a old new → IsLaidOut steps slots c old.levels.store →
    StandsByDigests first journal unit c old → StandsByDigests first journal unit d new ⊎ Collides (unit_states first journal unit) a new.work
stand_or_collide first journal unit steps slots c a d old new is recorded sound g acts laid stands =
    let states = unit_states first journal unit in
    elim (right_or_collides states a new.work (taken_in a) refl (λ n takes. taken_is (HasDigest states) journal unit steps slots c a d old new n g acts laid.levels (fetched_have states steps slots c old laid stands.digests) takes)) [
      | inl same ↦ inl (record {
        work = work_after first journal unit steps slots c a d old new is recorded g acts stands.work same;
        tape = tape_after first journal unit steps slots c a d old new g acts stands.work stands.tape;
        digests = digests_after first journal unit steps slots c a d old new sound g acts laid stands;
      })
      | inr collides ↦ inr collides
    ]

-- a session that begins stands by the digests
pub begun_by_digests : (first : MachineState) (journal : List (List ℕ)) (unit steps : ℕ) (slots : List Slots) (told : ℕ → Option Images) →
    StandsByDigests first journal unit (start steps slots) (holdings_of (begun first journal unit steps slots) told)
begun_by_digests first journal unit steps slots told = record {
  work = ap (state_number first journal) (sym (mul-zero unit));
  tape = tt;
  digests = λ k n kept within at. absurd (none-some kept (sym (none_at slots steps k n) ∙ at));
}
