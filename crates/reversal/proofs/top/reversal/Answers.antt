use Rattle.std.proofs.Common.{◌≡◌, inl, inr, ℕ, map, take, ◌++◌, refl, sym, ◌∙◌, ap, subst, arith}
use Rattle.endings.specs.declared.outcome.Outcome.{Outcome}
use Rattle.endings.specs.declared.ended.Ended.{Ended}
use Rattle.endings.specs.Outcomes.{unreadable}
use Rattle.endings.specs.Endings.{ended_of, status_of}
use Rattle.requests.specs.Request.{Request, Says, words_of}
use Rattle.requests.specs.Bounds.{numbers}
use Rattle.requests.specs.Inputs.{inputs_of, names, FailsAtInput}
use Rattle.requests.specs.RequestModel.{request_of}
use Rattle.reversal.specs.Table.{accept, refuse}
use Rattle.reversal.specs.Moment.{moment}
use Rattle.reversal.specs.Decision.{Comes, EndsBy}
use Rattle.reversal.specs.JobModel.{job_of}
use Rattle.requests.proofs.Requests.{one_request}
use Rattle.requests.proofs.RefusalUniqueness.{refuses_number, not_asked, not_refused, refused_so, refused_not_two}
use Rattle.reversal.proofs.TopCall.{comes_of, works_ends, works_halts, works_not}
use Rattle.reversal.proofs.top.reversal.Given.{Over}
use Rattle.reversal.proofs.top.reversal.Goals as goal

-- an ending has the status of its outcome
has_status : (e : Ended) (o : Outcome) → e ≡ ended_of o → e.status ≡ status_of o
has_status e o is = λ i. (is i).status

-- ---- a number of the request is outside its bounds

said_outside : (g : Over) (c : goal.After-from-in-Some-refusal g) → Says (words_of c.args.words.now) (request_of c.in-Some.request)
said_outside g c = let P : _ → Type 0 = λ l. Says (map (λ w. w.items) l) (request_of c.in-Some.request) in subst P c.deref.ensures.value c.in-Some.ensures.found

pub returns-in-Some-refusal-clause-says : goal.returns-in-Some-refusal-clause-says
returns-in-Some-refusal-clause-says g c = (
  λ two. absurd (refused_not_two (request_of c.in-Some.request) c.in-Some-refusal.refusal c.in-Some-refusal.ensures (sym (has_status _ c.in-Some-refusal.refusal c.from-in-Some-refusal.ensures) ∙ two)),
  λ none. absurd (none (request_of c.in-Some.request) (said_outside g c)),
)

pub returns-in-Some-refusal-clause-unread : goal.returns-in-Some-refusal-clause-unread
returns-in-Some-refusal-clause-unread g c o refuses = (
  c.from-in-Some-refusal.ensures ∙ ap ended_of (refused_so (words_of c.args.words.now) (request_of c.in-Some.request) c.in-Some-refusal.refusal o (said_outside g c) c.in-Some-refusal.ensures refuses),
  refl,
)

pub returns-in-Some-refusal-clause-input : goal.returns-in-Some-refusal-clause-input
returns-in-Some-refusal-clause-input g c r asks = absurd (not_asked (words_of c.args.words.now) (request_of c.in-Some.request) r c.in-Some-refusal.refusal (said_outside g c) c.in-Some-refusal.ensures asks)

pub returns-in-Some-refusal-clause-decided : goal.returns-in-Some-refusal-clause-decided
returns-in-Some-refusal-clause-decided g c r asks = absurd (not_asked (words_of c.args.words.now) (request_of c.in-Some.request) r c.in-Some-refusal.refusal (said_outside g c) c.in-Some-refusal.ensures asks)

refused_status : (g : Over) (c : goal.After-from-in-Some-refusal g) → c.from-in-Some-refusal.result.status ≡ 10
refused_status g c = has_status _ c.in-Some-refusal.refusal c.from-in-Some-refusal.ensures ∙ refuses_number (numbers (request_of c.in-Some.request)) c.in-Some-refusal.refusal c.in-Some-refusal.ensures

pub returns-in-Some-refusal-clause-input_cause : goal.returns-in-Some-refusal-clause-input_cause
returns-in-Some-refusal-clause-input_cause g c three = let is = refused_status g c in absurd (omega (arith, is, three))

pub returns-in-Some-refusal-clause-memory : goal.returns-in-Some-refusal-clause-memory
returns-in-Some-refusal-clause-memory g c memory = let is = refused_status g c in absurd (omega (arith, is, memory))

-- ---- a job was come to

said_job : (g : Over) (c : goal.After-from-in-Ok g) → Says (words_of c.args.words.now) (request_of c.in-Some.request)
said_job g c = let P : _ → Type 0 = λ l. Says (map (λ w. w.items) l) (request_of c.in-Some.request) in subst P c.deref.ensures.value c.in-Some.ensures.found

-- the decision was come to by the slots of the keepers
come_to : (g : Over) (c : goal.After-from-in-Ok g) → Comes (request_of c.in-Some.request) (g.I.Inputs.told c.args.inputs.now) (g.I.Inputs.asked c.args.inputs.now) (g.I.Inputs.asked c.prepared.new.inputs) (map g.K.Storage.slot_count c.args.keepers.now.items) (accept (job_of c.in-Ok.job))
come_to g c =
    let P : _ → Type 0 = λ l. Comes (request_of c.in-Some.request) (g.I.Inputs.told c.args.inputs.now) (g.I.Inputs.asked c.args.inputs.now) (g.I.Inputs.asked c.prepared.new.inputs) (map g.K.Storage.slot_count l) (accept (job_of c.in-Ok.job)) in
    subst P c.deref-2.ensures.value c.in-Ok.ensures.comes

pub returns-in-Ok-clause-says : goal.returns-in-Ok-clause-says
returns-in-Ok-clause-says g c = (
  λ two.
      let ended = sym (has_status _ c.work.result c.from-in-Ok.ensures) ∙ two in
      elim c.work.ensures.works [
        | inl idle ↦ let status = ap status_of idle.0 in absurd (omega (arith, status, ended))
        | inr works ↦ absurd ((works_not (job_of c.in-Ok.job) c.work.result _ _ works).not_words ended)
      ],
  λ none. absurd (none (request_of c.in-Some.request) (said_job g c)),
)

pub returns-in-Ok-clause-unread : goal.returns-in-Ok-clause-unread
returns-in-Ok-clause-unread g c e refuses = absurd (not_refused (words_of c.args.words.now) (request_of c.in-Some.request) e (said_job g c) c.in_default-refusal.ensures refuses)

pub returns-in-Ok-clause-asks : goal.returns-in-Ok-clause-asks
returns-in-Ok-clause-asks g c r asks =
    let P : Request → Type 0 = λ x. (k : ℕ) × (g.I.Inputs.asked c.prepared.new.inputs ≡ g.I.Inputs.asked c.args.inputs.now ++ take k (names (inputs_of x.command))) in
    subst P (one_request (words_of c.args.words.now) (request_of c.in-Some.request) r (said_job g c) asks.says) c.prepared.ensures.asked

pub returns-in-Ok-clause-decided : goal.returns-in-Ok-clause-decided
returns-in-Ok-clause-decided g c r asks n3 n17 =
    let is = has_status _ c.work.result c.from-in-Ok.ensures in
    let E : Ended → Type 0 = λ e. EndsBy (accept (job_of c.in-Ok.job)) e
    (moment g.O.Sink g.K.Storage c.args.out.now c.args.keepers.now.items c.args.steps.now)
    (moment g.O.Sink g.K.Storage c.work.new.out c.work.new.keepers.items c.work.new.counter) in
    elim c.work.ensures.works [
      | inl idle ↦ absurd (n17 (is ∙ ap status_of idle.0))
      | inr works ↦ (
        accept (job_of c.in-Ok.job),
        comes_of (words_of c.args.words.now) (request_of c.in-Some.request) r _ _ _ _ _ (said_job g c) asks.says (come_to g c),
        c.work.ensures.others,
        subst E (sym c.from-in-Ok.ensures) (works_ends (job_of c.in-Ok.job) c.work.result _ _ works (λ e. n17 (is ∙ e))),
        c.begins.ensures,
      )
    ]

pub returns-in-Ok-clause-stay : goal.returns-in-Ok-clause-stay
returns-in-Ok-clause-stay g c = c.work.ensures.others.0

pub returns-in-Ok-clause-memory : goal.returns-in-Ok-clause-memory
returns-in-Ok-clause-memory g c e17 =
    let status : status_of c.work.result ≡ 17 = sym (has_status _ c.work.result c.from-in-Ok.ensures) ∙ e17 in
    elim c.work.ensures.works [
      | inl idle ↦ (c.from-in-Ok.ensures ∙ ap ended_of idle.0, inl (idle.1, idle.2, idle.3))
      | inr works ↦
          let halts = works_halts (job_of c.in-Ok.job) c.work.result _ _ works status in (
            c.from-in-Ok.ensures ∙ ap ended_of halts.0,
            inr (
              request_of c.in-Some.request,
              record { says = said_job g c; within = c.in_default-refusal.ensures },
              job_of c.in-Ok.job,
              come_to g c,
              c.begins.ensures,
              c.work.ensures.others,
              halts.1,
              λ rooms. (let none = c.work.ensures.roomy rooms status in (none.1, none.2, none.3)),
            ),
          )
    ]

-- ---- a refusal was come to

said_refusal : (g : Over) (c : goal.After-from-in-Err g) → Says (words_of c.args.words.now) (request_of c.in-Some.request)
said_refusal g c = let P : _ → Type 0 = λ l. Says (map (λ w. w.items) l) (request_of c.in-Some.request) in subst P c.deref.ensures.value c.in-Some.ensures.found

pub returns-in-Err-clause-says : goal.returns-in-Err-clause-says
returns-in-Err-clause-says g c = (
  λ two.
      let ended = sym (has_status _ c.in-Err.refusal c.from-in-Err.ensures) ∙ two in
      elim c.in-Err.ensures.refused [
        | inl input ↦ let status = ap status_of input.1 in absurd (omega (arith, status, ended))
        | inr more ↦ elim more [
          | inl memory ↦ let status = ap status_of memory in absurd (omega (arith, status, ended))
          | inr refused ↦ absurd (refused.2 ended)
        ]
      ],
  λ none. absurd (none (request_of c.in-Some.request) (said_refusal g c)),
)

pub returns-in-Err-clause-unread : goal.returns-in-Err-clause-unread
returns-in-Err-clause-unread g c e refuses = absurd (not_refused (words_of c.args.words.now) (request_of c.in-Some.request) e (said_refusal g c) c.in_default-refusal.ensures refuses)

pub returns-in-Err-clause-asks : goal.returns-in-Err-clause-asks
returns-in-Err-clause-asks g c r asks =
    let P : Request → Type 0 = λ x. (k : ℕ) × (g.I.Inputs.asked c.prepared.new.inputs ≡ g.I.Inputs.asked c.args.inputs.now ++ take k (names (inputs_of x.command))) in
    subst P (one_request (words_of c.args.words.now) (request_of c.in-Some.request) r (said_refusal g c) asks.says) c.prepared.ensures.asked

pub returns-in-Err-clause-input : goal.returns-in-Err-clause-input
returns-in-Err-clause-input g c r asks three =
    let told = g.I.Inputs.told c.args.inputs.now in
    let ended : status_of c.in-Err.refusal ≡ 3 = sym (has_status _ c.in-Err.refusal c.from-in-Err.ensures) ∙ three in
    let P : Request → ℕ → Type 0 = λ x n. FailsAtInput (inputs_of x.command) told n (g.I.Inputs.asked c.args.inputs.now) (g.I.Inputs.asked c.prepared.new.inputs) in
    elim c.in-Err.ensures.refused [
      | inl input ↦
          let is : c.from-in-Err.result ≡ ended_of (unreadable input.0) = c.from-in-Err.ensures ∙ ap ended_of input.1 in
          let place : input.0 ≡ c.from-in-Err.result.place = sym (λ i. (is i).place) in (
            is ∙ ap (λ n. ended_of (unreadable n)) place,
            subst (P r) place (subst (λ x. P x input.0) (one_request (words_of c.args.words.now) (request_of c.in-Some.request) r (said_refusal g c) asks.says) input.2),
          )
      | inr more ↦ elim more [
        | inl memory ↦ let status = ap status_of memory in absurd (omega (arith, status, ended))
        | inr refused ↦ absurd (refused.0 ended)
      ]
    ]

pub returns-in-Err-clause-decided : goal.returns-in-Err-clause-decided
returns-in-Err-clause-decided g c r asks n3 n17 = elim c.in-Err.ensures.refused [
  | inl input ↦ absurd (n3 (has_status _ c.in-Err.refusal c.from-in-Err.ensures ∙ ap status_of input.1))
  | inr more ↦ elim more [
    | inl memory ↦ absurd (n17 (has_status _ c.in-Err.refusal c.from-in-Err.ensures ∙ ap status_of memory))
    | inr refused ↦ (
      refuse c.in-Err.refusal,
      comes_of (words_of c.args.words.now) (request_of c.in-Some.request) r _ _ _ _ _ (said_refusal g c) asks.says
          (let P : _ → Type 0 = λ l. Comes (request_of c.in-Some.request) (g.I.Inputs.told c.args.inputs.now) (g.I.Inputs.asked c.args.inputs.now) (g.I.Inputs.asked c.prepared.new.inputs) (map g.K.Storage.slot_count l) (refuse c.in-Err.refusal) in subst P c.deref-2.ensures.value refused.5),
      refl,
      c.from-in-Err.ensures,
      tt,
    )
  ]
]

pub returns-in-Err-clause-memory : goal.returns-in-Err-clause-memory
returns-in-Err-clause-memory g c e17 =
    let status : status_of c.in-Err.refusal ≡ 17 = sym (has_status _ c.in-Err.refusal c.from-in-Err.ensures) ∙ e17 in
    elim c.in-Err.ensures.refused [
      | inl input ↦ let other = ap status_of input.1 in absurd (omega (arith, other, status))
      | inr more ↦ elim more [ inl memory ↦ (c.from-in-Err.ensures ∙ ap ended_of memory, inl (refl, refl, refl)) | inr refused ↦ absurd (refused.1 status) ]
    ]

-- the faults of the inputs count up just where one can't be read
pub returns-in-Err-clause-input_cause : goal.returns-in-Err-clause-input_cause
returns-in-Err-clause-input_cause g c three = c.in-Err.ensures.cause (sym (has_status _ c.in-Err.refusal c.from-in-Err.ensures) ∙ three)

pub returns-in-Err-clause-input_quiet : goal.returns-in-Err-clause-input_quiet
returns-in-Err-clause-input_quiet g c n3 = c.in-Err.ensures.no_cause (λ e. n3 (has_status _ c.in-Err.refusal c.from-in-Err.ensures ∙ e))
