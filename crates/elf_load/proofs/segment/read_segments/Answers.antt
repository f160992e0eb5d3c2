use Rattle.std.proofs.Common.{◌≡◌, ℕ, inr, Some, None, cond, List, ◌∷◌, [], ◌++◌, refl, ap, ◌∙◌, arith}
use Rattle.std.proofs.lemmas.Bool.{false≢true}
use Rattle.std.specs.Global.{Vec}
use Rattle.elf_load.specs.declared.segment.Segment.{Segment}
use Rattle.elf_load.specs.Elf.{header_at, is_load}
use Rattle.elf_load.specs.HeaderFields.{segment_of}
use Rattle.elf_load.proofs.FaultPrecedence.{before_segments}
use Rattle.elf_load.proofs.HeaderScan.{header_is, some_load, none_load, sound_fits, fits_sound, passed_fits, read, read_load, read_other, fit_more}
use Rattle.elf_load.proofs.segment.read_segments.Goals as goal
use Rattle.elf_load.proofs.segment.read_segments.Goals.{in-Some+else-not-is_sound+else-is_err, in_default}

pub returns-then-not-is_sound-clause-refused : goal.returns-then-not-is_sound-clause-refused
returns-then-not-is_sound-clause-refused c =
    let file : List ℕ = c.args.file.now in
    let i : ℕ = c.loop-index.index in
    let is = header_is file c.args.header.now i c.requires.header in
    let load = some_load i (header_at file i) c.in-Some.segment (c.in-Some.ensures ∙ ap (λ h. cond (is_load h) (Some (segment_of i h)) None) is) in
    inr (record {
      before = before_segments file c.args.stack c.args.header.now c.requires.header;
      missed = (omega (arith, c.requires.header.count), λ fits. false≢true (c.if-not-is_sound.ensures.1 (fits_sound file c.args.stack i c.in-Some.segment load.1 load.0 fits)), c.loop-index.invariant.fit);
    })

pub loop-index-preserved : goal.loop-index-preserved
loop-index-preserved c =
    let file : List ℕ = c.args.file.now in
    let i : ℕ = c.loop-index.index in
    let is = header_is file c.args.header.now i c.requires.header in
    elim c.match-segment_at.branch [
      | in-Some+else-not-is_sound+else-is_err w ↦
          let s : Segment = w.in-Some.segment in
          let load = some_load i (header_at file i) s (w.in-Some.ensures ∙ ap (λ h. cond (is_load h) (Some (segment_of i h)) None) is) in
          let pushed = w.push.ensures.items ∙ ap (λ b. cond b (c.loop-index.segments.items ++ s ∷ []) c.loop-index.segments.items) w.if-is_err.ensures.negation in
          record {
            segments = read_load file i c.loop-index.segments.items c.match-segment_at.segments.items s load.0 load.1 c.loop-index.invariant.segments (ap (λ (v : Vec Segment). v.items) w.segments-is ∙ pushed);
            fit = fit_more file c.args.stack i c.loop-index.invariant.fit (sound_fits file c.args.stack i s load.1 (w.if-not-is_sound.ensures.0 refl));
          }
      | in_default w ↦
          let other = none_load i (header_at file i) (w.in_default.ensures ∙ ap (λ h. cond (is_load h) (Some (segment_of i h)) None) is) in
          record {
            segments = read_other file i c.loop-index.segments.items c.match-segment_at.segments.items other c.loop-index.invariant.segments (ap (λ (v : Vec Segment). v.items) w.segments-is);
            fit = fit_more file c.args.stack i c.loop-index.invariant.fit (passed_fits file c.args.stack i other);
          }
    ]

pub returns-clause-segments : goal.returns-clause-segments
returns-clause-segments c =
    c.loop-index.invariant.segments ∙ ap (read c.args.file.now) (let e : c.loop-index.index ≡ c.args.header.now.count = omega arith in e ∙ c.requires.header.count)

pub returns-clause-fit : goal.returns-clause-fit
returns-clause-fit c = λ i l. c.loop-index.invariant.fit i (omega (arith, c.requires.header.count))
