use Rattle.std.proofs.Common.{◌≡◌, ℕ, ◌+◌, ◌/◌, ◌%◌, ◌≤◌, ◌<◌, inr, List, map, length, refl, sym, ap, subst, ◌∙◌, arith}
use Rattle.std.proofs.lemmas.Bool.{false≢true}
use Rattle.std.proofs.lemmas.Result.{err_from_is_err_and}
use Rattle.std.specs.List.{All, Contains}
use Rattle.std.specs.List.Sorted.{IsStrictlyIncreasing}
use Rattle.rv_pages.specs.Memory.{Memory, zeroed, IsMapped}
use Rattle.elf_load.specs.declared.fault.ElfFault.TheVariants.{Entry}
use Rattle.elf_load.specs.declared.segment.Segment.{Segment}
use Rattle.elf_load.specs.Program.{Piece, AreMapped, stack_start, with_pieces, start_at}
use Rattle.elf_load.specs.Elf.{loads, pieces, e_entry}
use Rattle.elf_load.specs.Faults.{FirstFault}
use Rattle.elf_load.specs.HeaderFields.{segments_of, segment_at, piece_in, AreApart, IsPagesFault}
use Rattle.elf_load.proofs.LoadSegments.{segments_some, segments_below, segments_inside, segments_sized, segments_differ, none_share, pages_fault, entry_fault, pieces_are}
use Rattle.elf_load.proofs.LoadedMemory.{segments_zeroed}
use Rattle.elf_load.proofs.loading.load_file.Goals as goal

pub returns-in_err-header-clause-refused : goal.returns-in_err-header-clause-refused
returns-in_err-header-clause-refused c =
    let p = err_from_is_err_and c.from_residual.result c.from_residual.ensures.1 in
    rw (p.1, p.2) (inr (c.in_err-header.ensures.refused c.args.stack))

pub mapped_pages-requires-clause-some : goal.mapped_pages-requires-clause-some
mapped_pages-requires-clause-some c =
    subst (All (λ (s : Segment). 0 < s.memory_size)) (sym (c.deref.ensures.value ∙ c.in_ok-segments.ensures.segments)) (segments_some c.args.file.now)

pub mapped_pages-requires-clause-below : goal.mapped_pages-requires-clause-below
mapped_pages-requires-clause-below c =
    subst (All (λ (s : Segment). s.address + s.memory_size ≤ stack_start c.args.stack)) (sym (c.deref.ensures.value ∙ c.in_ok-segments.ensures.segments)) (segments_below c.args.file.now c.args.stack c.in_ok-segments.ensures.fit)

pub mapped_pages-requires-clause-differ : goal.mapped_pages-requires-clause-differ
mapped_pages-requires-clause-differ c =
    subst (λ (xs : List Segment). (a b : ℕ) → a < b → b < length xs → (segment_at xs a).index < (segment_at xs b).index) (sym (c.deref.ensures.value ∙ c.in_ok-segments.ensures.segments)) (segments_differ c.args.file.now)

pub returns-in_err-numbers-clause-refused : goal.returns-in_err-numbers-clause-refused
returns-in_err-numbers-clause-refused c =
    let p = err_from_is_err_and c.from_residual-in_err-numbers.result c.from_residual-in_err-numbers.ensures.1 in
    let fault = subst (λ (xs : List Segment). IsPagesFault xs c.args.stack c.in_err-numbers.field-0.0) (c.deref.ensures.value ∙ c.in_ok-segments.ensures.segments) c.in_err-numbers.ensures.refused in
    rw (p.1, p.2) (pages_fault c.args.file.now c.args.stack c.in_ok-header.header c.in_err-numbers.field-0.0 c.in_ok-header.ensures.found c.in_ok-segments.ensures.fit fault)

-- the mapped pages are those of the file's pieces
pieces_mapped : (file : List ℕ) (stack : ℕ) (segments : List Segment) (pages : List ℕ) → segments ≡ segments_of file (loads file) → AreMapped (map (piece_in file) segments) stack pages → AreMapped (pieces file) stack pages
pieces_mapped file stack segments pages e h = subst (λ (ps : List Piece). AreMapped ps stack pages) (ap (map (piece_in file)) e ∙ sym (pieces_are file)) h

pub returns-then-not-is_entry-clause-refused : goal.returns-then-not-is_entry-clause-refused
returns-then-not-is_entry-clause-refused c =
    let file : List ℕ = c.args.file.now in
    let is = c.deref.ensures.value ∙ c.in_ok-segments.ensures.segments in
    let numbers : List ℕ = c.in_ok-numbers.numbers.items in
    let entry : c.in_ok-header.header.entry ≡ e_entry file = c.in_ok-header.ensures.found.entry in
    let missing : (e_entry file % 4 ≡ 0) × Contains numbers (e_entry file / 4096) → ⊥ =
    subst (λ (e : ℕ). (e % 4 ≡ 0) × Contains numbers (e / 4096) → ⊥) entry (λ h. false≢true (c.if-not-is_entry.ensures.1 (h.0, subst (λ (xs : List ℕ). Contains xs (c.in_ok-header.header.entry / 4096)) (sym c.deref-2.ensures.value) h.1)))
    in
    inr (subst (λ e. FirstFault file c.args.stack (Entry e)) (sym entry)
    (entry_fault file c.args.stack c.in_ok-header.header numbers c.in_ok-header.ensures.found c.in_ok-segments.ensures.fit
    (none_share file (subst AreApart is c.in_ok-numbers.ensures.apart)) (pieces_mapped file c.args.stack c.deref.result.now numbers is (c.in_ok-numbers.ensures.mapped file))
    (omega (arith, c.in_ok-numbers.numbers.ok.0, c.in_ok-numbers.ensures.few)) missing))

pub map-requires-clause-ascending : goal.map-requires-clause-ascending
map-requires-clause-ascending c = subst IsStrictlyIncreasing (sym c.deref-3.ensures.value) (c.in_ok-numbers.ensures.mapped c.args.file.now).ascending

pub fill-requires-clause-inside : goal.fill-requires-clause-inside
fill-requires-clause-inside c =
    subst (All (λ (s : Segment). s.offset + s.file_size ≤ length c.args.file.now)) (sym (c.deref-4.ensures.value ∙ c.in_ok-segments.ensures.segments)) (segments_inside c.args.file.now c.args.stack c.in_ok-segments.ensures.fit)

pub fill-requires-clause-mapped : goal.fill-requires-clause-mapped
fill-requires-clause-mapped c =
    let file : List ℕ = c.args.file.now in
    let is = c.deref.ensures.value ∙ c.in_ok-segments.ensures.segments in
    let numbers : List ℕ = c.in_ok-numbers.numbers.items in
    let mapped : AreMapped (map (piece_in file) (segments_of file (loads file))) c.args.stack numbers = subst (λ (xs : List Segment). AreMapped (map (piece_in file) xs) c.args.stack numbers) is (c.in_ok-numbers.ensures.mapped file) in
    let zeros = segments_zeroed file (segments_of file (loads file)) c.args.stack numbers mapped c.in_ok-numbers.ensures.low (omega (arith, c.in_ok-numbers.numbers.ok.0, c.in_ok-numbers.ensures.few)) (segments_sized file c.args.stack c.in_ok-segments.ensures.fit) (segments_below file c.args.stack c.in_ok-segments.ensures.fit) in
    let same : c.in-Ok.pages ≡ zeroed numbers = c.in-Ok.ensures.memory ∙ ap zeroed c.deref-3.ensures.value in
    subst (λ (m : Memory). All (λ (s : Segment). IsMapped m s.address s.file_size) c.deref-4.result.now) (sym same)
    (subst (All (λ (s : Segment). IsMapped (zeroed numbers) s.address s.file_size)) (sym (c.deref-4.ensures.value ∙ c.in_ok-segments.ensures.segments)) zeros)

pub returns-clause-found : goal.returns-clause-found
returns-clause-found c =
    let file : List ℕ = c.args.file.now in
    let is = c.deref.ensures.value ∙ c.in_ok-segments.ensures.segments in
    let numbers : List ℕ = c.in_ok-numbers.numbers.items in
    let found = c.in_ok-header.ensures.found in
    let entry : c.in_ok-header.header.entry ≡ e_entry file = found.entry in
    let mapped : AreMapped (pieces file) c.args.stack numbers = pieces_mapped file c.args.stack c.deref.result.now numbers is (c.in_ok-numbers.ensures.mapped file) in
    let same : c.in-Ok.pages ≡ zeroed numbers = c.in-Ok.ensures.memory ∙ ap zeroed c.deref-3.ensures.value in
    let are : map (piece_in file) c.deref-4.result.now ≡ pieces file = ap (map (piece_in file)) (c.deref-4.ensures.value ∙ c.in_ok-segments.ensures.segments) ∙ sym (pieces_are file) in
    let right = c.if-not-is_entry.ensures.0 refl in
    let there : Contains numbers (c.in_ok-header.header.entry / 4096) = subst (λ (xs : List ℕ). Contains xs (c.in_ok-header.header.entry / 4096)) c.deref-2.ensures.value right.1 in
    record {
      magic = found.magic;
      class = found.class;
      executable = found.executable;
      machine = found.machine;
      headers = found.headers;
      fit = c.in_ok-segments.ensures.fit;
      apart = none_share file (subst AreApart is c.in_ok-numbers.ensures.apart);
      entry = record {
        aligned = subst (λ (e : ℕ). e % 4 ≡ 0) entry right.0;
        mapped = (mapped.each (e_entry file / 4096)).0 (subst (λ (e : ℕ). Contains numbers (e / 4096)) entry there);
      };
      start = record {
        pages = numbers;
        mapped = mapped;
        few = omega (arith, c.in_ok-numbers.numbers.ok.0, c.in_ok-numbers.ensures.few);
        state = c.start.ensures ∙ (λ t. start_at (entry t) ((c.fill.ensures ∙ (λ u. with_pieces (same u) (are u))) t));
      };
    }
