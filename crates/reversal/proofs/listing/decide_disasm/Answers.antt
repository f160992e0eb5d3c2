use Rattle.std.proofs.Common.{◌≡◌, ◌==◌, ◌<◌, false, inr, List, ℕ, length, map, sym, ap, arith, rules}
use Rattle.std.proofs.lemmas.Bool.Decides.{nat_tests}
use Rattle.reversal.specs.Job.{write}
use Rattle.reversal.specs.Table.{accept}
use Rattle.reversal.specs.Listing.{word_line}
use Rattle.reversal.proofs.WordLists.{lines_are_canonical, listing_is}
use Rattle.reversal.proofs.listing.decide_disasm.Goals as goal

some_bytes : (n : ℕ) → (n == 0) ≡ false → 0 < n
some_bytes n h = grind (arith, nat_tests)

pub returns : goal.returns
returns c counts =
    let words = c.in_ok-words.words.items in
    record {
      accepted = inr (
        record { some = some_bytes (length c.args.program.now) (sym c.if-is_empty.ensures); whole = c.if-program-ne0.false },
        record {
          words = words;
          bytes = c.in_ok-words.ensures.bytes;
          lines = map word_line words;
          canonical = lines_are_canonical words c.in_ok-words.ensures.small;
          does = ap (λ (l : List (List ℕ)). accept (write l)) (sym (listing_is words));
        },
      );
      can_be_done = search rules;
      room = tt;
      refused = tt;
    }
