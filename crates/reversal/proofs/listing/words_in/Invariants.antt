use Rattle.std.proofs.Common.{◌≡◌, ◌%◌, ◌++◌, length}
use Rattle.std.specs.List.{AllByRecursion}
use Rattle.reversal.specs.CommandAsm.{word_bytes}
use Rattle.reversal.specs.Listing.{IsWord}
use Rattle.reversal.proofs.listing.words_in.Given as goal

-- the bytes so far are those of the words, and whole words are left
abbrev pub invariant-loop-rest : goal.invariant-loop-rest
invariant-loop-rest l = record {
  bytes : l.program ≡ word_bytes l.words.items ++ l.rest;
  small : AllByRecursion IsWord l.words.items;
  whole : length l.rest % 4 ≡ 0;
}

abbrev pub decreases-loop-rest : goal.decreases-loop-rest
decreases-loop-rest l = length l.rest
