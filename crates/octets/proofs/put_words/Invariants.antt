use Rattle.std.proofs.Common.{◌≡◌, take}
use Rattle.octets.specs.Octets.{written, words_of}
use Rattle.octets.proofs.put_words.Given as goal

abbrev pub invariant-loop-i : goal.invariant-loop-i
invariant-loop-i l = l.out ≡ written (words_of l.order (take l.i l.words)) l.initial.out
