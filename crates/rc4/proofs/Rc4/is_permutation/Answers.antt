use Rattle.std.proofs.Common.{◌≡◌, bit_and, length, rules}
use Rattle.std.proofs.lemmas.Iterator.{YieldsList-from_slice}
use Rattle.std.proofs.lemmas.Iterator.Consumers.{fold_from_yields_List}
use Rattle.rc4.proofs.Marks.{permutation_told}
use Rattle.rc4.proofs.Rc4.is_permutation.Goals as goal

pub returns : goal.returns
returns c =
    let marks = c.marked.result in
    let long : length c.args.self.cells ≡ 256 = search rules in
    permutation_told c.args.self.cells marks long c.marked.ensures
    (fold_from_yields_List _ (λ all x. bit_and all x) 1 c.fold.result c.fold.ensures.ran (YieldsList-from_slice marks c.iter.ensures.rest) (λ a x b q k. search rules))
