-- A run by value is one in place over its cells as words.
use borrow.Author.Rules.{rules}
use Rattle.rc4.proofs.Boxes.{zero_cells}
use Rattle.rc4.proofs.Texts.{whole_text}
use Rattle.rc4.proofs.run_text.Goals as goal

pub widen-requires : goal.widen-requires
widen-requires c = zero_cells

pub returns : goal.returns
returns c =
    whole_text c.args.state _ _ _ c.widen.ensures.0 (search rules) (search rules) c.run_words-j.ensures c.narrow.ensures (search rules) (search rules) (search rules) (search rules)
