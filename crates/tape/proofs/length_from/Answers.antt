use mathlib.Core.Path.{refl}
use borrow.Author.Rules.{rules}
use Rattle.tape.specs.Tape.{most_groups}
use Rattle.tape.proofs.InnerLaws.{no_octet, last_group, some_behind}
use Rattle.tape.proofs.length_from.Goals as goal

pub returns-then-rest-i : goal.returns-then-rest-i
returns-then-rest-i c = no_octet most_groups c.args.rest.now c.args.i c.if-rest-i.true

pub returns-then-group-lt-MORE : goal.returns-then-group-lt-MORE
returns-then-group-lt-MORE c = last_group most_groups c.args.rest.now c.args.i c.requires.0 c.if-rest-i.false refl c.if-group-lt-MORE.true

pub returns : goal.returns
returns c =
    some_behind most_groups c.args.rest.now c.args.i c.requires.0 c.if-rest-i.false refl c.if-group-lt-MORE.false c.requires.1 (search rules)
    c.requires.2 (search rules)
