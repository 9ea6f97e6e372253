use Rattle.tape.specs.Tape.{longest_packet, most_groups}
use Rattle.tape.proofs.InnerLaws.{misplaced, inside, at_end_lem, at_record}
use Rattle.tape.proofs.read.Goals as goal

pub returns-then-is_err : goal.returns-then-is_err
returns-then-is_err c =
    misplaced most_groups longest_packet c.args.tape.now c.args.offset c.place_code-placed.ensures c.if-is_err.ensures.negation c.nothing.ensures

pub returns-then-offset-tape : goal.returns-then-offset-tape
returns-then-offset-tape c =
    at_end_lem most_groups longest_packet c.args.tape.now c.args.offset c.place_code-placed.ensures c.if-is_err.ensures.negation c.if-offset-tape.true c.nothing-then-offset-tape.ensures

pub read_record-requires : goal.read_record-requires
read_record-requires c = inside most_groups longest_packet c.args.tape.now c.args.offset c.place_code-placed.ensures c.if-is_err.ensures.negation

pub returns : goal.returns
returns c =
    at_record most_groups longest_packet c.args.tape.now c.args.offset c.place_code-placed.ensures c.if-is_err.ensures.negation c.if-offset-tape.false c.read_record.ensures
