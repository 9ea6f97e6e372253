use Rattle.rc4.specs.Cipher.{key_schedule}
use Rattle.rc4.specs.Answers.{keyed_if}
use Rattle.rc4.proofs.keyed_words.Goals as goal

pub key_schedule-requires : goal.key_schedule-requires
key_schedule-requires c = (c.requires.1 c.if-fresh.true, c.ascending.ensures)

pub returns-then-fresh : goal.returns-then-fresh
unfolding key_schedule keyed_if
returns-then-fresh c = (rw c.if-fresh.true c.key_schedule.ensures.0, c.key_schedule.ensures.1)

pub widen-requires : goal.widen-requires
widen-requires c = c.requires.0

pub returns : goal.returns
unfolding keyed_if
returns c = (rw c.if-fresh.false c.widen.ensures.0, c.widen.ensures.1)
