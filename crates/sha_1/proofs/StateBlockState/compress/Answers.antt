use Rattle.sha_1.specs.Ring.{rounds_on}
use Rattle.sha_1.proofs.Laws.{compressed}
use Rattle.sha_1.proofs.StateBlockState.compress.Goals as goal

pub returns : goal.returns
returns c =
    let two = rounds_on _ _ _ _ _ _ 0 10 10 c.ten-s1.ensures c.ten-s2.ensures in
    let three = rounds_on _ _ _ _ _ _ 0 20 10 two c.ten-s3.ensures in
    let four = rounds_on _ _ _ _ _ _ 0 30 10 three c.ten-s4.ensures in
    let five = rounds_on _ _ _ _ _ _ 0 40 10 four c.ten-s5.ensures in
    let six = rounds_on _ _ _ _ _ _ 0 50 10 five c.ten-s6.ensures in
    let seven = rounds_on _ _ _ _ _ _ 0 60 10 six c.ten-s7.ensures in
    let all = rounds_on _ _ _ _ _ _ 0 70 10 seven c.ten-s8.ensures in
    compressed _ _ _ c.words_in-w.ensures all c.added.ensures
