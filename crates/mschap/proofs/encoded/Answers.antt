use Rattle.std.proofs.Common.{◌<◌, length, ◌≡◌, arith, rules}
use Rattle.mschap.specs.Mschap.{encoded as text, hex_digits}
use Rattle.mschap.proofs.InnerLaws.{encoded_more, encoded_all}
use Rattle.mschap.proofs.encoded.Goals as goal

pub loop-i-init : goal.loop-i-init
unfolding hex_digits text
loop-i-init c = rw c.copy_from_slice.ensures.after

pub loop-i-preserved : goal.loop-i-preserved
loop-i-preserved c =
    let l = c.loop-i in
    let size : length c.args.digest.now ≡ 20 = search rules in
    let here : l.i < 20 = omega arith in
    encoded_more c.args.digest.now l.i _ _ l.invariant (omega arith) here c.digit.ensures c.digit-in-loop-i.ensures

pub returns : goal.returns
returns c =
    let l = c.loop-i in
    let size : length c.args.digest.now ≡ 20 = search rules in
    encoded_all c.args.digest.now l.i l.invariant (omega arith) size
