use Rattle.std.proofs.Common.{◌≡◌, ap, ◌∙◌, length, drop}
use Rattle.mschap_packets.proofs.InnerLaws.{no_room, packet_written}
use Rattle.mschap_packets.proofs.write.Goals as goal

pub returns-then-out-length : goal.returns-then-out-length
returns-then-out-length c =
    no_room _ _ _ _ _ c.requires c.if-name-gt-LONGEST_NAME.false c.least_length-least.ensures.0 c.if-out-length.true

pub returns : goal.returns
returns c =
    let value = c.args.value.now in
    let name = c.args.name.now in
    let back : c.split_at_mut-front.result.1.now ≡ drop (length value) (drop 5 c.args.out.now) =
    c.split_at_mut-front.ensures.back ∙ ap (drop (length value)) c.split_at_mut-head.ensures.back in
    let written = packet_written _ _ _ _ c.args.out.now c.requires c.if-name-gt-LONGEST_NAME.false c.least_length-least.ensures.0
    c.if-out-length.false (c.copy_from_slice.ensures.after ∙ c.header.ensures) (ap (drop (length name)) back) in
    rw (c.copy_from_slice-2.ensures.after, c.copy_from_slice-3.ensures.after) written
