use Rattle.std.proofs.Common.{rules, ◌≡◌, length}
use Rattle.sha256.proofs.HmacLaws.{behind}
use Rattle.sha256.proofs.hmac.digest_behind.Goals as goal

pub returns : goal.returns
returns c =
    let whole : length c.args.block ≡ 64 = search rules in
    behind _ _ whole c.initial.ensures c.compress.ensures c.in_ok-closed.ensures c.octets_in.ensures
