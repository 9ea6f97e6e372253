use Rattle.std.proofs.Common.{replicate, ap, ◌∙◌, is_ok, rules}
use Rattle.mschap.proofs.InnerLaws.{sha1_joined}
use Rattle.mschap.proofs.sha1_of.Goals as goal

pub unwrap-requires : goal.unwrap-requires
unwrap-requires c = ap is_ok (c.sha1.ensures ∙ sha1_joined c.args.a.now c.args.b.now c.args.c.now (replicate 288 0) c.join.ensures c.requires)

pub returns : goal.returns
returns c = search (rules, c.unwrap.ensures, c.sha1.ensures, sha1_joined c.args.a.now c.args.b.now c.args.c.now (replicate 288 0) c.join.ensures c.requires)
