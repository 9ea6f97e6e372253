use mathlib.Core.Path.{ap, ◌∙◌}
use Rattle.answer.specs.Answer.{number_of}
use Rattle.ccp.specs.Answers.{reply_word}
use Rattle.ccp.proofs.Laws.{reply_told}
use Rattle.ccp.proofs.reply_to.Goals as goal

pub returns : goal.returns
returns c =
    let e = c.reply_of.ensures in
    let told = reply_told c.args.option.now c.args.allowed c.args.stateful in
    (e, ap number_of e ∙ told.0, ap reply_word e ∙ told.1)
