use mathlib.Core.Path.{sym, ◌∙◌}
use Rattle.host.specs.Host.{start_key_given}
use Rattle.host.proofs.Laws.{none_first, none_given, start_given}
use Rattle.host.proofs.udukemb_start_key.Goals as goal

pub returns-then-no_strength : goal.returns-then-no_strength
unfolding start_key_given
returns-then-no_strength c = none_given _ _ (none_first _ (sym c.no_strength.ensures ∙ c.if-no_strength.true))

pub returns : goal.returns
returns c =
    let a = c.args in
    start_given _ _ _ a.password.now a.response.now _ (sym c.no_strength.ensures ∙ c.if-no_strength.false)
    c.strength_of-strength.ensures c.role_of.ensures c.direction_of.ensures c.start_key_from-key.ensures
    c.key_length-n.ensures c.number_of-number.ensures c.unwrap_or.ensures c.give.ensures
