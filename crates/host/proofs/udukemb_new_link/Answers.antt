use mathlib.Core.Path.{sym, ◌∙◌}
use Rattle.host.specs.Host.{new_link_given}
use Rattle.host.proofs.Laws.{none_first, none_given, new_given}
use Rattle.host.proofs.udukemb_new_link.Goals as goal

pub returns-then-no_strength : goal.returns-then-no_strength
unfolding new_link_given
returns-then-no_strength c = none_given _ _ (none_first _ (sym c.no_strength.ensures ∙ c.if-no_strength.true))

pub returns : goal.returns
returns c =
    new_given _ _ _ _ (sym c.no_strength.ensures ∙ c.if-no_strength.false) c.strength_of.ensures c.mode_if.ensures c.new-new.ensures
    c.record_octets-octets.ensures c.give.ensures
