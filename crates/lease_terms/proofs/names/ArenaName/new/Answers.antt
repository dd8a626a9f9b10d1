use Rattle.std.proofs.Common.{sym, ◌∙◌}
use Rattle.lease_terms.proofs.NameLemmas.{is_padded}
use Rattle.lease_terms.proofs.names.ArenaName.new.Goals as goal

pub invariant_of-result : goal.invariant_of-result
invariant_of-result c = is_padded c.args.text.now c.copy_from_slice.new.self c.copy_from_slice.ensures.after (sym c.is_name.ensures ∙ c.if-not-is_name.false)
