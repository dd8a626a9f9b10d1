use Rattle.stock.specs.Sums.{all_out}
use Rattle.stock_audit.proofs.audits.audit_units.Goals as goal

pub arena_sums-sums-requires-clause-balanced : goal.arena_sums-sums-requires-clause-balanced
arena_sums-sums-requires-clause-balanced g c = (all_out c.requires.balanced.out, c.requires.balanced.accounts)
