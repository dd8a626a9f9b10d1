use Rattle.world_core.proofs.AuditLemmas.{balanced_out, told_out}
use Rattle.world_core.proofs.parts.WorldParts.audit.Goals as goal

pub audit_units-requires-clause-balanced : goal.audit_units-requires-clause-balanced
audit_units-requires-clause-balanced g c = balanced_out _ c.args.self.now c.self.view_is c.args.arena c.units_out-out.result c.units_out-out.ensures c.requires.world

pub returns : goal.returns
returns g c = told_out _ c.args.self.now c.self.view_is c.args.arena c.units_out-out.result c.units_out-out.ensures c.audit_units.result c.audit_units.ensures
