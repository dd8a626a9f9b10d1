use Rattle.world_core.proofs.AuditLemmas.{balanced_out, told_out}
use Rattle.world_core.proofs.parts.WorldParts.audit_by_parts.Goals as goal

pub audit_units_by_parts-requires-clause-balanced : goal.audit_units_by_parts-requires-clause-balanced
audit_units_by_parts-requires-clause-balanced g c = balanced_out _ c.args.self.now c.self.view_is c.args.arena c.units_out-out.result c.units_out-out.ensures c.requires.world

pub returns : goal.returns
returns g c = told_out _ c.args.self.now c.self.view_is c.args.arena c.units_out-out.result c.units_out-out.ensures c.audit_units_by_parts.result c.audit_units_by_parts.ensures
