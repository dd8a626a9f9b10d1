use Rattle.std.proofs.Common.{◌∙◌, ap, sym}
use Rattle.deed_core.proofs.LawProofs.{power_some}
use Rattle.locked_parts.specs.Kinds.{KindDepotState}
use Rattle.locked_parts.proofs.Sounds.{quantum_at}
use Rattle.locked_parts.proofs.Slabs.{room_for}
use Rattle.locked_parts.proofs.new_caches.new_cache.Goals as goal

pub new-requires-clause-room : goal.new-requires-clause-room
new-requires-clause-room g c =
    room_for c.args.tree.now c.args.arena c.args.number c.arena.result.now c.arena.ensures.here c.arena.ensures.arena.caches (power_some c.arena.result.now.quantum c.arena.ensures.arena.power) c.requires.number.0 c.requires.number.1

pub new-requires-clause-quantum : goal.new-requires-clause-quantum
new-requires-clause-quantum g c = power_some c.arena.result.now.quantum c.arena.ensures.arena.power

pub returns-clause-kind : goal.returns-clause-kind
returns-clause-kind g c =
    ap (λ (d : KindDepotState). d.kind) c.new-2.ensures ∙ ap (λ q. record { arena = c.args.arena; number = c.args.number; quantum = q }) (sym (quantum_at c.args.tree.now c.args.arena c.arena.result.now c.arena.ensures.here))
