use Rattle.std.proofs.Common.{◌≡◌, ◌*◌}
use Rattle.std.proofs.lemmas.List.Elements.{All-weaker}
use Rattle.deed_core.specs.Tag.{Tag}
use Rattle.deed_core.specs.Covering.{units_in}
use Rattle.magazine_layer.specs.Magazines.{cache_rounds}
use Rattle.locked_parts.specs.Kinds.{IsOfKind}
use Rattle.locked_parts.proofs.own_caches.OwnCache.units.Goals as goal

pub units_alike-requires : goal.units_alike-requires
units_alike-requires g c =
    let kind = c.self.inside.kind in
    record {
      each = kind.number * kind.quantum;
      alike = All-weaker (IsOfKind kind) (λ (t : Tag). units_in t.holding ≡ kind.number * kind.quantum) (λ t round. round.len) (cache_rounds c.self.inside.cpu) c.self.invariant.rounds;
    }
