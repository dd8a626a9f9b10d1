use Rattle.std.proofs.Common.{◌∙◌, All, ap, sym, subst}
use Rattle.tag_arena.specs.ArenaState.{spans_of}
use Rattle.stock.specs.Spaces.{SpaceState}
use Rattle.stock.specs.Endings.{IsBareCache}
use Rattle.stock.proofs.Bare.{no_free}
use Rattle.stock.proofs.spaces.Space.discard.Goals as goal

pub discard_caches-requires : goal.discard_caches-requires
discard_caches-requires g c = subst (λ (s : SpaceState). All IsBareCache s.caches) (sym c.self.view_is) c.requires.caches

pub unreachable-requires : goal.unreachable-requires
unreachable-requires g c =
    let none = ap (λ (s : SpaceState). spans_of s.arena) c.self.view_is ∙ c.requires.spans in
    (let ok = c.in-Err.ensures.empty.1 (no_free c.self.inside.arena c.id.ensures.sound none) in cc)
