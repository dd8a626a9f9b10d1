use Rattle.std.proofs.Common.{◌≡◌, ◌<◌, length, map, is_some, arith, sym, subst}
use Rattle.std.specs.Prelude.{count_by}
use Rattle.std.proofs.lemmas.List.{length-map}
use Rattle.std.proofs.lemmas.List.Sums.{count_by-le-length}
use Rattle.slab_layer.specs.declared.standings.Standing.TheVariants.{AllOut, Partial, Complete}
use Rattle.slab_layer.specs.Slab.{SlabState}
use Rattle.slab_layer.specs.Standings.{standing_of}
use Rattle.slab_layer.proofs.SlabLemmas.{state}
use Rattle.slab_layer.proofs.CountLemmas.{stands_complete, stands_out, stands_partial}
use Rattle.slab_layer.proofs.slabs.Slab.standing.Goals as goal

pub returns-then-self-len : goal.returns-then-self-len
returns-then-self-len g c =
    let long = length-map c.self.inside.home.items is_some in
    subst (λ (s : SlabState). Complete ≡ standing_of s) c.self.view_is (sym (stands_complete (state (record { root = c.self.inside.root; range = c.self.inside.span }) c.self.inside.colour c.self.inside.chunk c.self.inside.home.items) (omega (arith, long, c.self.invariant.counted, c.if-self-len.true, c.len.ensures))))

pub returns-then-self-eq0 : goal.returns-then-self-eq0
returns-then-self-eq0 g c =
    let long = length-map c.self.inside.home.items is_some in
    let most = count_by-le-length (λ b. b) (map is_some c.self.inside.home.items) in
    let less : count_by (λ b. b) (map is_some c.self.inside.home.items) < length (map is_some c.self.inside.home.items) = grind (arith, long, most, c.self.invariant.counted, c.if-self-len.false, c.len.ensures) in
    subst (λ (s : SlabState). AllOut ≡ standing_of s) c.self.view_is (sym (stands_out (state (record { root = c.self.inside.root; range = c.self.inside.span }) c.self.inside.colour c.self.inside.chunk c.self.inside.home.items) less (omega (arith, c.self.invariant.counted, c.if-self-eq0.true))))

pub returns : goal.returns
returns g c =
    let long = length-map c.self.inside.home.items is_some in
    let most = count_by-le-length (λ b. b) (map is_some c.self.inside.home.items) in
    let less : count_by (λ b. b) (map is_some c.self.inside.home.items) < length (map is_some c.self.inside.home.items) = grind (arith, long, most, c.self.invariant.counted, c.if-self-len.false, c.len.ensures) in
    subst (λ (s : SlabState). Partial ≡ standing_of s) c.self.view_is (sym (stands_partial (state (record { root = c.self.inside.root; range = c.self.inside.span }) c.self.inside.colour c.self.inside.chunk c.self.inside.home.items) less (grind (arith, c.self.invariant.counted, c.if-self-eq0.false))))
