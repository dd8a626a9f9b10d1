use Rattle.std.proofs.Common.{◌≡◌, ◌<◌, length, None, refl, ap, ◌∙◌, arith}
use Rattle.deed_core.specs.Opening.{PlainOpenerState}
use Rattle.tag_arena.specs.Calls.{AdmitsRange}
use Rattle.stock.specs.Setups.{root_number}
use Rattle.stock.specs.Spaces.{SpaceState}
use Rattle.stock.proofs.Moving.{opens}
use Rattle.stock.proofs.Growths.{at_one, refused_here, grown_by}
use Rattle.stock.proofs.stocks.Stock.grow_by.Goals as goal

pub returns-in-Err-clause-grown : goal.returns-in-Err-clause-grown
returns-in-Err-clause-grown g c =
    let within : c.args.arena < length c.args.self.now = omega (arith, c.if-arena-count.false, c.count.ensures.value) in
    let at = (opens c.args.self.now c.self.inside.spaces.items c.args.arena c.index-space.result.now c.index-space.result.now c.self.view_is within c.index-space.ensures refl).at in
    (refused_here c.args.self.now c.args.arena c.args.range c.index-space.result.now c.in-Err.fault at c.in-Err.ensures.refused, refl)

pub grow-grown-requires-clause-root : goal.grow-grown-requires-clause-root
grow-grown-requires-clause-root g c = λ s there.
    let within : c.args.arena < length c.args.self.now = omega (arith, c.if-arena-count.false, c.count.ensures.value) in
    let at = (opens c.args.self.now c.self.inside.spaces.items c.args.arena c.index-space.result.now c.index-space.result.now c.self.view_is within c.index-space.ensures refl).at in
    at_one (λ (x : SpaceState). x.source ≡ None) c.args.self.now c.args.arena c.index-space.result.now s at c.in-Ok.ensures.place.0 there

pub grow-grown-requires-clause-admitted : goal.grow-grown-requires-clause-admitted
grow-grown-requires-clause-admitted g c = λ s there.
    let within : c.args.arena < length c.args.self.now = omega (arith, c.if-arena-count.false, c.count.ensures.value) in
    let at = (opens c.args.self.now c.self.inside.spaces.items c.args.arena c.index-space.result.now c.index-space.result.now c.self.view_is within c.index-space.ensures refl).at in
    at_one (λ (x : SpaceState). AdmitsRange x.arena c.args.range) c.args.self.now c.args.arena c.index-space.result.now s at c.in-Ok.ensures.place.1.admitted there

pub returns-in-Ok-grown-clause-grown : goal.returns-in-Ok-grown-clause-grown
returns-in-Ok-grown-clause-grown g c =
    let within : c.args.arena < length c.args.self.now = omega (arith, c.if-arena-count.false, c.count.ensures.value) in
    let at = (opens c.args.self.now c.self.inside.spaces.items c.args.arena c.index-space.result.now c.index-space.result.now c.self.view_is within c.index-space.ensures refl).at in
    let first : c.new-opener.result.first ≡ root_number c.args.arena (length c.index-space.result.now.arena.owned) =
    ap (λ (o : PlainOpenerState). o.first) c.new-opener.ensures ∙ c.number_of.ensures ∙ ap (root_number c.args.arena) c.in-Ok.ensures.place.2 in
    grown_by c.args.self.now c.grow-grown.new.self c.args.arena c.args.range c.index-space.result.now c.new-opener.result c.grow-grown.new.opener at c.in-Ok.ensures.place.0 c.in-Ok.ensures.place.1 first c.in-Ok-grown.ensures.grown

pub returns-in-Err-grown-clause-grown : goal.returns-in-Err-grown-clause-grown
returns-in-Err-grown-clause-grown g c =
    let within : c.args.arena < length c.args.self.now = omega (arith, c.if-arena-count.false, c.count.ensures.value) in
    let at = (opens c.args.self.now c.self.inside.spaces.items c.args.arena c.index-space.result.now c.index-space.result.now c.self.view_is within c.index-space.ensures refl).at in
    ((c.index-space.result.now, at, (c.in-Ok.ensures.place.0, c.in-Ok.ensures.place.1)), c.in-Err-grown.ensures.unchanged)
