use Rattle.std.proofs.Common.{◌≡◌, ◌<◌, length, Some, sym, subst, rules}
use Rattle.std.specs.Prelude.{slice_get}
use Rattle.std.proofs.lemmas.Bool.{false≢true}
use Rattle.deed_core.specs.Extent.{Extent}
use Rattle.deed_core.specs.Request.{Fits}
use Rattle.deed_core.specs.declared.requests.Request.{Request}
use Rattle.stock.specs.Steps.{HasQuantum}
use Rattle.lease_proto.specs.declared.lines.Op.TheVariants as ops
use Rattle.world_core.specs.Moves.{HasTask}
use Rattle.world_core.proofs.BookLemmas.{not_grantable}
use Rattle.world_core.proofs.parts.WorldParts.grantable.Goals as goal

pub returns-then-not-fits-clause-none : goal.returns-then-not-fits-clause-none
returns-then-not-fits-clause-none g c =
    let t = c.in_ok-segment.segment.now in
    let q = c.quantum-quantum.result in
    let serves : HasTask c.args.self.now c.args.cpu c.in_ok-id.id (ops.Lease c.in_ok-id.lease) = search rules in
    let holds : slice_get c.args.self.now.hands c.args.cpu ≡ Some (Some t) = search rules in
    let within : t.arena < length c.args.self.now.names = search rules in
    let grid : HasQuantum c.args.self.now.stock t.arena q = search rules in
    not_grantable c.args.self.now c.args.cpu c.in_ok-id.id c.in_ok-id.lease t q c.requires.world serves holds within grid
    (λ fits. (let there : Fits q c.demand.result t.holding.range.base t.holding.range.len = subst (λ (r : Request). Fits q r t.holding.range.base t.holding.range.len) (sym c.demand.ensures) fits in
    let here : Fits q c.demand.result c.range.result.base c.range.result.len = subst (λ (e : Extent). Fits q c.demand.result e.base e.len) (sym c.range.ensures.value) there in
    absurd (false≢true (c.if-not-fits.ensures.1 here))))
