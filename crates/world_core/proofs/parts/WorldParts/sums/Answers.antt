use Rattle.std.proofs.Common.{◌≡◌, length, ap, arith}
use Rattle.stock.proofs.LawProofs.{told_more, tell_each}
use Rattle.stock_audit.specs.Audits.{TellsSums}
use Rattle.stock_audit.specs.Outside.{out_of}
use Rattle.world_core.specs.WorldState.{WorldState, outside_of}
use Rattle.world_core.proofs.parts.WorldParts.sums.Goals as goal

pub loop-arena-preserved : goal.loop-arena-preserved
loop-arena-preserved g c =
    let w = c.args.self.now in
    told_more (λ k r. TellsSums w.stock k (out_of (outside_of w)) r) c.loop-arena.arena c.loop-arena.room c.tell.new.self c.audit.result c.tell.ensures c.loop-arena.invariant c.audit.ensures

pub returns-clause-told : goal.returns-clause-told
returns-clause-told g c =
    let w = c.args.self.now in
    let all : c.loop-arena.arena ≡ c.len-count.result = (let end = c.loop-arena.auto.arena-end in omega (arith, end, c.loop-arena-test.false)) in
    let named : c.len-count.result ≡ length w.stock = omega (arith, c.len-count.ensures, ap (λ (x : WorldState). length x.names) c.self.view_is, c.requires.world.named) in
    tell_each w.stock (out_of (outside_of w)) c.len-count.result c.loop-arena.room c.first.result.now (λ k r lt at. c.loop-arena.invariant k r (omega (arith, lt, all)) at) c.first.ensures.value c.first.ensures.all named
