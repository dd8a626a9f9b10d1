use Rattle.std.proofs.Common.{◌≡◌, ◌-◌, [], take, drop, ap, arith}
use Rattle.lease_server.proofs.IntakeLemmas.{held_all, held_none, short_front}
use Rattle.lease_server.proofs.intakes.hold_rest.Goals as goal

pub returns-then-start-end-clause-held : goal.returns-then-start-end-clause-held
returns-then-start-end-clause-held c =
    held_all c.args.framing.now c.feed.new.self (take (c.args.end - c.args.start) (drop c.args.start c.args.buffer.now)) c.feed.result
    c.requires.unended (λ part. (c.feed.ensures.part part).0) c.feed.ensures.text

pub returns-then-start-end-clause-short : goal.returns-then-start-end-clause-short
returns-then-start-end-clause-short c = short_front _ _ c.feed.ensures.text.3

pub returns-else-start-end-clause-held : goal.returns-else-start-end-clause-held
returns-else-start-end-clause-held c =
    let none : c.args.end - c.args.start ≡ 0 = omega (arith, c.if-start-end.false) in
    held_none c.args.framing.now (take (c.args.end - c.args.start) (drop c.args.start c.args.buffer.now))
    (ap (λ k. take k (drop c.args.start c.args.buffer.now)) none) c.requires.unended c.requires.short
