use Rattle.std.proofs.Common.{◌≡◌, ◌-◌, ◌++◌, sym, ◌∙◌, ap, take, drop, length, arith, [], min}
use Rattle.std.proofs.lemmas.List.{take_all, append-nil, take_min}
use Rattle.lease_proto.specs.declared.limits.TheConstants.{LINE_ROOM}
use Rattle.lease_server.proofs.IntakeLemmas.{hand_open, not_begun}
use Rattle.lease_server.proofs.intakes.Intake.begun.Goals as goal

pub returns-then-self : goal.returns-then-self
returns-then-self c =
    let held = c.self.inside.framing in
    let s = c.self.inside.start in
    let e = c.self.inside.end in
    let piece = take (e - s) (drop s c.self.inside.buffer) in
    let (unended, same, one) = hand_open held piece c.args.self.now.hand (ap (λ v. v.hand) c.self.view_is) c.requires in
    let zero_left : e - s ≡ 0 = omega (arith, c.if-self.true) in
    let none : piece ≡ [] = ap (λ k. take k (drop s c.self.inside.buffer)) zero_left in
    c.line.ensures ∙ sym (take_all LINE_ROOM held.line c.self.invariant.3) ∙ ap (take LINE_ROOM) (sym (ap (λ l. held.line ++ l) none ∙ append-nil held.line))
    ∙ ap (λ h. h.line) (sym same)

pub returns : goal.returns
returns c =
    let held = c.self.inside.framing in
    let s = c.self.inside.start in
    let e = c.self.inside.end in
    let piece = take (e - s) (drop s c.self.inside.buffer) in
    let (unended, same, one) = hand_open held piece c.args.self.now.hand (ap (λ v. v.hand) c.self.view_is) c.requires in
    let empty = not_begun held s e c.self.invariant.4 unended (omega (arith, c.self.invariant.0, c.if-self.false)) in
    let short : c.min.result ≡ min LINE_ROOM (length piece) = omega (arith, c.min.ensures) in
    ap (λ k. take k piece) short ∙ take_min LINE_ROOM piece ∙ ap (λ l. take LINE_ROOM (l ++ piece)) (sym empty) ∙ ap (λ h. h.line) (sym same)
