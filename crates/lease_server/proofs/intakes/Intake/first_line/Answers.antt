use Rattle.std.proofs.Common.{◌≡◌, ◌-◌, sym, ◌∙◌, ap, take, drop, length, arith, false}
use Rattle.std.proofs.lemmas.List.{length-take}
use Rattle.lease_proto.proofs.LawProofs.{is_there, none_below}
use Rattle.lease_server.proofs.IntakeLemmas.{hand_found, hand_unfound, not_begun, kept}
use Rattle.lease_server.proofs.intakes.Intake.first_line.Goals as goal

pub returns-in-Some-clause-some : goal.returns-in-Some-clause-some
returns-in-Some-clause-some c =
    let held = c.self.inside.framing in
    let s = c.self.inside.start in
    let e = c.self.inside.end in
    let piece = take (e - s) (drop s c.self.inside.buffer) in
    let i = c.in-Some.end in
    let unended : held.whole ≡ false = sym c.is_whole.ensures ∙ c.if-is_whole.false in
    let below = c.in-Some.ensures.0.high in
    let empty = not_begun held s e c.self.invariant.4 unended (omega (arith, below, length-take (e - s) (drop s c.self.inside.buffer))) in
    let found = hand_found held piece c.args.self.now.hand i (ap (λ v. v.hand) c.self.view_is) unended empty below
    (is_there 10 piece i c.in-Some.ensures.1) (none_below 10 piece i c.in-Some.ensures.0.before) in
    (ap (λ h. h.whole) found, kept c.min.result i piece c.min.ensures (omega (arith, below)) ∙ ap (λ h. h.line) (sym found))

pub returns-in-None-clause-none : goal.returns-in-None-clause-none
returns-in-None-clause-none c =
    let held = c.self.inside.framing in
    let piece = take (c.self.inside.end - c.self.inside.start) (drop c.self.inside.start c.self.inside.buffer) in
    let unended : held.whole ≡ false = sym c.is_whole.ensures ∙ c.if-is_whole.false in
    ap (λ h. h.whole) (hand_unfound held piece c.args.self.now.hand (ap (λ v. v.hand) c.self.view_is) unended
    (none_below 10 piece (length piece) c.in-None.ensures))
