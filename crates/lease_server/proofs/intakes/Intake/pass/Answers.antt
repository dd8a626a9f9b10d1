use Rattle.std.proofs.Common.{◌≡◌, ◌<◌, ◌-◌, ◌+◌, sym, ◌∙◌, ap, take, drop, length, arith, true, false, []}
use Rattle.std.proofs.lemmas.List.{length-take}
use Rattle.lease_proto.proofs.LawProofs.{is_there, none_below}
use Rattle.lease_server.specs.Intakes.{hand_in, hand_of}
use Rattle.lease_server.proofs.IntakeLemmas.{hand_found, hand_unfound, not_begun, passed}
use Rattle.lease_server.proofs.intakes.Intake.pass.Goals as goal

pub returns-in-Some : goal.returns-in-Some
returns-in-Some c =
    let held = c.self.inside.framing in
    let s = c.self.inside.start in
    let e = c.self.inside.end in
    let buffer = c.self.inside.buffer in
    let piece = take (e - s) (drop s buffer) in
    let i = c.in-Some.end in
    let unended : held.whole ≡ false = sym c.is_whole.ensures ∙ c.if-is_whole.false in
    let below = c.in-Some.ensures.0.high in
    let inside : i < e - s = omega (arith, below, length-take (e - s) (drop s buffer)) in
    let empty = not_begun held s e c.self.invariant.4 unended (omega (arith, inside)) in
    let found = hand_found held piece c.args.self.now.hand i (ap (λ v. v.hand) c.self.view_is) unended empty below
    (is_there 10 piece i c.in-Some.ensures.1) (none_below 10 piece i c.in-Some.ensures.0.before) in
    let next : hand_of held (take (e - (s + (i + 1))) (drop (s + (i + 1)) buffer)) ≡ hand_in [] c.args.self.now.hand.rest =
    ap (hand_of held) (passed buffer s e i inside) ∙ rw unended (ap (λ l. hand_in l (drop (i + 1) piece)) empty)
    ∙ ap (hand_in []) (ap (λ h. h.rest) (sym found)) in
    ap (λ h. record { hand = h; reads = c.self.inside.reads; ended = c.self.inside.ended }) next
    ∙ ap (λ v. record { hand = hand_in [] c.args.self.now.hand.rest; reads = v.reads; ended = v.ended }) c.self.view_is

pub returns-in_default : goal.returns-in_default
returns-in_default c =
    let held = c.self.inside.framing in
    let piece = take (c.self.inside.end - c.self.inside.start) (drop c.self.inside.start c.self.inside.buffer) in
    let unended : held.whole ≡ false = sym c.is_whole.ensures ∙ c.if-is_whole.false in
    let none : c.args.self.now.hand.whole ≡ false = ap (λ h. h.whole) (hand_unfound held piece c.args.self.now.hand (ap (λ v. v.hand) c.self.view_is) unended
    (none_below 10 piece (length piece) c.in_default.ensures)) in
    let bad : true ≡ false = sym c.requires ∙ none in absurd (cc)
