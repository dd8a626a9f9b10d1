use Rattle.std.proofs.Common.{◌≡◌, ◌-◌, ◌<◌, ◌≤◌, [], take, drop, length, sym, ◌∙◌, ap, refl, arith, true}
use Rattle.std.proofs.lemmas.List.{length-take}
use Rattle.std.proofs.lemmas.Bool.{ltb-true, ltb-false, eq-eqb, ne_eqb}
use Rattle.std.proofs.KnownBytes.{Consumes-nil}
use Rattle.lease_server.specs.Intakes.{hand_in, hand_of}
use Rattle.lease_server.proofs.IntakeLemmas.{stays, behind}
use Rattle.lease_server.proofs.intakes.Intake.read_on.Goals as goal

pub returns-then-self-clause-ok : goal.returns-then-self-clause-ok
returns-then-self-clause-ok g c =
    let piece = take (c.self.inside.end - c.self.inside.start) (drop c.self.inside.start c.self.inside.buffer) in
    let ended : c.args.self.now.ended ≡ true = ap (λ v. v.ended) (sym c.self.view_is) ∙ c.if-self.true in (
      [],
      Consumes-nil _,
      omega arith,
      stays c.self.inside.framing piece c.args.self.now.hand (ap (λ v. v.hand) c.self.view_is) c.requires.whole,
      (λ f. absurd (cc)),
      (λ f. (refl, ended, c.requires.ended ended)),
    )

pub returns-clause-ok : goal.returns-clause-ok
returns-clause-ok g c =
    let n = c.in_ok-n.n in
    let buffer = c.read.new.buf in
    let r = c.go_on-self-inside.result in
    let bound = c.in_ok-n.ensures.bound in
    let size = length-take n buffer in
    let line : c.hold_rest.new.framing.line ≡ c.args.self.now.hand.line = ap (λ h. h.line) c.hold_rest.ensures.held ∙ ap (λ v. v.hand.line) c.self.view_is in
    let within : r ≤ n = omega (arith, c.go_on-self-inside.ensures.within, size) in (
      take n buffer,
      c.in_ok-n.ensures.bytes,
      omega (arith, size),
      ap (hand_of c.go_on-self-inside.new.framing) (behind buffer r n within) ∙ c.go_on-self-inside.ensures.hand ∙ ap (λ l. hand_in l (take n buffer)) line,
      (λ more. let some : 0 < n = ltb-true 0 n more in (
        omega (arith, some, bound, size),
        ap (λ v. v.ended) (sym c.self.view_is) ∙ c.if-self.false,
        ne_eqb n 0 (λ is. omega (arith, is, some)),
        omega (arith, ap (λ v. v.reads) c.self.view_is),
      )),
      (λ none. let zero_read : n ≡ 0 = omega (arith, ltb-false 0 n none) in (
        ap (λ k. take k buffer) zero_read,
        eq-eqb n 0 zero_read,
        c.in_ok-n.ensures.end zero_read (omega arith),
      )),
    )
