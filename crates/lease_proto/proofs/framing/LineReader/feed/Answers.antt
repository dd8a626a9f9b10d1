use Rattle.std.proofs.Common.{◌≡◌, arith, refl, ◌∙◌, ap, ◌++◌, take, length}
use Rattle.std.proofs.lemmas.List.{take_all}
use Rattle.lease_proto.specs.declared.limits.TheConstants.{LINE_ROOM}
use Rattle.lease_proto.proofs.ByteLemmas.{is_there, none_below}
use Rattle.lease_proto.proofs.FrameLemmas.{ends_line, goes_on, up_to, one_line, one_line_before}
use Rattle.lease_proto.proofs.framing.LineReader.feed.Goals as goal

pub returns-in-Some-clause-whole : goal.returns-in-Some-clause-whole
returns-in-Some-clause-whole c =
    let piece = c.args.piece.now in
    let i = c.in-Some.i in
    let line : c.self.inside.front.items ≡ c.args.self.now.line = ap (λ h. h.line) c.self.view_is in
    let ends = ends_line c.args.self.now.line c.hold.new.front.items piece i c.in-Some.ensures.0.high (is_there 10 piece i c.in-Some.ensures.1)
    (none_below 10 piece i c.in-Some.ensures.0.before) (c.hold.ensures ∙ ap (λ l. take LINE_ROOM (l ++ take i piece)) line) in
    λ _. (omega arith, ends.0, ends.1)

pub returns-in-None-clause-part : goal.returns-in-None-clause-part
returns-in-None-clause-part c =
    let piece = c.args.piece.now in
    let line : c.self.inside.front.items ≡ c.args.self.now.line = ap (λ h. h.line) c.self.view_is in
    let on = goes_on c.args.self.now.line c.hold-in-None.new.front.items piece (none_below 10 piece (length piece) c.in-None.ensures)
    (c.hold-in-None.ensures ∙ ap (λ l. take LINE_ROOM (l ++ piece)) line) in
    λ _. (refl, on.0, on.1)

pub returns-in-Some-clause-text : goal.returns-in-Some-clause-text
returns-in-Some-clause-text c =
    let piece = c.args.piece.now in
    let i = c.in-Some.i in
    let line : c.self.inside.front.items ≡ c.args.self.now.line = ap (λ h. h.line) c.self.view_is in
    let there = is_there 10 piece i c.in-Some.ensures.1 in
    let none = none_below 10 piece i c.in-Some.ensures.0.before in (
      take i piece,
      one_line_before piece i c.in-Some.ensures.0.high none,
      up_to piece i c.in-Some.ensures.0.high there,
      c.hold.ensures ∙ ap (λ l. take LINE_ROOM (l ++ take i piece)) line,
    )

pub returns-in-None-clause-text : goal.returns-in-None-clause-text
returns-in-None-clause-text c =
    let piece = c.args.piece.now in
    let line : c.self.inside.front.items ≡ c.args.self.now.line = ap (λ h. h.line) c.self.view_is in (
      piece,
      one_line piece (none_below 10 piece (length piece) c.in-None.ensures),
      take_all (length piece) piece (omega arith),
      c.hold-in-None.ensures ∙ ap (λ l. take LINE_ROOM (l ++ piece)) line,
    )
