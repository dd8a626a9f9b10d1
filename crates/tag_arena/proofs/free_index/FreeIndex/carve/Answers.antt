use Rattle.std.proofs.Common.{◌+◌, All, ap, ◌∙◌, subst, arith}
use Rattle.deed_core.specs.Extent.{IsRange}
use Rattle.tag_arena.specs.Neighbors.{Without}
use Rattle.tag_arena.proofs.Cutting.{clear_low, clear_high, room_for_low, room_for_high, carved_out}
use Rattle.tag_arena.proofs.free_index.FreeIndex.carve.Goals as goal

pub insert_rest-low-requires-clause-clear : goal.insert_rest-low-requires-clause-clear
insert_rest-low-requires-clause-clear g c =
    let o = c.in_ok-low.ensures in
    let same = c.go_to.ensures.unchanged in
    let ranges = subst (λ v. All (λ r. IsRange r.range) v.ranges) same c.len.ensures.ranges in
    let out = subst (λ v. Without v.ranges c.args.found.range c.cut.new.self.ranges) same o.ranges in
    clear_low c.args.self.now.ranges c.cut.new.self.ranges c.args.found.range ranges c.requires.apart out _ _ _ c.args.found.base (c.args.found.base + c.args.len) o.cut c.requires.from (omega (arith, c.requires.some)) c.requires.to

pub insert_rest-low-requires-clause-room : goal.insert_rest-low-requires-clause-room
insert_rest-low-requires-clause-room g c =
    let o = c.in_ok-low.ensures in
    let same = c.go_to.ensures.unchanged in
    let ranges = subst (λ v. All (λ r. IsRange r.range) v.ranges) same c.len.ensures.ranges in
    let out = subst (λ v. Without v.ranges c.args.found.range c.cut.new.self.ranges) same o.ranges in
    let room = ap (λ v. v.room) c.cut.ensures.rest ∙ ap (λ v. v.room) same in
    omega (arith, room, room_for_low c.args.self.now.ranges c.cut.new.self.ranges c.args.found.range ranges c.requires.apart out _ _ _ c.args.found.base (c.args.found.base + c.args.len) o.cut c.requires.from (omega (arith, c.requires.some)) c.requires.to c.args.self.now.room c.requires.room)

pub insert_rest-high-requires-clause-clear : goal.insert_rest-high-requires-clause-clear
insert_rest-high-requires-clause-clear g c =
    let o = c.in_ok-low.ensures in
    let same = c.go_to.ensures.unchanged in
    let ranges = subst (λ v. All (λ r. IsRange r.range) v.ranges) same c.len.ensures.ranges in
    let out = subst (λ v. Without v.ranges c.args.found.range c.cut.new.self.ranges) same o.ranges in
    clear_high c.args.self.now.ranges c.cut.new.self.ranges c.args.found.range ranges c.requires.apart out _ _ _ c.args.found.base (c.args.found.base + c.args.len) o.cut c.requires.from (omega (arith, c.requires.some)) c.requires.to
    c.insert_rest-low.new.self.ranges c.insert_rest-low.ensures.ranges

pub insert_rest-high-requires-clause-room : goal.insert_rest-high-requires-clause-room
insert_rest-high-requires-clause-room g c =
    let o = c.in_ok-low.ensures in
    let same = c.go_to.ensures.unchanged in
    let ranges = subst (λ v. All (λ r. IsRange r.range) v.ranges) same c.len.ensures.ranges in
    let out = subst (λ v. Without v.ranges c.args.found.range c.cut.new.self.ranges) same o.ranges in
    let room = ap (λ v. v.room) c.cut.ensures.rest ∙ ap (λ v. v.room) same in
    omega (
      arith,
      room,
      c.insert_rest-low.ensures.room,
      room_for_high c.args.self.now.ranges c.cut.new.self.ranges c.args.found.range ranges c.requires.apart out _ _ _ c.args.found.base (c.args.found.base + c.args.len) o.cut c.requires.from (omega (arith, c.requires.some)) c.requires.to c.args.self.now.room
          c.insert_rest-low.new.self.ranges c.insert_rest-low.ensures.ranges c.requires.room,
    )

pub returns-clause-carved : goal.returns-clause-carved
returns-clause-carved g c =
    let o = c.in_ok-low.ensures in
    let same = c.go_to.ensures.unchanged in
    let ranges = subst (λ v. All (λ r. IsRange r.range) v.ranges) same c.len.ensures.ranges in
    let out = subst (λ v. Without v.ranges c.args.found.range c.cut.new.self.ranges) same o.ranges in
    carved_out c.args.self.now.ranges c.cut.new.self.ranges c.args.found.range ranges c.requires.apart out _ _ _ c.args.found.base (c.args.found.base + c.args.len) o.cut c.requires.from (omega (arith, c.requires.some)) c.requires.to
    c.insert_rest-low.new.self.ranges c.insert_rest-high.new.self.ranges c.insert_rest-low.ensures.ranges c.insert_rest-high.ensures.ranges
