use Rattle.std.proofs.Common.{◌≡◌, ◌+◌, ◌≤◌, Bool, true, false, IsTrue, ◌↔◌, arith}
use Rattle.tag_arena.proofs.Blocks.{room_inside, no_room_across, past_block, never_inside}
use Rattle.plain_arena.proofs.places.least_place.Goals as goal
use Rattle.plain_arena.proofs.places.least_place.Goals.{else-second-high-via-then-second-high+else-stays_inside-2, else-second-high-via-else-second-high}

when_true : (b : Bool) (P : Type 0) → IsTrue b ↔ P → b ≡ true → P
when_true b P says e = says.0 e

when_false : (b : Bool) (P : Type 0) → IsTrue b ↔ P → b ≡ false → P → ⊥
when_false b P says e p = let yes : b ≡ true = says.1 p in cc

pub returns-then-stays_inside-2 : goal.returns-then-stays_inside-2
returns-then-stays_inside-2 c =
    let room = c.requires.room c.if-nocross-eq0.false in
    let across = no_room_across _ _ _ c.requires.some room (when_false _ _ c.stays_inside.ensures c.if-stays_inside.false) in (
      record {
        from_low = omega arith;
        to_high = omega arith;
        on_phase = c.least_aligned-second.ensures.aligned;
        inside = λ _. when_true _ _ c.stays_inside-then-second-high.ensures c.if-stays_inside-2.true;
      },
      λ n place.
          let first = c.least_aligned-first.ensures.least n place.from_low place.on_phase in
          let inside = room_inside _ _ _ c.requires.some room (place.inside c.if-nocross-eq0.false) in
          c.least_aligned-second.ensures.least n (past_block _ _ _ _ first across inside) place.on_phase,
    )

pub returns-else-second-high : goal.returns-else-second-high
returns-else-second-high c = λ n place.
    let room = c.requires.room c.if-nocross-eq0.false in
    let across = no_room_across _ _ _ c.requires.some room (when_false _ _ c.stays_inside.ensures c.if-stays_inside.false) in
    let first = c.least_aligned-first.ensures.least n place.from_low place.on_phase in
    let inside = room_inside _ _ _ c.requires.some room (place.inside c.if-nocross-eq0.false) in
    let later = past_block _ _ _ _ first across inside in
    let second : c.least_aligned-second.result ≤ n = c.least_aligned-second.ensures.least n later place.on_phase in
    elim c.else-second-high.branch [
      | else-second-high-via-then-second-high+else-stays_inside-2 w ↦
          let again = no_room_across _ _ _ c.requires.some room (when_false _ _ w.stays_inside-then-second-high.ensures w.if-stays_inside-2.false) in
          never_inside c.least_aligned-first.result c.least_aligned-second.result n c.args.align c.args.phase c.args.nocross c.args.len
          (omega (arith, c.requires.some, room)) c.requires.phase c.least_aligned-second.ensures.from_low c.least_aligned-second.ensures.least
          c.least_aligned-second.ensures.aligned place.on_phase (c.requires.nest c.if-nocross-eq0.false) again inside
      | else-second-high-via-else-second-high w ↦ let to_high : n + c.args.len ≤ c.args.high = place.to_high in omega (arith, w.if-second-high.false)
    ]
