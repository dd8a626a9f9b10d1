use Rattle.std.proofs.Common.{◌≡◌, ◌+◌, ◌-◌, ◌*◌, ◌<◌, ◌≤◌, Some, arith, sym, ◌∙◌, ap}
use Rattle.deed_core.specs.Extent.{Extent}
use Rattle.slab_layer.specs.Parts.{piece_or_none, front_of, back_of, joined_row}
use Rattle.slab_layer.proofs.PartLemmas.{part_some, front_part, back_part}
use Rattle.slab_layer.proofs.RowLemmas.{placed, room_for, row_whole, all_whole, next_stored}
use Rattle.slab_layer.proofs.rows.chop.Goals as goal

pub unchop-requires : goal.unchop-requires
unchop-requires g c =
    let inv = c.loop-done.invariant in
    let room = room_for c.loop-done.done c.args.count c.args.chunk c.args.whole.range.len c.loop-done-test.true c.requires.room in
    rw (c.in-Err.ensures.handed_back, inv.row, inv.rest) (row_whole c.args.whole c.args.chunk c.loop-done.done c.requires.some)

pub returns-in-Err-clause-handed_back : goal.returns-in-Err-clause-handed_back
returns-in-Err-clause-handed_back g c =
    let inv = c.loop-done.invariant in
    let room = room_for c.loop-done.done c.args.count c.args.chunk c.args.whole.range.len c.loop-done-test.true c.requires.room in
    let long : c.range.result.len ≡ c.args.whole.range.len = ap (λ (e : Extent). e.len) c.range.ensures.value in
    let more : 0 < c.args.whole.range.len = omega (arith, c.range.ensures.range.some) in
    let whole : joined_row c.loop-done.row.items c.in-Err.same ≡ Some c.args.whole = rw (c.in-Err.ensures.handed_back, inv.row, inv.rest) (all_whole c.args.whole c.args.chunk c.loop-done.done c.requires.some (omega arith) more) in
    let e : Some c.unwrap.result ≡ Some c.args.whole = sym c.unwrap.ensures ∙ c.unchop.ensures.joined ∙ whole in
    cc

pub loop-done-preserved : goal.loop-done-preserved
loop-done-preserved g c =
    let inv = c.loop-done.invariant in
    let r = c.args.whole.root in
    let b = c.args.whole.range.base in
    let len = c.args.whole.range.len in
    let n = c.args.chunk in
    let d = c.loop-done.done in
    let room : d * n + n ≤ len = room_for d c.args.count n len c.loop-done-test.true c.requires.room in
    let low : c.in-Ok.low ≡ Some (placed r b n d) = c.in-Ok.ensures.ok.0 ∙ ap (front_of n) inv.rest ∙ front_part n r (b + d * n) (len - d * n) (omega arith) ∙ part_some r (b + d * n) n c.requires.some in
    let high : c.in-Ok.high ≡ piece_or_none r (b + d * n + n) (len - d * n - n) = c.in-Ok.ensures.ok.1 ∙ ap (back_of n) inv.rest ∙ back_part n r (b + d * n) (len - d * n) (omega arith) in
    let at : b + d * n + n ≡ b + (d + 1) * n = omega arith in
    let left : len - d * n - n ≡ len - (d + 1) * n = omega arith in
    record {
      row = c.push_reserved.ensures.items ∙ rw (inv.row, low) (sym (next_stored (placed r b n) d));
      rest = rw (← at, ← left) high;
      len = omega (arith, c.push_reserved.ensures.len, inv.len);
      capacity = c.push_reserved.ensures.capacity ∙ inv.capacity;
    }
