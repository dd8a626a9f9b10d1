use Rattle.std.proofs.Common.{ap, sym, ◌∙◌, length, remove, get_or, arith}
use Rattle.sorted_rows.specs.Layout.{place_in}
use Rattle.sorted_rows.proofs.StruckLemmas.{found_spot, no_more, one_less}
use Rattle.sorted_rows.proofs.rows.Rows.remove.Goals as goal

pub entry_at-entry-requires : goal.entry_at-entry-requires
entry_at-entry-requires g c =
    let same = c.clear.ensures.items ∙ ap (λ v. v.items) c.self.view_is in
    let near = c.spot_near-spot.ensures in
    let found = found_spot g.T.RowEntry.rank c.args.key c.clear.new.rows.items c.spot_near-spot.result c.args.self.now.items c.clear.ensures.laid same near.within near.seat near.place c.requires.present in
    found.0

pub returns-clause-items : goal.returns-clause-items
returns-clause-items g c =
    let same = c.clear.ensures.items ∙ ap (λ v. v.items) c.self.view_is in
    let near = c.spot_near-spot.ensures in
    let found = found_spot g.T.RowEntry.rank c.args.key c.clear.new.rows.items c.spot_near-spot.result c.args.self.now.items c.clear.ensures.laid same near.within near.seat near.place c.requires.present in
    ap (λ xs. remove xs (place_in c.clear.new.rows.items c.spot_near-spot.result.seat c.spot_near-spot.result.place)) same ∙ ap (remove c.args.self.now.items) (sym found.1)

pub returns-clause-size : goal.returns-clause-size
returns-clause-size g c =
    let same = c.clear.ensures.items ∙ ap (λ v. v.items) c.self.view_is in
    let near = c.spot_near-spot.ensures in
    let found = found_spot g.T.RowEntry.rank c.args.key c.clear.new.rows.items c.spot_near-spot.result c.args.self.now.items c.clear.ensures.laid same near.within near.seat near.place c.requires.present in
    one_less c.clear.new.rows.items c.spot_near-spot.result found.0 ∙ ap length same

pub returns-clause-value : goal.returns-clause-value
returns-clause-value g c = λ d.
    let same = c.clear.ensures.items ∙ ap (λ v. v.items) c.self.view_is in
    let near = c.spot_near-spot.ensures in
    let found = found_spot g.T.RowEntry.rank c.args.key c.clear.new.rows.items c.spot_near-spot.result c.args.self.now.items c.clear.ensures.laid same near.within near.seat near.place c.requires.present in
    let at = c.entry_at-entry.ensures d in
    ap (λ k. get_or c.args.self.now.items k d) found.1 ∙ (ap (λ xs. get_or xs (place_in c.clear.new.rows.items c.spot_near-spot.result.seat c.spot_near-spot.result.place) d) (sym same) ∙ sym at)

pub invariant_of-self : goal.invariant_of-self
invariant_of-self g c =
    let same = c.clear.ensures.items ∙ ap (λ v. v.items) c.self.view_is in
    let near = c.spot_near-spot.ensures in
    let found = found_spot g.T.RowEntry.rank c.args.key c.clear.new.rows.items c.spot_near-spot.result c.args.self.now.items c.clear.ensures.laid same near.within near.seat near.place c.requires.present in
    let t = c.clear.ensures in
    let s = c.self.invariant in
    let size = ap length t.items in
    let less = one_less c.clear.new.rows.items c.spot_near-spot.result found.0 in
    let most = no_more c.self.inside.rows.items c.self.inside.struck s.spot in
    record {
      laid = t.laid;
      short = t.short;
      spot = found.0;
      counted = omega (arith, s.counted, size, less);
      within = omega (arith, s.within, size, most);
      empty = t.spare;
      enough = omega (arith, s.enough, t.len);
      rows_hold = omega (arith, s.rows_hold, t.len, t.capacity);
      spare_holds = omega (arith, s.spare_holds, t.len, t.spare_capacity);
    }
