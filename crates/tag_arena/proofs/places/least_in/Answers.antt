use Rattle.std.proofs.Common.{min, max, ap, sym, ◌∙◌}
use Rattle.deed_core.specs.Extent.{end_of}
use Rattle.tag_arena.proofs.Grids.{IsLeast-same, serves_at_place, place_where_serves}
use Rattle.tag_arena.proofs.places.least_in.Goals as goal

pub returns : goal.returns
returns c r is =
    let low_is = c.max-low.ensures ∙ ap (λ k. max k c.args.request.now.min) (c.max.ensures ∙ ap (λ k. max c.args.from k) (c.base.ensures.value ∙ sym (ap (λ x. x.base) is))) in
    let high_is = c.min-high.ensures ∙ ap (λ k. min c.args.request.now.max k) (c.end.ensures.value ∙ sym (ap end_of is)) in
    IsLeast-same _ _ _
    (λ base. serves_at_place c.args.quantum c.args.request.now r c.args.from _ _ _ _ _ base low_is high_is c.in_ok-len.ensures.1 (c.grid-align.ensures.on_grid base))
    (λ base. place_where_serves c.args.quantum c.args.request.now r c.args.from _ _ _ _ _ base low_is high_is c.in_ok-len.ensures.1 (c.grid-align.ensures.on_grid base))
    c.least_place.ensures
