use Rattle.std.proofs.Common.{◌≡◌, [], ◌∷◌, ◌++◌, sym, ◌∙◌}
use Rattle.slab_layer.specs.Parts.{joined_row, AreEndToEnd}
use Rattle.slab_layer.proofs.PartLemmas.{joined_row-push, row-push}
use Rattle.slab_layer.proofs.rows.unchop.Goals as goal

pub join-rest-requires : goal.join-rest-requires
join-rest-requires g c =
    let row : AreEndToEnd (c.pop.new.self.items ++ c.in-Some.last ∷ []) c.loop-last.rest = rw (← c.in-Some.ensures.items) c.loop-last.invariant.row in
    (row-push c.pop.new.self.items c.in-Some.last c.loop-last.rest row).0

pub loop-last-preserved : goal.loop-last-preserved
loop-last-preserved g c =
    let row : AreEndToEnd (c.pop.new.self.items ++ c.in-Some.last ∷ []) c.loop-last.rest = rw (← c.in-Some.ensures.items) c.loop-last.invariant.row in
    let whole : joined_row (c.pop.new.self.items ++ c.in-Some.last ∷ []) c.loop-last.rest ≡ joined_row c.args.row.now.items c.args.rest = rw (← c.in-Some.ensures.items) c.loop-last.invariant.whole in
    record {
      row = rw c.join-rest.ensures (row-push c.pop.new.self.items c.in-Some.last c.loop-last.rest row).1;
      whole = rw c.join-rest.ensures (sym (joined_row-push c.pop.new.self.items c.in-Some.last c.loop-last.rest) ∙ whole);
    }
