use Rattle.std.proofs.Common.{◌≡◌, ◌<◌, ◌+◌, length, map, is_some, Some, arith, false, true, get_or, refl, sym, ◌∙◌, ap, subst}
use Rattle.std.proofs.lemmas.List.{length-map}
use Rattle.slab_layer.specs.Slab.{SlabState, chunk_at}
use Rattle.slab_layer.proofs.SlabLemmas.{changed, changed_state, room_to_count, one_more}
use Rattle.slab_layer.proofs.slabs.Slab.put.Goals as goal

pub overflow_add-self : goal.overflow_add-self
overflow_add-self g c =
    let within = subst (λ (s : SlabState). c.args.j < length s.home) (sym c.self.view_is) c.requires.within in
    let out = subst (λ (s : SlabState). get_or s.home c.args.j false ≡ false) (sym c.self.view_is) c.requires.is_out in
    let more = room_to_count (map is_some c.self.inside.home.items) c.args.j within out in
    omega (arith, more, c.self.invariant.counted, length-map c.self.inside.home.items is_some, c.len.type_inv, c.len.ensures)

pub invariant_of-self : goal.invariant_of-self
invariant_of-self g c =
    let within = subst (λ (s : SlabState). c.args.j < length s.home) (sym c.self.view_is) c.requires.within in
    let out = subst (λ (s : SlabState). get_or s.home c.args.j false ≡ false) (sym c.self.view_is) c.requires.is_out in
    let chunk = c.requires.chunk ∙ ap (λ (s : SlabState). chunk_at s c.args.j) (sym c.self.view_is) in
    let is = c.replace.ensures.after ∙ ap Some chunk in
    record {
      parts = changed _ _ _ _ _ _ c.args.j true c.replace.new.dest c.self.invariant.parts is;
      counted = one_more c.self.inside.home.items c.args.j c.replace.new.dest c.self.inside.idle_count (c.self.inside.idle_count + 1) is within out c.self.invariant.counted refl;
    }

pub returns : goal.returns
returns g c =
    let chunk = c.requires.chunk ∙ ap (λ (s : SlabState). chunk_at s c.args.j) (sym c.self.view_is) in
    changed_state _ _ _ _ _ c.args.j true c.replace.new.dest c.self.view_is (c.replace.ensures.after ∙ ap Some chunk)
