use Rattle.std.proofs.Common.{◌≡◌, ◌<◌, ◌-◌, length, false, true, get_or, refl, sym, ◌∙◌, ap, subst}
use Rattle.slab_layer.specs.Slab.{SlabState, chunk_at}
use Rattle.slab_layer.proofs.SlabLemmas.{changed, changed_state, at_home, some_idle, one_less}
use Rattle.slab_layer.proofs.slabs.Slab.take.Goals as goal

pub overflow_sub-self : goal.overflow_sub-self
overflow_sub-self g c =
    let within = subst (λ (s : SlabState). c.args.j < length s.home) (sym c.self.view_is) c.requires.within in
    let idle = subst (λ (s : SlabState). get_or s.home c.args.j false ≡ true) (sym c.self.view_is) c.requires.idle in
    rw c.self.invariant.counted (some_idle _ c.args.j within idle)

pub invariant_of-self : goal.invariant_of-self
invariant_of-self g c =
    let within = subst (λ (s : SlabState). c.args.j < length s.home) (sym c.self.view_is) c.requires.within in
    let idle = subst (λ (s : SlabState). get_or s.home c.args.j false ≡ true) (sym c.self.view_is) c.requires.idle in
    let is = c.replace.ensures.after in
    record {
      parts = changed _ _ _ _ _ _ c.args.j false c.replace.new.dest c.self.invariant.parts is;
      counted = one_less c.self.inside.home.items c.args.j c.replace.new.dest c.self.inside.idle_count (c.self.inside.idle_count - 1) is within idle c.self.invariant.counted refl;
    }

pub returns-clause-chunk : goal.returns-clause-chunk
returns-clause-chunk g c =
    let within = subst (λ (s : SlabState). c.args.j < length s.home) (sym c.self.view_is) c.requires.within in
    let idle = subst (λ (s : SlabState). get_or s.home c.args.j false ≡ true) (sym c.self.view_is) c.requires.idle in
    let chunk = sym c.unwrap.ensures ∙ c.replace.ensures.value ∙ c.index_mut.ensures.value ∙ at_home _ _ _ _ c.args.j c.index_mut.result.now c.self.invariant.parts within idle in
    let same = ap (λ (s : SlabState). chunk_at s c.args.j) c.self.view_is in
    cc

pub returns-clause-after : goal.returns-clause-after
returns-clause-after g c = changed_state _ _ _ _ _ c.args.j false c.replace.new.dest c.self.view_is c.replace.ensures.after
