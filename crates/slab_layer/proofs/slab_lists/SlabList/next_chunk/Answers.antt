use Rattle.std.proofs.Common.{◌≡◌, ◌<◌, length, All, false, get_or, ◌∙◌, ap, subst}
use Rattle.std.proofs.lemmas.List.Elements.{All-get_or}
use Rattle.slab_layer.specs.Slab.{SlabState}
use Rattle.slab_layer.specs.Bases.{SlabListState}
use Rattle.slab_layer.proofs.SearchLemmas.{all_are_out, same_slab, next_stands, next_has_idle}
use Rattle.slab_layer.proofs.slab_lists.SlabList.next_chunk.Goals as goal

pub returns-in_err-i : goal.returns-in_err-i
returns-in_err-i g c = rw c.from_residual.ensures (all_are_out c.args.self.now.items c.in_err-i.ensures.0 c.in_err-i.ensures.1)

pub returns-in_err-j : goal.returns-in_err-j
returns-in_err-j g c =
    let slabs = c.args.self.now.items in
    let s = c.in_ok-i.ensures.0 in
    let next = c.in_ok-i.ensures.1 in
    let stands = next_stands c.in_ok-i.i s slabs next in
    let is = c.index.ensures ∙ ap (λ (l : SlabListState). get_or l.items c.in_ok-i.i c.index.result.now) c.self.view_is in
    let same : c.index.result.now ≡ s = same_slab c.in_ok-i.i s c.index.result.now slabs stands is in
    let some : 0 < length s.home = subst (λ (t : SlabState). 0 < length t.home) stands.is (All-get_or (λ t. 0 < length t.home) slabs c.in_ok-i.i s stands.within c.requires) in
    absurd (next_has_idle c.in_ok-i.i s slabs next some (subst (λ (t : SlabState). All (λ b. b ≡ false) t.home) same c.in_err-j.ensures))
