use Rattle.std.proofs.Common.{◌≡◌, ◌/◌, sym, ◌∙◌, ap, refl}
use Rattle.deed_core.specs.Extent.{Extent}
use Rattle.deed_core.specs.Holding.{Holding}
use Rattle.slab_layer.proofs.SlabLemmas.{made, made_state, all_idle}
use Rattle.slab_layer.proofs.slabs.Slab.new.Goals as goal

pub invariant_of-result : goal.invariant_of-result
invariant_of-result g c =
    let span : ◌≡◌ {A = Holding} (record { root = c.root-root.result; range = c.range-span.result }) c.args.deed = rw (c.root-root.ensures, c.range-span.ensures.value) refl in
    let len : c.len.result ≡ c.args.deed.range.len = c.len.ensures.value ∙ ap (λ (e : Extent). e.len) c.range-span.ensures.value in
    let count : c.len.result / c.args.chunk ≡ c.args.deed.range.len / c.args.chunk = ap (λ n. n / c.args.chunk) len in
    let parts = made c.args.deed _ _ _ _ _ _ _ _ span c.requires.some (rw count c.requires.chunks) (rw count c.requires.room) c.in-Ok-cut.ensures.ok.0 (sym c.in-Ok-cut.ensures.ok.1 ∙ c.unwrap-2.ensures) c.in-Ok-chop.ensures.row c.in-Ok-chop.ensures.ok in
    record { parts = parts.1; counted = all_idle c.chop.new.row.items _ parts.0 }

pub returns-in-Ok-chop-clause-ok : goal.returns-in-Ok-chop-clause-ok
returns-in-Ok-chop-clause-ok g c =
    let span : ◌≡◌ {A = Holding} (record { root = c.root-root.result; range = c.range-span.result }) c.args.deed = rw (c.root-root.ensures, c.range-span.ensures.value) refl in
    let len : c.len.result ≡ c.args.deed.range.len = c.len.ensures.value ∙ ap (λ (e : Extent). e.len) c.range-span.ensures.value in
    let count : c.len.result / c.args.chunk ≡ c.args.deed.range.len / c.args.chunk = ap (λ n. n / c.args.chunk) len in
    let home = (made c.args.deed _ _ _ _ _ _ _ _ span c.requires.some (rw count c.requires.chunks) (rw count c.requires.room) c.in-Ok-cut.ensures.ok.0 (sym c.in-Ok-cut.ensures.ok.1 ∙ c.unwrap-2.ensures) c.in-Ok-chop.ensures.row c.in-Ok-chop.ensures.ok).0 in
    made_state _ _ _ _ _ _ span count home
