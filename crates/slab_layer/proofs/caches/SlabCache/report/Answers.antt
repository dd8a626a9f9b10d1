use Rattle.std.proofs.Common.{◌≡◌, ◌∙◌, sym, arith, subst}
use Rattle.std.specs.Option.{option_to_list}
use Rattle.deed_core.specs.Covering.{units_held}
use Rattle.deed_core.specs.Holding.{Holding}
use Rattle.deed_core.proofs.LawProofs.{sum_by-flat_map}
use Rattle.slab_layer.specs.Slab.{SlabState, idle_chunks_by, chunk_at, gap_of, tail_of}
use Rattle.slab_layer.specs.Cache.{SlabCacheState, IsSoundCache, idle_deeds, gaps, tails}
use Rattle.slab_layer.proofs.ReportLemmas.{kept_units, tiled, once}
use Rattle.slab_layer.proofs.caches.SlabCache.report.Goals as goal

pub returns-clause-idle : goal.returns-clause-idle
returns-clause-idle g c =
    let all = c.report.ensures.idle ∙ sym (sum_by-flat_map (λ (h : Holding). h.range.len) (λ (s : SlabState). idle_chunks_by (chunk_at s) s) c.self.inside.slabs.items) in
    subst (λ (x : SlabCacheState). c.report.result.idle ≡ units_held (idle_deeds x)) c.self.view_is all

pub returns-clause-gap : goal.returns-clause-gap
returns-clause-gap g c =
    let all = c.report.ensures.gap ∙ sym (sum_by-flat_map (λ (h : Holding). h.range.len) (λ (s : SlabState). option_to_list (gap_of s)) c.self.inside.slabs.items) in
    subst (λ (x : SlabCacheState). c.report.result.gap ≡ units_held (gaps x)) c.self.view_is all

pub returns-clause-tail : goal.returns-clause-tail
returns-clause-tail g c =
    let all = c.report.ensures.tail ∙ sym (sum_by-flat_map (λ (h : Holding). h.range.len) (λ (s : SlabState). option_to_list (tail_of s)) c.self.inside.slabs.items) in
    subst (λ (x : SlabCacheState). c.report.result.tail ≡ units_held (tails x)) c.self.view_is all

pub returns-clause-deeds : goal.returns-clause-deeds
returns-clause-deeds g c =
    let idle = returns-clause-idle g c in
    let gap = returns-clause-gap g c in
    let tail = returns-clause-tail g c in
    omega (arith, idle, gap, tail, kept_units c.args.self.now)

pub returns-clause-tiled : goal.returns-clause-tiled
returns-clause-tiled g c = tiled c.args.self.now (subst (λ (x : SlabCacheState). IsSoundCache x) c.self.view_is c.self.invariant)

pub returns-clause-once : goal.returns-clause-once
returns-clause-once g c = once c.args.self.now (subst (λ (x : SlabCacheState). IsSoundCache x) c.self.view_is c.self.invariant)
