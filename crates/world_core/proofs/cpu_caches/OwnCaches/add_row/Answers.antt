use Rattle.std.proofs.Common.{◌≡◌, [], ◌∷◌, ◌++◌, refl, sym, ap, ◌∙◌}
use Rattle.std.specs.Prelude.{slice_get}
use Rattle.deed_core.proofs.LawProofs.{all_at, all_from}
use Rattle.stock.specs.OwnCaches.{OwnCacheState, HasNoRound}
use Rattle.world_core.specs.Setups.{empty_own}
use Rattle.world_core.proofs.Members.{each_pushed}
use Rattle.world_core.proofs.PartLemmas.{onto}
use Rattle.world_core.proofs.OwnSetups.{row_more, replicate_more}
use Rattle.world_core.proofs.cpu_caches.OwnCaches.add_row.Goals as goal

pub loop-cache-preserved : goal.loop-cache-preserved
loop-cache-preserved g c =
    let old = c.loop-cache.self.caches.items in
    let made : c.in_ok-own.own ≡ empty_own c.args.arena c.loop-cache.cache c.args.quantum = c.in_ok-own.ensures in
    let put : c.push_reserved.new.self.items ≡ old ++ empty_own c.args.arena c.loop-cache.cache c.args.quantum ∷ [] =
    onto c.push_reserved.new.self.items c.reserve.new.self.items old c.in_ok-own.own c.push_reserved.ensures.items c.reserve.ensures.items ∙ ap (λ (o : OwnCacheState). old ++ o ∷ []) made in
    record {
      owners = replicate_more c.loop-cache.cache c.args.cpu _ c.loop-cache.self.owners.items c.push.new.self.items c.loop-cache.invariant.owners c.in_ok-push.ensures.items;
      caches = row_more c.args.arena c.args.quantum c.loop-cache.cache _ old c.push_reserved.new.self.items c.loop-cache.invariant.caches put;
      empty = λ none. all_from HasNoRound c.push_reserved.new.self.items (λ k o at.
          each_pushed HasNoRound old (empty_own c.args.arena c.loop-cache.cache c.args.quantum) (λ i x here. all_at HasNoRound old i x (c.loop-cache.invariant.empty none) here) (record { loaded_empty = refl; previous_empty = refl }) k o (ap (λ xs. slice_get xs k) (sym put) ∙ at));
    }
