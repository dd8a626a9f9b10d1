use Rattle.std.proofs.Common.{◌≡◌, ◌∙◌, ◌+◌, ◌++◌, suc, map, ap, sym, subst, refl, arith}
use Rattle.arena_tree.specs.Chains.{quantum_in}
use Rattle.arena_tree.specs.Trees.{nodes_of}
use Rattle.magazine_layer.specs.Magazines.{BothEmpty}
use Rattle.locked_parts.specs.Kinds.{OwnCacheState, kinds_up_to, new_own}
use Rattle.locked_parts.specs.declared.kinds.CacheKind.{CacheKind}
use Rattle.locked_parts.proofs.RoundLaws.{all_pushed, made_pushed}
use Rattle.locked_parts.proofs.magazine_sets.fill_arena.Goals as goal

pub loop-before-preserved : goal.loop-before-preserved
loop-before-preserved g c =
    let n = c.loop-before.before in
    let quantum = quantum_in (nodes_of c.args.tree.now) c.args.arena in
    let kind : CacheKind = record { arena = c.args.arena; number = suc n; quantum = quantum } in
    let first = c.args.caches.now.items in
    let next : suc n ≡ n + 1 = omega arith in
    let is : c.in_ok-own.own ≡ new_own kind = c.in_ok-own.ensures ∙ ap (λ q. new_own (record { arena = c.args.arena; number = n + 1; quantum = q })) (sym c.quantum-quantum.ensures.value) ∙ ap (λ m. new_own (record { arena = c.args.arena; number = m; quantum = quantum })) (sym next) in (
      all_pushed (λ r. BothEmpty r.cpu) c.loop-before.caches.items c.reserve.new.self.items c.push_reserved.new.self.items c.in_ok-own.own c.reserve.ensures.items c.push_reserved.ensures.items c.loop-before.invariant.0 (subst (λ (o : OwnCacheState). BothEmpty o.cpu) (sym is) (record { loaded_empty = refl; previous_empty = refl })),
      (made_pushed new_own c.loop-before.caches.items c.reserve.new.self.items c.push_reserved.new.self.items first c.in_ok-own.own (kinds_up_to c.args.arena quantum n) kind c.reserve.ensures.items c.push_reserved.ensures.items c.loop-before.invariant.1 is
          ∙ ap (λ m. first ++ map new_own (kinds_up_to c.args.arena quantum m)) next),
    )
