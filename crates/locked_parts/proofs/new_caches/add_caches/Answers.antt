use Rattle.std.proofs.Common.{◌≡◌, ◌∙◌, ◌+◌, ◌++◌, suc, map, ap, sym, refl, arith}
use Rattle.arena_tree.specs.Chains.{quantum_in}
use Rattle.arena_tree.specs.Trees.{nodes_of}
use Rattle.locked_parts.specs.Kinds.{kinds_up_to}
use Rattle.locked_parts.specs.News.{BeginsAsSet}
use Rattle.locked_parts.specs.declared.kinds.CacheKind.{CacheKind}
use Rattle.locked_parts.proofs.RoundLaws.{all_pushed, keys_pushed}
use Rattle.locked_parts.proofs.new_caches.add_caches.Goals as goal

pub loop-before-preserved : goal.loop-before-preserved
loop-before-preserved g c =
    let n = c.loop-before.before in
    let quantum = quantum_in (nodes_of c.args.tree.now) c.args.arena in
    let kind : CacheKind = record { arena = c.args.arena; number = suc n; quantum = quantum } in
    let first = map (λ r. r.kind) c.args.caches.now.items in
    let next : suc n ≡ n + 1 = omega arith in
    let is = c.new_cache.ensures.kind ∙ ap (λ m. record { arena = c.args.arena; number = m; quantum = quantum }) (sym next) in
    let old = c.loop-before.caches.items in
    let new = c.push_reserved.new.self.items in (
      search arith,
      search arith,
      keys_pushed (λ r. r.kind) old old new c.new_cache.result first (kinds_up_to c.args.arena quantum n) kind refl c.push_reserved.ensures.items c.loop-before.invariant.2 is
          ∙ ap (λ m. first ++ kinds_up_to c.args.arena quantum m) next,
      λ all. all_pushed (BeginsAsSet c.args.tree.now c.args.arena) old old new c.new_cache.result refl c.push_reserved.ensures.items (c.loop-before.invariant.3 all) c.new_cache.ensures.begins,
    )
