use Rattle.std.proofs.Common.{◌≡◌, ◌∙◌, ◌<◌, ap, sym, subst}
use Rattle.arena_tree.specs.Chains.{quantum_in}
use Rattle.arena_tree.specs.Trees.{nodes_of}
use Rattle.locked_parts.specs.States.{LockedPartsState}
use Rattle.locked_parts.proofs.Came.{is_at, is_same}
use Rattle.locked_parts.proofs.Stands.{if_so}
use Rattle.locked_parts.proofs.parts.LockedParts.standing_cache.Goals as goal

pub returns-clause-kind : goal.returns-clause-kind
returns-clause-kind g c =
    let seen = ap (λ (s : LockedPartsState). s.arenas) c.self.view_is in
    let is : quantum_in (nodes_of c.args.self.now.arenas) c.args.arena ≡ c.quantum.result = ap (λ arenas. quantum_in (nodes_of arenas) c.args.arena) (sym seen) ∙ c.quantum.ensures.value in
    let some = subst (λ n. 0 < n) (sym is) c.quantum.ensures.some in
    if_so _ _ c.cache.result (λ b has. is_at c.args.self.now.arenas c.args.arena c.args.number c.in-Some.locked.now b.now c.in-Some.ensures.here has some) c.cache.ensures.stands

pub returns-clause-same : goal.returns-clause-same
returns-clause-same g c = if_so _ _ c.cache.result (λ b has. is_same c.args.self.now.arenas c.args.arena c.args.number c.in-Some.locked.now b.now c.in-Some.ensures.here has) c.cache.ensures.stands
