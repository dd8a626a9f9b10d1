-- The root numbers of an arena under its lock stay its own.
use Rattle.std.proofs.Common.{◌≡◌, ℕ, ◌+◌, ◌*◌, ◌≤◌, sym, subst, ap, length, Option, Some, None, not, nat_eq, refl, arith}
use Rattle.std.proofs.lemmas.List.Filters.{length-filter_both}
use Rattle.deed_core.specs.Holding.{Holding}
use Rattle.tag_arena.specs.ArenaState.{ArenaState}
use Rattle.tag_arena.specs.Outcomes.{RemoveOf}
use Rattle.arena_tree.specs.declared.limits.TheConstants.{MOST_SPANS}
use Rattle.locked_parts.specs.Answers.{ArenaPartState, NumbersItsRoots}

-- where the arena owns no more than before
pub numbers_kept : (p : ArenaPartState) (a : ArenaState) → a.id ≡ p.arena.id → length a.owned ≤ length p.arena.owned → NumbersItsRoots p → NumbersItsRoots (record p { arena = a })
numbers_kept p a id fewer n = record {
  from = subst (λ (k : ℕ). MOST_SPANS * k + p.beside ≤ p.roots.base) (sym id) n.from;
  all = subst (λ (k : ℕ). p.roots.base + length p.roots.roots + p.roots.left ≡ MOST_SPANS * k + MOST_SPANS) (sym id) n.all;
  owned = subst (λ (k : ℕ). MOST_SPANS * k + length a.owned ≤ p.roots.base + length p.roots.roots) (sym id) (omega (arith, fewer, n.owned));
}

-- a span that is taken out is one less
pub removed_fewer : (old new : ArenaState) (o : Option Holding) → RemoveOf old o new → length new.owned ≤ length old.owned
removed_fewer old new None of = let same = ap (λ (a : ArenaState). length a.owned) of.1 in omega (arith, same)
removed_fewer old new (Some h) of =
    let is = ap (λ (a : ArenaState). length a.owned) of.1 in
    let kept = λ (x : Holding). not (nat_eq x.range.base h.range.base) in
    let few = length-filter_both kept (λ x. not (kept x)) (λ x. refl) old.owned in
    omega (arith, is, few)
