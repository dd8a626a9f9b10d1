use Rattle.std.proofs.Common.{◌∙◌, List, subst, sym}
use Rattle.arena_tree.specs.declared.trees.TreeArena.{TreeArena}
use Rattle.locked_parts.specs.News.{AreMadeAsSet}
use Rattle.lease_threads.proofs.systems.System.new.Goals as goal

pub returns-in-Ok-open_all-clause-made : goal.returns-in-Ok-open_all-clause-made
returns-in-Ok-open_all-clause-made g c = record {
  arenas = c.fill.ensures.arenas ∙ c.into_tree.ensures;
  roots = c.fill.ensures.roots ∙ c.in-Ok-open_all.ensures.roots;
}

pub fill-requires-clause-set_up : goal.fill-requires-clause-set_up
fill-requires-clause-set_up g c =
    subst (λ (t : List TreeArena). AreMadeAsSet t c.in-Ok-open_all.made.items) (sym c.into_tree.ensures) c.in-Ok-open_all.ensures.set_up
