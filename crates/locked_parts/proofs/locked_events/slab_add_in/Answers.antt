use Rattle.std.proofs.Common.{subst, sym}
use Rattle.arena_tree.specs.Events.{AnswerTo, SlabAdd}
use Rattle.arena_tree.specs.Trees.{nodes_of}
use Rattle.locked_parts.specs.Answers.{AnswersSoundly}
use Rattle.locked_parts.proofs.Sounds.{slab_goes}
use Rattle.locked_parts.proofs.locked_events.slab_add_in.Goals as goal

pub returns-in-Ok-clause-sound : goal.returns-in-Ok-clause-sound
returns-in-Ok-clause-sound g c =
    let asked = SlabAdd c.args.arena c.args.cache c.args.span in
    subst (λ (a : AnswerTo asked). AnswersSoundly (nodes_of c.args.parts.now.arenas) asked a) (sym c.wrap.ensures.word)
    (slab_goes (nodes_of c.args.parts.now.arenas) c.args.arena c.args.cache c.in-Ok.kind c.args.span c.add_slab.result c.in-Ok.ensures.kind c.add_slab.ensures.chunk c.add_slab.ensures.handed_back)
