use Rattle.std.proofs.Common.{refl}
use Rattle.arena_tree.specs.Trees.{nodes_of}
use Rattle.locked_parts.proofs.Sounds.{cached_given}
use Rattle.locked_parts.proofs.locked_events.slab_take_in.Goals as goal

pub returns-in-Ok-clause-sound : goal.returns-in-Ok-clause-sound
returns-in-Ok-clause-sound g c = (cached_given (nodes_of c.args.parts.now.arenas) c.args.arena c.args.cache c.in-Ok.kind c.take_chunk.result c.in-Ok.ensures.kind c.take_chunk.ensures.chunk, refl)
