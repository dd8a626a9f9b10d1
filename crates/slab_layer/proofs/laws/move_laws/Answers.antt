use Rattle.slab_layer.proofs.ChunkLemmas.{takes_none_exactly, reaps_none_exactly, reaped_out_is_empty}
use Rattle.slab_layer.proofs.laws.move_laws.Goals as goal

pub returns : goal.returns
returns c = record { takes_none = takes_none_exactly; reaps_none = reaps_none_exactly; reaped_out = reaped_out_is_empty }
