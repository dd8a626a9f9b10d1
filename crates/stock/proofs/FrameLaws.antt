-- Frames, and the moves that are private to a CPU.
use Rattle.std.proofs.Common.{◌∷◌, ◌++◌, arith}
use Rattle.std.proofs.lemmas.List.Sums.{sum_by-cons, sum_by-append}
use Rattle.deed_core.specs.Weights.{of_direct, of_cached}
use Rattle.magazine_layer.specs.Magazines.{cache_rounds}
use Rattle.stock.specs.Laws.{OutWeighs, FramesThen, PopFrames, PushFrames, ChangeFrames}

pub out_weighs : OutWeighs
out_weighs spaces out left same a = record {
  exports = λ f. omega (arith, a.exports f, same (of_direct f));
  chunks_out = λ f. omega (arith, a.chunks_out f, same (of_cached f));
}

pub frames_then : FramesThen
frames_then first mid last given between answered one two rest a = two rest (one rest a)

pub pops : PopFrames
pops spaces old new t less rest = out_weighs spaces (cache_rounds old ++ rest) (t ∷ (cache_rounds new ++ rest))
    (λ f. omega (arith, less f, sum_by-append f (cache_rounds old) rest, sum_by-append f (cache_rounds new) rest, sum_by-cons f t (cache_rounds new ++ rest)))

pub pushes : PushFrames
pushes spaces old new t more rest = out_weighs spaces (t ∷ (cache_rounds old ++ rest)) (cache_rounds new ++ rest)
    (λ f. omega (arith, more f, sum_by-append f (cache_rounds old) rest, sum_by-append f (cache_rounds new) rest, sum_by-cons f t (cache_rounds old ++ rest)))

pub changes : ChangeFrames
changes spaces old new same rest = out_weighs spaces (cache_rounds old ++ rest) (cache_rounds new ++ rest)
    (λ f. omega (arith, same f, sum_by-append f (cache_rounds old) rest, sum_by-append f (cache_rounds new) rest))
