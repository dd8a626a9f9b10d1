use Rattle.std.proofs.Common.{◌≡◌}
use Rattle.magazine_layer.proofs.LawProofs.{kinds_kept}
use Rattle.cross_tests.proofs.promises.round_calls.load_full_of_arena.Goals as goal

pub returns : goal.returns
returns g c = record { kind = kinds_kept (λ t. t.arena ≡ c.args.arena) _ _ c.load_full.ensures.kinds c.requires.kind }
