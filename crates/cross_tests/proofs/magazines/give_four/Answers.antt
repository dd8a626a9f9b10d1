use Rattle.std.proofs.Common.{◌≡◌, ◌∷◌, arith}
use Rattle.std.proofs.lemmas.List.Elements.{All-cons}
use Rattle.deed_core.specs.Covering.{units_in}
use Rattle.deed_core.specs.Tag.{Tag}
use Rattle.magazine_layer.specs.Magazines.{cache_rounds}
use Rattle.magazine_layer.proofs.LawProofs.{kinds_kept}
use Rattle.cross_tests.proofs.magazines.give_four.Goals as goal

pub returns : goal.returns
returns g c =
    let P : Tag → Type 0 = λ t. units_in t.holding ≡ 4 in
    let four : units_in c.new-3.result.holding ≡ 4 = grind (arith, c.new-3.ensures, c.new-2.ensures, c.expect-range.ensures, c.new.ensures.value) in
    kinds_kept P (cache_rounds c.give.new.self) (c.new-3.result ∷ cache_rounds c.args.cpu.now) c.give.ensures.kinds (All-cons P c.new-3.result (cache_rounds c.args.cpu.now) four c.requires)
