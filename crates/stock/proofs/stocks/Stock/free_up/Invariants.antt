use Rattle.std.proofs.Common.{◌≡◌, [], ◌∷◌, IfSome}
use Rattle.std.specs.Option.{option_to_list}
use Rattle.deed_core.specs.declared.segments.Route.TheVariants.{Direct}
use Rattle.stock.specs.Spaces.{plans_of}
use Rattle.stock.specs.Accounts.{Frames}
use Rattle.stock.specs.Endings.{AllCachesStay, lastings_of}
use Rattle.stock.proofs.Homeward.{height}
use Rattle.stock.proofs.stocks.Stock.free_up.Given as goal

abbrev pub invariant-loop-left : goal.invariant-loop-left
invariant-loop-left g l = record {
  caches : AllCachesStay l.fn.self l.self;
  frame : Frames l.fn.self (l.fn.segment ∷ []) l.self (option_to_list l.left);
  fixed : plans_of l.self ≡ plans_of l.fn.self;
  lasts : lastings_of l.self ≡ lastings_of l.fn.self;
  direct : IfSome l.left (λ t. t.route ≡ Direct);
}

abbrev pub decreases-loop-left : goal.decreases-loop-left
decreases-loop-left g l = height l.left
