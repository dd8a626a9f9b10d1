use Rattle.std.proofs.Common.{◌≡◌, ◌<◌, false, true, sym, subst, ap, List, length, HoldsAt, arith}
use Rattle.deed_core.specs.Holding.{Holding}
use Rattle.locked_parts.specs.News.{AreWhole}
use Rattle.locked_parts.proofs.Wholes.{left_whole, none_left, none_free}
use Rattle.locked_parts.proofs.owned_spans.end_whole.Goals as goal

pub loop-deed-preserved : goal.loop-deed-preserved
loop-deed-preserved g c =
    let all = c.deref.ensures.value in
    let within = subst (λ (xs : List Holding). c.index_of-index.result < length xs) all c.index_of-index.ensures.within in
    let here = subst (λ (xs : List Holding). HoldsAt (λ x. x ≡ c.in-Some.deed) xs c.index_of-index.result) all c.index_of-index.ensures.here in
    record {
      whole = subst (AreWhole c.remove_owned.new.self) (sym {A = List Holding} c.remove.ensures.items)
          (left_whole c.loop-deed.arena c.loop-deed.roots.items c.loop-deed.invariant.whole c.loop-deed.invariant.sound c.in-Some.deed c.remove_owned.new.self c.index_of-index.result c.in-Some.ensures.removed within here);
      sound = c.remove_owned.ensures.sound;
    }

pub destroy_empty-requires : goal.destroy_empty-requires
destroy_empty-requires g c =
    let none = none_left c.loop-deed.arena c.remove_owned.new.self c.loop-deed.roots.items c.loop-deed.invariant.whole c.in_default.ensures.removed in
    omega (arith, c.loop-deed.roots.ok.0, ap length none)

pub unreachable-requires : goal.unreachable-requires
unreachable-requires g c =
    let none = none_free c.loop-deed.arena c.remove_owned.new.self c.loop-deed.roots.items c.loop-deed.invariant.whole c.in_default.ensures.removed in
    let no : false ≡ true = c.in-Err.ensures.empty.1 none in cc
