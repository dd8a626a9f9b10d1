use Rattle.std.proofs.Common.{◌≡◌, ◌+◌, refl, sym, subst, ap, ◌∙◌, List, [], ◌∷◌, ◌++◌, map, reverse, drop, length, All, Some, arith}
use Rattle.std.specs.Prelude.{slice_get, sum_by}
use Rattle.std.proofs.lemmas.List.{length-map, length-reverse, drop_all}
use Rattle.std.proofs.lemmas.Grind.{common_steps}
use Rattle.deed_core.specs.Holding.{Holding}
use Rattle.deed_core.proofs.LawProofs.{slice_get_here}
use Rattle.tag_arena.specs.ArenaState.{OnQuantum}
use Rattle.arena_tree.specs.declared.setups.OwnedSpan.{OwnedSpan}
use Rattle.stock.specs.Spaces.{SpaceState}
use Rattle.stock.specs.Endings.{IsReaped}
use Rattle.stock.specs.Owning.{weight_owned}
use Rattle.stock.proofs.Owning.{IsOwning, begun, drop_here, popped, some_left, turned, span_within, span_of_root, span_on_grid, range_here, clear_here, owned_more, owned_whole, owning_is_reaped}
use Rattle.stock.proofs.setups.StockSetup.own_all.Goals as goal

pub loop-span-init : goal.loop-span-init
loop-span-init g c = record {
  is = λ rounds new. begun c.args.setup.now (map g.D.Deed.holding (reverse c.args.deeds.now.items)) rounds c.args.self.now c.count.ensures.stock new c.spans-span-items.ensures.setup c.requires.deeds c.requires.planned;
  room = refl;
}

pub unwrap-deed-requires : goal.unwrap-deed-requires
unwrap-deed-requires g c =
    let at = subst (λ (xs : List OwnedSpan). slice_get xs c.loop-span.span-index ≡ Some c.span-item.result) c.spans-span-items.ensures.value (slice_get_here c.spans-span-items.result.now c.loop-span.span-index c.span-item.result c.loop-span-test.true c.span-item.is) in
    let is = c.loop-span.invariant.is c.requires.unused.0 c.requires.unused.1 in
    let some = some_left (drop c.loop-span.span-index c.args.setup.now.spans) (drop (c.loop-span.span-index + 1) c.args.setup.now.spans) c.span-item.result (map g.D.Deed.holding (reverse c.loop-span.deeds.items)) (drop_here c.args.setup.now.spans c.loop-span.span-index c.span-item.result at) is.deeds in
    c.pop.ensures.variant.1 (omega (arith, some, length-map (reverse c.loop-span.deeds.items) g.D.Deed.holding, length-reverse c.loop-span.deeds.items, c.loop-span.deeds.ok.0))

pub own-requires-clause-within : goal.own-requires-clause-within
own-requires-clause-within g c =
    let at = subst (λ (xs : List OwnedSpan). slice_get xs c.loop-span.span-index ≡ Some c.span-item.result) c.spans-span-items.ensures.value (slice_get_here c.spans-span-items.result.now c.loop-span.span-index c.span-item.result c.loop-span-test.true c.span-item.is) in
    let is = c.loop-span.invariant.is c.requires.unused.0 c.requires.unused.1 in
    span_within c.args.setup.now c.spans-span-items.ensures.setup c.loop-span.self is.plans c.loop-span.span-index c.span-item.result at

pub own-requires-clause-root : goal.own-requires-clause-root
own-requires-clause-root g c =
    let at = subst (λ (xs : List OwnedSpan). slice_get xs c.loop-span.span-index ≡ Some c.span-item.result) c.spans-span-items.ensures.value (slice_get_here c.spans-span-items.result.now c.loop-span.span-index c.span-item.result c.loop-span-test.true c.span-item.is) in
    let is = c.loop-span.invariant.is c.requires.unused.0 c.requires.unused.1 in
    span_of_root c.args.setup.now c.spans-span-items.ensures.setup c.loop-span.self is.plans c.loop-span.span-index c.span-item.result at

pub own-requires-clause-clear : goal.own-requires-clause-clear
own-requires-clause-clear g c =
    let at = subst (λ (xs : List OwnedSpan). slice_get xs c.loop-span.span-index ≡ Some c.span-item.result) c.spans-span-items.ensures.value (slice_get_here c.spans-span-items.result.now c.loop-span.span-index c.span-item.result c.loop-span-test.true c.span-item.is) in
    let d = c.unwrap-deed.result in
    let last : c.loop-span.deeds.items ≡ c.pop.new.self.items ++ d ∷ [] = grind (arith, common_steps) in
    let first = ap (map g.D.Deed.holding) (popped c.loop-span.deeds.items c.pop.new.self.items d last) in
    let left = drop_here c.args.setup.now.spans c.loop-span.span-index c.span-item.result at in
    let all = map g.D.Deed.holding (reverse c.args.deeds.now.items) in
    let rounds = c.requires.unused.0 in
    let was : IsOwning c.args.setup.now all rounds (c.span-item.result ∷ drop (c.loop-span.span-index + 1) c.args.setup.now.spans) (g.D.Deed.holding d ∷ map g.D.Deed.holding (reverse c.pop.new.self.items)) c.loop-span.self =
    subst (λ (os : List OwnedSpan). IsOwning c.args.setup.now all rounds os (g.D.Deed.holding d ∷ map g.D.Deed.holding (reverse c.pop.new.self.items)) c.loop-span.self) left
    (subst (λ (hs : List Holding). IsOwning c.args.setup.now all rounds (drop c.loop-span.span-index c.args.setup.now.spans) hs c.loop-span.self) first (c.loop-span.invariant.is rounds c.requires.unused.1)) in
    clear_here c.args.setup.now all rounds c.span-item.result _ (g.D.Deed.holding d) _ c.loop-span.self was

pub own-requires-clause-grid : goal.own-requires-clause-grid
own-requires-clause-grid g c = λ s there.
    let at = subst (λ (xs : List OwnedSpan). slice_get xs c.loop-span.span-index ≡ Some c.span-item.result) c.spans-span-items.ensures.value (slice_get_here c.spans-span-items.result.now c.loop-span.span-index c.span-item.result c.loop-span-test.true c.span-item.is) in
    let d = c.unwrap-deed.result in
    let last : c.loop-span.deeds.items ≡ c.pop.new.self.items ++ d ∷ [] = grind (arith, common_steps) in
    let first = ap (map g.D.Deed.holding) (popped c.loop-span.deeds.items c.pop.new.self.items d last) in
    let left = drop_here c.args.setup.now.spans c.loop-span.span-index c.span-item.result at in
    let all = map g.D.Deed.holding (reverse c.args.deeds.now.items) in
    let rounds = c.requires.unused.0 in
    let is = c.loop-span.invariant.is rounds c.requires.unused.1 in
    let was : IsOwning c.args.setup.now all rounds (c.span-item.result ∷ drop (c.loop-span.span-index + 1) c.args.setup.now.spans) (g.D.Deed.holding d ∷ map g.D.Deed.holding (reverse c.pop.new.self.items)) c.loop-span.self =
    subst (λ (os : List OwnedSpan). IsOwning c.args.setup.now all rounds os (g.D.Deed.holding d ∷ map g.D.Deed.holding (reverse c.pop.new.self.items)) c.loop-span.self) left
    (subst (λ (hs : List Holding). IsOwning c.args.setup.now all rounds (drop c.loop-span.span-index c.args.setup.now.spans) hs c.loop-span.self) first is) in
    let range = range_here c.args.setup.now all rounds c.span-item.result _ (g.D.Deed.holding d) _ c.loop-span.self was in
    subst (λ e. OnQuantum s.arena.quantum e) (sym range) (span_on_grid c.args.setup.now c.spans-span-items.ensures.setup c.loop-span.self is.plans c.loop-span.span-index c.span-item.result at s there)

pub returns-in-Err-clause-bare : goal.returns-in-Err-clause-bare
returns-in-Err-clause-bare g c =
    let is = c.loop-span.invariant.is c.requires.unused.0 c.requires.unused.1 in
    subst (λ (xs : List SpaceState). All IsReaped xs) {y = c.own.new.self} (sym c.in-Err.ensures.unchanged) (owning_is_reaped _ _ _ _ _ _ is)

pub returns-in-Err-clause-deeds : goal.returns-in-Err-clause-deeds
returns-in-Err-clause-deeds g c f =
    let is = c.loop-span.invariant.is c.requires.unused.0 c.requires.unused.1 in
    let back : c.push_reserved.new.self.items ≡ c.loop-span.deeds.items = grind (arith, common_steps) in
    let spaces = ap (sum_by (weight_owned f)) c.in-Err.ensures.unchanged in
    let left = ap (λ xs. sum_by f (map g.D.Deed.holding xs)) back in
    omega (arith, is.same f, turned g.D.Deed.holding c.args.deeds.now.items f, turned g.D.Deed.holding c.loop-span.deeds.items f, spaces, left)

pub loop-span-preserved : goal.loop-span-preserved
loop-span-preserved g c =
    let at = subst (λ (xs : List OwnedSpan). slice_get xs c.loop-span.span-index ≡ Some c.span-item.result) c.spans-span-items.ensures.value (slice_get_here c.spans-span-items.result.now c.loop-span.span-index c.span-item.result c.loop-span-test.true c.span-item.is) in
    let d = c.unwrap-deed.result in
    let last : c.loop-span.deeds.items ≡ c.pop.new.self.items ++ d ∷ [] = grind (arith, common_steps) in
    let first = ap (map g.D.Deed.holding) (popped c.loop-span.deeds.items c.pop.new.self.items d last) in
    let left = drop_here c.args.setup.now.spans c.loop-span.span-index c.span-item.result at in
    record {
      is = λ rounds new.
          let all = map g.D.Deed.holding (reverse c.args.deeds.now.items) in
          let is = c.loop-span.invariant.is rounds new in
          let was : IsOwning c.args.setup.now all rounds (c.span-item.result ∷ drop (c.loop-span.span-index + 1) c.args.setup.now.spans) (g.D.Deed.holding d ∷ map g.D.Deed.holding (reverse c.pop.new.self.items)) c.loop-span.self =
          subst (λ (os : List OwnedSpan). IsOwning c.args.setup.now all rounds os (g.D.Deed.holding d ∷ map g.D.Deed.holding (reverse c.pop.new.self.items)) c.loop-span.self) left
          (subst (λ (hs : List Holding). IsOwning c.args.setup.now all rounds (drop c.loop-span.span-index c.args.setup.now.spans) hs c.loop-span.self) first is) in
          owned_more c.args.setup.now all rounds c.span-item.result _ (g.D.Deed.holding d) _ c.loop-span.self c.own.new.self was c.in_default.ensures.added c.in_default.ensures.fixed;
      room = c.pop.ensures.capacity ∙ c.loop-span.invariant.room;
    }

pub returns-clause-set_up : goal.returns-clause-set_up
returns-clause-set_up g c = λ rounds new.
    let none : drop c.loop-span.span-index c.args.setup.now.spans ≡ [] = drop_all c.loop-span.span-index c.args.setup.now.spans (omega (arith, ap length c.spans-span-items.ensures.value)) in
    owned_whole c.args.setup.now _ rounds _ _ c.loop-span.self none (c.loop-span.invariant.is rounds new)

pub returns-clause-none : goal.returns-clause-none
returns-clause-none g c =
    let none : drop c.loop-span.span-index c.args.setup.now.spans ≡ [] = drop_all c.loop-span.span-index c.args.setup.now.spans (omega (arith, ap length c.spans-span-items.ensures.value)) in
    let is = c.loop-span.invariant.is c.requires.unused.0 c.requires.unused.1 in
    let count = ap length is.deeds in
    let zero = ap length none in
    omega (arith, count, zero, c.loop-span.deeds.ok.0, length-map (map g.D.Deed.holding (reverse c.loop-span.deeds.items)) (λ (h : Holding). h.range), length-map (drop c.loop-span.span-index c.args.setup.now.spans) (λ (o : OwnedSpan). o.range), length-map (reverse c.loop-span.deeds.items) g.D.Deed.holding, length-reverse c.loop-span.deeds.items)

pub returns-clause-bare : goal.returns-clause-bare
returns-clause-bare g c = owning_is_reaped _ _ _ _ _ _ (c.loop-span.invariant.is c.requires.unused.0 c.requires.unused.1)

pub returns-clause-deeds : goal.returns-clause-deeds
returns-clause-deeds g c f =
    let is = c.loop-span.invariant.is c.requires.unused.0 c.requires.unused.1 in
    omega (arith, is.same f, turned g.D.Deed.holding c.args.deeds.now.items f, turned g.D.Deed.holding c.loop-span.deeds.items f)
