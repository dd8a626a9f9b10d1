use Rattle.std.proofs.Common.{◌≡◌, ◌++◌, ◌∷◌, [], length, min, deque_len, ap, sym, ◌∙◌, refl}
use Rattle.magazine_layer.proofs.Belonging.{among_itself, moved_are_among}
use Rattle.magazine_layer.proofs.Weighing.{swap_empty_weigh}
use Rattle.magazine_layer.proofs.ListLemmas.{stocked_with, whole_push, empty_pop, room_back}
use Rattle.magazine_layer.proofs.depots.Depot.swap_for_empty.Goals as goal

pub invariant_of-self-2 : goal.invariant_of-self-2
invariant_of-self-2 g c =
    let full_reapable : c.min-self-inside.result ≡ min c.self.inside.full_reapable (length c.push_back_reserved.new.self.items) = c.min-self-inside.ensures ∙ ap (λ n. min c.self.inside.full_reapable n) (c.len.ensures ∙ c.push_back_reserved.new.self.ok.0) in
    let empty_reapable : c.min-self-inside-2.result ≡ min c.self.inside.empty_reapable (deque_len c.pop_back.new.self) = c.min-self-inside-2.ensures ∙ ap (λ n. min c.self.inside.empty_reapable n) c.len-2.ensures in
    let size : c.args.cpu.now.size ≡ c.self.inside.size = sym c.size.ensures.value ∙ c.if-size-self.false in
    let same : c.new.result ≡ c.args.cpu.now.previous = c.new.ensures ∙ ap (λ m. m.rounds) c.rotate-full.ensures.out in
    let whole = whole_push c.self.inside.size c.self.inside.full.items c.push_back_reserved.new.self.items c.new.result c.push_back_reserved.ensures.items (ap length same ∙ c.requires.previous_full ∙ size) c.self.invariant.0.whole in (
      rw (full_reapable, empty_reapable) (stocked_with c.push_back_reserved.new.self.items (deque_len c.pop_back.new.self) _ whole c.self.invariant.0),
      (empty_pop c.self.inside.size c.self.inside.empty.items c.pop_back.new.self.items c.in-Some.empty c.in-Some.ensures.items c.self.invariant.1).0,
      room_back _ _ _ _ _ _ _ _ _ _ c.self.invariant.2 c.push_back_reserved.ensures.len c.in-Some.ensures.cases c.push_back_reserved.ensures.capacity c.in-Some.ensures.capacity,
      c.self.invariant.3,
    )

pub returns-clause-of : goal.returns-clause-of
returns-clause-of g c =
    let none = (empty_pop c.self.inside.size c.self.inside.empty.items c.pop_back.new.self.items c.in-Some.empty c.in-Some.ensures.items c.self.invariant.1).1 in
    let loaded : c.rotate-full.new.self ≡ record { size = c.args.cpu.now.size; loaded = []; previous = c.args.cpu.now.loaded } = rw (c.rotate-full.ensures.cache, none) refl in
    let full_reapable : c.min-self-inside.result ≡ min c.self.inside.full_reapable (length c.push_back_reserved.new.self.items) = c.min-self-inside.ensures ∙ ap (λ n. min c.self.inside.full_reapable n) (c.len.ensures ∙ c.push_back_reserved.new.self.ok.0) in
    let empty_reapable : c.min-self-inside-2.result ≡ min c.self.inside.empty_reapable (deque_len c.pop_back.new.self) = c.min-self-inside-2.ensures ∙ ap (λ n. min c.self.inside.empty_reapable n) c.len-2.ensures in
    let same : c.new.result ≡ c.args.cpu.now.previous = c.new.ensures ∙ ap (λ m. m.rounds) c.rotate-full.ensures.out in
    let items : c.push_back_reserved.new.self.items ≡ c.self.inside.full.items ++ c.args.cpu.now.previous ∷ [] = rw (← same) c.push_back_reserved.ensures.items in
    rw (← c.self.view_is, loaded) (record { sized = sym c.size.ensures.value ∙ c.if-size-self.false; one = sym c.in-Some.ensures.cases; cache = refl; depot = rw (full_reapable, empty_reapable, items) refl })

pub returns-clause-sound : goal.returns-clause-sound
returns-clause-sound g c = (invariant_of-self-2 g c).0

pub returns-clause-weights : goal.returns-clause-weights
returns-clause-weights g c = swap_empty_weigh c.args.cpu.now c.rotate-full.new.self c.args.self.now _ (returns-clause-of g c)

pub returns-clause-kinds : goal.returns-clause-kinds
returns-clause-kinds g c = moved_are_among _ _ (returns-clause-weights g c)

pub returns-then-size-self-clause-kinds : goal.returns-then-size-self-clause-kinds
returns-then-size-self-clause-kinds g c = among_itself _

pub returns-in_default-clause-kinds : goal.returns-in_default-clause-kinds
returns-in_default-clause-kinds g c = rw (← c.self.view_is) (among_itself _)
