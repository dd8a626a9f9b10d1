use Rattle.std.proofs.Common.{rules, ◌≡◌, [], length, min, deque_len, ap, sym, ◌∙◌, refl}
use Rattle.magazine_layer.proofs.Belonging.{among_itself, moved_are_among}
use Rattle.magazine_layer.proofs.Weighing.{swap_full_weigh}
use Rattle.magazine_layer.proofs.ListLemmas.{stocked_with, whole_pop, empty_push, room_swap}
use Rattle.magazine_layer.proofs.depots.Depot.swap_for_full.Goals as goal

pub invariant_of-self-2 : goal.invariant_of-self-2
invariant_of-self-2 g c =
    let whole = whole_pop c.self.inside.size c.self.inside.full.items c.pop_back.new.self.items c.in-Some.full c.in-Some.ensures.items c.self.invariant.0.whole in
    let full_reapable : c.min-self-inside.result ≡ min c.self.inside.full_reapable (length c.pop_back.new.self.items) = c.min-self-inside.ensures ∙ ap (λ n. min c.self.inside.full_reapable n) (c.len.ensures ∙ c.pop_back.new.self.ok.0) in
    let empty_reapable : c.min-self-inside-2.result ≡ min c.self.inside.empty_reapable (deque_len c.push_back_reserved.new.self) = c.min-self-inside-2.ensures ∙ ap (λ n. min c.self.inside.empty_reapable n) c.len-2.ensures in
    let size : c.args.cpu.now.size ≡ c.self.inside.size = sym c.size.ensures.value ∙ c.if-size-self.false in
    let out : c.rotate-empty.result ≡ record { size = c.self.inside.size; rounds = [] } = rw (c.rotate-empty.ensures.out, size, c.requires.previous_empty) refl in (
      rw (full_reapable, empty_reapable) (stocked_with c.pop_back.new.self.items (deque_len c.push_back_reserved.new.self) _ whole.0 c.self.invariant.0),
      empty_push c.self.inside.size c.self.inside.empty.items c.push_back_reserved.new.self.items c.rotate-empty.result c.push_back_reserved.ensures.items out c.self.invariant.1,
      room_swap _ _ _ _ _ _ _ _ _ _ c.self.invariant.2 c.in-Some.ensures.cases c.push_back_reserved.ensures.len c.in-Some.ensures.capacity c.push_back_reserved.ensures.capacity,
      c.self.invariant.3,
    )

pub returns-clause-of : goal.returns-clause-of
returns-clause-of g c =
    let whole = whole_pop c.self.inside.size c.self.inside.full.items c.pop_back.new.self.items c.in-Some.full c.in-Some.ensures.items c.self.invariant.0.whole in
    let loaded : c.rotate-empty.new.self ≡ record { size = c.args.cpu.now.size; loaded = c.in-Some.full; previous = c.args.cpu.now.loaded } = rw (c.rotate-empty.ensures.cache, c.into_magazine.ensures) refl in
    let full_reapable : c.min-self-inside.result ≡ min c.self.inside.full_reapable (length c.pop_back.new.self.items) = c.min-self-inside.ensures ∙ ap (λ n. min c.self.inside.full_reapable n) (c.len.ensures ∙ c.pop_back.new.self.ok.0) in
    let empty_reapable : c.min-self-inside-2.result ≡ min c.self.inside.empty_reapable (deque_len c.push_back_reserved.new.self) = c.min-self-inside-2.ensures ∙ ap (λ n. min c.self.inside.empty_reapable n) c.len-2.ensures in
    rw (← c.self.view_is, loaded) (record { sized = sym c.size.ensures.value ∙ c.if-size-self.false; newest = c.in-Some.ensures.items; whole = whole.1 ∙ sym c.if-size-self.false ∙ c.size.ensures.value; cache = refl; depot = rw (full_reapable, empty_reapable, c.push_back_reserved.ensures.len) refl })

pub returns-clause-sound : goal.returns-clause-sound
returns-clause-sound g c = (invariant_of-self-2 g c).0

pub returns-clause-weights : goal.returns-clause-weights
returns-clause-weights g c = swap_full_weigh c.args.cpu.now c.rotate-empty.new.self c.args.self.now _ c.requires.previous_empty (returns-clause-of g c)

pub returns-clause-kinds : goal.returns-clause-kinds
returns-clause-kinds g c = moved_are_among _ _ (returns-clause-weights g c)

pub returns-then-size-self-clause-kinds : goal.returns-then-size-self-clause-kinds
returns-then-size-self-clause-kinds g c = among_itself _

pub returns-in_default-clause-kinds : goal.returns-in_default-clause-kinds
returns-in_default-clause-kinds g c =
    let same : c.pop_back.new.self.items ≡ c.self.inside.full.items = search rules in
    rw (← c.self.view_is, same) (among_itself _)
