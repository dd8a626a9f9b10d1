use Rattle.std.proofs.Common.{◌≡◌, ◌++◌, ◌+◌, ◌∷◌, [], length, min, deque_len, ap, sym, ◌∙◌, refl}
use Rattle.magazine_layer.proofs.Belonging.{among_both, moved_are_among}
use Rattle.magazine_layer.proofs.Weighing.{put_full_weigh}
use Rattle.magazine_layer.proofs.ListLemmas.{stocked_with, whole_push, room_put}
use Rattle.magazine_layer.proofs.depots.Depot.put_full.Goals as goal

pub invariant_of-self-2 : goal.invariant_of-self-2
invariant_of-self-2 g c =
    let full_reapable : c.min-self-inside.result ≡ min c.self.inside.full_reapable (length c.push_back_reserved.new.self.items) = c.min-self-inside.ensures ∙ ap (λ n. min c.self.inside.full_reapable n) (c.len.ensures ∙ c.push_back_reserved.new.self.ok.0) in
    let empty_reapable : c.min-self-inside-2.result ≡ min c.self.inside.empty_reapable (deque_len c.reserve_one.new.empty) = c.min-self-inside-2.ensures ∙ ap (λ n. min c.self.inside.empty_reapable n) c.len-2.ensures in
    let size : c.args.cpu.now.size ≡ c.self.inside.size = sym c.size.ensures.value ∙ c.if-size-self.false in
    let same : c.new.result ≡ c.args.cpu.now.previous = c.new.ensures ∙ ap (λ m. m.rounds) c.rotate-full.ensures.out in
    let items : c.push_back_reserved.new.self.items ≡ c.self.inside.full.items ++ c.new.result ∷ [] = rw (← c.reserve_one.ensures.full_items) c.push_back_reserved.ensures.items in
    let whole = whole_push c.self.inside.size c.self.inside.full.items c.push_back_reserved.new.self.items c.new.result items (ap length same ∙ c.requires.previous_full ∙ size) c.self.invariant.0.whole in (
      rw (full_reapable, empty_reapable, c.reserve_one.ensures.old_items) (stocked_with c.push_back_reserved.new.self.items (deque_len c.reserve_one.new.empty) _ whole c.self.invariant.0),
      rw c.reserve_one.ensures.empty_items c.self.invariant.1,
      room_put _ _ _ _ _ _ _ _ _ _ c.in-Ok.ensures.full_room c.in-Ok.ensures.empty_room c.in-Ok.ensures.old_room (c.push_back_reserved.ensures.len ∙ ap (λ n. n + 1) c.in-Ok.ensures.full_len) c.in-Ok.ensures.empty_len c.in-Ok.ensures.old_len c.push_back_reserved.ensures.capacity,
      rw c.reserve_one.ensures.old_items c.self.invariant.3,
    )

pub returns-clause-sound : goal.returns-clause-sound
returns-clause-sound g c = (invariant_of-self-2 g c).0

pub returns-clause-of : goal.returns-clause-of
returns-clause-of g c =
    let full_reapable : c.min-self-inside.result ≡ min c.self.inside.full_reapable (length c.push_back_reserved.new.self.items) = c.min-self-inside.ensures ∙ ap (λ n. min c.self.inside.full_reapable n) (c.len.ensures ∙ c.push_back_reserved.new.self.ok.0) in
    let empty_reapable : c.min-self-inside-2.result ≡ min c.self.inside.empty_reapable (deque_len c.reserve_one.new.empty) = c.min-self-inside-2.ensures ∙ ap (λ n. min c.self.inside.empty_reapable n) c.len-2.ensures in
    let size : c.args.cpu.now.size ≡ c.self.inside.size = sym c.size.ensures.value ∙ c.if-size-self.false in
    let same : c.new.result ≡ c.args.cpu.now.previous = c.new.ensures ∙ ap (λ m. m.rounds) c.rotate-full.ensures.out in
    let items : c.push_back_reserved.new.self.items ≡ c.self.inside.full.items ++ c.args.cpu.now.previous ∷ [] = rw (← same, ← c.in-Ok.ensures.full_items) c.push_back_reserved.ensures.items in
    rw (← c.self.view_is) (record { sized = (size, sym c.size-else-size-self.ensures.value ∙ c.if-size-self-2.false); cache = c.rotate-full.ensures.cache; depot = rw (full_reapable, empty_reapable, items, c.in-Ok.ensures.empty_len, c.in-Ok.ensures.old_items) refl })

pub returns-clause-weights : goal.returns-clause-weights
returns-clause-weights g c = put_full_weigh c.args.magazine c.args.cpu.now c.rotate-full.new.self c.args.self.now _ (returns-clause-of g c)

pub returns-clause-kinds : goal.returns-clause-kinds
returns-clause-kinds g c = moved_are_among _ _ (returns-clause-weights g c)

pub returns-then-size-self-clause-kinds : goal.returns-then-size-self-clause-kinds
returns-then-size-self-clause-kinds g c = among_both _ _

pub returns-in_default-clause-kinds : goal.returns-in_default-clause-kinds
returns-in_default-clause-kinds g c = rw (← c.self.view_is, c.reserve_one.ensures.full_items, c.reserve_one.ensures.old_items) (among_both _ _)
