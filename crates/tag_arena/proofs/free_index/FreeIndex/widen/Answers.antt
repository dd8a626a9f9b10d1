use Rattle.std.proofs.Common.{refl, ap, ◌∙◌, arith}
use Rattle.tag_arena.specs.FreeRanges.{FreeIndexState, keeps_bases, keeps_sizes}
use Rattle.tag_arena.specs.declared.orders.Order.TheVariants.{Rising, Sizes}
use Rattle.tag_arena.proofs.Starting.{kept_as, kept_grown, kept_wide, indexed_same, lists_wide}
use Rattle.tag_arena.proofs.free_index.FreeIndex.widen.Goals as goal

pub invariant_of-self-in_err-reserve-2 : goal.invariant_of-self-in_err-reserve-2
invariant_of-self-in_err-reserve-2 g c =
    let s = c.self.inside in
    let x = c.self.invariant in
    let s2 = c.reserve-2.new.self in
    let same = c.reserve-2.ensures.tags in
    let hr = kept_grown (keeps_bases s.policy) Rising s.slots s2 s.room s.rising s.rising x.rising same refl (omega arith) in
    let hz = kept_grown (keeps_sizes s.policy) Sizes s.slots s2 s.room s.sizes s.sizes x.sizes same refl (omega arith) in
    let hl = lists_wide s.policy s.slots s2 s.lists c.reserve.new.self x.lists_meet same c.reserve.ensures.is_kept c.reserve.ensures.linked (λ kept. let wide = x.lists_meet.room kept in omega (arith, wide, c.in_err-reserve-2.ensures.unchanged, c.reserve.ensures.grows)) in
    indexed_same s.policy s.slots s2 s.rising s.sizes s.lists s.rising s.sizes c.reserve.new.self s.clock s.room s.room x same (omega arith) (omega (arith, x.slots_room, c.in_err-reserve-2.ensures.unchanged)) hr refl hz hl

pub invariant_of-self-in_err-reserve-3 : goal.invariant_of-self-in_err-reserve-3
invariant_of-self-in_err-reserve-3 g c =
    let s = c.self.inside in
    let x = c.self.invariant in
    let s2 = c.reserve-2.new.self in
    let same = c.reserve-2.ensures.tags in
    let hr = kept_grown (keeps_bases s.policy) Rising s.slots s2 s.room s.rising c.reserve-3.new.self x.rising same c.reserve-3.ensures.rest c.reserve-3.ensures.grows in
    let hz = kept_grown (keeps_sizes s.policy) Sizes s.slots s2 s.room s.sizes s.sizes x.sizes same refl (omega arith) in
    let hl = lists_wide s.policy s.slots s2 s.lists c.reserve.new.self x.lists_meet same c.reserve.ensures.is_kept c.reserve.ensures.linked (λ kept. let wide = x.lists_meet.room kept in let more = c.in_ok-reserve.ensures.ok kept in omega (arith, wide, more, c.in_ok-reserve-2.ensures.ok, c.reserve.ensures.grows)) in
    indexed_same s.policy s.slots s2 s.rising s.sizes s.lists c.reserve-3.new.self s.sizes c.reserve.new.self s.clock s.room s.room x same (omega arith) (omega (arith, x.slots_room, c.in_ok-reserve-2.ensures.ok)) hr (kept_as s.rising c.reserve-3.new.self c.reserve-3.ensures.rest) hz hl

pub invariant_of-self-in_err-reserve-4 : goal.invariant_of-self-in_err-reserve-4
invariant_of-self-in_err-reserve-4 g c =
    let s = c.self.inside in
    let x = c.self.invariant in
    let s2 = c.reserve-2.new.self in
    let same = c.reserve-2.ensures.tags in
    let hr = kept_grown (keeps_bases s.policy) Rising s.slots s2 s.room s.rising c.reserve-3.new.self x.rising same c.reserve-3.ensures.rest c.reserve-3.ensures.grows in
    let hz = kept_grown (keeps_sizes s.policy) Sizes s.slots s2 s.room s.sizes c.reserve-4.new.self x.sizes same c.reserve-4.ensures.rest c.reserve-4.ensures.grows in
    let hl = lists_wide s.policy s.slots s2 s.lists c.reserve.new.self x.lists_meet same c.reserve.ensures.is_kept c.reserve.ensures.linked (λ kept. let wide = x.lists_meet.room kept in let more = c.in_ok-reserve.ensures.ok kept in omega (arith, wide, more, c.in_ok-reserve-2.ensures.ok, c.reserve.ensures.grows)) in
    indexed_same s.policy s.slots s2 s.rising s.sizes s.lists c.reserve-3.new.self c.reserve-4.new.self c.reserve.new.self s.clock s.room s.room x same (omega arith) (omega (arith, x.slots_room, c.in_ok-reserve-2.ensures.ok)) hr (kept_as s.rising c.reserve-3.new.self c.reserve-3.ensures.rest) hz hl

pub invariant_of-self-2 : goal.invariant_of-self-2
invariant_of-self-2 g c =
    let s = c.self.inside in
    let x = c.self.invariant in
    let s2 = c.reserve-2.new.self in
    let same = c.reserve-2.ensures.tags in
    let hr = kept_wide (keeps_bases s.policy) Rising s.slots s2 s.room s.rising c.reserve-3.new.self x.rising same c.reserve-3.ensures.rest c.args.room (λ asks. let wide = c.in_ok-reserve-3.ensures.ok (c.has_bases.ensures ∙ asks) in omega (arith, wide)) in
    let hz = kept_wide (keeps_sizes s.policy) Sizes s.slots s2 s.room s.sizes c.reserve-4.new.self x.sizes same c.reserve-4.ensures.rest c.args.room (λ asks. let wide = c.in_ok-reserve-4.ensures.ok (c.has_sizes.ensures ∙ asks) in omega (arith, wide)) in
    let hl = lists_wide s.policy s.slots s2 s.lists c.reserve.new.self x.lists_meet same c.reserve.ensures.is_kept c.reserve.ensures.linked (λ kept. let wide = x.lists_meet.room kept in let more = c.in_ok-reserve.ensures.ok kept in omega (arith, wide, more, c.in_ok-reserve-2.ensures.ok, c.reserve.ensures.grows)) in
    indexed_same s.policy s.slots s2 s.rising s.sizes s.lists c.reserve-3.new.self c.reserve-4.new.self c.reserve.new.self s.clock s.room c.args.room x same (omega (arith, c.requires, ap (λ (v : FreeIndexState). v.room) c.self.view_is)) (omega (arith, c.in_ok-reserve-2.ensures.ok)) hr (kept_as s.rising c.reserve-3.new.self c.reserve-3.ensures.rest) hz hl
