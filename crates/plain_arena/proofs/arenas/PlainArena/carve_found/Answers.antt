use Rattle.std.proofs.Common.{◌≡◌, ℕ, ◌++◌, List, remove, None, sym, subst, ap, ◌∙◌, arith}
use Rattle.std.specs.FinMap as finmap
use Rattle.deed_core.specs.Holding.{Holding}
use Rattle.plain_arena.specs.declared.choices.Found.{Found}
use Rattle.tag_arena.specs.ArenaState.{ArenaState, IsSoundArena}
use Rattle.tag_arena.specs.Calls.{part, rests, after_carve}
use Rattle.tag_arena.proofs.Allocations.{len_more}
use Rattle.tag_arena.proofs.Sounding.{the_state}
use Rattle.tag_arena.proofs.Granting.{as_it_was, undone, stands, carve_is, carve_sound, carve_absent, none_whole}
use Rattle.tag_arena.proofs.Returning.{tagged_is}
use Rattle.plain_arena.proofs.Scanned.{cuttable_carve}
use Rattle.plain_arena.proofs.arenas.PlainArena.carve_found.Goals as goal

pub insert-requires-clause-absent : goal.insert-requires-clause-absent
insert-requires-clause-absent g c =
    let a = the_state c.self.invariant.0 in
    let f : Found = c.args.found in
    let n : ℕ = c.args.len in
    let k = cuttable_carve a c.args.self.now f n c.self.invariant.0.divided c.self.view_is c.requires in
    let piece_is = tagged_is _ (part f.range f.base n) _ _ c.new-piece.ensures c.root.ensures c.piece_of.ensures in
    let absent = carve_absent a f.at f.range (part f.range f.base n) k in
    subst (λ (h : Holding). finmap.get c.self.inside.tags h.range.base ≡ None) (sym piece_is) absent

pub remove-requires : goal.remove-requires
remove-requires g c = stands _ _ _ _ c.in_ok-insert.ensures.ok

pub invariant_of-self-in_default : goal.invariant_of-self-in_default
invariant_of-self-in_default g c =
    let a = the_state c.self.invariant.0 in
    let f : Found = c.args.found in
    let n : ℕ = c.args.len in
    let k = cuttable_carve a c.args.self.now f n c.self.invariant.0.divided c.self.view_is c.requires in
    let piece_is = tagged_is _ (part f.range f.base n) _ _ c.new-piece.ensures c.root.ensures c.piece_of.ensures in
    let absent = carve_absent a f.at f.range (part f.range f.base n) k in
    let absent_here = subst (λ (h : Holding). finmap.get c.self.inside.tags h.range.base ≡ None) (sym piece_is) absent in
    let tags = undone c.self.inside.tags c.insert.new.self c.remove.new.self c.new-piece.result.range.base c.new-piece.result absent_here c.in_ok-insert.ensures.ok c.remove.ensures in
    let free : c.carve.new.free.items ≡ c.self.inside.free.items = c.in_default.ensures.unchanged ∙ c.reserve_free.ensures.items in
    let len = ap finmap.len tags in (
      subst IsSoundArena (sym (as_it_was a _ _ free tags)) c.self.invariant.0,
      omega (arith, len, c.carve.ensures.len, c.carve.ensures.capacity, c.in_ok-reserve_free.ensures.room),
    )

pub returns-in_default-clause-unchanged : goal.returns-in_default-clause-unchanged
returns-in_default-clause-unchanged g c =
    let a = the_state c.self.invariant.0 in
    let f : Found = c.args.found in
    let n : ℕ = c.args.len in
    let k = cuttable_carve a c.args.self.now f n c.self.invariant.0.divided c.self.view_is c.requires in
    let piece_is = tagged_is _ (part f.range f.base n) _ _ c.new-piece.ensures c.root.ensures c.piece_of.ensures in
    let absent = carve_absent a f.at f.range (part f.range f.base n) k in
    let absent_here = subst (λ (h : Holding). finmap.get c.self.inside.tags h.range.base ≡ None) (sym piece_is) absent in
    let tags = undone c.self.inside.tags c.insert.new.self c.remove.new.self c.new-piece.result.range.base c.new-piece.result absent_here c.in_ok-insert.ensures.ok c.remove.ensures in
    let free : c.carve.new.free.items ≡ c.self.inside.free.items = c.in_default.ensures.unchanged ∙ c.reserve_free.ensures.items in
    as_it_was a _ _ free tags ∙ c.self.view_is

pub invariant_of-self-2 : goal.invariant_of-self-2
invariant_of-self-2 g c =
    let a = the_state c.self.invariant.0 in
    let f : Found = c.args.found in
    let n : ℕ = c.args.len in
    let k = cuttable_carve a c.args.self.now f n c.self.invariant.0.divided c.self.view_is c.requires in
    let piece_is = tagged_is _ (part f.range f.base n) _ _ c.new-piece.ensures c.root.ensures c.piece_of.ensures in
    let absent = carve_absent a f.at f.range (part f.range f.base n) k in
    let deed_is : c.in-Ok.deed ≡ part f.range f.base n = c.in-Ok.ensures.piece in
    let free : c.carve.new.free.items ≡ remove c.self.inside.free.items f.at ++ rests f.range (part f.range f.base n) = c.in-Ok.ensures.items ∙ ap (λ (xs : List Holding). remove xs f.at ++ rests f.range c.in-Ok.deed) c.reserve_free.ensures.items ∙ ap (λ (h : Holding). remove c.self.inside.free.items f.at ++ rests f.range h) deed_is in
    let tags : c.insert.new.self ≡ finmap.insert c.self.inside.tags f.base (part f.range f.base n) = c.in_ok-insert.ensures.ok ∙ ap (λ (h : Holding). finmap.insert c.self.inside.tags h.range.base h) piece_is in
    let after = carve_is a f.at f.range (part f.range f.base n) k _ _ free tags in
    let len = ap finmap.len tags ∙ len_more c.self.inside.tags f.base (part f.range f.base n) absent in (
      carve_sound a f.at f.range (part f.range f.base n) k (none_whole a c.self.invariant.0 f.range) _ after,
      omega (arith, len, c.carve.ensures.len, c.carve.ensures.capacity, c.in_ok-reserve_free.ensures.room),
    )

pub returns-clause-carved : goal.returns-clause-carved
returns-clause-carved g c =
    let a = the_state c.self.invariant.0 in
    let f : Found = c.args.found in
    let n : ℕ = c.args.len in
    let k = cuttable_carve a c.args.self.now f n c.self.invariant.0.divided c.self.view_is c.requires in
    let piece_is = tagged_is _ (part f.range f.base n) _ _ c.new-piece.ensures c.root.ensures c.piece_of.ensures in
    let deed_is : c.in-Ok.deed ≡ part f.range f.base n = c.in-Ok.ensures.piece in
    let free : c.carve.new.free.items ≡ remove c.self.inside.free.items f.at ++ rests f.range (part f.range f.base n) = c.in-Ok.ensures.items ∙ ap (λ (xs : List Holding). remove xs f.at ++ rests f.range c.in-Ok.deed) c.reserve_free.ensures.items ∙ ap (λ (h : Holding). remove c.self.inside.free.items f.at ++ rests f.range h) deed_is in
    let tags : c.insert.new.self ≡ finmap.insert c.self.inside.tags f.base (part f.range f.base n) = c.in_ok-insert.ensures.ok ∙ ap (λ (h : Holding). finmap.insert c.self.inside.tags h.range.base h) piece_is in
    let after = carve_is a f.at f.range (part f.range f.base n) k _ _ free tags in
    after ∙ ap (λ (s : ArenaState). after_carve s f.range (part f.range f.base n)) c.self.view_is
