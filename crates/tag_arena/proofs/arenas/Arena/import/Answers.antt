use Rattle.std.proofs.Common.{◌≡◌, ◌≢◌, ℕ, ◌+◌, ◌++◌, ◌∷◌, [], List, All, None, refl, sym, subst, ap, ◌∙◌, option_to_list}
use Rattle.std.proofs.lemmas.List.Elements.{Contains-append_right}
use Rattle.std.specs.FinMap as finmap
use Rattle.deed_core.specs.Extent.{IsRange, end_of}
use Rattle.deed_core.specs.Holding.{Holding}
use Rattle.deed_core.specs.Tag.{Tag}
use Rattle.tag_arena.specs.ArenaState.{ArenaState, IsSoundArena}
use Rattle.tag_arena.specs.Calls.{part, rest_between, after_import, after_carve, first_units, IsClear}
use Rattle.tag_arena.proofs.Allocations.{len_more}
use Rattle.tag_arena.proofs.Granting.{as_it_was, undone, stands}
use Rattle.tag_arena.proofs.Importing.{imports, import_absent, import_is, import_sound}
use Rattle.tag_arena.proofs.Sounding.{the_state}
use Rattle.tag_arena.proofs.Returning.{tagged_is, same_tag}
use Rattle.tag_arena.specs.Spanned.{holdings_of}
use Rattle.tag_arena.proofs.Certifying.{backed_told}
use Rattle.tag_arena.proofs.Backing.{backed_back, backed_import}
use Rattle.tag_arena.proofs.Granted.{clear_behind, ends_alone}
use Rattle.tag_arena.proofs.arenas.Arena.import.Goals as goal

pub insert-requires-clause-absent : goal.insert-requires-clause-absent
insert-requires-clause-absent g c =
    let a = the_state c.self.invariant.0 in
    let t : Tag = c.args.span in
    let n : ℕ = c.args.len in
    let whole_is : c.new-whole.result ≡ t.holding = tagged_is _ t.holding _ _ c.new-whole.ensures c.root.ensures c.range.ensures.value in
    let range : IsRange t.holding.range = subst IsRange c.range.ensures.value c.range.ensures.range in
    let k = imports a c.args.self.now t n c.self.invariant.0 c.self.view_is range c.requires.route c.requires.clear c.requires.aligned c.requires.some c.requires.room c.requires.whole in
    let base_of : c.base.result ≡ t.holding.range.base = c.base.ensures.value ∙ ap (λ (h : Holding). h.range.base) whole_is in
    let piece_is = tagged_is _ (part t.holding t.holding.range.base n) _ _ c.new-first.ensures c.root-2.ensures (c.piece_of.ensures ∙ ap (λ (b : ℕ). record { base = b; len = n }) base_of) in
    let absent = import_absent a t n k in
    ap (λ m. finmap.get m c.new-first.result.range.base) c.open.ensures.unchanged ∙ subst (λ (h : Holding). finmap.get c.self.inside.tags h.range.base ≡ None) (sym piece_is) absent

pub remove-cell-requires : goal.remove-cell-requires
remove-cell-requires g c = stands _ _ _ _ c.in-Ok-insert.ensures.ok

pub invariant_of-self-in-Err : goal.invariant_of-self-in-Err
invariant_of-self-in-Err g c =
    let a = the_state c.self.invariant.0 in
    let t : Tag = c.args.span in
    let n : ℕ = c.args.len in
    let whole_is : c.new-whole.result ≡ t.holding = tagged_is _ t.holding _ _ c.new-whole.ensures c.root.ensures c.range.ensures.value in
    let range : IsRange t.holding.range = subst IsRange c.range.ensures.value c.range.ensures.range in
    let k = imports a c.args.self.now t n c.self.invariant.0 c.self.view_is range c.requires.route c.requires.clear c.requires.aligned c.requires.some c.requires.room c.requires.whole in
    let base_of : c.base.result ≡ t.holding.range.base = c.base.ensures.value ∙ ap (λ (h : Holding). h.range.base) whole_is in
    let piece_is = tagged_is _ (part t.holding t.holding.range.base n) _ _ c.new-first.ensures c.root-2.ensures (c.piece_of.ensures ∙ ap (λ (b : ℕ). record { base = b; len = n }) base_of) in
    let absent = import_absent a t n k in
    let absent_here = subst (λ (h : Holding). finmap.get c.self.inside.tags h.range.base ≡ None) (sym piece_is) absent in
    let tags : c.vacate-in-Err.new.self ≡ c.self.inside.tags = c.vacate-in-Err.ensures.unchanged ∙ (c.join-whole.ensures.unchanged ∙ undone c.self.inside.tags c.insert.new.self c.remove-cell.new.self c.new-first.result.range.base c.new-first.result absent_here (c.in-Ok-insert.ensures.ok ∙ ap (λ m. finmap.insert m c.new-first.result.range.base c.new-first.result) c.open.ensures.unchanged) c.remove-cell.ensures) in
    let same = ap (λ (xs : List Tag). record a { imported = xs; free = c.reserve_free.new.free.ranges; allocated = c.vacate-in-Err.new.self }) c.reserve.ensures.items ∙ as_it_was a _ _ (ap (λ v. v.ranges) c.reserve_free.ensures.rest) tags in
    let len = ap finmap.len tags in (
      subst IsSoundArena (sym same) c.self.invariant.0,
      backed_back c.self.inside.policy c.self.inside.free c.reserve_free.new.free c.reserve_free.ensures.rest c.reserve_free.new.free _ _ c.reserve_free.ensures.grows refl len c.self.invariant.1,
    )

pub returns-in-Err-clause-unchanged : goal.returns-in-Err-clause-unchanged
returns-in-Err-clause-unchanged g c =
    let a = the_state c.self.invariant.0 in
    let t : Tag = c.args.span in
    let n : ℕ = c.args.len in
    let whole_is : c.new-whole.result ≡ t.holding = tagged_is _ t.holding _ _ c.new-whole.ensures c.root.ensures c.range.ensures.value in
    let range : IsRange t.holding.range = subst IsRange c.range.ensures.value c.range.ensures.range in
    let k = imports a c.args.self.now t n c.self.invariant.0 c.self.view_is range c.requires.route c.requires.clear c.requires.aligned c.requires.some c.requires.room c.requires.whole in
    let base_of : c.base.result ≡ t.holding.range.base = c.base.ensures.value ∙ ap (λ (h : Holding). h.range.base) whole_is in
    let piece_is = tagged_is _ (part t.holding t.holding.range.base n) _ _ c.new-first.ensures c.root-2.ensures (c.piece_of.ensures ∙ ap (λ (b : ℕ). record { base = b; len = n }) base_of) in
    let absent = import_absent a t n k in
    let absent_here = subst (λ (h : Holding). finmap.get c.self.inside.tags h.range.base ≡ None) (sym piece_is) absent in
    let tags : c.vacate-in-Err.new.self ≡ c.self.inside.tags = c.vacate-in-Err.ensures.unchanged ∙ (c.join-whole.ensures.unchanged ∙ undone c.self.inside.tags c.insert.new.self c.remove-cell.new.self c.new-first.result.range.base c.new-first.result absent_here (c.in-Ok-insert.ensures.ok ∙ ap (λ m. finmap.insert m c.new-first.result.range.base c.new-first.result) c.open.ensures.unchanged) c.remove-cell.ensures) in
    let same = ap (λ (xs : List Tag). record a { imported = xs; free = c.reserve_free.new.free.ranges; allocated = c.vacate-in-Err.new.self }) c.reserve.ensures.items ∙ as_it_was a _ _ (ap (λ v. v.ranges) c.reserve_free.ensures.rest) tags in
    same ∙ c.self.view_is

pub insert_rest-slot-requires-clause-clear : goal.insert_rest-slot-requires-clause-clear
insert_rest-slot-requires-clause-clear g c =
    let a = the_state c.self.invariant.0 in
    let t : Tag = c.args.span in
    let n : ℕ = c.args.len in
    let range : IsRange t.holding.range = subst IsRange c.range.ensures.value c.range.ensures.range in
    let k = imports a c.args.self.now t n c.self.invariant.0 c.self.view_is range c.requires.route c.requires.clear c.requires.aligned c.requires.some c.requires.room c.requires.whole in
    clear_behind a t n k c.in-Ok-cut_first.parts.1 c.in-Ok-cut_first.ensures.high c.reserve_free.new.free.ranges (ap (λ v. v.ranges) c.reserve_free.ensures.rest)

pub invariant_of-self-2 : goal.invariant_of-self-2
invariant_of-self-2 g c =
    let a = the_state c.self.invariant.0 in
    let t : Tag = c.args.span in
    let n : ℕ = c.args.len in
    let whole_is : c.new-whole.result ≡ t.holding = tagged_is _ t.holding _ _ c.new-whole.ensures c.root.ensures c.range.ensures.value in
    let range : IsRange t.holding.range = subst IsRange c.range.ensures.value c.range.ensures.range in
    let k = imports a c.args.self.now t n c.self.invariant.0 c.self.view_is range c.requires.route c.requires.clear c.requires.aligned c.requires.some c.requires.room c.requires.whole in
    let base_of : c.base.result ≡ t.holding.range.base = c.base.ensures.value ∙ ap (λ (h : Holding). h.range.base) whole_is in
    let piece_is = tagged_is _ (part t.holding t.holding.range.base n) _ _ c.new-first.ensures c.root-2.ensures (c.piece_of.ensures ∙ ap (λ (b : ℕ). record { base = b; len = n }) base_of) in
    let absent = import_absent a t n k in
    let high_is : option_to_list c.in-Ok-cut_first.parts.1 ≡ rest_between t.holding (t.holding.range.base + n) (end_of t.holding.range) = c.in-Ok-cut_first.ensures.high in
    let free : c.insert_rest-slot.new.self.ranges ≡ a.free ++ rest_between t.holding (t.holding.range.base + n) (end_of t.holding.range) = c.insert_rest-slot.ensures.ranges ∙ ap (λ v. v.ranges ++ option_to_list c.in-Ok-cut_first.parts.1) c.reserve_free.ensures.rest ∙ ap (λ (xs : List Holding). a.free ++ xs) high_is in
    let import_new : c.new.result ≡ t = c.new.ensures ∙ same_tag _ t c.arena-source.ensures (sym c.requires.route) whole_is in
    let imported : c.put.new.self.items ≡ a.imported ++ t ∷ [] = c.put.ensures ∙ ap (λ (x : Tag). c.reserve.new.self.items ++ x ∷ []) import_new ∙ ap (λ (xs : List Tag). xs ++ t ∷ []) c.reserve.ensures.items in
    let tags : c.insert.new.self ≡ finmap.insert a.allocated t.holding.range.base (part t.holding t.holding.range.base n) = c.in-Ok-insert.ensures.ok ∙ ap (λ m. finmap.insert m c.new-first.result.range.base c.new-first.result) c.open.ensures.unchanged ∙ ap (λ (h : Holding). finmap.insert c.self.inside.tags h.range.base h) piece_is in
    let rover_is : c.end-self-inside.result ≡ t.holding.range.base + n = c.end-self-inside.ensures.value ∙ ap (λ (h : Holding). end_of h.range) piece_is in
    let after = import_is a t n k _ _ _ _ rover_is imported (ap (λ v. v.ranges) c.tell.ensures.free ∙ free) (c.tell.ensures.tags ∙ tags) in
    let len = ap finmap.len tags ∙ len_more a.allocated t.holding.range.base (part t.holding t.holding.range.base n) absent in (
      import_sound a t n k _ after,
      backed_told c.self.inside.policy _ _ _ _ c.tell.ensures.free c.tell.ensures.tags (backed_import c.self.inside.policy c.self.inside.free c.reserve_free.new.free c.reserve_free.ensures.rest c.insert_rest-slot.new.self c.in-Ok-cut_first.parts.1 _ _ c.in-Ok-reserve_free.ensures.room c.in-Ok-reserve_free.ensures.ticks c.insert_rest-slot.ensures.ranges c.insert_rest-slot.ensures.policy c.insert_rest-slot.ensures.room c.insert_rest-slot.ensures.ticks len c.self.invariant.1),
    )

pub returns-clause-carved : goal.returns-clause-carved
returns-clause-carved g c =
    let a = the_state c.self.invariant.0 in
    let t : Tag = c.args.span in
    let n : ℕ = c.args.len in
    let whole_is : c.new-whole.result ≡ t.holding = tagged_is _ t.holding _ _ c.new-whole.ensures c.root.ensures c.range.ensures.value in
    let range : IsRange t.holding.range = subst IsRange c.range.ensures.value c.range.ensures.range in
    let k = imports a c.args.self.now t n c.self.invariant.0 c.self.view_is range c.requires.route c.requires.clear c.requires.aligned c.requires.some c.requires.room c.requires.whole in
    let base_of : c.base.result ≡ t.holding.range.base = c.base.ensures.value ∙ ap (λ (h : Holding). h.range.base) whole_is in
    let piece_is = tagged_is _ (part t.holding t.holding.range.base n) _ _ c.new-first.ensures c.root-2.ensures (c.piece_of.ensures ∙ ap (λ (b : ℕ). record { base = b; len = n }) base_of) in
    let absent = import_absent a t n k in
    let high_is : option_to_list c.in-Ok-cut_first.parts.1 ≡ rest_between t.holding (t.holding.range.base + n) (end_of t.holding.range) = c.in-Ok-cut_first.ensures.high in
    let free : c.insert_rest-slot.new.self.ranges ≡ a.free ++ rest_between t.holding (t.holding.range.base + n) (end_of t.holding.range) = c.insert_rest-slot.ensures.ranges ∙ ap (λ v. v.ranges ++ option_to_list c.in-Ok-cut_first.parts.1) c.reserve_free.ensures.rest ∙ ap (λ (xs : List Holding). a.free ++ xs) high_is in
    let import_new : c.new.result ≡ t = c.new.ensures ∙ same_tag _ t c.arena-source.ensures (sym c.requires.route) whole_is in
    let imported : c.put.new.self.items ≡ a.imported ++ t ∷ [] = c.put.ensures ∙ ap (λ (x : Tag). c.reserve.new.self.items ++ x ∷ []) import_new ∙ ap (λ (xs : List Tag). xs ++ t ∷ []) c.reserve.ensures.items in
    let tags : c.insert.new.self ≡ finmap.insert a.allocated t.holding.range.base (part t.holding t.holding.range.base n) = c.in-Ok-insert.ensures.ok ∙ ap (λ m. finmap.insert m c.new-first.result.range.base c.new-first.result) c.open.ensures.unchanged ∙ ap (λ (h : Holding). finmap.insert c.self.inside.tags h.range.base h) piece_is in
    let rover_is : c.end-self-inside.result ≡ t.holding.range.base + n = c.end-self-inside.ensures.value ∙ ap (λ (h : Holding). end_of h.range) piece_is in
    let after = import_is a t n k _ _ _ _ rover_is imported (ap (λ v. v.ranges) c.tell.ensures.free ∙ free) (c.tell.ensures.tags ∙ tags) in
    after ∙ ap (λ (s : ArenaState). after_carve (after_import s t) t.holding (first_units n t.holding)) c.self.view_is

pub put-requires-clause-absent : goal.put-requires-clause-absent
put-requires-clause-absent g c =
    let a = the_state c.self.invariant.0 in
    let t : Tag = c.args.span in
    let whole_is : c.new-whole.result ≡ t.holding = tagged_is _ t.holding _ _ c.new-whole.ensures c.root.ensures c.range.ensures.value in
    let range : IsRange t.holding.range = subst IsRange c.range.ensures.value c.range.ensures.range in
    let clear = subst (λ (s : ArenaState). IsClear s t.holding.range) (sym c.self.view_is) c.requires.clear in
    let alone = ends_alone a t.holding c.self.inside.imported.items c.self.invariant.0.divided range clear (λ s in-s. Contains-append_right a.owned (holdings_of a.imported) s in-s) in
    let end = ap (λ (x : Tag). end_of x.holding.range) c.new.ensures ∙ ap (λ (x : Holding). end_of x.range) whole_is in
    subst (λ (n : ℕ). All (λ x. end_of x.holding.range ≢ n) c.reserve.new.self.items) (sym end) (subst (λ (ts : List Tag). All (λ x. end_of x.holding.range ≢ end_of t.holding.range) ts) (sym c.reserve.ensures.items) alone)
