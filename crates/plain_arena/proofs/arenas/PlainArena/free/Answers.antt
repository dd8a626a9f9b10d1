use Rattle.std.proofs.Common.{◌≡◌, ℕ, ◌+◌, [], List, remove, get_or, Some, Contains, option_to_list, refl, sym, subst, ap, ◌∙◌, sum_by, rules, arith}
use Rattle.std.proofs.lemmas.List.Sums.{sum_by-cons, sum_by-remove}
use Rattle.std.proofs.lemmas.List.{get_or_default}
use Rattle.std.proofs.lemmas.List.Elements.{All-contains}
use Rattle.deed_core.specs.declared.segments.Route.TheVariants.{Direct}
use Rattle.std.specs.FinMap as finmap
use Rattle.deed_core.specs.Holding.{Holding}
use Rattle.deed_core.specs.Tag.{Tag}
use Rattle.deed_core.specs.Covering.{covers, covers_tag, covering_held}
use Rattle.deed_core.specs.Weights.{Loses}
use Rattle.tag_arena.specs.Layout.{IsPartOf}
use Rattle.tag_arena.specs.ArenaState.{ArenaState, spans_of, ranges_of, direct_tag}
use Rattle.tag_arena.specs.Calls.{after_free, IsTagged}
use Rattle.tag_arena.specs.Neighbors.{Merges}
use Rattle.tag_arena.proofs.Allocations.{len_less, loses_remove}
use Rattle.tag_arena.proofs.Returning.{tagged_is, spans_said, place_said, none_said, is_some, same_tag, lies_in, has_span, span_holds, free_beside, freed_is, freed_is_sound, freed_covers, merge_covers, frees, returned_is, returned_is_sound, frees_back}
use Rattle.tag_arena.proofs.Carrying.{tags_lose, free_spans}
use Rattle.tag_arena.proofs.Sounding.{the_state}
use Rattle.plain_arena.proofs.arenas.PlainArena.free.Goals as goal

pub unwrap-span-requires : goal.unwrap-span-requires
unwrap-span-requires g c =
    let a = the_state c.self.invariant.0 in
    let p : Holding = c.new-tagged.result in
    let at : finmap.get c.self.inside.tags p.range.base ≡ Some p = search rules in
    let spans = spans_said a c.span_at.result _ _ _ p.range.base c.deref.ensures.value c.deref-2.ensures.value c.base-2.ensures.value c.span_at.ensures in
    let has = has_span a c.self.invariant.0.divided p at c.span_at.result spans in
    is_some c.span_at.result has.0 has.1

pub merge-merged-requires-clause-inside : goal.merge-merged-requires-clause-inside
merge-merged-requires-clause-inside g c =
    let a = the_state c.self.invariant.0 in
    let p : Holding = c.new-tagged.result in
    let seg_is : c.new-tagged.result ≡ c.args.segment.holding = tagged_is _ _ _ _ c.new-tagged.ensures c.root.ensures c.range.ensures.value in
    let at : finmap.get c.self.inside.tags p.range.base ≡ Some p = search rules in
    let spans = spans_said a c.span_at.result _ _ _ p.range.base c.deref.ensures.value c.deref-2.ensures.value c.base-2.ensures.value c.span_at.ensures in
    let s : Holding = c.unwrap-span.result in
    let lies = lies_in a p s c.span_at.result c.self.invariant.0.divided at spans c.unwrap-span.ensures in
    let new_is : c.new.result ≡ p = c.new.ensures ∙ c.into_deed.ensures ∙ sym seg_is in
    subst (λ (h : Holding). IsPartOf s h) (sym new_is) (span_holds a p s lies)

pub merge-merged-requires-clause-beside : goal.merge-merged-requires-clause-beside
merge-merged-requires-clause-beside g c =
    let a = the_state c.self.invariant.0 in
    let p : Holding = c.new-tagged.result in
    let at : finmap.get c.self.inside.tags p.range.base ≡ Some p = search rules in
    let spans = spans_said a c.span_at.result _ _ _ p.range.base c.deref.ensures.value c.deref-2.ensures.value c.base-2.ensures.value c.span_at.ensures in
    let s : Holding = c.unwrap-span.result in
    let lies = lies_in a p s c.span_at.result c.self.invariant.0.divided at spans c.unwrap-span.ensures in
    free_beside a p s lies

pub push_reserved-requires : goal.push_reserved-requires
push_reserved-requires g c =
    let a = the_state c.self.invariant.0 in
    let p : Holding = c.new-tagged.result in
    let at : finmap.get c.self.inside.tags p.range.base ≡ Some p = search rules in
    let len : finmap.len c.remove.new.self + 1 ≡ finmap.len c.self.inside.tags = ap (λ m. finmap.len m + 1) c.remove.ensures ∙ len_less c.self.inside.tags p.range.base p at in
    let room = c.self.invariant.1 in
    omega (arith, len, room, c.merge-merged.ensures.len, c.merge-merged.ensures.capacity)

pub invariant_of-self : goal.invariant_of-self
invariant_of-self g c =
    let a = the_state c.self.invariant.0 in
    let p : Holding = c.new-tagged.result in
    let seg_is : c.new-tagged.result ≡ c.args.segment.holding = tagged_is _ _ _ _ c.new-tagged.ensures c.root.ensures c.range.ensures.value in
    let at : finmap.get c.self.inside.tags p.range.base ≡ Some p = search rules in
    let spans = spans_said a c.span_at.result _ _ _ p.range.base c.deref.ensures.value c.deref-2.ensures.value c.base-2.ensures.value c.span_at.ensures in
    let s : Holding = c.unwrap-span.result in
    let lies = lies_in a p s c.span_at.result c.self.invariant.0.divided at spans c.unwrap-span.ensures in
    let new_is : c.new.result ≡ p = c.new.ensures ∙ c.into_deed.ensures ∙ sym seg_is in
    let merged : Holding = c.merge-merged.result in
    let left : List Holding = c.merge-merged.new.free.items in
    let merges : Merges s p a.free merged left = subst (λ (h : Holding). Merges s h a.free merged left) new_is c.merge-merged.ensures.merges in
    let after = freed_is a p s lies merged left merges _ _ c.push_reserved.ensures.items c.remove.ensures in
    let len : finmap.len c.remove.new.self + 1 ≡ finmap.len c.self.inside.tags = ap (λ m. finmap.len m + 1) c.remove.ensures ∙ len_less c.self.inside.tags p.range.base p at in
    let none = none_said _ _ _ merged c.deref-3.ensures.value c.held_range_of.ensures.value c.in_default.ensures in
    let room = c.self.invariant.1 in (
      freed_is_sound a p s lies merged left merges c.self.invariant.0 none _ after,
      omega (arith, len, room, c.push_reserved.ensures.len, c.push_reserved.ensures.capacity, c.merge-merged.ensures.len, c.merge-merged.ensures.capacity),
    )

pub invariant_of-self-2 : goal.invariant_of-self-2
invariant_of-self-2 g c =
    let a = the_state c.self.invariant.0 in
    let p : Holding = c.new-tagged.result in
    let seg_is : c.new-tagged.result ≡ c.args.segment.holding = tagged_is _ _ _ _ c.new-tagged.ensures c.root.ensures c.range.ensures.value in
    let at : finmap.get c.self.inside.tags p.range.base ≡ Some p = search rules in
    let spans = spans_said a c.span_at.result _ _ _ p.range.base c.deref.ensures.value c.deref-2.ensures.value c.base-2.ensures.value c.span_at.ensures in
    let s : Holding = c.unwrap-span.result in
    let lies = lies_in a p s c.span_at.result c.self.invariant.0.divided at spans c.unwrap-span.ensures in
    let new_is : c.new.result ≡ p = c.new.ensures ∙ c.into_deed.ensures ∙ sym seg_is in
    let merged : Holding = c.merge-merged.result in
    let left : List Holding = c.merge-merged.new.free.items in
    let merges : Merges s p a.free merged left = subst (λ (h : Holding). Merges s h a.free merged left) new_is c.merge-merged.ensures.merges in
    let k : ℕ = c.in-Some.at in
    let found = place_said _ _ _ merged k c.deref-3.ensures.value c.held_range_of.ensures.value c.in-Some.ensures in
    let tags : c.remove.new.self ≡ finmap.remove a.allocated p.range.base = c.remove.ensures in
    let after = returned_is a p s lies merged left merges k found.0 found.1 _ _ c.remove-import.ensures.items tags in
    let len : finmap.len c.remove.new.self + 1 ≡ finmap.len c.self.inside.tags = ap (λ m. finmap.len m + 1) c.remove.ensures ∙ len_less c.self.inside.tags p.range.base p at in
    let room = c.self.invariant.1 in (
      returned_is_sound a p s lies merged left merges k found.0 found.1 c.self.invariant.0 _ after,
      omega (arith, len, room, c.merge-merged.ensures.len, c.merge-merged.ensures.capacity),
    )

pub returns-in_default : goal.returns-in_default
returns-in_default g c =
    let a = the_state c.self.invariant.0 in
    let p : Holding = c.new-tagged.result in
    let seg_is : c.new-tagged.result ≡ c.args.segment.holding = tagged_is _ _ _ _ c.new-tagged.ensures c.root.ensures c.range.ensures.value in
    let at : finmap.get c.self.inside.tags p.range.base ≡ Some p = search rules in
    let spans = spans_said a c.span_at.result _ _ _ p.range.base c.deref.ensures.value c.deref-2.ensures.value c.base-2.ensures.value c.span_at.ensures in
    let s : Holding = c.unwrap-span.result in
    let lies = lies_in a p s c.span_at.result c.self.invariant.0.divided at spans c.unwrap-span.ensures in
    let new_is : c.new.result ≡ p = c.new.ensures ∙ c.into_deed.ensures ∙ sym seg_is in
    let merged : Holding = c.merge-merged.result in
    let left : List Holding = c.merge-merged.new.free.items in
    let merges : Merges s p a.free merged left = subst (λ (h : Holding). Merges s h a.free merged left) new_is c.merge-merged.ensures.merges in
    let after = freed_is a p s lies merged left merges _ _ c.push_reserved.ensures.items c.remove.ensures in
    let none = none_said _ _ _ merged c.deref-3.ensures.value c.held_range_of.ensures.value c.in_default.ensures in
    let tagged : IsTagged c.args.self.now c.args.segment = search rules in
    let id : c.self.inside.id ≡ c.args.self.now.id = ap (λ (s : ArenaState). s.id) c.self.view_is in
    let segment : c.args.segment ≡ direct_tag c.args.self.now.id c.args.segment.holding = same_tag _ _ tagged.arena tagged.route refl in
    let loses : Loses (ranges_of c.self.inside.tags) (ranges_of c.remove.new.self) p = subst (λ m. Loses (ranges_of c.self.inside.tags) (ranges_of m) p) (sym c.remove.ensures) (loses_remove c.self.inside.tags p.range.base p at) in record {
      freed = record {
        mine = tagged;
        frees = rw seg_is at (rw c.self.view_is at (frees a p s lies merged left merges _ after none));
        from = tt;
      };
      sound = freed_is_sound a p s lies merged left merges c.self.invariant.0 none _ after;
      kept = search rules;
      owned = search rules;
      loses = tags_lose c.args.self.now (record a { free = c.push_reserved.new.self.items; allocated = c.remove.new.self }) c.args.segment.holding c.args.segment id (subst (λ (h : Holding). Loses (ranges_of c.args.self.now.allocated) (ranges_of c.remove.new.self) h) seg_is (subst (λ (x : ArenaState). Loses (ranges_of x.allocated) (ranges_of c.remove.new.self) p) c.self.view_is loses)) segment;
      returned = (λ f.
          let now : sum_by f c.self.inside.imported.items ≡ sum_by f c.args.self.now.imported = ap (λ (s : ArenaState). sum_by f s.imported) c.self.view_is in
          omega (arith, now));
      spans = (λ u. let now = ap (λ (s : ArenaState). covering_held u (spans_of s)) c.self.view_is in omega (arith, now));
      covering = (λ u.
          let counts = freed_covers a p s lies merged left merges u in
          let same : covering_held u c.push_reserved.new.self.items ≡ covering_held u (after_free a p merged).free = ap (λ (x : ArenaState). covering_held u x.free) after in
          let old : covering_held u a.free ≡ covering_held u c.args.self.now.free = ap (λ (x : ArenaState). covering_held u x.free) c.self.view_is in
          let piece : covers u p.range ≡ covers u c.args.segment.holding.range = ap (λ (h : Holding). covers u h.range) seg_is in
          omega (arith, counts, same, old, piece));
    }

pub returns : goal.returns
returns g c =
    let a = the_state c.self.invariant.0 in
    let p : Holding = c.new-tagged.result in
    let seg_is : c.new-tagged.result ≡ c.args.segment.holding = tagged_is _ _ _ _ c.new-tagged.ensures c.root.ensures c.range.ensures.value in
    let at : finmap.get c.self.inside.tags p.range.base ≡ Some p = search rules in
    let spans = spans_said a c.span_at.result _ _ _ p.range.base c.deref.ensures.value c.deref-2.ensures.value c.base-2.ensures.value c.span_at.ensures in
    let s : Holding = c.unwrap-span.result in
    let lies = lies_in a p s c.span_at.result c.self.invariant.0.divided at spans c.unwrap-span.ensures in
    let new_is : c.new.result ≡ p = c.new.ensures ∙ c.into_deed.ensures ∙ sym seg_is in
    let merged : Holding = c.merge-merged.result in
    let left : List Holding = c.merge-merged.new.free.items in
    let merges : Merges s p a.free merged left = subst (λ (h : Holding). Merges s h a.free merged left) new_is c.merge-merged.ensures.merges in
    let k : ℕ = c.in-Some.at in
    let found = place_said _ _ _ merged k c.deref-3.ensures.value c.held_range_of.ensures.value c.in-Some.ensures in
    let tags : c.remove.new.self ≡ finmap.remove a.allocated p.range.base = c.remove.ensures in
    let after = returned_is a p s lies merged left merges k found.0 found.1 _ _ c.remove-import.ensures.items tags in
    let import : Tag = c.remove-import.result in
    let holding : import.holding ≡ merged = ap (λ (t : Tag). t.holding) c.remove-import.ensures.value ∙ found.1 import in
    let in_list : Contains a.imported import = (k, found.0, sym c.remove-import.ensures.value) in
    let route : import.route ≡ Direct = All-contains (λ t. t.route ≡ Direct) a.imported import c.self.invariant.0.divided.routes in_list in
    let back : c.new-2.result ≡ import = c.new-2.ensures ∙ same_tag _ import c.source.ensures (sym route) (c.into_deed-2.ensures ∙ sym holding) in
    let tagged : IsTagged c.args.self.now c.args.segment = search rules in
    let id : c.self.inside.id ≡ c.args.self.now.id = ap (λ (s : ArenaState). s.id) c.self.view_is in
    let segment : c.args.segment ≡ direct_tag c.args.self.now.id c.args.segment.holding = same_tag _ _ tagged.arena tagged.route refl in
    let owned : c.self.inside.owned.items ≡ c.args.self.now.owned = ap (λ (s : ArenaState). s.owned) c.self.view_is in
    let returned : (f : Tag → ℕ) → sum_by f c.args.self.now.imported ≡ sum_by f c.remove-import.new.self.items + sum_by f (option_to_list (Some c.new-2.result)) =
    (λ f.
    let less : sum_by f c.remove-import.new.self.items ≡ sum_by f (remove a.imported k) = ap (sum_by f) c.remove-import.ensures.items in
    let out : sum_by f (remove a.imported k) + f (get_or a.imported k import) ≡ sum_by f a.imported = sum_by-remove f a.imported k import found.0 in
    let here : f (get_or a.imported k import) ≡ f c.new-2.result = ap f (sym c.remove-import.ensures.value ∙ sym back) in
    let now : sum_by f a.imported ≡ sum_by f c.args.self.now.imported = ap (λ (s : ArenaState). sum_by f s.imported) c.self.view_is in
    omega (arith, less, out, here, now, sum_by-cons f c.new-2.result [])) in
    let loses : Loses (ranges_of c.self.inside.tags) (ranges_of c.remove.new.self) p = subst (λ m. Loses (ranges_of c.self.inside.tags) (ranges_of m) p) (sym c.remove.ensures) (loses_remove c.self.inside.tags p.range.base p at) in record {
      freed = record {
        mine = tagged;
        frees = rw seg_is at (rw c.self.view_is at (frees_back a p s lies merged left merges k found.0 found.1 _ c.new-2.result after (back ∙ c.remove-import.ensures.value ∙ get_or_default a.imported k import c.new-2.result found.0)));
        from = (
          subst (λ (x : ArenaState). Contains x.imported c.new-2.result) c.self.view_is (subst (Contains a.imported) (sym back) in_list),
          ap (λ (t : Tag). t.route) c.new-2.ensures,
        );
      };
      sound = returned_is_sound a p s lies merged left merges k found.0 found.1 c.self.invariant.0 _ after;
      kept = search rules;
      owned = search rules;
      loses = tags_lose c.args.self.now (record a { imported = c.remove-import.new.self.items; free = left; allocated = c.remove.new.self }) c.args.segment.holding c.args.segment id (subst (λ (h : Holding). Loses (ranges_of c.args.self.now.allocated) (ranges_of c.remove.new.self) h) seg_is (subst (λ (x : ArenaState). Loses (ranges_of x.allocated) (ranges_of c.remove.new.self) p) c.self.view_is loses)) segment;
      returned = returned;
      spans = free_spans c.args.self.now (record a { imported = c.remove-import.new.self.items; free = left; allocated = c.remove.new.self }) owned (Some c.new-2.result) returned;
      covering = (λ u.
          let counts = merge_covers a p s lies merged left merges u in
          let old : covering_held u a.free ≡ covering_held u c.args.self.now.free = ap (λ (x : ArenaState). covering_held u x.free) c.self.view_is in
          let piece : covers u p.range ≡ covers u c.args.segment.holding.range = ap (λ (h : Holding). covers u h.range) seg_is in
          let holding : c.new-2.result.holding ≡ merged = ap (λ (t : Tag). t.holding) c.new-2.ensures ∙ c.into_deed-2.ensures in
          let one : covers_tag u c.new-2.result ≡ covers u merged.range = ap (λ (h : Holding). covers u h.range) holding in
          omega (arith, counts, old, piece, one, sum_by-cons (covers_tag u) c.new-2.result []));
    }
