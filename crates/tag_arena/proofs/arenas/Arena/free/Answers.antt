use Rattle.std.proofs.Common.{◌≡◌, ℕ, ◌+◌, ◌<◌, [], List, All, HoldsAt, length, remove, get_or, Some, Contains, option_to_list, refl, sym, subst, ap, ◌∙◌, sum_by, rules, arith}
use Rattle.std.proofs.lemmas.List.Sums.{sum_by-cons, sum_by-remove}
use Rattle.std.proofs.lemmas.List.{get_or_default}
use Rattle.std.proofs.lemmas.List.Elements.{All-contains}
use Rattle.deed_core.specs.declared.segments.Route.TheVariants.{Direct}
use Rattle.std.specs.FinMap as finmap
use Rattle.deed_core.specs.Holding.{Holding, Apart}
use Rattle.deed_core.specs.Tag.{Tag}
use Rattle.deed_core.specs.Covering.{covers, covers_tag, covering_held}
use Rattle.deed_core.specs.Weights.{Loses}
use Rattle.tag_arena.specs.Layout.{IsPartOf}
use Rattle.tag_arena.specs.ArenaState.{ArenaState, spans_of, ranges_of, direct_tag}
use Rattle.tag_arena.specs.Calls.{after_free, IsTagged}
use Rattle.tag_arena.specs.Neighbors.{IsKnownBeside, Merges}
use Rattle.tag_arena.specs.Returns.{ComesBack, whole_of}
use Rattle.tag_arena.proofs.Allocations.{len_less, loses_remove}
use Rattle.tag_arena.proofs.Returning.{tagged_is, spans_said, is_some, same_tag, lies_in, has_span, positive, span_holds, free_beside, freed_is, freed_is_sound, freed_covers, merge_covers, frees, returned_is, returned_is_sound, frees_back}
use Rattle.tag_arena.proofs.Carrying.{tags_lose, free_spans}
use Rattle.tag_arena.proofs.Sounding.{the_state}
use Rattle.tag_arena.specs.Spanned.{holdings_of}
use Rattle.tag_arena.proofs.Certifying.{backed_told, known_beside}
use Rattle.tag_arena.proofs.Backing.{backed_free}
use Rattle.tag_arena.proofs.Granted.{disjoint_imported, disjoint_owned, free_clear, lent_there, none_lent, not_lent}
use Rattle.tag_arena.proofs.Rejoining.{comes_fewer, merged_has}
use Rattle.tag_arena.proofs.arenas.Arena.free.Goals as goal

pub unwrap-span-requires : goal.unwrap-span-requires
unwrap-span-requires g c =
    let a = the_state c.self.invariant.0 in
    let p : Holding = c.new-tagged.result in
    let at : finmap.get c.self.inside.tags p.range.base ≡ Some p = search rules in
    let spans = spans_said a c.span_at.result _ _ _ p.range.base refl refl c.base-2.ensures.value c.span_at.ensures in
    let has = has_span a c.self.invariant.0.divided p at c.span_at.result spans in
    is_some c.span_at.result has.0 has.1

pub give_back-became-requires-clause-inside : goal.give_back-became-requires-clause-inside
give_back-became-requires-clause-inside g c =
    let a = the_state c.self.invariant.0 in
    let p : Holding = c.new-tagged.result in
    let seg_is : c.new-tagged.result ≡ c.args.segment.holding = tagged_is _ _ _ _ c.new-tagged.ensures c.root.ensures c.range.ensures.value in
    let at : finmap.get c.self.inside.tags p.range.base ≡ Some p = search rules in
    let spans = spans_said a c.span_at.result _ _ _ p.range.base refl refl c.base-2.ensures.value c.span_at.ensures in
    let s : Holding = c.unwrap-span.result in
    let lies = lies_in a p s c.span_at.result c.self.invariant.0.divided at spans c.unwrap-span.ensures in
    let new_is : c.new-deed.result ≡ p = c.new-deed.ensures ∙ c.into_deed.ensures ∙ sym seg_is in
    subst (λ (h : Holding). IsPartOf s h) (sym new_is) (span_holds a p s lies)

pub give_back-became-requires-clause-some : goal.give_back-became-requires-clause-some
give_back-became-requires-clause-some g c =
    let a = the_state c.self.invariant.0 in
    let p : Holding = c.new-tagged.result in
    let seg_is : c.new-tagged.result ≡ c.args.segment.holding = tagged_is _ _ _ _ c.new-tagged.ensures c.root.ensures c.range.ensures.value in
    let at : finmap.get c.self.inside.tags p.range.base ≡ Some p = search rules in
    let spans = spans_said a c.span_at.result _ _ _ p.range.base refl refl c.base-2.ensures.value c.span_at.ensures in
    let s : Holding = c.unwrap-span.result in
    let lies = lies_in a p s c.span_at.result c.self.invariant.0.divided at spans c.unwrap-span.ensures in
    let new_is : c.new-deed.result ≡ p = c.new-deed.ensures ∙ c.into_deed.ensures ∙ sym seg_is in
    subst (λ (h : Holding). 0 < h.range.len) (sym new_is) (positive a lies.sound p lies.at)

pub give_back-became-requires-clause-beside : goal.give_back-became-requires-clause-beside
give_back-became-requires-clause-beside g c =
    let a = the_state c.self.invariant.0 in
    let p : Holding = c.new-tagged.result in
    let seg_is : c.new-tagged.result ≡ c.args.segment.holding = tagged_is _ _ _ _ c.new-tagged.ensures c.root.ensures c.range.ensures.value in
    let at : finmap.get c.self.inside.tags p.range.base ≡ Some p = search rules in
    let spans = spans_said a c.span_at.result _ _ _ p.range.base refl refl c.base-2.ensures.value c.span_at.ensures in
    let s : Holding = c.unwrap-span.result in
    let lies = lies_in a p s c.span_at.result c.self.invariant.0.divided at spans c.unwrap-span.ensures in
    let new_is : c.new-deed.result ≡ p = c.new-deed.ensures ∙ c.into_deed.ensures ∙ sym seg_is in
    free_beside a p s lies

pub give_back-became-requires-clause-clear : goal.give_back-became-requires-clause-clear
give_back-became-requires-clause-clear g c =
    let a = the_state c.self.invariant.0 in
    let p : Holding = c.new-tagged.result in
    let seg_is : c.new-tagged.result ≡ c.args.segment.holding = tagged_is _ _ _ _ c.new-tagged.ensures c.root.ensures c.range.ensures.value in
    let at : finmap.get c.self.inside.tags p.range.base ≡ Some p = search rules in
    let spans = spans_said a c.span_at.result _ _ _ p.range.base refl refl c.base-2.ensures.value c.span_at.ensures in
    let s : Holding = c.unwrap-span.result in
    let lies = lies_in a p s c.span_at.result c.self.invariant.0.divided at spans c.unwrap-span.ensures in
    let new_is : c.new-deed.result ≡ p = c.new-deed.ensures ∙ c.into_deed.ensures ∙ sym seg_is in
    subst (λ (h : Holding). All (Apart h) a.free) (sym new_is) (free_clear a p s lies)

pub give_back-became-requires-clause-known : goal.give_back-became-requires-clause-known
give_back-became-requires-clause-known g c =
    let a = the_state c.self.invariant.0 in
    let p : Holding = c.new-tagged.result in
    let seg_is : c.new-tagged.result ≡ c.args.segment.holding = tagged_is _ _ _ _ c.new-tagged.ensures c.root.ensures c.range.ensures.value in
    let at : finmap.get c.self.inside.tags p.range.base ≡ Some p = search rules in
    let spans = spans_said a c.span_at.result _ _ _ p.range.base refl refl c.base-2.ensures.value c.span_at.ensures in
    let s : Holding = c.unwrap-span.result in
    let lies = lies_in a p s c.span_at.result c.self.invariant.0.divided at spans c.unwrap-span.ensures in
    let new_is : c.new-deed.result ≡ p = c.new-deed.ensures ∙ c.into_deed.ensures ∙ sym seg_is in
    subst (λ (h : Holding). IsKnownBeside c.beside-beside.result h.range a.free) (sym new_is) (known_beside a lies.sound _ _ _ _ c.base-3.ensures.value c.end.ensures.value c.beside-beside.ensures.left c.beside-beside.ensures.right)

pub give_back-became-requires-clause-room : goal.give_back-became-requires-clause-room
give_back-became-requires-clause-room g c =
    let a = the_state c.self.invariant.0 in
    let p : Holding = c.new-tagged.result in
    let seg_is : c.new-tagged.result ≡ c.args.segment.holding = tagged_is _ _ _ _ c.new-tagged.ensures c.root.ensures c.range.ensures.value in
    let at : finmap.get c.self.inside.tags p.range.base ≡ Some p = search rules in
    let spans = spans_said a c.span_at.result _ _ _ p.range.base refl refl c.base-2.ensures.value c.span_at.ensures in
    let s : Holding = c.unwrap-span.result in
    let lies = lies_in a p s c.span_at.result c.self.invariant.0.divided at spans c.unwrap-span.ensures in
    let new_is : c.new-deed.result ≡ p = c.new-deed.ensures ∙ c.into_deed.ensures ∙ sym seg_is in
    let len : finmap.len c.remove-cell.new.self + 1 ≡ finmap.len c.self.inside.tags = ap (λ m. finmap.len m + 1) c.remove-cell.ensures ∙ len_less c.self.inside.tags p.range.base p at in
    let room = c.self.invariant.1.room in
    omega (arith, len, room)

pub give_back-became-requires-clause-ticks : goal.give_back-became-requires-clause-ticks
give_back-became-requires-clause-ticks g c =
    let a = the_state c.self.invariant.0 in
    let p : Holding = c.new-tagged.result in
    let seg_is : c.new-tagged.result ≡ c.args.segment.holding = tagged_is _ _ _ _ c.new-tagged.ensures c.root.ensures c.range.ensures.value in
    let at : finmap.get c.self.inside.tags p.range.base ≡ Some p = search rules in
    let spans = spans_said a c.span_at.result _ _ _ p.range.base refl refl c.base-2.ensures.value c.span_at.ensures in
    let s : Holding = c.unwrap-span.result in
    let lies = lies_in a p s c.span_at.result c.self.invariant.0.divided at spans c.unwrap-span.ensures in
    let new_is : c.new-deed.result ≡ p = c.new-deed.ensures ∙ c.into_deed.ensures ∙ sym seg_is in
    let len : finmap.len c.remove-cell.new.self + 1 ≡ finmap.len c.self.inside.tags = ap (λ m. finmap.len m + 1) c.remove-cell.ensures ∙ len_less c.self.inside.tags p.range.base p at in
    let ticks = c.self.invariant.1.ticks in
    omega (arith, len, ticks)

pub invariant_of-self : goal.invariant_of-self
invariant_of-self g c =
    let a = the_state c.self.invariant.0 in
    let p : Holding = c.new-tagged.result in
    let seg_is : c.new-tagged.result ≡ c.args.segment.holding = tagged_is _ _ _ _ c.new-tagged.ensures c.root.ensures c.range.ensures.value in
    let at : finmap.get c.self.inside.tags p.range.base ≡ Some p = search rules in
    let spans = spans_said a c.span_at.result _ _ _ p.range.base refl refl c.base-2.ensures.value c.span_at.ensures in
    let s : Holding = c.unwrap-span.result in
    let lies = lies_in a p s c.span_at.result c.self.invariant.0.divided at spans c.unwrap-span.ensures in
    let new_is : c.new-deed.result ≡ p = c.new-deed.ensures ∙ c.into_deed.ensures ∙ sym seg_is in
    let len : finmap.len c.remove-cell.new.self + 1 ≡ finmap.len c.self.inside.tags = ap (λ m. finmap.len m + 1) c.remove-cell.ensures ∙ len_less c.self.inside.tags p.range.base p at in
    let back = subst (λ b. ComesBack c.is_span-lent.result s c.new-deed.result a.free c.give_back-became.new.self.ranges (whole_of b)) c.in-Free.is c.give_back-became.ensures.returned in
    let merged : Holding = back.merged in
    let merges : Merges s p a.free merged back.mid = subst (λ (h : Holding). Merges s h a.free merged back.mid) new_is back.merges in
    let none = none_lent a p s lies merged (merged_has s p merged a.free back.mid merges) (not_lent a.imported s merged c.is_span-lent.result c.is_span-lent.ensures back.leaves.0) in
    let tags : c.tell.new.tags ≡ finmap.remove a.allocated p.range.base = c.tell.ensures.tags ∙ (c.join-cell.ensures.unchanged ∙ c.remove-cell.ensures) in
    let after = freed_is a p s lies merged back.mid merges _ _ (ap (λ v. v.ranges) c.tell.ensures.free ∙ back.leaves.1) tags in (
      freed_is_sound a p s lies merged back.mid merges c.self.invariant.0 none _ after,
      backed_told c.self.inside.policy _ _ _ _ c.tell.ensures.free (c.tell.ensures.tags ∙ c.join-cell.ensures.unchanged) (backed_free c.self.inside.policy c.self.inside.free c.give_back-became.new.self _ _ (comes_fewer _ _ _ _ _ _ back) c.give_back-became.ensures.setup c.give_back-became.ensures.ticks len c.self.invariant.1),
    )

pub span_at-requires-clause-owned : goal.span_at-requires-clause-owned
span_at-requires-clause-owned g c = disjoint_owned (the_state c.self.invariant.0) c.self.invariant.0.divided

pub span_at-requires-clause-imported : goal.span_at-requires-clause-imported
span_at-requires-clause-imported g c = disjoint_imported (the_state c.self.invariant.0) c.self.invariant.0.divided

pub is_span-lent-requires : goal.is_span-lent-requires
is_span-lent-requires g c = disjoint_imported (the_state c.self.invariant.0) c.self.invariant.0.divided

pub take-import-requires-clause-disjoint : goal.take-import-requires-clause-disjoint
take-import-requires-clause-disjoint g c = disjoint_imported (the_state c.self.invariant.0) c.self.invariant.0.divided

pub take-import-requires-clause-present : goal.take-import-requires-clause-present
take-import-requires-clause-present g c =
    let a = the_state c.self.invariant.0 in
    let p : Holding = c.new-tagged.result in
    let seg_is : c.new-tagged.result ≡ c.args.segment.holding = tagged_is _ _ _ _ c.new-tagged.ensures c.root.ensures c.range.ensures.value in
    let at : finmap.get c.self.inside.tags p.range.base ≡ Some p = search rules in
    let spans = spans_said a c.span_at.result _ _ _ p.range.base refl refl c.base-2.ensures.value c.span_at.ensures in
    let s : Holding = c.unwrap-span.result in
    let lies = lies_in a p s c.span_at.result c.self.invariant.0.divided at spans c.unwrap-span.ensures in
    let new_is : c.new-deed.result ≡ p = c.new-deed.ensures ∙ c.into_deed.ensures ∙ sym seg_is in
    let back = subst (λ b. ComesBack c.is_span-lent.result s c.new-deed.result a.free c.give_back-became.new.self.ranges (whole_of b)) c.in-Whole.is c.give_back-became.ensures.returned in
    lent_there _ _ c.is_span-lent.result c.is_span-lent.ensures back.leaves.0

pub invariant_of-self-in-Whole : goal.invariant_of-self-in-Whole
invariant_of-self-in-Whole g c =
    let a = the_state c.self.invariant.0 in
    let p : Holding = c.new-tagged.result in
    let seg_is : c.new-tagged.result ≡ c.args.segment.holding = tagged_is _ _ _ _ c.new-tagged.ensures c.root.ensures c.range.ensures.value in
    let at : finmap.get c.self.inside.tags p.range.base ≡ Some p = search rules in
    let spans = spans_said a c.span_at.result _ _ _ p.range.base refl refl c.base-2.ensures.value c.span_at.ensures in
    let s : Holding = c.unwrap-span.result in
    let lies = lies_in a p s c.span_at.result c.self.invariant.0.divided at spans c.unwrap-span.ensures in
    let new_is : c.new-deed.result ≡ p = c.new-deed.ensures ∙ c.into_deed.ensures ∙ sym seg_is in
    let len : finmap.len c.remove-cell.new.self + 1 ≡ finmap.len c.self.inside.tags = ap (λ m. finmap.len m + 1) c.remove-cell.ensures ∙ len_less c.self.inside.tags p.range.base p at in
    let back = subst (λ b. ComesBack c.is_span-lent.result s c.new-deed.result a.free c.give_back-became.new.self.ranges (whole_of b)) c.in-Whole.is c.give_back-became.ensures.returned in
    let merged : Holding = back.merged in
    let left : List Holding = c.give_back-became.new.self.ranges in
    let merges : Merges s p a.free merged left = subst (λ (xs : List Holding). Merges s p a.free merged xs) (sym back.leaves.3) (subst (λ (h : Holding). Merges s h a.free merged back.mid) new_is back.merges) in
    let o = c.take-import.ensures.items in
    let k : ℕ = o.0 in
    let found : (k < length a.imported) × HoldsAt (λ t. t.holding ≡ merged) a.imported k = (o.1, λ d. ap (λ (t : Tag). t.holding) (o.2 d) ∙ (c.take-import.ensures.span ∙ sym back.leaves.1)) in
    let tags : c.vacate.new.self ≡ finmap.remove a.allocated p.range.base = c.vacate.ensures.unchanged ∙ (c.join-cell.ensures.unchanged ∙ c.remove-cell.ensures) in
    let after = returned_is a p s lies merged left merges k found.0 found.1 _ _ o.3 tags in (
      returned_is_sound a p s lies merged left merges k found.0 found.1 c.self.invariant.0 _ after,
      backed_told c.self.inside.policy _ _ _ _ refl (c.vacate.ensures.unchanged ∙ c.join-cell.ensures.unchanged) (backed_free c.self.inside.policy c.self.inside.free c.give_back-became.new.self _ _ (comes_fewer _ _ _ _ _ _ back) c.give_back-became.ensures.setup c.give_back-became.ensures.ticks len c.self.invariant.1),
    )

pub returns-in-Free : goal.returns-in-Free
returns-in-Free g c =
    let a = the_state c.self.invariant.0 in
    let p : Holding = c.new-tagged.result in
    let seg_is : c.new-tagged.result ≡ c.args.segment.holding = tagged_is _ _ _ _ c.new-tagged.ensures c.root.ensures c.range.ensures.value in
    let at : finmap.get c.self.inside.tags p.range.base ≡ Some p = search rules in
    let spans = spans_said a c.span_at.result _ _ _ p.range.base refl refl c.base-2.ensures.value c.span_at.ensures in
    let s : Holding = c.unwrap-span.result in
    let lies = lies_in a p s c.span_at.result c.self.invariant.0.divided at spans c.unwrap-span.ensures in
    let new_is : c.new-deed.result ≡ p = c.new-deed.ensures ∙ c.into_deed.ensures ∙ sym seg_is in
    let back = subst (λ b. ComesBack c.is_span-lent.result s c.new-deed.result a.free c.give_back-became.new.self.ranges (whole_of b)) c.in-Free.is c.give_back-became.ensures.returned in
    let merged : Holding = back.merged in
    let merges : Merges s p a.free merged back.mid = subst (λ (h : Holding). Merges s h a.free merged back.mid) new_is back.merges in
    let none = none_lent a p s lies merged (merged_has s p merged a.free back.mid merges) (not_lent a.imported s merged c.is_span-lent.result c.is_span-lent.ensures back.leaves.0) in
    let tags : c.tell.new.tags ≡ finmap.remove a.allocated p.range.base = c.tell.ensures.tags ∙ (c.join-cell.ensures.unchanged ∙ c.remove-cell.ensures) in
    let after = freed_is a p s lies merged back.mid merges _ _ (ap (λ v. v.ranges) c.tell.ensures.free ∙ back.leaves.1) tags in
    let tagged : IsTagged c.args.self.now c.args.segment = search rules in
    let id : c.self.inside.id ≡ c.args.self.now.id = ap (λ (s : ArenaState). s.id) c.self.view_is in
    let segment : c.args.segment ≡ direct_tag c.args.self.now.id c.args.segment.holding = same_tag _ _ tagged.arena tagged.route refl in
    let loses : Loses (ranges_of c.self.inside.tags) (ranges_of c.tell.new.tags) p = subst (λ m. Loses (ranges_of c.self.inside.tags) (ranges_of m) p) (sym tags) (loses_remove c.self.inside.tags p.range.base p at) in record {
      freed = record {
        mine = tagged;
        frees = rw seg_is at (rw c.self.view_is at (frees a p s lies merged back.mid merges _ after none));
        from = tt;
      };
      sound = freed_is_sound a p s lies merged back.mid merges c.self.invariant.0 none _ after;
      kept = search rules;
      owned = search rules;
      loses = tags_lose c.args.self.now (record a { free = c.tell.new.free.ranges; allocated = c.tell.new.tags }) c.args.segment.holding c.args.segment id (subst (λ (h : Holding). Loses (ranges_of c.args.self.now.allocated) (ranges_of c.tell.new.tags) h) seg_is (subst (λ (x : ArenaState). Loses (ranges_of x.allocated) (ranges_of c.tell.new.tags) p) c.self.view_is loses)) segment;
      returned = (λ f.
          let now : sum_by f c.self.inside.imported.items ≡ sum_by f c.args.self.now.imported = ap (λ (s : ArenaState). sum_by f s.imported) c.self.view_is in
          omega (arith, now));
      spans = (λ u. let now = ap (λ (s : ArenaState). covering_held u (spans_of s)) c.self.view_is in omega (arith, now));
      covering = (λ u.
          let counts = freed_covers a p s lies merged back.mid merges u in
          let same : covering_held u c.tell.new.free.ranges ≡ covering_held u (after_free a p merged).free = ap (λ (x : ArenaState). covering_held u x.free) after in
          let old : covering_held u a.free ≡ covering_held u c.args.self.now.free = ap (λ (x : ArenaState). covering_held u x.free) c.self.view_is in
          let piece : covers u p.range ≡ covers u c.args.segment.holding.range = ap (λ (h : Holding). covers u h.range) seg_is in
          omega (arith, counts, same, old, piece));
    }

pub returns-in-Whole : goal.returns-in-Whole
returns-in-Whole g c =
    let a = the_state c.self.invariant.0 in
    let p : Holding = c.new-tagged.result in
    let seg_is : c.new-tagged.result ≡ c.args.segment.holding = tagged_is _ _ _ _ c.new-tagged.ensures c.root.ensures c.range.ensures.value in
    let at : finmap.get c.self.inside.tags p.range.base ≡ Some p = search rules in
    let spans = spans_said a c.span_at.result _ _ _ p.range.base refl refl c.base-2.ensures.value c.span_at.ensures in
    let s : Holding = c.unwrap-span.result in
    let lies = lies_in a p s c.span_at.result c.self.invariant.0.divided at spans c.unwrap-span.ensures in
    let new_is : c.new-deed.result ≡ p = c.new-deed.ensures ∙ c.into_deed.ensures ∙ sym seg_is in
    let back = subst (λ b. ComesBack c.is_span-lent.result s c.new-deed.result a.free c.give_back-became.new.self.ranges (whole_of b)) c.in-Whole.is c.give_back-became.ensures.returned in
    let merged : Holding = back.merged in
    let left : List Holding = c.give_back-became.new.self.ranges in
    let merges : Merges s p a.free merged left = subst (λ (xs : List Holding). Merges s p a.free merged xs) (sym back.leaves.3) (subst (λ (h : Holding). Merges s h a.free merged back.mid) new_is back.merges) in
    let o = c.take-import.ensures.items in
    let k : ℕ = o.0 in
    let found : (k < length a.imported) × HoldsAt (λ t. t.holding ≡ merged) a.imported k = (o.1, λ d. ap (λ (t : Tag). t.holding) (o.2 d) ∙ (c.take-import.ensures.span ∙ sym back.leaves.1)) in
    let tags : c.vacate.new.self ≡ finmap.remove a.allocated p.range.base = c.vacate.ensures.unchanged ∙ (c.join-cell.ensures.unchanged ∙ c.remove-cell.ensures) in
    let after = returned_is a p s lies merged left merges k found.0 found.1 _ _ o.3 tags in
    let back_is = back.leaves.2 in
    let import : Tag = c.take-import.result in
    let holding : import.holding ≡ merged = c.take-import.ensures.span ∙ sym back.leaves.1 in
    let in_list : Contains a.imported import = (k, found.0, o.2 import) in
    let route : import.route ≡ Direct = All-contains (λ t. t.route ≡ Direct) a.imported import c.self.invariant.0.divided.routes in_list in
    let same_import : c.new.result ≡ import = c.new.ensures ∙ same_tag _ import c.source.ensures (sym route) (c.into_deed-in-Whole.ensures ∙ back_is ∙ sym holding) in
    let tagged : IsTagged c.args.self.now c.args.segment = search rules in
    let id : c.self.inside.id ≡ c.args.self.now.id = ap (λ (s : ArenaState). s.id) c.self.view_is in
    let segment : c.args.segment ≡ direct_tag c.args.self.now.id c.args.segment.holding = same_tag _ _ tagged.arena tagged.route refl in
    let owned : holdings_of c.self.inside.owned.items ≡ c.args.self.now.owned = ap (λ (s : ArenaState). s.owned) c.self.view_is in
    let returned : (f : Tag → ℕ) → sum_by f c.args.self.now.imported ≡ sum_by f c.take-import.new.self.items + sum_by f (option_to_list (Some c.new.result)) =
    (λ f.
    let less : sum_by f c.take-import.new.self.items ≡ sum_by f (remove a.imported k) = ap (sum_by f) o.3 in
    let out : sum_by f (remove a.imported k) + f (get_or a.imported k import) ≡ sum_by f a.imported = sum_by-remove f a.imported k import found.0 in
    let here : f (get_or a.imported k import) ≡ f c.new.result = ap f (o.2 import ∙ sym same_import) in
    let now : sum_by f a.imported ≡ sum_by f c.args.self.now.imported = ap (λ (s : ArenaState). sum_by f s.imported) c.self.view_is in
    omega (arith, less, out, here, now, sum_by-cons f c.new.result [])) in
    let loses : Loses (ranges_of c.self.inside.tags) (ranges_of c.vacate.new.self) p = subst (λ m. Loses (ranges_of c.self.inside.tags) (ranges_of m) p) (sym tags) (loses_remove c.self.inside.tags p.range.base p at) in record {
      freed = record {
        mine = tagged;
        frees = rw seg_is at (rw c.self.view_is at (frees_back a p s lies merged left merges k found.0 found.1 _ c.new.result after (same_import ∙ sym (o.2 import) ∙ get_or_default a.imported k import c.new.result found.0)));
        from = (
          subst (λ (x : ArenaState). Contains x.imported c.new.result) c.self.view_is (subst (Contains a.imported) (sym same_import) in_list),
          ap (λ (t : Tag). t.route) c.new.ensures,
        );
      };
      sound = returned_is_sound a p s lies merged left merges k found.0 found.1 c.self.invariant.0 _ after;
      kept = search rules;
      owned = search rules;
      loses = tags_lose c.args.self.now (record a { imported = c.take-import.new.self.items; free = left; allocated = c.vacate.new.self }) c.args.segment.holding c.args.segment id (subst (λ (h : Holding). Loses (ranges_of c.args.self.now.allocated) (ranges_of c.vacate.new.self) h) seg_is (subst (λ (x : ArenaState). Loses (ranges_of x.allocated) (ranges_of c.vacate.new.self) p) c.self.view_is loses)) segment;
      returned = returned;
      spans = free_spans c.args.self.now (record a { imported = c.take-import.new.self.items; free = left; allocated = c.vacate.new.self }) owned (Some c.new.result) returned;
      covering = (λ u.
          let counts = merge_covers a p s lies merged left merges u in
          let old : covering_held u a.free ≡ covering_held u c.args.self.now.free = ap (λ (x : ArenaState). covering_held u x.free) c.self.view_is in
          let piece : covers u p.range ≡ covers u c.args.segment.holding.range = ap (λ (h : Holding). covers u h.range) seg_is in
          let holding : c.new.result.holding ≡ merged = ap (λ (t : Tag). t.holding) c.new.ensures ∙ c.into_deed-in-Whole.ensures ∙ back_is in
          let one : covers_tag u c.new.result ≡ covers u merged.range = ap (λ (h : Holding). covers u h.range) holding in
          omega (arith, counts, old, piece, one, sum_by-cons (covers_tag u) c.new.result []));
    }
