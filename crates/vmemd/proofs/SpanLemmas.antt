-- What a setup and grows give an arena it owns, after any lines.
use Rattle.std.proofs.Common.{◌≡◌, ◌==◌, ◌+◌, ◌≤◌, ℕ, zero, suc, true, refl, sym, subst, ap, ◌∙◌, inl, inr, List, [], ◌∷◌, ◌++◌, Some, None, Contains, eq-eqb}
use Rattle.std.specs.Prelude.{slice_get}
use Rattle.std.proofs.lemmas.Bool.{cases_Bool}
use Rattle.std.proofs.lemmas.List.Elements.{Contains-append_left}
use Rattle.std.proofs.lemmas.Option.{slice_get-get_or}
use Rattle.deed_core.specs.Extent.{Extent, end_of}
use Rattle.deed_core.specs.Holding.{Holding}
use Rattle.deed_core.specs.Request.{Fits}
use Rattle.deed_core.proofs.LawProofs.{contains_at, mapped, slice_get_mapped}
use Rattle.tag_arena.specs.ArenaState.{ArenaState}
use Rattle.tag_arena.specs.Place.{ServesIn}
use Rattle.arena_tree.specs.declared.setups.OwnedSpan.{OwnedSpan}
use Rattle.arena_tree.specs.declared.trees.TreeArena.{TreeArena}
use Rattle.arena_tree.specs.Settings.{SetupState, span_count}
use Rattle.arena_tree.specs.Trees.{index_in}
use Rattle.stock.specs.Setups.{deeds_after, deeds_owned, numbered_deeds, plan_for, root_number}
use Rattle.stock.specs.Spaces.{SpaceState, SpacePlan, plan_of, plans_of}
use Rattle.lease_proto.specs.declared.lines.LeaseLine.{LeaseLine}
use Rattle.lease_proto.specs.Requests.{demand_of}
use Rattle.lease_machine.specs.Picture.{Picture, SetupGrows}
use Rattle.lease_machine.specs.RoomLaws.{NamesArena}
use Rattle.lease_machine.proofs.LawProofs.{setup_only_grows, grown_stays}
use Rattle.stock_desk.specs.Openings.{IsOpenedFrom}
use Rattle.vmemd.specs.Laws.{Script, IsGiven, FitsInRange, FitsInSpan}

-- a span that stands somewhere is among those of its arena
span_owned : (k : ℕ) (before spans : List OwnedSpan) (j : ℕ) (o : OwnedSpan) → slice_get spans j ≡ Some o → o.arena ≡ k
    → (i : ℕ) × (h : Holding) × (slice_get (deeds_owned k spans (deeds_after before spans)) i ≡ Some h) × (h.range ≡ o.range)
span_owned k before [] j o at here = absurd (let e : None ≡ Some o = at in cc)
span_owned k before (p ∷ spans) zero o at here =
    let same : p ≡ o = (let e : Some p ≡ Some o = at in cc) in
    let own : (p.arena == k) ≡ true = eq-eqb p.arena k (ap (λ (x : OwnedSpan). x.arena) same ∙ here) in
    (0, record { root = root_number p.arena (span_count p.arena before); range = p.range }, rw own refl, ap (λ (x : OwnedSpan). x.range) same)
span_owned k before (p ∷ spans) (suc j) o at here =
    let rest = span_owned k (before ++ p ∷ []) spans j o at here in
    elim (cases_Bool (p.arena == k)) [
      | inl own ↦ (suc rest.0, rest.1, rw own rest.2, rest.3)
      | inr other ↦ (rest.0, rest.1, rw other rest.2, rest.3)
    ]

-- the arena at the index owns a span of these units
pub record OwnsRange (d : Picture) (index : ℕ) (range : Extent) : Type 0 where
  pub space : SpaceState
  pub here : slice_get d.spaces index ≡ Some space
  pub span : Holding
  pub owns : Contains space.arena.owned span
  pub units : span.range ≡ range

-- and it owns it on
pub owns_on : (old new : Picture) (index : ℕ) (range : Extent) → SetupGrows old new → OwnsRange old index range → OwnsRange new index range
owns_on old new index range on is =
    let t = on.owned index is.space is.here in
    record {
      space = t.0;
      here = t.1;
      span = is.span;
      owns = subst (λ (hs : List Holding). Contains hs is.span) (sym t.2.1) (Contains-append_left is.space.arena.owned t.2.0 is.span is.owns);
      units = is.units;
    }

-- a desk's arenas own the spans of its setup
setup_owned : (made : SetupState) (desk : Picture) → IsOpenedFrom made desk → (arena : TreeArena) (span : OwnedSpan) → Contains made.spans span → slice_get made.arenas span.arena ≡ Some arena → OwnsRange desk span.arena span.range
setup_owned made desk is arena span has here =
    let k : ℕ = span.arena in
    let planned : slice_get (plans_of desk.spaces) k ≡ Some (plan_for arena) =
    ap (λ (ps : List SpacePlan). slice_get ps k) is.stock.plans ∙ slice_get_mapped plan_for made.arenas k arena here in
    let first = mapped plan_of desk.spaces k (plan_for arena) planned in
    let owns_first : first.0.arena.owned ≡ deeds_owned k made.spans (numbered_deeds made.spans) = ap (λ (a : ArenaState). a.owned) (is.stock.unused k first.0 first.1).arena in
    let at : slice_get made.spans has.0 ≡ Some span = slice_get-get_or made.spans has.0 span has.1 ∙ ap Some has.2 in
    let own = span_owned k [] made.spans has.0 span at refl in
    let stands : slice_get first.0.arena.owned own.0 ≡ Some own.1 = ap (λ (os : List Holding). slice_get os own.0) owns_first ∙ own.2 in
    record { space = first.0; here = first.1; span = own.1; owns = contains_at first.0.arena.owned own.0 own.1 stands; units = own.3 }

pub script_tree : (last : Picture) (s : Script last) → last.tree ≡ s.made.arenas
script_tree last s = (setup_only_grows s.desk last s.frames s.text s.serves).tree ∙ s.opened.tree

-- what an arena was given it owns
pub given_owned : (last : Picture) (s : Script last) (index : ℕ) (range : Extent) (arena : TreeArena) → slice_get s.made.arenas index ≡ Some arena → IsGiven last s index range → OwnsRange last index range
given_owned last s index range arena here (inl (span, has, own, units)) =
    let at : slice_get s.made.arenas span.arena ≡ Some arena = ap (slice_get s.made.arenas) own ∙ here in
    let first = setup_owned s.made s.desk s.opened arena span has at in
    let owns = owns_on s.desk last span.arena span.range (setup_only_grows s.desk last s.frames s.text s.serves) first in
    subst (λ (e : Extent). OwnsRange last index e) units (subst (λ (k : ℕ). OwnsRange last k span.range) own owns)
given_owned last s index range arena here (inr (g, has, named, units)) =
    let added = grown_stays has.old has.mid last g has.rest has.later has.grew has.after in
    let same : Some added.index ≡ Some index = sym added.named ∙ ap (index_in g.arena) (script_tree last s) ∙ named in
    let one : added.index ≡ index = cc in
    record { space = added.space; here = ap (slice_get last.spaces) (sym one) ∙ added.here; span = added.span; owns = added.owns; units = added.range ∙ units }

-- the arena that the lease names is there, and the span that it fits in
pub record IsThere (d : Picture) (l : LeaseLine) (x : TreeArena) (base : ℕ) : Type 0 where
  pub space : SpaceState
  pub span : Holding
  pub names : NamesArena d l x space
  pub owns : Contains space.arena.owned span
  pub serves : ServesIn x.quantum (demand_of l) span base

-- what fits in a range is served in a span of these units
pub range_serves : (arenas : List TreeArena) (index : ℕ) (range : Extent) (l : LeaseLine) (f : FitsInRange arenas index range l) (span : Holding) → span.range ≡ range → ServesIn f.arena.quantum (demand_of l) span f.base
range_serves arenas index range l f span units = record {
  fits = subst (λ (n : ℕ). Fits f.arena.quantum (demand_of l) f.base n) f.fits.size f.fits;
  from = subst (λ (e : Extent). e.base ≤ f.base) (sym units) f.from;
  to = subst (λ (n : ℕ). f.base + n ≤ end_of span.range) f.fits.size (subst (λ (e : Extent). f.base + f.len ≤ end_of e) (sym units) f.to);
}

pub range_there : (d : Picture) (arenas : List TreeArena) (index : ℕ) (range : Extent) (l : LeaseLine) → d.tree ≡ arenas → OwnsRange d index range → (f : FitsInRange arenas index range l) → IsThere d l f.arena f.base
range_there d arenas index range l tree is f = record {
  space = is.space;
  span = is.span;
  names = record {
    index = index;
    finds = record { first = ap (index_in l.arena) tree ∙ f.named; here = ap (λ (t : List TreeArena). slice_get t index) tree ∙ f.here };
    here = is.here;
  };
  owns = is.owns;
  serves = range_serves arenas index range l f is.span is.units;
}

pub span_there : (last : Picture) (s : Script last) (l : LeaseLine) (f : FitsInSpan last s l) → IsThere last l f.3.arena f.3.base
span_there last s l f = range_there last s.made.arenas f.0 f.1 l (script_tree last s) (given_owned last s f.0 f.1 f.3.arena f.3.here f.2) f.3
