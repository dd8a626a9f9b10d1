-- What a root gets that grows, and what becomes of it.
use Rattle.std.proofs.Common.{◌≡◌, ◌≢◌, ◌⊎◌, ◌∙◌, ℕ, ◌+◌, ◌≤◌, refl, sym, subst, ap, inl, inr, List, [], ◌∷◌, ◌++◌, map, set, Contains, All, Some, Result, Ok, Err, arith, get_or}
use Rattle.std.specs.Prelude.{slice_get, sum_by}
use Rattle.std.specs.List.{flat_map}
use Rattle.std.proofs.lemmas.Bool.{cases_eq}
use Rattle.std.proofs.lemmas.List.{length-set, append-nil}
use Rattle.std.proofs.lemmas.List.Elements.{All-set, Contains-append_left, Contains-append_right}
use Rattle.std.proofs.lemmas.List.Folds.{flat_map-map}
use Rattle.std.proofs.lemmas.List.Sums.{sum_by-append}
use Rattle.std.proofs.lemmas.Option.{slice_get_within}
use Rattle.deed_core.specs.Extent.{Extent, Covers, end_of}
use Rattle.deed_core.specs.Covering.{covers_held, units_in}
use Rattle.deed_core.specs.Holding.{Holding}
use Rattle.deed_core.specs.Request.{rounding_of}
use Rattle.deed_core.proofs.LawProofs.{covers_is, all_at, contains_at, slice_get-set, slice_get-set_other, written, map_set_same}
use Rattle.tag_arena.specs.ArenaState.{ArenaState, spans_of, layout_of}
use Rattle.tag_arena.specs.Layout.{FreeIsLongestRuns, IsRun}
use Rattle.arena_tree.specs.Trees.{index_in}
use Rattle.stock.specs.Spaces.{SpaceState, SpacePlan, QuantumCacheState, IsCacheAt, with_arena}
use Rattle.stock.specs.Sums.{Out, Sums, held_of, homes_of, sums_of}
use Rattle.stock.specs.Endings.{IsReaped}
use Rattle.stock.specs.OwnCaches.{OwnCacheState}
use Rattle.stock_audit.specs.Chains.{unit_of_arena}
use Rattle.stock_audit.specs.Keeping.{IsStep}
use Rattle.stock_audit.specs.Outside.{out_of}
use Rattle.stock_audit.proofs.LawProofs.{hand_steps_keep}
use Rattle.local_parts.specs.Cpus.{own_indexes, indexes_from}
use Rattle.lease_proto.specs.declared.faults.ErrorWord.{ErrorWord}
use Rattle.lease_proto.specs.declared.faults.LineFault.{LineFault}
use Rattle.lease_proto.specs.declared.operators.GrowLine.{GrowLine}
use Rattle.lease_proto.specs.declared.operators.OperatorLine.TheVariants as operator
use Rattle.lease_proto.specs.declared.operators.ServedLine.{ServedLine}
use Rattle.lease_proto.specs.declared.operators.ServedLine.TheVariants as served
use Rattle.lease_proto.specs.Cpus.{IsCpu}
use Rattle.lease_proto.specs.Faults.{error_text}
use Rattle.lease_proto.specs.Operators.{served_of}
use Rattle.lease_proto.specs.Reports.{ok_text, outcome_text}
use Rattle.lease_proto.specs.Requests.{demand_of}
use Rattle.lease_call.specs.Growing.{grow_word, range_asked}
use Rattle.lease_machine.specs.Picture.{Picture, IsPicture, IsShapedIn, SetupGrows, GoOn, held_outside}
use Rattle.lease_machine.specs.Operators.{Grows, sums_in}
use Rattle.lease_machine.specs.Machine.{AnswersLine, LeaseStep}
use Rattle.lease_machine.specs.GrowLaws.{AddsFree, GrowsAddFree, Grew, GrownIsServed, GrownStays, GrowsKeep, GrowsKeepNothing, GrowsAreAnswered, grown, with_more_free, free_alone}
use Rattle.lease_machine.specs.RoomLaws.{NothingIsKept}
use Rattle.lease_machine.proofs.Homes.{setup_only_grows, units_have_one_home}
use Rattle.lease_machine.proofs.Leases.{answer_to}
use Rattle.lease_machine.proofs.NoRoom.{no_fit_means_taken}
use Rattle.lease_machine.proofs.Spans.{grows_none}

-- no refusal is told by the text of a line that was done
not_ok : (w : ErrorWord) → error_text w ≢ ok_text
not_ok w same = (let e : 101 ≡ 111 = ap (λ xs. get_or xs 0 0) same in omega (arith, e))

-- where the root went, and that nothing else changed
record Adds (g : GrowLine) (old new : Picture) : Type 0 where
  pub index : ℕ
  pub named : index_in g.arena old.tree ≡ Some index
  pub space : SpaceState
  pub here : slice_get old.spaces index ≡ Some space
  pub root : Holding
  pub range : root.range ≡ range_asked g
  pub after : new ≡ record old { spaces = set old.spaces index (grown root space) }

grow_adds : (old new : Picture) (g : GrowLine) (text : List ℕ) → Grows g old text new → ((text ≡ ok_text) × Adds g old new) ⊎ ((text ≢ ok_text) × (new ≡ old))
grow_adds old new g text (told, says, inl none) = inr (λ ok. not_ok none.0 (sym (says ∙ ap outcome_text none.2) ∙ ok), none.3)
grow_adds old new g text (told, says, inr (growth, asks, (Err why, is, by, same))) =
    inr (λ ok. not_ok (grow_word why) (sym (says ∙ ap outcome_text is) ∙ ok), same ∙ ap (λ (ss : List SpaceState). record old { spaces = ss }) by.1)
grow_adds old new g text (told, says, inr (growth, asks, (Ok u, is, by, same))) =
    let on = by.1 in
    inl (
      says ∙ ap outcome_text is,
      record {
        index = growth.arena;
        named = asks.0.1;
        space = on.space;
        here = on.at;
        root = _;
        range = asks.2;
        after = same ∙ ap (λ (ss : List SpaceState). record old { spaces = ss }) (on.after ∙ ap (λ (a : ArenaState). set old.spaces growth.arena (with_arena a on.space)) on.does);
      },
    )

answered : (old new : Picture) (g : GrowLine) (line text : List ℕ) → served_of line ≡ Ok (served.Operator (operator.Grow g)) → LeaseStep old line text new → Grows g old text new
answered old new g line text read step = elim (answer_to old new line text (Ok (served.Operator (operator.Grow g))) read step) [
  | inl does ↦ does
  | inr left ↦ absurd left.1
]

flat_map_set_same : {X Y : Type 0} (f : X → List Y) (xs : List X) (i : ℕ) (x y : X) → slice_get xs i ≡ Some x → f y ≡ f x → flat_map f (set xs i y) ≡ flat_map f xs
flat_map_set_same f xs i x y at same =
    let whole : (ys : _) → flat_map (λ l. l) (map f ys) ≡ flat_map f ys = (λ ys. flat_map-map (λ l. l) f ys) in
    sym (whole (set xs i y)) ∙ ap (flat_map (λ l. l)) (map_set_same f xs i x y at same) ∙ whole xs

module _ (old : Picture) (index : ℕ) (space : SpaceState) (here : slice_get old.spaces index ≡ Some space) (root : Holding) where
  abbrev spaces_then : List SpaceState
  spaces_then = set old.spaces index (grown root space)

  abbrev then_d : Picture
  then_d = record old { spaces = spaces_then }

  there : slice_get spaces_then index ≡ Some (grown root space)
  there = slice_get-set old.spaces index (grown root space) (slice_get_within old.spaces index space here)

  -- what arenas exported is what it was
  exported_same : (k : ℕ) → flat_map (λ x. held_of k x.arena.imported) spaces_then ≡ flat_map (λ x. held_of k x.arena.imported) old.spaces
  exported_same k = flat_map_set_same (λ (x : SpaceState). held_of k x.arena.imported) old.spaces index space (grown root space) here refl

  other_sums : (f : Holding → ℕ) (out : Out) (s : SpaceState) → sums_of f (homes_of spaces_then out s) ≡ sums_of f (homes_of old.spaces out s)
  other_sums f out s = ap (λ (hs : List Holding). record (sums_of f (homes_of old.spaces out s)) { exported = sum_by f hs }) (exported_same s.arena.id)

  own_sums : (f : Holding → ℕ) (out : Out) → sums_of f (homes_of spaces_then out (grown root space)) ≡ with_more_free (f root) (sums_of f (homes_of old.spaces out space))
  own_sums f out =
      let before = sums_of f (homes_of old.spaces out space) in
      let more : sum_by f (space.arena.free ++ root ∷ []) ≡ before.free + f root = omega (arith, sum_by-append f space.arena.free (root ∷ [])) in
      other_sums f out (grown root space) ∙ ap (λ (n : ℕ). record before { free = n }) more

  grows_setup : SetupGrows old then_d
  grows_setup = record {
    tree = refl;
    count = length-set old.spaces index (grown root space);
    owned = λ k s at. goes_on k s at;
  }
    where
      goes_on : (k : ℕ) (s : SpaceState) → slice_get old.spaces k ≡ Some s → (t : SpaceState) × (slice_get spaces_then k ≡ Some t) × GoOn s.arena.owned t.arena.owned
      goes_on k s at = elim (cases_eq k index) [
        | inl same ↦
            let is : Some space ≡ Some s = sym here ∙ ap (slice_get old.spaces) (sym same) ∙ at in
            let one : space ≡ s = cc in
            (grown root space, ap (slice_get spaces_then) same ∙ there, subst (λ (x : SpaceState). GoOn x.arena.owned (grown root space).arena.owned) one (root ∷ [], refl))
        | inr other ↦ (s, slice_get-set_other old.spaces index k (grown root space) other ∙ at, ([], sym (append-nil s.arena.owned)))
      ]

  cache_stood : (k j : ℕ) (c : QuantumCacheState) → IsCacheAt spaces_then k j c → IsCacheAt old.spaces k j c
  cache_stood k j c is = elim (written old.spaces index k (grown root space) is.space is.at) [
    | inl this ↦ record { space = space; at = ap (slice_get old.spaces) this.0 ∙ here; among = ap (λ (y : SpaceState). slice_get y.caches j) (sym this.1) ∙ is.among }
    | inr other ↦ record { space = is.space; at = other.1; among = is.among }
  ]

  shape_stays : (o : OwnCacheState) → IsShapedIn old.spaces o → IsShapedIn spaces_then o
  shape_stays o is = record { shape = is.shape; most = λ c at. is.most c (cache_stood o.arena o.cache c at) }

  picture_stays : IsPicture old → IsStep old.spaces [] spaces_then [] → IsPicture then_d
  picture_stays is step = record {
    held = record {
      tree = is.held.tree;
      plans = step.fixed ∙ is.held.plans;
      units = hand_steps_keep old.spaces spaces_then [] [] (held_outside old) (held_outside old) is.held.units step
          (record { rest = []; gave = λ f. refl; took = λ f. refl; leases = refl; cpus = refl });
      cpus = record {
        each = subst (λ (ps : List SpacePlan). All (λ c. IsCpu c.number × (own_indexes c.caches ≡ indexes_from 0 ps)) old.cpus) (sym step.fixed) is.held.cpus.each;
        shapes = λ i c below j o within. shape_stays _ (is.held.cpus.shapes i c below j o within);
        numbers = is.held.cpus.numbers;
        there = is.held.cpus.there;
      };
    };
    book = is.book;
  }

  -- a unit of the range is free, and nowhere else
  unit_free : IsPicture then_d → (u : ℕ) → Covers root.range u → unit_of_arena u spaces_then (held_outside then_d) (grown root space) ≡ free_alone
  unit_free is u over =
      let x = unit_of_arena u spaces_then (held_outside then_d) (grown root space) in
      let home = units_have_one_home then_d is index (grown root space) there u in
      let sums = own_sums (covers_held u) (out_of (held_outside then_d)) in
      let one : covers_held u root ≡ 1 = (elim (covers_is u root.range) [
        | inl is ↦ is.0
        | inr out ↦ absurd (omega (arith, out.1, over))
      ]) in
      let some : 1 ≤ x.free = omega (arith, one, ap (λ (y : Sums). y.free) sums) in
      let free : x.free ≡ 1 = omega (arith, some, home) in
      let slab : x.slab ≡ 0 = omega (arith, some, home) in
      let magazine : x.magazine ≡ 0 = omega (arith, some, home) in
      let exported : x.exported ≡ 0 = omega (arith, some, home) in
      let leased : x.leased ≡ 0 = omega (arith, some, home) in
      let hand : x.hand ≡ 0 = omega (arith, some, home) in
      (λ j. record { free = free j; slab = slab j; magazine = magazine j; exported = exported j; leased = leased j; hand = hand j })

  adds_free : (g : GrowLine) → index_in g.arena old.tree ≡ Some index → root.range ≡ range_asked g → IsPicture then_d → AddsFree g old then_d
  adds_free g named range is = record {
    index = index;
    named = named;
    space = space;
    here = here;
    root = root;
    range = range;
    after = refl;
    sums = own_sums units_in (out_of (held_outside old)) ∙ ap (λ (e : Extent). with_more_free e.len (sums_in old space)) range;
    units = λ u over. unit_free is u (subst (λ (e : Extent). Covers e u) (sym range) over);
    others = λ k s other at. (slice_get-set_other old.spaces index k (grown root space) other ∙ at, other_sums units_in (out_of (held_outside old)) s);
    leases = λ c. refl;
  }

pub grows_add_free : GrowsAddFree
grows_add_free old new g line text is read step = elim (grow_adds old new g text (answered old new g line text read step)) [
  | inr none ↦ inr none
  | inl taken ↦
      let a = taken.1 in
      inl (taken.0, subst (AddsFree g old) (sym a.after) (adds_free old a.index a.space a.here a.root g a.named a.range (subst IsPicture a.after step.picture)))
]

taken_adds : (old new : Picture) (g : GrowLine) → Grew g old new → Adds g old new
taken_adds old new g grew = elim (grow_adds old new g ok_text (answered old new g grew.line ok_text grew.read grew.step)) [
  | inl taken ↦ taken.1
  | inr none ↦ absurd (none.0 refl)
]

-- what it added is there
record Added (g : GrowLine) (old new : Picture) (a : Adds g old new) : Type 0 where
  pub space : SpaceState
  pub here : slice_get new.spaces a.index ≡ Some space
  pub free : Contains space.arena.free a.root
  pub owns : Contains space.arena.owned a.root

last_of : (hs : List Holding) (h : Holding) → Contains (hs ++ h ∷ []) h
last_of hs h = Contains-append_right hs (h ∷ []) h (contains_at (h ∷ []) 0 h refl)

added : (old new : Picture) (g : GrowLine) (a : Adds g old new) → Added g old new a
added old new g a = record {
  space = grown a.root a.space;
  here = ap (λ (d : Picture). slice_get d.spaces a.index) a.after ∙ there old a.index a.space a.here a.root;
  free = last_of a.space.arena.free a.root;
  owns = last_of a.space.arena.owned a.root;
}

pub grown_is_served : GrownIsServed
grown_is_served old mid new g id l index x span base is grew named finds range serves found =
    let a = taken_adds old mid g grew in
    let t = added old mid g a in
    let mid_is = grew.step.picture in
    let same : Some index ≡ Some a.index = sym named ∙ ap (index_in g.arena) grew.step.setup.tree ∙ a.named in
    let one : index ≡ a.index = cc in
    let at : slice_get mid.spaces index ≡ Some t.space = ap (slice_get mid.spaces) one ∙ t.here in
    let longest = (all_at (λ (s : SpaceState). FreeIsLongestRuns (layout_of s.arena)) mid.spaces index t.space mid_is.held.units.runs at a.root).0 t.free in
    let run : IsRun (spans_of t.space.arena) t.space.arena.allocated a.root = longest.run in
    let units : a.root.range ≡ span.range = a.range ∙ sym range in
    no_fit_means_taken mid new id l x t.space mid_is (record { index = index; finds = finds; here = at }) found a.root base run
    (record {
      fits = serves.fits;
      from = subst (λ (e : Extent). e.base ≤ base) (sym units) serves.from;
      to = subst (λ (e : Extent). base + rounding_of x.quantum (demand_of l).size ≤ end_of e) (sym units) serves.to;
    })

pub grown_stays : GrownStays
grown_stays old mid new g frames text grew run =
    let a = taken_adds old mid g grew in
    let t = added old mid g a in
    let on = setup_only_grows mid new frames text run in
    let s = on.owned a.index t.space t.here in
    record {
      index = a.index;
      named = ap (index_in g.arena) (on.tree ∙ grew.step.setup.tree) ∙ a.named;
      space = s.0;
      here = s.1;
      span = a.root;
      range = a.range;
      owns = subst (λ (hs : List Holding). Contains hs a.root) (sym s.2.1) (Contains-append_left t.space.arena.owned s.2.0 a.root t.owns);
    }

-- no cache changes
reaped_stays : (old : Picture) (a : ℕ) (space : SpaceState) → slice_get old.spaces a ≡ Some space → (root : Holding) → NothingIsKept old → NothingIsKept (record old { spaces = set old.spaces a (grown root space) })
reaped_stays old a space here root kept = record {
  leases = kept.leases;
  rounds = kept.rounds;
  reaped = All-set IsReaped old.spaces a (grown root space) (all_at IsReaped old.spaces a space kept.reaped here) kept.reaped;
}

pub grows_keep_nothing : GrowsKeepNothing
grows_keep_nothing old new g line text kept read step = elim (grow_adds old new g text (answered old new g line text read step)) [
  | inr none ↦ (subst NothingIsKept (sym none.1) kept, ap (λ (d : Picture). d.book) none.1)
  | inl taken ↦
      let a = taken.1 in
      (subst NothingIsKept (sym a.after) (reaped_stays old a.index a.space a.here a.root kept), ap (λ (d : Picture). d.book) a.after)
]

abbrev Keeps : Picture → Picture → Type 0
Keeps old new = IsPicture new × SetupGrows old new

pub grows_keep : GrowsKeep
grows_keep old new g text is grows step = elim (grow_adds old new g text grows) [
  | inr none ↦ (subst IsPicture (sym none.1) is, grows_none old new none.1)
  | inl taken ↦
      let a = taken.1 in
      let stepped = subst (λ (d : Picture). IsStep old.spaces [] d.spaces []) a.after step in
      subst (Keeps old) (sym a.after) (picture_stays old a.index a.space a.here a.root is stepped, grows_setup old a.index a.space a.here a.root)
]

pub grows_are_answered : GrowsAreAnswered
grows_are_answered old new g line text is read grows step =
    let kept = grows_keep old new g text is grows step in
    record {
      answer = subst (λ (y : Result ServedLine LineFault). AnswersLine old y text new) (sym read) (inl grows);
      setup = kept.1;
      stays = λ none. absurd (none (g, read));
      picture = kept.0;
    }
