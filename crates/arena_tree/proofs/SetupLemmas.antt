-- Setups with an arena or a span more.
use Rattle.std.proofs.Common.{◌≡◌, ℕ, suc, ◌+◌, ◌<◌, ◌≤◌, ◌==◌, All, AllPairs, Any, List, [], ◌∷◌, ◌++◌, length, Option, Some, None, Result, Ok, Err, OnOk, OnErr, refl, sym, ap, subst, ◌∙◌, inl, inr, arith}
use Rattle.std.specs.Prelude.{slice_get, cond, true, false, Bool, is_some}
use Rattle.std.proofs.lemmas.List.Sums.{sum_by-append, sum_by-cons}
use Rattle.std.proofs.lemmas.List.Elements.{All-cons, All-nil}
use Rattle.std.proofs.lemmas.Bool.{cases_eq}
use Rattle.std.proofs.lemmas.Option.{slice_get_within}
use Rattle.deed_core.specs.Extent.{Extent}
use Rattle.deed_core.proofs.LawProofs.{AllPairs-append, all_at, all_from, pushed}
use Rattle.arena_tree.specs.declared.limits.TheConstants.{MOST_SPANS}
use Rattle.arena_tree.specs.declared.trees.TreeArena.{TreeArena}
use Rattle.arena_tree.specs.declared.setups.OwnedSpan.{OwnedSpan}
use Rattle.arena_tree.specs.declared.settings.NewRoot.{NewRoot}
use Rattle.arena_tree.specs.declared.settings.NewChild.{NewChild}
use Rattle.arena_tree.specs.declared.settings.NewSpan.{NewSpan}
use Rattle.arena_tree.specs.declared.setup_faults.SetupFault.{SetupFault}
use Rattle.arena_tree.specs.Setups.{AddsRoot, AddsChild, root_range}
use Rattle.arena_tree.specs.Trees.{IsWholeRange}
use Rattle.arena_tree.specs.Settings.{SetupState, IsSetup, IsRoot, IsOwned, HasNoClash, Clash, BecomesSpan, CanSpan, span_count}
use Rattle.arena_tree.proofs.TreeLemmas.{slice_get_more, slice_get_last}

abbrev pub setup_state : List TreeArena → List OwnedSpan → SetupState
setup_state arenas spans = record { arenas = arenas; spans = spans }

-- an arena more
owned_more : (arenas : List TreeArena) (y : TreeArena) (spans : List OwnedSpan) → All (IsOwned arenas) spans → All (IsOwned (arenas ++ y ∷ [])) spans
owned_more arenas y spans all = all_from (IsOwned (arenas ++ y ∷ [])) spans (λ k o at. let is = all_at (IsOwned arenas) spans k o all at in
    (is.0, record { here = slice_get_more arenas y o.arena is.0 (is.1).here; root = (is.1).root }, is.2))

-- an arena more that imports
importer_added : (old new : List TreeArena) (y : TreeArena) (source : ℕ) (spans : List OwnedSpan) → new ≡ old ++ y ∷ [] → y.source ≡ Some source → IsSetup (setup_state old spans) → IsSetup (setup_state new spans)
importer_added old new y source spans is imports setup = subst (λ (s : List TreeArena). IsSetup (setup_state s spans)) (sym is) (record {
  owned = owned_more old y spans setup.owned;
  apart = setup.apart;
  few = setup.few;
  rooted = λ id x root. elim (pushed old id y x root.here) [
    | inl here ↦ absurd (let e : None ≡ Some source = sym root.root ∙ ap (λ (z : TreeArena). z.source) here.1 ∙ imports in cc)
    | inr there ↦ setup.rooted id x (record { here = there; root = root.root })
  ];
})

-- how many spans an arena has with one more span
counted : (spans : List OwnedSpan) (o : OwnedSpan) (id : ℕ) → span_count id (spans ++ o ∷ []) ≡ span_count id spans + cond (o.arena == id) 1 0
counted spans o id =
    let all = sum_by-append (λ (a : OwnedSpan). cond (a.arena == id) 1 0) spans (o ∷ []) in
    let one = sum_by-cons (λ (a : OwnedSpan). cond (a.arena == id) 1 0) o [] in
    omega (arith, all, one)

-- a span more
span_added : (arenas : List TreeArena) (spans : List OwnedSpan) (o : OwnedSpan) → All (IsOwned arenas) spans → AllPairs (λ a b. ¬ Clash a b) spans → ((id : ℕ) → span_count id spans ≤ MOST_SPANS) → IsOwned arenas o → HasNoClash spans o → span_count o.arena spans < MOST_SPANS
    → ((id : ℕ) (x : TreeArena) → IsRoot arenas id x → 0 < span_count id (spans ++ o ∷ [])) → IsSetup (setup_state arenas (spans ++ o ∷ []))
span_added arenas spans o owned apart few own clear room rooted = record {
  owned = all_from (IsOwned arenas) (spans ++ o ∷ []) (λ k a at. elim (pushed spans k o a at) [
    | inl here ↦ subst (IsOwned arenas) (sym here.1) own
    | inr there ↦ all_at (IsOwned arenas) spans k a owned there
  ]);
  apart = AllPairs-append (λ a b. ¬ Clash a b) spans (o ∷ []) apart one
      (all_from (λ a. All (λ b. ¬ Clash a b) (o ∷ [])) spans (λ k a at. All-cons (λ b. ¬ Clash a b) o [] (all_at (λ b. ¬ Clash b o) spans k a clear at) (All-nil (λ (b : OwnedSpan). ¬ Clash a b))));
  few = λ id. (let n = counted spans o id in let f = few id in elim (cases_eq o.arena id) [
    | inl same ↦ (let r : span_count id spans < MOST_SPANS = subst (λ k. span_count k spans < MOST_SPANS) same room in grind (arith, n, r))
    | inr other ↦ grind (arith, n, f, other)
  ]);
  rooted = rooted;
}
  where
    one : AllPairs (λ a b. ¬ Clash a b) (o ∷ [])
    one i j d before within = absurd (omega (arith, before, within))

-- no span is of an arena that isn't there yet
fresh_clear : (arenas : List TreeArena) (spans : List OwnedSpan) (e : Extent) → All (IsOwned arenas) spans → HasNoClash spans (record { arena = length arenas; range = e })
fresh_clear arenas spans e all = all_from (λ a. ¬ Clash a (record { arena = length arenas; range = e })) spans (λ k a at clash.
    let own = all_at (IsOwned arenas) spans k a all at in
    let within = slice_get_within arenas a.arena own.0 (own.1).here in
    let same = clash.0 in
    omega (arith, within, same))

fresh_count : (arenas : List TreeArena) (spans : List OwnedSpan) → ((k : ℕ) (o : OwnedSpan) → slice_get spans k ≡ Some o → o.arena < length arenas) → span_count (length arenas) spans ≡ 0
fresh_count arenas [] below = refl
fresh_count arenas (o ∷ spans) below =
    let rest = fresh_count arenas spans (λ k. below (suc k)) in
    let first = below 0 o refl in
    let step = sum_by-cons (λ (a : OwnedSpan). cond (a.arena == length arenas) 1 0) o spans in
    elim (cases_eq o.arena (length arenas)) [
      | inl same ↦ absurd (omega (arith, first, same))
      | inr other ↦ grind (arith, rest, step, other)
    ]

-- a root more, with its span
pub root_added : (old new : List TreeArena) (y : TreeArena) (spans newer : List OwnedSpan) (e : Extent) → new ≡ old ++ y ∷ [] → newer ≡ spans ++ record { arena = length old; range = e } ∷ [] → y.source ≡ None → IsWholeRange y.quantum e
    → IsSetup (setup_state old spans) → IsSetup (setup_state new newer)
root_added old new y spans newer e is put root whole setup =
    let o : OwnedSpan = record { arena = length old; range = e } in
    let own : IsOwned (old ++ y ∷ []) o = (y, record { here = slice_get_last old y; root = root }, whole) in
    let none = fresh_count old spans (λ k a at. (let is = all_at (IsOwned old) spans k a setup.owned at in slice_get_within old a.arena is.0 (is.1).here)) in
    let room : span_count (length old) spans < MOST_SPANS = omega (arith, none) in
    subst (λ (s : List TreeArena). IsSetup (setup_state s newer)) (sym is)
    (subst (λ (s : List OwnedSpan). IsSetup (setup_state (old ++ y ∷ []) s)) (sym put) (span_added (old ++ y ∷ []) spans o (owned_more old y spans setup.owned) setup.apart setup.few own (fresh_clear old spans e setup.owned) room (λ id x root. elim (pushed old id y x root.here) [
      | inl here ↦ (let n = counted spans o id in let same : length old ≡ id = sym here.0 in grind (arith, n, same))
      | inr there ↦ (let n = counted spans o id in let more = setup.rooted id x (record { here = there; root = root.root }) in omega (arith, n, more))
    ])))

-- what a call on the tree leaves of a setup, by its answer
pub child_answered : (old new : List TreeArena) (c : NewChild) (r : Result (Unit {0}) SetupFault) (spans : List OwnedSpan) → OnOk r (AddsChild c old new) → OnErr r (new ≡ old) → IsSetup (setup_state old spans) → IsSetup (setup_state new spans)
child_answered old new c (Ok u) spans added same setup = importer_added old new added.arena added.source spans added.added (ap (λ (x : TreeArena). x.source) added.becomes.is) setup
child_answered old new c (Err f) spans added same setup = subst (λ (s : List TreeArena). IsSetup (setup_state s spans)) (sym same) setup

pub root_answered : (old new : List TreeArena) (r : NewRoot) (spans newer : List OwnedSpan) (o : OwnedSpan) → AddsRoot r old new → newer ≡ spans ++ o ∷ [] → o.arena ≡ length old → o.range ≡ root_range r
    → IsSetup (setup_state old spans) → IsSetup (setup_state new newer)
root_answered old new r spans newer o added put index range setup =
    let is = added.becomes.is in
    let whole : IsWholeRange added.arena.quantum (root_range r) = subst (λ (x : TreeArena). IsWholeRange x.quantum (root_range r)) (sym is) added.becomes.can.range in
    root_added old new added.arena spans newer (root_range r) added.added
    (put ∙ ap (λ (x : OwnedSpan). spans ++ x ∷ []) (ap (λ k. record { arena = k; range = o.range }) index ∙ ap (λ e. record { arena = length old; range = e }) range))
    (ap (λ (x : TreeArena). x.source) is) whole setup

pub span_answered : (arenas : List TreeArena) (spans newer : List OwnedSpan) (n : NewSpan) (o : OwnedSpan) → BecomesSpan (setup_state arenas spans) n o
    → newer ≡ spans ++ o ∷ [] → IsSetup (setup_state arenas spans) → IsSetup (setup_state arenas newer)
span_answered arenas spans newer n o is put setup =
    let x = is.arena in
    let own : IsOwned arenas o = (x, is.room.root, subst (IsWholeRange x.quantum) (sym is.range) is.can.0) in
    let clear : HasNoClash spans o = subst (λ e. HasNoClash spans (record { arena = o.arena; range = e })) (sym is.range) is.can.1 in
    subst (λ (s : List OwnedSpan). IsSetup (setup_state arenas s)) (sym put) (span_added arenas spans o setup.owned setup.apart setup.few own clear is.room.few
    (λ id y root. let n = counted spans o id in let more = setup.rooted id y root in omega (arith, n, more)))

-- a span in the way speaks against the range
pub blocked : (s : SetupState) (id : ℕ) (x : TreeArena) (e : Extent) (range : Extent) → Any (λ a. Clash a (record { arena = id; range = range })) s.spans → range ≡ e → CanSpan s id x e → ⊥
blocked s id x e range any same can =
    let clear : HasNoClash s.spans (record { arena = id; range = range }) = subst (λ (z : Extent). HasNoClash s.spans (record { arena = id; range = z })) (sym same) can.1 in
    not_any (λ a. Clash a (record { arena = id; range = range })) s.spans any clear
  where
    not_any : {X : Type 0} (P : X → Type 0) (xs : List X) → Any P xs → All (λ x. ¬ P x) xs → ⊥
    not_any P xs any all = all any.0 any.1 any.2 (subst P (sym any.3) any.4)

pub no_source : (o : Option ℕ) (b : Bool) → b ≡ is_some o → b ≡ false → o ≡ None
no_source None b is no' = refl
no_source (Some x) b is no' = absurd (let e : true ≡ false = sym is ∙ no' in cc)
