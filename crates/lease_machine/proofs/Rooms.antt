-- A request is refused for want of room only where there is none.
use Rattle.std.proofs.Common.{◌≡◌, ℕ, suc, zero, ◌<◌, ◌≤◌, refl, sym, subst, ap, ◌∙◌, inl, inr, List, [], ◌∷◌, length, get_or, AllPairs, Any, Contains, Option, Some, None, arith}
use Rattle.std.specs.Prelude.{slice_get}
use Rattle.std.proofs.lemmas.Bool.{cases_lt}
use Rattle.deed_core.specs.Extent.{Covers, end_of}
use Rattle.deed_core.specs.Holding.{Holding, Apart}
use Rattle.deed_core.specs.Request.{IsPlain, plain_of}
use Rattle.deed_core.specs.declared.requests.Request.{Request}
use Rattle.deed_core.proofs.LawProofs.{plain_is_of_its_size}
use Rattle.tag_arena.specs.ArenaState.{ArenaState, IsSoundArena, spans_of}
use Rattle.tag_arena.specs.Layout.{IsRun, IsPartOf, IsEdgedRun}
use Rattle.tag_arena.specs.Place.{Serves, ServesIn}
use Rattle.arena_tree.specs.declared.trees.TreeArena.{TreeArena}
use Rattle.quantum_cache.specs.Caches.{rest_of_chain, chain_up, chain_in}
use Rattle.stock.specs.Spaces.{SpaceState, plan_of, plans_of}
use Rattle.stock.specs.Setups.{plan_for, plans_for}
use Rattle.lease_machine.specs.Picture.{Picture, IsPicture}
use Rattle.local_calls.specs.NoFits.{HasBase, HasBaseUp}
use Rattle.lease_machine.specs.Serving.{CanServe}

any_default : (xs : List Holding) (k : ℕ) (x y : Holding) → k < length xs → get_or xs k x ≡ get_or xs k y
any_default [] k x y below = absurd (omega (arith, below))
any_default (z ∷ zs) zero x y below = refl
any_default (z ∷ zs) (suc k) x y below = any_default zs k x y (omega (arith, below))

module _ (spans : List Holding) (apart : AllPairs Apart spans) (u : ℕ) where
  -- the earlier of two members doesn't share a unit with the later
  earlier : (s t : Holding) (a : Contains spans s) (b : Contains spans t) → Covers s.range u → Covers t.range u → a.0 < b.0 → ⊥
  earlier s t a b over_s over_t lt =
      let far = apart a.0 b.0 s lt b.1 in
      let second : get_or spans b.0 s ≡ t = any_default spans b.0 s t b.1 ∙ b.2 in
      let here : Apart s t = subst (λ (x : Holding). Apart x t) a.2 (subst (λ (y : Holding). Apart (get_or spans a.0 s) y) second far) in
      elim here [
        | inl before ↦ omega (arith, before, over_s.1, over_t.0)
        | inr after ↦ omega (arith, after, over_s.0, over_t.1)
      ]

  -- two members that share a unit are the same
  same_span : (s t : Holding) → Contains spans s → Contains spans t → Covers s.range u → Covers t.range u → s ≡ t
  same_span s t a b over_s over_t = elim (cases_lt a.0 b.0) [
    | inl lt ↦ absurd (earlier s t a b over_s over_t lt)
    | inr le ↦ elim (cases_lt b.0 a.0) [
      | inl lt ↦ absurd (earlier t s b a over_t over_s lt)
      | inr ge ↦
          let same : a.0 ≡ b.0 = omega (arith, le, ge) in
          sym a.2 ∙ ap (λ (k : ℕ). get_or spans k s) same ∙ any_default spans b.0 s t b.1 ∙ b.2
    ]
  ]

-- a run of free units lies in a free range
in_free : (a : ArenaState) → IsSoundArena a → (r : Holding) → IsRun (spans_of a) a.allocated r → Any (λ f. (f.range.base ≤ r.range.base) × (end_of r.range ≤ end_of f.range)) a.free
in_free a sound r run =
    let whole = sound.divided.whole in
    let s = run.inside in
    let has_s : Contains (spans_of a) s.1 = (s.0, s.2, s.3) in
    let part : IsPartOf s.1 r = s.4 in
    let some : 0 < r.range.len = run.some in
    let first : Covers s.1.range r.range.base = (part.from, omega (arith, part.to, some)) in
    elim (whole.covered s.1 r.range.base has_s first) [
      | inr taken ↦ absurd (run.free r.range.base (omega arith, omega (arith, some)) taken)
      | inl f ↦
          let has_f : Contains a.free f.1 = (f.0, f.2, f.3) in
          let over : Covers f.1.range r.range.base = f.4 in
          let edged : IsEdgedRun (spans_of a) a.allocated f.1 = whole.runs f.1 has_f in
          let t = edged.run.inside in
          let has_t : Contains (spans_of a) t.1 = (t.0, t.2, t.3) in
          let inside : IsPartOf t.1 f.1 = t.4 in
          let same : t.1 ≡ s.1 = same_span (spans_of a) whole.spans_apart r.range.base t.1 s.1 has_t has_s (omega (arith, inside.from, over.0), omega (arith, inside.to, over.1)) first in
          let ends : end_of t.1.range ≡ end_of s.1.range = ap (λ (h : Holding). end_of h.range) same in
          let to : end_of r.range ≤ end_of f.1.range =
          (elim (edged.high t.1 has_t (record { from = inside.from; to = inside.to })) [
            | inl edge ↦ omega (arith, edge, ends, part.to)
            | inr taken ↦ elim (cases_lt (end_of f.1.range) (end_of r.range)) [
              | inl short ↦ absurd (run.free (end_of f.1.range) (omega (arith, over.1), short) taken)
              | inr long ↦ long
            ]
          ]) in
          (f.0, f.1, f.2, f.3, (over.0, to))
    ]

-- and what it serves, that range does
pub run_serves : (a : ArenaState) → IsSoundArena a → (q : Request) (r : Holding) (base : ℕ) → IsRun (spans_of a) a.allocated r → ServesIn a.quantum q r base → Serves a.quantum q a.free base
run_serves a sound q r base run serves =
    let f = in_free a sound r run in
    (f.0, f.1, f.2, f.3, record { fits = serves.fits; from = omega (arith, serves.from, f.4.0); to = omega (arith, serves.to, f.4.1) })

-- an arena is what it was set up as
pub plan_is : (d : Picture) → IsPicture d → (k : ℕ) (x : TreeArena) (s : SpaceState) → slice_get d.tree k ≡ Some x → slice_get d.spaces k ≡ Some s → plan_of s ≡ plan_for x
plan_is d is k x s here at = by d.spaces d.tree k is.held.plans here at
  where
    by : (spaces : List SpaceState) (tree : List TreeArena) (k : ℕ) → plans_of spaces ≡ plans_for tree → slice_get tree k ≡ Some x → slice_get spaces k ≡ Some s → plan_of s ≡ plan_for x
    by [] tree k same here at = absurd (let e : None ≡ Some s = at in cc)
    by (y ∷ ys) [] k same here at = absurd (let e : None ≡ Some x = here in cc)
    by (y ∷ ys) (z ∷ zs) zero same here at =
        let space : y ≡ s = (let e : Some y ≡ Some s = at in cc) in
        let arena : z ≡ x = (let e : Some z ≡ Some x = here in cc) in
        let plan : plan_of y ≡ plan_for z = cc in
        sym (ap plan_of space) ∙ plan ∙ ap plan_for arena
    by (y ∷ ys) (z ∷ zs) (suc k) same here at = by ys zs k (cc) here at

-- an arena that has a base for it can serve a request
pub base_serves : (d : Picture) (index : ℕ) (x : TreeArena) (q : Request) → slice_get d.tree index ≡ Some x → HasBase d.spaces index q → ¬ ¬ CanServe d index x q
base_serves d index x q here has none =
    let not_plain : IsPlain q → ⊥ = (λ plain.
    (let is : q ≡ plain_of q.size = (plain_is_of_its_size q).0 plain in
    let has_plain : HasBase d.spaces index (plain_of q.size) = subst (λ (r : Request). HasBase d.spaces index r) is has in
    let up : HasBaseUp d.spaces (chain_in d.tree index) q.size = subst (λ (o : Option TreeArena). HasBaseUp d.spaces (rest_of_chain (chain_up 3 d.tree) index o) q.size) (sym here) (inl has_plain) in
    none (inr (inl (plain, up))))) in
    none (inr (inr (not_plain, has)))
