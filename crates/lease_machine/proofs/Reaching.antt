-- What is granted was in reach.
use Rattle.std.proofs.Common.{◌≡◌, ℕ, suc, zero, ◌^◌, ◌<◌, ◌≤◌, refl, sym, subst, ap, ◌∙◌, inl, inr, List, [], ◌∷◌, All, Contains, Option, Some, None, arith}
use Rattle.std.specs.Prelude.{slice_get, max, IfSome}
use Rattle.deed_core.specs.Extent.{Extent, Covers, Overlap}
use Rattle.deed_core.specs.Holding.{Holding}
use Rattle.deed_core.specs.Tag.{Tag}
use Rattle.deed_core.specs.Covering.{covers, covers_held, covering_held}
use Rattle.deed_core.specs.Request.{plain_of, rounding_of}
use Rattle.deed_core.specs.declared.requests.Request.{Request}
use Rattle.deed_core.proofs.LawProofs.{covers_is, counts_the_unit, contained_in_sum, sum_none, all_at, slice_get-set_other, slice_get_mapped, slice_get_one, rounds_up, power_some}
use Rattle.tag_arena.specs.ArenaState.{spans_of}
use Rattle.arena_tree.specs.declared.levels.Level.{Level}
use Rattle.arena_tree.specs.declared.trees.TreeArena.{TreeArena}
use Rattle.arena_tree.specs.Chains.{amount_of}
use Rattle.arena_tree.specs.Trees.{IsTree, level_of, ImportsFrom}
use Rattle.quantum_cache.specs.Caches.{rest_of_chain, chain_up}
use Rattle.stock.specs.Spaces.{SpaceState, SpacePlan, plan_of, plans_of}
use Rattle.stock.specs.Setups.{plan_for, plans_for}
use Rattle.stock.specs.Stocks.{IsStock}
use Rattle.stock_audit.specs.Chains.{IsFreeFor, free, free_above}
use Rattle.lease_machine.specs.Picture.{Picture}
use Rattle.lease_machine.specs.Moves.{Climbs, CarvesAt, ImportsAt}

-- a unit that a member covers is covered
covered_once : (u : ℕ) (hs : List Holding) (h : Holding) → Contains hs h → Covers h.range u → 0 < covering_held u hs
covered_once u hs h has over = (let one : covers u h.range ≡ 1 = (counts_the_unit u h.range).1.1 over in let most = contained_in_sum (covers_held u) hs h has in omega (arith, one, most))

-- no span covers what one that overlaps none covers
covered_never : (u : ℕ) (hs : List Holding) (e : Extent) → All (λ s. ¬ Overlap s.range e) hs → Covers e u → covering_held u hs ≡ 0
covered_never u hs e clear over = sum_none (covers_held u) hs (λ i h at.
    elim (covers_is u h.range) [
      | inl is ↦ absurd (all_at (λ (s : Holding). ¬ Overlap s.range e) hs i h clear at (omega (arith, is.1, over.1), omega (arith, over.0, is.2)))
      | inr isnt ↦ isnt.0
    ])

-- the arenas of the chain stand before this index
abbrev AreBefore : ℕ → List Level → Type 0
AreBefore k [] = Unit {0}
AreBefore k (l ∷ up) = (l.id < k) × AreBefore k up

-- what is climbed for leaves all other arenas
others_stay : (k : ℕ) (chain : List Level) (n : ℕ) (t : Tag) (old new : List SpaceState) → AreBefore k chain → Climbs chain n t old new → slice_get new k ≡ slice_get old k
others_stay k [] n t old new before climbs = absurd climbs
others_stay k (l ∷ up) n t old new before climbs = elim climbs [
  | inl carves ↦ ap (λ (xs : List SpaceState). slice_get xs k) carves.after ∙ slice_get-set_other old l.id k _ (λ e. omega (arith, e, before.0))
  | inr imports ↦
      let i = imports.1.3 in
      ap (λ (xs : List SpaceState). slice_get xs k) i.after ∙ slice_get-set_other imports.1.1 l.id k _ (λ e. omega (arith, e, before.0))
      ∙ others_stay k up (amount_of l up n) imports.1.0 old imports.1.1 before.1 imports.1.2
]

-- the first arena of the chain is there, and has a quantum
abbrev HasFirst : List Level → Type 0
HasFirst [] = ⊥
HasFirst (l ∷ up) = 0 < l.quantum

-- what is imported for some units has room for them
long_enough : (l : Level) (up : List Level) (n a : ℕ) → HasFirst up → amount_of l up n ≤ a → a ≤ 2 ^ 62 → rounding_of l.quantum n ≤ a
long_enough l [] n a has most top = absurd has
long_enough l (s ∷ up) n a has most top =
    let own : ℕ = rounding_of l.quantum n in
    let asked : ℕ = max own l.import_min in
    let looks_in_turn : asked ≤ rounding_of s.quantum asked = (rounds_up s.quantum asked has).1 in
    omega (arith, most, top, looks_in_turn)

none_up : (m : ℕ) (tree : List TreeArena) → chain_up m tree None ≡ []
none_up zero tree = refl
none_up (suc m) tree = refl

module _ (d : Picture) (tree : IsTree d.tree) (plans : plans_of d.spaces ≡ plans_for d.tree) (parts : IsStock d.spaces) where
  -- an arena is what it was set up as
  plan_here : (k : ℕ) (x : TreeArena) (s : SpaceState) → slice_get d.tree k ≡ Some x → slice_get d.spaces k ≡ Some s → plan_of s ≡ plan_for x
  plan_here k x s here at =
      slice_get_one (plans_of d.spaces) k (plan_of s) (plan_for x) (slice_get_mapped plan_of d.spaces k s at) (ap (λ ps. slice_get ps k) plans ∙ slice_get_mapped plan_for d.tree k x here)

  -- a source stands before
  source_before : (k p : ℕ) (x : TreeArena) → slice_get d.tree k ≡ Some x → x.source ≡ Some p → p < k
  source_before k p x here from = by x.source from (tree.each k x here).source
    where
      by : (o : Option ℕ) → o ≡ Some p → IfSome o (ImportsFrom d.tree k x) → p < k
      by None from own = absurd (let e : None ≡ Some p = from in cc)
      by (Some q) from own = (let e : Some q ≡ Some p = from in let same : q ≡ p = cc in subst (λ (n : ℕ). n < k) same own.0)

  on_before : (k p : ℕ) (again : Option ℕ → List Level) (o : Option TreeArena) → p < k → ((x : TreeArena) → o ≡ Some x → AreBefore k (again x.source)) → AreBefore k (rest_of_chain again p o)
  on_before k p again None lt rest = tt
  on_before k p again (Some x) lt rest = (lt, rest x refl)

  chain_before : (k m : ℕ) (o : Option ℕ) → ((p : ℕ) → o ≡ Some p → p < k) → AreBefore k (chain_up m d.tree o)
  chain_before k zero o lower = tt
  chain_before k (suc m) None lower = tt
  chain_before k (suc m) (Some p) lower =
      let lt = lower p refl in
      on_before k p (chain_up m d.tree) (slice_get d.tree p) lt (λ x at. chain_before k m x.source (λ q from. (let below = source_before p q x at from in omega (arith, below, lt))))

  on_first : (p n : ℕ) (t : Tag) (old new : List SpaceState) (again : Option ℕ → List Level) (o : Option TreeArena) → slice_get d.tree p ≡ o → Climbs (rest_of_chain again p o) n t old new → HasFirst (rest_of_chain again p o)
  on_first p n t old new again None at climbs = absurd climbs
  on_first p n t old new again (Some x) at climbs = power_some x.quantum (tree.each p x at).power

  climbs_first : (m p n : ℕ) (t : Tag) (old new : List SpaceState) → Climbs (chain_up m d.tree (Some p)) n t old new → HasFirst (chain_up m d.tree (Some p))
  climbs_first zero p n t old new climbs = absurd climbs
  climbs_first (suc m) p n t old new climbs = on_first p n t old new (chain_up m d.tree) (slice_get d.tree p) refl climbs

  -- what was climbed for from an arena was free for it, and is long enough
  pub record IsReached (k n : ℕ) (t : Tag) : Type 0 where
    pub free_for : (u : ℕ) → Covers t.holding.range u → IsFreeFor d.spaces u k
    pub long : n ≤ t.holding.range.len
    pub top : t.holding.range.len ≤ 2 ^ 62

  -- by one carve
  pub carve_reaches : (k : ℕ) (q : Request) (t : Tag) (new : List SpaceState) → CarvesAt k q t d.spaces new → (u : ℕ) → Covers t.holding.range u → IsFreeFor d.spaces u k
  carve_reaches k q t new o u over =
      let carves = o.does.carves in
      free k o.space o.at (covered_once u o.space.arena.free carves.range carves.among (omega (arith, carves.inside.from, over.0), omega (arith, carves.inside.to, over.1)))

  quantum_some : (k : ℕ) (s : SpaceState) → slice_get d.spaces k ≡ Some s → 0 < s.arena.quantum
  quantum_some k s at = power_some s.arena.quantum (parts k s at).sound.divided.power

  abbrev pub ReachesAll : ℕ → Type 0
  ReachesAll m = (p n : ℕ) (t : Tag) (new : List SpaceState) → Climbs (chain_up m d.tree (Some p)) n t d.spaces new → IsReached p n t

  -- by an import of a span that was climbed for
  import_reaches : (m : ℕ) → ReachesAll m → (k n : ℕ) (x : TreeArena) → slice_get d.tree k ≡ Some x → (t span : Tag) (mid new : List SpaceState) (o : Option ℕ) → x.source ≡ o
      → Climbs (chain_up m d.tree o) (amount_of (level_of k x) (chain_up m d.tree o) n) span d.spaces mid → ImportsAt k span n t mid new → IsReached k n t
  import_reaches m rest k n x here t span mid new None from climbs i = absurd (subst (λ (ls : List Level). Climbs ls (amount_of (level_of k x) ls n) span d.spaces mid) (none_up m d.tree) climbs)
  import_reaches m rest k n x here t span mid new (Some p) from climbs i =
      let l : Level = level_of k x in
      let up : List Level = chain_up m d.tree (Some p) in
      let reached : IsReached p (amount_of l up n) span = rest p (amount_of l up n) span mid climbs in
      let before : AreBefore k up = chain_before k m (Some p) (λ q e. source_before k q x here (from ∙ e)) in
      let at : slice_get d.spaces k ≡ Some i.space = sym (others_stay k up (amount_of l up n) span d.spaces mid before climbs) ∙ i.at in
      let plan : plan_of i.space ≡ plan_for x = plan_here k x i.space here at in
      let quantum : i.space.arena.quantum ≡ x.quantum = ap (λ (y : SpacePlan). y.quantum) plan in
      let source : i.space.source ≡ Some p = ap (λ (y : SpacePlan). y.source) plan ∙ from in
      let does = i.does in
      let base : t.holding.range.base ≡ span.holding.range.base = ap (λ (y : Tag). y.holding.range.base) does.segment in
      let len : t.holding.range.len ≡ rounding_of x.quantum n = ap (λ (y : Tag). y.holding.range.len) does.segment ∙ ap (λ (z : ℕ). rounding_of z n) quantum in
      let room : rounding_of x.quantum n ≤ span.holding.range.len = long_enough l up n span.holding.range.len (climbs_first m p (amount_of l up n) span d.spaces mid climbs) reached.long reached.top in
      let some : 0 < x.quantum = subst (λ (z : ℕ). 0 < z) quantum (quantum_some k i.space at) in
      let more : n ≤ rounding_of x.quantum n = (rounds_up x.quantum n some).1 in
      record {
        free_for = λ u over. (
            let inside : Covers span.holding.range u = (omega (arith, base, over.0), omega (arith, base, len, room, over.1)) in
            free_above k p i.space at source (covered_never u (spans_of i.space.arena) span.holding.range does.clear inside) (reached.free_for u inside)
            );
        long = omega (arith, len, more);
        top = (let below = does.range.below in omega (arith, below));
      }

  on_reaches : (m : ℕ) → ReachesAll m → (k n : ℕ) (t : Tag) (new : List SpaceState) (o : Option TreeArena) → slice_get d.tree k ≡ o → Climbs (rest_of_chain (chain_up m d.tree) k o) n t d.spaces new → IsReached k n t
  on_reaches m rest k n t new None here climbs = absurd climbs
  on_reaches m rest k n t new (Some x) here climbs = elim climbs [
    | inl carves ↦
        let fits = carves.does.fits in
        let more : n ≤ rounding_of carves.space.arena.quantum n = (rounds_up carves.space.arena.quantum n (quantum_some k carves.space carves.at)).1 in
        record {
          free_for = carve_reaches k (plain_of n) t new carves;
          long = omega (arith, fits.size, more);
          top = omega (arith, fits.max);
        }
    | inr imports ↦ import_reaches m rest k n x here t imports.1.0 imports.1.1 new x.source refl imports.1.2 imports.1.3
  ]

  pub climbs_reach : (m : ℕ) → ReachesAll m
  climbs_reach zero p n t new climbs = absurd climbs
  climbs_reach (suc m) p n t new climbs = on_reaches m (climbs_reach m) p n t new (slice_get d.tree p) refl climbs
