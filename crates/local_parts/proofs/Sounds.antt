-- What a stock's events answer is sound.
use Rattle.std.proofs.Common.{◌≡◌, ℕ, ◌+◌, ◌*◌, ◌<◌, ◌≤◌, ◌%◌, List, Option, Some, None, Ok, Err, IfSome, All, Contains, inl, inr, ap, subst, sym, refl, ◌∙◌, arith}
use Rattle.std.specs.Prelude.{slice_get}
use Rattle.deed_core.specs.Tag.{Tag}
use Rattle.deed_core.specs.Extent.{IsRange}
use Rattle.deed_core.specs.Request.{Fits, IsGood, IsPlain, rounding_of, plain_of}
use Rattle.deed_core.specs.declared.requests.Request.{Request}
use Rattle.deed_core.specs.declared.segments.Route.TheVariants.{Direct, Cached}
use Rattle.slab_layer.specs.Cache.{IsOnGrid}
use Rattle.tag_arena.specs.Outcomes.{CarveOf, ImportOf}
use Rattle.tag_arena.specs.declared.faults.ArenaFault.TheVariants as arena_fault
use Rattle.arena_tree.specs.declared.trees.TreeArena.{TreeArena}
use Rattle.arena_tree.specs.Chains.{IsGrant, IsCachedChunk, quantum_in, source_of}
use Rattle.stock.specs.Spaces.{SpaceState, plans_of}
use Rattle.stock.specs.Stocks.{IsStock, IsRoundOf}
use Rattle.std.proofs.Math.Nat.{mul-mod_left}
use Rattle.deed_core.proofs.LawProofs.{power_some, rounds_once}
use Rattle.slab_layer.specs.Calls.{ReapOf}
use Rattle.arena_tree.specs.Sound.{IsFirstOf, IsFreed, IsSlabSpan}
use Rattle.stock.specs.Stocks.{IsFrom}
use Rattle.stock.specs.Steps.{OnArena, OnSlab, FreeIn, CanImport}
use Rattle.local_parts.specs.States.{tree_of}
use Rattle.local_parts.proofs.Trees.{quantum_here, source_here}

module _ (old new : List SpaceState) (k : ℕ) (q : Request) (sizes : List TreeArena) where
  -- grants
  pub carve_good : (t : Tag) → OnArena k (λ a b. CarveOf a q (Ok t) b) old new → IsGood (quantum_in (tree_of (plans_of old) sizes) k) q
  carve_good t on = subst (λ n. IsGood n q) (sym (quantum_here old sizes k on.space on.at)) on.does.good

  pub carve_grant : (t : Tag) → IsStock old → OnArena k (λ a b. CarveOf a q (Ok t) b) old new → IsGrant (tree_of (plans_of old) sizes) k q t
  carve_grant t stock on = record {
    of_arena = ap (λ (x : Tag). x.arena) on.does.segment ∙ (stock k on.space on.at).id;
    direct = ap (λ (x : Tag). x.route) on.does.segment;
    fits = subst (λ n. Fits n q t.holding.range.base t.holding.range.len) (sym (quantum_here old sizes k on.space on.at)) on.does.fits;
  }

  -- refusals
  pub no_fit_good : OnArena k (λ a b. CarveOf a q (Err arena_fault.NoFit) b) old new → IsGood (quantum_in (tree_of (plans_of old) sizes) k) q
  no_fit_good on = subst (λ n. IsGood n q) (sym (quantum_here old sizes k on.space on.at)) on.does.0.0

  pub no_memory_good : OnArena k (λ a b. CarveOf a q (Err arena_fault.NoMemory) b) old new → IsGood (quantum_in (tree_of (plans_of old) sizes) k) q
  no_memory_good on = subst (λ n. IsGood n q) (sym (quantum_here old sizes k on.space on.at)) on.does.0.0

  pub bad_request : OnArena k (λ a b. CarveOf a q (Err arena_fault.BadRequest) b) old new → ¬ IsGood (quantum_in (tree_of (plans_of old) sizes) k) q
  bad_request on good = on.does.0 (subst (λ n. IsGood n q) (quantum_here old sizes k on.space on.at) good)

pub is_plain : (n : ℕ) → IsPlain (plain_of n)
is_plain n = record { align = refl; phase = refl; nocross = refl; min = refl; max = refl }

good_plain : (quantum n : ℕ) → 0 < n → IsGood quantum (plain_of n)
good_plain quantum n some = record {
  size = some;
  align = λ ne. absurd (ne refl);
  phase = λ ne. absurd (ne refl);
  nocross = λ ne. absurd (ne refl);
  window = omega arith;
  top = omega arith;
}

-- what `Parts` asks for an import is what a stock asks
pub can_import : (old : List SpaceState) (sizes : List TreeArena) (child n : ℕ) (span : Tag) → source_of (tree_of (plans_of old) sizes) child ≡ Some span.arena → 0 < n
    → rounding_of (quantum_in (tree_of (plans_of old) sizes) child) n ≤ span.holding.range.len → span.route ≡ Direct → (s : SpaceState) → slice_get old child ≡ Some s → CanImport (plain_of n) span s
can_import old sizes child n span source some room direct s at = record {
  source = sym (source_here old sizes child s at) ∙ source;
  route = direct;
  good = good_plain s.arena.quantum n some;
  plain = is_plain n;
  room = subst (λ q. rounding_of q n ≤ span.holding.range.len) (quantum_here old sizes child s at) room;
}

pub import_grant : (old new : List SpaceState) (k n : ℕ) (sizes : List TreeArena) (span t : Tag) → IsStock old → IsRange span.holding.range
    → ((s : SpaceState) → slice_get old k ≡ Some s → CanImport (plain_of n) span s) → OnArena k (λ a b. ImportOf a span (plain_of n) (Ok t) b) old new
    → IsGrant (tree_of (plans_of old) sizes) k (plain_of n) t
import_grant old new k n sizes span t stock range can on = record {
  of_arena = ap (λ (x : Tag). x.arena) on.does.segment ∙ (stock k on.space on.at).id;
  direct = ap (λ (x : Tag). x.route) on.does.segment;
  fits = subst (λ m. Fits m (plain_of n) t.holding.range.base t.holding.range.len) (sym (quantum_here old sizes k on.space on.at)) (record {
    size = len;
    whole = ap (λ b. b % on.space.arena.quantum) base ∙ on.does.aligned.0;
    phase = λ ne. absurd (ne refl);
    min = omega arith;
    max = (let top = range.below in let more = (can on.space on.at).room in omega (arith, base, len, top, more));
    nocross = λ ne. absurd (ne refl);
  });
}
  where
    base : t.holding.range.base ≡ span.holding.range.base
    base = ap (λ (x : Tag). x.holding.range.base) on.does.segment

    len : t.holding.range.len ≡ rounding_of on.space.arena.quantum n
    len = ap (λ (x : Tag). x.holding.range.len) on.does.segment

-- and it is the first of the span
pub import_first : (old new : List SpaceState) (k n : ℕ) (sizes : List TreeArena) (span t : Tag) → IsStock old → IsRange span.holding.range
    → ((s : SpaceState) → slice_get old k ≡ Some s → CanImport (plain_of n) span s) → OnArena k (λ a b. ImportOf a span (plain_of n) (Ok t) b) old new
    → IsFirstOf (tree_of (plans_of old) sizes) k span n t
import_first old new k n sizes span t stock range can on = record {
  grant = import_grant old new k n sizes span t stock range can on;
  root = ap (λ (x : Tag). x.holding.root) on.does.segment;
  base = ap (λ (x : Tag). x.holding.range.base) on.does.segment;
  within = (let len = ap (λ (x : Tag). x.holding.range.len) on.does.segment in let more = (can on.space on.at).room in omega (arith, len, more));
}

some_quantum : (old : List SpaceState) (k : ℕ) (s : SpaceState) → IsStock old → slice_get old k ≡ Some s → 0 < s.arena.quantum
some_quantum old k s stock at = power_some s.arena.quantum (stock k s at).sound.divided.power

-- a chunk of the stock's cache, of the quantum that its arena has
pub round_fits : (q c : ℕ) (k j : ℕ) (t : Tag) → 0 < q → c ≡ j + 1 → IsRoundOf k (j + 1) q t → Fits q (plain_of (c * q)) t.holding.range.base t.holding.range.len
round_fits q c k j t some number is = record {
  size = is.len ∙ sym (rounds_once q ((j + 1) * q) some (mul-mod_left (j + 1) q)) ∙ ap (λ n. rounding_of q (n * q)) (sym number);
  whole = is.grid;
  phase = λ ne. absurd (ne refl);
  min = omega arith;
  max = is.end;
  nocross = λ ne. absurd (ne refl);
}

pub chunk_here : (old : List SpaceState) (sizes : List TreeArena) (k j c : ℕ) (s : SpaceState) (t : Tag) → IsStock old → slice_get old k ≡ Some s → c ≡ j + 1 → IsRoundOf k (j + 1) s.arena.quantum t
    → IsCachedChunk (tree_of (plans_of old) sizes) k c t
chunk_here old sizes k j c s t stock at number is = record {
  of_arena = is.from;
  cached = is.by ∙ ap Cached (sym number);
  fits = subst (λ n. Fits n (plain_of (c * n)) t.holding.range.base t.holding.range.len) (sym (quantum_here old sizes k s at)) (round_fits s.arena.quantum c k j t (some_quantum old k s stock at) number is);
}

all_contained : {X : Type 0} (P : X → Type 0) (xs : List X) (x : X) → All P xs → Contains xs x → P x
all_contained P xs x all has = subst P has.2 (all has.0 x has.1)

-- a span that became whole is of the source
from_source : (source : Option ℕ) (t : Tag) → IsFrom source t → source ≡ Some t.arena
from_source None t is = absurd is
from_source (Some p) t is = ap Some (sym is)

pub freed_here : (old new : List SpaceState) (sizes : List TreeArena) (t : Tag) (back : Option Tag) → IsStock old → FreeIn old t (Ok back) new → IsFreed (tree_of (plans_of old) sizes) t back
freed_here old new sizes t back stock (inl on) = record { direct = on.does.mine.route; whole = whole back on.does.from }
  where
    whole : (o : Option Tag) → IfSome o (λ span. Contains on.space.arena.imported span × (span.route ≡ Direct)) → IfSome o (λ x. (x.route ≡ Direct) × (source_of (tree_of (plans_of old) sizes) t.arena ≡ Some x.arena))
    whole None from = tt
    whole (Some x) from = (from.1, source_here old sizes t.arena on.space on.at ∙ from_source on.space.source x (all_contained (IsFrom on.space.source) on.space.arena.imported x (stock t.arena on.space on.at).imported from.0))
freed_here old new sizes t back stock (inr out) = absurd (let e : Ok back ≡ Err t = out.1 in cc)

pub slab_here : (old new : List SpaceState) (sizes : List TreeArena) (k j : ℕ) (t : Tag) → IsStock old → OnSlab k j (λ a b. ReapOf a (Some t) b) old new → IsSlabSpan (tree_of (plans_of old) sizes) k t
slab_here old new sizes k j t stock on =
    let is = (stock k on.space on.at).caches j on.cache on.among in
    let reaps = on.does.2 in
    let stands = reaps.lowest.stands in
    record {
      of_arena = ap (λ (x : Tag). x.arena) reaps.tag ∙ is.arena;
      direct = ap (λ (x : Tag). x.route) reaps.tag;
      grid = ap (λ (x : Tag). x.holding.range.base % quantum_in (tree_of (plans_of old) sizes) k) reaps.tag
          ∙ ap (λ n. on.does.1.span.range.base % n) (quantum_here old sizes k on.space on.at ∙ sym is.quantum_is)
          ∙ (subst (IsOnGrid on.cache.slab.quantum) stands.is (is.sound.grid on.does.0 on.does.1 stands.within)).base;
    }
