-- Where no deed lies: told by the units.
use Rattle.std.proofs.Common.{◌≡◌, ℕ, ◌+◌, ◌<◌, min, Bool, true, false, refl, sym, ap, ◌∙◌, inl, inr, ◌==◌, length, List, [], ◌∷◌, All, Any, Contains, arith}
use Rattle.std.specs.Prelude.{flat_map}
use Rattle.std.specs.Option.{option_to_list}
use Rattle.std.proofs.lemmas.List.Elements.{All-nil, All-cons, All-append, All-head, All-tail, All-weaker}
use Rattle.std.proofs.lemmas.Bool.{cases_eq}
use Rattle.std.proofs.lemmas.Bool.Decides.{nat_tests}
use Rattle.std.proofs.lemmas.List.Sums.{sum_by-cons}
use Rattle.deed_core.specs.Holding.{Holding, piece}
use Rattle.deed_core.specs.Tag.{Tag}
use Rattle.deed_core.specs.Covering.{units_in, units_held, units_tagged}
use Rattle.deed_core.proofs.LawProofs.{all_from, power_some}
use Rattle.tag_arena.specs.Layout.{IsPartOf}
use Rattle.tag_arena.specs.ArenaState.{ArenaState, IsSoundArena, spans_of}
use Rattle.slab_layer.specs.Parts.{piece_or_none}
use Rattle.slab_layer.specs.Slab.{SlabState, items_where, chunk_at, deeds_in, unused_units, used_units}
use Rattle.slab_layer.specs.Cache as slabs
use Rattle.slab_layer.specs.Cache.{SlabCacheState, IsOfSize, chunk_of, deeds_of}
use Rattle.magazine_layer.specs.Depots.{depot_rounds}
use Rattle.stock.specs.Spaces.{SpaceState, QuantumCacheState}
use Rattle.stock.specs.Stocks.{IsRoundOf, IsStock}
use Rattle.stock.specs.Endings.{IsBareCache, HaveUnits, RoundsHaveUnits}

abbrev HasUnits : Holding → Type 0
HasUnits h = 0 < h.range.len

-- deeds that have units but no units are none
pub no_units : (hs : List Holding) → All HasUnits hs → units_held hs ≡ 0 → hs ≡ []
no_units [] some none = refl
no_units (h ∷ hs) some none = absurd (let here : 0 < h.range.len = All-head HasUnits h hs some in omega (arith, here, none, sum_by-cons units_in h hs))

-- so are segments
pub no_units_out : (ts : List Tag) → HaveUnits ts → units_tagged ts ≡ 0 → ts ≡ []
no_units_out [] some none = refl
no_units_out (t ∷ ts) some none =
    absurd (let here : 0 < t.holding.range.len = All-head (λ x. 0 < x.holding.range.len) t ts some in omega (arith, here, none, sum_by-cons (λ x. units_in x.holding) t ts))

part_some : (root base len : ℕ) → All HasUnits (option_to_list (piece_or_none root base len))
part_some root base len = elim (cases_eq len 0) [
  | inl none ↦ (let is : (len == 0) ≡ true = grind (arith, nat_tests) in rw is (All-nil HasUnits))
  | inr some ↦ (let is : (len == 0) ≡ false = grind (arith, nat_tests) in rw is (All-cons HasUnits (piece root base len) [] (omega (arith, some)) (All-nil HasUnits)))
]

chunks_some : (f : ℕ → Holding) → ((i : ℕ) → 0 < (f i).range.len) → (i : ℕ) (home : List Bool) → All HasUnits (items_where (λ b. b) f i home)
chunks_some f some i [] = All-nil HasUnits
chunks_some f some i (true ∷ home) = All-cons HasUnits (f i) (items_where (λ b. b) f (i + 1) home) (some i) (chunks_some f some (i + 1) home)
chunks_some f some i (false ∷ home) = chunks_some f some (i + 1) home

slab_some : (s : SlabState) → 0 < s.chunk → All HasUnits (deeds_in s)
slab_some s some =
    All-append HasUnits (option_to_list (piece_or_none s.span.root s.span.range.base s.colour)) _ (part_some s.span.root s.span.range.base s.colour)
    (All-append HasUnits (items_where (λ b. b) (chunk_at s) 0 s.home) _ (chunks_some (chunk_at s) (λ i. some) 0 s.home)
    (part_some s.span.root (s.span.range.base + s.colour + used_units s) (unused_units s)))

slabs_some : (size len : ℕ) → 0 < len → (ss : List SlabState) → All (IsOfSize size len) ss → All HasUnits (flat_map deeds_in ss)
slabs_some size len some [] of = All-nil HasUnits
slabs_some size len some (s ∷ ss) of =
    let here : 0 < s.chunk = (let is = (All-head (IsOfSize size len) s ss of).chunk in omega (arith, is, some)) in
    All-append HasUnits (deeds_in s) (flat_map deeds_in ss) (slab_some s here) (slabs_some size len some ss (All-tail (IsOfSize size len) s ss of))

pub no_deeds : (c : SlabCacheState) → slabs.IsSoundCache c → units_held (deeds_of c) ≡ 0 → deeds_of c ≡ []
no_deeds c sound none = no_units (deeds_of c) (slabs_some c.slab_size (chunk_of c) sound.some c.slabs sound.slabs) none

pub no_spans : (a : ArenaState) → IsSoundArena a → units_held (spans_of a) ≡ 0 → spans_of a ≡ []
no_spans a sound none = no_units (spans_of a) (λ k d lt. (sound.divided.spans k d lt).some) none

none_inside : (P : Holding → Holding → Type 0) (free spans : List Holding) → spans ≡ [] → ((r : Holding) → Contains free r → Any (λ s. P s r) spans) → free ≡ []
none_inside P [] spans none inside = refl
none_inside P (r ∷ rs) spans none inside =
    let has : Any (λ s. P s r) spans = inside r (0, omega arith, refl) in
    absurd (omega (arith, has.2, ap (λ (xs : List Holding). length xs) none))

-- an arena with no span has no free range
pub no_free : (a : ArenaState) → IsSoundArena a → spans_of a ≡ [] → a.free ≡ []
no_free a sound none = none_inside IsPartOf a.free (spans_of a) none (λ r has. (sound.divided.whole.runs r has).run.inside)

pub rounds_of : (spaces : List SpaceState) → IsStock spaces → All (λ s. RoundsHaveUnits s.caches) spaces
rounds_of spaces stock = all_from (λ s. RoundsHaveUnits s.caches) spaces (λ k s at. all_from (λ c. HaveUnits (depot_rounds c.depot)) s.caches (λ j c among.
    let is = stock k s at in
    let some : 0 < s.arena.quantum = power_some s.arena.quantum is.sound.divided.power in
    All-weaker (IsRoundOf k (j + 1) s.arena.quantum) (λ t. 0 < t.holding.range.len) (λ t round. (let len = round.len in omega (arith, len, some))) (depot_rounds c.depot) (is.caches j c among).rounds))

pub none_left : (x m : ℕ) → 0 < m → min x m ≡ 0 → x ≡ 0
none_left x m some none = omega arith

-- a cache tells by its units whether a deed lies in it
pub bare_cache : (c : QuantumCacheState) (idle gap tail units m : ℕ) → slabs.IsSoundCache c.slab → HaveUnits (depot_rounds c.depot) → 0 < m
    → idle + gap + tail ≡ units_held (deeds_of c.slab) → units ≡ min (units_tagged (depot_rounds c.depot)) m
    → idle ≡ 0 → gap ≡ 0 → tail ≡ 0 → units ≡ 0 → IsBareCache c
bare_cache c idle gap tail units m sound some room kept is none_idle none_gap none_tail none = record {
  slab = no_deeds c.slab sound (omega (arith, kept, none_idle, none_gap, none_tail));
  depot = no_units_out (depot_rounds c.depot) some (none_left (units_tagged (depot_rounds c.depot)) m room (sym is ∙ none));
}

pub cache_bare : (c : QuantumCacheState) (idle gap tail units m : ℕ) → idle + gap + tail ≡ units_held (deeds_of c.slab) → units ≡ min (units_tagged (depot_rounds c.depot)) m
    → IsBareCache c → (idle ≡ 0) × (gap ≡ 0) × (tail ≡ 0) × (units ≡ 0)
cache_bare c idle gap tail units m kept is bare =
    let deeds : units_held (deeds_of c.slab) ≡ 0 = ap units_held bare.slab in
    let rounds : units_tagged (depot_rounds c.depot) ≡ 0 = ap units_tagged bare.depot in
    (omega (arith, deeds, kept), omega (arith, deeds, kept), omega (arith, deeds, kept), omega (arith, is, rounds))
