-- From each picture there is a step of a tick.
use Rattle.std.proofs.Common.{◌≡◌, ℕ, ◌≤◌, ◌+◌, refl, sym, subst, ap, ◌∙◌, inl, List, [], ◌∷◌, map, All, Some, Result, arith}
use Rattle.std.specs.Prelude.{slice_get, sum_by}
use Rattle.std.proofs.lemmas.List.Sums.{sum_by-cons}
use Rattle.deed_core.proofs.LawProofs.{mapped}
use Rattle.magazine_layer.specs.Depots.{after_tick}
use Rattle.stock.specs.Spaces.{SpaceState, QuantumCacheState, SpacePlan, slab_size_of, plan_of, plans_of, quantum_of, quanta_of}
use Rattle.stock.specs.Stocks.{IsStock, IsSpaceAt, IsQuantumCache}
use Rattle.stock.specs.Accounts.{Frames, weight_allocated, weight_imported, slabs, slabs_in, chunks, chunks_in, rounds, rounds_in}
use Rattle.stock.specs.OwnCaches.{OwnCacheState}
use Rattle.stock_audit.specs.Accounted.{IsAccountedFor}
use Rattle.stock_audit.specs.Outside.{Outside}
use Rattle.stock_audit.proofs.LawProofs.{hand_steps_keep}
use Rattle.local_parts.specs.Cpus.{own_indexes, indexes_from}
use Rattle.lease_proto.specs.declared.faults.LineFault.{LineFault}
use Rattle.lease_proto.specs.declared.operators.ServedLine.{ServedLine}
use Rattle.lease_proto.specs.Cpus.{IsCpu}
use Rattle.lease_proto.specs.Reports.{ok_text}
use Rattle.lease_machine.specs.Picture.{Picture, IsPicture, IsShapedIn, SameSetup, held_outside, owned_spans}
use Rattle.lease_machine.specs.Operators.{with_depot_by, with_depots_by}
use Rattle.lease_machine.specs.Machine.{AnswersLine}
use Rattle.lease_machine.specs.StepLaws.{TicksAreAnswered, TicksKeep}
use Rattle.lease_machine.proofs.Spans.{same_grows}

pub sums_same : {X : Type 0} (h : X → X) (g : X → ℕ) → ((x : X) → g (h x) ≡ g x) → (xs : List X) → sum_by g (map h xs) ≡ sum_by g xs
sums_same h g same [] = refl
sums_same h g same (x ∷ xs) = omega (arith, sum_by-cons g (h x) (map h xs), sum_by-cons g x xs, same x, sums_same h g same xs)

pub maps_same : {X Y : Type 0} (h : X → X) (g : X → Y) → ((x : X) → g (h x) ≡ g x) → (xs : List X) → map g (map h xs) ≡ map g xs
maps_same h g same [] = refl
maps_same h g same (x ∷ xs) = ap (λ y. y ∷ map g (map h xs)) (same x) ∙ ap (λ ys. g x ∷ ys) (maps_same h g same xs)

abbrev ticked : SpaceState → SpaceState
ticked s = with_depots_by after_tick s

abbrev ticked_cache : QuantumCacheState → QuantumCacheState
ticked_cache c = with_depot_by after_tick c

abbrev pub with_sizes : SpaceState → List ℕ → SpacePlan
with_sizes s sizes = record { source = s.source; quantum = s.arena.quantum; policy = s.arena.policy; slab_sizes = sizes }

plans_same : (spaces : List SpaceState) → plans_of (map ticked spaces) ≡ plans_of spaces
plans_same spaces = maps_same ticked plan_of (λ s. ap (with_sizes s) (maps_same ticked_cache slab_size_of (λ c. refl) s.caches)) spaces

cache_stays : (index number quantum : ℕ) (c : QuantumCacheState) → IsQuantumCache index number quantum c → IsQuantumCache index number quantum (ticked_cache c)
cache_stays index number quantum c is = record {
  arena = is.arena;
  k = is.k;
  quantum_is = is.quantum_is;
  sound = is.sound;
  tiled = is.tiled;
  depot = record { sized = is.depot.sized; whole = is.depot.whole; some = is.depot.some; full_stands = omega arith; empty_stands = omega arith };
  rounds = is.rounds;
}

space_stays : (quanta : List ℕ) (k : ℕ) (s : SpaceState) → IsSpaceAt quanta k s → IsSpaceAt quanta k (ticked s)
space_stays quanta k s is = record {
  few = is.few;
  id = is.id;
  sound = is.sound;
  imported = is.imported;
  owned = is.owned;
  before = is.before;
  nests = is.nests;
  caches = λ j c at. (
      let m = mapped ticked_cache s.caches j c at in
      subst (IsQuantumCache k (j + 1) s.arena.quantum) (sym m.2) (cache_stays k (j + 1) s.arena.quantum m.0 (is.caches j m.0 m.1))
      );
}

stock_stays : (spaces : List SpaceState) → IsStock spaces → IsStock (map ticked spaces)
stock_stays spaces is k x at =
    let m = mapped ticked spaces k x at in
    subst (IsSpaceAt (quanta_of (map ticked spaces)) k) (sym m.2)
    (subst (λ (qs : List ℕ). IsSpaceAt qs k (ticked m.0)) (sym (maps_same ticked quantum_of (λ s. refl) spaces)) (space_stays (quanta_of spaces) k m.0 (is k m.0 m.1)))

frame_stays : (spaces : List SpaceState) → Frames spaces [] (map ticked spaces) []
frame_stays spaces rest a = record {
  exports = λ f. (
      let own = sums_same ticked (weight_allocated f) (λ s. refl) spaces in
      let spans = sums_same ticked (slabs f) (λ s. sums_same ticked_cache (slabs_in f) (λ c. refl) s.caches) spaces in
      let below = sums_same ticked (weight_imported f) (λ s. refl) spaces in
      omega (arith, a.exports f, own, spans, below)
      );
  chunks_out = λ f. (
      let out = sums_same ticked (chunks f) (λ s. sums_same ticked_cache (chunks_in f) (λ c. refl) s.caches) spaces in
      let kept = sums_same ticked (rounds f) (λ s. sums_same ticked_cache (rounds_in f) (λ c. refl) s.caches) spaces in
      omega (arith, a.chunks_out f, out, kept)
      );
}

shape_stays : (spaces : List SpaceState) (o : OwnCacheState) → IsShapedIn spaces o → IsShapedIn (map ticked spaces) o
shape_stays spaces o is = record {
  shape = is.shape;
  most = λ c at. (
      let m = mapped ticked spaces o.arena at.space at.at in
      let among : slice_get (ticked m.0).caches o.cache ≡ Some c = ap (λ (s : SpaceState). slice_get s.caches o.cache) (sym m.2) ∙ at.among in
      let n = mapped ticked_cache m.0.caches o.cache c among in
      subst (λ (x : QuantumCacheState). o.cpu.size ≤ x.depot.size) (sym n.2) (is.most n.0 (record { space = m.0; at = m.1; among = n.1 }))
      );
}

units_stay : (spaces : List SpaceState) (out : Outside) → IsAccountedFor spaces out → IsAccountedFor (map ticked spaces) out
units_stay spaces out is = hand_steps_keep spaces (map ticked spaces) [] [] out out is
    (record { stock = stock_stays spaces is.parts; frame = frame_stays spaces; fixed = plans_same spaces })
    (record { rest = out.hands; gave = λ f. refl; took = λ f. refl; leases = refl; cpus = refl })

module _ (d : Picture) (is : IsPicture d) where
  abbrev after : Picture
  after = record d { spaces = map ticked d.spaces }

  picture_stays : IsPicture after
  picture_stays = record {
    held = record {
      tree = is.held.tree;
      plans = plans_same d.spaces ∙ is.held.plans;
      units = units_stay d.spaces (held_outside d) is.held.units;
      cpus = record {
        each = subst (λ (ps : List SpacePlan). All (λ c. IsCpu c.number × (own_indexes c.caches ≡ indexes_from 0 ps)) d.cpus) (sym (plans_same d.spaces)) is.held.cpus.each;
        shapes = λ i c below j o within. shape_stays d.spaces _ (is.held.cpus.shapes i c below j o within);
        numbers = is.held.cpus.numbers;
        there = is.held.cpus.there;
      };
    };
    book = is.book;
  }

setup_stays : (d : Picture) → SameSetup d (record d { spaces = map ticked d.spaces })
setup_stays d = record { tree = refl; owned = maps_same ticked owned_spans (λ s. refl) d.spaces }

pub ticks_keep : TicksKeep
ticks_keep d is = (picture_stays d is, setup_stays d)

pub ticks_are_answered : TicksAreAnswered
ticks_are_answered d line is read = record {
  answer = subst (λ (y : Result ServedLine LineFault). AnswersLine d y ok_text (after d is)) (sym read) (inl (refl, refl));
  setup = same_grows d (after d is) (setup_stays d);
  stays = λ none. setup_stays d;
  picture = picture_stays d is;
}
