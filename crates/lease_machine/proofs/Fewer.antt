-- What has a base for some units has one for fewer.
use Rattle.std.proofs.Common.{◌≡◌, ℕ, suc, zero, ◌<◌, ◌≤◌, refl, inl, inr, List, [], ◌∷◌, Option, Some, None, arith}
use Rattle.std.specs.Prelude.{slice_get, max}
use Rattle.deed_core.specs.Holding.{Holding}
use Rattle.deed_core.specs.Request.{plain_of, rounding_of}
use Rattle.deed_core.proofs.LawProofs.{rounds_up, rounds_to_the_least, power_some}
use Rattle.tag_arena.specs.Place.{ServesIn}
use Rattle.arena_tree.specs.declared.levels.Level.{Level}
use Rattle.arena_tree.specs.declared.trees.TreeArena.{TreeArena}
use Rattle.arena_tree.specs.Chains.{amount_of}
use Rattle.arena_tree.specs.Trees.{IsTree}
use Rattle.quantum_cache.specs.Caches.{rest_of_chain, chain_up, chain_in}
use Rattle.stock.specs.Spaces.{SpaceState}
use Rattle.stock.specs.Stocks.{IsStock}
use Rattle.local_calls.specs.NoFits.{HasBaseUp}
use Rattle.lease_machine.specs.RoomLaws.{FewerFitToo}

rounded_fewer : (quantum n most : ℕ) → 0 < quantum → n ≤ most → rounding_of quantum n ≤ rounding_of quantum most
rounded_fewer quantum n most some le =
    let up = rounds_up quantum most some in
    rounds_to_the_least quantum n (rounding_of quantum most) some up.0 (omega (arith, le, up.1))

serves_fewer : (quantum n most base : ℕ) (r : Holding) → 0 < quantum → n ≤ most → ServesIn quantum (plain_of most) r base → ServesIn quantum (plain_of n) r base
serves_fewer quantum n most base r some le serves =
    let fewer = rounded_fewer quantum n most some le in
    record {
      fits = record {
        size = refl;
        whole = serves.fits.whole;
        phase = λ ne. absurd (ne refl);
        min = serves.fits.min;
        max = (let top = serves.fits.max in omega (arith, top, fewer));
        nocross = λ ne. absurd (ne refl);
      };
      from = serves.from;
      to = omega (arith, serves.to, fewer);
    }

-- each arena of the chain has a quantum
abbrev HaveQuanta : List Level → Type 0
HaveQuanta [] = Unit {0}
HaveQuanta (l ∷ up) = (0 < l.quantum) × HaveQuanta up

amount_fewer : (l s : Level) (up : List Level) (n most : ℕ) → 0 < l.quantum → 0 < s.quantum → n ≤ most → amount_of l (s ∷ up) n ≤ amount_of l (s ∷ up) most
amount_fewer l s up n most own above le =
    let first = rounded_fewer l.quantum n most own le in
    let asked : max (rounding_of l.quantum n) l.import_min ≤ max (rounding_of l.quantum most) l.import_min = omega (arith, first) in
    let second = rounded_fewer s.quantum (max (rounding_of l.quantum n) l.import_min) (max (rounding_of l.quantum most) l.import_min) above asked in
    omega (arith, second)

fewer_up : (spaces : List SpaceState) → IsStock spaces → (chain : List Level) → HaveQuanta chain → (n most : ℕ) → n ≤ most → HasBaseUp spaces chain most → HasBaseUp spaces chain n
fewer_up spaces stock [] quanta n most le has = absurd has
fewer_up spaces stock (l ∷ []) quanta n most le has = elim has [
  | inl index ↦
      let some = power_some index.0.arena.quantum (stock l.id index.0 index.1).sound.divided.power in
      let r = index.2.1 in
      inl (index.0, index.1, (index.2.0, (r.0, r.1, r.2, r.3, serves_fewer index.0.arena.quantum n most index.2.0 r.1 some le r.4)))
  | inr none ↦ absurd none
]
fewer_up spaces stock (l ∷ (s ∷ up)) quanta n most le has = elim has [
  | inl index ↦
      let some = power_some index.0.arena.quantum (stock l.id index.0 index.1).sound.divided.power in
      let r = index.2.1 in
      inl (index.0, index.1, (index.2.0, (r.0, r.1, r.2, r.3, serves_fewer index.0.arena.quantum n most index.2.0 r.1 some le r.4)))
  | inr above ↦ inr (fewer_up spaces stock (s ∷ up) quanta.1 (amount_of l (s ∷ up) n) (amount_of l (s ∷ up) most) (amount_fewer l s up n most quanta.0 quanta.1.0 le) above)
]

on_quanta : (tree : List TreeArena) → IsTree tree → (p : ℕ) (again : Option ℕ → List Level) (o : Option TreeArena) → slice_get tree p ≡ o → ((x : TreeArena) → HaveQuanta (again x.source)) → HaveQuanta (rest_of_chain again p o)
on_quanta tree is p again None at rest = tt
on_quanta tree is p again (Some x) at rest = (power_some x.quantum (is.each p x at).power, rest x)

chain_quanta : (tree : List TreeArena) → IsTree tree → (m : ℕ) (o : Option ℕ) → HaveQuanta (chain_up m tree o)
chain_quanta tree is zero o = tt
chain_quanta tree is (suc m) None = tt
chain_quanta tree is (suc m) (Some p) = on_quanta tree is p (chain_up m tree) (slice_get tree p) refl (λ x. chain_quanta tree is m x.source)

pub fewer_fit : (tree : List TreeArena) (spaces : List SpaceState) (index n most : ℕ) → IsTree tree → IsStock spaces → n ≤ most → HasBaseUp spaces (chain_in tree index) most → HasBaseUp spaces (chain_in tree index) n
fewer_fit tree spaces index n most is stock le has = fewer_up spaces stock (chain_in tree index) (chain_quanta tree is 4 (Some index)) n most le has

pub fewer_fit_too : FewerFitToo
fewer_fit_too d index n most is le has = fewer_fit d.tree d.spaces index n most is.held.tree is.held.units.parts le has
