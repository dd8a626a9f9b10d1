-- The own caches that CPUs begin with.
use Rattle.std.proofs.Common.{◌≡◌, ◌⊎◌, ℕ, zero, suc, ◌+◌, ◌/◌, ◌<◌, List, [], ◌∷◌, ◌++◌, replicate, take, length, Some, None, refl, sym, subst, ap, ◌∙◌, inl, inr, arith}
use Rattle.std.specs.Prelude.{slice_get, sum_by}
use Rattle.std.proofs.lemmas.List.{length-append, length-map, length-replicate, length-take-le, replicate-append-replicate, append-nil, append_assoc}
use Rattle.std.proofs.Math.Numerals.{add-one}
use Rattle.std.proofs.lemmas.Option.{slice_get_within}
use Rattle.deed_core.specs.Tag.{Tag}
use Rattle.deed_core.proofs.LawProofs.{pushed, mapped, slice_get_mapped, slice_get_some, slice_get_one, all_from, power_some}
use Rattle.magazine_layer.specs.Magazines.{IsShaped}
use Rattle.arena_tree.specs.declared.trees.TreeArena.{TreeArena}
use Rattle.arena_tree.specs.Trees.{IsTree}
use Rattle.stock.specs.Spaces.{SpaceState, SpacePlan, plan_of, plans_of, slab_size_of}
use Rattle.stock.specs.Setups.{plan_for, plans_for}
use Rattle.stock.specs.OwnCaches.{OwnCacheState, own_rounds, all_own_rounds}
use Rattle.stock_audit.specs.Outside.{outside}
use Rattle.stock_audit.specs.Accounted.{IsOwnIn}
use Rattle.stock_audit.proofs.LawProofs.{cpus_keep}
use Rattle.lease_book.specs.BookState.{leased_segments}
use Rattle.world_core.specs.WorldState.{WorldState, in_hands}
use Rattle.world_core.specs.IsWorld.{IsWorld, AreInOrder, IsBefore}
use Rattle.world_core.proofs.Members.{take_next}
use Rattle.world_core.specs.Setups.{empty_own, own_row, own_rows, own_caches, own_owners}

-- Members of lists that are put together.

module _ {X : Type 0} where
  -- one of the first list, or of the second
  joined : (xs ys : List X) (k : ℕ) (x : X) → slice_get (xs ++ ys) k ≡ Some x → (slice_get xs k ≡ Some x) ⊎ ((j : ℕ) × (k ≡ length xs + j) × (slice_get ys j ≡ Some x))
  joined [] ys k x at = inr (k, omega arith, at)
  joined (z ∷ xs) ys zero x at = inl at
  joined (z ∷ xs) ys (suc k) x at = elim (joined xs ys k x at) [
    | inl here ↦ inl here
    | inr there ↦ inr (there.0, (let e = there.1 in omega (arith, e)), there.2)
  ]

  replicated : (n : ℕ) (y : X) (k : ℕ) (x : X) → slice_get (replicate n y) k ≡ Some x → x ≡ y
  replicated zero y k x at = absurd (let e : None ≡ Some x = at in cc)
  replicated (suc n) y zero x at = (let e : Some y ≡ Some x = at in cc)
  replicated (suc n) y (suc k) x at = replicated n y k x at

-- Order.

module _ (os ps : List ℕ) (cs ds : List OwnCacheState) (a : AreInOrder os cs) (b : AreInOrder ps ds)
    (apart : (i j cpu : ℕ) (o p : OwnCacheState) → slice_get os i ≡ Some cpu → slice_get cs i ≡ Some o → slice_get ps j ≡ Some cpu → slice_get ds j ≡ Some p → IsBefore o p) where
  record InFirst (i cpu : ℕ) (o : OwnCacheState) : Type 0 where
    owner : slice_get os i ≡ Some cpu
    at : slice_get cs i ≡ Some o

  record InSecond (i cpu : ℕ) (o : OwnCacheState) : Type 0 where
    index : ℕ
    is : i ≡ length os + index
    owner : slice_get ps index ≡ Some cpu
    at : slice_get ds index ≡ Some o

  either : (i cpu : ℕ) (o : OwnCacheState) → slice_get (os ++ ps) i ≡ Some cpu → slice_get (cs ++ ds) i ≡ Some o → InFirst i cpu o ⊎ InSecond i cpu o
  either i cpu o owner at = by (joined os ps i cpu owner) (joined cs ds i o at)
    where
      by : (slice_get os i ≡ Some cpu) ⊎ ((j : ℕ) × (i ≡ length os + j) × (slice_get ps j ≡ Some cpu))
          → (slice_get cs i ≡ Some o) ⊎ ((j : ℕ) × (i ≡ length cs + j) × (slice_get ds j ≡ Some o)) → InFirst i cpu o ⊎ InSecond i cpu o
      by (inl x) (inl y) = inl (record { owner = x; at = y })
      by (inl x) (inr y) = absurd (let e = slice_get_within os i cpu x in omega (arith, e, y.1, a.owned))
      by (inr x) (inl y) = absurd (let e = slice_get_within cs i o y in omega (arith, e, x.1, a.owned))
      by (inr x) (inr y) =
          let same : y.0 ≡ x.0 = omega (arith, x.1, y.1, a.owned) in
          inr (record { index = x.0; is = x.1; owner = x.2; at = subst (λ (n : ℕ). slice_get ds n ≡ Some o) same y.2 })

  pub in_order_joined : AreInOrder (os ++ ps) (cs ++ ds)
  in_order_joined = record {
    owned = omega (arith, a.owned, b.owned, length-append os ps, length-append cs ds);
    order = λ i j cpu o p less mine here yours there. by i j cpu o p less (either i cpu o mine here) (either j cpu p yours there);
  }
    where
      by : (i j cpu : ℕ) (o p : OwnCacheState) → i < j → InFirst i cpu o ⊎ InSecond i cpu o → InFirst j cpu p ⊎ InSecond j cpu p → IsBefore o p
      by i j cpu o p less (inl x) (inl y) = a.order i j cpu o p less x.owner x.at y.owner y.at
      by i j cpu o p less (inl x) (inr y) = apart i y.index cpu o p x.owner x.at y.owner y.at
      by i j cpu o p less (inr x) (inl y) = absurd (let e = slice_get_within os j cpu y.owner in omega (arith, e, less, x.is))
      by i j cpu o p less (inr x) (inr y) = b.order x.index y.index cpu o p (omega (arith, less, x.is, y.is)) x.owner x.at y.owner y.at

-- Those of one arena.

row_length : (arena quantum n : ℕ) → length (own_row arena quantum n) ≡ n
row_length arena quantum zero = refl
row_length arena quantum (suc n) = omega (arith, row_length arena quantum n, length-append (own_row arena quantum n) (empty_own arena n quantum ∷ []))

row_member : (arena quantum n i : ℕ) (o : OwnCacheState) → slice_get (own_row arena quantum n) i ≡ Some o → (i < n) × (o ≡ empty_own arena i quantum)
row_member arena quantum zero i o at = absurd (let e : None ≡ Some o = at in cc)
row_member arena quantum (suc n) i o at = elim (pushed (own_row arena quantum n) i (empty_own arena n quantum) o at) [
  | inl last ↦
      let is : i ≡ n = last.0 ∙ row_length arena quantum n in
      (omega (arith, is), last.1 ∙ ap (λ (k : ℕ). empty_own arena k quantum) (sym is))
  | inr before ↦
      let there = row_member arena quantum n i o before in
      (omega (arith, there.0), there.1)
]

row_in_order : (cpu arena quantum n : ℕ) → AreInOrder (replicate (length (own_row arena quantum n)) cpu) (own_row arena quantum n)
row_in_order cpu arena quantum n = record {
  owned = length-replicate (length (own_row arena quantum n)) cpu;
  order = λ i j c o p less mine here yours there. (let a = row_member arena quantum n i o here in
      let b = row_member arena quantum n j p there in
      inr (
        ap (λ (x : OwnCacheState). x.arena) a.1 ∙ sym (ap (λ (x : OwnCacheState). x.arena) b.1),
        omega (arith, less, ap (λ (x : OwnCacheState). x.cache) a.1, ap (λ (x : OwnCacheState). x.cache) b.1),
      ));
}

-- Those of all arenas.

record IsOneOf (k : ℕ) (arenas : List TreeArena) (o : OwnCacheState) : Type 0 where
  index : ℕ
  number : ℕ
  arena : TreeArena
  at : slice_get arenas index ≡ Some arena
  within : number < arena.qcache_max / arena.quantum
  is : o ≡ empty_own (k + index) number arena.quantum

rows_member : (k : ℕ) (arenas : List TreeArena) (i : ℕ) (o : OwnCacheState) → slice_get (own_rows k arenas) i ≡ Some o → IsOneOf k arenas o
rows_member k [] i o at = absurd (let e : None ≡ Some o = at in cc)
rows_member k (x ∷ arenas) i o at = elim (joined (own_row k x.quantum (x.qcache_max / x.quantum)) (own_rows (k + 1) arenas) i o at) [
  | inl here ↦
      let m = row_member k x.quantum (x.qcache_max / x.quantum) i o here in
      let same : k ≡ k + 0 = omega arith in
      record { index = 0; number = i; arena = x; at = refl; within = m.0; is = m.1 ∙ ap (λ (n : ℕ). empty_own n i x.quantum) same }
  | inr there ↦
      let m = rows_member (k + 1) arenas there.0 o there.2 in
      let same : (k + 1) + m.index ≡ k + suc m.index = omega arith in
      record { index = suc m.index; number = m.number; arena = m.arena; at = m.at; within = m.within; is = m.is ∙ ap (λ (n : ℕ). empty_own n m.number m.arena.quantum) same }
]

rows_in_order : (cpu k : ℕ) (arenas : List TreeArena) → AreInOrder (replicate (length (own_rows k arenas)) cpu) (own_rows k arenas)
rows_in_order cpu k [] = record { owned = refl; order = λ i j c o p less mine here yours there. absurd (let e : None ≡ Some o = here in cc) }
rows_in_order cpu k (x ∷ arenas) =
    let count = x.qcache_max / x.quantum in
    let row = own_row k x.quantum count in
    let rest = own_rows (k + 1) arenas in
    let split : replicate (length row) cpu ++ replicate (length rest) cpu ≡ replicate (length (row ++ rest)) cpu =
    replicate-append-replicate (length row) (length rest) cpu ∙ ap (λ (n : ℕ). replicate n cpu) (sym (length-append row rest)) in
    subst (λ (owners : List ℕ). AreInOrder owners (row ++ rest)) split
    (in_order_joined (replicate (length row) cpu) (replicate (length rest) cpu) row rest (row_in_order cpu k x.quantum count) (rows_in_order cpu (k + 1) arenas) (λ i j c o p mine here yours there. (let a = row_member k x.quantum count i o here in
    let b = rows_member (k + 1) arenas j p there in
    inl (omega (arith, ap (λ (z : OwnCacheState). z.arena) a.1, ap (λ (z : OwnCacheState). z.arena) b.is)))))

-- Those of all CPUs.

caches_member : (cpus : ℕ) (arenas : List TreeArena) (i : ℕ) (o : OwnCacheState) → slice_get (own_caches cpus arenas) i ≡ Some o → IsOneOf 0 arenas o
caches_member zero arenas i o at = absurd (let e : None ≡ Some o = at in cc)
caches_member (suc cpus) arenas i o at = elim (joined (own_caches cpus arenas) (own_rows 0 arenas) i o at) [
  | inl here ↦ caches_member cpus arenas i o here
  | inr there ↦ rows_member 0 arenas there.0 o there.2
]

owner_below : (cpus : ℕ) (arenas : List TreeArena) (i c : ℕ) → slice_get (own_owners cpus arenas) i ≡ Some c → c < cpus
owner_below zero arenas i c at = absurd (let e : None ≡ Some c = at in cc)
owner_below (suc cpus) arenas i c at = elim (joined (own_owners cpus arenas) (replicate (length (own_rows 0 arenas)) cpus) i c at) [
  | inl here ↦ (let e = owner_below cpus arenas i c here in omega (arith, e))
  | inr there ↦ (let e = replicated (length (own_rows 0 arenas)) cpus there.0 c there.2 in omega (arith, e))
]

caches_in_order : (cpus : ℕ) (arenas : List TreeArena) → AreInOrder (own_owners cpus arenas) (own_caches cpus arenas)
caches_in_order zero arenas = record { owned = refl; order = λ i j c o p less mine here yours there. absurd (let e : None ≡ Some o = here in cc) }
caches_in_order (suc cpus) arenas = in_order_joined (own_owners cpus arenas) (replicate (length (own_rows 0 arenas)) cpus) (own_caches cpus arenas) (own_rows 0 arenas) (caches_in_order cpus arenas) (rows_in_order cpus 0 arenas)
    (λ i j c o p mine here yours there. absurd (let a = owner_below cpus arenas i c mine in
    let b = replicated (length (own_rows 0 arenas)) cpus j c yours in
    omega (arith, a, b)))

no_rounds : (xs : List OwnCacheState) → ((k : ℕ) (o : OwnCacheState) → slice_get xs k ≡ Some o → own_rounds o ≡ []) → all_own_rounds xs ≡ []
no_rounds [] none = refl
no_rounds (x ∷ xs) none =
    ap (λ (ts : List Tag). ts ++ all_own_rounds xs) (none 0 x refl) ∙ no_rounds xs (λ k o at. none (suc k) o at)

-- Each is of a quantum cache that stands.
module _ (arenas : List TreeArena) (tree : IsTree arenas) (stock : List SpaceState) (plans : plans_of stock ≡ plans_for arenas) where
  is_own : (o : OwnCacheState) → IsOneOf 0 arenas o → IsOwnIn stock o
  is_own o m =
      let planned : slice_get (plans_of stock) m.index ≡ Some (plan_for m.arena) = ap (λ (ps : List SpacePlan). slice_get ps m.index) plans ∙ slice_get_mapped plan_for arenas m.index m.arena m.at in
      let space = mapped plan_of stock m.index (plan_for m.arena) planned in
      let s = space.0 in
      let quantum : m.arena.quantum ≡ s.arena.quantum = ap (λ (p : SpacePlan). p.quantum) space.2 in
      let sizes = ap (λ (p : SpacePlan). length p.slab_sizes) space.2 in
      let count : m.arena.qcache_max / m.arena.quantum ≡ length s.caches =
      sym (length-replicate (m.arena.qcache_max / m.arena.quantum) m.arena.slab_size) ∙ sizes ∙ length-map s.caches slab_size_of in
      let cache = slice_get_some s.caches m.number (let w = m.within in omega (arith, w, count)) in
      let power = power_some m.arena.quantum (tree.each m.index m.arena m.at).power in
      let first : 0 + m.index ≡ m.index = omega arith in
      let here : o ≡ empty_own m.index m.number m.arena.quantum = m.is ∙ ap (λ (n : ℕ). empty_own n m.number m.arena.quantum) first in
      subst (IsOwnIn stock) (sym here) (record {
        own = record { some = power; rounds = all_from _ [] (λ k t at. absurd (let e = slice_get_within [] k t at in omega (arith, e))) };
        has = (cache.0, record { space = s; at = space.1; among = cache.1 });
        quantum = λ x at. (let same : x ≡ s = slice_get_one stock m.index x s at space.1 in ap (λ (y : SpaceState). y.arena.quantum) same ∙ sym quantum);
      })

pub with_own : (w : WorldState) (cpus : ℕ) (arenas : List TreeArena) (owners : List ℕ) (caches : List OwnCacheState) → IsWorld (record w { owners = []; caches = [] }) → length w.hands ≡ cpus → IsTree arenas → plans_of w.stock ≡ plans_for arenas
    → owners ≡ own_owners cpus arenas → caches ≡ own_caches cpus arenas → IsWorld (record w { owners = owners; caches = caches })
with_own w cpus arenas owners caches is count tree plans os cs =
    let of = sym os in
    let among = sym cs in
    let all = own_caches cpus arenas in
    subst IsWorld (λ j. record w { owners = of j; caches = among j }) (record {
      parts = cpus_keep w.stock (outside (in_hands w.hands) (leased_segments w.book) []) (outside (in_hands w.hands) (leased_segments w.book) all) is.parts (record {
        hands = refl;
        leases = refl;
        rounds = λ f. ap (sum_by f) (sym (no_rounds all (λ k o at. ap own_rounds (caches_member cpus arenas k o at).is)));
        own = all_from (IsOwnIn w.stock) all (λ k o at. is_own arenas tree w.stock plans o (caches_member cpus arenas k o at));
      });
      named = is.named;
      few = is.few;
      names = is.names;
      book = is.book;
      due = is.due;
      ids = is.ids;
      known = is.known;
      said = is.said;
      cpus = record {
        served = is.cpus.served;
        marked = is.cpus.marked;
        owned = λ k cpu at. (let below = owner_below cpus arenas k cpu at in omega (arith, below, count));
      };
      tasks = is.tasks;
      own = caches_in_order cpus arenas;
      shaped = λ k o at. subst (λ (x : OwnCacheState). IsShaped x.cpu) (sym (caches_member cpus arenas k o at).is) (record { sized = inl refl; most = omega arith; whole = inl refl });
      told = is.told;
    })

-- As they are made, one after another.

pub row_more : (arena quantum n : ℕ) (start mid new : List OwnCacheState) → mid ≡ start ++ own_row arena quantum n → new ≡ mid ++ empty_own arena n quantum ∷ []
    → new ≡ start ++ own_row arena quantum (n + 1)
row_more arena quantum n start mid new is put =
    put ∙ ap (λ (xs : List OwnCacheState). xs ++ empty_own arena n quantum ∷ []) is
    ∙ append_assoc start (own_row arena quantum n) (empty_own arena n quantum ∷ [])
    ∙ ap (λ (k : ℕ). start ++ own_row arena quantum k) (sym (add-one n))

pub replicate_more : (n cpu : ℕ) (start mid new : List ℕ) → mid ≡ start ++ replicate n cpu → new ≡ mid ++ cpu ∷ [] → new ≡ start ++ replicate (n + 1) cpu
replicate_more n cpu start mid new is put =
    put ∙ ap (λ (xs : List ℕ). xs ++ cpu ∷ []) is ∙ append_assoc start (replicate n cpu) (cpu ∷ [])
    ∙ ap (λ (xs : List ℕ). start ++ xs) (replicate-append-replicate n 1 cpu)

rows_snoc : (k : ℕ) (arenas : List TreeArena) (x : TreeArena) → own_rows k (arenas ++ x ∷ []) ≡ own_rows k arenas ++ own_row (k + length arenas) x.quantum (x.qcache_max / x.quantum)
rows_snoc k [] x = append-nil (own_row k x.quantum (x.qcache_max / x.quantum)) ∙ (let e : k ≡ k + 0 = omega arith in ap (λ (n : ℕ). own_row n x.quantum (x.qcache_max / x.quantum)) e)
rows_snoc k (y ∷ arenas) x =
    let e : (k + 1) + length arenas ≡ k + suc (length arenas) = omega arith in
    ap (λ (xs : List OwnCacheState). own_row k y.quantum (y.qcache_max / y.quantum) ++ xs) (rows_snoc (k + 1) arenas x ∙ ap (λ (n : ℕ). own_rows (k + 1) arenas ++ own_row n x.quantum (x.qcache_max / x.quantum)) e)
    ∙ sym (append_assoc (own_row k y.quantum (y.qcache_max / y.quantum)) (own_rows (k + 1) arenas) (own_row (k + suc (length arenas)) x.quantum (x.qcache_max / x.quantum)))

module _ (arenas : List TreeArena) (k : ℕ) (x : TreeArena) (at : slice_get arenas k ≡ Some x) where
  abbrev so_far : List OwnCacheState
  so_far = own_rows 0 (take k arenas)

  abbrev here : List OwnCacheState
  here = own_row k x.quantum (x.qcache_max / x.quantum)

  more : own_rows 0 (take (k + 1) arenas) ≡ so_far ++ here
  more =
      let within = slice_get_within arenas k x at in
      let taken = length-take-le k arenas (omega (arith, within)) in
      let number : 0 + length (take k arenas) ≡ k = omega (arith, taken) in
      ap (own_rows 0) (take_next arenas k x at) ∙ rows_snoc 0 (take k arenas) x ∙ ap (λ (n : ℕ). so_far ++ own_row n x.quantum (x.qcache_max / x.quantum)) number

  pub rows_more : (start mid new : List OwnCacheState) → mid ≡ start ++ so_far → new ≡ mid ++ here → new ≡ start ++ own_rows 0 (take (k + 1) arenas)
  rows_more start mid new is put =
      put ∙ ap (λ (xs : List OwnCacheState). xs ++ here) is ∙ append_assoc start so_far here ∙ ap (λ (xs : List OwnCacheState). start ++ xs) (sym more)

  pub owners_more : (cpu : ℕ) (start mid new : List ℕ) → mid ≡ start ++ replicate (length so_far) cpu → new ≡ mid ++ replicate (x.qcache_max / x.quantum) cpu
      → new ≡ start ++ replicate (length (own_rows 0 (take (k + 1) arenas))) cpu
  owners_more cpu start mid new is put =
      let count : length so_far + x.qcache_max / x.quantum ≡ length (own_rows 0 (take (k + 1) arenas)) =
      ap (λ (n : ℕ). length so_far + n) (sym (row_length k x.quantum (x.qcache_max / x.quantum))) ∙ sym (length-append so_far here) ∙ ap length (sym more) in
      put ∙ ap (λ (xs : List ℕ). xs ++ replicate (x.qcache_max / x.quantum) cpu) is ∙ append_assoc start (replicate (length so_far) cpu) (replicate (x.qcache_max / x.quantum) cpu)
      ∙ ap (λ (xs : List ℕ). start ++ xs) (replicate-append-replicate (length so_far) (x.qcache_max / x.quantum) cpu ∙ ap (λ (n : ℕ). replicate n cpu) count)
