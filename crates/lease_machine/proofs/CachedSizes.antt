-- The cache for a size.
use Rattle.std.proofs.Common.{◌≡◌, ◌⊎◌, ℕ, suc, zero, ◌+◌, ◌*◌, ◌<◌, ◌≤◌, Bool, true, false, cond, ◌&&◌, nat_lt, refl, sym, ap, ◌∙◌, inl, inr, Some, None, arith}
use Rattle.std.specs.Prelude.{nat_le, MatchOption}
use Rattle.std.proofs.Math.Nat.{mod-eq-sub-div-mul, div-mul-le_self, div-lt_iff_lt-mul}
use Rattle.std.proofs.lemmas.Bool.{cases_lt, lt-ltb, le-leb}
use Rattle.std.proofs.lemmas.Bool.Decides.{leb_tells}
use Rattle.deed_core.specs.Request.{IsPlain, rounding_of}
use Rattle.deed_core.specs.declared.requests.Request.{Request}
use Rattle.deed_core.proofs.LawProofs.{rounds_up, power_some}
use Rattle.arena_tree.specs.declared.limits.TheConstants.{MOST_CACHES}
use Rattle.arena_tree.specs.declared.levels.Level.{Level}
use Rattle.arena_tree.specs.declared.trees.TreeArena.{TreeArena}
use Rattle.arena_tree.specs.Trees.{level_of}
use Rattle.quantum_cache.specs.Sizes.{quanta_for, is_cached}
use Rattle.lease_machine.specs.Serving.{IsCachedIn}
use Rattle.lease_machine.specs.CacheLaws.{CachedByNumber}

all_true : (a b c : Bool) → a ≡ true → b ≡ true → c ≡ true → (a && b && c) ≡ true
all_true true true true p q r = refl
all_true false b c p q r = absurd (let e : false ≡ true = p in cc)
all_true true false c p q r = absurd (let e : false ≡ true = q in cc)
all_true true true false p q r = absurd (let e : false ≡ true = r in cc)

second_false : (a b c : Bool) → b ≡ false → (a && b && c) ≡ false
second_false true true c p = absurd (let e : true ≡ false = p in cc)
second_false false true c p = absurd (let e : true ≡ false = p in cc)
second_false true false c p = refl
second_false false false c p = refl

-- some whole quanta are one and more
one_more : (k quantum units : ℕ) → units ≡ k * quantum → 0 < units → (j : ℕ) × (k ≡ j + 1)
one_more zero quantum units is some = absurd (omega (arith, is, some))
one_more (suc j) quantum units is some = (j, omega arith)

module _ (index : ℕ) (x : TreeArena) (q : Request) (plain : IsPlain q) (some : 0 < q.size) (positive : 0 < x.quantum) (few : x.qcache_max ≤ MOST_CACHES * x.quantum) where
  abbrev level : Level
  level = level_of index x

  abbrev units : ℕ
  units = rounding_of x.quantum q.size

  abbrev number : ℕ
  number = quanta_for level q.size

  units_some : 0 < units
  units_some = (let up = (rounds_up x.quantum q.size positive).1 in omega (arith, up, some))

  whole : units ≡ number * x.quantum
  whole =
      let rest = mod-eq-sub-div-mul units x.quantum in
      let least = div-mul-le_self units x.quantum in
      let none = (rounds_up x.quantum q.size positive).0 in
      omega (arith, rest, least, none)

  abbrev IsFor : ℕ → Type 0
  IsFor n = IsCachedIn x q × ((cache : ℕ) × (n ≡ cache + 1) × (units ≡ (cache + 1) * x.quantum))

  by_cache : IsCachedIn x q → IsFor number
  by_cache cached =
      let more = one_more number x.quantum units whole units_some in
      (cached, (more.0, more.1, whole ∙ ap (λ (k : ℕ). k * x.quantum) more.1))

  cached_so : units ≤ x.qcache_max → is_cached level q.size ≡ true
  cached_so most =
      let small : number < 256 = (div-lt_iff_lt-mul {k = x.quantum} {x = units} {y = 256} positive).1 (omega (arith, most, few, positive)) in
      all_true (nat_lt 0 q.size) (nat_le units x.qcache_max) (nat_lt number 256) (lt-ltb 0 q.size some) (le-leb units x.qcache_max most) (lt-ltb number 256 small)

  by_test : (b : Bool) → is_cached level q.size ≡ b → (units ≤ x.qcache_max) ⊎ (x.qcache_max < units) → MatchOption (cond b (Some number) None) (¬ IsCachedIn x q) IsFor
  by_test true e (inl most) = by_cache (plain, most)
  by_test false e (inl most) = absurd (let f : true ≡ false = sym (cached_so most) ∙ e in cc)
  by_test true e (inr above) = absurd (let f : false ≡ true = sym (second_false (nat_lt 0 q.size) (nat_le units x.qcache_max) (nat_lt number 256) (not_most above)) ∙ e in cc)
    where
      not_most : x.qcache_max < units → nat_le units x.qcache_max ≡ false
      not_most above = elim (leb_tells units x.qcache_max) [
        | inl within ↦ absurd (omega (arith, within.1, above))
        | inr beyond ↦ beyond.0
      ]
  by_test false e (inr above) = λ cached. omega (arith, cached.1, above)

pub cached_by_number : CachedByNumber
cached_by_number tree index x q is here plain some =
    let own = is.each index x here in
    let positive : 0 < x.quantum = power_some x.quantum own.power in
    let few : x.qcache_max ≤ MOST_CACHES * x.quantum = own.caches.1 in
    by_test index x q plain some positive few (is_cached (level_of index x) q.size) refl
    (elim (cases_lt x.qcache_max (rounding_of x.quantum q.size)) [
      | inl above ↦ inr above
      | inr most ↦ inl most
    ])
