-- Which segments are chunks of a cache.
use Rattle.std.proofs.Common.{◌≡◌, inl, inr, ℕ, zero, suc, ◌+◌, ◌*◌, ◌<◌, ◌≤◌, ◌⊎◌, if◌then◌else◌, Bool, true, false, not, List, [], ◌∷◌, length, get_or, All, AllPairs, refl, sym, ap, ◌∙◌, arith, subst}
use Rattle.std.specs.Prelude.{Contains}
use Rattle.std.proofs.lemmas.Bool.{cases_order, not-true}
use Rattle.std.proofs.lemmas.List.{get_or_default}
use Rattle.deed_core.specs.Extent.{Extent, end_of}
use Rattle.deed_core.specs.Holding.{Holding}
use Rattle.deed_core.specs.Tag.{Tag}
use Rattle.deed_core.specs.declared.segments.Route.TheVariants.{Cached}
use Rattle.slab_layer.specs.Slab.{SlabState, IsSlab, chunk_at, idle_chunks_by, chunks_out_by, items_where}
use Rattle.slab_layer.specs.Cache.{SlabCacheState, IsBelow, IsSoundCache, chunk_tag, idle_chunks, chunks_out}
use Rattle.slab_layer.specs.Calls.{StandsAt, IsChunk}
use Rattle.slab_layer.proofs.RowLemmas.{room_for}
use Rattle.slab_layer.proofs.SlabLemmas.{place_is}
use Rattle.slab_layer.proofs.ListLemmas.{contains_part, part_contains}
use Rattle.slab_layer.proofs.SoundLemmas.{of_size}
use Rattle.slab_layer.proofs.MoveLemmas.{slab_of_size}

module _ {X : Type 0} where
  in_rest : (b : Bool) (y x : X) (ys : List X) → Contains ys x → Contains (if b then y ∷ ys else ys) x
  in_rest true y x ys has = (suc has.0, omega (arith, has.1), has.2)
  in_rest false y x ys has = has

  pub contains_passing : (test : Bool → Bool) (f : ℕ → X) (i : ℕ) (xs : List Bool) (j : ℕ) (d : Bool) → j < length xs → test (get_or xs j d) ≡ true → Contains (items_where test f i xs) (f (i + j))
  contains_passing test f i [] j d within is = absurd (omega arith)
  contains_passing test f i (x ∷ xs) zero d within is = let e : i + 0 ≡ i = omega arith in rw (is, e) (0, omega arith, refl)
  contains_passing test f i (x ∷ xs) (suc j) d within is =
      let e : i + suc j ≡ (i + 1) + j = omega arith in
      rw e (in_rest (test x) (f i) (f ((i + 1) + j)) (items_where test f (i + 1) xs) (contains_passing test f (i + 1) xs j d (omega arith) is))

  -- a place that passes
  pub record Passes (test : Bool → Bool) (f : ℕ → X) (i : ℕ) (xs : List Bool) (x : X) : Type 0 where
    pub place : ℕ
    pub within : place < length xs
    pub passes : test (get_or xs place false) ≡ true
    pub is : f (i + place) ≡ x

  later : (test : Bool → Bool) (f : ℕ → X) (i : ℕ) (y : Bool) (xs : List Bool) (x : X) → Passes test f (i + 1) xs x → Passes test f i (y ∷ xs) x
  later test f i y xs x p =
      let e : i + suc p.place ≡ (i + 1) + p.place = omega arith in
      record { place = suc p.place; within = omega (arith, p.within); passes = p.passes; is = ap f e ∙ p.is }

  head_or_rest : (b : Bool) (y x : X) (ys : List X) → Contains (if b then y ∷ ys else ys) x → ((b ≡ true) × (y ≡ x)) ⊎ Contains ys x
  head_or_rest false y x ys has = inr has
  head_or_rest true y x ys has = at has.0 has.1 has.2
    where
      at : (k : ℕ) → k < length (y ∷ ys) → get_or (y ∷ ys) k x ≡ x → ((true ≡ true) × (y ≡ x)) ⊎ Contains ys x
      at zero within is = inl (refl, is)
      at (suc k) within is = inr (k, omega arith, is)

  pub passing_contains : (test : Bool → Bool) (f : ℕ → X) (i : ℕ) (xs : List Bool) (x : X) → Contains (items_where test f i xs) x → Passes test f i xs x
  passing_contains test f i [] x has = absurd (omega (arith, has.1))
  passing_contains test f i (y ∷ ys) x has = elim (head_or_rest (test y) (f i) x (items_where test f (i + 1) ys) has) [
    | inl here ↦ let e : i + 0 ≡ i = omega arith in record { place = 0; within = omega arith; passes = here.0; is = ap f e ∙ here.1 }
    | inr there ↦ later test f i y ys x (passing_contains test f (i + 1) ys x there)
  ]

-- a chunk that is out, or at home, is among those
from_start : (test : Bool → Bool) (f : ℕ → Tag) (xs : List Bool) (j : ℕ) (t : Tag) → j < length xs → test (get_or xs j false) ≡ true → t ≡ f j → Contains (items_where test f 0 xs) t
from_start test f xs j t within is tag =
    let e : 0 + j ≡ j = omega arith in
    let here : f (0 + j) ≡ t = ap f e ∙ sym tag in
    subst (λ (x : Tag). Contains (items_where test f 0 xs) x) here (contains_passing test f 0 xs j false within is)

pub chunk_is_out : (i j : ℕ) (s : SlabState) (t : Tag) (c : SlabCacheState) → IsChunk i j s false t c → Contains (chunks_out c) t
chunk_is_out i j s t c chunk =
    let F : SlabState → List Tag = λ x. chunks_out_by (chunk_tag c.arena c.k x) x in
    let here : Contains (F s) t = from_start not (chunk_tag c.arena c.k s) s.home j t chunk.within (ap not chunk.home) chunk.tag in
    contains_part F c.slabs i s t chunk.stands.within (subst (λ (x : SlabState). Contains (F x) t) (sym chunk.stands.is) here)

pub chunk_is_idle : (i j : ℕ) (s : SlabState) (t : Tag) (c : SlabCacheState) → IsChunk i j s true t c → Contains (idle_chunks c) t
chunk_is_idle i j s t c chunk =
    let F : SlabState → List Tag = λ x. idle_chunks_by (chunk_tag c.arena c.k x) x in
    let home : get_or s.home j false ≡ true = get_or_default s.home j false true chunk.within ∙ chunk.home in
    let here : Contains (F s) t = from_start (λ b. b) (chunk_tag c.arena c.k s) s.home j t chunk.within home chunk.tag in
    contains_part F c.slabs i s t chunk.stands.within (subst (λ (x : SlabState). Contains (F x) t) (sym chunk.stands.is) here)

-- and the other way round
pub record SomeChunk (b : Bool) (t : Tag) (c : SlabCacheState) : Type 0 where
  pub i : ℕ
  pub j : ℕ
  pub s : SlabState
  pub chunk : IsChunk i j s b t c

nowhere : SlabState
nowhere = record { span = record { root = 0; range = record { base = 0; len = 0 } }; colour = 0; chunk = 0; home = [] }

pub out_is_chunk : (t : Tag) (c : SlabCacheState) → Contains (chunks_out c) t → SomeChunk false t c
out_is_chunk t c has =
    let part = part_contains (λ x. chunks_out_by (chunk_tag c.arena c.k x) x) c.slabs nowhere t has in
    let s : SlabState = get_or c.slabs part.0 nowhere in
    let p : Passes not (chunk_tag c.arena c.k s) 0 s.home t = passing_contains not (chunk_tag c.arena c.k s) 0 s.home t part.2 in
    let e : 0 + p.place ≡ p.place = omega arith in
    record {
      i = part.0;
      j = p.place;
      s = s;
      chunk = record {
        stands = record { within = part.1; is = get_or_default c.slabs part.0 s nowhere part.1 };
        within = p.within;
        home = not-true (get_or s.home p.place false) p.passes;
        tag = sym p.is ∙ ap (chunk_tag c.arena c.k s) e;
      };
    }

pub idle_is_chunk : (t : Tag) (c : SlabCacheState) → Contains (idle_chunks c) t → SomeChunk true t c
idle_is_chunk t c has =
    let part = part_contains (λ x. idle_chunks_by (chunk_tag c.arena c.k x) x) c.slabs nowhere t has in
    let s : SlabState = get_or c.slabs part.0 nowhere in
    let p : Passes (λ b. b) (chunk_tag c.arena c.k s) 0 s.home t = passing_contains (λ b. b) (chunk_tag c.arena c.k s) 0 s.home t part.2 in
    let e : 0 + p.place ≡ p.place = omega arith in
    record {
      i = part.0;
      j = p.place;
      s = s;
      chunk = record {
        stands = record { within = part.1; is = get_or_default c.slabs part.0 s nowhere part.1 };
        within = p.within;
        home = get_or_default s.home p.place true false p.within ∙ p.passes;
        tag = sym p.is ∙ ap (chunk_tag c.arena c.k s) e;
      };
    }

-- a chunk lies in its span
pub chunk_inside : (s : SlabState) (j : ℕ) → IsSlab s → j < length s.home → (s.span.range.base ≤ (chunk_at s j).range.base) × (end_of (chunk_at s j).range ≤ end_of s.span.range)
chunk_inside s j slab within =
    let last = room_for j (length s.home) s.chunk (length s.home * s.chunk) within (omega arith) in
    (omega arith, omega (arith, last, slab.room))

-- one chunk stands at one place
one_slab : (i k : ℕ) (s r : SlabState) (slabs : List SlabState) → AllPairs IsBelow slabs → StandsAt i s slabs → StandsAt k r slabs → s.span.range.base < end_of r.span.range → r.span.range.base < end_of s.span.range → i ≡ k
one_slab i k s r slabs ascending at_i at_k a b = elim (cases_order i k) [
  | inl same ↦ same
  | inr other ↦ elim other [
    | inl before ↦
        let up : IsBelow (get_or slabs i s) (get_or slabs k s) = ascending i k s before at_k.within in
        let l : get_or slabs k s ≡ r = get_or_default slabs k s r at_k.within ∙ at_k.is in
        let here : IsBelow s r = rw (at_i.is, l) at up in
        absurd (omega arith)
    | inr after ↦
        let up : IsBelow (get_or slabs k r) (get_or slabs i r) = ascending k i r after at_i.within in
        let l : get_or slabs i r ≡ s = get_or_default slabs i r s at_i.within ∙ at_i.is in
        let here : IsBelow r s = rw (at_k.is, l) at up in
        absurd (omega arith)
  ]
]

pub never_both : (t : Tag) (c : SlabCacheState) → IsSoundCache c → SomeChunk false t c → SomeChunk true t c → ⊥
never_both t c sound gone here =
    let slab = slab_of_size c gone.s sound (of_size c gone.i gone.s sound gone.chunk.stands) in
    let slab' = slab_of_size c here.s sound (of_size c here.i here.s sound here.chunk.stands) in
    let in_s = chunk_inside gone.s gone.j slab gone.chunk.within in
    let in_r = chunk_inside here.s here.j slab' here.chunk.within in
    let same : chunk_at gone.s gone.j ≡ chunk_at here.s here.j = ap (λ (x : Tag). x.holding) (sym gone.chunk.tag ∙ here.chunk.tag) in
    let base : (chunk_at gone.s gone.j).range.base ≡ (chunk_at here.s here.j).range.base = ap (λ (x : Holding). x.range.base) same in
    let slabs : gone.i ≡ here.i = one_slab gone.i here.i gone.s here.s c.slabs sound.ascending gone.chunk.stands here.chunk.stands (omega (arith, in_s, in_r, base, slab.some, slab'.some)) (omega (arith, in_s, in_r, base, slab.some, slab'.some)) in
    let s_is : gone.s ≡ here.s =
    sym gone.chunk.stands.is ∙ get_or_default c.slabs gone.i gone.s here.s gone.chunk.stands.within ∙ ap (λ (n : ℕ). get_or c.slabs n here.s) slabs ∙ here.chunk.stands.is in
    let there : chunk_at gone.s here.j ≡ chunk_at here.s here.j = ap (λ (x : SlabState). chunk_at x here.j) s_is in
    let j_is : gone.j ≡ here.j = sym (place_is gone.s gone.j (chunk_at gone.s gone.j) slab.some refl) ∙ place_is gone.s here.j (chunk_at gone.s gone.j) slab.some (there ∙ sym same) in
    let out : get_or gone.s.home gone.j false ≡ false = gone.chunk.home in
    let home : get_or here.s.home here.j false ≡ true = get_or_default here.s.home here.j false true here.chunk.within ∙ here.chunk.home in
    let moved : get_or here.s.home here.j false ≡ get_or gone.s.home gone.j false = ap (λ (x : SlabState). get_or x.home here.j false) (sym s_is) ∙ ap (λ (n : ℕ). get_or gone.s.home n false) (sym j_is) in
    cc

-- a segment of another arena or cache, or one that covers no chunk, is none of them
pub record IsAbsent (t : Tag) (c : SlabCacheState) : Type 0 where
  pub not_out : Contains (chunks_out c) t → ⊥
  pub not_idle : Contains (idle_chunks c) t → ⊥

pub not_routed : (t : Tag) (c : SlabCacheState) → ((t.arena ≡ c.arena) × (t.route ≡ Cached c.k) → ⊥) → IsAbsent t c
not_routed t c other = record {
  not_out = λ has. let some = out_is_chunk t c has in other (ap (λ (x : Tag). x.arena) some.chunk.tag, ap (λ (x : Tag). x.route) some.chunk.tag);
  not_idle = λ has. let some = idle_is_chunk t c has in other (ap (λ (x : Tag). x.arena) some.chunk.tag, ap (λ (x : Tag). x.route) some.chunk.tag);
}

abbrev pub held : ℕ → Extent → Holding
held r e = record { root = r; range = e }

held_is : (t : Tag) (r : ℕ) (e : Extent) → r ≡ t.holding.root → e ≡ t.holding.range → held r e ≡ t.holding
held_is t r e root range = λ i. record { root = root i; range = range i }

found : (b : Bool) (t : Tag) (c : SlabCacheState) (r : ℕ) (e : Extent) → r ≡ t.holding.root → e ≡ t.holding.range → All (λ s. (j : ℕ) → j < length s.home → chunk_at s j ≡ held r e → ⊥) c.slabs → SomeChunk b t c → ⊥
found b t c r e root range none some =
    let P : SlabState → Type 0 = λ s. (j : ℕ) → j < length s.home → chunk_at s j ≡ held r e → ⊥ in
    let here : P some.s = subst P some.chunk.stands.is (none some.i some.s some.chunk.stands.within) in
    here some.j some.chunk.within (ap (λ (x : Tag). x.holding) (sym some.chunk.tag) ∙ sym (held_is t r e root range))

pub not_found : (t : Tag) (x c : SlabCacheState) (r : ℕ) (e : Extent) → x ≡ c → r ≡ t.holding.root → e ≡ t.holding.range → All (λ s. (j : ℕ) → j < length s.home → chunk_at s j ≡ held r e → ⊥) x.slabs → IsAbsent t c
not_found t x c r e view root range none =
    let all : All (λ s. (j : ℕ) → j < length s.home → chunk_at s j ≡ held r e → ⊥) c.slabs = subst (λ (y : SlabCacheState). All (λ s. (j : ℕ) → j < length s.home → chunk_at s j ≡ held r e → ⊥) y.slabs) view none in
    record { not_out = λ has. found false t c r e root range all (out_is_chunk t c has); not_idle = λ has. found true t c r e root range all (idle_is_chunk t c has) }

-- the chunk that was found
pub made_chunk : (i j : ℕ) (s : SlabState) (b : Bool) (t : Tag) (r : ℕ) (e : Extent) (x c : SlabCacheState) → x ≡ c → StandsAt i s x.slabs → j < length s.home → chunk_at s j ≡ held r e
    → r ≡ t.holding.root → e ≡ t.holding.range → (t.arena ≡ c.arena) × (t.route ≡ Cached c.k) → get_or s.home j false ≡ b → IsChunk i j s b t c
made_chunk i j s b t r e x c view stands within chunk root range routed home =
    let holding : t.holding ≡ chunk_at s j = sym (held_is t r e root range) ∙ sym chunk in
    record {
      stands = subst (λ (y : SlabCacheState). StandsAt i s y.slabs) view stands;
      within = within;
      home = get_or_default s.home j b false within ∙ home;
      tag = λ n. record { arena = routed.0 n; route = routed.1 n; holding = holding n };
    }
