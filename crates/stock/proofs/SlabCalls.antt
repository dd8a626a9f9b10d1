-- A call of the slabs that stand at an index, by its answer.
use Rattle.std.proofs.Common.{◌≡◌, ℕ, ◌+◌, ◌*◌, ◌%◌, ◌<◌, sym, subst, ap, ◌∙◌, inl, List, [], ◌∷◌, set, Contains, Option, Some, None, Result, Ok, Err, IfOk, IfSome, OnOk, IsOk, ◌↔◌, arith}
use Rattle.std.specs.Prelude.{slice_get, sum_by}
use Rattle.std.specs.Option.{option_to_list}
use Rattle.std.proofs.lemmas.List.Elements.{All-contains}
use Rattle.std.proofs.lemmas.List.Sums.{sum_by-cons}
use Rattle.deed_core.specs.Tag.{Tag}
use Rattle.deed_core.specs.Covering.{covers_tag, covers_held, covering_held, covering_tags}
use Rattle.deed_core.specs.Weights.{Gains, Loses, WeighSame, of_direct, of_cached, one_at}
use Rattle.deed_core.specs.declared.segments.Route.TheVariants.{Direct, Cached}
use Rattle.deed_core.proofs.LawProofs.{slice_get_one, counts_where_it_is, one_at_itself, sum_some}
use Rattle.slab_layer.specs.declared.faults.AddFault.{AddFault}
use Rattle.slab_layer.specs.declared.faults.AddFault.TheVariants as adding
use Rattle.slab_layer.specs.declared.faults.PutFault.{PutFault}
use Rattle.slab_layer.specs.declared.faults.PutFault.TheVariants as putting
use Rattle.slab_layer.specs.Cache.{SlabCacheState, IsSoundCache, IsChunkOf, IsSpanOf, deeds_of, chunks_out, span_tags}
use Rattle.slab_layer.specs.Calls.{IsAlike, TakeOf, PutOf, AddOf, ReapOf}
use Rattle.slab_layer.proofs.LawProofs.{chunks_are_of_cache}
use Rattle.stock.specs.Spaces.{SpaceState, QuantumCacheState, with_slab, with_cache}
use Rattle.stock.specs.Stocks.{IsRoundOf, IsQuantumCache, IsStock}
use Rattle.stock.specs.Accounts.{chunks_in, chunks, Accounts}
use Rattle.stock.specs.Steps.{OnSlab, PutIn, NamesNoCache, IsOutOf, IsRoundIn}
use Rattle.stock.specs.Answers.{hand_after_put, hand_after_add, NeverOverlaps}
use Rattle.stock.proofs.Members.{direct_weighs, direct_none, cached_weighs, cached_none, alone}
use Rattle.stock.proofs.Moving.{Moves, is_written, moves_there, at_space}
use Rattle.stock.proofs.CacheSteps.{OpensCache, cache_moves}
use Rattle.stock.proofs.Exporting.{clear_of_slabs}

-- a chunk that is out of all parts is out of the slabs that it names
pub always_out : (spaces : List SpaceState) → IsStock spaces → (t : Tag) (n : ℕ) (rest : List Tag) → t.route ≡ Cached n → Accounts spaces (t ∷ rest) → (j : ℕ) × (n ≡ j + 1) × IsOutOf spaces j t
always_out spaces stock t n rest route a =
    let one = one_at_itself t in
    let all : 0 < sum_by (chunks (one_at t)) spaces = omega (arith, one, a.chunks_out (one_at t), cached_weighs (one_at t) t n route, sum_by-cons (of_cached (one_at t)) t rest) in
    let space = sum_some (chunks (one_at t)) spaces all in
    let cache = sum_some (chunks_in (one_at t)) space.1.caches space.3 in
    chunk space.0 space.1 space.2 cache.0 cache.1 cache.2 ((counts_where_it_is t (chunks_out cache.1.slab)).0 cache.3)
  where
    chunk : (k : ℕ) (s : SpaceState) → slice_get spaces k ≡ Some s → (j : ℕ) (c : QuantumCacheState) → slice_get s.caches j ≡ Some c → Contains (chunks_out c.slab) t → (i : ℕ) × (n ≡ i + 1) × IsOutOf spaces i t
    chunk k s at j c among has =
        let law = (stock k s at).caches j c among in
        let named = All-contains (IsChunkOf c.slab) (chunks_out c.slab) t (chunks_are_of_cache c.slab law.sound).0 has in
        let home : t.arena ≡ k = named.from ∙ law.arena in
        let by : t.route ≡ Cached (j + 1) = named.by ∙ ap Cached law.k in
        let number : Cached n ≡ Cached (j + 1) = sym route ∙ by in
        (j, (cc), record { cache = c; at = record { space = s; at = ap (slice_get spaces) home ∙ at; among = among }; route = by; mine = has })

module _ (spaces items : List SpaceState) (k : ℕ) (s : SpaceState) (j : ℕ) (c : QuantumCacheState) (o : OpensCache spaces items k s j c) (new : SlabCacheState) where
  abbrev written : SpaceState
  written = with_cache j (with_slab new c) s

  abbrev now : List SpaceState
  now = set items k written

  pub on_slab : (P : SlabCacheState → SlabCacheState → Type 0) → P c.slab new → OnSlab k j P spaces now
  on_slab P does = record { space = s; at = o.opened.at; cache = c; among = o.among; slab = new; after = is_written spaces items k s o.opened written; does = does }

  module _ (stock : IsStock spaces) (sound : IsSoundCache new) (alike : IsAlike c.slab new) where
    is : IsQuantumCache k (j + 1) s.arena.quantum c
    is = (stock k s o.opened.at).caches j c o.among

    moved : (given answered : List Tag) → ((u : ℕ) → covering_held u (deeds_of new) + covering_tags u (chunks_out new) ≡ covering_tags u (span_tags new))
        → ((f : Tag → ℕ) → sum_by (of_direct f) answered + sum_by f (span_tags new) ≡ sum_by (of_direct f) given + sum_by f (span_tags c.slab))
        → ((f : Tag → ℕ) → sum_by f (chunks_out new) + sum_by (of_cached f) given ≡ sum_by f (chunks_out c.slab) + sum_by (of_cached f) answered)
        → Moves spaces given now answered
    moved given answered tiled slabs_move chunks_move = moves_there spaces items k s o.opened written given answered (cache_moves spaces k s o.opened.at j c o.among (with_slab new c) given answered
        (record { arena = alike.arena ∙ is.arena; k = alike.k ∙ is.k; quantum_is = alike.quantum ∙ is.quantum_is; sound = sound; tiled = tiled; depot = is.depot; rounds = is.rounds })
        alike.slab_size slabs_move (λ f. omega (arith, chunks_move f)) stock)

    -- a call that was refused
    unchanged : (given : List Tag) → new ≡ c.slab → Moves spaces given now given
    unchanged given same = moved given given (subst (λ (x : SlabCacheState). (u : ℕ) → covering_held u (deeds_of x) + covering_tags u (chunks_out x) ≡ covering_tags u (span_tags x)) (sym same) is.tiled)
        (λ f. omega (arith, ap (λ (x : SlabCacheState). sum_by f (span_tags x)) same))
        (λ f. omega (arith, ap (λ (x : SlabCacheState). sum_by f (chunks_out x)) same))

    pub take_moves : (r : Option Tag) → TakeOf c.slab r new → IfSome r (IsChunkOf c.slab) → IfSome r (Gains (chunks_out c.slab) (chunks_out new))
        → IfSome r (λ t. Loses (deeds_of c.slab) (deeds_of new) t.holding) → span_tags new ≡ span_tags c.slab → Moves spaces [] now (option_to_list r)
    take_moves None of chunk out kept spans = unchanged [] of.1
    take_moves (Some t) of chunk out kept spans = moved [] (t ∷ [])
        (λ u. omega (arith, is.tiled u, out (covers_tag u), kept (covers_held u), ap (covering_tags u) spans))
        (λ f. omega (arith, cached_none f t c.slab.k chunk.by, alone (of_direct f) t, ap (sum_by f) spans))
        (λ f. omega (arith, cached_weighs f t c.slab.k chunk.by, alone (of_cached f) t, out f))

    pub reap_moves : (r : Option Tag) → ReapOf c.slab r new → IfSome r (IsSpanOf c.slab) → WeighSame (chunks_out c.slab) (chunks_out new)
        → IfSome r (λ t. (u : ℕ) → covering_held u (deeds_of c.slab) ≡ covering_held u (deeds_of new) + covers_tag u t) → IfSome r (Loses (span_tags c.slab) (span_tags new)) → Moves spaces [] now (option_to_list r)
    reap_moves None of span out kept spans = unchanged [] of.1
    reap_moves (Some t) of span out kept spans = moved [] (t ∷ [])
        (λ u. omega (arith, is.tiled u, out (covers_tag u), kept u, spans (covers_tag u)))
        (λ f. omega (arith, direct_weighs f t span.by, alone (of_direct f) t, spans f))
        (λ f. omega (arith, direct_none f t span.by, alone (of_cached f) t, out f))

    pub add_moves : (span : Tag) → span.route ≡ Direct → (r : Result Tag (AddFault Tag)) → AddOf c.slab span r new → IfOk r (IsChunkOf c.slab) → IfOk r (Gains (chunks_out c.slab) (chunks_out new))
        → IfOk r (λ t. (u : ℕ) → covering_held u (deeds_of c.slab) + covers_tag u span ≡ covering_held u (deeds_of new) + covers_tag u t) → OnOk r (Gains (span_tags c.slab) (span_tags new) span)
        → Moves spaces (span ∷ []) now (hand_after_add r)
    add_moves span route (Ok t) of chunk out kept spans = moved (span ∷ []) (t ∷ [])
        (λ u. omega (arith, is.tiled u, out (covers_tag u), kept u, spans (covers_tag u)))
        (λ f. omega (arith, cached_none f t c.slab.k chunk.by, alone (of_direct f) t, direct_weighs f span route, alone (of_direct f) span, spans f))
        (λ f. omega (arith, cached_weighs f t c.slab.k chunk.by, alone (of_cached f) t, direct_none f span route, alone (of_cached f) span, out f))
    add_moves span route (Err (adding.WrongSize back)) of chunk out kept spans = subst (λ x. Moves spaces (span ∷ []) now (x ∷ [])) (sym of.1.handed_back) (unchanged (span ∷ []) of.1.unchanged)
    add_moves span route (Err (adding.Overlaps back)) of chunk out kept spans = subst (λ x. Moves spaces (span ∷ []) now (x ∷ [])) (sym of.2.handed_back) (unchanged (span ∷ []) of.2.unchanged)
    add_moves span route (Err (adding.NoMemory back)) of chunk out kept spans = subst (λ x. Moves spaces (span ∷ []) now (x ∷ [])) (sym of.2.handed_back) (unchanged (span ∷ []) of.2.unchanged)

    pub put_moves : (t : Tag) (r : Result (Unit {0}) (PutFault Tag)) → PutOf c.slab t r new → (n : ℕ) → t.route ≡ Cached n → OnOk r (Loses (chunks_out c.slab) (chunks_out new) t)
        → OnOk r (Gains (deeds_of c.slab) (deeds_of new) t.holding) → span_tags new ≡ span_tags c.slab → Moves spaces (t ∷ []) now (hand_after_put r)
    put_moves t (Ok x) of n route out kept spans = moved (t ∷ []) []
        (λ u. omega (arith, is.tiled u, out (covers_tag u), kept (covers_held u), ap (covering_tags u) spans))
        (λ f. omega (arith, cached_none f t n route, alone (of_direct f) t, ap (sum_by f) spans))
        (λ f. omega (arith, cached_weighs f t n route, alone (of_cached f) t, out f))
    put_moves t (Err (putting.NotMine back)) of n route out kept spans = subst (λ x. Moves spaces (t ∷ []) now (x ∷ [])) (sym of.2.handed_back) (unchanged (t ∷ []) of.2.unchanged)
    put_moves t (Err (putting.AtHome back)) of n route out kept spans = subst (λ x. Moves spaces (t ∷ []) now (x ∷ [])) (sym of.1.handed_back) (unchanged (t ∷ []) of.1.unchanged)

  -- what comes out is a chunk of the cache
  one_chunk : IsStock spaces → (t : Tag) → IsChunkOf c.slab t → IsRoundIn spaces k j t
  one_chunk stock t chunk = at_space spaces items k s o.opened (λ z. IsRoundOf k (j + 1) z.arena.quantum t) here
    where
      is : IsQuantumCache k (j + 1) s.arena.quantum c
      is = (stock k s o.opened.at).caches j c o.among

      here : IsRoundOf k (j + 1) s.arena.quantum t
      here = record {
        from = chunk.from ∙ is.arena;
        by = chunk.by ∙ ap Cached is.k;
        len = chunk.len ∙ ap (λ n. n * c.slab.quantum) is.k ∙ ap (λ n. (j + 1) * n) is.quantum_is;
        grid = subst (λ n. t.holding.range.base % n ≡ 0) is.quantum_is chunk.grid;
        end = chunk.end;
      }

  pub take_chunk : IsStock spaces → (r : Option Tag) → IfSome r (IsChunkOf c.slab) → IfSome r (IsRoundIn spaces k j)
  take_chunk stock None chunk = tt
  take_chunk stock (Some t) chunk = one_chunk stock t chunk

  pub add_chunk : IsStock spaces → (r : Result Tag (AddFault Tag)) → IfOk r (IsChunkOf c.slab) → IfOk r (IsRoundIn spaces k j)
  add_chunk stock (Err e) chunk = tt
  add_chunk stock (Ok t) chunk = one_chunk stock t chunk

  -- a span that is out overlaps no slab
  pub add_never : IsStock spaces → (span : Tag) → span.arena ≡ k → span.route ≡ Direct → (r : Result Tag (AddFault Tag)) → AddOf c.slab span r new → (rest : List Tag) → Accounts spaces (span ∷ rest) → NeverOverlaps r
  add_never stock span home route (Ok t) of rest a = tt
  add_never stock span home route (Err (adding.WrongSize back)) of rest a = tt
  add_never stock span home route (Err (adding.NoMemory back)) of rest a = tt
  add_never stock span home route (Err (adding.Overlaps back)) of rest a = clear_of_slabs spaces stock span rest route a s j c (ap (slice_get spaces) home ∙ o.opened.at) o.among of.1

  -- the cache is the one that the chunk names
  pub put_in : (t : Tag) (r : Result (Unit {0}) (PutFault Tag)) → t.arena ≡ k → t.route ≡ Cached (j + 1) → PutOf c.slab t r new → PutIn spaces t r now
  put_in t r home route of = inl (j, route, subst (λ i. OnSlab i j (λ a b. PutOf a t r b) spaces now) (sym home) (on_slab (λ a b. PutOf a t r b) of))

  -- a chunk that is out of all parts isn't refused
  pub put_never : IsStock spaces → (t : Tag) (r : Result (Unit {0}) (PutFault Tag)) → t.arena ≡ k → t.route ≡ Cached (j + 1) → IsOk r ↔ Contains (chunks_out c.slab) t
      → (n : ℕ) → t.route ≡ Cached n → (rest : List Tag) → Accounts spaces (t ∷ rest) → IsOk r
  put_never stock t r home named mine n route rest a =
      let out = always_out spaces stock t n rest route a in
      let same : Cached (j + 1) ≡ Cached (out.0 + 1) = sym named ∙ out.2.route in
      let number : j + 1 ≡ out.0 + 1 = cc in
      let here : j ≡ out.0 = omega (arith, number) in
      let at : slice_get spaces t.arena ≡ Some s = ap (slice_get spaces) home ∙ o.opened.at in
      let space : out.2.at.space ≡ s = slice_get_one spaces t.arena out.2.at.space s out.2.at.at at in
      let there : slice_get s.caches j ≡ Some out.2.cache = ap (slice_get s.caches) here ∙ ap (λ (x : SpaceState). slice_get x.caches out.0) (sym space) ∙ out.2.at.among in
      mine.1 (subst (λ (x : QuantumCacheState). Contains (chunks_out x.slab) t) (slice_get_one s.caches j out.2.cache c there o.among) out.2.mine)

-- a chunk that names no cache isn't out
pub none_never : (spaces : List SpaceState) → IsStock spaces → (t : Tag) → NamesNoCache spaces t → (n : ℕ) → t.route ≡ Cached n → (rest : List Tag) → Accounts spaces (t ∷ rest) → ⊥
none_never spaces stock t none n route rest a = (let out = always_out spaces stock t n rest route a in none out.0 out.2.cache out.2.route out.2.at)
