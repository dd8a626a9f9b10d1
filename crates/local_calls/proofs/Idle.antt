-- No chunk of a cache is idle where all are out.
use Rattle.std.proofs.Common.{All, Bool, List, [], ap, cond, false, refl, ℕ, ◌++◌, ◌+◌, ◌∙◌, ◌∷◌, ◌≡◌}
use Rattle.std.proofs.lemmas.List.Elements.{All-head, All-tail}
use Rattle.std.specs.List.{flat_map}
use Rattle.slab_layer.specs.Cache.{SlabCacheState, chunk_tag, idle_chunks}
use Rattle.slab_layer.specs.Slab.{IsAllOut, SlabState, idle_chunks_by, items_where}

none_home : {X : Type 0} (f : ℕ → X) (i : ℕ) (xs : List Bool) → All (λ b. b ≡ false) xs → items_where (λ b. b) f i xs ≡ []
none_home f i [] all = refl
none_home f i (x ∷ xs) all =
    ap (λ b. cond b (f i ∷ items_where (λ z. z) f (i + 1) xs) (items_where (λ z. z) f (i + 1) xs)) (All-head (λ b. b ≡ false) x xs all) ∙ none_home f (i + 1) xs (All-tail (λ b. b ≡ false) x xs all)

pub none_idle : (c : SlabCacheState) → All IsAllOut c.slabs → idle_chunks c ≡ []
none_idle c all = by c.slabs all
  where
    by : (ss : List SlabState) → All IsAllOut ss → flat_map (λ s. idle_chunks_by (chunk_tag c.arena c.k s) s) ss ≡ []
    by [] all = refl
    by (s ∷ ss) all =
        ap (λ ts. ts ++ flat_map (λ z. idle_chunks_by (chunk_tag c.arena c.k z) z) ss) (none_home (chunk_tag c.arena c.k s) 0 s.home (All-head IsAllOut s ss all)) ∙ by ss (All-tail IsAllOut s ss all)
