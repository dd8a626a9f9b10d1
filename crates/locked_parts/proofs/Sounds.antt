-- What the tree says of an arena, and chunks of its caches.
use Rattle.std.proofs.Common.{◌≡◌, Result, Ok, Err, ℕ, suc, zero, ◌*◌, ◌<◌, List, [], ◌∷◌, Option, Some, None, IfSome, IfOk, IfErr, sym, subst, ap, ◌∙◌, refl, arith}
use Rattle.std.specs.Prelude.{slice_get}
use Rattle.std.proofs.Math.Nat.{mul-mod_left}
use Rattle.deed_core.specs.Tag.{Tag}
use Rattle.deed_core.specs.Request.{Fits, plain_of}
use Rattle.deed_core.specs.declared.segments.Route.TheVariants.{Cached}
use Rattle.deed_core.proofs.LawProofs.{rounds_once}
use Rattle.arena_tree.specs.declared.trees.TreeArena.{TreeArena}
use Rattle.arena_tree.specs.Chains.{Node, IsCachedChunk, quantum_in, source_of}
use Rattle.arena_tree.specs.Events.{SlabAdd, segment_of_slab_add}
use Rattle.arena_tree.specs.declared.part_faults.GivenFault.TheVariants.{Refused}
use Rattle.arena_tree.specs.Tags.{wording_of}
use Rattle.slab_layer.specs.declared.faults.AddFault.{AddFault}
use Rattle.arena_tree.specs.Trees.{nodes_of}
use Rattle.locked_parts.specs.Answers.{AnswersSoundly}
use Rattle.locked_parts.specs.Kinds.{IsOfKind}
use Rattle.locked_parts.specs.declared.kinds.CacheKind.{CacheKind}

pub quantum_at : (arenas : List TreeArena) (id : ℕ) (x : TreeArena) → slice_get arenas id ≡ Some x → quantum_in (nodes_of arenas) id ≡ x.quantum
quantum_at [] id x at = absurd (let e : None ≡ Some x = at in cc)
quantum_at (y ∷ arenas) zero x at = ap (λ (z : TreeArena). z.quantum) (let e : Some y ≡ Some x = at in let d : y ≡ x = cc in d)
quantum_at (y ∷ arenas) (suc id) x at = quantum_at arenas id x at

pub source_at : (arenas : List TreeArena) (id : ℕ) (x : TreeArena) → slice_get arenas id ≡ Some x → source_of (nodes_of arenas) id ≡ x.source
source_at [] id x at = absurd (let e : None ≡ Some x = at in cc)
source_at (y ∷ arenas) zero x at = ap (λ (z : TreeArena). z.source) (let e : Some y ≡ Some x = at in let d : y ≡ x = cc in d)
source_at (y ∷ arenas) (suc id) x at = source_at arenas id x at

-- a chunk of the kind is one of the arena's cache
pub cached_chunk : (nodes : List Node) (arena number : ℕ) (k : CacheKind) (t : Tag) → (k.arena ≡ arena) × (k.number ≡ number) × (0 < k.quantum) × (quantum_in nodes arena ≡ k.quantum) → IsOfKind k t → IsCachedChunk nodes arena number t
cached_chunk nodes arena number k t is chunk = record {
  of_arena = chunk.from ∙ is.0;
  cached = subst (λ n. t.route ≡ Cached n) is.1 chunk.by;
  fits = subst (λ q. Fits q (plain_of (number * q)) t.holding.range.base t.holding.range.len) (sym is.3)
      (subst (λ n. Fits k.quantum (plain_of (n * k.quantum)) t.holding.range.base t.holding.range.len) is.1 (record {
        size = chunk.len ∙ sym (rounds_once k.quantum (k.number * k.quantum) is.2 (mul-mod_left k.number k.quantum));
        whole = chunk.grid;
        phase = λ ne. absurd (ne refl);
        min = omega arith;
        max = chunk.end;
        nocross = λ ne. absurd (ne refl);
      }));
}

pub cached_given : (nodes : List Node) (arena number : ℕ) (k : CacheKind) (o : Option Tag) → (k.arena ≡ arena) × (k.number ≡ number) × (0 < k.quantum) × (quantum_in nodes arena ≡ k.quantum) → IfSome o (IsOfKind k) → IfSome o (IsCachedChunk nodes arena number)
cached_given nodes arena number k None is chunk = tt
cached_given nodes arena number k (Some t) is chunk = cached_chunk nodes arena number k t is chunk

pub slab_goes : (nodes : List Node) (arena number : ℕ) (k : CacheKind) (span : Tag) (r : Result Tag (AddFault Tag)) → (k.arena ≡ arena) × (k.number ≡ number) × (0 < k.quantum) × (quantum_in nodes arena ≡ k.quantum) → IfOk r (IsOfKind k) → IfErr r (λ f. segment_of_slab_add (Refused f) ≡ span)
    → AnswersSoundly nodes (SlabAdd arena number span) (wording_of Refused r)
slab_goes nodes arena number k span (Ok t) is chunk back = ((cached_chunk nodes arena number k t is chunk, tt), refl)
slab_goes nodes arena number k span (Err f) is chunk back = ((tt, back), refl)
