use Rattle.std.proofs.Common.{◌≡◌, true, false, refl, ◌∙◌, ap, sym, subst}
use Rattle.deed_core.specs.Tag.{Tag}
use Rattle.slab_layer.specs.Cache.{SlabCacheState, IsSoundCache}
use Rattle.slab_layer.specs.Calls.{IsChunk}
use Rattle.slab_layer.proofs.SoundLemmas.{made_puts, sound_puts}
use Rattle.slab_layer.proofs.MoveLemmas.{all_slabs, puts_out, puts_kept, puts_spans}
use Rattle.slab_layer.proofs.MineLemmas.{IsAbsent, SomeChunk, not_routed, not_found, made_chunk, chunk_is_out, chunk_is_idle, out_is_chunk, never_both}
use Rattle.slab_layer.proofs.ChunkLemmas.{alike}
use Rattle.slab_layer.proofs.caches.SlabCache.put.Goals as goal
use Rattle.slab_layer.proofs.caches.SlabCache.put.Given as given

-- it is of another arena or cache
elsewhere : (g : given.Over) (c : goal.Then-not-is_routed_here g) → IsAbsent c.args.segment c.args.self.now
elsewhere g c = not_routed _ _ (λ routed. let e : c.is_routed_here.result ≡ true = c.is_routed_here.ensures.1 routed in let f = c.if-not-is_routed_here.true in cc)

pub returns-then-not-is_routed_here-clause-mine : goal.returns-then-not-is_routed_here-clause-mine
returns-then-not-is_routed_here-clause-mine g c = (λ e. cc, λ has. absurd ((elsewhere g c).not_out has))

pub returns-then-not-is_routed_here-clause-put : goal.returns-then-not-is_routed_here-clause-put
returns-then-not-is_routed_here-clause-put g c =
    ((elsewhere g c).not_out, (elsewhere g c).not_idle, record { handed_back = refl; unchanged = refl })

pub find_chunk-requires : goal.find_chunk-requires
find_chunk-requires g c = all_slabs _ c.self.invariant

pub is_home-requires : goal.is_home-requires
is_home-requires g c = let found = c.in-Some.ensures in (found.0, found.1, found.2)

-- it covers no chunk
uncovered : (g : given.Over) (c : goal.In_default g) → IsAbsent c.args.segment c.args.self.now
uncovered g c =
    not_found _ _ _ _ _ c.self.view_is c.root.ensures c.range.ensures.value c.in_default.ensures

pub returns-in_default-clause-mine : goal.returns-in_default-clause-mine
returns-in_default-clause-mine g c = (λ e. cc, λ has. absurd ((uncovered g c).not_out has))

pub returns-in_default-clause-put : goal.returns-in_default-clause-put
returns-in_default-clause-put g c =
    ((uncovered g c).not_out, (uncovered g c).not_idle, record { handed_back = refl; unchanged = refl })

-- it is at home
here : (g : given.Over) (c : goal.Then-is_home g) → SomeChunk true c.args.segment c.args.self.now
here g c =
    let found = c.in-Some.ensures in
    let routed = c.is_routed_here.ensures.0 c.if-not-is_routed_here.false in
    record {
      i = c.in-Some.i;
      j = c.in-Some.j;
      s = found.0;
      chunk = made_chunk _ _ _ true _ _ _ _ _ c.self.view_is found.1 found.2 found.3 c.root.ensures c.range.ensures.value routed (sym (c.is_home.ensures found.0 found.1) ∙ c.if-is_home.true);
    }

pub returns-then-is_home-clause-mine : goal.returns-then-is_home-clause-mine
returns-then-is_home-clause-mine g c =
    let sound = subst (λ (x : SlabCacheState). IsSoundCache x) c.self.view_is c.self.invariant in
    (λ e. cc, λ has. absurd (never_both _ _ sound (out_is_chunk _ _ has) (here g c)))

pub returns-then-is_home-clause-put : goal.returns-then-is_home-clause-put
returns-then-is_home-clause-put g c =
    let some = here g c in
    (chunk_is_idle _ _ _ _ _ some.chunk, record { handed_back = refl; unchanged = refl })

-- it is out
gone : (g : given.Over) (c : goal.After-put g) → SomeChunk false c.args.segment c.args.self.now
gone g c =
    let found = c.in-Some.ensures in
    let routed = c.is_routed_here.ensures.0 c.if-not-is_routed_here.false in
    record {
      i = c.in-Some.i;
      j = c.in-Some.j;
      s = found.0;
      chunk = made_chunk _ _ _ false _ _ _ _ _ c.self.view_is found.1 found.2 found.3 c.root.ensures c.range.ensures.value routed (sym (c.is_home.ensures found.0 found.1) ∙ c.if-is_home.false);
    }

pub put-requires : goal.put-requires
put-requires g c =
    let found = c.in-Some.ensures in
    let routed = c.is_routed_here.ensures.0 c.if-not-is_routed_here.false in
    let chunk = made_chunk c.in-Some.i c.in-Some.j found.0 false _ _ _ _ _ c.self.view_is found.1 found.2 found.3 c.root.ensures c.range.ensures.value routed (sym (c.is_home.ensures found.0 found.1) ∙ c.if-is_home.false) in
    (found.0, found.1, found.2, chunk.home, c.new.ensures ∙ c.into_deed.ensures ∙ ap (λ (t : Tag). t.holding) chunk.tag)

pub returns-clause-put : goal.returns-clause-put
unfolding gone
returns-clause-put g c =
    let some = gone g c in
    let before = subst (λ (x : SlabCacheState). IsChunk some.i some.j some.s false c.args.segment x) (sym c.self.view_is) some.chunk in
    (some.i, some.j, some.s, made_puts some.i some.j some.s c.put.new.self.items _ _ _ c.self.view_is before (c.put.ensures.items some.s before.stands))

pub invariant_of-self : goal.invariant_of-self
invariant_of-self g c =
    let puts = returns-clause-put g c in
    sound_puts _ _ _ _ _ _ puts.3 (subst (λ (x : SlabCacheState). IsSoundCache x) c.self.view_is c.self.invariant)

pub returns-clause-sound : goal.returns-clause-sound
returns-clause-sound g c = invariant_of-self g c

pub returns-clause-alike : goal.returns-clause-alike
returns-clause-alike g c = let puts = returns-clause-put g c in alike _ _ _ _ puts.3.after

pub returns-clause-mine : goal.returns-clause-mine
returns-clause-mine g c = let some = gone g c in (λ e. chunk_is_out _ _ _ _ _ some.chunk, λ has. refl)

pub returns-clause-out : goal.returns-clause-out
returns-clause-out g c = let puts = returns-clause-put g c in puts_out _ _ _ _ _ _ puts.3

pub returns-clause-deeds : goal.returns-clause-deeds
returns-clause-deeds g c = let puts = returns-clause-put g c in puts_kept _ _ _ _ _ _ puts.3

pub returns-clause-spans : goal.returns-clause-spans
returns-clause-spans g c = let puts = returns-clause-put g c in puts_spans _ _ _ _ _ _ puts.3
