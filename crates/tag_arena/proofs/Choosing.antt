-- A range with room serves a request without constraints.
use Rattle.std.proofs.Common.{◌≡◌, ℕ, ◌+◌, ◌%◌, ◌^◌, ◌≤◌, refl, List, Contains, All, arith}
use Rattle.std.proofs.lemmas.List.Elements.{All-contains}
use Rattle.std.specs.Int.{next_multiple_of}
use Rattle.deed_core.specs.Extent.{IsRange}
use Rattle.deed_core.specs.Holding.{Holding}
use Rattle.deed_core.specs.Request.{IsPlain}
use Rattle.deed_core.specs.declared.requests.Request.{Request}
use Rattle.tag_arena.specs.Place.{ServesIn}

module _ (quantum : ℕ) (q : Request) (free : List Holding) (plain : IsPlain q) (all_below : All (λ r. IsRange r.range) free) (aligned : All (λ r. r.range.base % quantum ≡ 0) free) where
  -- a range with room serves such a request at its base
  pub serves_at_base : (r : Holding) → Contains free r → next_multiple_of q.size quantum ≤ r.range.len → ServesIn quantum q r r.range.base
  serves_at_base r in-r room =
      let below : IsRange r.range = All-contains (λ r. IsRange r.range) free r all_below in-r in
      let end : r.range.base + r.range.len ≤ 2 ^ 62 = below.below in
      record {
        fits = record {
          size = refl;
          whole = All-contains (λ r. r.range.base % quantum ≡ 0) free r aligned in-r;
          phase = λ ne. absurd (ne plain.align);
          min = omega (arith, plain.min);
          max = omega (arith, plain.max);
          nocross = λ ne. absurd (ne plain.nocross);
        };
        from = omega arith;
        to = omega arith;
      }
