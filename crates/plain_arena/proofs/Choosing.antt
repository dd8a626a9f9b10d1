-- What a scan of all free ranges has found is the policy's choice.
use Rattle.std.proofs.Common.{◌≡◌, ℕ, ◌%◌, ◌<◌, ◌≤◌, refl, sym, subst, inl, List, length, HoldsAt, Contains, All, Option, Some, None, arith}
use Rattle.std.specs.Int.{next_multiple_of}
use Rattle.deed_core.specs.Extent.{IsRange}
use Rattle.deed_core.specs.Holding.{Holding}
use Rattle.deed_core.specs.Request.{IsPlain}
use Rattle.deed_core.specs.declared.requests.Request.{Request}
use Rattle.plain_arena.specs.declared.choices.Found.{Found}
use Rattle.plain_arena.specs.declared.power_lists.Listed.{Listed}
use Rattle.tag_arena.specs.Place.{IsLeast, Serves, ServesIn}
use Rattle.tag_arena.specs.Choice.{IsBestChoice, IsInstantChoice, OnList, ListServes, ComesFirst}
use Rattle.plain_arena.specs.Found.{BestSoFar, EarliestSoFar, NewestSoFar, IsPlaced, base_of}
use Rattle.tag_arena.proofs.Choosing.{serves_at_base}

module _ (quantum : ℕ) (q : Request) (free : List Holding) where
  member : (f : Found) → f.at < length free → HoldsAt (λ r. r ≡ f.range) free f.at → Contains free f.range
  member f lt here = (f.at, lt, here f.range)

  pub best_choice : (o : Option Found) → BestSoFar quantum q free (length free) o → IsBestChoice quantum q free (base_of o)
  best_choice None none = λ base serves. none serves.0 serves.1 (omega arith) serves.2 base (subst (λ r. ServesIn quantum q r base) (sym serves.3) serves.4)
  best_choice (Some f) so = (
    f.range,
    record {
      among = member f so.0 so.1;
      serves = so.2;
      least = λ r b in-r s. subst (λ x. ComesFirst f.range f.base x b) in-r.2 (so.3 in-r.0 r (omega arith) in-r.1 b (subst (λ x. ServesIn quantum q x b) (sym in-r.2) s));
    },
  )

  pub earliest_least : (start : ℕ) (o : Option Found) → EarliestSoFar quantum q start free (length free) o → IsLeast (λ base. Serves quantum q free base × (start ≤ base)) (base_of o)
  earliest_least start None none = λ base h. none h.0.0 h.0.1 (omega arith) h.0.2 base (subst (λ r. ServesIn quantum q r base) (sym h.0.3) h.0.4) h.1
  earliest_least start (Some f) so = (
    ((f.at, f.range, so.0, so.1 f.range, so.2), so.3),
    λ base h. so.4 h.0.0 h.0.1 (omega arith) h.0.2 base (subst (λ r. ServesIn quantum q r base) (sym h.0.3) h.0.4) h.1,
  )

  module _ (plain : IsPlain q) (all_below : All (λ r. IsRange r.range) free) (aligned : All (λ r. r.range.base % quantum ≡ 0) free) where
    module _ (len : ℕ) (len_is : len ≡ next_multiple_of q.size quantum) (f : Listed) (so : NewestSoFar quantum len free (length free) (Some f)) where
      pub newest_placed : IsPlaced quantum q free (record { at = f.at; range = f.range; base = f.range.range.base })
      newest_placed = (so.0, so.1, serves_at_base quantum q free plain all_below aligned f.range (f.at, so.0, so.1 f.range) (omega (arith, so.2, so.3)))

      pub newest_choice : IsInstantChoice quantum q free (Some f.range.range.base)
      newest_choice =
          inl (
            plain,
            (
              f.range,
              record {
                list = f.list;
                large = subst (λ n. ListServes quantum n f.list) len_is so.3;
                least = λ r i in-r on serves. so.4 in-r.0 r (omega arith) in-r.1 i (subst (λ x. OnList quantum x i) (sym in-r.2) on) (subst (λ n. ListServes quantum n i) (sym len_is) serves);
                index = f.at;
                within = so.0;
                here = so.1;
                on_list = so.2;
                newest = so.5;
              },
              refl,
            ),
          )
