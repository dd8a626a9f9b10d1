-- What an audit tells is what the homes weigh.
use Rattle.std.proofs.Common.{◌≡◌, ℕ, ◌+◌, ◌≤◌, sym, ap, ◌∙◌, List, [], Some, arith}
use Rattle.std.specs.Prelude.{slice_get, flat_map}
use Rattle.std.proofs.lemmas.List.Sums.{sum_by-append}
use Rattle.deed_core.specs.Tag.{Tag}
use Rattle.deed_core.specs.Holding.{Holding}
use Rattle.deed_core.specs.Covering.{units_in, units_held}
use Rattle.tag_arena.specs.ArenaState.{spans_of}
use Rattle.slab_layer.specs.Cache.{deeds_of}
use Rattle.magazine_layer.specs.Depots.{depot_rounds}
use Rattle.stock.specs.Spaces.{SpaceState}
use Rattle.stock.specs.Stocks.{IsStock}
use Rattle.stock.specs.Accounts.{Accounts}
use Rattle.stock.specs.Sums.{Out, all_out, as_leased, Sums, held_of, homes_of, lengths_of, told_sums}
use Rattle.tag_arena.specs.Spanned.{holdings_of}
use Rattle.stock.proofs.LawProofs.{adds_up}
use Rattle.stock_audit.specs.Audits.{IsTally, IsBalanced, units_of_arena_in}
use Rattle.stock.specs.declared.sums.ArenaSums.{ArenaSums}
use Rattle.stock_audit.specs.declared.audits.UnitsOut.{UnitsOut}

-- the ranges in the slabs of an arena, and the rounds of its depots
abbrev pub in_slabs : SpaceState → List Holding
in_slabs s = flat_map (λ c. deeds_of c.slab) s.caches

abbrev pub in_depots : SpaceState → List Holding
in_depots s = flat_map (λ c. holdings_of (depot_rounds c.depot)) s.caches

same_sums : (x y : Sums) → x.free ≡ y.free → x.slab ≡ y.slab → x.magazine ≡ y.magazine → x.exported ≡ y.exported → x.leased ≡ y.leased → x.hand ≡ y.hand → x ≡ y
same_sums x y free slab magazine exported leased hand = λ i. record { free = free i; slab = slab i; magazine = magazine i; exported = exported i; leased = leased i; hand = hand i }

module _ (spaces : List SpaceState) (stock : IsStock spaces) (k : ℕ) (s : SpaceState) (at : slice_get spaces k ≡ Some s) where
  -- the arena's number is its index
  here : (ts : List Tag) → units_of_arena_in k ts ≡ units_held (held_of s.arena.id ts)
  here ts = ap (λ i. units_held (held_of i ts)) (sym (stock k s at).id)

  magazine_parts : (o : Out) → (lengths_of (homes_of spaces o s)).magazine ≡ units_held (in_depots s) + units_held (held_of s.arena.id o.rounds)
  magazine_parts o = sum_by-append units_in (in_depots s) (held_of s.arena.id o.rounds)

  -- the rounds of CPUs are part of the spans
  pub rounds_fit : (o : Out) → Accounts spaces (all_out o) → units_of_arena_in k o.rounds ≤ units_held (spans_of s.arena)
  rounds_fit o a = omega (arith, adds_up spaces o (record { stock = stock; accounts = a }) k s at, magazine_parts o, here o.rounds)

  module _ (units : UnitsOut) (b : IsBalanced spaces k units) where
    abbrev pub exported : ℕ
    exported = (lengths_of (homes_of spaces b.out s)).exported

    -- the parts of the spans
    pub all_told : units_held s.arena.free + units_held (in_slabs s) + units_held (in_depots s) + units.rounds + units.leased + units.hand + exported ≡ units_held (spans_of s.arena)
    all_told = omega (
      arith,
      adds_up spaces b.out (record { stock = stock; accounts = b.accounts }) k s at,
      magazine_parts b.out,
      b.tally.rounds,
      b.tally.leased,
      b.tally.hand,
      here b.out.rounds,
      here b.out.leases,
      here b.out.hands,
    )

    module _ (sums : ArenaSums) (told : told_sums sums ≡ lengths_of (homes_of spaces (as_leased (all_out b.out)) s)) where
      depots : sums.magazine ≡ units_held (in_depots s)
      depots = omega (arith, ap (λ (x : Sums). x.magazine) told, sum_by-append units_in (in_depots s) [])

      -- rounds of CPUs and depots are part of the spans
      pub moved_fits : sums.magazine + units.rounds ≤ units_held (spans_of s.arena)
      moved_fits = omega (arith, depots, all_told)

      slabs : sums.slab ≡ units_held (in_slabs s)
      slabs = ap (λ (x : Sums). x.slab) told

      children : sums.exported ≡ exported
      children = ap (λ (x : Sums). x.exported) told

      -- the parts of what is allocated
      pub told_parts : units_held s.arena.free + (sums.slab + (sums.magazine + units.rounds) + units.leased + units.hand) + sums.exported ≡ units_held (spans_of s.arena)
      told_parts = omega (arith, slabs, depots, children, all_told)

      -- what counted as leased is where it is
      pub moved : (o : Out) → IsTally k o units
          → told_sums (record { free = sums.free; slab = sums.slab; magazine = sums.magazine + units.rounds; exported = sums.exported; leased = units.leased; hand = units.hand }) ≡ lengths_of (homes_of spaces o s)
      moved o tally = same_sums
          (told_sums (record { free = sums.free; slab = sums.slab; magazine = sums.magazine + units.rounds; exported = sums.exported; leased = units.leased; hand = units.hand }))
          (lengths_of (homes_of spaces o s))
          (ap (λ (x : Sums). x.free) told)
          (ap (λ (x : Sums). x.slab) told)
          (omega (arith, depots, magazine_parts o, tally.rounds, here o.rounds))
          (ap (λ (x : Sums). x.exported) told)
          (tally.leased ∙ here o.leases)
          (tally.hand ∙ here o.hands)

      -- and so where the free ones are a report's, and the exported ones are what is left
      pub moved_left : (free left : ℕ) → free ≡ units_held s.arena.free → left ≡ sums.exported → (o : Out) → IsTally k o units
          → told_sums (record { free = free; slab = sums.slab; magazine = sums.magazine + units.rounds; exported = left; leased = units.leased; hand = units.hand }) ≡ lengths_of (homes_of spaces o s)
      moved_left free left same is o tally = (λ i. record { free = (same ∙ sym (ap (λ (x : Sums). x.free) told)) i; slab = sums.slab; magazine = sums.magazine + units.rounds; exported = is i; leased = units.leased; hand = units.hand }) ∙ moved o tally
