use Rattle.std.proofs.Common.{◌≡◌, ℕ, refl, is_some, true, false, Option, None, Some, ◌∙◌, ◌^◌, ◌<◌, All, Contains, inr, sym, ap, subst, arith}
use Rattle.std.proofs.lemmas.List.Elements.{All-contains}
use Rattle.deed_core.specs.Extent.{IsRange}
use Rattle.deed_core.specs.Request.{IsPlain, rounding_of}
use Rattle.tag_arena.specs.Choice.{NoListServes, IsInstant}
use Rattle.tag_arena.specs.FreeRanges.{keeps_lists}
use Rattle.tag_arena.specs.FreeTags.{ArePowers}
use Rattle.tag_arena.specs.Linked.{IsNewestFrom}
use Rattle.tag_arena.specs.Place.{Serves}
use Rattle.tag_arena.proofs.Choosing.{serves_at_base}
use Rattle.tag_arena.proofs.Newest.{none_as_long}
use Rattle.tag_arena.proofs.Lasting.{all_ranges}
use Rattle.tag_arena.proofs.free_index.FreeIndex.instant.Goals as goal

-- what isn't some is none
none_there : (o : Option ℕ) → is_some o ≡ false → o ≡ None
none_there None not = refl
none_there (Some k) not = absurd (let never : true ≡ false = not in cc)

pub returns-in_default-clause-choice : goal.returns-in_default-clause-choice
returns-in_default-clause-choice g c =
    let all = subst (All (λ r. IsRange r.range)) (ap (λ v. v.ranges) c.self.view_is) (all_ranges c.self.inside.clock c.self.inside.slots.tags c.self.invariant.tags) in
    inr (
      (λ plain r i h on serves.
          let below = (All-contains (λ x. IsRange x.range) c.args.self.now.ranges r all h).below in
          let few : rounding_of c.args.quantum c.args.request.now.size < 2 ^ 64 = omega (arith, on.0, serves, below) in
          c.in_default.ensures few),
      c.best-in_default.ensures.choice,
    )

pub newest-requires-clause-tags : goal.newest-requires-clause-tags
newest-requires-clause-tags g c = (c.self.inside.clock, c.self.invariant.tags)

pub returns-in_default-newest-clause-choice : goal.returns-in_default-newest-clause-choice
returns-in_default-newest-clause-choice g c =
    let none = subst (λ l. NoListServes c.args.quantum c.in-Some.units l) (ap (λ v. v.ranges) c.self.view_is) c.in_default-newest.ensures in
    let units = c.in-Some.ensures.1 in
    inr (
      (λ plain r i h on serves. none r i h on (omega (arith, serves, units))),
      c.best-in_default-newest.ensures.choice,
    )

pub returns-clause-placed : goal.returns-clause-placed
returns-clause-placed g c =
    let all = subst (All (λ r. IsRange r.range)) (ap (λ v. v.ranges) c.self.view_is) (all_ranges c.self.inside.clock c.self.inside.slots.tags c.self.invariant.tags) in
    let plain : IsPlain c.args.request.now = c.is_constrained.ensures.0 c.if-is_constrained.false in
    let range = c.in-Some-newest.newest.range in
    let x = subst (λ l. IsInstant c.args.quantum c.in-Some.units l range) (ap (λ v. v.ranges) c.self.view_is) c.in-Some-newest.ensures in
    let among : Contains c.args.self.now.ranges range = (x.index, x.within, x.here range) in
    let serves = serves_at_base c.args.quantum c.args.request.now c.args.self.now.ranges plain all c.requires.aligned range among (omega (arith, x.large, x.on_list.0, c.in-Some.ensures.1)) in
    record {
      among = among;
      serves = rw c.base.ensures.value serves;
    }

pub returns-in_default-clause-one : goal.returns-in_default-clause-one
returns-in_default-clause-one g c = λ by zero_before.
    let all = subst (All (λ r. IsRange r.range)) (ap (λ v. v.ranges) c.self.view_is) (all_ranges c.self.inside.clock c.self.inside.slots.tags c.self.invariant.tags) in
    let range = by.1.0 in
    let x = by.1.1 in
    let among : Contains c.args.self.now.ranges range = (x.index, x.within, x.here range) in
    let below = (All-contains (λ r. IsRange r.range) c.args.self.now.ranges range all among).below in
    let few : rounding_of c.args.quantum c.args.request.now.size < 2 ^ 64 = omega (arith, x.on_list.0, x.large, below) in
    absurd (c.in_default.ensures few)

pub returns-in_default-newest-clause-one : goal.returns-in_default-newest-clause-one
returns-in_default-newest-clause-one g c = λ by zero_before.
    let none = subst (λ l. NoListServes c.args.quantum c.in-Some.units l) (ap (λ v. v.ranges) c.self.view_is) c.in_default-newest.ensures in
    let units = c.in-Some.ensures.1 in
    let x = by.1.1 in
    absurd (none by.1.0 x.list (x.index, x.within, x.here by.1.0) x.on_list (omega (arith, x.large, units)))

pub returns-then-is_none-clause-choice : goal.returns-then-is_none-clause-choice
returns-then-is_none-clause-choice g c =
    let tags = c.self.inside.slots.tags in
    let powers : ArePowers tags = λ k t here. (c.self.invariant.tags k t here).power in
    let linked = c.self.invariant.lists_meet.linked (c.self.invariant.lists_meet.kept_is ∙ ap keeps_lists (ap (λ v. v.policy) c.self.view_is ∙ c.requires.asked)) in
    let lower = subst (IsNewestFrom c.ilog2.result tags) (none_there c.newest_from.result c.if-is_none.ensures) (c.newest_from.ensures tags linked powers) in
    let none = subst (λ l. NoListServes c.args.quantum c.in-Some.units l) (ap (λ v. v.ranges) c.self.view_is) c.in_default-newest.ensures in
    let units = c.in-Some.ensures.1 in
    let low = c.ilog2.ensures.power_le in
    inr (
      (λ plain r i h on serves. none r i h on (omega (arith, serves, units))),
      (λ base serves. none_as_long c.self.inside.clock c.ilog2.result tags c.self.invariant.tags lower c.args.quantum c.args.request.now (omega (arith, low, units)) base
          (subst (λ l. Serves c.args.quantum c.args.request.now l base) (sym (ap (λ v. v.ranges) c.self.view_is)) serves)),
    )

pub returns-then-is_none-clause-one : goal.returns-then-is_none-clause-one
returns-then-is_none-clause-one g c = λ by zero_before.
    let none = subst (λ l. NoListServes c.args.quantum c.in-Some.units l) (ap (λ v. v.ranges) c.self.view_is) c.in_default-newest.ensures in
    let units = c.in-Some.ensures.1 in
    let x = by.1.1 in
    absurd (none by.1.0 x.list (x.index, x.within, x.here by.1.0) x.on_list (omega (arith, x.large, units)))
