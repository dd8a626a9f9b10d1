use Rattle.std.proofs.Common.{◌≡◌, ◌∙◌, true, false, sym, ap, subst, arith}
use Rattle.tag_arena.specs.Linked.{IsLinked}
use Rattle.tag_arena.specs.FreeRanges.{keeps_bases, keeps_sizes}
use Rattle.tag_arena.specs.FreeTags.{ranges_by_age}
use Rattle.tag_arena.specs.Slotted.{taken_count}
use Rattle.tag_arena.specs.declared.orders.Order.TheVariants.{Rising, Sizes}
use Rattle.tag_arena.proofs.Starting.{kept_none, timed_none, tags_none, ranges_none}
use Rattle.tag_arena.proofs.free_index.FreeIndex.new.Goals as goal

pub invariant_of-result : goal.invariant_of-result
invariant_of-result g c =
    let s = c.new.result in
    let none = c.new.ensures.tags in
    let bases = c.new-2.ensures.is_kept ∙ c.has_bases.ensures in
    record {
      timed = timed_none s.tags none;
      tags = tags_none 0 s.tags none;
      few = omega (arith, ap taken_count none);
      slots_room = omega arith;
      rising = kept_none (keeps_bases c.args.policy) Rising s c.new-2.result none c.new-2.ensures.order (λ kept. sym bases ∙ kept) c.new-2.ensures.items;
      bases_kept = bases;
      sizes = kept_none (keeps_sizes c.args.policy) Sizes s c.new-3.result none c.new-3.ensures.order (λ kept. absurd (let no : false ≡ true = sym c.new-3.ensures.is_kept ∙ kept in cc)) c.new-3.ensures.items;
      lists_meet = record {
        kept_is = c.new-4.ensures.is_kept ∙ c.has_lists.ensures;
        linked = λ kept. subst (IsLinked c.new-4.result) (sym none) c.new-4.ensures.linked;
        room = λ kept. omega (arith, c.new.ensures.room);
      };
    }

pub returns-clause-ranges : goal.returns-clause-ranges
returns-clause-ranges g c = ap ranges_by_age c.new.ensures.tags ∙ ranges_none
