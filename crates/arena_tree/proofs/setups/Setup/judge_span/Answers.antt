use Rattle.std.proofs.Common.{◌≡◌, ℕ, subst, sym, ap, Any, None, arith}
use Rattle.arena_tree.specs.declared.trees.TreeArena.{TreeArena}
use Rattle.arena_tree.proofs.SetupLemmas.{blocked, no_source, setup_state}
use Rattle.arena_tree.specs.Settings.{SetupState, HasSpanRoom, CanSpan, Clash, span_count, new_range}
use Rattle.arena_tree.proofs.setups.Setup.judge_span.Goals as goal

pub returns-then-are_in_the_way-clause-refused : goal.returns-then-are_in_the_way-clause-refused
returns-then-are_in_the_way-clause-refused c =
    let s = setup_state c.self.inside.tree c.self.inside.spans.items in
    let x = c.arena-arena.result.now in
    let none : x.source ≡ None = no_source x.source c.is_some.result c.is_some.ensures c.if-is_some.false in
    let mine = ap (span_count c.in-Some.id) c.deref.ensures.value in
    let room : HasSpanRoom s c.args.span.now c.in-Some.id x = record { finds = sym c.in-Some.ensures.index; root = record { here = c.arena-arena.ensures.here; root = none }; few = omega (arith, mine) } in
    subst (λ (t : SetupState). (id : ℕ) × (y : TreeArena) × HasSpanRoom t c.args.span.now id y × (CanSpan t id y (new_range c.args.span.now) → ⊥)) c.self.view_is
    (c.in-Some.id, x, room, λ can. blocked s c.in-Some.id x (new_range c.args.span.now) c.in-Some-whole_range.range (subst (λ xs. Any (λ a. Clash a (record { arena = c.in-Some.id; range = c.in-Some-whole_range.range })) xs) c.deref-2.ensures.value c.if-are_in_the_way.ensures) c.in-Some-whole_range.ensures.value.0 can)
