use Rattle.std.proofs.Common.{◌≡◌, ℕ, ◌%◌, ◌<◌, refl, subst, ap, ◌∙◌, arith}
use Rattle.deed_core.specs.Extent.{Extent, IsRange}
use Rattle.deed_core.specs.Tag.{Tag}
use Rattle.deed_core.specs.Request.{rounding_of}
use Rattle.deed_core.specs.declared.requests.Request.{Request}
use Rattle.tag_arena.specs.ArenaState.{ArenaState, IsSoundArena, OnQuantum}
use Rattle.tag_arena.specs.Calls.{IsClear}
use Rattle.tag_arena.proofs.Granting.{units_are, rounded_some, rounded_multiple}
use Rattle.tag_arena.proofs.Importing.{imports}
use Rattle.tag_arena.proofs.Sounding.{power_some}
use Rattle.tag_arena.proofs.Carrying.{import_done_sound, import_tags, import_free, import_spans}
use Rattle.tag_arena.proofs.arenas.Arena.add_span_and_carve.Goals as goal

pub import-requires-clause-whole : goal.import-requires-clause-whole
import-requires-clause-whole g c =
    let old : ArenaState = c.args.self.now in
    let q : Request = c.args.request.now in
    let t : Tag = c.args.span in
    let n : ℕ = c.unwrap-len.result in
    let sound : IsSoundArena old = subst IsSoundArena c.self.view_is c.self.invariant.0 in
    let n_is : n ≡ rounding_of old.quantum q.size = units_are c.units.result _ _ n c.units.ensures c.unwrap-len.ensures ∙ ap (λ (s : ArenaState). rounding_of s.quantum q.size) c.self.view_is in
    ap (λ k. k % old.quantum) n_is ∙ rounded_multiple q.size old.quantum (power_some old.quantum sound.divided.power)

pub returns-in-Ok-clause-sound : goal.returns-in-Ok-clause-sound
returns-in-Ok-clause-sound g c =
    let old : ArenaState = c.args.self.now in
    let q : Request = c.args.request.now in
    let t : Tag = c.args.span in
    let n : ℕ = c.unwrap-len.result in
    let sound : IsSoundArena old = subst IsSoundArena c.self.view_is c.self.invariant.0 in
    let n_is : n ≡ rounding_of old.quantum q.size = units_are c.units.result _ _ n c.units.ensures c.unwrap-len.ensures ∙ ap (λ (s : ArenaState). rounding_of s.quantum q.size) c.self.view_is in
    let range : IsRange t.holding.range = subst IsRange c.range-range.ensures.value c.range-range.ensures.range in
    let fits = subst (λ (e : Extent). IsClear old e × OnQuantum old.quantum e) c.range-range.ensures.value (c.if-has_overlap.ensures.clear, c.if-not-is_aligned.ensures.0 refl) in
    let some : 0 < n = omega (arith, n_is, rounded_some q.size old.quantum c.requires.span.good.size) in
    let whole : n % old.quantum ≡ 0 = ap (λ k. k % old.quantum) n_is ∙ rounded_multiple q.size old.quantum (power_some old.quantum sound.divided.power) in
    let k = imports old old t n sound refl range c.requires.span.route fits.0 fits.1 some (omega (arith, n_is, c.requires.span.room)) whole in
    import_done_sound old q t n k n_is c.import.new.self c.in-Ok.ensures.carved c.in-Ok.first c.in-Ok.ensures.segment c.in-Ok.ensures.range

pub returns-in-Ok-clause-gains : goal.returns-in-Ok-clause-gains
returns-in-Ok-clause-gains g c =
    let old : ArenaState = c.args.self.now in
    let q : Request = c.args.request.now in
    let t : Tag = c.args.span in
    let n : ℕ = c.unwrap-len.result in
    let sound : IsSoundArena old = subst IsSoundArena c.self.view_is c.self.invariant.0 in
    let n_is : n ≡ rounding_of old.quantum q.size = units_are c.units.result _ _ n c.units.ensures c.unwrap-len.ensures ∙ ap (λ (s : ArenaState). rounding_of s.quantum q.size) c.self.view_is in
    let range : IsRange t.holding.range = subst IsRange c.range-range.ensures.value c.range-range.ensures.range in
    let fits = subst (λ (e : Extent). IsClear old e × OnQuantum old.quantum e) c.range-range.ensures.value (c.if-has_overlap.ensures.clear, c.if-not-is_aligned.ensures.0 refl) in
    let some : 0 < n = omega (arith, n_is, rounded_some q.size old.quantum c.requires.span.good.size) in
    let whole : n % old.quantum ≡ 0 = ap (λ k. k % old.quantum) n_is ∙ rounded_multiple q.size old.quantum (power_some old.quantum sound.divided.power) in
    let k = imports old old t n sound refl range c.requires.span.route fits.0 fits.1 some (omega (arith, n_is, c.requires.span.room)) whole in
    import_tags old q t n k n_is c.import.new.self c.in-Ok.ensures.carved c.in-Ok.first c.in-Ok.ensures.segment c.in-Ok.ensures.range

pub returns-in-Ok-clause-covering : goal.returns-in-Ok-clause-covering
returns-in-Ok-clause-covering g c =
    let old : ArenaState = c.args.self.now in
    let q : Request = c.args.request.now in
    let t : Tag = c.args.span in
    let n : ℕ = c.unwrap-len.result in
    let sound : IsSoundArena old = subst IsSoundArena c.self.view_is c.self.invariant.0 in
    let n_is : n ≡ rounding_of old.quantum q.size = units_are c.units.result _ _ n c.units.ensures c.unwrap-len.ensures ∙ ap (λ (s : ArenaState). rounding_of s.quantum q.size) c.self.view_is in
    let range : IsRange t.holding.range = subst IsRange c.range-range.ensures.value c.range-range.ensures.range in
    let fits = subst (λ (e : Extent). IsClear old e × OnQuantum old.quantum e) c.range-range.ensures.value (c.if-has_overlap.ensures.clear, c.if-not-is_aligned.ensures.0 refl) in
    let some : 0 < n = omega (arith, n_is, rounded_some q.size old.quantum c.requires.span.good.size) in
    let whole : n % old.quantum ≡ 0 = ap (λ k. k % old.quantum) n_is ∙ rounded_multiple q.size old.quantum (power_some old.quantum sound.divided.power) in
    let k = imports old old t n sound refl range c.requires.span.route fits.0 fits.1 some (omega (arith, n_is, c.requires.span.room)) whole in
    record {
      free = import_free old q t n k n_is c.import.new.self c.in-Ok.ensures.carved c.in-Ok.first c.in-Ok.ensures.segment c.in-Ok.ensures.range;
      spans = import_spans old q t n k n_is c.import.new.self c.in-Ok.ensures.carved c.in-Ok.first c.in-Ok.ensures.segment c.in-Ok.ensures.range;
    }
