-- Up a chain: spans are exports of their source.
use Rattle.std.proofs.Common.{◌≡◌, ℕ, ◌≤◌, true, nat_eq, Some, ap, ◌∙◌, List, cond, arith}
use Rattle.std.specs.Prelude.{slice_get}
use Rattle.std.proofs.lemmas.Bool.Decides.{nat_tests}
use Rattle.std.proofs.lemmas.Option.{slice_get_within}
use Rattle.deed_core.specs.Covering.{covers_held, covering_held}
use Rattle.deed_core.specs.Weights.{weight_where, of_arena}
use Rattle.deed_core.proofs.LawProofs.{slice_get_some, slice_get_one, part_of_sum}
use Rattle.tag_arena.specs.ArenaState.{spans_of}
use Rattle.stock.specs.Spaces.{SpaceState, quanta_of}
use Rattle.stock.specs.Accounts.{weight_imported}
use Rattle.stock.proofs.LawProofs.{out_is_apart}
use Rattle.stock_audit.specs.Outside.{Outside, segments_out}
use Rattle.stock_audit.specs.Accounted.{IsAccountedFor}
use Rattle.stock_audit.specs.Chains.{IsUpFrom, here, above, is_source, is_child_of, unit_of_arena}
use Rattle.stock_audit.specs.Laws.{ChildIsExported, SpansAreOfSource, OutNeverOverlaps}
use Rattle.stock_audit.proofs.Placing.{unit_adds_up}
use Rattle.stock_audit.proofs.Exporting.{imported_weigh, children_weigh, exported_is_children}

module _ (spaces : List SpaceState) (out : Outside) (a : IsAccountedFor spaces out) (u : ℕ) where
  -- a child's spans are part of what its source exported
  pub part_of_exported : (k p : ℕ) (s from : SpaceState) → slice_get spaces k ≡ Some s → s.source ≡ Some p → slice_get spaces p ≡ Some from → covering_held u (spans_of s.arena) ≤ (unit_of_arena u spaces out from).exported
  part_of_exported k p s from at source there =
      let f = covers_held u in
      omega (
        arith,
        exported_is_children spaces out a p from there f,
        children_weigh spaces a.parts p f,
        part_of_sum (weight_imported (of_arena p (λ t. f t.holding))) spaces k s at,
        imported_weigh p f (quanta_of spaces) k s (a.parts k s at),
        is_child,
      )
    where
      is_child : weight_where (is_child_of p) (λ (y : SpaceState). covering_held u (spans_of y.arena)) s ≡ covering_held u (spans_of s.arena)
      is_child =
          let test : nat_eq p p ≡ true = grind (arith, nat_tests) in
          ap (λ o. cond (is_source p o) (covering_held u (spans_of s.arena)) 0) source ∙ ap (λ b. cond b (covering_held u (spans_of s.arena)) 0) test

  -- what is exported is part of the spans
  pub exported_in_spans : (p : ℕ) (from : SpaceState) → slice_get spaces p ≡ Some from → (unit_of_arena u spaces out from).exported ≤ covering_held u (spans_of from.arena)
  exported_in_spans p from there = (let all = unit_adds_up spaces out a p from there u in omega (arith, all.0))

  pub source_stands : (k p : ℕ) (s : SpaceState) → slice_get spaces k ≡ Some s → s.source ≡ Some p → (from : SpaceState) × (slice_get spaces p ≡ Some from)
  source_stands k p s at source =
      let within = slice_get_within spaces k s at in
      let before = (a.parts k s at).before p source in
      slice_get_some spaces p (omega (arith, within, before))

  up : (k b : ℕ) → IsUpFrom spaces k b → (s from : SpaceState) → slice_get spaces k ≡ Some s → slice_get spaces b ≡ Some from → covering_held u (spans_of s.arena) ≤ covering_held u (spans_of from.arena)
  up _ _ (here k) s from at there = omega (arith, ap (λ (x : SpaceState). covering_held u (spans_of x.arena)) (slice_get_one spaces k s from at there))
  up _ _ (above k p b x found source chain) s from at there =
      let next = source_stands k p x found source in
      let more = up p b chain next.0 from next.1 there in
      omega (
        arith,
        ap (λ (y : SpaceState). covering_held u (spans_of y.arena)) (slice_get_one spaces k s x at found),
        part_of_exported k p x next.0 found source next.1,
        exported_in_spans p next.0 next.1,
        more,
      )

pub child_is_exported : ChildIsExported
child_is_exported spaces out a k p s from at source there u some =
    let all = unit_adds_up spaces out a p from there u in
    let part = part_of_exported spaces out a u k p s from at source there in
    (omega (arith, all.0, all.1, part, some), omega (arith, all.0, all.1, part, some))

pub spans_are_of_source : SpansAreOfSource
spans_are_of_source spaces out a k b s from chain at there u = up spaces out a u k b chain s from at there

pub out_never_overlaps : OutNeverOverlaps
out_never_overlaps spaces out a = out_is_apart spaces (segments_out out) (record { stock = a.parts; accounts = a.accounts })
