-- What lasts from step to step.
use Rattle.std.proofs.Common.{◌≡◌, ℕ, ◌^◌, ◌≤◌, List, [], ◌∷◌, ◌++◌, set, sym, refl, ap, ◌∙◌, subst, arith}
use Rattle.atomic_table.proofs.Lists.{set_else}
use Rattle.deed_core.proofs.LawProofs.{covers_is}
use Rattle.deed_table.specs.declared.views.View.{View}
use Rattle.deed_table.specs.Piece.{covering_of}
use Rattle.deed_table.specs.View.{opener, numbers_of, spent_view, opened_view}
use Rattle.deed_table.specs.Rule.{CoversOnceEach, open_count}
use Rattle.deed_table.specs.Kinds.{SplitsInto, JoinsInto, Steps, cuts, parts, shares, merges, gathers, opens, looks, AreSteps, last_view, RunsKeepRule, OpenedStaysCovered}
use Rattle.deed_table.proofs.Sums.{sum_by-set_at, sum_by-split, sum_by-join}
use Rattle.deed_table.proofs.Keeps.{Even, rooted, keeps_split, keeps_join, keeps_open, even_cut, even_part, even_share, even_merged, even_beside}
use Rattle.deed_table.proofs.Follows.{units_once}

-- what a step leaves: the rule, and each opened unit
record Lasts (old new : List View) : Type 0 where
  pub rule : CoversOnceEach old → CoversOnceEach new
  pub roots : (root unit : ℕ) → open_count root unit old ≤ open_count root unit new

split_lasts : (old new : List View) (i : ℕ) (v kept given : View) → SplitsInto old new i v kept given → Even kept given v spent_view → Lasts old new
split_lasts old new i v kept given s e =
    record {
      rule = λ k. subst CoversOnceEach (sym s.1) (keeps_split old i v kept given k s.0 e);
      roots = λ root unit.
          let a = sum_by-split (rooted root unit) old i v kept given s.0 (omega (arith, e.roots root unit)) in
          let b : open_count root unit new ≡ open_count root unit (set old i kept ++ given ∷ []) = ap (open_count root unit) s.1 in
          omega arith;
    }

join_lasts : (old new : List View) (i j : ℕ) (v w both : View) → JoinsInto old new i j v w both → Even both spent_view v w → Lasts old new
join_lasts old new i j v w both s e =
    let too = set_else old i j both s.2 ∙ s.1 in
    record {
      rule = λ k. subst CoversOnceEach (sym s.3) (keeps_join old i j v w both k s.0 too e);
      roots = λ root unit.
          let a = sum_by-join (rooted root unit) old i j v w both spent_view s.0 too (e.roots root unit) in
          let b : open_count root unit new ≡ open_count root unit (set (set old i both) j spent_view) = ap (open_count root unit) s.3 in
          omega arith;
    }

step_lasts : (old new : List View) → Steps old new → Lasts old new
step_lasts old new (cuts i at v s inside) = split_lasts old new i v _ _ s (even_cut at v inside)
step_lasts old new (parts i v s) = split_lasts old new i v _ _ s (even_part v)
step_lasts old new (shares i n v s left) = split_lasts old new i v _ _ s (even_share n v left)
step_lasts old new (merges i j v w s can) = join_lasts old new i j v w _ s (even_merged v w can)
step_lasts old new (gathers i j v w s none) = join_lasts old new i j v w _ s (even_beside v w none)
step_lasts old new (opens i range v at is no_ranges no_roots one) =
    record {
      rule = λ k. subst CoversOnceEach (sym is) (keeps_open old i v range k at no_ranges no_roots one);
      roots = λ root unit.
          let a = sum_by-set_at (rooted root unit) old i v (opened_view range v) at in
          let b : open_count root unit new ≡ open_count root unit (set old i (opened_view range v)) = ap (open_count root unit) is in
          let c : rooted root unit v ≡ 0 = ap (covering_of root unit) no_roots in
          omega arith;
    }
step_lasts old new (looks is) = record { rule = λ k. subst CoversOnceEach (sym is) k; roots = λ root unit. let b : open_count root unit new ≡ open_count root unit old = ap (open_count root unit) is in omega arith }

run_lasts : (now : List View) (later : List (List View)) → AreSteps now later → Lasts now (last_view now later)
run_lasts now [] run = record { rule = λ k. k; roots = λ root unit. omega arith }
run_lasts now (next ∷ later) run =
    let one = step_lasts now next run.0 in
    let rest = run_lasts next later run.1 in
    record { rule = λ k. rest.rule (one.rule k); roots = λ root unit. let a = one.roots root unit in let b = rest.roots root unit in omega arith }

pub begun : CoversOnceEach (opener 0 (2 ^ 32) ∷ [])
begun = record { each = λ root unit. refl; one_place = λ root. grind (arith, covers_is root (numbers_of (opener 0 (2 ^ 32)))) }

pub runs_keep_rule : RunsKeepRule
runs_keep_rule later run = (run_lasts (opener 0 (2 ^ 32) ∷ []) later run).rule begun

pub opened_stays_covered : OpenedStaysCovered
opened_stays_covered now later k run root unit is_open =
    let lasts = run_lasts now later run in
    let more = lasts.roots root unit in
    units_once (last_view now later) (lasts.rule k) root unit (omega arith)
