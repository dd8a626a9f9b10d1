-- The six sums are the weights of the homes.
use Rattle.std.proofs.Common.{◌≡◌, ℕ, ◌∙◌, sym, List, ◌++◌, filter, arith}
use Rattle.std.specs.Prelude.{sum_by}
use Rattle.std.proofs.lemmas.List.Sums.{sum_by-append}
use Rattle.deed_core.specs.Holding.{Holding}
use Rattle.deed_core.specs.Tag.{Tag}
use Rattle.deed_core.specs.Covering.{covers_held, units_in}
use Rattle.deed_core.specs.Selections.{is_of_arena}
use Rattle.deed_core.specs.Weights.{of_arena}
use Rattle.deed_core.proofs.LawProofs.{sum_by-map, sum_by-filter}
use Rattle.stock.specs.Sums.{Homes, all_homes, sums_of, total, held_of, homes_of}
use Rattle.stock.proofs.LawProofs.{one_home, adds_up}
use Rattle.stock_audit.specs.Outside.{out_of}
use Rattle.stock_audit.specs.Laws.{AuditAddsUp, UnitAddsUp, UnitsWeigh}

pub homes_weigh : (f : Holding → ℕ) (p : Homes) → sum_by f (all_homes p) ≡ total (sums_of f p)
homes_weigh f p = omega (
  arith,
  sum_by-append f p.free (p.slab ++ (p.magazine ++ (p.exported ++ (p.leased ++ p.hand)))),
  sum_by-append f p.slab (p.magazine ++ (p.exported ++ (p.leased ++ p.hand))),
  sum_by-append f p.magazine (p.exported ++ (p.leased ++ p.hand)),
  sum_by-append f p.exported (p.leased ++ p.hand),
  sum_by-append f p.leased p.hand,
)

-- what an arena's segments among these weigh
pub held_weigh : (k : ℕ) (f : Holding → ℕ) (ts : List Tag) → sum_by f (held_of k ts) ≡ sum_by (of_arena k (λ t. f t.holding)) ts
held_weigh k f ts = sum_by-map f (λ (t : Tag). t.holding) (filter (is_of_arena k) ts) ∙ sum_by-filter (is_of_arena k) (λ t. f t.holding) ts

pub audit_adds_up : AuditAddsUp
audit_adds_up spaces out a k s at = adds_up spaces (out_of out) (record { stock = a.parts; accounts = a.accounts }) k s at

pub unit_adds_up : UnitAddsUp
unit_adds_up spaces out a k s at u =
    let home = one_home spaces (out_of out) (record { stock = a.parts; accounts = a.accounts }) k s at u in
    (sym (homes_weigh (covers_held u) (homes_of spaces (out_of out) s)) ∙ home.0, home.1)

pub units_weigh : UnitsWeigh
units_weigh arena segments = held_weigh arena units_in segments
