use Rattle.std.proofs.Common.{◌≡◌, ◌+◌, ℕ, List, [], None, Ok, Err, OnOk, set, subst}
use Rattle.std.specs.Prelude.{Option, Result}
use Rattle.std.specs.Global.{Vec}
use Rattle.deed_core.specs.Holding.{Holding}
use Rattle.deed_core.specs.Tag.{Tag}
use Rattle.lease_threads.specs.Ends.{AreClosedBelow}
use Rattle.lease_threads.specs.Systems.{SystemState}
use Rattle.lease_threads.proofs.Gathered.{so_at}
use Rattle.lease_threads.proofs.closing.close_at.Goals as goal

closes_at : {A E : Type 0} (roots : List (Vec Holding)) (id : ℕ) (w : Vec Holding) (hand : Option Tag) (r : Result A E) → OnOk r ((hand ≡ None) × (w.items ≡ []))
    → OnOk r ((hand ≡ None) × (AreClosedBelow id roots → AreClosedBelow (id + 1) (set roots id w)))
closes_at roots id w hand (Err e) is = is
closes_at roots id w hand (Ok a) is = (is.0, so_at (λ l. l ≡ []) roots id w is.1)

pub returns-clause-closed : goal.returns-clause-closed
returns-clause-closed g c =
    let s = c.system.inside in
    subst (λ (t : SystemState). OnOk c.close_all.result ((c.close_all.new.cpu.hand ≡ None) × (AreClosedBelow c.args.id t.roots → AreClosedBelow (c.args.id + 1) (set s.roots.items c.args.id c.close_all.new.roots)))) c.system.view_is
    (closes_at s.roots.items c.args.id c.close_all.new.roots c.close_all.new.cpu.hand c.close_all.result c.close_all.ensures.closed)
