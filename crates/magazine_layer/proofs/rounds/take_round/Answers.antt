use Rattle.std.proofs.Common.{◌≡◌, ◌≤◌, ◌⊎◌, arith, inl, inr, refl, sym, ◌∙◌}
use Rattle.std.specs.Prelude.{ℕ, Result, Ok, Err}
use Rattle.magazine_layer.specs.Magazines.{BothEmpty, CpuCacheState, after_change}
use Rattle.magazine_layer.specs.Calls.{ChangeOverOf}
use Rattle.magazine_layer.specs.Rounds.{Own_taken, Swapped, Old_size}
use Rattle.magazine_layer.proofs.rounds.take_round.Goals as goal

changed_or_not : {E : Type 0} (c c' : CpuCacheState) (m : ℕ) (r : Result (Unit {0}) E) → ChangeOverOf c m r c' → (c' ≡ c) ⊎ (c' ≡ after_change m c)
changed_or_not c c' m (Ok done) after = inr after
changed_or_not c c' m (Err error) same = inl same

size_after : {E : Type 0} (c c' : CpuCacheState) (m n : ℕ) (r : Result (Unit {0}) E) → ChangeOverOf c m r c' → c.size ≤ n → m ≡ n → c'.size ≤ n
size_after c c' m n (Ok done) after most is = rw (after, is) (omega arith)
size_after c c' m n (Err error) same most is = rw same most

pub returns-in-Some-clause-takes : goal.returns-in-Some-clause-takes
returns-in-Some-clause-takes g c = Own_taken c.in-Some.segment c.in-Some.ensures.of refl refl refl

pub returns-in-Some-take-clause-takes : goal.returns-in-Some-take-clause-takes
returns-in-Some-take-clause-takes g c =
    let none = c.in_default.ensures.of in
    let empty : BothEmpty c.take.new.self = rw none.1 none.0 in
    rw (← none.1) (Swapped c.in-Some-take.segment c.swap_for_full.new.cpu empty c.in-Ok.ensures.of c.in-Some-take.ensures.of refl refl)

pub returns-in-Err-OldSize-clause-takes : goal.returns-in-Err-OldSize-clause-takes
returns-in-Err-OldSize-clause-takes g c =
    let none = c.in_default.ensures.of in
    let empty : BothEmpty c.take.new.self = rw none.1 none.0 in
    let fault = rw c.in-Err-OldSize.field-0-is at c.in-Err-OldSize.ensures.of in
    rw (← none.1) (Old_size empty fault.0
    (elim (changed_or_not c.swap_for_full.new.cpu c.change_over.new.self c.in-Err-OldSize.size c.change_over.result c.change_over.ensures.of) [ inl e ↦ inl (rw (e, fault.2, fault.3) refl) | inr e ↦ inr (rw (e, fault.2, fault.3, fault.1) refl) ]) refl refl)

pub returns-in-Err-OldSize-clause-sizes : goal.returns-in-Err-OldSize-clause-sizes
returns-in-Err-OldSize-clause-sizes g c =
    let sizes = c.in-Err-OldSize.ensures.sizes in
    let fault = rw c.in-Err-OldSize.field-0-is at c.in-Err-OldSize.ensures.of in
    let most : c.swap_for_full.new.cpu.size ≤ c.swap_for_full.new.self.size = omega (arith, sizes.0, sizes.1, c.take.ensures.size, c.requires) in
    size_after c.swap_for_full.new.cpu c.change_over.new.self c.in-Err-OldSize.size c.swap_for_full.new.self.size c.change_over.result c.change_over.ensures.of most (fault.1 ∙ sym sizes.1)
