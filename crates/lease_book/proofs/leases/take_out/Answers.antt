use Rattle.std.proofs.Common.{◌≡◌, ◌++◌, List, [], length, sym, ap, arith, ◌∙◌}
use Rattle.std.proofs.lemmas.List.{length-append, nil_from_length}
use Rattle.lease_book.specs.Account.{Lease}
use Rattle.lease_book.specs.Places.{is_asked, leases_in}
use Rattle.lease_book.proofs.EachLemmas.{shorter}
use Rattle.lease_book.proofs.FirstLemmas.{found_left, found_right}
use Rattle.lease_book.proofs.leases.take_out.Goals as goal

pub returns-in-Some-clause-lease : goal.returns-in-Some-clause-lease
returns-in-Some-clause-lease g c = (found_left (is_asked c.args.which.now) c.args.few.now (leases_in c.args.places.now.places) c.in-Some.held (c.take.ensures.lease ∙ c.in-Some.is)).0

pub returns-in-Some-clause-rest : goal.returns-in-Some-clause-rest
returns-in-Some-clause-rest g c =
    ap (λ (ls : List Lease). ls ++ leases_in c.args.places.now.places) c.take.ensures.rest
    ∙ sym (found_left (is_asked c.args.which.now) c.args.few.now (leases_in c.args.places.now.places) c.in-Some.held (c.take.ensures.lease ∙ c.in-Some.is)).1

pub returns-in_err-held-clause-lease : goal.returns-in_err-held-clause-lease
returns-in_err-held-clause-lease g c =
    (found_right (is_asked c.args.which.now) c.args.few.now (leases_in c.args.places.now.places) (c.take.ensures.lease ∙ c.in_default.is)).0 ∙ c.take-2.ensures.lease ∙ c.in_err-held.was ∙ sym c.from_residual.ensures

pub returns-in_err-held-clause-rest : goal.returns-in_err-held-clause-rest
returns-in_err-held-clause-rest g c =
    ap (λ (ls : List Lease). ls ++ leases_in c.take-2.new.self.places) c.in_default.ensures.unchanged
    ∙ ap (λ (ls : List Lease). c.args.few.now ++ ls) c.take-2.ensures.rest
    ∙ sym (found_right (is_asked c.args.which.now) c.args.few.now (leases_in c.args.places.now.places) (c.take.ensures.lease ∙ c.in_default.is)).1

pub returns-then-count-len-gt1-clause-lease : goal.returns-then-count-len-gt1-clause-lease
returns-then-count-len-gt1-clause-lease g c =
    (found_right (is_asked c.args.which.now) c.args.few.now (leases_in c.args.places.now.places) (c.take.ensures.lease ∙ c.in_default.is)).0 ∙ c.take-2.ensures.lease ∙ c.in_ok-held.was

pub returns-then-count-len-gt1-clause-rest : goal.returns-then-count-len-gt1-clause-rest
returns-then-count-len-gt1-clause-rest g c =
    ap (λ (ls : List Lease). ls ++ leases_in c.take-2.new.self.places) c.in_default.ensures.unchanged
    ∙ ap (λ (ls : List Lease). c.args.few.now ++ ls) c.take-2.ensures.rest
    ∙ sym (found_right (is_asked c.args.which.now) c.args.few.now (leases_in c.args.places.now.places) (c.take.ensures.lease ∙ c.in_default.is)).1

pub clear-requires : goal.clear-requires
clear-requires g c =
    let late : List Lease = leases_in c.args.places.now.places in
    let less = shorter (is_asked c.args.which.now) late c.in_ok-held.held (c.take-2.ensures.lease ∙ c.in_ok-held.was) in
    let left = ap length c.take-2.ensures.rest in
    let few = ap length c.in_default.ensures.unchanged in
    nil_from_length (leases_in c.take-2.new.self.places) (omega (arith, less, left, few, c.requires, length-append c.args.few.now late, c.len.ensures, c.if-count-len-gt1.false))

pub returns-clause-lease : goal.returns-clause-lease
returns-clause-lease g c =
    (found_right (is_asked c.args.which.now) c.args.few.now (leases_in c.args.places.now.places) (c.take.ensures.lease ∙ c.in_default.is)).0 ∙ c.take-2.ensures.lease ∙ c.in_ok-held.was

pub returns-clause-rest : goal.returns-clause-rest
returns-clause-rest g c =
    let late : List Lease = leases_in c.args.places.now.places in
    let less = shorter (is_asked c.args.which.now) late c.in_ok-held.held (c.take-2.ensures.lease ∙ c.in_ok-held.was) in
    let left = ap length c.take-2.ensures.rest in
    let few = ap length c.in_default.ensures.unchanged in
    let none : leases_in c.take-2.new.self.places ≡ [] = nil_from_length (leases_in c.take-2.new.self.places) (omega (arith, less, left, few, c.requires, length-append c.args.few.now late, c.len.ensures, c.if-count-len-gt1.false)) in
    ap (λ (ls : List Lease). ls ++ leases_in c.clear.new.self.places) c.in_default.ensures.unchanged
    ∙ ap (λ (ls : List Lease). c.args.few.now ++ ls) (c.clear.ensures ∙ sym none ∙ c.take-2.ensures.rest)
    ∙ sym (found_right (is_asked c.args.which.now) c.args.few.now late (c.take.ensures.lease ∙ c.in_default.is)).1
