-- What the proofs of the crates above cite, and all that they cite, of this crate: the laws of every
-- list of steps, and how a path over parts that are seen as a state is one over states.
pub use Rattle.local_parts.proofs.NoRounds.{empty_has_no_rounds}
pub use Rattle.local_parts.proofs.PopsRounds.{pop_takes_round}
use Rattle.std.proofs.Common.{◌≡◌, ◌∙◌, refl, sym, subst, ap, ◌++◌, arith}
use Rattle.std.specs.Option.{option_to_list}
use Rattle.std.proofs.lemmas.List.Sums.{sum_by-append}
use Rattle.arena_tree.specs.Events.{Event, AnswerTo, hand_after}
use Rattle.arena_tree.specs.Plans.{Plan, Done, Ask, Path}
use Rattle.stock.specs.Accounts.{Accounts}
use Rattle.stock.specs.Stocks.{IsStock}
use Rattle.stock.specs.Sums.{all_out}
use Rattle.stock.proofs.LawProofs.{out_weighs, one_home}
use Rattle.local_parts.specs.Cpus.{cpu_rounds}
use Rattle.local_parts.specs.States.{LocalState, out_of_stock}
use Rattle.local_parts.specs.Steps.{LocalStep, IsSetUpAs}
use Rattle.local_parts.specs.Laws.{PlanConserves, PlanKeepsSetup, PlanInOneHome, out_with}

pub plan_conserves : (A : Type 0) → PlanConserves A
plan_conserves A left (Done b) hand h old new a path rest acc =
    subst (λ s. Accounts s.spaces (out_of_stock s (left a) ++ rest)) path.0 (subst (λ x. Accounts old.spaces (out_of_stock old (left x) ++ rest)) path.1 (subst (λ x. Accounts old.spaces (out_of_stock old x ++ rest)) h acc))
plan_conserves A left (Ask e f) hand h old new a path rest acc =
    plan_conserves A left (f path.1) (hand_after e path.1 hand) (h.1 path.1) path.0 new a path.3 rest (path.2.conserves hand h.0 rest acc)

pub plan_keeps_setup : (A : Type 0) → PlanKeepsSetup A
plan_keeps_setup A (Done b) old new a path = subst (IsSetUpAs old) path.0 (record { plans = refl; indexes = refl })
plan_keeps_setup A (Ask e f) old new a path =
    let later = plan_keeps_setup A (f path.1) path.0 new a path.3 in record { plans = later.plans ∙ path.2.setup.plans; indexes = later.indexes ∙ path.2.setup.indexes }

pub plan_keeps_stock : (A : Type 0) (p : Plan A) (old new : LocalState) (a : A) → Path LocalStep p old new a → IsStock old.spaces → IsStock new.spaces
plan_keeps_stock A (Done b) old new a path law = subst (λ (s : LocalState). IsStock s.spaces) path.0 law
plan_keeps_stock A (Ask e f) old new a path law = plan_keeps_stock A (f path.1) path.0 new a path.3 path.2.stock

pub plan_in_one_home : (A : Type 0) → PlanInOneHome A
plan_in_one_home A left p hand h old new a path others accounted =
    let before : Accounts old.spaces (out_of_stock old hand ++ all_out others) = out_weighs old.spaces (all_out (out_with old hand others)) (out_of_stock old hand ++ all_out others) (λ f. omega (
      arith,
      sum_by-append f (option_to_list hand ++ others.hands) (others.leases ++ (cpu_rounds old.cpu ++ others.rounds)),
      sum_by-append f (option_to_list hand) others.hands,
      sum_by-append f others.leases (cpu_rounds old.cpu ++ others.rounds),
      sum_by-append f (cpu_rounds old.cpu) others.rounds,
      sum_by-append f (out_of_stock old hand) (all_out others),
      sum_by-append f (option_to_list hand) (cpu_rounds old.cpu),
      sum_by-append f others.hands (others.leases ++ others.rounds),
      sum_by-append f others.leases others.rounds,
    )) accounted.accounts in
    let after : Accounts new.spaces (all_out (out_with new (left a) others)) = out_weighs new.spaces (out_of_stock new (left a) ++ all_out others) (all_out (out_with new (left a) others)) (λ f. omega (
      arith,
      sum_by-append f (option_to_list (left a) ++ others.hands) (others.leases ++ (cpu_rounds new.cpu ++ others.rounds)),
      sum_by-append f (option_to_list (left a)) others.hands,
      sum_by-append f others.leases (cpu_rounds new.cpu ++ others.rounds),
      sum_by-append f (cpu_rounds new.cpu) others.rounds,
      sum_by-append f (out_of_stock new (left a)) (all_out others),
      sum_by-append f (option_to_list (left a)) (cpu_rounds new.cpu),
      sum_by-append f others.hands (others.leases ++ others.rounds),
      sum_by-append f others.leases others.rounds,
    )) (plan_conserves A left p hand h old new a path (all_out others) before) in
    one_home new.spaces (out_with new (left a) others) (record { stock = plan_keeps_stock A p old new a path accounted.stock; accounts = after })

-- what is seen of each step along a path, as a state
pub path_seen : (A S : Type 0) (see : S → LocalState) (step : S → (e : Event) → AnswerTo e → S → Type 0) → ((s t : S) (e : Event) (x : AnswerTo e) → step s e x t → LocalStep (see s) e x (see t))
    → (p : Plan A) (s t : S) (a : A) → Path step p s t a → Path LocalStep p (see s) (see t) a
path_seen A S see step is (Done b) s t a path = (ap see path.0, path.1)
path_seen A S see step is (Ask e f) s t a path = (see path.0, path.1, is s path.0 e path.1 path.2, path_seen A S see step is (f path.1) path.0 t a path.3)

-- what each step keeps, as which stock and which CPU it is, the whole keeps
pub path_keeps_same : (A S X : Type 0) (see : S → X) (step : S → (e : Event) → AnswerTo e → S → Type 0) → ((s t : S) (e : Event) (x : AnswerTo e) → step s e x t → see t ≡ see s)
    → (p : Plan A) (s t : S) (a : A) → Path step p s t a → see t ≡ see s
path_keeps_same A S X see step keeps (Done b) s t a path = sym (ap see path.0)
path_keeps_same A S X see step keeps (Ask e f) s t a path = path_keeps_same A S X see step keeps (f path.1) path.0 t a path.3 ∙ keeps s path.0 e path.1 path.2
