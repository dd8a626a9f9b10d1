-- What two requests are granted doesn't overlap.
use Rattle.std.proofs.Common.{◌≡◌, ◌≢◌, ◌⊎◌, ℕ, ◌+◌, ◌<◌, ◌≤◌, refl, sym, subst, ap, ◌∙◌, inl, inr, Bool, true, false, if◌then◌else◌, ◌||◌, nat_eq, eq-eqb, List, [], ◌∷◌, AllPairs, Contains, get_or, Some, arith}
use Rattle.std.specs.Prelude.{slice_get, sum_by}
use Rattle.std.specs.List.{IsDistinct}
use Rattle.std.proofs.lemmas.Bool.{cases_lt, cases_eq, ne_eqb, eqb-true}
use Rattle.std.proofs.lemmas.List.Sums.{sum_by-cons}
use Rattle.std.proofs.lemmas.Option.{slice_get_within, get_or_from_slice_get}
use Rattle.deed_core.specs.Covering.{covers}
use Rattle.deed_core.specs.Extent.{Covers}
use Rattle.deed_core.specs.Tag.{Tag}
use Rattle.deed_core.proofs.LawProofs.{counts_the_unit, sum_by-map, sum_at, sum_some, contained_in_sum, slice_get_mapped, mapped}
use Rattle.arena_tree.specs.declared.trees.TreeArena.{TreeArena}
use Rattle.arena_tree.specs.Trees.{index_in}
use Rattle.arena_tree.proofs.LawProofs.{own_name}
use Rattle.stock.specs.Spaces.{SpacePlan, plan_of, plans_of}
use Rattle.stock.specs.Setups.{plan_for}
use Rattle.stock.specs.Laws.{HasTop}
use Rattle.stock.specs.Laws as stock
use Rattle.lease_proto.specs.declared.replies.Granted.{Granted}
use Rattle.lease_book.specs.Account.{Lease}
use Rattle.lease_book.specs.BookState.{leased_segments, weight_of_leases}
use Rattle.lease_book.proofs.LawProofs.{leases_are_the_clients}
use Rattle.lease_machine.specs.Picture.{Picture, IsPicture}
use Rattle.lease_machine.specs.LeaseLaws.{leases_in}
use Rattle.lease_machine.specs.AnswerLaws.{AreNamed}
use Rattle.lease_machine.specs.GrantLaws.{IsUnder, root, child, GrantsApart, GrantsStayApart, range_granted}
use Rattle.lease_machine.proofs.Homes.{pictures_stay, setup_only_grows, leases_are_apart}
use Rattle.lease_machine.proofs.Repeats.{history_of}
use Rattle.lease_machine.proofs.Granting.{IsLeased, empty_stands, run_stands, step_stands, granted_leased, run_keeps, grant_keeps, contains_cases}

-- Weights.

-- two members that differ weigh at most what all do
two_in_sum : {X : Type 0} (f : X → ℕ) (xs : List X) (x y : X) → x ≢ y → Contains xs x → Contains xs y → f x + f y ≤ sum_by f xs
two_in_sum f [] x y differ a b = absurd (let lt = a.1 in omega (arith, lt))
two_in_sum f (z ∷ zs) x y differ a b = by (contains_cases z zs x a) (contains_cases z zs y b) (two_in_sum f zs x y differ)
  where
    by : ((z ≡ x) ⊎ Contains zs x) → ((z ≡ y) ⊎ Contains zs y) → (Contains zs x → Contains zs y → f x + f y ≤ sum_by f zs) → f x + f y ≤ sum_by f (z ∷ zs)
    by (inl p) (inl q) rest = absurd (differ (sym p ∙ q))
    by (inl p) (inr q) rest = omega (arith, ap f p, contained_in_sum f zs y q, sum_by-cons f z zs)
    by (inr p) (inl q) rest = omega (arith, ap f q, contained_in_sum f zs x p, sum_by-cons f z zs)
    by (inr p) (inr q) rest = omega (arith, rest p q, sum_by-cons f z zs)

-- where no two members weigh something, and none more than 1
at_most_one : {X : Type 0} (f : X → ℕ) (xs : List X) → ((x : X) → f x ≤ 1) → AllPairs (λ x y. 0 < f x → ¬ (0 < f y)) xs → sum_by f xs ≤ 1
at_most_one {X} f xs le apart = elim (cases_lt 0 (sum_by f xs)) [
  | inr none ↦ omega (arith, none)
  | inl some ↦
      let at = sum_some f xs some in
      let only : sum_by f xs ≡ f at.1 = sum_at f xs at.0 at.1 at.2 (λ j y there ne. nothing at.0 at.1 j y at.2 there ne at.3) in
      omega (arith, only, le at.1)
]
  where
    pair : (i j : ℕ) (x y : X) → slice_get xs i ≡ Some x → slice_get xs j ≡ Some y → i < j → 0 < f x → ¬ (0 < f y)
    pair i j x y here there before some more =
        let p = apart i j x before (slice_get_within xs j y there) in
        let a = get_or_from_slice_get xs i x x here in
        let b = get_or_from_slice_get xs j y x there in
        p (subst (λ (z : X). 0 < f z) (sym a) some) (subst (λ (z : X). 0 < f z) (sym b) more)

    nothing : (k : ℕ) (x : X) (j : ℕ) (y : X) → slice_get xs k ≡ Some x → slice_get xs j ≡ Some y → j ≢ k → 0 < f x → f y ≡ 0
    nothing k x j y here there ne some = elim (cases_lt 0 (f y)) [
      | inr none ↦ omega (arith, none)
      | inl more ↦ elim (cases_lt k j) [
        | inl before ↦ absurd (pair k j x y here there before some more)
        | inr after ↦ absurd (pair j k y x there here (ltn j k after ne) more some)
      ]
    ]
      where
        ltn : (m n : ℕ) → m ≤ n → m ≢ n → m < n
        ltn m n low differ = elim (cases_lt m n) [ inl lt ↦ lt | inr ge ↦ absurd (differ (omega (arith, low, ge))) ]

-- Two leases of the book.

-- a client's leases weigh at most what all do
client_weighs : (d : Picture) → IsPicture d → (c : ℕ) (f : Tag → ℕ) → weight_of_leases f d.book c ≤ sum_by f (leased_segments d.book)
unfolding IsDistinct
client_weighs d is c f = (
    let le = leases_are_the_clients.some d.book (c ∷ []) f (history_of d is) (tt, tt) in
    omega (arith, le, sum_by-cons (weight_of_leases f d.book) c []))

-- and so do two clients' together
clients_weigh : (d : Picture) → IsPicture d → (a b : ℕ) → a ≢ b → (f : Tag → ℕ) → weight_of_leases f d.book a + weight_of_leases f d.book b ≤ sum_by f (leased_segments d.book)
unfolding IsDistinct
clients_weigh d is a b differ f = (
    let le = leases_are_the_clients.some d.book (a ∷ b ∷ []) f (history_of d is) ((ne_eqb a b differ, tt), (tt, tt)) in
    omega (arith, le, sum_by-cons (weight_of_leases f d.book) a (b ∷ []), sum_by-cons (weight_of_leases f d.book) b []))

-- two leases that aren't one
two_weigh : (d : Picture) → IsPicture d → (a b : ℕ) (k l : Lease) → ((a ≡ b) → k ≢ l) → Contains (leases_in d a) k → Contains (leases_in d b) l → (f : Tag → ℕ) → f k.segment + f l.segment ≤ sum_by f (leased_segments d.book)
two_weigh d is a b k l differ one two f = elim (cases_eq a b) [
  | inl same ↦
      let there : Contains (leases_in d a) l = subst (λ (c : ℕ). Contains (leases_in d c) l) (sym same) two in
      omega (arith, two_in_sum (λ (x : Lease). f x.segment) (leases_in d a) k l (differ same) one there, sum_by-map f (λ (x : Lease). x.segment) (leases_in d a), client_weighs d is a f)
  | inr other ↦ omega (
    arith,
    contained_in_sum (λ (x : Lease). f x.segment) (leases_in d a) k one,
    contained_in_sum (λ (x : Lease). f x.segment) (leases_in d b) l two,
    sum_by-map f (λ (x : Lease). x.segment) (leases_in d a),
    sum_by-map f (λ (x : Lease). x.segment) (leases_in d b),
    clients_weigh d is a b other f,
  )
]

-- Tops.

-- what is under an arena by the tree is so by the stock
under_top : (d : Picture) → IsPicture d → (a top : ℕ) → IsUnder d.tree a top → HasTop d.spaces a top
under_top d is _ _ (root a x at none) =
    let planned : slice_get (plans_of d.spaces) a ≡ Some (plan_for x) = ap (λ (ps : List SpacePlan). slice_get ps a) is.held.plans ∙ slice_get_mapped plan_for d.tree a x at in
    let s = mapped plan_of d.spaces a (plan_for x) planned in
    stock.root a s.0 s.1 (sym (ap (λ (p : SpacePlan). p.source) s.2) ∙ none)
under_top d is _ _ (child a p top x at source up) =
    let planned : slice_get (plans_of d.spaces) a ≡ Some (plan_for x) = ap (λ (ps : List SpacePlan). slice_get ps a) is.held.plans ∙ slice_get_mapped plan_for d.tree a x at in
    let s = mapped plan_of d.spaces a (plan_for x) planned in
    stock.child a p top s.0 s.1 (sym (ap (λ (q : SpacePlan). q.source) s.2) ∙ source) (under_top d is p top up)

-- 1 where the segment is of one of the two arenas and has the unit
weight : ℕ → ℕ → ℕ → Tag → ℕ
weight a b u t = if nat_eq t.arena a || nat_eq t.arena b then covers u t.holding.range else 0

weight_le : (a b u : ℕ) (t : Tag) → weight a b u t ≤ 1
unfolding weight
weight_le a b u t = by (nat_eq t.arena a || nat_eq t.arena b)
  where
    by : (y : Bool) → (if y then covers u t.holding.range else 0) ≤ 1
    by true = (counts_the_unit u t.holding.range).0
    by false = omega arith

-- what weighs something
weight_some : (a b u : ℕ) (t : Tag) → 0 < weight a b u t → ((t.arena ≡ a) ⊎ (t.arena ≡ b)) × Covers t.holding.range u
unfolding weight
weight_some a b u t some = by (nat_eq t.arena a) (nat_eq t.arena b) refl refl some
  where
    has : 0 < covers u t.holding.range → Covers t.holding.range u
    has more = (let is = counts_the_unit u t.holding.range in is.1.0 (omega (arith, more, is.0)))

    by : (y z : Bool) → nat_eq t.arena a ≡ y → nat_eq t.arena b ≡ z → 0 < (if y || z then covers u t.holding.range else 0) → ((t.arena ≡ a) ⊎ (t.arena ≡ b)) × Covers t.holding.range u
    by true z p q more = (inl (eqb-true t.arena a p), has more)
    by false true p q more = (inr (eqb-true t.arena b q), has more)
    by false false p q more = absurd (omega (arith, more))

-- what has the unit weighs
weighs : (a b u : ℕ) (t : Tag) → ((t.arena ≡ a) ⊎ (t.arena ≡ b)) → Covers t.holding.range u → 1 ≤ weight a b u t
unfolding weight
weighs a b u t home over = by (nat_eq t.arena a) (nat_eq t.arena b) refl refl
  where
    one : covers u t.holding.range ≡ 1
    one = (counts_the_unit u t.holding.range).1.1 over

    by : (y z : Bool) → nat_eq t.arena a ≡ y → nat_eq t.arena b ≡ z → 1 ≤ (if y || z then covers u t.holding.range else 0)
    by true z p q = omega (arith, one)
    by false true p q = omega (arith, one)
    by false false p q = absurd (elim home [
      | inl is ↦ (let e : true ≡ false = sym (eq-eqb t.arena a is) ∙ p in cc)
      | inr is ↦ (let e : true ≡ false = sym (eq-eqb t.arena b is) ∙ q in cc)
    ])

-- at most one segment that is leased under a top has a unit
one_leased : (d : Picture) → IsPicture d → (a b top u : ℕ) → HasTop d.spaces a top → HasTop d.spaces b top → sum_by (weight a b u) (leased_segments d.book) ≤ 1
one_leased d is a b top u under_a under_b = at_most_one (weight a b u) (leased_segments d.book) (weight_le a b u) (λ i j e lt below some more. (
    let x = get_or (leased_segments d.book) i e in
    let y = get_or (leased_segments d.book) j e in
    let s = weight_some a b u x some in
    let t = weight_some a b u y more in
    leases_are_apart d is i j e lt below top (home x s.0) (home y t.0) u s.1 t.1))
  where
    home : (x : Tag) → ((x.arena ≡ a) ⊎ (x.arena ≡ b)) → HasTop d.spaces x.arena top
    home x (inl at) = subst (λ (k : ℕ). HasTop d.spaces k top) (sym at) under_a
    home x (inr at) = subst (λ (k : ℕ). HasTop d.spaces k top) (sym at) under_b

-- Two grants whose leases stand.

-- the lease is of the arena that its grant names
of_named : (d : Picture) (g : Granted) → IsPicture d → (l : IsLeased d g) → (a : ℕ) → index_in g.arena d.tree ≡ Some a → l.lease.segment.arena ≡ a
of_named d g is l a first =
    let own : index_in l.arena.name d.tree ≡ Some l.lease.segment.arena = own_name d.tree l.lease.segment.arena l.arena is.held.tree l.here in
    let named : index_in g.arena d.tree ≡ Some l.lease.segment.arena = ap (λ (n : List ℕ). index_in n d.tree) (sym l.named) ∙ own in
    let e : Some l.lease.segment.arena ≡ Some a = sym named ∙ first in
    cc

covered : (d : Picture) (g : Granted) (l : IsLeased d g) (u : ℕ) → Covers (range_granted g) u → Covers l.lease.segment.holding.range u
covered d g l u over = (omega (arith, over.0, l.at_base), omega (arith, over.1, l.at_base, l.as_long))

leased_apart : (d : Picture) (g h : Granted) → IsPicture d → IsLeased d g → IsLeased d h → h.id ≢ g.id → GrantsApart d.tree g h
leased_apart d g h is l m other a b top named_g named_h under_a under_b u over_g over_h =
    let differ : (g.id.client ≡ h.id.client) → l.lease ≢ m.lease = (λ client same. other (
    let i : h.id.incarnation ≡ g.id.incarnation = sym m.incarnation ∙ ap (λ (x : Lease). x.incarnation) (sym same) ∙ l.incarnation in
    let n : h.id.number ≡ g.id.number = sym m.number ∙ ap (λ (x : Lease). x.number) (sym same) ∙ l.number in
    let c : h.id.client ≡ g.id.client = sym client in
    (λ j. record { client = c j; incarnation = i j; number = n j }))) in
    let both = two_weigh d is g.id.client h.id.client l.lease m.lease differ l.held m.held (weight a b u) in
    let first = weighs a b u l.lease.segment (inl (of_named d g is l a named_g)) (covered d g l u over_g) in
    let second = weighs a b u m.lease.segment (inr (of_named d h is m b named_h)) (covered d h m u over_h) in
    let most = one_leased d is a b top u (under_top d is a top under_a) (under_top d is b top under_b) in
    omega (arith, both, first, second, most)

pub grants_stay_apart : GrantsStayApart
grants_stay_apart start old frames text g h is none names run t other =
    let old_is = pictures_stay start old frames text is run in
    let tree : old.tree ≡ start.tree = (setup_only_grows start old frames text run).tree in
    let st = run_stands frames start old text is run (empty_stands start.book none) in
    let old_names = subst AreNamed (sym tree) names in
    let first = granted_leased old t.mid t.line t.text g old_is old_names st t.first in
    let mid_is = t.first.step.picture in
    let mid_tree : t.mid.tree ≡ old.tree = t.first.step.setup.tree in
    let st_mid = step_stands old t.mid t.line t.text old_is t.first.step st in
    let on = run_keeps g t.frames t.mid t.late t.between mid_is st_mid t.keeps first in
    let late_tree : t.late.tree ≡ start.tree = on.tree ∙ mid_tree ∙ tree in
    let second = granted_leased t.late t.new t.next t.reply h on.picture (subst AreNamed (sym late_tree) names) on.stands t.second in
    let still = grant_keeps g t.late t.new t.next t.reply h on.picture t.second on.leased in
    subst (λ (xs : List TreeArena). GrantsApart xs g h) (t.second.step.setup.tree ∙ late_tree) (leased_apart t.new g h t.second.step.picture still second other)
