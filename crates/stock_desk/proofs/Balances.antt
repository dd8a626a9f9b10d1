-- What an audit counts of a picture.
use Rattle.std.proofs.Common.{◌≡◌, ℕ, ◌+◌, ◌-◌, ◌^◌, ◌≤◌, min, refl, sym, subst, ap, ◌∙◌, List, [], ◌∷◌, ◌++◌, take, length, Some, Result, Ok, Err, OnOk, OnErr, arith}
use Rattle.std.specs.Prelude.{slice_get, sum_by, flat_map}
use Rattle.std.specs.Io.{StartsWith}
use Rattle.std.proofs.lemmas.List.{length-map}
use Rattle.std.proofs.lemmas.List.Sums.{sum_by-append}
use Rattle.deed_core.specs.Holding.{Holding}
use Rattle.deed_core.specs.Tag.{Tag}
use Rattle.deed_core.specs.Covering.{units_in, units_held, units_tagged}
use Rattle.deed_core.proofs.LawProofs.{slice_get_one}
use Rattle.tag_arena.specs.ArenaState.{spans_of}
use Rattle.magazine_layer.specs.Depots.{depot_rounds}
use Rattle.arena_tree.specs.declared.trees.TreeArena.{TreeArena}
use Rattle.stock.specs.Spaces.{SpaceState, plan_of}
use Rattle.stock.specs.Setups.{plan_for}
use Rattle.stock.specs.Sums.{held_of, homes_of, lengths_of}
use Rattle.tag_arena.specs.Spanned.{holdings_of}
use Rattle.stock_audit.specs.Outside.{out_of}
use Rattle.stock.specs.OwnCaches.{all_own_rounds}
use Rattle.stock_audit.specs.Audits.{IsTally, IsBalanced, units_of_arena_in, told_sums}
use Rattle.stock.specs.declared.sums.ArenaSums.{ArenaSums}
use Rattle.stock_audit.proofs.LawProofs.{audit_adds_up, units_weigh}
use Rattle.local_parts.specs.Cpus.{arena_rounds}
use Rattle.lease_book.specs.BookState.{BookState, leased_segments, units_of_arena}
use Rattle.lease_proto.specs.Reports.{audit_text}
use Rattle.lease_machine.specs.Picture.{NumberedCpu, Picture, IsPicture, caches_of, held_outside}
use Rattle.lease_machine.specs.Operators.{audit_line, sums_in}
use Rattle.stock_desk.proofs.CpuUnits.{cpus_weigh}
use Rattle.stock_desk.specs.Supplies.{HasParts}

-- as many arenas as the tree has
pub same_length : (d : Picture) → IsPicture d → length d.spaces ≡ length d.tree
same_length d is = sym (length-map d.spaces plan_of) ∙ ap length is.held.plans ∙ length-map d.tree plan_for

-- text that more was appended to begins as it did
starts_front : (a x c : List ℕ) → StartsWith c (a ++ x) → StartsWith c a
starts_front [] x c begins = refl
starts_front (y ∷ a) x [] begins = absurd (let e : [] ≡ y ∷ (a ++ x) = begins in cc)
starts_front (y ∷ a) x (z ∷ c) begins =
    let e : z ∷ take (length (a ++ x)) c ≡ y ∷ (a ++ x) = begins in
    let first : z ≡ y = cc in
    let rest : take (length (a ++ x)) c ≡ a ++ x = cc in
    ap (λ (n : ℕ). n ∷ take (length a) c) first ∙ ap (λ (ns : List ℕ). y ∷ ns) (starts_front a x c rest)

pub starts_through : (a x b c : List ℕ) → b ≡ a ++ x → StartsWith c b → StartsWith c a
starts_through a x b c is begins = starts_front a x c (subst (StartsWith c) is begins)

abbrev pub rounds_in_cpus : ℕ → List NumberedCpu → ℕ
rounds_in_cpus k cpus = sum_by (λ c. units_tagged (arena_rounds c.caches k)) cpus

module _ (d : Picture) (is : IsPicture d) (k : ℕ) (s : SpaceState) (at : slice_get d.spaces k ≡ Some s) where
  abbrev all_rounds : List Tag
  all_rounds = all_own_rounds (flat_map caches_of d.cpus)

  abbrev in_depots : List Holding
  in_depots = flat_map (λ c. holdings_of (depot_rounds c.depot)) s.caches

  here : (ts : List Tag) → units_of_arena_in k ts ≡ units_held (held_of s.arena.id ts)
  here ts = ap (λ i. units_held (held_of i ts)) (sym (is.held.units.parts k s at).id)

  rounds_weigh : units_of_arena_in k all_rounds ≡ rounds_in_cpus k d.cpus
  rounds_weigh = units_weigh k all_rounds ∙ cpus_weigh k d.spaces d.cpus (λ i c below. (is.held.cpus.each i c below).1) is.held.units.cpus

  magazine_parts : (sums_in d s).magazine ≡ units_held in_depots + units_held (held_of s.arena.id all_rounds)
  magazine_parts = sum_by-append units_in in_depots (held_of s.arena.id all_rounds)

  pub rounds_fit : rounds_in_cpus k d.cpus ≤ units_held (spans_of s.arena)
  rounds_fit = omega (arith, audit_adds_up d.spaces (held_outside d) is.held.units k s at, magazine_parts, here all_rounds, rounds_weigh)

  pub tally_of : (rounds leases : ℕ) → rounds ≡ min (rounds_in_cpus k d.cpus) (2 ^ 128 - 1) → leases ≡ sum_by (units_of_arena k) (leased_segments d.book) → units_held (spans_of s.arena) ≤ 2 ^ 128 - 1
      → IsTally k (out_of (held_outside d)) (record { rounds = rounds; leased = leases; hand = 0 })
  tally_of rounds leases counted sum fits = record {
    rounds = omega (arith, counted, rounds_fit, fits, rounds_weigh);
    leased = sum ∙ sym (units_weigh k (leased_segments d.book));
    hand = refl;
  }

  pub balanced_of : (rounds leases : ℕ) → rounds ≡ min (rounds_in_cpus k d.cpus) (2 ^ 128 - 1) → leases ≡ sum_by (units_of_arena k) (leased_segments d.book) → units_held (spans_of s.arena) ≤ 2 ^ 128 - 1
      → IsBalanced d.spaces k (record { rounds = rounds; leased = leases; hand = 0 })
  balanced_of rounds leases counted sum fits = record { out = out_of (held_outside d); accounts = is.held.units.accounts; tally = tally_of rounds leases counted sum fits }

-- the same of the parts
module _ (tree : List TreeArena) (spaces : List SpaceState) (cpus : List NumberedCpu) (book : BookState) (d : Picture) (is : IsPicture d) (parts : HasParts tree spaces cpus book d)
    (k : ℕ) (s : SpaceState) (at : slice_get spaces k ≡ Some s) (rounds leases : ℕ) (counted : rounds ≡ min (rounds_in_cpus k cpus) (2 ^ 128 - 1)) (sum : leases ≡ sum_by (units_of_arena k) (leased_segments book))
    (fits : units_held (spans_of s.arena) ≤ 2 ^ 128 - 1) where
  at_here : slice_get d.spaces k ≡ Some s
  at_here = ap (λ (z : List SpaceState). slice_get z k) parts.stock ∙ at

  counted_here : rounds ≡ min (rounds_in_cpus k d.cpus) (2 ^ 128 - 1)
  counted_here = counted ∙ ap (λ (cs : List NumberedCpu). min (rounds_in_cpus k cs) (2 ^ 128 - 1)) (sym parts.made)

  sum_here : leases ≡ sum_by (units_of_arena k) (leased_segments d.book)
  sum_here = sum ∙ ap (λ (b : BookState). sum_by (units_of_arena k) (leased_segments b)) (sym parts.ledger)

  pub parts_tally : IsTally k (out_of (held_outside d)) (record { rounds = rounds; leased = leases; hand = 0 })
  parts_tally = tally_of d is k s at_here rounds leases counted_here sum_here fits

  pub parts_balance : IsBalanced spaces k (record { rounds = rounds; leased = leases; hand = 0 })
  parts_balance = subst (λ (z : List SpaceState). IsBalanced z k (record { rounds = rounds; leased = leases; hand = 0 })) parts.stock (balanced_of d is k s at_here rounds leases counted_here sum_here fits)

  -- the line tells the picture's sums
  pub line_told : (r : ArenaSums) (x y : TreeArena) → slice_get tree k ≡ Some x → slice_get tree k ≡ Some y → told_sums r ≡ lengths_of (homes_of spaces (out_of (held_outside d)) s)
      → audit_text (audit_line x.name (told_sums r)) ≡ audit_text (audit_line y.name (sums_in d s))
  line_told r x y one two sums =
      let same : x ≡ y = slice_get_one tree k x y one two in
      ap (λ (a : TreeArena). audit_text (audit_line a.name (told_sums r))) same
      ∙ ap (λ z. audit_text (audit_line y.name z)) (sums ∙ ap (λ (z : List SpaceState). lengths_of (homes_of z (out_of (held_outside d)) s)) (sym parts.stock))

pub on_ok : {A E : Type 0} (r : Result A E) (P Q : Type 0) → (P → Q) → OnOk r P → OnOk r Q
on_ok (Ok x) P Q f p = f p
on_ok (Err e) P Q f p = tt

pub always_on_err : {A E : Type 0} (r : Result A E) (P : Type 0) → P → OnErr r P
always_on_err (Ok x) P p = tt
always_on_err (Err e) P p = p
