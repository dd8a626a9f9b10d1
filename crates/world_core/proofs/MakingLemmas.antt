-- A world that is made of a setup is one.
use Rattle.std.proofs.Common.{◌≡◌, ◌≢◌, ℕ, zero, suc, ◌<◌, nat_lt, Bool, true, false, All, AllPairs, List, [], map, replicate, length, Option, Some, None, unwrap_or, refl, sym, subst, ap, ◌∙◌, arith}
use Rattle.std.specs.Prelude.{slice_get, get_or}
use Rattle.std.proofs.lemmas.Bool.{ltb-true, ltb-false, false≢true}
use Rattle.std.proofs.lemmas.List.{length-map, length-replicate}
use Rattle.std.proofs.lemmas.Option.{slice_get_past, unwrap_or-slice_get, get_or_from_slice_get}
use Rattle.deed_core.specs.Tag.{Tag}
use Rattle.deed_core.proofs.LawProofs.{slice_get_some, slice_get_mapped}
use Rattle.arena_tree.specs.declared.trees.TreeArena.{TreeArena}
use Rattle.lease_terms.specs.Names.{is_name}
use Rattle.stock_audit.specs.Outside.{outside}
use Rattle.stock_audit.specs.Accounted.{IsAccountedFor}
use Rattle.lease_proto.specs.declared.lines.Line.{Line}
use Rattle.lease_book.specs.BookState.{leased_segments}
use Rattle.world_core.specs.declared.tasks.Task.{Task}
use Rattle.world_core.specs.WorldState.{WorldState, arena_name, in_hands, Each}
use Rattle.world_core.specs.IsWorld.{IsWorld, AreNames, IsOfLines}

-- Names.

module _ (arenas : List TreeArena) (names : List (List ℕ)) (is : names ≡ map (λ x. x.name) arenas) where
  named_at : (k : ℕ) → k < length arenas → (x : TreeArena) × (slice_get arenas k ≡ Some x) × (arena_name names k ≡ x.name)
  named_at k within =
      let x = slice_get_some arenas k within in
      let there : slice_get names k ≡ Some x.0.name = subst (λ (ns : List (List ℕ)). slice_get ns k ≡ Some x.0.name) (sym is) (slice_get_mapped (λ (y : TreeArena). y.name) arenas k x.0 x.1) in
      (x.0, x.1, get_or_from_slice_get names k x.0.name [] there)

  no_two : AllPairs (λ x y. x.name ≢ y.name) arenas → (i j : ℕ) → i < j → j < length arenas → arena_name names i ≡ arena_name names j → ⊥
  no_two apart i j before within same =
      let x = named_at i (omega arith) in
      let y = named_at j within in
      let a : get_or arenas i x.0 ≡ x.0 = get_or_from_slice_get arenas i x.0 x.0 x.1 in
      let b : get_or arenas j x.0 ≡ y.0 = get_or_from_slice_get arenas j y.0 x.0 y.1 in
      apart i j x.0 before within (ap (λ (z : TreeArena). z.name) a ∙ sym x.2 ∙ same ∙ y.2 ∙ sym (ap (λ (z : TreeArena). z.name) b))

  pub as_many : length names ≡ length arenas
  as_many = ap length is ∙ length-map arenas (λ (x : TreeArena). x.name)

  pub are_names : AllPairs (λ x y. x.name ≢ y.name) arenas → All (λ n. is_name n ≡ true) names → AreNames names
  are_names apart proper j k within same = by (nat_lt j k) (nat_lt k j) (nat_lt j (length names)) refl refl refl
    where
      by : (a b c : Bool) → nat_lt j k ≡ a → nat_lt k j ≡ b → nat_lt j (length names) ≡ c → j ≡ k
      by true b c less more inside = absurd (no_two apart j k (ltb-true _ _ less) (omega (arith, as_many, within)) same)
      by false false c less more inside = (let x = ltb-false _ _ less in let y = ltb-false _ _ more in omega (arith, x, y))
      by false true true less more inside = (let x = ltb-true _ _ inside in absurd (no_two apart k j (ltb-true _ _ more) (omega (arith, as_many, x)) (sym same)))
      by false true false less more outside =
          let none : arena_name names j ≡ [] = sym (unwrap_or-slice_get names j []) ∙ ap (λ (o : Option (List ℕ)). unwrap_or o []) (slice_get_past names j (ltb-false _ _ outside)) in
          let name : is_name (arena_name names k) ≡ true = proper k [] within in
          let bad : is_name [] ≡ true = subst (λ (n : List ℕ). is_name n ≡ true) (sym same ∙ none) name in
          absurd (false≢true bad)

-- CPUs with nothing to do.

none_held : (cpus : ℕ) → in_hands (replicate cpus None) ≡ []
none_held zero = refl
none_held (suc cpus) = none_held cpus

none_served : (requests : List Line) (cpus : ℕ) → Each (IsOfLines requests) (replicate cpus None)
none_served requests zero k x at = absurd (let e : None ≡ Some x = at in cc)
none_served requests (suc cpus) zero x at = subst (IsOfLines requests) (let e : Some None ≡ Some x = at in let f : None ≡ x = cc in f) tt
none_served requests (suc cpus) (suc k) x at = none_served requests cpus k x at

pub with_cpus : (w : WorldState) (cpus : ℕ) (hands : List (Option Tag)) (tasks : List (Option Task)) (failed : List Bool) → IsWorld (record w { hands = []; tasks = []; failed = []; owners = [] })
    → hands ≡ replicate cpus None → tasks ≡ replicate cpus None → failed ≡ replicate cpus false → IsWorld (record w { hands = hands; tasks = tasks; failed = failed; owners = [] })
with_cpus w cpus hands tasks failed is h t f =
    let hs = sym h in
    let ts = sym t in
    let fs = sym f in
    let count : length (replicate cpus None) ≡ cpus = length-replicate cpus None in
    subst IsWorld (λ j. record w { hands = hs j; tasks = ts j; failed = fs j; owners = [] }) (record {
      parts = subst (λ (out : List Tag). IsAccountedFor w.stock (outside out (leased_segments w.book) w.caches)) (sym (none_held cpus)) is.parts;
      named = is.named;
      few = is.few;
      names = is.names;
      book = is.book;
      due = is.due;
      ids = is.ids;
      known = is.known;
      said = is.said;
      cpus = record {
        served = length-replicate cpus None ∙ sym count;
        marked = length-replicate cpus false ∙ sym count;
        owned = λ k cpu at. absurd (let e : None ≡ Some cpu = at in cc);
      };
      tasks = none_served w.requests cpus;
      own = is.own;
      shaped = is.shaped;
      told = is.told;
    })
