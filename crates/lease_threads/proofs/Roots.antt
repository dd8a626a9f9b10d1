-- The roots of a system, and its arenas as they are made.
use Rattle.std.proofs.Common.{◌≡◌, ℕ, zero, suc, ◌+◌, ◌*◌, ◌<◌, ◌≤◌, ◌++◌, inl, inr, ◌↔◌, Bool, true, false, IsTrue, nat_lt, List, [], ◌∷◌, Some, None, subst, sym, ap, ◌∙◌, refl, arith, length, map, slice_index_or, append_assoc, add-one}
use Rattle.std.specs.List.{AllAdjacentBelow, IsAllAdjacentAnswer, remove}
use Rattle.std.specs.Prelude.{slice_get}
use native.Mathlib.Numerals.{unary_clauses}
use Rattle.std.proofs.Math.Nat.{eq-or-lt_of_le}
use Rattle.std.proofs.lemmas.Bool.{ltb-true, lt-ltb}
use Rattle.std.proofs.lemmas.List.{map-append}
use Rattle.std.specs.Global.{Vec}
use Rattle.deed_core.specs.Holding.{Holding}
use Rattle.deed_core.proofs.LawProofs.{pushed}
use Rattle.arena_tree.specs.declared.setups.OwnedSpan.{OwnedSpan}
use Rattle.arena_tree.specs.declared.trees.TreeArena.{TreeArena}
use Rattle.arena_tree.specs.declared.limits.TheConstants.{MOST_SPANS}
use Rattle.locked_parts.specs.News.{NewArenaState, IsMadeAsSet, AreMadeAsSet, locked_of, numbered_from, ranges_owned}
use Rattle.lease_threads.specs.Ends.{InOrder}
use Rattle.lease_threads.specs.Openings.{roots_of, roots_of_first}

rising : (roots : List Holding) → AllAdjacentBelow (λ x y. x.root < y.root) roots (length roots) → InOrder roots
rising roots next i zero d less within = absurd (omega (arith, less))
rising roots next i (suc j) d less within =
    let upto : i ≤ j = omega (arith, less) in
    elim (eq-or-lt_of_le upto) [
      | inl same ↦ subst (λ k. (slice_index_or roots k d).root < (slice_index_or roots (suc j) d).root) (sym same) (step j d within)
      | inr below ↦ (let one = rising roots next i j d below (omega (arith, within)) in let two = step j d within in omega (arith, one, two))
    ]
  where
    step : (j : ℕ) (d : Holding) → suc j < length roots → (slice_index_or roots j d).root < (slice_index_or roots (suc j) d).root
    step = simp unary_clauses at next

-- the test of neighbours says whether the numbers rise
pub in_order : (roots : List Holding) (r : Bool) → IsAllAdjacentAnswer (λ x y b. b ≡ nat_lt x.root y.root) roots r → IsTrue r ↔ InOrder roots
in_order roots true next = ((λ _. rising roots (λ k d within. (ltb-true (slice_index_or roots k d).root (slice_index_or roots (k + 1) d).root (sym (next k d within))))), (λ _. refl))
in_order [] false (k, within, other) = absurd (omega (arith, within))
in_order (x ∷ xs) false (k, within, other) =
    ((λ no. (let e : false ≡ true = no in absurd (cc))), (λ one. (let less = one k (k + 1) x (omega (arith)) within in let is = lt-ltb (slice_index_or (x ∷ xs) k x).root (slice_index_or (x ∷ xs) (k + 1) x).root less in let e : false ≡ true = other x ∙ is in absurd (cc))))

-- one more arena was opened with its roots
pub opened_more : (spans : List OwnedSpan) (made new : List NewArenaState) (o : NewArenaState) (id : ℕ) → new ≡ made ++ o ∷ [] → o.roots ≡ numbered_from (MOST_SPANS * id) (ranges_owned id spans) → roots_of made ≡ roots_of_first spans id → roots_of new ≡ roots_of_first spans (id + 1)
opened_more spans made new o id more is had =
    ap roots_of more ∙ map-append (λ (a : NewArenaState). a.roots) made (o ∷ []) ∙ ap (λ l. l ++ o.roots ∷ []) had ∙ ap (λ l. roots_of_first spans id ++ l ∷ []) is ∙ sym (ap (roots_of_first spans) (add-one id))

-- the first one is locked
pub first_locked : (made : List NewArenaState) (x : NewArenaState) → 0 < length made → x ≡ slice_index_or made 0 x → roots_of made ≡ x.roots ∷ roots_of (remove made 0)
first_locked [] x some is = absurd (omega (arith, some))
first_locked (y ∷ ys) x some is = ap (λ (z : NewArenaState). z.roots ∷ roots_of ys) (sym is)

pub first_stands : (made : List NewArenaState) (x : NewArenaState) → 0 < length made → x ≡ slice_index_or made 0 x → map locked_of made ≡ locked_of x ∷ map locked_of (remove made 0)
first_stands [] x some is = absurd (omega (arith, some))
first_stands (y ∷ ys) x some is = ap (λ (z : NewArenaState). locked_of z ∷ map locked_of ys) (sym is)

-- and its roots are put behind others
pub locked_more : (old new : List (Vec Holding)) (more : Vec Holding) (made rest all : List (List Holding)) → new ≡ old ++ more ∷ [] → made ≡ more.items ∷ rest
    → map (λ (r : Vec Holding). r.items) old ++ made ≡ all → map (λ (r : Vec Holding). r.items) new ++ rest ≡ all
locked_more old new more made rest all pushed first had =
    let items = λ (r : Vec Holding). r.items in
    ap (λ l. map items l ++ rest) pushed ∙ ap (λ l. l ++ rest) (map-append items old (more ∷ [])) ∙ append_assoc (map items old) (more.items ∷ []) rest ∙ ap (λ l. map items old ++ l) (sym first) ∙ had

-- one more arena was opened as it is set up
pub made_more : (arenas : List TreeArena) (made new : List NewArenaState) (o : NewArenaState) (id : ℕ) → length made ≡ id → new ≡ made ++ o ∷ [] → AreMadeAsSet arenas made → IsMadeAsSet arenas id o → AreMadeAsSet arenas new
made_more arenas made new o id is more all this = record {
  each = λ k a at. elim (pushed made k o a (subst (λ (l : List NewArenaState). slice_get l k ≡ Some a) more at)) [
    | inl last ↦ subst (λ (n : ℕ). IsMadeAsSet arenas n a) (sym (last.0 ∙ is)) (subst (IsMadeAsSet arenas id) (sym last.1) this)
    | inr there ↦ all.each k a there
  ];
}

pub none_made : (arenas : List TreeArena) (made : List NewArenaState) → made ≡ [] → AreMadeAsSet arenas made
none_made arenas made none = record {
  each = λ k a at. absurd (let e : None ≡ Some a = ap (λ (l : List NewArenaState). slice_get l k) (sym none) ∙ at in cc);
}
