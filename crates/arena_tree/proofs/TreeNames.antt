-- Names of a tree.
use Rattle.std.proofs.Common.{◌≡◌, ◌≢◌, ℕ, ◌<◌, ◌≤◌, Bool, true, false, cond, nat_lt, List, AllPairs, length, Some, None, position, slice_get, get_or, refl, sym, ap, ◌∙◌, arith}
use Rattle.std.specs.List.{position_or_len}
use Rattle.std.specs.Str.{bytes_eq}
use Rattle.std.proofs.lemmas.List.Sums.{fails_before_first, position_or_len_is}
use Rattle.std.proofs.lemmas.Option.{slice_get_within, get_or_from_slice_get}
use Rattle.std.proofs.lemmas.Slice.Eq.{bytes_eq-Decides}
use Rattle.std.proofs.lemmas.Bool.{ltb-false, lt-ltb, false_from_ne_true}
use Rattle.arena_tree.specs.declared.trees.TreeArena.{TreeArena}
use Rattle.arena_tree.specs.Trees.{index_in}
use Rattle.arena_tree.specs.Laws.{OwnName}

-- none passes
none_passes : {X : Type 0} (test : X → Bool) (xs : List X) → position test xs ≡ None → length xs ≤ position_or_len test xs
none_passes test xs at = by (nat_lt (position_or_len test xs) (length xs)) refl at
  where
    by : (b : Bool) → nat_lt (position_or_len test xs) (length xs) ≡ b → cond b (Some (position_or_len test xs)) None ≡ None → length xs ≤ position_or_len test xs
    by true less at = absurd (cc)
    by false less at = ltb-false _ _ less

-- a name that isn't found is none of theirs
pub not_named : (name : List ℕ) (arenas : List TreeArena) → index_in name arenas ≡ None → (k : ℕ) (x : TreeArena) → slice_get arenas k ≡ Some x → x.name ≢ name
not_named name arenas none k x at same =
    let test = λ (z : TreeArena). bytes_eq z.name name in
    let late : length arenas ≤ position_or_len test arenas = none_passes test arenas none in
    let within : k < length arenas = slice_get_within arenas k x at in
    let fails : test (get_or arenas k x) ≡ false = fails_before_first test arenas k x (omega (arith, late, within)) in
    let here : get_or arenas k x ≡ x = get_or_from_slice_get arenas k x x at in
    let yes : bytes_eq x.name name ≡ true = (bytes_eq-Decides x.name name).1 same in
    let miss : bytes_eq x.name name ≡ false = ap test (sym here) ∙ fails in
    absurd (let e : true ≡ false = sym yes ∙ miss in cc)

-- none before it has its name
other_name : (arenas : List TreeArena) → AllPairs (λ x y. x.name ≢ y.name) arenas → (id : ℕ) (x : TreeArena) → slice_get arenas id ≡ Some x → (k : ℕ) → k < id → bytes_eq (get_or arenas k x).name x.name ≡ false
other_name arenas apart id x at k before =
    let within : id < length arenas = slice_get_within arenas id x at in
    let here : get_or arenas id x ≡ x = get_or_from_slice_get arenas id x x at in
    let differ : (get_or arenas k x).name ≢ (get_or arenas id x).name = apart k id x before within in
    false_from_ne_true (bytes_eq (get_or arenas k x).name x.name) (λ yes. differ ((bytes_eq-Decides (get_or arenas k x).name x.name).0 yes ∙ ap (λ (z : TreeArena). z.name) (sym here)))

pub own_name : OwnName
own_name arenas id x tree at =
    let test = λ (z : TreeArena). bytes_eq z.name x.name in
    let within : id < length arenas = slice_get_within arenas id x at in
    let here : get_or arenas id x ≡ x = get_or_from_slice_get arenas id x x at in
    let mine : test (get_or arenas id x) ≡ true = ap test here ∙ (bytes_eq-Decides x.name x.name).1 refl in
    let index : position_or_len test arenas ≡ id = position_or_len_is test arenas id x (omega (arith, within)) (other_name arenas tree.names id x at) (λ _. mine) in
    let less : nat_lt (position_or_len test arenas) (length arenas) ≡ true = lt-ltb (position_or_len test arenas) (length arenas) (omega (arith, index, within)) in
    cc
