-- What setup lines make is a tree whose roots own spans of their own, so what it opens is a picture.
use Rattle.std.proofs.Common.{◌≡◌, ◌≢◌, ℕ, zero, suc, ◌<◌, ◌≤◌, Bool, true, false, cond, nat_lt, position, get_or, All, AllPairs, List, [], ◌∷◌, ◌++◌, length, length-append, Option, Some, None, refl, sym, ap, subst, ◌∙◌, inl, inr, arith}
use Rattle.std.specs.Prelude.{slice_get, IfSome}
use Rattle.std.specs.List.{position_or_len}
use Rattle.std.specs.Str.{bytes_eq}
use Rattle.std.proofs.lemmas.Bool.{ltb-false}
use Rattle.std.proofs.lemmas.List.Elements.{All-cons, All-nil, All-push}
use Rattle.std.proofs.lemmas.List.Sums.{fails_before_first}
use Rattle.std.proofs.lemmas.Option.{slice_get_within, get_or_from_slice_get}
use Rattle.std.proofs.lemmas.Slice.Eq.{bytes_eq-Decides}
use Rattle.deed_core.specs.Extent.{Extent}
use Rattle.deed_core.proofs.LawProofs.{AllPairs-append, all_at, all_from, pushed, slice_get_one}
use Rattle.arena_tree.specs.declared.levels.Level.{Level}
use Rattle.arena_tree.specs.declared.limits.TheConstants.{MOST_ARENAS, LONGEST_CHAIN}
use Rattle.arena_tree.specs.declared.trees.TreeArena.{TreeArena}
use Rattle.arena_tree.specs.declared.setups.OwnedSpan.{OwnedSpan}
use Rattle.arena_tree.specs.declared.settings.NewRoot.{NewRoot}
use Rattle.arena_tree.specs.declared.settings.NewChild.{NewChild}
use Rattle.arena_tree.specs.declared.settings.NewSpan.{NewSpan}
use Rattle.arena_tree.specs.Settings.{SetupState, AddsSpan, Clash, HasNoClash, IsOwned}
use Rattle.arena_tree.specs.Setups.{AddsChild, AddsRoot, root_range}
use Rattle.arena_tree.specs.Trees.{ChainFrom, ImportsFrom, IsArena, IsTree, IsWholeRange, index_in}
use Rattle.lease_proto.specs.declared.setup_lines.SetupLine.{SetupLine}
use Rattle.lease_proto.specs.declared.setup_lines.SetupLine.TheVariants.{Root, Child, Span}
use Rattle.lease_machine.specs.Picture.{Picture, IsPicture}
use Rattle.stock_desk.proofs.LawProofs.{opened_is_picture}
use Rattle.vmemd.specs.Laws.{Script, SetupsOpenPictures}
use Rattle.vmemd_setup.specs.Setups.{Makes}
use Rattle.vmemd_setup.specs.Settings.{TakesSetupLine, no_arenas}

-- what stands in a list stands there with one more behind
stands_on : {X : Type 0} (xs : List X) (y : X) (k : ℕ) (x : X) → slice_get xs k ≡ Some x → slice_get (xs ++ y ∷ []) k ≡ Some x
stands_on [] y k x at = absurd (let e : None ≡ Some x = at in cc)
stands_on (z ∷ xs) y zero x at = at
stands_on (z ∷ xs) y (suc k) x at = stands_on xs y k x at

stands_last : {X : Type 0} (xs : List X) (y : X) → slice_get (xs ++ y ∷ []) (length xs) ≡ Some y
stands_last [] y = refl
stands_last (x ∷ xs) y = stands_last xs y

-- a name that isn't found is none of theirs
none_passes : {X : Type 0} (test : X → Bool) (xs : List X) → position test xs ≡ None → length xs ≤ position_or_len test xs
none_passes test xs at = by (nat_lt (position_or_len test xs) (length xs)) refl at
  where
    by : (b : Bool) → nat_lt (position_or_len test xs) (length xs) ≡ b → cond b (Some (position_or_len test xs)) None ≡ None → length xs ≤ position_or_len test xs
    by true less at = absurd (cc)
    by false less at = ltb-false _ _ less

not_named : (name : List ℕ) (arenas : List TreeArena) → index_in name arenas ≡ None → (k : ℕ) (x : TreeArena) → slice_get arenas k ≡ Some x → x.name ≢ name
not_named name arenas none k x at same =
    let test = λ (z : TreeArena). bytes_eq z.name name in
    let late : length arenas ≤ position_or_len test arenas = none_passes test arenas none in
    let within : k < length arenas = slice_get_within arenas k x at in
    let fails : test (get_or arenas k x) ≡ false = fails_before_first test arenas k x (omega (arith, late, within)) in
    let yes : bytes_eq x.name name ≡ true = (bytes_eq-Decides x.name name).1 same in
    let miss : bytes_eq x.name name ≡ false = ap test (sym (get_or_from_slice_get arenas k x x at)) ∙ fails in
    absurd (let e : true ≡ false = sym yes ∙ miss in cc)

-- there is one chain from an arena
one_chain : (arenas : List TreeArena) (from : Option ℕ) (a b : List Level) → ChainFrom arenas from a → ChainFrom arenas from b → length a ≡ length b
one_chain arenas None [] [] p q = refl
one_chain arenas None [] (m ∷ b) p q = absurd q
one_chain arenas None (l ∷ a) b p q = absurd p
one_chain arenas (Some id) [] b p q = absurd p
one_chain arenas (Some id) (l ∷ a) [] p q = absurd q
one_chain arenas (Some id) (l ∷ a) (m ∷ b) p q =
    let same : p.0 ≡ q.0 = slice_get_one arenas id p.0 q.0 p.1 q.1 in
    let rest : length a ≡ length b = one_chain arenas (q.0).source a b (subst (λ (z : TreeArena). ChainFrom arenas z.source a) same p.3) q.3 in
    omega (arith, rest)

source_before : (arenas : List TreeArena) (id p : ℕ) (x : TreeArena) (o : Option ℕ) → o ≡ Some p → IfSome o (ImportsFrom arenas id x) → p < id
source_before arenas id p x None is from = absurd (let e : None ≡ Some p = is in cc)
source_before arenas id p x (Some q) is from = (let same : q ≡ p = (let e : Some q ≡ Some p = is in cc) in subst (λ (n : ℕ). n < id) same from.0)

source_on : (arenas : List TreeArena) (y : TreeArena) (id : ℕ) (x : TreeArena) (o : Option ℕ) → IfSome o (ImportsFrom arenas id x) → IfSome o (ImportsFrom (arenas ++ y ∷ []) id x)
source_on arenas y id x None from = tt
source_on arenas y id x (Some p) from = (from.0, (from.1.0, stands_on arenas y p from.1.0 from.1.1, from.1.2))

-- one arena more
module _ (arenas : List TreeArena) (tree : IsTree arenas) (y : TreeArena) (is : IsArena arenas (length arenas) y) where
  abbrev more : List TreeArena
  more = arenas ++ y ∷ []

  chain_before : (from : Option ℕ) → ((p : ℕ) → from ≡ Some p → p < length arenas) → (chain : List Level) → ChainFrom more from chain → ChainFrom arenas from chain
  chain_before None low [] chain = tt
  chain_before None low (l ∷ up) chain = absurd chain
  chain_before (Some id) low [] chain = absurd chain
  chain_before (Some id) low (l ∷ up) (x, at, first, rest) = elim (pushed arenas id y x at) [
    | inl last ↦ absurd (omega (arith, last.0, low id refl))
    | inr there ↦ (
      x,
      there,
      first,
      chain_before x.source (λ p from. (let lt = source_before arenas id p x x.source from (tree.each id x there).source in let below = low id refl in omega (arith, lt, below))) up rest,
    )
  ]

  arena_on : (id : ℕ) (x : TreeArena) → IsArena arenas id x → IsArena more id x
  arena_on id x own = record { power = own.power; caches = own.caches; source = source_on arenas y id x x.source own.source; minimum = own.minimum }

  tree_more : length arenas < MOST_ARENAS → index_in y.name arenas ≡ None → ((up : List Level) → ChainFrom arenas y.source up → length up < LONGEST_CHAIN) → IsTree more
  tree_more room free short = record {
    few = (let n = length-append arenas (y ∷ []) in omega (arith, room, n));
    names = AllPairs-append (λ x z. x.name ≢ z.name) arenas (y ∷ []) tree.names (λ i j d before within. absurd (omega (arith, before, within)))
        (all_from (λ x. All (λ z. x.name ≢ z.name) (y ∷ [])) arenas (λ k x at. All-cons (λ z. x.name ≢ z.name) y [] (not_named y.name arenas free k x at) (All-nil (λ (z : TreeArena). x.name ≢ z.name))));
    each = λ id x at. elim (pushed arenas id y x at) [
      | inl here ↦ arena_on id x (subst (λ (z : TreeArena). IsArena arenas id z) (sym here.1) (subst (λ k. IsArena arenas k y) (sym here.0) is))
      | inr there ↦ arena_on id x (tree.each id x there)
    ];
    short = at_most;
  }
    where
      at_most : (id : ℕ) (chain : List Level) → ChainFrom more (Some id) chain → length chain ≤ LONGEST_CHAIN
      at_most id [] chain = absurd chain
      at_most id (l ∷ up) chain = elim (pushed arenas id y chain.0 chain.1) [
        | inl last ↦
            let above : ChainFrom more y.source up = subst (λ (z : TreeArena). ChainFrom more z.source up) last.1 chain.3 in
            let up_short = short up (chain_before y.source (λ p from. source_before arenas (length arenas) p y y.source from is.source) up above) in
            omega (arith, up_short)
        | inr there ↦
            let within = slice_get_within arenas id chain.0 there in
            tree.short id (l ∷ up) (chain_before (Some id) (λ p from. (let e : Some id ≡ Some p = from in let same : id ≡ p = cc in subst (λ (n : ℕ). n < length arenas) same within)) (l ∷ up) chain)
      ]

  owned_on : (spans : List OwnedSpan) → All (IsOwned arenas) spans → All (IsOwned more) spans
  owned_on spans all = all_from (IsOwned more) spans (λ k o at. let own = all_at (IsOwned arenas) spans k o all at in (own.0, record { here = stands_on arenas y o.arena own.0 own.1.here; root = own.1.root }, own.2))

-- what is so of what setup lines make
pub record IsMade (s : SetupState) : Type 0 where
  pub tree : IsTree s.arenas
  pub owned : All (IsOwned s.arenas) s.spans
  pub apart : AllPairs (λ a b. ¬ Clash a b) s.spans

-- a span more
apart_more : (spans : List OwnedSpan) (o : OwnedSpan) → AllPairs (λ a b. ¬ Clash a b) spans → HasNoClash spans o → AllPairs (λ a b. ¬ Clash a b) (spans ++ o ∷ [])
apart_more spans o apart clear = AllPairs-append (λ a b. ¬ Clash a b) spans (o ∷ []) apart (λ i j d before within. absurd (omega (arith, before, within)))
    (all_from (λ a. All (λ b. ¬ Clash a b) (o ∷ [])) spans (λ k a at. All-cons (λ b. ¬ Clash a b) o [] (all_at (λ b. ¬ Clash b o) spans k a clear at) (All-nil (λ (b : OwnedSpan). ¬ Clash a b))))

-- no span is of an arena that isn't there yet
fresh_clear : (arenas : List TreeArena) (spans : List OwnedSpan) (e : Extent) → All (IsOwned arenas) spans → HasNoClash spans (record { arena = length arenas; range = e })
fresh_clear arenas spans e all = all_from (λ a. ¬ Clash a (record { arena = length arenas; range = e })) spans (λ k a at clash.
    let own = all_at (IsOwned arenas) spans k a all at in
    let within = slice_get_within arenas a.arena own.0 own.1.here in
    let same = clash.0 in
    omega (arith, within, same))

root_is : (arenas : List TreeArena) (r : NewRoot) (new : List TreeArena) (adds : AddsRoot r arenas new) → IsArena arenas (length arenas) adds.arena
root_is arenas r new adds =
    let b = adds.becomes in
    subst (IsArena arenas (length arenas)) (sym b.is) (record { power = b.can.power; caches = b.caches; source = tt; minimum = λ none. refl })

child_is : (arenas : List TreeArena) (c : NewChild) (new : List TreeArena) (adds : AddsChild c arenas new) → IsArena arenas (length arenas) adds.arena
child_is arenas c new adds =
    let b = adds.becomes in
    let q = b.can.quantum in
    let from = b.source.1 in
    let same : q.1.0 ≡ adds.source = (let e : Some q.1.0 ≡ Some adds.source = sym q.1.2.finds ∙ from.finds in cc) in
    let here : slice_get arenas adds.source ≡ Some q.1.1 = ap (slice_get arenas) (sym same) ∙ q.1.2.here in
    let within = slice_get_within arenas adds.source q.1.1 here in
    subst (IsArena arenas (length arenas)) (sym b.is) (record {
      power = q.0;
      caches = b.caches;
      source = (within, (q.1.1, here, q.1.3));
      minimum = λ none. absurd (let e : Some adds.source ≡ None = none in cc);
    })

takes_root : (old new : SetupState) (r : NewRoot) → IsMade old → AddsRoot r old.arenas new.arenas → (new.spans ≡ old.spans ++ record { arena = length old.arenas; range = root_range r } ∷ []) → IsMade new
takes_root old new r made adds put =
    let y = adds.arena in
    let b = adds.becomes in
    let o : OwnedSpan = record { arena = length old.arenas; range = root_range r } in
    let more : List TreeArena = old.arenas ++ y ∷ [] in
    let source : y.source ≡ None = ap (λ (x : TreeArena). x.source) b.is in
    let name : index_in y.name old.arenas ≡ None = ap (λ (x : TreeArena). index_in x.name old.arenas) b.is ∙ b.can.room.0 in
    let whole : IsWholeRange y.quantum (root_range r) = subst (λ (x : TreeArena). IsWholeRange x.quantum (root_range r)) (sym b.is) b.can.range in
    let own : IsOwned more o = (y, record { here = stands_last old.arenas y; root = source }, whole) in
    record {
      tree = subst IsTree (sym adds.added) (tree_more old.arenas made.tree y (root_is old.arenas r new.arenas adds) b.can.room.1 name (λ up chain. no_chain up (subst (λ (from : Option ℕ). ChainFrom old.arenas from up) source chain)));
      owned = subst (λ (xs : List TreeArena). All (IsOwned xs) new.spans) (sym adds.added)
          (subst (λ (ss : List OwnedSpan). All (IsOwned more) ss) (sym put) (All-push (IsOwned more) old.spans o (owned_on old.arenas made.tree y (root_is old.arenas r new.arenas adds) old.spans made.owned) own));
      apart = subst (λ (ss : List OwnedSpan). AllPairs (λ a b. ¬ Clash a b) ss) (sym put) (apart_more old.spans o made.apart (fresh_clear old.arenas old.spans (root_range r) made.owned));
    }
  where
    no_chain : (up : List Level) → ChainFrom old.arenas None up → length up < LONGEST_CHAIN
    no_chain [] chain = omega arith
    no_chain (l ∷ up) chain = absurd chain

takes_child : (old new : SetupState) (c : NewChild) → IsMade old → AddsChild c old.arenas new.arenas → new.spans ≡ old.spans → IsMade new
takes_child old new c made adds put =
    let y = adds.arena in
    let b = adds.becomes in
    let more : List TreeArena = old.arenas ++ y ∷ [] in
    let is = child_is old.arenas c new.arenas adds in
    let source : y.source ≡ Some adds.source = ap (λ (x : TreeArena). x.source) b.is in
    let name : index_in y.name old.arenas ≡ None = ap (λ (x : TreeArena). index_in x.name old.arenas) b.is ∙ b.can.room.0 in
    let short = b.source.1.short in
    let at_most : (up : List Level) → ChainFrom old.arenas y.source up → length up < LONGEST_CHAIN = λ up chain.
    let one = one_chain old.arenas (Some adds.source) up short.0 (subst (λ (from : Option ℕ). ChainFrom old.arenas from up) source chain) short.1 in
    omega (arith, one, short.2) in
    record {
      tree = subst IsTree (sym adds.added) (tree_more old.arenas made.tree y is b.can.room.1 name at_most);
      owned = subst (λ (xs : List TreeArena). All (IsOwned xs) new.spans) (sym adds.added) (subst (λ (ss : List OwnedSpan). All (IsOwned more) ss) (sym put) (owned_on old.arenas made.tree y is old.spans made.owned));
      apart = subst (λ (ss : List OwnedSpan). AllPairs (λ a b. ¬ Clash a b) ss) (sym put) made.apart;
    }

takes_span : (old new : SetupState) (n : NewSpan) → IsMade old → AddsSpan n old new → IsMade new
takes_span old new n made adds =
    let o : OwnedSpan = record { arena = adds.id; range = record { base = n.base; len = n.len } } in
    let own : IsOwned old.arenas o = (adds.arena, adds.room.root, adds.can.0) in
    record {
      tree = subst IsTree (sym adds.arenas) made.tree;
      owned = subst (λ (xs : List TreeArena). All (IsOwned xs) new.spans) (sym adds.arenas) (subst (λ (ss : List OwnedSpan). All (IsOwned old.arenas) ss) (sym adds.spans) (All-push (IsOwned old.arenas) old.spans o made.owned own));
      apart = subst (λ (ss : List OwnedSpan). AllPairs (λ a b. ¬ Clash a b) ss) (sym adds.spans) (apart_more old.spans o made.apart adds.can.1);
    }

taken_made : (old new : SetupState) (setting : SetupLine) → TakesSetupLine old setting new → IsMade old → IsMade new
taken_made old new (Root r) takes made = takes_root old new _ made takes.0 takes.1
taken_made old new (Child c) takes made = takes_child old new _ made takes.0 takes.1
taken_made old new (Span s) takes made = takes_span old new _ made takes

all_made : (lines : List (List ℕ)) (old new : SetupState) → Makes TakesSetupLine old lines new → IsMade old → IsMade new
all_made [] old new same made = subst IsMade (sym same) made
all_made (line ∷ lines) old new (setting, mid, read, takes, rest) made = all_made lines mid new rest (taken_made old mid setting takes made)

none_made : IsMade no_arenas
none_made = record {
  tree = record {
    few = omega arith;
    names = λ i j d before within. absurd (omega (arith, within));
    each = λ id x at. absurd (let e : None ≡ Some x = at in cc);
    short = no_chain;
  };
  owned = All-nil (IsOwned []);
  apart = λ i j d before within. absurd (omega (arith, within));
}
  where
    no_chain : (id : ℕ) (chain : List Level) → ChainFrom [] (Some id) chain → length chain ≤ LONGEST_CHAIN
    no_chain id [] chain = absurd chain
    no_chain id (l ∷ up) chain = absurd (let e : None ≡ Some chain.0 = chain.1 in cc)

pub setups_open_pictures : SetupsOpenPictures
setups_open_pictures lines made desk makes opened =
    let is = all_made lines no_arenas made makes none_made in
    opened_is_picture made desk is.tree is.owned is.apart opened

-- so is the one that a script begins with
pub script_begins : (last : Picture) (s : Script last) → IsPicture s.desk
script_begins last s = setups_open_pictures s.setup s.made s.desk s.makes s.opened
