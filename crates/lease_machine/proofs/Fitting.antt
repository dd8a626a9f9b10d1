-- What is granted fits what was asked.
use Rattle.std.proofs.Common.{◌≡◌, ℕ, refl, sym, subst, ap, ◌∙◌, inl, inr, List, [], ◌∷◌, true, Option, Some, None, arith, slice_get, get_or, suc, zero}
use Rattle.std.specs.List.{AllByRecursion}
use Rattle.std.specs.Str.{bytes_eq}
use Rattle.std.proofs.lemmas.List.Quantifiers.{position-Some}
use Rattle.std.proofs.lemmas.Option.{get_or_from_slice_get}
use Rattle.std.proofs.lemmas.Slice.Eq.{bytes_eq-Decides}
use Rattle.deed_core.specs.Request.{Fits}
use Rattle.arena_tree.specs.declared.trees.TreeArena.{TreeArena}
use Rattle.arena_tree.specs.Trees.{index_in}
use Rattle.lease_terms.specs.Requests.{RequestId}
use Rattle.lease_proto.specs.declared.lines.Line.TheVariants as lines
use Rattle.lease_proto.specs.declared.lines.Op.TheVariants as ops
use Rattle.lease_proto.specs.declared.replies.Reply.{Reply}
use Rattle.lease_proto.specs.declared.replies.Reply.TheVariants as reply
use Rattle.lease_proto.specs.declared.replies.Granted.{Granted}
use Rattle.lease_proto.specs.Requests.{demand_of}
use Rattle.lease_book.specs.Entry.{Entry, Settlement, Settled, Grant, Return, Refuse, kept_settlement}
use Rattle.lease_book.specs.Receipts.{Kept, IsEarned}
use Rattle.lease_book.specs.History.{outcome_of}
use Rattle.lease_book.specs.BookState.{account_in}
use Rattle.lease_book.specs.Answers.{IsNew}
use Rattle.lease_book.specs.declared.receipts.KeptReply.{KeptReply}
use Rattle.lease_book.specs.declared.receipts.KeptReply.TheVariants as replies
use Rattle.lease_book.specs.declared.receipts.Terms.{Terms}
use Rattle.lease_book.proofs.LawProofs.{outcomes_stay, outcome_earned}
use Rattle.lease_machine.specs.Picture.{Picture, Finds, IsEnteredIn, IsSettledIn}
use Rattle.arena_tree.specs.Trees.{arena_named, name_or_none}
use Rattle.lease_machine.specs.Machine.{NewLease, Grants}
use Rattle.lease_machine.specs.AnswerLaws.{FitsLine, GrantsFit, IsFitting, KeptGrantsFit}
use Rattle.lease_machine.proofs.Repeats.{request_answer}
use Rattle.lease_machine.proofs.Naming.{answer_names, line_is}
use Rattle.lease_machine.proofs.Numbers.{kept_outcome}
use Rattle.lease_history.specs.Told.{IsKnownReply, IsKeptReply}

-- a number that is new isn't known
pub not_known : (d : Picture) (id : RequestId) (r : Reply) → IsNew (account_in id.client d.book) id → IsKnownReply (arena_named d.tree) d.book id r → ⊥
not_known d id r fresh known = by r known
  where
    at : (x : Reply) → IsKeptReply (arena_named d.tree) d.book id x → ⊥
    at x known = cc (sym fresh.unsettled ∙ known.1.kept)

    by : (x : Reply) → IsKnownReply (arena_named d.tree) d.book id x → ⊥
    by (reply.Old o) known = known.1.other fresh.current
    by (reply.Stale o) known = omega (arith, fresh.above, known.1.last, known.1.below)
    by (reply.Gap o) known = omega (arith, fresh.within, known.1.reached, known.1.above)
    by (reply.Granted x) known = at (reply.Granted x) known
    by (reply.Released x) known = at (reply.Released x) known
    by (reply.Refused x) known = at (reply.Refused x) known
    by (reply.Welcome x) known = at (reply.Welcome x) known
    by (reply.Again x) known = at (reply.Again x) known
    by (reply.Error x) known = at (reply.Error x) known

-- the arena that is found has the name
pub found_named : (tree : List TreeArena) (name : List ℕ) (index : ℕ) (x : TreeArena) → index_in name tree ≡ Some index → slice_get tree index ≡ Some x → x.name ≡ name
found_named tree name index x first at =
    let passes : bytes_eq (get_or tree index x).name name ≡ true = (position-Some (λ (z : TreeArena). bytes_eq z.name name) tree index x first).1 in
    let here : get_or tree index x ≡ x = get_or_from_slice_get tree index x x at in
    sym (ap (λ (z : TreeArena). z.name) here) ∙ (bytes_eq-Decides (get_or tree index x).name name).0 passes

pub granted_fits : (old new : Picture) (id : RequestId) (l : _) (g : Granted) → Grants id l old new (reply.Granted g) → FitsLine old l (reply.Granted g)
granted_fits old new id l g does =
    let t = does.segment in
    let is : reply.Granted g ≡ reply.Granted (record { id = id; arena = arena_named old.tree t.arena; base = t.holding.range.base; len = t.holding.range.len }) = does.reply in
    let same : g ≡ record { id = id; arena = arena_named old.tree t.arena; base = t.holding.range.base; len = t.holding.range.len } = cc in
    let finds : Finds old l.arena does.index does.arena = does.takes.finds in
    let name : arena_named old.tree t.arena ≡ l.arena =
    ap (λ (k : ℕ). arena_named old.tree k) does.serves.arena ∙ ap name_or_none finds.here ∙ found_named old.tree l.arena does.index does.arena finds.first finds.here in
    let base : g.base ≡ t.holding.range.base = ap (λ (x : Granted). x.base) same in
    let len : g.len ≡ t.holding.range.len = ap (λ (x : Granted). x.len) same in
    let fits : Fits does.arena.quantum (demand_of l) t.holding.range.base t.holding.range.len = does.serves.fits in (
      ap (λ (x : Granted). x.arena) same ∙ name,
      (
        does.index,
        does.arena,
        finds,
        subst (λ (b : ℕ). Fits does.arena.quantum (demand_of l) b g.len) (sym base) (subst (Fits does.arena.quantum (demand_of l) t.holding.range.base) (sym len) fits),
      ),
    )

new_fits : (old new : Picture) (id : RequestId) (l : _) (r : Reply) → NewLease id l old new r → FitsLine old l r
new_fits old new id l (reply.Granted g) does = granted_fits old new id l g does
new_fits old new id l (reply.Refused x) does = tt
new_fits old new id l (reply.Again x) does = tt
new_fits old new id l (reply.Released x) does = tt
new_fits old new id l (reply.Old x) does = tt
new_fits old new id l (reply.Stale x) does = tt
new_fits old new id l (reply.Gap x) does = tt
new_fits old new id l (reply.Welcome x) does = tt
new_fits old new id l (reply.Error x) does = tt

pub grants_fit : GrantsFit
grants_fit old new id l line text is read fresh step =
    let a = request_answer old new id (ops.Lease l) line text read step in (
      a.0,
      a.1,
      answer_names id (ops.Lease l) old new a.0 (line_is line (lines.Request id (ops.Lease l)) read).0.number.0 a.2,
      elim a.2 [
        | inl known ↦ absurd (not_known old id a.0 fresh known.0)
        | inr does ↦ new_fits old new id l a.0 does.1
      ],
    )

-- what holds of each holds of one
each_at : {X : Type 0} (P : X → Type 0) (xs : List X) (j : ℕ) (x : X) → AllByRecursion P xs → slice_get xs j ≡ Some x → P x
each_at P [] j x all at = absurd (let e : None ≡ Some x = at in cc)
each_at P (y ∷ ys) zero x all at = (let e : Some y ≡ Some x = at in let same : y ≡ x = cc in subst P same all.0)
each_at P (y ∷ ys) (suc j) x all at = each_at P ys j x all.1 at

settled_fits : (d : Picture) (n : ℕ) (s : Settlement) (k : Kept) → k ≡ kept_settlement n s → IsSettledIn d.tree s → IsEarned k.reply k.terms → IsFitting d k
settled_fits d n (Grant t terms) k is home earned arena base len granted =
    let replied : replies.Granted arena base len ≡ replies.Granted t.arena t.holding.range.base t.holding.range.len = sym granted ∙ ap (λ (x : Kept). x.reply) is in
    let at_arena : arena ≡ t.arena = cc in
    let has : k.terms ≡ Some terms = ap (λ (x : Kept). x.terms) is in
    let fits : Fits terms.quantum terms.request base len = subst (λ (o : Option Terms). IsEarned (replies.Granted arena base len) o) has (subst (λ (y : KeptReply). IsEarned y k.terms) granted earned) in (
      home.0,
      terms,
      ap (slice_get d.tree) at_arena ∙ home.1,
      has,
      home.2,
      subst (λ (q : ℕ). Fits q terms.request base len) home.2 fits,
    )
settled_fits d n (Return a b) k is home earned arena base len granted = absurd (let e : replies.Granted arena base len ≡ replies.Released a b = sym granted ∙ ap (λ (x : Kept). x.reply) is in cc)
settled_fits d n (Refuse why) k is home earned arena base len granted = absurd (let e : replies.Granted arena base len ≡ replies.Refused why = sym granted ∙ ap (λ (x : Kept). x.reply) is in cc)

pub kept_grants_fit : KeptGrantsFit
kept_grants_fit d c n k is kept_is =
    let es : List Entry = is.book.entries in
    let id : RequestId = record { client = c; incarnation = (account_in c d.book).incarnation; number = n } in
    let outcome : outcome_of id es ≡ Some k = kept_outcome es d.book id is.book.history refl k kept_is in
    let entry = outcomes_stay.entry es id k outcome in
    settled_fits
    d
    id.number
    entry.0
    k
    entry.3
    (each_at (IsEnteredIn d.tree) es entry.1 (Settled id entry.0) is.book.possible entry.2)
    (outcome_earned es id k is.book.history.orderly outcome)
