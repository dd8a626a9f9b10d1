-- What an audit tells of one arena after another.
use Rattle.std.proofs.Common.{◌≡◌, ℕ, suc, zero, refl, sym, ap, ◌∙◌, List, [], ◌∷◌, ◌++◌, length, Some, None, arith}
use Rattle.std.specs.Prelude.{slice_get}
use Rattle.std.proofs.lemmas.List.{append-nil, append_assoc}
use Rattle.arena_tree.specs.declared.trees.TreeArena.{TreeArena}
use Rattle.stock.specs.Spaces.{SpaceState}
use Rattle.lease_proto.specs.Reports.{audit_text}
use Rattle.lease_machine.specs.Operators.{audit_line, audit_texts_of, sums_in}
use Rattle.lease_machine.specs.Picture.{Picture}

-- the lines of the first n arenas
abbrev pub first_told : Picture → ℕ → List TreeArena → List SpaceState → List ℕ
first_told d zero tree spaces = []
first_told d (suc n) [] spaces = []
first_told d (suc n) (x ∷ tree) [] = []
first_told d (suc n) (x ∷ tree) (s ∷ spaces) = audit_text (audit_line x.name (sums_in d s)) ++ first_told d n tree spaces

pub told_more : (d : Picture) (n : ℕ) (tree : List TreeArena) (spaces : List SpaceState) (x : TreeArena) (s : SpaceState) → slice_get tree n ≡ Some x → slice_get spaces n ≡ Some s
    → first_told d (suc n) tree spaces ≡ first_told d n tree spaces ++ audit_text (audit_line x.name (sums_in d s))
told_more d n [] spaces x s at here = absurd (let e : None ≡ Some x = at in cc)
told_more d n (y ∷ tree) [] x s at here = absurd (let e : None ≡ Some s = here in cc)
told_more d zero (y ∷ tree) (z ∷ spaces) x s at here =
    let e : Some y ≡ Some x = at in
    let f : Some z ≡ Some s = here in
    let arena : y ≡ x = cc in
    let space : z ≡ s = cc in
    append-nil (audit_text (audit_line y.name (sums_in d z))) ∙ (ap (λ (a : TreeArena). audit_text (audit_line a.name (sums_in d z))) arena ∙ ap (λ (b : SpaceState). audit_text (audit_line x.name (sums_in d b))) space)
told_more d (suc n) (y ∷ tree) (z ∷ spaces) x s at here =
    ap (λ (ls : List ℕ). audit_text (audit_line y.name (sums_in d z)) ++ ls) (told_more d n tree spaces x s at here)
    ∙ sym (append_assoc (audit_text (audit_line y.name (sums_in d z))) (first_told d n tree spaces) (audit_text (audit_line x.name (sums_in d s))))

pub told_all : (d : Picture) (n : ℕ) (tree : List TreeArena) (spaces : List SpaceState) → n ≡ length tree → first_told d n tree spaces ≡ audit_texts_of d tree spaces
told_all d zero [] spaces whole = refl
told_all d zero (x ∷ tree) spaces whole = absurd (omega (arith, whole))
told_all d (suc n) [] spaces whole = refl
told_all d (suc n) (x ∷ tree) [] whole = refl
told_all d (suc n) (x ∷ tree) (s ∷ spaces) whole = ap (λ (ls : List ℕ). audit_text (audit_line x.name (sums_in d s)) ++ ls) (told_all d n tree spaces (omega (arith, whole)))
