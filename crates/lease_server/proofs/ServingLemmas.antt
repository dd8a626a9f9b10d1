-- Lemmas on what is written for frames, one stretch after another.
use Rattle.std.proofs.Common.{◌≡◌, ℕ, List, [], ◌∷◌, ◌++◌, take, refl, sym, ◌∙◌, ap, subst, append_assoc, length, drop, ◌-◌, take-append-drop, Ok, Err, Option, Some, None, IfSome, Result, OnOk, OnErr}
use Rattle.std.proofs.lemmas.List.{append-nil, take_rest}
use Rattle.std.specs.Io.KnownBytes.{Consumes, IsAtEnd}
use Rattle.std.proofs.KnownBytes.{Appends-trans, Consumes-all, Consumes-trans}
use Rattle.lease_proto.specs.declared.limits.TheConstants.{LINE_ROOM}
use Rattle.lease_proto.specs.Frames.{Frame, frames_in, rest_in, frames_of, frames_of_rest}
use Rattle.lease_proto.specs.declared.faults.LineFault.{LineFault}
use Rattle.lease_proto.specs.Faults.{error_line}
use Rattle.lease_proto.proofs.LawProofs.{frames_in-take, rest_in-take, frames_of_rest-take, frames_in-append}
use Rattle.lease_proto.specs.Serving.{ServesLines}
use Rattle.lease_server.specs.Serving.{SameFront, WritesFront, Answers, AnswersBefore, HasAnswered, Writes, WritesBefore, Stops}

module _ {S : Type 0} (may_answer : S → List ℕ → List ℕ → S → Type 0) where
  -- one run after another
  pub ServesLines-append : (fs gs : List Frame) (old mid new : S) (text more : List ℕ)
      → ServesLines may_answer old fs text mid → ServesLines may_answer mid gs more new → ServesLines may_answer old (fs ++ gs) (text ++ more) new
  ServesLines-append [] gs old mid new text more p q =
      let joined : text ++ more ≡ more = ap (λ t. t ++ more) p.0 in
      subst (λ t. ServesLines may_answer old gs t new) (sym joined) (subst (λ s. ServesLines may_answer s gs more new) p.1 q)
  ServesLines-append (Ok line ∷ fs) gs old mid new text more p q =
      (p.0, p.1 ++ more, p.2, p.3, ap (λ t. t ++ more) p.4 ∙ append_assoc p.0 p.1 more, ServesLines-append fs gs p.2 mid new p.1 more p.5 q)
  ServesLines-append (Err fault ∷ fs) gs old mid new text more p q =
      (p.0 ++ more, ap (λ t. t ++ more) p.1 ∙ append_assoc (error_line fault) p.0 more, ServesLines-append fs gs old mid new p.0 more p.2 q)

  pub Writes-append : (fs gs : List Frame) (old mid new : S) (a b c : Option (List ℕ))
      → Writes may_answer old fs a b mid → Writes may_answer mid gs b c new → Writes may_answer old (fs ++ gs) a c new
  Writes-append fs gs old mid new a b c p q =
      (p.0 ++ q.0, ServesLines-append fs gs old mid new p.0 q.0 p.1 q.1, Appends-trans a b c p.0 q.0 p.2 q.2)

  pub Stops-after : (fs gs : List Frame) (old mid : S) (a b c : Option (List ℕ))
      → Writes may_answer old fs a b mid → Stops may_answer mid gs b c → Stops may_answer old (fs ++ gs) a c
  Stops-after fs gs old mid a b c p q =
      let (served, later, parts, part) = q in
      let (new, written, unwritten, serves, appends) = part in (
        fs ++ served,
        later,
        ap (λ t. fs ++ t) parts ∙ sym (append_assoc fs served later),
        (
          new,
          p.0 ++ written,
          unwritten,
          subst (λ t. ServesLines may_answer old (fs ++ served) t new) (sym (append_assoc p.0 written unwritten))
              (ServesLines-append fs served old mid new p.0 (written ++ unwritten) p.1 serves),
          Appends-trans a b c p.0 written p.2 appends,
        ),
      )

  pub Stops-more : (fs gs : List Frame) (old : S) (a b : Option (List ℕ)) → Stops may_answer old fs a b → Stops may_answer old (fs ++ gs) a b
  Stops-more fs gs old a b q =
      (q.0, q.1 ++ gs, ap (λ t. t ++ gs) q.2 ∙ append_assoc q.0 q.1 gs, q.3)

  -- a front of the last answer was written
  pub Stops-within : (fs : List Frame) (old new : S) (text : List ℕ) (a b : Option (List ℕ)) → ServesLines may_answer old fs text new
      → WritesFront text a b → Stops may_answer old fs a b
  Stops-within fs old new text a b p q =
      (fs, [], sym (append-nil fs), (new, q.0, q.1, subst (λ t. ServesLines may_answer old fs t new) q.2 p, q.3))

  -- what a refused line is answered
  pub ServesLines-fault : (old : S) (fault : LineFault) (text : List ℕ) → text ≡ error_line fault → ServesLines may_answer old (Err fault ∷ []) text old
  ServesLines-fault old fault text e = ([], e ∙ sym (append-nil (error_line fault)), (refl, refl))

  pub Answers-append : (fs gs : List Frame) (old mid new : S) (a b c : List ℕ)
      → Answers may_answer old fs a b mid → Answers may_answer mid gs b c new → Answers may_answer old (fs ++ gs) a c new
  Answers-append fs gs old mid new a b c p q =
      (p.0 ++ q.0, ServesLines-append fs gs old mid new p.0 q.0 p.1 q.1, q.2 ∙ ap (λ t. t ++ q.0) p.2 ∙ append_assoc a p.0 q.0)

  -- whether all were answered or not, some were
  pub has_answered : {E : Type 0} (r : Result (Unit {0}) E) (fs : List Frame) (old new : S) (a b : List ℕ)
      → OnOk r (Answers may_answer old fs a b new) → OnErr r (AnswersBefore may_answer old fs a b new) → HasAnswered may_answer old new
  has_answered (Ok u) fs old new a b all some = (fs, all.0, all.1)
  has_answered (Err e) fs old new a b all some =
      let (served, refused, later, split, answers) = some in (served, answers.0, answers.1)

  -- some were, and then some more
  pub HasAnswered-after : (fs : List Frame) (old mid new : S) (a b : Option (List ℕ))
      → Writes may_answer old fs a b mid → HasAnswered may_answer mid new → HasAnswered may_answer old new
  HasAnswered-after fs old mid new a b p q =
      (fs ++ q.0, p.0 ++ q.1, ServesLines-append fs q.0 old mid new p.0 q.1 p.1 q.2)

  -- answers to the first of these frames
  abbrev pub AnswersSome : S → List Frame → List ℕ → List ℕ → Type 0
  AnswersSome old frames before after = (served : List Frame) × (later : List Frame) × (new : S)
      × (frames ≡ served ++ later) × Answers may_answer old served before after new

  -- whether all were answered or not, the first of them were
  pub Answers-some : {E : Type 0} (r : Result (Unit {0}) E) (fs : List Frame) (old new : S) (a b : List ℕ)
      → OnOk r (Answers may_answer old fs a b new) → OnErr r (AnswersBefore may_answer old fs a b new) → AnswersSome old fs a b
  Answers-some (Ok u) fs old new a b all some = (fs, [], new, sym (append-nil fs), all)
  Answers-some (Err e) fs old new a b all some =
      let (served, refused, later, split, answers) = some in (served, refused ∷ later, new, split, answers)

  -- the same, written to a front of it
  pub Stops-of_some : (fs : List Frame) (old : S) (bytes : List ℕ) (a b : Option (List ℕ))
      → AnswersSome old fs [] bytes → WritesFront bytes a b → Stops may_answer old fs a b
  Stops-of_some fs old bytes a b p q =
      let (served, later, new, split, answers) = p in
      let (text, serves, is) = answers in
      let (written, unwritten, parts, appends) = q in
      (served, later, split, (new, written, unwritten, subst (λ t. ServesLines may_answer old served t new) (sym is ∙ parts) serves, appends))

  -- the first of these answers, and then those before one that wasn't given
  pub WritesBefore-after : (fs gs : List Frame) (old mid new : S) (a b c : Option (List ℕ))
      → Writes may_answer old fs a b mid → WritesBefore may_answer mid gs b c new → WritesBefore may_answer old (fs ++ gs) a c new
  WritesBefore-after fs gs old mid new a b c p q =
      let (served, refused, later, split, writes) = q in (
        fs ++ served,
        refused,
        later,
        ap (λ t. fs ++ t) split ∙ sym (append_assoc fs served (refused ∷ later)),
        Writes-append fs served old mid new a b c p writes,
      )

-- lines of which the same is known
pub frames_in-same : (xs ys bs : List ℕ) → SameFront xs ys → frames_in xs bs ≡ frames_in ys bs
frames_in-same xs ys bs e = sym (frames_in-take xs bs) ∙ ap (λ l. frames_in l bs) e ∙ frames_in-take ys bs

pub rest_in-same : (xs ys bs : List ℕ) → SameFront xs ys → SameFront (rest_in xs bs) (rest_in ys bs)
rest_in-same xs ys bs e = sym (rest_in-take xs bs) ∙ ap (λ l. take LINE_ROOM (rest_in l bs)) e ∙ rest_in-take ys bs

pub frames_of_rest-same : (xs ys : List ℕ) → SameFront xs ys → frames_of_rest xs ≡ frames_of_rest ys
frames_of_rest-same xs ys e = sym (frames_of_rest-take xs) ∙ ap frames_of_rest e ∙ frames_of_rest-take ys

-- a front of a list that stands behind another
pub moves_front : (all done rest : List ℕ) (n : ℕ) → all ≡ done ++ rest → all ≡ (done ++ take n rest) ++ take (length rest - n) (drop n rest)
moves_front all done rest n e =
    e ∙ ap (λ l. done ++ l) (sym (take-append-drop n rest)) ∙ sym (append_assoc done (take n rest) (drop n rest))
    ∙ ap (λ l. (done ++ take n rest) ++ l) (sym (take_rest rest n))

known : (a : Option (List ℕ)) (input : List ℕ) (P : List ℕ → Type 0) → IfSome a (λ xs. input ≡ xs) → P input → IfSome a P
known None input P e holds = tt
known (Some xs) input P e holds = subst P e holds

-- what holds of the bytes read holds of all that a reader at its end had
pub of_all : (a b d : Option (List ℕ)) (input taken : List ℕ) (P : List ℕ → Type 0) → Consumes a b input → Consumes b d taken → taken ≡ []
    → IsAtEnd d → P input → IfSome a P
of_all a b d input taken P p q none end holds =
    let all = Consumes-all a d (input ++ taken) [] (input ++ taken) (Consumes-trans a b d input taken p q) end refl in
    known a (input ++ taken) P all (subst P (sym (ap (λ t. input ++ t) none ∙ append-nil input)) holds)

-- what holds of the bytes read, however they go on, holds of all that the reader had
pub of_front : (a b : Option (List ℕ)) (input : List ℕ) (P : List ℕ → Type 0) → Consumes a b input → ((left : List ℕ) → P (input ++ left)) → IfSome a P
of_front None b input P p holds = tt
of_front (Some xs) None input P p holds = absurd p
of_front (Some xs) (Some ys) input P p holds = subst P (sym p) (holds ys)

-- the frames of a front come first
pub frames_of-append : (input left : List ℕ)
    → frames_of (input ++ left) ≡ frames_in [] input ++ (frames_in (rest_in [] input) left ++ frames_of_rest (rest_in [] (input ++ left)))
frames_of-append input left =
    ap (λ f. f ++ frames_of_rest (rest_in [] (input ++ left))) (frames_in-append [] input left)
    ∙ append_assoc (frames_in [] input) (frames_in (rest_in [] input) left) (frames_of_rest (rest_in [] (input ++ left)))
