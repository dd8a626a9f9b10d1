-- Which bytes are a reply, and what a reply is written with.
use Rattle.std.specs.Prelude.{◌↔◌, ◌≡◌, ℕ, true, List, [], ◌∷◌, ◌++◌, if◌then◌else◌, Result, Ok}
use Rattle.std.specs.Prelude.{Err, codes, decimal}
use Rattle.std.specs.Str.{bytes_eq}
use Rattle.lease_terms.specs.declared.refusals.Refusal.{Refusal}
use Rattle.lease_terms.specs.declared.refusals.Refusal.TheVariants.{NoFit, BadRequest, NoArena}
use Rattle.lease_terms.specs.declared.refusals.Refusal.TheVariants.{NotYours, Leases}
use Rattle.lease_terms.specs.Names.{is_name}
use Rattle.lease_terms.specs.Ranges.{IsClient, IsOrdinal, IsQuantity}
use Rattle.lease_terms.specs.Requests.{RequestId, IsRequestId}
use Rattle.lease_proto.specs.declared.faults.LineFault.{LineFault}
use Rattle.lease_proto.specs.declared.faults.LineFault.TheVariants.{BadLine, Word}
use Rattle.lease_proto.specs.declared.faults.ErrorWord.{ErrorWord}
use Rattle.lease_proto.specs.declared.replies.Reply.{Reply}
use Rattle.lease_proto.specs.declared.replies.Reply.TheVariants as replies
use Rattle.lease_proto.specs.declared.replies.Welcome.{Welcome}
use Rattle.lease_proto.specs.declared.replies.Granted.{Granted}
use Rattle.lease_proto.specs.declared.replies.RefusedRequest.{RefusedRequest}
use Rattle.lease_proto.specs.declared.replies.Old.{Old}
use Rattle.lease_proto.specs.declared.replies.OutOfTurn.{OutOfTurn}
use Rattle.lease_proto.specs.declared.replies.Again.{Again}
use Rattle.lease_proto.specs.Faults.{error_word_in, error_word}
use Rattle.lease_proto.specs.Frames.{IsWholeLine}
use Rattle.lease_proto.specs.Values.{◌>>=◌, words_of, client_in, ordinal_in, quantity_in, id_in}
use Rattle.lease_proto.specs.Values.{name_in}
use Rattle.lease_proto.specs.Grammar.{word_at, end_at, id_at, protocol_in}
use Rattle.lease_proto.specs.Texts.{id_words, protocol_words, sentence}

abbrev pub refusal_word : Refusal → List ℕ
refusal_word NoFit = codes "nofit"
refusal_word BadRequest = codes "badrequest"
refusal_word NoArena = codes "noarena"
refusal_word NotYours = codes "notyours"
refusal_word Leases = codes "leases"

-- the refusal that a word is
abbrev pub refusal_in : List ℕ → Result Refusal LineFault
refusal_in word =
    if bytes_eq word (codes "nofit") then Ok NoFit
    else if bytes_eq word (codes "badrequest") then Ok BadRequest
    else if bytes_eq word (codes "noarena") then Ok NoArena
    else if bytes_eq word (codes "notyours") then Ok NotYours
    else if bytes_eq word (codes "leases") then Ok Leases
    else Err BadLine

-- `welcome C I`, and `welcome C I 2`: the words after the first
unfoldable pub welcome_in : List (List ℕ) → Result Welcome LineFault
welcome_in words = do
  client ← word_at words
  incarnation ← word_at client.1
  p ← protocol_in incarnation.1
  c ← client_in client.0
  i ← ordinal_in incarnation.0
  Ok (record { client = c; incarnation = i; protocol = p })

-- `granted C I N NAME BASE LEN`
unfoldable pub granted_in : List (List ℕ) → Result Granted LineFault
granted_in words = do
  id ← id_at words
  name ← word_at id.1
  arena ← name_in name.0
  base ← word_at name.1
  len ← word_at base.1
  end ← end_at len.1
  request ← id_in id.0
  b ← quantity_in base.0
  l ← quantity_in len.0
  Ok (record { id = request; arena = arena; base = b; len = l })

-- `released C I N`
unfoldable pub released_in : List (List ℕ) → Result RequestId LineFault
released_in words = do
  id ← id_at words
  end ← end_at id.1
  id_in id.0

-- `refused C I N WORD`
unfoldable pub refused_in : List (List ℕ) → Result RefusedRequest LineFault
refused_in words = do
  id ← id_at words
  word ← word_at id.1
  refusal ← refusal_in word.0
  end ← end_at word.1
  request ← id_in id.0
  Ok (record { id = request; refusal = refusal })

-- `old C V`
unfoldable pub old_in : List (List ℕ) → Result Old LineFault
old_in words = do
  client ← word_at words
  current ← word_at client.1
  end ← end_at current.1
  c ← client_in client.0
  v ← quantity_in current.0
  Ok (record { client = c; current = v })

-- `stale C I N V` and `gap C I N V`
unfoldable pub out_of_turn_in : List (List ℕ) → Result OutOfTurn LineFault
out_of_turn_in words = do
  id ← id_at words
  last ← word_at id.1
  end ← end_at last.1
  request ← id_in id.0
  v ← quantity_in last.0
  Ok (record { id = request; last = v })

-- `again C I N`
unfoldable pub again_in : List (List ℕ) → Result Again LineFault
again_in words = do
  client ← word_at words
  incarnation ← word_at client.1
  number ← word_at incarnation.1
  end ← end_at number.1
  c ← client_in client.0
  i ← ordinal_in incarnation.0
  n ← quantity_in number.0
  Ok (record { client = c; incarnation = i; number = n })

-- `error WORD`
unfoldable pub error_in : List (List ℕ) → Result ErrorWord LineFault
error_in words = do
  word ← word_at words
  error ← error_word_in word.0
  end ← end_at word.1
  Ok error

-- the reply that words are
unfoldable pub reply_in : List (List ℕ) → Result Reply LineFault
reply_in [] = Err Word
reply_in (first ∷ words) =
    if bytes_eq first (codes "welcome") then (welcome_in words >>= λ r. Ok (replies.Welcome r))
    else if bytes_eq first (codes "granted") then (granted_in words >>= λ r. Ok (replies.Granted r))
    else if bytes_eq first (codes "released")
    then (released_in words >>= λ id. Ok (replies.Released id))
    else if bytes_eq first (codes "refused") then (refused_in words >>= λ r. Ok (replies.Refused r))
    else if bytes_eq first (codes "old") then (old_in words >>= λ r. Ok (replies.Old r))
    else if bytes_eq first (codes "stale") then (out_of_turn_in words >>= λ r. Ok (replies.Stale r))
    else if bytes_eq first (codes "gap") then (out_of_turn_in words >>= λ r. Ok (replies.Gap r))
    else if bytes_eq first (codes "again") then (again_in words >>= λ r. Ok (replies.Again r))
    else if bytes_eq first (codes "error") then (error_in words >>= λ r. Ok (replies.Error r))
    else Err Word

-- the reply that bytes are, or the first reason why they are none
unfoldable pub reply_of : List ℕ → Result Reply LineFault
reply_of bytes = words_of bytes >>= reply_in

abbrev pub first_reply_word : Reply → List ℕ
first_reply_word (replies.Welcome r) = codes "welcome"
first_reply_word (replies.Granted r) = codes "granted"
first_reply_word (replies.Released r) = codes "released"
first_reply_word (replies.Refused r) = codes "refused"
first_reply_word (replies.Old r) = codes "old"
first_reply_word (replies.Stale r) = codes "stale"
first_reply_word (replies.Gap r) = codes "gap"
first_reply_word (replies.Again r) = codes "again"
first_reply_word (replies.Error error) = codes "error"

-- the words after the first
abbrev pub welcome_words : Welcome → List (List ℕ)
welcome_words r = decimal r.client ∷ decimal r.incarnation ∷ protocol_words r.protocol

abbrev pub granted_words : Granted → List (List ℕ)
granted_words r = id_words r.id ++ (r.arena ∷ decimal r.base ∷ decimal r.len ∷ [])

abbrev pub refused_words : RefusedRequest → List (List ℕ)
refused_words r = id_words r.id ++ (refusal_word r.refusal ∷ [])

abbrev pub old_words : Old → List (List ℕ)
old_words r = decimal r.client ∷ decimal r.current ∷ []

abbrev pub out_of_turn_words : OutOfTurn → List (List ℕ)
out_of_turn_words r = id_words r.id ++ (decimal r.last ∷ [])

abbrev pub again_words : Again → List (List ℕ)
again_words r = decimal r.client ∷ decimal r.incarnation ∷ decimal r.number ∷ []

abbrev pub reply_words : Reply → List (List ℕ)
reply_words (replies.Welcome r) = welcome_words r
reply_words (replies.Granted r) = granted_words r
reply_words (replies.Released id) = id_words id
reply_words (replies.Refused r) = refused_words r
reply_words (replies.Old r) = old_words r
reply_words (replies.Stale r) = out_of_turn_words r
reply_words (replies.Gap r) = out_of_turn_words r
reply_words (replies.Again r) = again_words r
reply_words (replies.Error error) = error_word error ∷ []

-- the bytes of a reply
abbrev pub reply_text : Reply → List ℕ
reply_text reply = sentence (first_reply_word reply) (reply_words reply)

-- the values that the types of `stale` and `gap` keep
abbrev pub IsOutOfTurn : OutOfTurn → Type 0
IsOutOfTurn r = IsRequestId r.id × IsQuantity r.last

-- the values that a reply's types keep
abbrev pub IsReply : Reply → Type 0
IsReply (replies.Welcome r) = IsClient r.client × IsOrdinal r.incarnation
IsReply (replies.Granted r) =
    IsRequestId r.id × (is_name r.arena ≡ true) × IsQuantity r.base × IsQuantity r.len
IsReply (replies.Released id) = IsRequestId id
IsReply (replies.Refused r) = IsRequestId r.id
IsReply (replies.Old r) = IsClient r.client × IsQuantity r.current
IsReply (replies.Stale r) = IsOutOfTurn r
IsReply (replies.Gap r) = IsOutOfTurn r
IsReply (replies.Again r) = IsClient r.client × IsOrdinal r.incarnation × IsQuantity r.number
IsReply (replies.Error error) = Unit {0}

-- bytes are read as a reply just where they are what is written of it
abbrev pub RepliesAreTexts : Type 0
RepliesAreTexts = (bytes : List ℕ) (reply : Reply)
    → (reply_of bytes ≡ Ok reply) ↔ (IsReply reply × (bytes ≡ reply_text reply))

-- what is written of a reply is one line of a stream
abbrev pub WrittenReplyIsWhole : Type 0
WrittenReplyIsWhole = (reply : Reply) → IsReply reply → IsWholeLine (reply_text reply)
