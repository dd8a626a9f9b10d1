-- Which bytes are an operator's line, and which are served.
use Rattle.std.specs.Prelude.{◌↔◌, ◌≡◌, ℕ, List, [], ◌∷◌, if◌then◌else◌, ◌||◌, Bool, true}
use Rattle.std.specs.Prelude.{Result, Ok, Err, codes, decimal}
use Rattle.std.specs.Str.{bytes_eq}
use Rattle.lease_terms.specs.Names.{is_name}
use Rattle.lease_terms.specs.Ranges.{IsQuantity}
use Rattle.lease_proto.specs.declared.faults.LineFault.{LineFault}
use Rattle.lease_proto.specs.declared.faults.LineFault.TheVariants.{Word, Number}
use Rattle.lease_proto.specs.declared.lines.Line.{Line}
use Rattle.lease_proto.specs.declared.operators.MagazineSize.{MagazineSize}
use Rattle.lease_proto.specs.declared.operators.MagazineSize.TheVariants as size
use Rattle.lease_proto.specs.declared.operators.GrowLine.{GrowLine}
use Rattle.lease_proto.specs.declared.operators.OperatorLine.{OperatorLine}
use Rattle.lease_proto.specs.declared.operators.OperatorLine.TheVariants as operator
use Rattle.lease_proto.specs.declared.operators.ServedLine.{ServedLine}
use Rattle.lease_proto.specs.declared.operators.ServedLine.TheVariants.{Client, Operator}
use Rattle.lease_proto.specs.Cpus.{IsCpu, cpu_in}
use Rattle.lease_proto.specs.Values.{◌>>=◌, words_of, name_in, quantity_in}
use Rattle.lease_proto.specs.Grammar.{word_at, end_at, line_of, line_of_first}
use Rattle.lease_proto.specs.Texts.{sentence}

-- how many rounds a magazine takes
abbrev pub rounds_named : MagazineSize → ℕ
rounds_named size.Three = 3
rounds_named size.Seven = 7
rounds_named size.Fifteen = 15
rounds_named size.ThirtyOne = 31

abbrev pub size_word : MagazineSize → List ℕ
size_word size.Three = codes "3"
size_word size.Seven = codes "7"
size_word size.Fifteen = codes "15"
size_word size.ThirtyOne = codes "31"

-- the size of a magazine
abbrev pub size_in : List ℕ → Result MagazineSize LineFault
size_in word =
    if bytes_eq word (codes "3") then Ok size.Three
    else if bytes_eq word (codes "7") then Ok size.Seven
    else if bytes_eq word (codes "15") then Ok size.Fifteen
    else if bytes_eq word (codes "31") then Ok size.ThirtyOne
    else Err Number

-- the words after the first of `cpu N` and `offline N`
unfoldable pub cpu_line_in : List (List ℕ) → Result ℕ LineFault
cpu_line_in words = do
  number ← word_at words
  end ← end_at number.1
  cpu_in number.0

-- `resize NAME M`
unfoldable pub resize_in : List (List ℕ) → Result OperatorLine LineFault
resize_in words = do
  name ← word_at words
  arena ← name_in name.0
  rounds ← word_at name.1
  end ← end_at rounds.1
  m ← size_in rounds.0
  Ok (operator.Resize (record { arena = arena; size = m }))

-- `grow NAME BASE LEN`
unfoldable pub grow_in : List (List ℕ) → Result GrowLine LineFault
grow_in words = do
  name ← word_at words
  arena ← name_in name.0
  base ← word_at name.1
  len ← word_at base.1
  end ← end_at len.1
  b ← quantity_in base.0
  l ← quantity_in len.0
  Ok (record { arena = arena; base = b; len = l })

-- the line that is this word alone
abbrev pub alone_in : List ℕ → List (List ℕ) → Result OperatorLine LineFault
alone_in first words =
    if bytes_eq first (codes "tick") then (end_at words >>= λ e. Ok operator.Tick)
    else if bytes_eq first (codes "reap") then (end_at words >>= λ e. Ok operator.Reap)
    else if bytes_eq first (codes "audit") then (end_at words >>= λ e. Ok operator.Audit)
    else if bytes_eq first (codes "clients") then (end_at words >>= λ e. Ok operator.Clients)
    else Err Word

-- the operator's line of this first word and the words after it
unfoldable pub operator_in : List ℕ → List (List ℕ) → Result OperatorLine LineFault
operator_in first words =
    if bytes_eq first (codes "cpu") then (cpu_line_in words >>= λ n. Ok (operator.Cpu n))
    else if bytes_eq first (codes "offline")
    then (cpu_line_in words >>= λ n. Ok (operator.Offline n))
    else if bytes_eq first (codes "resize") then resize_in words
    else if bytes_eq first (codes "grow") then (grow_in words >>= λ g. Ok (operator.Grow g))
    else alone_in first words

-- the words that an operator's line begins with
abbrev pub is_operator_word : List ℕ → Bool
is_operator_word word = bytes_eq word (codes "cpu") || (bytes_eq word (codes "offline")
    || (bytes_eq word (codes "tick") || (bytes_eq word (codes "resize")
    || (bytes_eq word (codes "grow") || (bytes_eq word (codes "reap")
    || (bytes_eq word (codes "audit") || bytes_eq word (codes "clients")))))))

-- the line that words are
unfoldable pub served_in : List (List ℕ) → Result ServedLine LineFault
served_in [] = Err Word
served_in (first ∷ words) =
    if is_operator_word first then (operator_in first words >>= λ o. Ok (Operator o))
    else (line_of_first first words >>= λ l. Ok (Client l))

-- the line that bytes are, or the first reason why they are none
unfoldable pub served_of : List ℕ → Result ServedLine LineFault
served_of bytes = words_of bytes >>= served_in

-- where no other line is taken: each other first word is refused
unfoldable pub grow_line_in : List (List ℕ) → Result GrowLine LineFault
grow_line_in [] = Err Word
grow_line_in (first ∷ words) = if bytes_eq first (codes "grow") then grow_in words else Err Word

-- that line, or the first reason why bytes are none
unfoldable pub grow_of : List ℕ → Result GrowLine LineFault
grow_of bytes = words_of bytes >>= grow_line_in

-- the words of an operator's line: the first, and those after it
abbrev pub operator_word : OperatorLine → List ℕ
operator_word (operator.Cpu n) = codes "cpu"
operator_word (operator.Offline n) = codes "offline"
operator_word operator.Tick = codes "tick"
operator_word (operator.Resize r) = codes "resize"
operator_word (operator.Grow g) = codes "grow"
operator_word operator.Reap = codes "reap"
operator_word operator.Audit = codes "audit"
operator_word operator.Clients = codes "clients"

abbrev pub operator_words : OperatorLine → List (List ℕ)
operator_words (operator.Cpu n) = decimal n ∷ []
operator_words (operator.Offline n) = decimal n ∷ []
operator_words operator.Tick = []
operator_words (operator.Resize r) = r.arena ∷ size_word r.size ∷ []
operator_words (operator.Grow g) = g.arena ∷ decimal g.base ∷ decimal g.len ∷ []
operator_words operator.Reap = []
operator_words operator.Audit = []
operator_words operator.Clients = []

-- its bytes
abbrev pub operator_text : OperatorLine → List ℕ
operator_text o = sentence (operator_word o) (operator_words o)

-- the values that its types keep
abbrev pub IsOperator : OperatorLine → Type 0
IsOperator (operator.Cpu n) = IsCpu n
IsOperator (operator.Offline n) = IsCpu n
IsOperator (operator.Resize r) = is_name r.arena ≡ true
IsOperator (operator.Grow g) = (is_name g.arena ≡ true) × IsQuantity g.base × IsQuantity g.len
IsOperator operator.Tick = Unit {0}
IsOperator operator.Reap = Unit {0}
IsOperator operator.Audit = Unit {0}
IsOperator operator.Clients = Unit {0}

-- a client's line is served just where the bytes are that line
abbrev pub ClientsAreServed : Type 0
ClientsAreServed = (bytes : List ℕ) (line : Line)
    → (served_of bytes ≡ Ok (Client line)) ↔ (line_of bytes ≡ Ok line)

-- an operator's line is served just where the bytes are its text
abbrev pub OperatorsAreServed : Type 0
OperatorsAreServed = (bytes : List ℕ) (line : OperatorLine)
    → (served_of bytes ≡ Ok (Operator line)) ↔ (IsOperator line × (bytes ≡ operator_text line))
