-- Which bytes are a setup line, and why others are none.
use Rattle.std.specs.Prelude.{ℕ, List, [], ◌∷◌, if◌then◌else◌, ◌||◌, ◌==◌, Bool, Result, Ok, Err}
use Rattle.std.specs.Prelude.{codes}
use Rattle.std.specs.Str.{bytes_eq}
use Rattle.lease_proto.specs.declared.faults.LineFault.{LineFault}
use Rattle.lease_proto.specs.declared.faults.LineFault.TheVariants.{BadLine, Word}
use Rattle.lease_proto.specs.declared.setup_lines.PolicyWord.{PolicyWord}
use Rattle.lease_proto.specs.declared.setup_lines.PolicyWord.TheVariants as policies
use Rattle.lease_proto.specs.Values.{◌>>=◌, words_of, name_in, quantity_in}
use Rattle.lease_proto.specs.Grammar.{word_at, end_at}
use Rattle.lease_proto.specs.declared.setup_lines.SetupLine.{SetupLine}
use Rattle.lease_proto.specs.declared.setup_lines.SetupLine.TheVariants as lines
use Rattle.lease_proto.specs.declared.setup_lines.RootLine.{RootLine}
use Rattle.lease_proto.specs.declared.setup_lines.ChildLine.{ChildLine}
use Rattle.lease_proto.specs.declared.setup_lines.SpanLine.{SpanLine}

-- the policy that a word names
abbrev pub policy_in : List ℕ → Result PolicyWord LineFault
policy_in word =
    if bytes_eq word (codes "instant") then Ok policies.Instant
    else if bytes_eq word (codes "best") then Ok policies.Best
    else if bytes_eq word (codes "next") then Ok policies.Next
    else Err BadLine

-- `root NAME BASE LEN QUANTUM POLICY QMAX`: the words after the first
unfoldable pub root_in : List (List ℕ) → Result RootLine LineFault
root_in words = do
  name ← word_at words
  arena ← name_in name.0
  base ← word_at name.1
  len ← word_at base.1
  quantum ← word_at len.1
  policy ← word_at quantum.1
  chosen ← policy_in policy.0
  most ← word_at policy.1
  end ← end_at most.1
  b ← quantity_in base.0
  l ← quantity_in len.0
  q ← quantity_in quantum.0
  m ← quantity_in most.0
  Ok (record { name = arena; base = b; len = l; quantum = q; policy = chosen; qcache_max = m })

-- `child NAME SOURCE QUANTUM POLICY QMAX IMPORTMIN`
unfoldable pub child_in : List (List ℕ) → Result ChildLine LineFault
child_in words = do
  name ← word_at words
  arena ← name_in name.0
  above ← word_at name.1
  source ← name_in above.0
  quantum ← word_at above.1
  policy ← word_at quantum.1
  chosen ← policy_in policy.0
  most ← word_at policy.1
  least ← word_at most.1
  end ← end_at least.1
  q ← quantity_in quantum.0
  m ← quantity_in most.0
  i ← quantity_in least.0
  Ok (record {
    name = arena;
    source = source;
    quantum = q;
    policy = chosen;
    qcache_max = m;
    import_min = i;
  })

-- `span NAME BASE LEN`
unfoldable pub span_in : List (List ℕ) → Result SpanLine LineFault
span_in words = do
  name ← word_at words
  arena ← name_in name.0
  base ← word_at name.1
  len ← word_at base.1
  end ← end_at len.1
  b ← quantity_in base.0
  l ← quantity_in len.0
  Ok (record { name = arena; base = b; len = l })

-- the setup line that words are
unfoldable pub setup_in : List (List ℕ) → Result SetupLine LineFault
setup_in [] = Err Word
setup_in (first ∷ words) =
    if bytes_eq first (codes "root") then (root_in words >>= λ r. Ok (lines.Root r))
    else if bytes_eq first (codes "child") then (child_in words >>= λ c. Ok (lines.Child c))
    else if bytes_eq first (codes "span") then (span_in words >>= λ s. Ok (lines.Span s))
    else Err Word

-- the setup line that bytes are, or the first reason why they are none
unfoldable pub setup_of : List ℕ → Result SetupLine LineFault
setup_of bytes = words_of bytes >>= setup_in

-- the bytes before the first space or line feed
abbrev pub opening : List ℕ → List ℕ
opening [] = []
opening (b ∷ bs) = if b == 32 || b == 10 then [] else b ∷ opening bs

-- the words that a setup line begins with
abbrev pub is_setup_word : List ℕ → Bool
is_setup_word word =
    bytes_eq word (codes "root") || (bytes_eq word (codes "child") || bytes_eq word (codes "span"))

-- the line that these bytes begin with is meant as a setup line, by its first word
abbrev pub begins_setup : List ℕ → Bool
begins_setup bytes = is_setup_word (opening bytes)
