-- The texts of setup lines.
use Rattle.std.specs.Prelude.{◌↔◌, ◌≡◌, ℕ, List, [], ◌∷◌, true, Ok, codes, decimal}
use Rattle.lease_terms.specs.Names.{is_name}
use Rattle.lease_terms.specs.Ranges.{IsQuantity}
use Rattle.lease_proto.specs.declared.setup_lines.PolicyWord.{PolicyWord}
use Rattle.lease_proto.specs.declared.setup_lines.PolicyWord.TheVariants as policies
use Rattle.lease_proto.specs.declared.setup_lines.SetupLine.{SetupLine}
use Rattle.lease_proto.specs.declared.setup_lines.SetupLine.TheVariants as lines
use Rattle.lease_proto.specs.declared.setup_lines.RootLine.{RootLine}
use Rattle.lease_proto.specs.declared.setup_lines.ChildLine.{ChildLine}
use Rattle.lease_proto.specs.declared.setup_lines.SpanLine.{SpanLine}
use Rattle.lease_proto.specs.SetupLines.{setup_of}
use Rattle.lease_proto.specs.Texts.{sentence}

abbrev pub policy_word : PolicyWord → List ℕ
policy_word policies.Instant = codes "instant"
policy_word policies.Best = codes "best"
policy_word policies.Next = codes "next"

-- `root NAME BASE LEN QUANTUM POLICY QMAX`: the words after the first
abbrev pub root_words : RootLine → List (List ℕ)
root_words r = r.name ∷ decimal r.base ∷ decimal r.len ∷ decimal r.quantum ∷ policy_word r.policy
    ∷ decimal r.qcache_max ∷ []

-- `child NAME SOURCE QUANTUM POLICY QMAX IMPORTMIN`
abbrev pub child_words : ChildLine → List (List ℕ)
child_words c = c.name ∷ c.source ∷ decimal c.quantum ∷ policy_word c.policy
    ∷ decimal c.qcache_max ∷ decimal c.import_min ∷ []

-- `span NAME BASE LEN`
abbrev pub span_words : SpanLine → List (List ℕ)
span_words s = s.name ∷ decimal s.base ∷ decimal s.len ∷ []

-- the words of a setup line: the first, and those after it
abbrev pub setup_word : SetupLine → List ℕ
setup_word (lines.Root r) = codes "root"
setup_word (lines.Child c) = codes "child"
setup_word (lines.Span s) = codes "span"

abbrev pub setup_words : SetupLine → List (List ℕ)
setup_words (lines.Root r) = root_words r
setup_words (lines.Child c) = child_words c
setup_words (lines.Span s) = span_words s

-- its bytes
abbrev pub setup_text : SetupLine → List ℕ
setup_text line = sentence (setup_word line) (setup_words line)

-- the values that its types keep
abbrev pub IsSetupLine : SetupLine → Type 0
IsSetupLine (lines.Root r) = (is_name r.name ≡ true) × IsQuantity r.base × IsQuantity r.len
    × IsQuantity r.quantum × IsQuantity r.qcache_max
IsSetupLine (lines.Child c) = (is_name c.name ≡ true) × (is_name c.source ≡ true)
    × IsQuantity c.quantum × IsQuantity c.qcache_max × IsQuantity c.import_min
IsSetupLine (lines.Span s) = (is_name s.name ≡ true) × IsQuantity s.base × IsQuantity s.len

-- bytes are read as a setup line just where they are that line's text
abbrev pub SetupsAreTexts : Type 0
SetupsAreTexts = (bytes : List ℕ) (line : SetupLine)
    → (setup_of bytes ≡ Ok line) ↔ (IsSetupLine line × (bytes ≡ setup_text line))
