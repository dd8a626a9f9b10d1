use Rattle.std.specs.Io.KnownBytes.{Keeps}
use Rattle.vmemd.proofs.inputs.PatientReader.read_on.Given as goal

-- nothing was read yet
abbrev pub invariant-loop : goal.invariant-loop
invariant-loop g l = Keeps (g.I.Read.remaining l.fn.self.input) (g.I.Read.remaining l.self.input)
