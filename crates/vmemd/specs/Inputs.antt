-- What a contract sees of a reader that waits for its input.
use Rattle.vmemd.specs.declared.inputs.PatientReader.{PatientReader}

-- the input itself
abbrev pub input_of : {R I : Type 0} → PatientReader R I → I
input_of p = p.input
