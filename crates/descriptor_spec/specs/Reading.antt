-- A reader of the promises does not need this page.
-- What reading answers: the fields of a descriptor, or document 01's 1 or its 2.
use Rattle.std.specs.Prelude.{Result}
use Rattle.descriptor_spec.specs.declared.Fields.{Fields}
use Rattle.descriptor_spec.specs.declared.ReadError.{ReadError}

abbrev pub Reading : Type 0
Reading = Result Fields ReadError
