-- The law of specs/Laws.antt, proved. Assumes nothing.
use Rattle.request_spec.specs.Laws.{FormedArguments}
use Rattle.request_spec.proofs.ArgumentLaws.{formed_mode, formed_resource}

pub formed_arguments : FormedArguments
formed_arguments q w = (formed_mode q w, formed_resource q w)
