-- `are_version7` meets its contract.
use Rattle.submission.proofs.SubmitCode.{ids_tested}
use Rattle.submission.proofs.entering.are_version7.Goals as goal

pub returns : goal.returns
returns c =
    ids_tested _ c.args.fields c.is_version7.result c.is_version7_text.result c.is_version7_text-2.result
    c.is_version7.ensures c.is_version7_text.ensures c.is_version7_text-2.ensures
