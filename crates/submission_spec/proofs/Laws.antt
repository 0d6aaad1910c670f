-- The statements of specs/Laws.antt, each from its law. Assumes nothing.
use Rattle.submission_spec.specs.Laws.{EnteringReads, NumbersTell, RefusedKeeps, DoneMeans, AfterHolds}
use Rattle.submission_spec.proofs.IdLaws as ids
use Rattle.submission_spec.proofs.StepLaws.{number_is}
use Rattle.submission_spec.proofs.AfterLaws as after
use Rattle.submission_spec.proofs.StoredLaws as stored

pub entering_reads : EnteringReads
entering_reads = ids.entering_reads

pub numbers_tell : NumbersTell
numbers_tell = number_is

pub refused_keeps : RefusedKeeps
refused_keeps = after.refused_keeps

pub done_means : DoneMeans
done_means = stored.done_means

pub after_holds : AfterHolds
after_holds = stored.after_holds
