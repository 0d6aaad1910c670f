-- `choose_unread` meets its contract.
use mathlib.Core.Path.{sym, ap, ◌∙◌}
use Rattle.submission.specs.Code.{refusal_of}
use Rattle.submission.proofs.SubmitCode.{unread_sound, unread_unsound}
use Rattle.submission.proofs.choose.choose_unread.Goals as goal

pub returns-in_default : goal.returns-in_default
returns-in_default c = unread_unsound _ _ _ _ c.check_latest.ensures c.in_default.is

pub returns-in-Structure : goal.returns-in-Structure
returns-in-Structure c = sym (ap refusal_of c.in-Structure.is) ∙ unread_sound _ _ _ _ c.check_latest.ensures _ c.in-Some.is

pub returns-in-Validity : goal.returns-in-Validity
returns-in-Validity c = sym (ap refusal_of c.in-Validity.is) ∙ unread_sound _ _ _ _ c.check_latest.ensures _ c.in-Some.is
