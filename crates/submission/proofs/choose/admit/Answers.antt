-- `admit` meets its contract.
use mathlib.Core.Bool.{not}
use mathlib.Core.Path.{ap, ◌∙◌}
use Rattle.time.proofs.Laws.{lt_is}
use Rattle.submission.proofs.SubmitCode.{begins_late, begins_soon, admit_late, admit_issuer, admit_key, admit_bad, admit_all}
use Rattle.submission.proofs.choose.admit.Goals as goal

pub returns-then-lt : goal.returns-then-lt
returns-then-lt c = admit_late _ _ _ _ (begins_late _ _ _ c.plus_at_most-latest.ensures (c.lt.ensures ∙ lt_is _ _) c.if-lt.true)

pub returns-then-host-eq2 : goal.returns-then-host-eq2
returns-then-host-eq2 c = admit_issuer _ _ _ _ (begins_soon _ _ _ c.plus_at_most-latest.ensures (c.lt.ensures ∙ lt_is _ _) c.if-lt.false) c.if-host-eq2.true

pub returns-then-not-key_open : goal.returns-then-not-key_open
returns-then-not-key_open c =
    admit_key _ _ _ _ (begins_soon _ _ _ c.plus_at_most-latest.ensures (c.lt.ensures ∙ lt_is _ _) c.if-lt.false) c.if-host-eq2.false _
    c.key_open.ensures (ap not c.if-not-key_open.true)

pub returns-then-host-eq1 : goal.returns-then-host-eq1
returns-then-host-eq1 c =
    admit_bad _ _ _ _ (begins_soon _ _ _ c.plus_at_most-latest.ensures (c.lt.ensures ∙ lt_is _ _) c.if-lt.false) c.if-host-eq2.false _
    c.key_open.ensures (ap not c.if-not-key_open.false) c.if-host-eq1.true

pub returns : goal.returns
returns c =
    admit_all _ _ _ _ (begins_soon _ _ _ c.plus_at_most-latest.ensures (c.lt.ensures ∙ lt_is _ _) c.if-lt.false) c.if-host-eq2.false _
    c.key_open.ensures (ap not c.if-not-key_open.false) c.if-host-eq1.false
