-- `upgrade` meets its contract.
use Rattle.image_spec.specs.Upgrade.{upgrade_of, after_upgrade}
use Rattle.image_write.proofs.upgrade.Goals as goal

pub returns : goal.returns
unfolding upgrade_of after_upgrade
returns c = c.upgrade.ensures
