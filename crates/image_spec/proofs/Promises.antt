-- The promises of specs/Promises.antt, each from its law. Assumes nothing.
use Rattle.image_spec.specs.Promises.{Layout1Fixed, Layout2Fixed, RowsInTurn, RowOfBody, MaskSmall, Holds1Exactly, Holds2Exactly}
use Rattle.image_spec.specs.Promises.{RowsOnce, NotInBoth, ReadableExactly, BodyOfId, LookupExactly, SoundExactly}
use Rattle.image_spec.specs.Promises.{EditionsKnown, BodyHanded, NewImage}
use Rattle.image_spec.specs.Layout.{edition1, edition2}
use Rattle.image_spec.proofs.RowPlaceLaws.{edition1_ok, edition2_ok}
use Rattle.image_spec.proofs.RowLaws as row
use Rattle.image_spec.proofs.ReadLaws as read
use Rattle.image_spec.proofs.LayoutLaws as layout
use Rattle.image_spec.proofs.FindLaws as found
use Rattle.image_spec.proofs.NamedLaws as named
use Rattle.image_spec.proofs.LookupLaws as lookup
use Rattle.image_spec.proofs.NewImageLaws as new_bytes
use Rattle.image_spec.specs.Promises.{UpgradeExactly, UpgradeFinds}
use Rattle.image_spec.proofs.UpgradeLaws as upgrade

-- ---- the layout

pub layout1_fixed : Layout1Fixed
layout1_fixed = layout.layout1_fixed

pub layout2_fixed : Layout2Fixed
layout2_fixed = layout.layout2_fixed

pub rows_in_turn : RowsInTurn
rows_in_turn = layout.rows_in_turn

pub row_of_body : RowOfBody
row_of_body = read.row_of_body

pub mask_small : MaskSmall
mask_small = row.modes_small

-- ---- which rows a buffer holds

pub holds1_exactly : Holds1Exactly
holds1_exactly = layout.holds1_exactly

pub holds2_exactly : Holds2Exactly
holds2_exactly = layout.holds2_exactly

pub rows_once : RowsOnce
rows_once = (found.bodies_once edition1 edition1_ok, found.bodies_once edition2 edition2_ok)

pub not_in_both : NotInBoth
not_in_both = named.not_both

pub readable_exactly : ReadableExactly
readable_exactly = named.holds_named

pub body_of_id : BodyOfId
body_of_id = layout.body_of_id

-- ---- a lookup

pub lookup_exactly : LookupExactly
lookup_exactly = lookup.lookup_exactly

pub sound_exactly : SoundExactly
sound_exactly = lookup.sound_exactly

pub editions_known : EditionsKnown
editions_known = lookup.editions_known

pub body_handed : BodyHanded
body_handed = lookup.body_handed

-- ---- a new image

pub new_image : NewImage
new_image = new_bytes.new_image

-- ---- an image of edition 1 turned into one of edition 2

pub upgrade_exactly : UpgradeExactly
upgrade_exactly = upgrade.upgrade_exactly

pub upgrade_finds : UpgradeFinds
upgrade_finds = upgrade.upgrade_finds
