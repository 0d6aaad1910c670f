-- The statements of specs/Laws.antt, each from its law. Assumes nothing.
use Rattle.image_spec.specs.Laws.{RowsInOrder, OffsetsFit, RowNext, ReadIn, BodyRead, EncodingRead, BodyWithExactly, RowsNamed}
use Rattle.image_spec.specs.Laws.{CheckTells, CheckSays}
use Rattle.image_spec.specs.Laws.{CheckUnsound, EditionsChecked, CheckInside, BodyAdded, OneMore}
use Rattle.image_spec.specs.Laws.{ClosedUp, KeptHolds, StoredAfter, StoredHolds, LeftFinds}
use Rattle.image_spec.specs.Laws.{ChoiceRoom, ChoiceRemoval, RemovalOnce, ChoiceExactly, FitsNoneGoes, UnexpiredStay, RoomMade}
use Rattle.image_spec.specs.Laws.{PlaceWithin, Edition1Ok, Edition2Ok, NamedOk, EditionsNamed, HeaderNames}
use Rattle.image_spec.proofs.RowPlaceLaws.{place_order, place_small}
use Rattle.image_spec.proofs.RowPlaceLaws as place1
use Rattle.image_spec.proofs.NamedLaws as named
use Rattle.image_spec.proofs.RowOkLaws as ok
use Rattle.image_spec.proofs.BodyLaws as body
use Rattle.image_spec.proofs.ReadLaws as read
use Rattle.image_spec.proofs.PlaceLaws as place
use Rattle.image_spec.proofs.FindLaws as found
use Rattle.image_spec.proofs.GrowLaws as grow
use Rattle.image_spec.proofs.CloseLaws as close
use Rattle.image_spec.proofs.StoreLaws as store
use Rattle.image_spec.proofs.RemovalLaws as removal
use Rattle.image_spec.proofs.OnceLaws as once
use Rattle.image_spec.proofs.BufferChoice as buffer
use Rattle.image_spec.specs.Laws.{TouchedBodies, TouchedImage, TouchedNone, AfterTouch2, AfterTouch1}
use Rattle.image_spec.proofs.TouchLaws as touch
use Rattle.image_spec.specs.Laws.{PlacesWider, SoundBounds}
use Rattle.image_spec.proofs.UpgradeLaws as upgrade

-- ---- where rows stand

pub place_within_lem : PlaceWithin
place_within_lem = place1.place_within_lem

pub rows_in_order : RowsInOrder
rows_in_order = place_order

pub offsets_fit : OffsetsFit
offsets_fit = place_small

pub row_next : RowNext
row_next = ok.row_next

-- ---- a body that reads

pub read_in : ReadIn
read_in = body.read_in

pub body_read : BodyRead
body_read = read.body_read

pub encoding_read : EncodingRead
encoding_read = read.encoding_read

-- ---- the body with an id

pub body_with_exactly : BodyWithExactly
body_with_exactly = place.body_with_exactly

pub rows_named : RowsNamed
rows_named = found.rows_named

-- ---- what a check says

pub check_tells : CheckTells
check_tells = found.check_tells

pub check_says : CheckSays
check_says = found.check_says

pub check_unsound : CheckUnsound
check_unsound = found.check_unsound

pub editions_checked : EditionsChecked
editions_checked = found.editions_checked

pub check_inside : CheckInside
check_inside = found.check_inside

-- ---- one body more

pub body_added : BodyAdded
body_added = grow.body_added

pub one_more : OneMore
one_more = grow.one_more

-- ---- rows that go

pub closed_up_lem : ClosedUp
closed_up_lem = close.closed_up_lem

pub kept_holds : KeptHolds
kept_holds = close.kept_holds

-- ---- a new row, after the removal of expired ones

pub stored_after : StoredAfter
stored_after = store.stored_after

pub stored_holds : StoredHolds
stored_holds = store.stored_holds

pub left_finds : LeftFinds
left_finds = store.left_finds

-- ---- which rows go for a new one

pub choice_room : ChoiceRoom
choice_room = removal.choice_room

pub choice_removal : ChoiceRemoval
choice_removal = removal.choice_removal

pub removal_once : RemovalOnce
removal_once = once.removal_once

pub choice_exactly : ChoiceExactly
choice_exactly = removal.choice_exactly

pub fits_none_goes : FitsNoneGoes
fits_none_goes = removal.fits_none_goes

pub unexpired_stay : UnexpiredStay
unexpired_stay = removal.unexpired_stay

pub room_made : RoomMade
room_made = buffer.room_made

-- ---- the layouts

pub edition1_ok : Edition1Ok
edition1_ok = place1.edition1_ok

pub edition2_ok : Edition2Ok
edition2_ok = place1.edition2_ok

pub named_ok : NamedOk
named_ok = named.named_ok

pub editions_named : EditionsNamed
editions_named = named.editions_named

pub header_names : HeaderNames
header_names = (named.names_1, named.names_2)

-- ---- a row that was used

pub touched_bodies : TouchedBodies
touched_bodies = touch.touched_bodies

pub touched_image : TouchedImage
touched_image = touch.touched_both

pub touched_none : TouchedNone
touched_none = touch.touched_1

pub after_touch2 : AfterTouch2
after_touch2 = touch.after_touch2

pub after_touch1 : AfterTouch1
after_touch1 = touch.after_touch1

-- ---- one edition turned into another

pub places_wider : PlacesWider
places_wider = upgrade.places_wider

pub sound_bounds : SoundBounds
sound_bounds = upgrade.sound_bounds
