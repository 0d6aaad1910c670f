-- The promises of specs/Promises.antt, each from its law. Assumes nothing.
use Rattle.grant_reader.specs.Promises.{ReaderPlaces, ByIndex, EachInTurn, NonePast, NoneUnread, NoneStays}
use Rattle.grant_reader.proofs.WalkLaws as walk
use Rattle.grant_reader.proofs.PlaceLaws as place

-- ---- bytes that read

-- the places of an allowed descriptor's grants
pub reader_places : ReaderPlaces
reader_places = place.reader_places

-- each grant in turn
pub each_in_turn : EachInTurn
each_in_turn = place.each_in_turn

-- none behind the last
pub none_past : NonePast
none_past = place.none_past

-- ---- bytes that do not read

-- none of bytes that are no descriptor
pub none_unread : NoneUnread
none_unread = place.none_unread

-- ---- any bytes

-- the grant with an index
pub by_index : ByIndex
by_index = walk.nth_at

-- none after none
pub none_stays : NoneStays
none_stays = walk.none_stays
