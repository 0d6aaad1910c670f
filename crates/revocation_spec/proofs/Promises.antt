-- The promises of specs/Promises.antt, each from its law. Assumes nothing.
use Rattle.revocation_spec.specs.Promises.{RevokedExactly, MoreRevoke, LaterRevoked, RowsOfBytes, BytesExactly, RowsJoined}
use Rattle.revocation_spec.specs.Promises.{RowMore, BytesAndBack, FormsAgree}
use Rattle.revocation_spec.proofs.RowLaws as row
use Rattle.revocation_spec.proofs.ByteLaws as byte

-- ---- when an id is revoked

pub revoked_exactly : RevokedExactly
revoked_exactly = row.revoked_exactly

pub more_revoke : MoreRevoke
more_revoke = row.more_revoke

pub later_revoked : LaterRevoked
later_revoked = row.later_revoked

-- ---- rows in bytes

pub rows_of_bytes : RowsOfBytes
rows_of_bytes = byte.rows_of_bytes

pub bytes_exactly : BytesExactly
bytes_exactly = byte.bytes_exactly

pub rows_joined : RowsJoined
rows_joined = byte.rows_joined

pub row_more : RowMore
row_more = byte.row_more

pub bytes_and_back : BytesAndBack
bytes_and_back = byte.bytes_and_back

pub forms_agree : FormsAgree
forms_agree = byte.forms_agree
