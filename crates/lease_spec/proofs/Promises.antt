-- The promises of specs/Promises.antt, each from its law. Assumes nothing.
use Rattle.lease_spec.specs.Promises.{StateExactly, OutsideExactly, MarginExact, MarginSign, MarginFits, OlderSync, LaterClock}
use Rattle.lease_spec.specs.Promises.{RowExactly, RowShort, RowLaidOut, TableLaidOut, TableExactly, RowsBack, UnderExactly}
use Rattle.lease_spec.specs.Promises.{FoundExactly, MissingExactly, MalformedExactly}
use Rattle.lease_spec.proofs.MarginLaws as margin
use Rattle.lease_spec.proofs.StateLaws as state
use Rattle.lease_spec.proofs.RowLaws as row
use Rattle.lease_spec.proofs.TableLaws as table

-- ---- the state of a lease

pub state_exactly : StateExactly
state_exactly = state.state_exactly

pub outside_exactly : OutsideExactly
outside_exactly = state.outside_exactly

-- ---- the margin

pub margin_exact : MarginExact
margin_exact = margin.margin_exact

pub margin_sign : MarginSign
margin_sign = margin.margin_sign

pub margin_fits : MarginFits
margin_fits = margin.margin_fits

-- ---- stale and expired leases

pub older_sync : OlderSync
older_sync = state.older_sync

pub later_clock : LaterClock
later_clock = state.later_clock

-- ---- the lease table

pub row_exactly : RowExactly
row_exactly = row.row_exactly

pub row_short : RowShort
row_short = row.row_short

pub row_laid_out : RowLaidOut
row_laid_out = row.row_laid_out

pub table_laid_out : TableLaidOut
table_laid_out = table.table_laid_out

pub table_exactly : TableExactly
table_exactly = table.table_exactly

pub rows_back : RowsBack
rows_back = table.rows_back

pub under_exactly : UnderExactly
under_exactly = table.under_exactly

pub found_exactly : FoundExactly
found_exactly = table.found_exactly

pub missing_exactly : MissingExactly
missing_exactly = table.missing_exactly

pub malformed_exactly : MalformedExactly
malformed_exactly = table.malformed_exactly
