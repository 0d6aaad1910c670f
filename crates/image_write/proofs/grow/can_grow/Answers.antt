-- `can_grow` meets its contract.
use native.Mathlib.Omega.{arith}
use Rattle.image_write.proofs.GrowCode.{fits_not, fits_id}
use Rattle.image_write.proofs.grow.can_grow.Goals as goal

pub returns-then-layout-room : goal.returns-then-layout-room
returns-then-layout-room c = fits_not _ _ _ _ _ _ (λ k. omega (arith, k.0, k.1, k.2, k.3))

pub returns-then-room-place : goal.returns-then-room-place
returns-then-room-place c = fits_not _ _ _ _ _ _ (λ k. omega (arith, k.0, k.1, k.2, k.3))

pub returns-then-d-room : goal.returns-then-d-room
returns-then-d-room c = fits_not _ _ _ _ _ _ (λ k. omega (arith, k.0, k.1, k.2, k.3))

pub returns-then-left-layout : goal.returns-then-left-layout
returns-then-left-layout c = fits_not _ _ _ _ _ _ (λ k. omega (arith, k.0, k.1, k.2, k.3))

pub returns-then-left-layout-2 : goal.returns-then-left-layout-2
returns-then-left-layout-2 c = fits_not _ _ _ _ _ _ (λ k. omega (arith, k.0, k.1, k.2, k.3))

pub returns-then-row-lt-ID_SIZE : goal.returns-then-row-lt-ID_SIZE
returns-then-row-lt-ID_SIZE c = fits_not _ _ _ _ _ _ (λ k. omega (arith, k.0, k.1, k.2, k.3))

pub returns : goal.returns
returns c = fits_id _ _ _ _ _ _ (omega arith) (omega arith) (omega arith) (omega arith)
