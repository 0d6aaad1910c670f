-- Laws of the rows of a list of bytes (specs/Revocation.antt of `revocation_spec`), in the code's own form. Assumes nothing.
use mathlib.Core.Path.{◌≡◌, sym, ap, ◌∙◌}
use mathlib.Core.Bool.{Bool, true, false}
use mathlib.Core.List.{List}
use Prim.Native.Nat.{ℕ, ◌+◌, ◌-◌, ◌*◌, ◌/◌, ◌≤◌, ◌<◌}
use native.Mathlib.Omega.{arith}
use lib.ListN.{length, take, drop}
use Rattle.octets.proofs.PartLaws.{lent_part}
use Rattle.revocation_spec.specs.declared.Revocation.{Revocation}
use Rattle.revocation_spec.specs.Revocation.{revocation_size, revokes, is_revoked, revocation_at, revocations_of}
use Rattle.revocation_spec.proofs.Promises.{rows_of_bytes}
use Rattle.revocation_spec.proofs.Laws as laws

-- the row that the code lends at a place
abbrev pub lent_row : List ℕ → ℕ → Revocation
lent_row list at = revocation_at (take (at + revocation_size - at) (drop at list)) 0

module _ (list id : List ℕ) (clock i : ℕ) where
  module _ (h : i < length list / revocation_size) {t : Bool} (e : t ≡ revokes (lent_row list (revocation_size * i)) id clock) where
    -- the rows from row i on, by the test of row i
    in_turn : (t ≡ true → is_revoked (drop i (revocations_of list)) id clock ≡ true)
        × (t ≡ false → is_revoked (drop i (revocations_of list)) id clock ≡ is_revoked (drop (i + 1) (revocations_of list)) id clock)
    unfolding revocation_at
    in_turn =
        let at = revocation_size * i in
        let r = revocation_at list at in
        let lent : lent_row list at ≡ r =
        ap (λ (x : List ℕ). revocation_at x 0) (lent_part list at revocation_size) ∙ laws.chunk_row list at in
        let here = ap (λ (x : Revocation). revokes x id clock) ((rows_of_bytes list).1 i r h ∙ sym lent) ∙ sym e in
        let turn = laws.rows_in_turn (revocations_of list) id clock i r (omega (arith, (rows_of_bytes list).0)) in
        (λ f. turn.0 (here ∙ f), λ f. turn.1 (here ∙ f))

    -- where row i revokes the id they do
    pub row_hit : t ≡ true → is_revoked (drop i (revocations_of list)) id clock ≡ true
    row_hit f = in_turn.0 f

    -- else the rows after it tell
    pub row_next : t ≡ false → is_revoked (drop i (revocations_of list)) id clock ≡ is_revoked (drop (i + 1) (revocations_of list)) id clock
    row_next f = in_turn.1 f

  -- no row is left after the last
  pub row_none : length list / revocation_size ≤ i → is_revoked (drop i (revocations_of list)) id clock ≡ false
  row_none h = laws.rows_end (revocations_of list) id clock i (omega (arith, (rows_of_bytes list).0))
