-- Which ids rows revoke (specs/Revocation.antt). Assumes nothing.
use mathlib.Core.Path.{◌≡◌, refl, ap, ◌∙◌}
use mathlib.Core.Logic.{inl, inr}
use mathlib.Core.Bool.{Bool, true, false, ◌||◌, false≢true}
use mathlib.Core.List.{List, [], ◌∷◌}
use Prim.Native.Nat.{ℕ, ◌≤◌}
use native.Mathlib.Omega.{arith}
use borrow.Author.Tests.{le-leb, leb-true}
use Rattle.octets.specs.Bytes.{same}
use Rattle.octets.proofs.SameLaws.{same_equal, equal_same}
use Rattle.octets.proofs.Tests.{and_left, and_right, and_both, or_true}
use Rattle.revocation_spec.specs.declared.Revocation.{Revocation}
use Rattle.revocation_spec.specs.Revocation.{revokes, is_revoked}
use Rattle.revocation_spec.specs.Promises.{IsRow, RevokedExactly, MoreRevoke, LaterRevoked}

module _ (id : List ℕ) (clock : ℕ) where
  -- a row that revokes has the id and a moment that is not after now
  pub revokes_is : (r : Revocation) → revokes r id clock ≡ true → (r.id ≡ id) × (r.moment ≤ clock)
  unfolding revokes
  revokes_is r e = (
    same_equal r.id id (and_left (same r.id id) _ e),
    leb-true r.moment clock (and_right (same r.id id) _ e),
  )

  -- and a row that has both revokes
  pub is_revokes : (r : Revocation) → r.id ≡ id → r.moment ≤ clock → revokes r id clock ≡ true
  unfolding revokes
  is_revokes r e l = and_both (same r.id id) _ (equal_same r.id id e) (le-leb r.moment clock l)

  -- where one of the rows has the id and such a moment the id is revoked
  row_revoked : (rows : List Revocation) (r : Revocation) → IsRow r rows → r.id ≡ id → r.moment ≤ clock → is_revoked rows id clock ≡ true
  unfolding is_revoked
  row_revoked [] r i e l = absurd i
  row_revoked (x ∷ xs) r (inl i) e l =
      let t : revokes x id clock ≡ true = ap (λ (y : Revocation). revokes y id clock) i ∙ is_revokes r e l in
      rw t
  row_revoked (x ∷ xs) r (inr i) e l = rw (row_revoked xs r i e l) (or_true (revokes x id clock))

  -- and where it is revoked one of the rows has both
  revoked_row : (rows : List Revocation) → is_revoked rows id clock ≡ true
      → (r : Revocation) × IsRow r rows × (r.id ≡ id) × (r.moment ≤ clock)
  unfolding is_revoked
  revoked_row [] e = absurd (false≢true e)
  revoked_row (x ∷ xs) e = go (revokes x id clock) refl e (revoked_row xs)
    where
      go : (t : Bool) → revokes x id clock ≡ t → (t || is_revoked xs id clock) ≡ true
          → (is_revoked xs id clock ≡ true → (r : Revocation) × IsRow r xs × (r.id ≡ id) × (r.moment ≤ clock))
          → (r : Revocation) × IsRow r (x ∷ xs) × (r.id ≡ id) × (r.moment ≤ clock)
      go true t e k = let p = revokes_is x t in (x, inl refl, p.0, p.1)
      go false t e k = let p = k e in (p.0, inr p.1, p.2, p.3)

-- `RevokedExactly`
pub revoked_exactly : RevokedExactly
revoked_exactly rows id clock = (revoked_row id clock rows, λ p. row_revoked id clock rows p.0 p.1 p.2 p.3)

-- `MoreRevoke`
pub more_revoke : MoreRevoke
more_revoke rows more id clock h e =
    let p = revoked_row id clock rows e in
    row_revoked id clock more p.0 (h p.0 p.1) p.2 p.3

-- `LaterRevoked`
pub later_revoked : LaterRevoked
later_revoked rows id clock later h e =
    let p = revoked_row id clock rows e in
    row_revoked id later rows p.0 p.1 p.2 (omega (arith, p.3))
