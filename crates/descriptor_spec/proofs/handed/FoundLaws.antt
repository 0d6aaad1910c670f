-- What reading a grant hands back, number by number. Assumes nothing.
use mathlib.Core.Path.{◌≡◌, refl, sym, ap, subst}
use mathlib.Core.List.{List, ◌++◌}
use Prim.Native.Nat.{ℕ, ◌+◌}
use native.Mathlib.Omega.{arith}
use lib.ListN.{length}
use Rattle.octets.specs.Bytes.{AreBytes, Has}
use Rattle.exact.specs.Reads.{Got, got, refused, Reads, found, lacks, enc_opt}
use Rattle.cbor_item_spec.specs.Encoding.{head}
use Rattle.octets.proofs.BytesLaws.{has_left, has_right}
use Rattle.exact.proofs.ReadsLaws.{complete}
use Rattle.entries_spec.specs.Keys.{k_modes, k_constraints, k_resource_pattern}
use Rattle.entries_spec.specs.Model.{size, enc_text, enc_pairs}
use Rattle.descriptor_spec.specs.Model.{Grant, enc_mode, enc_modes, enc_grant}
use Rattle.descriptor_spec.specs.Allowed.{GrantOk}
use Rattle.descriptor_spec.specs.Reader.{GrantSeen, grant_at}
use Rattle.descriptor_spec.specs.View.{grant_view}
use Rattle.descriptor_spec.specs.Numbers.{grant_numbers}
use Rattle.descriptor_spec.specs.Promises.{array, StandsIf, GrantHandedBack, no_grant, GrantStands, GrantFound, GrantAbsent}
use Rattle.descriptor_spec.specs.Promises.{GrantHanded}
use Rattle.descriptor_spec.proofs.grants.MaskLaws.{mask_exactly}
use Rattle.descriptor_spec.proofs.grants.GrantLaws.{grant_exact}
use Rattle.descriptor_spec.proofs.grants.GrantsLaws.{pattern_at_lem}
use Rattle.descriptor_spec.proofs.whole.LimitLaws.{grant_within, within_grant}
use Rattle.descriptor_spec.proofs.places.SeenLaws.{all_get, grant_here}
use Rattle.descriptor_spec.proofs.handed.PartLaws.{lies, pairs_stand, pairs_count}

module _ (s : List ℕ) (at : ℕ) (g : Grant) where
  -- the keys of a grant stand behind its head
  keys_at : Has s at (enc_grant g)
      → Has s (at + length (head 5 (2 + size g.constraints)))
      ((k_modes ++ enc_modes g.modes) ++ (enc_opt k_constraints enc_pairs g.constraints ++ (k_resource_pattern ++ enc_text g.pattern)))
  unfolding enc_grant
  keys_at h = has_right s at (head 5 (2 + size g.constraints)) _ h

  -- its modes
  modes_stand : Has s at (enc_grant g) → Has s (grant_view at g).modes (array enc_mode g.modes)
  unfolding enc_modes
  modes_stand h = has_right s _ k_modes _ (has_left s _ (k_modes ++ enc_modes g.modes) _ (keys_at h))

  -- its constraints
  constraints_stand : Has s at (enc_grant g) → StandsIf s (grant_view at g).constraints g.constraints
  constraints_stand h = pairs_stand s _ k_constraints g.constraints _ (has_right s _ (k_modes ++ enc_modes g.modes) _ (keys_at h))

  -- the numbers of what is seen of a grant are the grant's
  seen_found : (n : ℕ) → GrantOk g → Has s at (enc_grant g) → GrantHandedBack s g (grant_numbers (got (grant_view at g) n))
  seen_found n q h =
      record {
        found = refl;
        pattern = lies s _ g.pattern (pattern_at_lem s at g h);
        mask = (mask_exactly g q).0;
        modes = modes_stand h;
        constraints = constraints_stand h;
        pairs = pairs_count g.constraints;
      }

-- so are those of what is read of it
read_found : (s : List ℕ) → AreBytes s → (at : ℕ) (g : Grant) → GrantOk g → Has s at (enc_grant g)
    → GrantHandedBack s g (grant_numbers (grant_at s at))
read_found s bs at g q h =
    subst (λ (o : Got GrantSeen). GrantHandedBack s g (grant_numbers o)) (sym (complete (grant_exact s bs at) g q h))
    (seen_found s at g (at + length (enc_grant g)) q h)

pub grant_found : GrantFound
grant_found s bs at g w = read_found s bs at g (within_grant _ g w.allowed) w.there

-- where no grant stands there are zeros
none_found : (s : List ℕ) (at : ℕ) (o : Got GrantSeen) → Reads s at GrantOk enc_grant (grant_view at) o
    → ((g : Grant) → GrantStands s at g → ⊥)
    → grant_numbers o ≡ no_grant
none_found s at (got v n) (found a) f = absurd (f a.val (record { allowed = grant_within _ a.val a.fine refl; there = a.has }))
none_found s at refused (lacks r) f = refl

pub grant_absent : GrantAbsent
grant_absent s bs at = (
  λ e g w. omega (arith, (grant_found s bs at g w).found, ap (λ n. n.found) e),
  λ f. none_found s at _ (grant_exact s bs at) f,
)

pub grant_handed : GrantHanded
grant_handed d bs q i g l e =
    read_found _ bs _ g (subst GrantOk e (all_get GrantOk d.payload.grants i g l q.payload.grants)) (grant_here d q i g l e)
