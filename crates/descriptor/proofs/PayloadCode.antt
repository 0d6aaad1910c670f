-- The code's test of a payload (specs/Code.antt). Assumes nothing.
use mathlib.Core.Path.{◌≡◌, refl}
use mathlib.Core.Bool.{Bool, ◌&&◌}
use mathlib.Core.List.{List}
use Prim.Native.Nat.{ℕ, ◌+◌}
use lib.Dec.{ltb, leb, eqb}
use Rattle.octets.specs.Bytes.{part, same}
use Rattle.resource_spec.specs.Identifier.{terminal_size}
use Rattle.entries_spec.specs.Value.{flag}
use Rattle.descriptor_spec.specs.Reader.{payload_fits}
use Rattle.descriptor.specs.declared.payload.PayloadFields.{PayloadFields}
use Rattle.descriptor.specs.Code.{payload_of}

-- the code's test of a payload is the reader's
pub fits_test : (s : List ℕ) (p : PayloadFields) (k l : ℕ) (o : Bool) → k ≡ flag p.issue.metadata
    → l ≡ flag p.grantor.grantor → o ≡ same (part s p.grants.first terminal_size) (part s p.ids.terminal terminal_size)
    → (eqb p.keys (8 + (k + l)) &&
    (o && (leb p.issue.issued_at p.grantor.not_before && ltb p.grantor.not_before p.issue.not_after)))
    ≡ payload_fits s (payload_of p)
unfolding payload_fits
fits_test s p k l o e f g = rw (e, f, g) refl
