-- Where what was read lies (specs/Laws.antt of `descriptor_spec`), of an answer that the code has. Assumes nothing.
use mathlib.Core.Path.{◌≡◌}
use mathlib.Core.List.{List}
use Prim.Native.Nat.{ℕ, ◌+◌, ◌≤◌, ◌<◌}
use native.Mathlib.Omega.{arith}
use lib.Dec.{lit<}
use lib.ListN.{length}
use Rattle.exact.specs.Reads.{got, many}
use Rattle.exact.proofs.HoldsLaws.{held, holds_of, holds_bind, holds_guard}
use Rattle.entries_spec.specs.Keys.{k_modes}
use Rattle.entries_spec.specs.Value.{count_at}
use Rattle.entries_spec.proofs.ValueBounds.{key_fits}
use Rattle.descriptor_spec.specs.Reader.{mode_at, modes_at, GrantSeen, grant_at, Sum, more_at, GrantsSeen, grants_at, Ids, ids_at}
use Rattle.descriptor_spec.specs.Reader.{PayloadSeen, payload_at}
use Rattle.descriptor_spec.specs.Laws.{MaskTo, GrantIn, MoreIn, GrantsIn, IdsIn, PayloadIn}
use Rattle.descriptor_spec.proofs.Laws.{mode_bounds, grant_bounds, more_bounds, grants_bounds, ids_bounds, payload_bounds}

-- a mask with one mode more is below 16
pub mode_small : (s : List ℕ) (mask at with' next : ℕ) → mask < 16 → got with' next ≡ mode_at s mask at → with' < 16
mode_small s mask at with' next h e = (held (MaskTo 0) (mode_bounds s mask 0 at h (omega arith)) e).0

-- the key of modes that were read lies within s
pub modes_room : {mask n : ℕ} (s : List ℕ) (at : ℕ) → got mask n ≡ modes_at s at → at + 6 ≤ length s
unfolding modes_at k_modes
modes_room s at e =
    held (λ m n. at + 6 ≤ length s)
    (holds_bind (λ c n. at + 6 ≤ length s) (λ m n. at + 6 ≤ length s) _ _
    (holds_guard (λ c n. at + 6 ≤ length s) _ _
    (λ t. holds_of (λ c n. at + 6 ≤ length s) (count_at s (at + length k_modes) 4 1 4) (λ c n f. key_fits s at k_modes (lit< tt) t)))
    (λ c n i. holds_of (λ m n. at + 6 ≤ length s) (many (mode_at s) c 0 n) (λ m k f. i)))
    e

-- a grant that was read
pub grant_room : {g : GrantSeen} {n : ℕ} (s : List ℕ) (at : ℕ) → got g n ≡ grant_at s at → GrantIn s at g n
grant_room s at e = held (GrantIn s at) (grant_bounds s at) e

-- one more grant that was read
pub more_room : {more : Sum} {n : ℕ} (s : List ℕ) (first : ℕ) (sum : Sum) (at : ℕ) → got more n ≡ more_at s first sum at
    → MoreIn sum at more n
more_room s first sum at e = held (MoreIn sum at) (more_bounds s first sum at) e

-- grants that were read
pub grants_room : {g : GrantsSeen} {n : ℕ} (s : List ℕ) (at : ℕ) → got g n ≡ grants_at s at → GrantsIn s at g n
grants_room s at e = held (GrantsIn s at) (grants_bounds s at) e

-- ids that were read
pub ids_room : {ids : Ids} {n : ℕ} (s : List ℕ) (at : ℕ) → got ids n ≡ ids_at s at → IdsIn s at ids n
ids_room s at e = held (IdsIn s at) (ids_bounds s at) e

-- a payload that was read
pub payload_room : {p : PayloadSeen} {n : ℕ} (s : List ℕ) (at : ℕ) → got p n ≡ payload_at s at → (at ≤ n) × PayloadIn s p
payload_room s at e = held (λ p n. (at ≤ n) × PayloadIn s p) (payload_bounds s at) e
