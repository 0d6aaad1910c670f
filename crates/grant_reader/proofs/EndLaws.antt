-- At the end of the bytes no grant is read. Assumes nothing.
use Rattle.std.specs.Prelude.{◌≡◌, ℕ, ◌≤◌, List, length}
use mathlib.Core.Path.{sym}
use native.Mathlib.Omega.{arith}
use borrow.Author.Tests.{le-leb}
use Rattle.exact.specs.Reads.{refused}
use Rattle.cbor_item_spec.specs.Head.{head_at}
use Rattle.exact.proofs.ReadsLaws.{stopped}
use Rattle.entries_spec.specs.Value.{count_at}
use Rattle.descriptor_spec.specs.Reader.{grant_at}

-- there is no head
head_end : (s : List ℕ) → refused ≡ head_at s (length s)
unfolding head_at
head_end s = let l : length s ≤ length s = omega arith in rw (le-leb _ _ l)

-- so there is no number of keys
count_end : (s : List ℕ) → refused ≡ count_at s (length s) 5 2 3
unfolding count_at
count_end s = stopped _ (head_end s)

-- and no grant
pub end_none : (s : List ℕ) → grant_at s (length s) ≡ refused
unfolding grant_at
end_none s = sym (stopped _ (count_end s))
