-- `first` meets its contract.
use Rattle.std.proofs.Common.{◌≡◌, ℕ, ◌-◌}
use Rattle.narrowing.specs.Code.{Filled, first_in}
use Rattle.narrowing.proofs.search.Parent.first.Given as goal

-- the search through the grants from i on answers what the whole search does
abbrev pub invariant-loop-i : goal.invariant-loop-i
invariant-loop-i l =
    (let s = l.self.bytes.now in
    (count at : ℕ) → Filled s l.self.rows.now count at → first_in s at count l.self.shared l.child l.i (l.grants - l.i) l.here
    ≡ first_in s at count l.self.shared l.child 0 l.grants l.from)
