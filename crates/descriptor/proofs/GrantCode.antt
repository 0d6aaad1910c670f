-- The ways out of reading grants (specs/Reader.antt of `descriptor_spec`). Assumes nothing.
use mathlib.Core.Path.{◌≡◌, refl, sym, ap}
use mathlib.Core.List.{List}
use Prim.Native.Nat.{ℕ, ◌+◌, ◌-◌, ◌≤◌, ◌<◌}
use Rattle.exact.specs.Reads.{Got, got, refused, bind, many}
use Rattle.exact.proofs.ReadsLaws.{took, stopped}
use Rattle.exact.proofs.CountedLaws.{many_next, many_stop, many_done}
use Rattle.entries_spec.specs.Keys.{k_grants}
use Rattle.entries_spec.specs.Value.{count_at, keyed_at}
use Rattle.descriptor_spec.specs.Reader.{GrantSeen, grant_at, Sum, more_at, GrantsSeen, grants_at}

-- the grants, where so many are left to read from the place `here` on
abbrev pub grants_from : List ℕ → ℕ → ℕ → ℕ → ℕ → Sum → ℕ → Got GrantsSeen
grants_from s count start first left sum here =
    bind (many (more_at s first) left sum here) (λ sum n. got (record { count = count; start = start; first = first; sum = sum }) n)

-- the first grant was read
pub grants_begin : {c n m : ℕ} {g : GrantSeen} (s : List ℕ) (at : ℕ) → got c n ≡ keyed_at s at k_grants (λ n. count_at s n 4 1 256)
    → got g m ≡ grant_at s n
    → grants_from s c n g.pattern.start (c - 1) (record { mask = g.mask; pairs = g.pairs }) m ≡ grants_at s at
unfolding grants_at
grants_begin s at e f = took _ e (took _ f refl)

-- one grant more was read
pub grants_next : (s : List ℕ) (count start first done : ℕ) (sum : Sum) (here : ℕ) {more : Sum} {next : ℕ} → done < count
    → got more next ≡ more_at s first sum here
    → grants_from s count start first (count - (done + 1)) more next ≡ grants_from s count start first (count - done) sum here
grants_next s count start first done sum here h e =
    ap (λ (o : Got Sum). bind o (λ sum n. got (record { count = count; start = start; first = first; sum = sum }) n))
    (sym (many_next (more_at s first) sum here count done h e))

-- one was refused
pub grants_stop : (s : List ℕ) (count start first done : ℕ) (sum : Sum) (here : ℕ) → done < count → refused ≡ more_at s first sum here
    → refused ≡ grants_from s count start first (count - done) sum here
grants_stop s count start first done sum here h e = stopped _ (many_stop (more_at s first) sum here count done h e)

-- none is left
pub grants_done : (s : List ℕ) (count start first done : ℕ) (sum : Sum) (here : ℕ) → count ≤ done
    → got (record { count = count; start = start; first = first; sum = sum }) here
    ≡ grants_from s count start first (count - done) sum here
grants_done s count start first done sum here h = took _ (many_done (more_at s first) count done sum here h) refl
