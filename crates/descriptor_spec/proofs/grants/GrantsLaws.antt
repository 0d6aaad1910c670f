-- The reader of grants is exact (specs/Reader.antt): all of them have the terminal id of the first. Assumes nothing.
use mathlib.Core.Path.{◌≡◌, refl, sym, subst}
use mathlib.Core.List.{List, [], ◌∷◌, ◌++◌, append_assoc}
use Prim.Native.Nat.{ℕ, suc, ◌+◌, ◌-◌, ◌≤◌}
use native.Mathlib.Omega.{arith}
use lib.ListN.{length, take}
use lib.Dec.{lit<}
use Rattle.resource_spec.specs.Identifier.{terminal_size}
use Rattle.octets.specs.Bytes.{AreBytes, part, Has, same}
use Rattle.exact.specs.Reads.{Reads, enc_opt, enc_all, AllFrom, view_all}
use Rattle.cbor_item_spec.specs.Encoding.{head}
use Rattle.octets.proofs.BytesLaws.{has_left, has_right, part_take}
use Rattle.exact.proofs.ReadsLaws.{recast, seq, keyed, refine, mapped}
use Rattle.exact.proofs.CountedLaws.{counted}
use Rattle.entries_spec.specs.Keys.{k_grants, k_modes, k_constraints, k_resource_pattern}
use Rattle.entries_spec.specs.Model.{size, enc_pairs}
use Rattle.descriptor_spec.specs.Model.{Grant, enc_modes, enc_grant, enc_grants}
use Rattle.descriptor_spec.specs.Allowed.{GrantOk, All}
use Rattle.descriptor_spec.specs.Reader.{Sum, add_grant, more_at, grants_at}
use Rattle.descriptor_spec.specs.View.{grant_view, sum_from, grants_rest, grants_view}
use Rattle.octets.proofs.TruthLaws.{same_test}
use Rattle.entries_spec.proofs.ValueLaws.{count_exact}
use Rattle.resource_spec.proofs.Laws.{pattern_short}
use Rattle.descriptor_spec.proofs.grants.GrantLaws.{grant_exact}

-- ---- what is allowed

-- the first 45 bytes of a pattern: its terminal id
abbrev pub owner_of : Grant → List ℕ
owner_of g = take terminal_size g.pattern

-- an allowed grant of the terminal t
abbrev pub Of : List ℕ → Grant → Type 0
Of t g = GrantOk g × (owner_of g ≡ t)

-- the terminal is the same for every grant
abbrev pub constant : List ℕ → Grant → List ℕ
constant t g = t

-- allowed grants, all of the terminal of the first
abbrev pub Together : List Grant → Type 0
Together [] = ⊥
Together (g ∷ gs) = GrantOk g × AllFrom Of constant (owner_of g) gs

-- the terminal of the first
abbrev pub owner : List Grant → List ℕ
owner [] = []
owner (g ∷ gs) = owner_of g

-- 1 to 256 grants of one terminal
pub record GrantsOk (gs : List Grant) : Type 0 where
  pub least : 1 ≤ length gs
  pub most : length gs ≤ 256
  pub each : Together gs

-- each is of the terminal t
abbrev pub OwnedBy : List ℕ → List Grant → Type 0
OwnedBy t gs = All (λ (g : Grant). owner_of g ≡ t) gs

-- allowed grants of t, one by one, are all allowed and all of t
of_each : (t : List ℕ) (gs : List Grant) → AllFrom Of constant t gs → All GrantOk gs × OwnedBy t gs
of_each t [] a = (tt, tt)
of_each t (g ∷ gs) a = let r = of_each t gs a.1 in ((a.0.0, r.0), (a.0.1, r.1))

-- and back
each_of : (t : List ℕ) (gs : List Grant) → All GrantOk gs → OwnedBy t gs → AllFrom Of constant t gs
each_of t [] a b = tt
each_of t (g ∷ gs) a b = ((a.0, b.0), each_of t gs a.1 b.1)

-- grants of one terminal, where the first one's is t: each is of t
pub together_of : (t : List ℕ) (gs : List Grant) → GrantsOk gs → owner gs ≡ t → All GrantOk gs × OwnedBy t gs
together_of t [] q e = absurd q.each
together_of t (g ∷ gs) q e =
    let r = of_each t gs (subst (λ (u : List ℕ). AllFrom Of constant u gs) e q.each.1) in
    ((q.each.0, r.0), (e, r.1))

-- and back
pub of_together : (t : List ℕ) (gs : List Grant) → 1 ≤ length gs → length gs ≤ 256 → All GrantOk gs → OwnedBy t gs
    → GrantsOk gs × (owner gs ≡ t)
of_together t [] lo hi a b = absurd (omega arith)
of_together t (g ∷ gs) lo hi a b = (
  record {
    least = lo;
    most =
        hi;
    each = (a.0, subst (λ (u : List ℕ). AllFrom Of constant u gs) (sym b.0) (each_of t gs a.1 b.1));
  },
  b.0,
)

-- ---- what is summed

-- a grant at a place adds its mask and its pairs
abbrev add_seen : Sum → Grant → ℕ → Sum
add_seen sum g at = add_grant sum (grant_view at g)

-- what the loop sums is the sum of the grants
sum_seen : (sum : Sum) (at : ℕ) (gs : List Grant) → view_all enc_grant add_seen sum at gs ≡ sum_from sum gs
sum_seen sum at [] = refl
sum_seen sum at (g ∷ gs) = sum_seen (add_seen sum g at) (at + length (enc_grant g)) gs

-- the encoding of grants after their key
abbrev pub enc_keyed : List Grant → List ℕ
enc_keyed gs = k_grants ++ enc_grants gs

-- ---- where a pattern stands

module _ (s : List ℕ) where
  -- the pattern of a grant at the place
  pub pattern_at_lem : (at : ℕ) (g : Grant) → Has s at (enc_grant g) → Has s (grant_view at g).pattern.start g.pattern
  unfolding enc_grant
  pattern_at_lem at g h =
      let h₁ = has_right s _ (head 5 (2 + size g.constraints)) _ h in
      let h₂ = has_right s _ (k_modes ++ enc_modes g.modes) _ h₁ in
      let h₃ = has_right s _ (enc_opt k_constraints enc_pairs g.constraints) _ h₂ in
      let h₄ = has_right s _ k_resource_pattern _ h₃ in
      has_right s _ (head 3 (length g.pattern)) g.pattern h₄

  -- its first 45 bytes
  owner_at : (at : ℕ) (g : Grant) → GrantOk g → Has s at (enc_grant g) → part s (grant_view at g).pattern.start terminal_size ≡ owner_of g
  owner_at at g q h = part_take s _ terminal_size g.pattern (omega (arith, pattern_short g.pattern q.pattern)) (pattern_at_lem at g h)

  -- those of the first grant
  pub first_at : (at : ℕ) (gs : List Grant) → GrantsOk gs → Has s at (enc_keyed gs) → part s (grants_view at gs).first terminal_size
      ≡ owner gs
  unfolding enc_grants
  first_at at [] q h = absurd q.each
  first_at at (g ∷ gs) q h =
      let n : List ℕ = head 4 (suc (length gs)) in
      owner_at _ g q.each.0
      (has_left s _ (enc_grant g) (enc_all enc_grant gs)
      (has_right s at (k_grants ++ n) _ (subst (Has s at) (sym (append_assoc k_grants n (enc_all enc_grant (g ∷ gs)))) h)))

-- ---- the readers

-- grants as a count, the first and the others
grants_from_lem : (gs : List Grant) → GrantsOk gs
    → (x : ℕ × (Grant × List Grant))
    × (((1 ≤ x.0) × (x.0 ≤ 256))
    × (GrantOk x.1.0 × ((length x.1.1 ≡ x.0 - 1) × AllFrom Of constant (owner_of x.1.0) x.1.1)))
    × ((k_grants ++ head 4 x.0) ++ (enc_grant x.1.0 ++ enc_all enc_grant x.1.1) ≡ enc_keyed gs)
    × (◌≡◌ {A = List Grant} (x.1.0 ∷ x.1.1) gs)
unfolding enc_grants
grants_from_lem [] q = absurd q.each
grants_from_lem (g ∷ gs) q = (
  (suc (length gs), (g, gs)),
  ((omega arith, q.most), (q.each.0, (omega arith, q.each.1))),
  append_assoc k_grants
      (head 4 (suc (length gs))) (enc_all enc_grant (g ∷ gs)),
  refl,
)

module _ (s : List ℕ) (bs : AreBytes s) where
  -- one more grant is read exactly, where its terminal is to be that whose id stands at `first`
  more_exact_lem : (first : ℕ) (t : List ℕ) (sum : Sum) (at : ℕ) → part s first terminal_size ≡ t
      → Reads s at (Of t) enc_grant (λ (g : Grant). add_seen sum g at) (more_at s first sum at)
  unfolding more_at
  more_exact_lem first t sum at i =
      refine (grant_exact s bs at) (λ g. owner_of g ≡ t) (λ g. add_seen sum g at)
      (λ g n. same (part s g.pattern.start terminal_size) (part s first terminal_size)) (λ g n. add_grant sum g)
      (λ g p h. (rw (owner_at s at g p h, i) (same_test (owner_of g) t), refl))

  -- grants are read exactly
  pub grants_exact : (at : ℕ) → Reads s at GrantsOk enc_keyed (grants_view at) (grants_at s at)
  unfolding grants_at enc_grants
  grants_exact at =
      recast
      (seq _ (keyed k_grants (count_exact s bs _ 4 1 256 (lit< tt) (lit< tt))) (λ c p₀ h₀.
      seq _ (grant_exact s bs _) (λ g p₁ h₁.
      let n = at + length (k_grants ++ head 4 c) in
      mapped
      (counted s enc_grant Of constant (λ sum t. part s (grant_view n g).pattern.start terminal_size ≡ t) add_seen
      (more_at s (grant_view n g).pattern.start)
      (λ sum t at i. more_exact_lem _ t sum at i)
      (λ sum t at x i q h. i)
      (c - 1) _ (owner_of g) _ (owner_at s _ g p₁ h₁))
      (λ gs. grants_rest n g gs) _
      (λ gs q h₂. let e : c ≡ suc (length gs) = omega arith in rw (sum_seen, e)))))
      GrantsOk enc_keyed (grants_view at) (λ v. v.1.0 ∷ v.1.1)
      (λ v p h.
      let e : suc (length v.1.1) ≡ v.0 = omega arith in (
        record { least = omega arith; most = omega arith; each = (p.1.0, p.1.1.1) },
        rw e
            (sym (append_assoc k_grants (head 4 v.0) _)),
        rw e,
      ))
      (λ gs q h. grants_from_lem gs q)
