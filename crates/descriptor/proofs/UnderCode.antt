-- Laws of grants whose pattern has a terminal id that was checked before (specs/Code.antt). Assumes nothing.
use mathlib.Core.Path.{◌≡◌, refl, sym, ap, ◌∙◌}
use mathlib.Core.Bool.{Bool, true, false, ◌&&◌}
use mathlib.Core.List.{List}
use Prim.Native.Nat.{ℕ, ◌+◌, ◌≤◌}
use native.Mathlib.Omega.{arith}
use lib.ListN.{length, take, drop, length-take}
use lib.Seq.{take-take}
use lib.Dec.{eqb}
use Rattle.std.proofs.Common.{Option, Some, None}
use Rattle.octets.specs.Bytes.{part, same, has_at}
use Rattle.octets.specs.Span.{Span}
use Rattle.octets.proofs.TruthLaws.{T_true}
use Rattle.exact.specs.Reads.{Got, got, refused, bind, guard}
use Rattle.exact.specs.Holds.{Holds}
use Rattle.exact.proofs.HoldsLaws.{held, holds_bind, holds_then, holds_guard}
use Rattle.exact.proofs.ReadsLaws.{took, stopped}
use Rattle.cbor_item_spec.specs.Head.{span_at}
use Rattle.cbor_item_spec.specs.Laws.{SpanTo}
use Rattle.cbor_item_spec.proofs.Laws.{spans_end}
use Rattle.resource_spec.specs.Identifier.{is_terminal, terminal_size}
use Rattle.resource_spec.specs.Text.{pattern_ok}
use Rattle.resource_spec.proofs.Laws.{pattern_terminal, pattern_short}
use Rattle.resource.specs.Code.{pattern_under}
use Rattle.resource.proofs.Laws.{pattern_under_lem}
use Rattle.entries_spec.specs.Kinds.{is_kind}
use Rattle.entries_spec.specs.Keys.{k_modes, k_constraints, k_resource_pattern}
use Rattle.entries_spec.specs.Value.{count_at, string_at, kind_at, flag, placed}
use Rattle.entries_spec.specs.Reader.{opt_pairs_at}
use Rattle.descriptor_spec.specs.Reader.{modes_at, GrantSeen, grant_at, Sum, add_grant, more_at}
use Rattle.descriptor_spec.specs.Laws.{GrantIn}
use Rattle.descriptor_spec.proofs.Laws.{grant_bounds}
use Rattle.descriptor.specs.Code.{pattern_at, grant_under}

-- ---- any terminal id

-- a grant of any terminal id is the grant at the place
pub any_grant : (s : List ℕ) (at : ℕ) → grant_under s None at ≡ grant_at s at
unfolding grant_under grant_at kind_at is_kind
any_grant s at = refl

-- a pattern that was read ends within s
pub pattern_ends : {c : Span} {n : ℕ} (s : List ℕ) (terminal : Option ℕ) (at : ℕ) → got c n ≡ pattern_at s terminal at → n ≤ length s
unfolding string_at
pattern_ends s terminal at e =
    held (λ c n. n ≤ length s)
    (holds_guard (λ c n. n ≤ length s) _ _
    (λ t. holds_bind (SpanTo s (at + length k_resource_pattern)) (λ c n. n ≤ length s) _ _ (spans_end s (at + length k_resource_pattern) 3)
    (λ c n i. holds_guard (λ c n. n ≤ length s) _ _ (λ u. i.fits))))
    e

-- ---- the terminal id of a grant that was read

-- the first bytes of a part that has as many are the part of as many bytes
front_part : (s : List ℕ) (at n k : ℕ) → k ≤ n → take k (part s at n) ≡ part s at k
unfolding part
front_part s at n k h = take-take k n (drop at s) h

-- a part has no more bytes than are asked for
part_le : (s : List ℕ) (at n : ℕ) → length (part s at n) ≤ n
unfolding part
part_le s at n = omega (arith, length-take n (drop at s))

-- the pattern begins with a terminal id
pub grant_terminal : {g : GrantSeen} {n : ℕ} (s : List ℕ) (at : ℕ) → got g n ≡ grant_at s at
    → is_terminal (part s g.pattern.start terminal_size) ≡ true
unfolding grant_at kind_at string_at is_kind
grant_terminal s at e =
    held P
    (holds_then P _ _ (λ c n. holds_then P _ _ (λ mask n₁. holds_then P _ _ (λ constraints n₂.
    holds_bind Q P _ _ (holds_guard Q _ _ (λ t. holds_then Q _ _ (λ c n. holds_guard Q _ _ (λ u. (T_true _).0 u))))
    (λ c n i. holds_guard P _ _ (λ t. begins c i))))))
    e
  where
    P : GrantSeen → ℕ → Type 0
    P g n = is_terminal (part s g.pattern.start terminal_size) ≡ true

    Q : Span → ℕ → Type 0
    Q c n = pattern_ok (part s c.start c.len) ≡ true

    begins : (c : Span) → pattern_ok (part s c.start c.len) ≡ true → is_terminal (part s c.start terminal_size) ≡ true
    begins c i =
        let long : terminal_size ≤ c.len = omega (arith, (pattern_short _ i).0, part_le s c.start c.len) in
        ap is_terminal (sym (front_part s c.start c.len terminal_size long)) ∙ pattern_terminal _ i

-- ---- one more grant

-- a reader and then another, which is known where the first one answers
bind_held : {R Q : Type 0} (P : R → ℕ → Type 0) (o : Got R) (f k : R → ℕ → Got Q) → Holds P o
    → ((r : R) (n : ℕ) → P r n → f r n ≡ k r n) → bind o f ≡ bind o k
unfolding bind
bind_held P (got r n) f k h e = e r n h
bind_held P refused f k h e = refl

-- what is read behind the first of two readers is the same
bind_both : {R Q S T : Type 0} (o : Got R) (f : R → ℕ → Got Q) (k : R → ℕ → Got T) (u : Q → ℕ → Got S) (v : T → ℕ → Got S)
    → ((r : R) (n : ℕ) → bind (f r n) u ≡ bind (k r n) v) → bind (bind o f) u ≡ bind (bind o k) v
unfolding bind
bind_both (got r n) f k u v e = e r n
bind_both refused f k u v e = refl

module _ {S : Type 0} (s : List ℕ) (test first second : List ℕ → Bool) (both : (c : List ℕ) → test c ≡ (first c && second c))
    (mask modes constraints pairs : ℕ) (k : GrantSeen → ℕ → Got S) where
  -- what is seen of a grant with the pattern
  abbrev seen : Span → GrantSeen
  seen c = record { mask = mask; modes = modes; constraints = constraints; pairs = pairs; pattern = c }

  -- a string that passes a test
  abbrev passing : (List ℕ → Bool) → Bool → Got Span → Got Span
  passing t key o = guard key (bind o (λ c n. guard (t (part s c.start c.len)) (got c n)))

  -- the grant with the pattern, where its map has as many keys as its head says
  abbrev counted : Bool → Got Span → Got GrantSeen
  counted count o = bind o (λ c n. guard count (got (seen c) n))

  -- a pattern that passes two tests at once is one that passes the first, and then the second
  pattern_both : (key : Bool) (o : Got Span) (count : Bool)
      → bind (counted count (passing test key o)) k
      ≡ bind (counted count (passing first key o)) (λ g n. guard (second (part s g.pattern.start g.pattern.len)) (k g n))
  unfolding bind guard
  pattern_both false o count = refl
  pattern_both true refused count = refl
  pattern_both true (got c n) count = rw (both (part s c.start c.len)) (go (first (part s c.start c.len)) count)
    where
      found : Bool → Got Span
      found b = guard b (got c n)

      miscounts : (b : Bool) → bind (counted false (found b)) k ≡ refused
      miscounts true = refl
      miscounts false = refl

      counts : (b : Bool) → bind (counted true (found b)) k ≡ guard b (k (seen c) n)
      counts true = refl
      counts false = refl

      go : (a q : Bool)
          → bind (counted q (found (a && second (part s c.start c.len)))) k
          ≡ bind (counted q (found a)) (λ g n. guard (second (part s g.pattern.start g.pattern.len)) (k g n))
      go false q = refl
      go true false = miscounts (second (part s c.start c.len))
      go true true = counts (second (part s c.start c.len))

module _ (s : List ℕ) (first : ℕ) (sum : Sum) (at : ℕ) (e : is_terminal (part s first terminal_size) ≡ true) where
  -- the terminal id at `first`, looked for at once or after the pattern was checked
  under_any : bind (grant_under s (Some first) at) (λ g n. got (add_grant sum g) n)
      ≡ bind (grant_under s None at)
      (λ g n. guard (same (take terminal_size (part s g.pattern.start g.pattern.len)) (part s first terminal_size))
      (got (add_grant sum g) n))
  unfolding grant_under string_at
  under_any =
      bind_both (count_at s at 5 2 3) _ _ _ _ (λ c n.
      bind_both (modes_at s n) _ _ _ _ (λ mask n₁.
      bind_both (opt_pairs_at s n₁ k_constraints 8) _ _ _ _ (λ constraints n₂.
      pattern_both s (pattern_under (part s first terminal_size)) pattern_ok (λ x. same (take terminal_size x) (part s first terminal_size))
      (λ x. pattern_under_lem (part s first terminal_size) x e)
      mask (n + length k_modes) (placed constraints).at (placed constraints).size
      (λ g m. got (add_grant sum g) m) (has_at s n₂ k_resource_pattern) (span_at s (n₂ + length k_resource_pattern) 3)
      (eqb c (2 + flag constraints)))))

  -- so one more grant is one whose pattern is under the terminal id at `first`
  under_more : bind (grant_under s (Some first) at) (λ g n. got (add_grant sum g) n) ≡ more_at s first sum at
  unfolding more_at
  under_more =
      under_any
      ∙ ap (λ (o : Got GrantSeen). bind o (λ g n.
      guard (same (take terminal_size (part s g.pattern.start g.pattern.len)) (part s first terminal_size))
      (got (add_grant sum g) n))) (any_grant s at)
      ∙ bind_held (GrantIn s at) (grant_at s at) _ _ (grant_bounds s at) (λ g n i.
      ap (λ (x : List ℕ). guard (same x (part s first terminal_size)) (got (add_grant sum g) n))
      (front_part s g.pattern.start g.pattern.len terminal_size (omega (arith, i.long))))

  -- such a grant was read
  pub more_took : {g : GrantSeen} {n : ℕ} → got g n ≡ grant_under s (Some first) at → got (add_grant sum g) n ≡ more_at s first sum at
  more_took f = took (λ g n. got (add_grant sum g) n) f refl ∙ under_more

  -- none was read
  pub more_stopped : refused ≡ grant_under s (Some first) at → refused ≡ more_at s first sum at
  more_stopped f = stopped (λ g n. got (add_grant sum g) n) f ∙ under_more
