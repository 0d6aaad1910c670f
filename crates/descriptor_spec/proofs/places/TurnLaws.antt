-- The grants of a descriptor are read one after the other (specs/Laws.antt). Assumes nothing.
use mathlib.Core.Path.{◌≡◌, refl, sym, ap, ◌∙◌, subst}
use mathlib.Core.List.{List, [], ◌∷◌}
use Prim.Native.Nat.{ℕ, zero, suc, ◌+◌, ◌-◌}
use native.Mathlib.Nat.{sub-zero, zero-sub, suc-sub-suc}
use lib.ListN.{length, take, drop}
use lib.Seq.{take-nil, drop-drop}
use Rattle.resource_spec.specs.Identifier.{levels_place, terminal_size}
use Rattle.octets.specs.Bytes.{AreBytes, part, Has}
use Rattle.exact.specs.Reads.{enc_all}
use Rattle.octets.proofs.BytesLaws.{has_left, has_right, has_part}
use Rattle.exact.proofs.ReadsLaws.{complete}
use Rattle.descriptor_spec.specs.Model.{Grant, enc_grant, encode}
use Rattle.descriptor_spec.specs.Allowed.{GrantOk, All}
use Rattle.descriptor_spec.specs.View.{grant_view, descriptor_view}
use Rattle.descriptor_spec.specs.Laws.{SeenAs, InTurn, no_more, one_more, GrantsInTurn, GrantsAllowed}
use Rattle.descriptor_spec.proofs.grants.GrantLaws.{grant_exact}
use Rattle.descriptor_spec.proofs.grants.GrantsLaws.{OwnedBy, pattern_at_lem}
use Rattle.descriptor_spec.proofs.places.SeenLaws.{all_get, all_grants}
use Rattle.descriptor_spec.proofs.handed.BackLaws.{seen_handed}

-- the first n elements without the first m are the first n - m of those after the first m
drop_take : (m n : ℕ) (l : List ℕ) → drop m (take n l) ≡ take (n - m) (drop m l)
drop_take zero n l = rw (sub-zero n)
drop_take (suc m) zero l = rw (zero-sub (suc m))
drop_take (suc m) (suc n) [] = sym (take-nil (suc n - suc m))
drop_take (suc m) (suc n) (x ∷ l) = rw (suc-sub-suc n m) (drop_take m n l)

-- a part without its first 46 bytes is the part that begins 46 bytes later
part_below : (s : List ℕ) (a n : ℕ) → part s (a + levels_place) (n - levels_place) ≡ drop levels_place (part s a n)
unfolding part
part_below s a n = sym (drop_take levels_place n (drop a s) ∙ ap (take (n - levels_place)) (drop-drop levels_place a s))

module _ (s t : List ℕ) (bs : AreBytes s) where
  -- what is seen of a grant that stands at a place
  grant_seen : (at : ℕ) (g : Grant) → GrantOk g → take terminal_size g.pattern ≡ t → Has s at (enc_grant g) → SeenAs s t g (grant_view at g)
  grant_seen at g q o h =
      let e = has_part s _ g.pattern (pattern_at_lem s at g h) in
      record {
        allowed = q;
        terminal = o;
        mask = refl;
        pairs = refl;
        pattern = e;
        below = part_below s (grant_view at g).pattern.start (grant_view at g).pattern.len ∙ ap (drop levels_place) e;
      }

  -- grants that stand one after the other are read so
  turn_from : (gs : List Grant) (at : ℕ) → All GrantOk gs → OwnedBy t gs → Has s at (enc_all enc_grant gs) → InTurn s t (length gs) at gs
  turn_from [] at a o h = no_more at
  turn_from (g ∷ gs) at a o h =
      let mine : Has s at (enc_grant g) = has_left s at (enc_grant g) (enc_all enc_grant gs) h in
      one_more (length gs) at (at + length (enc_grant g)) (grant_view at g) g gs (complete (grant_exact s bs at) g a.0 mine)
      (grant_seen at g a.0 o.0 mine)
      (turn_from gs (at + length (enc_grant g)) a.1 o.1 (has_right s at (enc_grant g) (enc_all enc_grant gs) h))

pub grants_in_turn : GrantsInTurn
grants_in_turn d bs q =
    subst (λ (n : ℕ). InTurn (encode d) d.payload.terminal n (descriptor_view 0 d).payload.grants.start d.payload.grants)
    (sym (seen_handed d q).grants)
    (turn_from (encode d) d.payload.terminal bs d.payload.grants _ q.payload.grants q.payload.patterns (all_grants d q))

pub grants_allowed : GrantsAllowed
grants_allowed d q i g l = all_get GrantOk d.payload.grants i g l q.payload.grants
