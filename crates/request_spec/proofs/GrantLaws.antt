-- The grant that is picked in the encoding of a descriptor is the one that is picked of its grants (specs/Meaning.antt). Assumes nothing.
use mathlib.Core.Path.{◌≡◌, refl, sym, ap, ap₂, ◌∙◌}
use mathlib.Core.Bool.{Bool, true, false, cond, ◌&&◌, and_comm, and-false}
use mathlib.Core.List.{List}
use Prim.Native.Nat.{ℕ, suc, ◌+◌, ◌<◌}
use lib.ListN.{take, drop}
use lib.Dec.{eqb}
use Rattle.resource_spec.specs.Identifier.{levels_place, terminal_size}
use Rattle.octets.specs.Bytes.{AreBytes, same}
use Rattle.octets.proofs.Tests.{and_left, and_right}
use Rattle.exact.specs.Reads.{got}
use Rattle.resource_spec.specs.Pattern.{admits, equal_names}
use Rattle.resource_spec.specs.Text.{resource_ok, path_of, pattern_of, levels_match, levels_named}
use Rattle.entries_spec.specs.Model.{pair_count}
use Rattle.descriptor_spec.specs.Model.{Grant, Descriptor, encode}
use Rattle.descriptor_spec.specs.Allowed.{is_in, GrantOk, Formed}
use Rattle.descriptor_spec.specs.Reader.{has_mode, GrantSeen, grant_at}
use Rattle.descriptor_spec.specs.View.{mask_of, descriptor_view}
use Rattle.descriptor_spec.specs.Code.{fields_of}
use Rattle.descriptor_spec.specs.Laws.{SeenAs, InTurn, no_more, one_more}
use Rattle.descriptor_spec.proofs.Laws.{seen_handed, mask_exactly, grants_in_turn}
use Rattle.request_spec.specs.Decision.{Matched}
use Rattle.std.specs.Prelude.{None}
use Rattle.request_spec.specs.Decision.{serves, names_of, more_exact, picked_with, pick_from, matched_on}
use Rattle.request_spec.specs.Meaning.{pick_serving}
use Rattle.request_spec.specs.Promises.{grant_serves, grant_names}
use Rattle.resource_spec.proofs.Laws.{admits_text, names_text}

-- ---- one grant

-- the pattern of a grant matches a resource id exactly where the first 45 bytes are the same and the levels below match
grant_admits_lem : (r : List ℕ) (g : Grant) (c : Bool) → GrantOk g → resource_ok r ≡ true
    → same (take terminal_size g.pattern) (take terminal_size r) ≡ c
    → admits (pattern_of g.pattern) (path_of r) ≡ (c && levels_match (drop levels_place g.pattern) (drop levels_place r))
grant_admits_lem r g c o w t =
    admits_text g.pattern r o.pattern w
    ∙ ap (λ (c : Bool). c && levels_match (drop levels_place g.pattern) (drop levels_place r)) t

-- a grant that is seen in b serves a resource id of its terminal exactly where the grant itself serves
serves_agree : (b t r : List ℕ) (m : ℕ) (g : Grant) (v : GrantSeen) → SeenAs b t g v → resource_ok r ≡ true → m < 4
    → same t (take terminal_size r) ≡ true
    → serves b (drop levels_place r) m v ≡ grant_serves g m (path_of r)
unfolding serves
serves_agree b t r m g v f w h s =
    let few : Bool = eqb (pair_count g.constraints) 0 in
    let whole = grant_admits_lem r g true f.allowed w (ap (λ (x : List ℕ). same x (take terminal_size r)) f.terminal ∙ s) in
    ap₂ ◌&&◌ (ap (λ (x : ℕ). has_mode x m) f.mask ∙ (mask_exactly g f.allowed).1 m h)
    (ap₂ ◌&&◌ (ap (λ (n : ℕ). eqb n 0) f.pairs) (ap (λ (x : List ℕ). levels_match x (drop levels_place r)) f.below ∙ sym whole)
    ∙ and_comm few (admits (pattern_of g.pattern) (path_of r)))

-- a grant of another terminal does not serve
other_serves : (b t r : List ℕ) (m : ℕ) (g : Grant) (v : GrantSeen) → SeenAs b t g v → resource_ok r ≡ true → same t (take terminal_size r)
    ≡ false
    → grant_serves g m (path_of r) ≡ false
other_serves b t r m g v f w s =
    let whole = grant_admits_lem r g false f.allowed w (ap (λ (x : List ℕ). same x (take terminal_size r)) f.terminal ∙ s) in
    ap (λ (c : Bool). is_in m g.modes && (c && eqb (pair_count g.constraints) 0)) whole ∙ and-false (is_in m g.modes)

-- where the grant serves, the levels of the resource id that what is seen matches by equal names are the grant's
names_agree : (b t r : List ℕ) (m : ℕ) (g : Grant) (v : GrantSeen) → SeenAs b t g v → resource_ok r ≡ true
    → grant_serves g m (path_of r) ≡ true
    → names_of b (drop levels_place r) v ≡ grant_names g (path_of r)
unfolding names_of
names_agree b t r m g v f w e =
    let few : Bool = eqb (pair_count g.constraints) 0 in
    let here : Bool = admits (pattern_of g.pattern) (path_of r) in
    let names : ℕ = equal_names (pattern_of g.pattern).below (path_of r).names in
    ap (λ (x : List ℕ). levels_named x (drop levels_place r)) f.below
    ∙ sym (names_text g.pattern r f.allowed.pattern w)
    ∙ sym (ap (λ (c : Bool). cond c names 0) (and_left here few (and_right (is_in m g.modes) (here && few) e)))

-- what is picked after a grant that is seen in b is what is picked after the grant itself
picked_agree : (b t r : List ℕ) (m : ℕ) (g : Grant) (v : GrantSeen) (best : Matched) (i : ℕ) → SeenAs b t g v → resource_ok r ≡ true → m < 4
    → same t (take terminal_size r) ≡ true
    → picked_with (serves b (drop levels_place r) m v) best i v.mask (names_of b (drop levels_place r) v)
    ≡ picked_with (grant_serves g m (path_of r)) best i (mask_of g.modes) (grant_names g (path_of r))
picked_agree b t r m g v best i f w h s =
    ap₂ (λ (c : Bool) (k : ℕ). picked_with c best i k (names_of b (drop levels_place r) v)) (serves_agree b t r m g v f w h s) f.mask
    ∙ go (grant_serves g m (path_of r)) refl
  where
    go : (c : Bool) → grant_serves g m (path_of r) ≡ c
        → picked_with c best i (mask_of g.modes) (names_of b (drop levels_place r) v)
        ≡ picked_with c best i (mask_of g.modes) (grant_names g (path_of r))
    go true e = ap (more_exact best i (mask_of g.modes)) (names_agree b t r m g v f w e)
    go false e = refl

-- ---- all grants

-- one grant that is read, and what is picked with the next ones
pick_step : (b r : List ℕ) (m n at next i : ℕ) (best : Matched) (v : GrantSeen) → grant_at b at ≡ got v next
    → pick_from b r m (suc n) at i best
    ≡ pick_from b r m n next (i + 1) (picked_with (serves b r m v) best i v.mask (names_of b r v))
unfolding pick_from
pick_step b r m n at next i best v e = rw (pick_from, e)

module _ (b t r : List ℕ) (m : ℕ) (w : resource_ok r ≡ true) where
  -- for a resource id of the terminal t, what is picked of the grants that are read in turn is what is picked of the grants
  pick_from_lem : m < 4 → same t (take terminal_size r) ≡ true → {n at : ℕ} {gs : List Grant} → InTurn b t n at gs → (i : ℕ) (best : Matched)
      → pick_from b (drop levels_place r) m n at i best ≡ pick_serving gs m (path_of r) i best
  unfolding pick_from
  pick_from_lem h s (no_more at) i best = refl
  pick_from_lem h s (one_more n at next v g gs e f rest) i best =
      pick_step b (drop levels_place r) m n at next i best v e
      ∙ ap (pick_from b (drop levels_place r) m n next (i + 1)) (picked_agree b t r m g v best i f w h s)
      ∙ pick_from_lem h s rest (i + 1) (picked_with (grant_serves g m (path_of r)) best i (mask_of g.modes) (grant_names g (path_of r)))

  -- for a resource id of another terminal none of them is picked
  pick_none : same t (take terminal_size r) ≡ false → {n at : ℕ} {gs : List Grant} → InTurn b t n at gs → (i : ℕ) (best : Matched)
      → pick_serving gs m (path_of r) i best ≡ best
  pick_none s (no_more at) i best = refl
  pick_none s (one_more n at next v g gs e f rest) i best =
      ap (λ (c : Bool). pick_serving gs m (path_of r) (i + 1) (picked_with c best i (mask_of g.modes) (grant_names g (path_of r))))
      (other_serves b t r m g v f w s)
      ∙ pick_none s rest (i + 1) best

-- the grant that is picked in the encoding of a formed descriptor is the one that is picked of its grants
pub matched_agree : (d : Descriptor) (r : List ℕ) (m : ℕ) → AreBytes (encode d) → Formed d → resource_ok r ≡ true → m < 4
    → matched_on (encode d) (fields_of (descriptor_view 0 d)) r m ≡ pick_serving d.payload.grants m (path_of r) 0 None
unfolding matched_on
matched_agree d r m b q w h =
    ap (λ (x : List ℕ). cond (same x (take terminal_size r)) found None) (seen_handed d q).terminal
    ∙ go (same t (take terminal_size r)) refl
  where
    t : List ℕ
    t = d.payload.terminal

    found : Matched
    found = pick_from (encode d) (drop levels_place r) m (descriptor_view 0 d).payload.grants.count
        (descriptor_view 0 d).payload.grants.start 0 None

    go : (c : Bool) → same t (take terminal_size r) ≡ c → cond c found None ≡ pick_serving d.payload.grants m (path_of r) 0 None
    go true s = pick_from_lem (encode d) t r m w h s (grants_in_turn d b q) 0 None
    go false s = sym (pick_none (encode d) t r m w s (grants_in_turn d b q) 0 None)
