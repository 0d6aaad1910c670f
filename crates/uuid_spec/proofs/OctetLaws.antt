-- The version and the variant are in octets 6 and 8, and the layout of version 7 (specs/Uuid.antt, specs/Version7.antt). Assumes nothing.
use mathlib.Core.Path.{◌≡◌, sym, ap, ap₂, ◌∙◌, subst}
use mathlib.Core.Bool.{Bool, true, ◌&&◌}
use mathlib.Core.List.{List}
use Prim.Native.Nat.{ℕ, ◌+◌, ◌*◌, ◌/◌, ◌%◌, ◌^◌, ◌<◌}
use native.Mathlib.Nat.{div-div-eq-div-mul, div-add-mod', mod-lt}
use native.Mathlib.Omega.{arith}
use lib.ListN.{length, get_or}
use lib.Dec.{eqb, lit<}
use borrow.Author.Tests.{eqb-true, eq-eqb}
use Rattle.octets.specs.Bytes.{AreBytes}
use Rattle.octets.specs.Number.{number_at}
use Rattle.octets.proofs.Tests.{and_left, and_right, and_both}
use Rattle.octets.proofs.NumberLaws.{number_high, number_lt}
use Rattle.uuid_spec.specs.Uuid.{version, variant}
use Rattle.uuid_spec.specs.Version7.{version_octet, variant_octet, is_version7}
use Rattle.uuid_spec.specs.Promises.{OctetsExactly, Layout, LayoutExactly}

-- ---- which octets have the two fields

module _ (b : List ℕ) (bytes : AreBytes b) where
  -- the version is the high half of its octet
  pub version_octet_lem : version b ≡ get_or b version_octet 0 / 16
  unfolding number_at
  version_octet_lem =
      let n : ℕ = number_at b 0 16 in
      let high : n / 2 ^ 76 ≡ number_at b 0 7 / 16 = sym (div-div-eq-div-mul n (256 ^ 9) 16) ∙ ap (λ (x : ℕ). x / 16) (number_high b 0 7 9 bytes) in
      ap (λ (x : ℕ). x % 16) high ∙ omega (arith, bytes version_octet)

  -- the variant is the two high bits of its octet
  pub variant_octet_lem : variant b ≡ get_or b variant_octet 0 / 64
  unfolding number_at
  variant_octet_lem =
      let n : ℕ = number_at b 0 16 in
      let high : n / 2 ^ 62 ≡ number_at b 0 9 / 64 = sym (div-div-eq-div-mul n (256 ^ 7) 64) ∙ ap (λ (x : ℕ). x / 64) (number_high b 0 9 7 bytes) in
      ap (λ (x : ℕ). x % 4) high ∙ omega (arith, bytes variant_octet)

-- what is answered is whether there are 16 octets, of version 7 and that variant
octets_answer : (b : List ℕ) → AreBytes b → (eqb (length b) 16 && (eqb (version b) 7 && eqb (variant b) 2)) ≡ is_version7 b
unfolding is_version7
octets_answer b bytes = ap₂ (λ (m n : ℕ). eqb (length b) 16 && (eqb m 7 && eqb n 2)) (version_octet_lem b bytes) (variant_octet_lem b bytes)

-- `OctetsExactly`
pub octets_exactly : OctetsExactly
octets_exactly b bytes =
    let l : Bool = eqb (length b) 16 in
    let m : Bool = eqb (version b) 7 in
    let n : Bool = eqb (variant b) 2 in (
      λ a.
          let e : (l && (m && n)) ≡ true = octets_answer b bytes ∙ a in
          record {
            octets = bytes;
            size = eqb-true (length b) 16 (and_left l (m && n) e);
            version = eqb-true (version b) 7 (and_left m n (and_right l (m && n) e));
            variant = eqb-true (variant b) 2 (and_right m n (and_right l (m && n) e));
          },
      λ v. sym (octets_answer b bytes) ∙ and_both l (m && n) (eq-eqb (length b) 16 v.size)
          (and_both m n (eq-eqb (version b) 7 v.version) (eq-eqb (variant b) 2 v.variant)),
    )

-- ---- the layout

-- a number by its parts, each with what is above it
by_parts : (n m p q t a r : ℕ) → n ≡ m * 2 ^ 62 + r → m ≡ p * 4 + 2 → p ≡ q * 4096 + a → q ≡ t * 16 + 7
    → n ≡ t * 2 ^ 80 + (7 * 2 ^ 76 + (a * 2 ^ 64 + (2 * 2 ^ 62 + r)))
by_parts n m p q t a r e f g h = omega arith

-- the fields of a number, by the parts of it that version and variant leave
parts : (n : ℕ) → n / 2 ^ 76 % 2 ^ 4 ≡ 7 → n / 2 ^ 62 % 2 ^ 2 ≡ 2
    → n ≡ n / 2 ^ 80 * 2 ^ 80 + (7 * 2 ^ 76 + (n / 2 ^ 64 % 2 ^ 12 * 2 ^ 64 + (2 * 2 ^ 62 + n % 2 ^ 62)))
parts n e f =
    let low : n / 2 ^ 62 / 4 ≡ n / 2 ^ 64 = div-div-eq-div-mul n (2 ^ 62) 4 in
    let middle : n / 2 ^ 64 / 4096 ≡ n / 2 ^ 76 = div-div-eq-div-mul n (2 ^ 64) 4096 in
    let high : n / 2 ^ 76 / 16 ≡ n / 2 ^ 80 = div-div-eq-div-mul n (2 ^ 76) 16 in
    by_parts n (n / 2 ^ 62) (n / 2 ^ 64) (n / 2 ^ 76) (n / 2 ^ 80) (n / 2 ^ 64 % 2 ^ 12) (n % 2 ^ 62)
    (sym (div-add-mod' n (2 ^ 62)))
    (sym (div-add-mod' (n / 2 ^ 62) 4) ∙ ap₂ (λ (x y : ℕ). x * 4 + y) low f)
    (sym (div-add-mod' (n / 2 ^ 64) 4096) ∙ ap (λ (x : ℕ). x * 4096 + n / 2 ^ 64 % 4096) middle)
    (sym (div-add-mod' (n / 2 ^ 76) 16) ∙ ap₂ (λ (x y : ℕ). x * 16 + y) high e)

-- and back
joined : (n t a r : ℕ) → a < 2 ^ 12 → r < 2 ^ 62 → n ≡ t * 2 ^ 80 + (7 * 2 ^ 76 + (a * 2 ^ 64 + (2 * 2 ^ 62 + r)))
    → (n / 2 ^ 76 % 2 ^ 4 ≡ 7) × (n / 2 ^ 62 % 2 ^ 2 ≡ 2)
joined n t a r h k e = (omega arith, omega arith)

-- `LayoutExactly`
pub layout_exactly : LayoutExactly
layout_exactly b = (
  λ v.
      let n : ℕ = number_at b 0 16 in
      let time : n / 2 ^ 80 ≡ number_at b 0 6 = number_high b 0 6 10 v.octets in (
        record { unix_ts_ms = n / 2 ^ 80; rand_a = n / 2 ^ 64 % 2 ^ 12; rand_b = n % 2 ^ 62 },
        record {
          octets = v.octets;
          size = v.size;
          time = subst (λ (x : ℕ). x < 2 ^ 48) (sym time) (number_lt b 0 6 v.octets);
          first = mod-lt (n / 2 ^ 64) (lit< tt);
          second = mod-lt n (lit< tt);
          number = parts n v.version v.variant;
        },
      ),
  λ w.
      let l : Layout = w.0 in
      let k = joined (number_at b 0 16) l.unix_ts_ms l.rand_a l.rand_b w.1.first w.1.second w.1.number in
      record { octets = w.1.octets; size = w.1.size; version = k.0; variant = k.1 },
)
