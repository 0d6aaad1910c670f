-- The layout of an image in document 01's numbers, and which bodies a buffer holds (specs/Image.antt). Assumes nothing.
use mathlib.Core.Path.{◌≡◌, refl, sym, ap, ap₂, ◌∙◌}
use mathlib.Core.Bool.{true, false, false≢true}
use mathlib.Core.Logic.{◌↔◌}
use mathlib.Core.List.{List, [], ◌∷◌, ◌++◌, append_assoc, append-nil}
use Prim.Native.Nat.{ℕ, ◌^◌, ◌≤◌, ◌<◌}
use native.Mathlib.Omega.{arith}
use lib.ListN.{length}
use Rattle.octets.specs.Bytes.{same}
use Rattle.octets.specs.Number.{big_endian}
use Rattle.exact.specs.Reads.{AllFrom}
use Rattle.image_spec.specs.Layout.{body_width, mask_width, edition1, edition2, most_rows, row_place}
use Rattle.image_spec.specs.declared.layout.Layout.{Layout}
use Rattle.image_spec.specs.Image.{Row, id_of, modes_of, header, row, rows_of, joined, image_of, has_id, BodyOk, seen_with, Every}
use Rattle.image_spec.specs.Image.{MomentOk, Holds, body_with}
use Rattle.image_spec.specs.Promises.{four, eight, first_row, Layout1Fixed, Layout2Fixed, RowsInTurn, answer_of, IdsDiffer}
use Rattle.image_spec.specs.Promises.{Holds1Exactly, Holds2Exactly, BodyOfId}
use Rattle.image_spec.proofs.RowLaws.{id_length, modes_small}
use Rattle.octets.proofs.Tests.{or_no_left, or_no_right, or_true}
use Rattle.octets.proofs.SameLaws.{equal_same, not_same}
use Rattle.image_spec.proofs.ListLaws.{rest_new, has_snoc, with_first, with_rest}
use Rattle.image_spec.proofs.ReadLaws.{read_zero, zero_read}

-- ---- the layout

-- equal heads and tails make equal lists
cons : {x y : ℕ} {xs ys : List ℕ} → x ≡ y → xs ≡ ys → (x ∷ xs) ≡ (y ∷ ys)
cons e f = ap₂ (λ (a : ℕ) (l : List ℕ). a ∷ l) e f

-- a number in 4 bytes
in_four : (n : ℕ) → big_endian body_width n ≡ four n
unfolding big_endian
in_four n = cons (omega arith) (cons (omega arith) refl)

-- a number below 256 in one byte
in_one : (n : ℕ) → n < 256 → big_endian mask_width n ≡ n ∷ []
unfolding big_endian
in_one n h = cons (omega arith) refl

-- a number in 8 bytes
in_eight : (n : ℕ) → big_endian 8 n ≡ eight n
unfolding big_endian
in_eight n =
    cons (omega arith) (cons (omega arith) (cons (omega arith) (cons (omega arith) (cons (omega arith) (cons (omega arith)
    (cons (omega arith) (cons (omega arith) refl)))))))

-- the row of a body up to its moment
first_row_lem : (at : ℕ) (b m : List ℕ)
    → id_of b ++ (big_endian body_width at ++ (big_endian body_width (length b) ++ (big_endian mask_width (modes_of b) ++ (big_endian 7 0 ++ m))))
    ≡ first_row at b ++ m
unfolding big_endian
first_row_lem at b m =
    ap (λ (l : List ℕ). id_of b ++ l)
    (ap₂ (λ (x y : List ℕ). x ++ y) (in_four at)
    (ap₂ (λ (x y : List ℕ). x ++ y) (in_four (length b))
    (ap (λ (x : List ℕ). x ++ (big_endian 7 0 ++ m)) (in_one (modes_of b) (omega (arith, modes_small b))))))
    ∙ sym (append_assoc (id_of b) (four at ++ (four (length b) ++ (modes_of b ∷ 0 ∷ 0 ∷ 0 ∷ 0 ∷ 0 ∷ 0 ∷ 0 ∷ []))) m)

-- `Layout1Fixed`
pub layout1_fixed : Layout1Fixed
unfolding header row image_of big_endian row_place
layout1_fixed = (λ n. refl, λ at r. first_row_lem at r.body [] ∙ append-nil (first_row at r.body), λ rs. refl)

-- `Layout2Fixed`
pub layout2_fixed : Layout2Fixed
unfolding header row image_of big_endian row_place
layout2_fixed = (
  λ n. refl,
  λ at r. first_row_lem at r.body (big_endian 8 r.used) ∙ ap (λ (m : List ℕ). first_row at r.body ++ m) (in_eight r.used),
  λ rs. refl,
)

-- `RowsInTurn`
pub rows_in_turn : RowsInTurn
unfolding rows_of joined
rows_in_turn = (λ l at. refl, λ l at r rs. refl, refl, λ r rs. refl, id_length)

-- ---- which bodies a buffer holds

-- bodies of which none has the id have other ids
has_none : (id : List ℕ) (bs : List Row) → has_id id bs ≡ false → Every (λ c. id_of c.body ≡ id → ⊥) bs
unfolding has_id
has_none id [] e = tt
has_none id (b ∷ bs) e = (
  λ q. false≢true (sym (or_no_left (same (id_of b.body) id) (has_id id bs) e) ∙ equal_same (id_of b.body) id q),
  has_none id bs (or_no_right (same (id_of b.body) id) (has_id id bs) e),
)

-- bodies that are allowed one after the other read with 0
all_read : (seen bs : List Row) → AllFrom BodyOk seen_with seen bs → Every (λ b. answer_of b.body ≡ 0) bs
all_read seen [] a = tt
all_read seen (b ∷ bs) a = (read_zero b.body a.0.reads, all_read (seen ++ (b ∷ [])) bs a.1)

-- their ids differ
all_differ : (seen bs : List Row) → AllFrom BodyOk seen_with seen bs → IdsDiffer bs
all_differ seen [] a = tt
all_differ seen (b ∷ bs) a =
    let m : has_id (id_of b.body) (seen ++ (b ∷ [])) ≡ true
    = has_snoc (id_of b.body) seen b ∙ rw (equal_same (id_of b.body) (id_of b.body) refl) (or_true (has_id (id_of b.body) seen)) in
    (has_none (id_of b.body) bs (rest_new (id_of b.body) (seen ++ (b ∷ [])) bs a.1 m), all_differ (seen ++ (b ∷ [])) bs a.1)

-- bodies whose ids are new stay so after a body with another id
still_new : (seen : List Row) (b : Row) (bs : List Row) → Every (λ c. has_id (id_of c.body) seen ≡ false) bs
    → Every (λ c. id_of c.body ≡ id_of b.body → ⊥) bs
    → Every (λ c. has_id (id_of c.body) (seen ++ (b ∷ [])) ≡ false) bs
still_new seen b [] n o = tt
still_new seen b (c ∷ bs) n o = (
  has_snoc (id_of c.body) seen b ∙ rw (n.0, not_same (id_of b.body) (id_of c.body) (λ e. o.0 (sym e))),
  still_new seen b bs n.1 o.1,
)

-- bodies that read with 0, whose ids are new and differ, are allowed one after the other
all_from : (seen bs : List Row) → Every (λ b. answer_of b.body ≡ 0) bs → IdsDiffer bs
    → Every (λ c. has_id (id_of c.body) seen ≡ false) bs
    → AllFrom BodyOk seen_with seen bs
all_from seen [] r o n = tt
all_from seen (b ∷ bs) r o n = (
  record { reads = zero_read b.body r.0; new = n.0 },
  all_from (seen ++ (b ∷ [])) bs r.1 o.1
      (still_new seen b bs n.1 o.0),
)

-- at first every id is new
all_new : (bs : List Row) → Every (λ c. has_id (id_of c.body) [] ≡ false) bs
unfolding has_id
all_new [] = tt
all_new (b ∷ bs) = (refl, all_new bs)

-- what is so of each row, where one follows from the other
every_to : (P Q : Row → Type 0) → ((r : Row) → P r → Q r) → (rs : List Row) → Every P rs → Every Q rs
every_to P Q f [] a = tt
every_to P Q f (r ∷ rs) a = (f r a.0, every_to P Q f rs a.1)

-- a buffer holds rows exactly when they are so many at most, their bodies read, their ids differ, their moments fit, and it is their image
holds_for : (l : Layout) (P : Row → Type 0) → ((r : Row) → MomentOk l r → P r) → ((r : Row) → P r → MomentOk l r)
    → (s : List ℕ) (rs : List Row)
    → Holds l s rs
    ↔ ((length rs ≤ most_rows l) × Every (λ r. answer_of r.body ≡ 0) rs × IdsDiffer rs × Every P rs
    × ((rest : List ℕ) × (s ≡ image_of l rs ++ rest)))
holds_for l P to from s rs = (
  λ h. (
    h.rows.few,
    all_read [] rs h.rows.each,
    all_differ [] rs h.rows.each,
    every_to (MomentOk l) P to rs h.rows.moments,
    (h.rest, h.whole),
  ),
  λ x. record {
    rows = record {
      few = x.0;
      each = all_from [] rs x.1 x.2 (all_new rs);
      moments = every_to P (MomentOk l) from rs x.3;
    };
    rest = x.4.0;
    whole = x.4.1;
  },
)

-- `Holds1Exactly`
pub holds1_exactly : Holds1Exactly
holds1_exactly = holds_for edition1 (λ r. r.used ≡ 0) (λ r m. omega (arith, m.fits)) (λ r e. record { fits = omega (arith, e) })

-- `Holds2Exactly`
pub holds2_exactly : Holds2Exactly
holds2_exactly = holds_for edition2 (λ r. r.used < 2 ^ 64) (λ r m. m.fits) (λ r m. record { fits = m })

-- `BodyOfId`
pub body_of_id : BodyOfId
unfolding body_with
body_of_id id = (
  refl,
  λ b bs e. (with_first id b bs (equal_same (id_of b.body) id e)).0,
  λ b bs n. (with_rest id b bs (not_same (id_of b.body) id n)).0,
)
