-- What a row that passes the check says, and the ids of the rows before it (specs/Check.antt). Assumes nothing.
use mathlib.Core.Path.{◌≡◌, refl, sym, ap, ◌∙◌, subst}
use mathlib.Core.Bool.{Bool, true, false, not}
use mathlib.Core.List.{List}
use Prim.Native.Nat.{ℕ, suc, ◌+◌, ◌≤◌}
use native.Mathlib.Omega.{arith}
use lib.ListN.{length}
use lib.Dec.{T, leb, leb→le}
use Rattle.octets.specs.Bytes.{part, same}
use Rattle.exact.specs.Reads.{Got, got, guard}
use Rattle.descriptor_spec.specs.declared.Fields.{Fields}
use Rattle.descriptor_spec.specs.Reading.{Reading}
use Rattle.std.specs.Prelude.{Ok, Err}
use Rattle.descriptor_spec.specs.declared.ReadError.TheVariants.{Structure, Validity}
use Rattle.image_spec.specs.declared.layout.Layout.{Layout}
use Rattle.image_spec.specs.Layout.{row_place}
use Rattle.image_spec.specs.Image.{reading}
use Rattle.image_spec.specs.Check.{row_id, row_length, id_among, row_fits, on_read, row_at}

-- ---- an answer of a test and then a reader

-- what is answered after a test was answered without it, and the test holds
pub guard_got : {R : Type 0} (b : Bool) (o : Got R) (r : R) (n : ℕ) → got r n ≡ guard b o → (b ≡ true) × (got r n ≡ o)
unfolding guard
guard_got true o r n e = (refl, e)
guard_got false o r n e = absurd (let z : ◌≡◌ {A = ℕ} 0 1 = cc in omega arith)

-- what is answered of a body was answered of what was read
pub read_got : {R : Type 0} (x : Reading) (k : Fields → Got R) (r : R) (n : ℕ) → got r n ≡ on_read x k
    → (f : Fields) × (x ≡ Ok f) × (got r n ≡ k f)
read_got (Ok f) k r n e = (f, refl, e)
read_got (Err Structure) k r n e = absurd (let z : ◌≡◌ {A = ℕ} 0 1 = cc in omega arith)
read_got (Err Validity) k r n e = absurd (let z : ◌≡◌ {A = ℕ} 0 1 = cc in omega arith)

not_yes : (t : Bool) → not t ≡ true → t ≡ false
not_yes true e = sym e
not_yes false e = refl

got_same : {R : Type 0} (r r' : R) (n n' : ℕ) → got r n ≡ got r' n' → (r ≡ r') × (n ≡ n')
got_same r r' n n' e = (cc, cc)

module _ (l : Layout) where
  -- ---- one row

  -- what a row that passes the check says
  pub record RowOk (s : List ℕ) (i at : ℕ) (f : Fields) (next : ℕ) : Type 0 where
    pub inside : at + row_length s (row_place l i) ≤ length s
    pub reads : reading (part s at (row_length s (row_place l i))) ≡ Ok f
    pub fits : row_fits l s (row_place l i) at f ≡ true
    pub new : id_among l s (row_id s (row_place l i)) i ≡ false
    pub end : next ≡ at + row_length s (row_place l i)

  -- a row that is answered passes the check
  pub row_is : (s : List ℕ) (i at : ℕ) (f : Fields) (next : ℕ) → got f next ≡ row_at l s i at → RowOk s i at f next
  unfolding row_at
  row_is s i at f next e =
      let n : ℕ = row_length s (row_place l i) in
      let a = guard_got (leb (at + n) (length s)) _ f next e in
      let b = read_got (reading (part s at n)) _ f next a.1 in
      let c = guard_got (row_fits l s (row_place l i) at b.0) _ f next b.2 in
      let d = guard_got (not (id_among l s (row_id s (row_place l i)) i)) _ f next c.1 in
      let g = got_same f b.0 next (at + n) d.1 in
      record {
        inside = leb→le (at + n) (length s) (subst T (sym a.0) tt);
        reads = b.1 ∙ ap Ok (sym g.0);
        fits = ap (row_fits l s (row_place l i) at) g.0 ∙ c.0;
        new = not_yes (id_among l s (row_id s (row_place l i)) i) d.0;
        end = g.1;
      }

  -- the next body begins after this one, within the bytes
  pub row_next : (s : List ℕ) (i at : ℕ) (f : Fields) (next : ℕ) → got f next ≡ row_at l s i at
      → (next ≡ at + row_length s (row_place l i)) × (next ≤ length s)
  row_next s i at f next e = let k = row_is s i at f next e in (k.end, omega (arith, k.inside, k.end))

  -- ---- the ids of the rows before

  -- where the last row has another id, the rows before it count
  pub among_suc : (s id : List ℕ) (j : ℕ) → same (row_id s (row_place l j)) id ≡ false → id_among l s id (suc j) ≡ id_among l s id j
  unfolding id_among
  among_suc s id j e = rw (e, id_among)

  -- where the last row has the id, it is among them
  pub hit_suc : (s id : List ℕ) (j : ℕ) → same (row_id s (row_place l j)) id ≡ true → id_among l s id (suc j) ≡ true
  unfolding id_among
  hit_suc s id j e = rw (e, id_among)
