-- The check of all rows says that the rows and the bodies of a list stand, both ways (specs/Check.antt). Assumes nothing.
use mathlib.Core.Path.{◌≡◌, refl, sym, ap, ap₂, ◌∙◌, subst}
use mathlib.Core.List.{List, [], ◌∷◌, ◌++◌}
use Prim.Native.Nat.{ℕ, zero, suc, ◌+◌, ◌*◌, ◌≤◌, ◌<◌}
use native.Mathlib.Omega.{arith}
use native.Mathlib.Nat.{add-zero}
use lib.ListN.{length, length-append}
use Rattle.octets.specs.Bytes.{AreBytes, part, Has, same}
use Rattle.exact.specs.Reads.{Got, got, refused, bind, AllFrom}
use Rattle.octets.proofs.BytesLaws.{has_left, has_right, has_join, has_nil, has_part, has_after, has_both}
use Rattle.exact.proofs.ReadsLaws.{bind_got}
use Rattle.descriptor_spec.specs.declared.Fields.{Fields}
use Rattle.image_spec.specs.Check.{Held, row_id, row_offset, row_length, row_at, held_with, rows_from, rows_held_from}
use Rattle.image_spec.specs.declared.layout.Layout.{Layout}
use Rattle.image_spec.specs.Layout.{row_size, row_place, LayoutOk}
use Rattle.image_spec.specs.Image.{Row, reading, id_of, row, rows_of, joined, BodyOk, seen_with, Every, MomentOk}
use Rattle.image_spec.proofs.BodyLaws.{read_in}
use Rattle.image_spec.proofs.RowPlaceLaws.{place_next, place_order}
use Rattle.image_spec.proofs.RowLaws.{id_length, row_length_lem, row_parts, RowSays}
use Rattle.image_spec.proofs.ListLaws.{read_is, is_read_lem}
use Rattle.image_spec.proofs.HeldLaws.{held_after, held_from}
use Rattle.image_spec.proofs.CheckLaws.{Past, past_more, Stands, row_sound, stands_says, row_complete}

-- what is answered after a reader was answered of what it read
bind_is : {R Q : Type 0} (o : Got R) (k : R → ℕ → Got Q) (q : Q) (n : ℕ) → got q n ≡ bind o k
    → (r : R) × (m : ℕ) × (got r m ≡ o) × (got q n ≡ k r m)
unfolding bind
bind_is (got r m) k q n e = (r, m, refl, e)
bind_is refused k q n e = absurd (let z : ◌≡◌ {A = ℕ} 0 1 = cc in omega arith)

-- equal answers have equal places
place_same : (h h' : Held) (n n' : ℕ) → got h n ≡ got h' n' → n ≡ n'
place_same h h' n n' e = cc

module _ (l : Layout) (ok : LayoutOk l) where
  -- the rows of the bodies stand from row i on, and the bodies from `at` on; they are allowed after those of `seen`
  pub record Run (s : List ℕ) (seen : List Row) (i at : ℕ) (bs : List Row) : Type 0 where
    pub each : AllFrom BodyOk seen_with seen bs
    pub moments : Every (MomentOk l) bs
    pub has_rows : Has s (row_place l i) (rows_of l at bs)
    pub has_bodies : Has s at (joined bs)

  -- no body stands everywhere
  pub run_none : (s : List ℕ) (seen : List Row) (i at : ℕ) → Run s seen i at []
  unfolding rows_of joined
  run_none s seen i at = record { each = tt; moments = tt; has_rows = has_nil s (row_place l i); has_bodies = has_nil s at }

  -- the first body stands with its row
  pub run_first : (s : List ℕ) (seen : List Row) (i at : ℕ) (b : Row) (bs : List Row) → Run s seen i at (b ∷ bs)
      → (f : Fields) × (Stands l ok) s seen i at b f
  unfolding rows_of joined
  run_first s seen i at b bs g =
      let r = read_is b.body g.each.0.reads in (
        r.0,
        record {
          reads = r.1;
          new = g.each.0.new;
          dated = g.moments.0;
          has_row = has_left s (row_place l i) (row l at b) (rows_of l (at + length b.body) bs) g.has_rows;
          has_body = has_left s at b.body (joined bs) g.has_bodies;
        },
      )

  -- the others stand after it
  pub run_rest : (s : List ℕ) (seen : List Row) (i at : ℕ) (b : Row) (bs : List Row) → Run s seen i at (b ∷ bs)
      → Run s (seen ++ (b ∷ [])) (i + 1) (at + length b.body) bs
  unfolding rows_of joined
  run_rest s seen i at b bs g = record {
    each = g.each.1;
    moments = g.moments.1;
    has_rows = has_after s (row_place l i) (row_size l) (row_place l (i + 1)) (row l at b) (rows_of l (at + length b.body) bs)
        (row_length_lem l ok at b) (sym (place_next l i))
        g.has_rows;
    has_bodies = has_right s at b.body (joined bs) g.has_bodies;
  }

  -- a body that stands with its row, and others after it
  pub run_more : (s : List ℕ) (seen : List Row) (i at : ℕ) (b : Row) (f : Fields) (bs : List Row) → Stands l ok s seen i at b f
      → Run s (seen ++ (b ∷ [])) (i + 1) (at + length b.body) bs → Run s seen i at (b ∷ bs)
  unfolding rows_of joined
  run_more s seen i at b f bs h g = record {
    each = (record { reads = is_read_lem b.body f h.reads; new = h.new }, g.each);
    moments = (h.dated, g.moments);
    has_rows = has_both s (row_place l i) (row_size l) (row_place l (i + 1)) (row l at b) (rows_of l (at + length b.body) bs)
        (row_length_lem l ok at b) (sym (place_next l i))
        h.has_row g.has_rows;
    has_bodies = has_join s at b.body (joined bs) h.has_body g.has_bodies;
  }

  -- ---- from the check to the bodies

  -- the row of a body that stands has its id
  row_names : (s : List ℕ) (seen : List Row) (i at : ℕ) (b : Row) (f : Fields) → Stands l ok s seen i at b f
      → row_id s (row_place l i) ≡ id_of b.body
  row_names s seen i at b f h =
      ap (part s (row_place l i)) (sym (id_length b.body)) ∙ has_part s (row_place l i) (id_of b.body)
      (row_parts l ok s (row_place l i) at b h.has_row).id

  -- k rows that pass the check are those of k bodies that stand
  pub rows_sound : (s id : List ℕ) → AreBytes s → (k : ℕ) (seen : List Row) (i at end : ℕ) (h h' : Held) → Past l ok s seen i
      → (n : ℕ) → i + k ≡ n → row_place l n ≤ length s
      → got h' end ≡ rows_from l s id k i at h
      → (bs : List Row) × (length bs ≡ k) × Run s seen i at bs × (end ≡ at + length (joined bs))
  unfolding rows_from joined
  rows_sound s id bytes zero seen i at end h h' p n all room e =
      ([], refl, run_none s seen i at, place_same h' h end at e ∙ sym (add-zero at))
  rows_sound s id bytes (suc k) seen i at end h h' p n all room e =
      let o = bind_is (row_at l s i at) _ h' end e in
      let f : Fields = o.0 in
      let next : ℕ = o.1 in
      let x = row_sound l ok s seen i at f next bytes (omega (arith, place_order l i n (omega arith))) p o.2 in
      let b : Row = x.0 in
      let w : Stands l ok s seen i at b f = x.1 in
      let mine : row_id s (row_place l i) ≡ id_of b.body = row_names s seen i at b f w in
      let y = rows_sound s id bytes k (seen ++ (b ∷ [])) (i + 1) next end _ h' (past_more l ok s seen i b p mine) n (omega arith) room
      o.3 in
      let bs : List Row = y.0 in
      let g : Run s (seen ++ (b ∷ [])) (i + 1) (at + length b.body) bs
      = subst (λ (a : ℕ). Run s (seen ++ (b ∷ [])) (i + 1) a bs) x.2 y.2 in
      (b ∷ bs, omega (arith, y.1), run_more s seen i at b f bs w g, omega (arith, x.2, y.3, length-append b.body (joined bs)))

  -- ---- from the bodies to the check

  -- the rows of bodies that stand pass the check; what is held is what is held of the bodies
  pub rows_complete : (s id : List ℕ) (bs seen : List Row) (i at : ℕ) (h : Held) → at + 32768 * length bs < 4294967296
      → Past l ok s seen i → Run s seen i at bs
      → rows_from l s id (length bs) i at h ≡ got (held_from id i at h bs) (at + length (joined bs))
  unfolding rows_from held_from joined
  rows_complete s id [] seen i at h small p g = ap (got h) (sym (add-zero at))
  rows_complete s id (b ∷ bs) seen i at h small p g =
      let x = run_first s seen i at b bs g in
      let f : Fields = x.0 in
      let w : Stands l ok s seen i at b f = x.1 in
      let q : RowSays l ok s (row_place l i) at b = stands_says l ok s seen i at b f (omega arith) w in
      let short : length b.body ≤ 32768 = (read_in b.body f w.reads).short in
      let next : ℕ = at + length b.body in
      let held : held_with (same (row_id s (row_place l i)) id) h i at (row_length s (row_place l i)) f
      ≡ held_after (same (id_of b.body) id) h i at
      (length b.body) (reading b.body)
      = ap₂ (λ (y : List ℕ) (n : ℕ). held_with (same y id) h i at n f) q.id q.size
      ∙ ap (held_after (same (id_of b.body) id) h i at (length b.body)) (sym w.reads) in
      let end : next + length (joined bs) ≡ at + length (b.body ++ joined bs) = omega (arith, length-append b.body (joined bs)) in
      bind_got (row_at l s i at) _ f next (row_complete l ok s seen i at b f (omega arith) p w)
      ∙ ap (rows_from l s id (length bs) (i + 1) next) held
      ∙ rows_complete s id bs (seen ++ (b ∷ [])) (i + 1) next _ (omega arith) (past_more l ok s seen i b p q.id)
      (run_rest s seen i at b bs g)
      ∙ ap (got (held_from id i at h (b ∷ bs))) end

  -- the parts that the rows of bodies that stand name are the bodies
  pub rows_bodies : (s : List ℕ) (bs seen : List Row) (i at : ℕ) → at + 32768 * length bs < 4294967296 → Run s seen i at bs
      → rows_held_from l s (length bs) i ≡ bs
  unfolding rows_held_from
  rows_bodies s [] seen i at small g = refl
  rows_bodies s (b ∷ bs) seen i at small g =
      let x = run_first s seen i at b bs g in
      let w : Stands l ok s seen i at b x.0 = x.1 in
      let q : RowSays l ok s (row_place l i) at b = stands_says l ok s seen i at b x.0 (omega arith) w in
      let short : length b.body ≤ 32768 = (read_in b.body x.0 w.reads).short in
      let e : part s (row_offset s (row_place l i)) (row_length s (row_place l i)) ≡ b.body
      = ap₂ (part s) q.offset q.size ∙ has_part s at b.body w.has_body in
      ap₂ (λ (y : Row) (ys : List Row). y ∷ ys)
      (ap₂ (λ (y : List ℕ) (t : ℕ). record { body = y; used = t }) e q.moment)
      (rows_bodies s bs (seen ++ (b ∷ [])) (i + 1) (at + length b.body) (omega arith) (run_rest s seen i at b bs g))
