-- What is allowed (specs/Allowed.antt) is what lies within the limits of specs/Promises.antt, and the other way about. Assumes nothing.
use mathlib.Core.Path.{◌≡◌, refl, sym, ◌∙◌, subst}
use mathlib.Core.Bool.{Bool, true, false, ◌||◌, false≢true}
use mathlib.Core.List.{List, [], ◌∷◌, ◌++◌}
use mathlib.Core.Option.{Option, none, some}
use Prim.Native.Nat.{ℕ, zero, suc, ◌^◌, ◌≤◌, ◌<◌}
use native.Mathlib.Omega.{arith}
use lib.ListN.{length, take}
use lib.Dec.{leb, ltb, eqb}
use borrow.Author.Tests.{leb-true, le-leb, eqb-false, ne_eqb}
use Rattle.resource_spec.specs.Identifier.{terminal_size}
use Rattle.cbor_item_spec.specs.Encoding.{head}
use Rattle.exact.specs.Reads.{OptOk, AllFrom}
use Rattle.octets.proofs.Tests.{by_cond, and_left, and_right, and_both}
use Rattle.resource_spec.specs.Text.{is_pattern, longest_text, pattern_ok}
use Rattle.entries_spec.specs.Model.{Pair}
use Rattle.entries_spec.specs.Allowed.{TextOk, PairOk, key_of, PairsOk}
use Rattle.descriptor_spec.specs.Model.{Grant, Descriptor}
use Rattle.descriptor_spec.specs.Allowed.{is_in, ModeOk, seen_with, ModesOk, GrantOk, All, Formed}
use Rattle.octets.specs.Order.{before}
use Rattle.descriptor_spec.specs.Promises.{text, Each, EachTwo, TextWithin, PairsWithin, ModesWithin, GrantWithin, Within}
use Rattle.descriptor_spec.specs.Promises.{AllowedExactly}
use Rattle.descriptor_spec.proofs.encoding.OrderLaws.{empty_before, two_ascend}
use Rattle.descriptor_spec.proofs.places.SeenLaws.{all_get}

-- ---- lists

module _ {X : Type 0} where
  -- what holds of all elements holds of each
  all_each : (P : X → Type 0) (xs : List X) → All P xs → Each P xs
  all_each P xs a i x l e = subst P e (all_get P xs i x l a)

  -- and the other way about
  each_all : (P : X → Type 0) (xs : List X) → Each P xs → All P xs
  each_all P [] f = tt
  each_all P (x ∷ xs) f = (f 0 x (omega arith) refl, each_all P xs (λ i y l e. f (suc i) y (omega arith) e))

  -- each element behind the first
  each_rest : (P : X → Type 0) (x : X) (xs : List X) → Each P (x ∷ xs) → Each P xs
  each_rest P x xs f i y l e = f (suc i) y (omega arith) e

  -- each two behind the first
  two_rest : (R : X → X → Type 0) (x : X) (xs : List X) → EachTwo R (x ∷ xs) → EachTwo R xs
  two_rest R x xs f i j y z l m e g = f (suc i) (suc j) y z (omega arith) (omega arith) e g

  -- the first with each behind it
  two_first : (R : X → X → Type 0) (x : X) (xs : List X) → EachTwo R (x ∷ xs) → Each (R x) xs
  two_first R x xs f j z l e = f 0 (suc j) x z (omega arith) (omega arith) refl e

-- what holds of all elements, by another name
all_map : {X : Type 0} {P Q : X → Type 0} (xs : List X) → ((x : X) → P x → Q x) → All P xs → All Q xs
all_map [] f a = tt
all_map (x ∷ xs) f a = (f x a.0, all_map xs f a.1)

-- what holds of an optional value, by another name
opt_map : {X : Type 0} {P Q : X → Type 0} → ((x : X) → P x → Q x) → (o : Option X) → OptOk P o → OptOk Q o
opt_map f none a = tt
opt_map f (some x) a = f x a

-- ---- texts

text_within : (lo hi : ℕ) (c : List ℕ) → TextOk lo hi c → TextWithin lo hi c
text_within lo hi c q = record { least = q.least; most = q.most; valid = q.valid }

within_text : (lo hi : ℕ) (c : List ℕ) → TextWithin lo hi c → TextOk lo hi c
within_text lo hi c q = record { least = q.least; most = q.most; valid = q.valid }

-- ---- pairs

-- the empty list stands before every text
before_text : (c : List ℕ) → before [] (text c) ≡ true
unfolding head
before_text c =
    let n : ℕ = length c in
    let P : List ℕ → Type 0 = λ l. before [] (l ++ c) ≡ true in
    by_cond P (ltb n 24) (λ t. empty_before _ _)
    (λ t. by_cond P (ltb n (2 ^ 8)) (λ u. empty_before _ _)
    (λ u. by_cond P (ltb n (2 ^ 16)) (λ v. empty_before _ _)
    (λ v. by_cond P (ltb n (2 ^ 32)) (λ w. empty_before _ _) (λ w. empty_before _ _))))

-- the texts of allowed pairs
keys_each : (last : List ℕ) (ps : List Pair) → AllFrom PairOk key_of last ps → All (λ (p : Pair). TextWithin 1 64 p.key) ps
keys_each last [] a = tt
keys_each last (p ∷ ps) a = (text_within 1 64 p.key a.0.key, keys_each (text p.key) ps a.1)

values_each : (last : List ℕ) (ps : List Pair) → AllFrom PairOk key_of last ps → All (λ (p : Pair). TextWithin 0 256 p.value) ps
values_each last [] a = tt
values_each last (p ∷ ps) a = (text_within 0 256 p.value a.0.value, values_each (text p.key) ps a.1)

-- pairs whose texts are right, whose keys stand after the last one before them and ascend, are allowed one after the other
each_pair : (last : List ℕ) (ps : List Pair)
    → Each (λ (p : Pair). TextWithin 1 64 p.key) ps
    → Each (λ (p : Pair). TextWithin 0 256 p.value) ps
    → Each (λ (p : Pair). before last (text p.key) ≡ true) ps
    → EachTwo (λ (p q : Pair). before (text p.key) (text q.key) ≡ true) ps
    → AllFrom PairOk key_of last ps
each_pair last [] k v b o = tt
each_pair last (p ∷ ps) k v b o = (
  record {
    key = within_text 1 64 p.key (k 0 p (omega arith) refl);
    value = within_text 0 256 p.value (v 0 p (omega arith) refl);
    ascends = b 0 p (omega arith) refl;
  },
  each_pair (text p.key) ps (each_rest _ p ps k) (each_rest _ p ps v) (two_first _ p ps o) (two_rest _ p ps o),
)

pairs_within : (most : ℕ) (ps : List Pair) → PairsOk most ps → PairsWithin most ps
pairs_within most ps q =
    record {
      few = q.few;
      keys = all_each _ ps (keys_each [] ps q.each);
      values = all_each _ ps (values_each [] ps q.each);
      order = two_ascend [] ps q.each;
    }

within_pairs : (most : ℕ) (ps : List Pair) → PairsWithin most ps → PairsOk most ps
within_pairs most ps q = record { few = q.few; each = each_pair [] ps q.keys q.values (λ i p l e. before_text p.key) q.order }

-- ---- modes

-- neither of two tests holds
neither : (a b : Bool) → (a || b) ≡ false → (a ≡ false) × (b ≡ false)
neither true b e = absurd (false≢true (sym e))
neither false b e = (refl, e)

-- a mode is not among others exactly when it is not the first and not among the rest
not_in : (m x : ℕ) (xs : List ℕ) → is_in m (x ∷ xs) ≡ false → (x ≡ m → ⊥) × (is_in m xs ≡ false)
unfolding is_in
not_in m x xs e = let r = neither (eqb m x) (is_in m xs) e in (λ s. eqb-false m x r.0 (sym s), r.1)

in_not : (m x : ℕ) (xs : List ℕ) → (x ≡ m → ⊥) → is_in m xs ≡ false → is_in m (x ∷ xs) ≡ false
unfolding is_in
in_not m x xs f e = rw (ne_eqb m x (λ s. f (sym s)), e)

-- no mode is among none
in_none : (m : ℕ) → is_in m [] ≡ false
unfolding is_in
in_none m = refl

-- allowed modes are among the four
modes_known : (seen ms : List ℕ) → AllFrom ModeOk seen_with seen ms → All (λ (m : ℕ). m < 4) ms
modes_known seen [] a = tt
modes_known seen (m ∷ ms) a = (a.0.known, modes_known (m ∷ seen) ms a.1)

-- and not among those before them
modes_new : (seen ms : List ℕ) → AllFrom ModeOk seen_with seen ms → All (λ (m : ℕ). is_in m seen ≡ false) ms
modes_new seen [] a = tt
modes_new seen (m ∷ ms) a = (a.0.new, all_map ms (λ n e. (not_in n m seen e).1) (modes_new (m ∷ seen) ms a.1))

-- so none stands twice
modes_once : (seen ms : List ℕ) → AllFrom ModeOk seen_with seen ms → EachTwo (λ (m n : ℕ). m ≡ n → ⊥) ms
modes_once seen [] a i j m n l k e f = absurd (omega arith)
modes_once seen (x ∷ ms) a i zero m n l k e f = absurd (omega arith)
modes_once seen (x ∷ ms) a zero (suc j) m n l k e f =
    λ s. (not_in n x seen (all_each _ ms (modes_new (x ∷ seen) ms a.1) j n (omega arith) f)).0 (e ∙ s)
modes_once seen (x ∷ ms) a (suc i) (suc j) m n l k e f = modes_once (x ∷ seen) ms a.1 i j m n (omega arith) (omega arith) e f

-- modes of the four, none among those before them and none twice, are allowed one after the other
each_mode : (seen ms : List ℕ) → Each (λ (m : ℕ). m < 4) ms → Each (λ (m : ℕ). is_in m seen ≡ false) ms → EachTwo (λ (m n : ℕ). m ≡ n → ⊥) ms
    → AllFrom ModeOk seen_with seen ms
each_mode seen [] k f o = tt
each_mode seen (m ∷ ms) k f o = (
  record { known = k 0 m (omega arith) refl; new = f 0 m (omega arith) refl },
  each_mode (m ∷ seen) ms (each_rest _ m ms k) (λ i n l e. in_not n m seen (two_first _ m ms o i n l e) (each_rest _ m ms f i n l e))
      (two_rest _ m ms o),
)

modes_within : (ms : List ℕ) → ModesOk ms → ModesWithin ms
modes_within ms q =
    record { least = q.least; most = q.most; known = all_each _ ms (modes_known [] ms q.each); once = modes_once [] ms q.each }

within_modes : (ms : List ℕ) → ModesWithin ms → ModesOk ms
within_modes ms q = record { least = q.least; most = q.most; each = each_mode [] ms q.known (λ i m l e. in_none m) q.once }

-- ---- grants

-- a pattern that may enter is one of at most 256 bytes
pattern_within : (p : List ℕ) → pattern_ok p ≡ true → (is_pattern p ≡ true) × (length p ≤ 256)
unfolding pattern_ok
pattern_within p e = (
  and_right (leb (length p) longest_text) (is_pattern p) e,
  leb-true (length p) longest_text
      (and_left (leb (length p) longest_text) (is_pattern p) e),
)

within_pattern : (p : List ℕ) → is_pattern p ≡ true → length p ≤ 256 → pattern_ok p ≡ true
unfolding pattern_ok
within_pattern p e l = and_both (leb (length p) longest_text) (is_pattern p) (le-leb (length p) longest_text l) e

pub grant_within : (t : List ℕ) (g : Grant) → GrantOk g → take terminal_size g.pattern ≡ t → GrantWithin t g
grant_within t g q o =
    let p = pattern_within g.pattern q.pattern in
    record {
      modes = modes_within g.modes q.modes;
      constraints = opt_map (pairs_within 8) g.constraints q.constraints;
      pattern = p.0;
      short = p.1;
      terminal = o;
    }

pub within_grant : (t : List ℕ) (g : Grant) → GrantWithin t g → GrantOk g
within_grant t g q =
    record {
      modes = within_modes g.modes q.modes;
      constraints = opt_map (within_pairs 8) g.constraints q.constraints;
      pattern = within_pattern g.pattern q.pattern q.short;
    }

-- ---- the whole

formed_within : (d : Descriptor) → Formed d → Within d
formed_within d q =
    let p = q.payload in
    record {
      short = q.short;
      least = p.least;
      most = p.most;
      grants = λ i g l e. grant_within d.payload.terminal g (all_each GrantOk d.payload.grants p.grants i g l e)
          (all_each _ d.payload.grants p.patterns i g l e);
      metadata = opt_map (pairs_within 16) d.payload.metadata p.metadata;
      issued = p.issued_at;
      issuer = text_within 1 128 d.payload.issuer p.issuer;
      until = p.not_after;
      grantor = opt_map (text_within 1 128) d.payload.grantor p.grantor;
      since = p.not_before;
      terminal = p.terminal;
      id = p.id;
      fay = p.fay;
      begins = p.issued;
      lasts = p.lasts;
      key = text_within 1 64 d.signature.key_id q.signature.key_id;
      value = q.signature.value;
    }

within_formed : (d : Descriptor) → Within d → Formed d
within_formed d q =
    let gs : List Grant = d.payload.grants in
    record {
      payload = record {
        least = q.least;
        most = q.most;
        grants = each_all GrantOk gs (λ i g l e. within_grant d.payload.terminal g (q.grants i g l e));
        metadata = opt_map (within_pairs 16) d.payload.metadata q.metadata;
        issued_at = q.issued;
        issuer = within_text 1 128 d.payload.issuer q.issuer;
        not_after = q.until;
        grantor = opt_map (within_text 1 128) d.payload.grantor q.grantor;
        not_before = q.since;
        terminal = q.terminal;
        id = q.id;
        fay = q.fay;
        patterns = each_all _ gs (λ i g l e. (q.grants i g l e).terminal);
        issued = q.begins;
        lasts = q.lasts;
      };
      signature = record { key_id = within_text 1 64 d.signature.key_id q.key; value = q.value };
      short = q.short;
    }

pub allowed_exactly : AllowedExactly
allowed_exactly d = (
  (λ a. (formed_within d a.formed, a.period), λ w. record { formed = within_formed d w.0; period = w.1 }),
  (formed_within d, within_formed d),
)
