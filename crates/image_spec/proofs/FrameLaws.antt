-- What writes to two stretches of bytes leave alone. Assumes nothing.
use mathlib.Core.Path.{◌≡◌, refl, ◌∙◌}
use mathlib.Core.List.{List}
use Prim.Native.Nat.{ℕ, ◌+◌, ◌≤◌}
use native.Mathlib.Omega.{arith}
use lib.ListN.{length, drop}
use Rattle.octets.specs.Bytes.{Has}
use Rattle.octets.proofs.OverLaws.{Kept, kept_has}

-- d' is d but for the bytes from a up to b and those from c up to e
pub record KeptTwo (d d' : List ℕ) (a b c e : ℕ) : Type 0 where
  pub long : length d' ≡ length d
  pub before : (p : ℕ) (t : List ℕ) → p + length t ≤ a → Has d p t → Has d' p t
  pub between : (p : ℕ) (t : List ℕ) → b ≤ p → p + length t ≤ c → Has d p t → Has d' p t
  pub after : (p : ℕ) → e ≤ p → drop p d' ≡ drop p d

-- what is not written is kept
pub two_self : (d : List ℕ) (a b c e : ℕ) → KeptTwo d d a b c e
two_self d a b c e = record { long = refl; before = λ p t l k. k; between = λ p t l m k. k; after = λ p l. refl }

-- a write to the second stretch and then one to the first
pub two_writes : (d d' d'' : List ℕ) (a b c e : ℕ) → Kept d d' c e → Kept d' d'' a b → a ≤ b → b ≤ c → c ≤ e → KeptTwo d d'' a b c e
two_writes d d' d'' a b c e k l h i j = record {
  long = l.long ∙ k.long;
  before = λ p t w x. l.before p t w (k.before p t (omega arith) x);
  between = λ p t v w x. kept_has d' d'' a b p t l v (k.before p t w x);
  after = λ p w. l.after p (omega arith) ∙ k.after p w;
}

-- two changes within the same bounds are one
pub two_join : (d d' d'' : List ℕ) (a b c e a' b' c' e' A B C E : ℕ) → KeptTwo d d' a b c e → KeptTwo d' d'' a' b' c' e'
    → (A ≤ a) × (A ≤ a') × (b ≤ B) × (b' ≤ B) × (C ≤ c) × (C ≤ c') × (e ≤ E) × (e' ≤ E)
    → KeptTwo d d'' A B C E
two_join d d' d'' a b c e a' b' c' e' A B C E k l h = record {
  long = l.long ∙ k.long;
  before = λ p t w x. l.before p t (omega arith) (k.before p t (omega arith) x);
  between = λ p t v w x. l.between p t (omega arith) (omega arith) (k.between p t (omega arith) (omega arith) x);
  after = λ p w. l.after p (omega arith) ∙ k.after p (omega arith);
}
